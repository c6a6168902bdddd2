use Rattle.std.proofs.Common.{◌≡◌, ◌-◌, length, min}
use Rattle.std.specs.Prelude.{IfOk}
use Rattle.store_model.specs.Systems.{no_store, store_at}
use Rattle.tree_store.specs.Stored.{size_at, IsStored, Holds}
use Rattle.tree_store.specs.declared.store.TreeStore.{TreeStore}
use Rattle.tree_store.proofs.Lent.{hold-reads-all, same-tree, stored-reads-all}
use Rattle.tree_store.proofs.Together.{stored_in, zip_at}
use Rattle.tree_store.proofs.trees.Trees.read.Goals as goal

pub read-requires-clause-stored : goal.read-requires-clause-stored
read-requires-clause-stored g c =
    let trees = c.args.self.now in
    let k = c.args.tree in
    let s = c.get.result.now in
    let o = g.R.Rig.state c.args.rig.now in
    stored_in (IsStored g.R.Rig.tells_view o) trees k s c.requires.ready.stored c.get.ensures

pub read-requires-clause-in_use : goal.read-requires-clause-in_use
read-requires-clause-in_use g c =
    let trees = c.args.self.now in
    let k = c.args.tree in
    let s = c.get.result.now in
    let o = g.R.Rig.state c.args.rig.now in
    c.requires.in_use s c.get.ensures

pub returns-clause-count : goal.returns-clause-count
returns-clause-count g c =
    let trees = c.args.self.now in
    let k = c.args.tree in
    let s = c.get.result.now in
    let o = g.R.Rig.state c.args.rig.now in
    same-tree trees k s c.get.ensures (λ (store : TreeStore). IfOk c.read.result (λ n. n ≡ min (length c.args.into.now) (size_at store c.args.file.0 - c.args.from))) c.read.ensures.count

pub returns-clause-bytes : goal.returns-clause-bytes
returns-clause-bytes g c tells stores hold =
    let trees = c.args.self.now in
    let k = c.args.tree in
    let s = c.get.result.now in
    let o = g.R.Rig.state c.args.rig.now in
    c.read.ensures.bytes tells (store_at stores k) (zip_at (Holds g.R.Rig.tells_view o) (Holds g.R.Rig.tells_view o) trees stores k s no_store hold c.get.ensures)

pub returns-clause-stored : goal.returns-clause-stored
returns-clause-stored g c =
    let trees = c.args.self.now in
    let k = c.args.tree in
    let s = c.get.result.now in
    let o = g.R.Rig.state c.args.rig.now in
    let e = g.R.Rig.state c.read.new.rig in
    stored-reads-all g.R.Rig.tells_view g.R.Rig.keeps_cuts o e (g.met.R.Rig.sound c.args.rig.now) (g.met.R.Rig.sound c.read.new.rig) trees c.requires.ready.stored c.read.ensures.reads

pub returns-clause-held : goal.returns-clause-held
returns-clause-held g c =
    let trees = c.args.self.now in
    let k = c.args.tree in
    let s = c.get.result.now in
    let o = g.R.Rig.state c.args.rig.now in
    let e = g.R.Rig.state c.read.new.rig in
    hold-reads-all g.R.Rig.tells_view g.R.Rig.keeps_cuts o e (g.met.R.Rig.sound c.args.rig.now) (g.met.R.Rig.sound c.read.new.rig) trees c.requires.ready.stored c.read.ensures.reads
