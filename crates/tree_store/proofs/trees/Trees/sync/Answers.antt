use Rattle.std.proofs.Common.{◌+◌}
use Rattle.store_model.specs.Stores.{StoreValue, synchronised_store}
use Rattle.store_model.specs.Systems.{store_at}
use Rattle.tree_store.specs.Calls.{ActsAt}
use Rattle.tree_store.specs.Naming.{HasFile}
use Rattle.tree_store.specs.Stored.{row_of}
use Rattle.tree_store.specs.declared.store.TreeStore.{TreeStore}
use Rattle.tree_store.proofs.Lent.{acts-at, at-lent, done-at, lent, lent-at, lent-holds, lent-stored, passes-at, stored-ok}
use Rattle.tree_store.proofs.trees.Trees.sync.Goals as goal

pub sync-requires-clause-stored : goal.sync-requires-clause-stored
sync-requires-clause-stored g c =
    let trees = c.self.inside.stores.items in
    let k = c.args.tree in
    let s = c.index_mut.result.now in
    let o = g.R.Rig.state c.args.rig.now in
    let is = lent g.R.Rig.tells_view o trees c.args.self.now k s c.self.view_is c.requires.ready c.index_mut.ensures.value in
    lent-stored g.R.Rig.tells_view g.R.Rig.keeps_cuts o trees c.args.self.now k s is

pub sync-requires-clause-in_use : goal.sync-requires-clause-in_use
sync-requires-clause-in_use g c =
    let trees = c.self.inside.stores.items in
    let k = c.args.tree in
    let s = c.index_mut.result.now in
    let o = g.R.Rig.state c.args.rig.now in
    let is = lent g.R.Rig.tells_view o trees c.args.self.now k s c.self.view_is c.requires.ready c.index_mut.ensures.value in
    lent-at g.R.Rig.tells_view g.R.Rig.keeps_cuts o trees c.args.self.now k s is (λ (store : TreeStore). HasFile store c.args.file.0) c.requires.in_use

pub returns-clause-done : goal.returns-clause-done
returns-clause-done g c stores hold =
    let trees = c.self.inside.stores.items in
    let k = c.args.tree in
    let s = c.index_mut.result.now in
    let o = g.R.Rig.state c.args.rig.now in
    let is = lent g.R.Rig.tells_view o trees c.args.self.now k s c.self.view_is c.requires.ready c.index_mut.ensures.value in
    let e = g.R.Rig.state c.sync.new.rig in
    done-at g.R.Rig.tells_view g.R.Rig.keeps_cuts o trees c.args.self.now k s is e (g.met.R.Rig.sound c.args.rig.now) (g.met.R.Rig.sound c.sync.new.rig) c.sync.new.self ((row_of s).dirty + 4) 3 c.sync.ensures.acts stores ((λ (v : StoreValue). synchronised_store v c.args.file.0) (store_at stores k)) c.sync.result hold
    (c.sync.ensures.done (store_at stores k) (lent-holds g.R.Rig.tells_view g.R.Rig.keeps_cuts o trees c.args.self.now k s is stores hold))

pub returns-clause-moments : goal.returns-clause-moments
returns-clause-moments g c =
    let trees = c.self.inside.stores.items in
    let k = c.args.tree in
    let s = c.index_mut.result.now in
    let o = g.R.Rig.state c.args.rig.now in
    let is = lent g.R.Rig.tells_view o trees c.args.self.now k s c.self.view_is c.requires.ready c.index_mut.ensures.value in
    let e = g.R.Rig.state c.sync.new.rig in
    passes-at g.R.Rig.tells_view g.R.Rig.keeps_cuts o trees c.args.self.now k s is e (g.met.R.Rig.sound c.args.rig.now) (g.met.R.Rig.sound c.sync.new.rig) c.sync.new.self ((row_of s).dirty + 4) 3 c.sync.ensures.acts (λ (v : StoreValue). synchronised_store v c.args.file.0) c.sync.ensures.moments

pub returns-clause-stored : goal.returns-clause-stored
returns-clause-stored g c =
    let trees = c.self.inside.stores.items in
    let k = c.args.tree in
    let s = c.index_mut.result.now in
    let o = g.R.Rig.state c.args.rig.now in
    let is = lent g.R.Rig.tells_view o trees c.args.self.now k s c.self.view_is c.requires.ready c.index_mut.ensures.value in
    let e = g.R.Rig.state c.sync.new.rig in
    stored-ok g.R.Rig.tells_view g.R.Rig.keeps_cuts o trees c.args.self.now k s is e (g.met.R.Rig.sound c.args.rig.now) (g.met.R.Rig.sound c.sync.new.rig) c.sync.new.self ((row_of s).dirty + 4) 3 c.sync.ensures.acts c.sync.result c.sync.ensures.stored

pub returns-clause-acts : goal.returns-clause-acts
returns-clause-acts g c =
    let trees = c.self.inside.stores.items in
    let k = c.args.tree in
    let s = c.index_mut.result.now in
    let o = g.R.Rig.state c.args.rig.now in
    let is = lent g.R.Rig.tells_view o trees c.args.self.now k s c.self.view_is c.requires.ready c.index_mut.ensures.value in
    let e = g.R.Rig.state c.sync.new.rig in
    at-lent g.R.Rig.tells_view g.R.Rig.keeps_cuts o trees c.args.self.now k s is (λ (store : TreeStore). ActsAt g.R.Rig.tells_view ((row_of store).dirty + 4) 3 o e c.args.self.now _)
    (acts-at g.R.Rig.tells_view g.R.Rig.keeps_cuts o trees c.args.self.now k s is e (g.met.R.Rig.sound c.args.rig.now) (g.met.R.Rig.sound c.sync.new.rig) c.sync.new.self ((row_of s).dirty + 4) 3 c.sync.ensures.acts)
