use Rattle.std.proofs.Common.{◌≡◌, Some}
use Rattle.std.specs.Prelude.{IfOk}
use Rattle.apex_model.specs.Handles.{free_from}
use Rattle.store_model.specs.Stores.{StoreValue}
use Rattle.store_model.specs.Systems.{store_at}
use Rattle.tree_store.specs.Answers.{directory_refusal, made_directory}
use Rattle.tree_store.specs.Naming.{HasDirectory, IsFree, IsShallow}
use Rattle.tree_store.specs.Stored.{names_of}
use Rattle.tree_store.specs.declared.store.TreeStore.{TreeStore}
use Rattle.tree_store.proofs.Lent.{acts-at, answer-at, at-lent, lent, lent-at, lent-holds, lent-stored, passes-at, stored-unless}
use Rattle.tree_store.proofs.Naming.{four-made}
use Rattle.tree_store.proofs.trees.Trees.make_dir.Goals as goal

pub make_dir-requires-clause-stored : goal.make_dir-requires-clause-stored
make_dir-requires-clause-stored g c =
    let trees = c.self.inside.stores.items in
    let k = c.args.tree in
    let s = c.index_mut.result.now in
    let o = g.R.Rig.state c.args.rig.now in
    let is = lent g.R.Rig.tells_view o trees c.args.self.now k s c.self.view_is c.requires.ready c.index_mut.ensures.value in
    lent-stored g.R.Rig.tells_view g.R.Rig.keeps_cuts o trees c.args.self.now k s is

pub make_dir-requires-clause-in_use : goal.make_dir-requires-clause-in_use
make_dir-requires-clause-in_use g c =
    let trees = c.self.inside.stores.items in
    let k = c.args.tree in
    let s = c.index_mut.result.now in
    let o = g.R.Rig.state c.args.rig.now in
    let is = lent g.R.Rig.tells_view o trees c.args.self.now k s c.self.view_is c.requires.ready c.index_mut.ensures.value in
    lent-at g.R.Rig.tells_view g.R.Rig.keeps_cuts o trees c.args.self.now k s is (λ (store : TreeStore). HasDirectory store c.args.parent.0) c.requires.in_use

pub make_dir-requires-clause-few : goal.make_dir-requires-clause-few
make_dir-requires-clause-few g c =
    let trees = c.self.inside.stores.items in
    let k = c.args.tree in
    let s = c.index_mut.result.now in
    let o = g.R.Rig.state c.args.rig.now in
    let is = lent g.R.Rig.tells_view o trees c.args.self.now k s c.self.view_is c.requires.ready c.index_mut.ensures.value in
    lent-at g.R.Rig.tells_view g.R.Rig.keeps_cuts o trees c.args.self.now k s is (λ (store : TreeStore). IsShallow store c.args.parent.0 c.args.name) c.requires.few

pub make_dir-requires-clause-free : goal.make_dir-requires-clause-free
make_dir-requires-clause-free g c =
    let trees = c.self.inside.stores.items in
    let k = c.args.tree in
    let s = c.index_mut.result.now in
    let o = g.R.Rig.state c.args.rig.now in
    let is = lent g.R.Rig.tells_view o trees c.args.self.now k s c.self.view_is c.requires.ready c.index_mut.ensures.value in
    lent-at g.R.Rig.tells_view g.R.Rig.keeps_cuts o trees c.args.self.now k s is (λ (store : TreeStore). IsFree store c.args.parent.0 c.args.name) c.requires.free

pub returns-clause-answer : goal.returns-clause-answer
returns-clause-answer g c stores hold =
    let trees = c.self.inside.stores.items in
    let k = c.args.tree in
    let s = c.index_mut.result.now in
    let o = g.R.Rig.state c.args.rig.now in
    let is = lent g.R.Rig.tells_view o trees c.args.self.now k s c.self.view_is c.requires.ready c.index_mut.ensures.value in
    let e = g.R.Rig.state c.make_dir.new.rig in
    answer-at g.R.Rig.tells_view g.R.Rig.keeps_cuts o trees c.args.self.now k s is e (g.met.R.Rig.sound c.args.rig.now) (g.met.R.Rig.sound c.make_dir.new.rig) c.make_dir.new.self 4 3 c.make_dir.ensures.acts (directory_refusal (store_at stores k)) stores ((λ (v : StoreValue). made_directory v c.args.parent.0 c.args.name) (store_at stores k)) _ ⊥ c.make_dir.result hold
    (c.make_dir.ensures.answer (store_at stores k) (lent-holds g.R.Rig.tells_view g.R.Rig.keeps_cuts o trees c.args.self.now k s is stores hold))

pub returns-clause-moments : goal.returns-clause-moments
returns-clause-moments g c =
    let trees = c.self.inside.stores.items in
    let k = c.args.tree in
    let s = c.index_mut.result.now in
    let o = g.R.Rig.state c.args.rig.now in
    let is = lent g.R.Rig.tells_view o trees c.args.self.now k s c.self.view_is c.requires.ready c.index_mut.ensures.value in
    let e = g.R.Rig.state c.make_dir.new.rig in
    passes-at g.R.Rig.tells_view g.R.Rig.keeps_cuts o trees c.args.self.now k s is e (g.met.R.Rig.sound c.args.rig.now) (g.met.R.Rig.sound c.make_dir.new.rig) c.make_dir.new.self 4 3 c.make_dir.ensures.acts (λ (v : StoreValue). made_directory v c.args.parent.0 c.args.name) c.make_dir.ensures.moments

pub returns-clause-stored : goal.returns-clause-stored
returns-clause-stored g c =
    let trees = c.self.inside.stores.items in
    let k = c.args.tree in
    let s = c.index_mut.result.now in
    let o = g.R.Rig.state c.args.rig.now in
    let is = lent g.R.Rig.tells_view o trees c.args.self.now k s c.self.view_is c.requires.ready c.index_mut.ensures.value in
    let e = g.R.Rig.state c.make_dir.new.rig in
    stored-unless g.R.Rig.tells_view g.R.Rig.keeps_cuts o trees c.args.self.now k s is e (g.met.R.Rig.sound c.args.rig.now) (g.met.R.Rig.sound c.make_dir.new.rig) c.make_dir.new.self 4 3 c.make_dir.ensures.acts c.make_dir.result c.make_dir.ensures.stored

pub returns-clause-acts : goal.returns-clause-acts
returns-clause-acts g c =
    let trees = c.self.inside.stores.items in
    let k = c.args.tree in
    let s = c.index_mut.result.now in
    let o = g.R.Rig.state c.args.rig.now in
    let is = lent g.R.Rig.tells_view o trees c.args.self.now k s c.self.view_is c.requires.ready c.index_mut.ensures.value in
    let e = g.R.Rig.state c.make_dir.new.rig in
    acts-at g.R.Rig.tells_view g.R.Rig.keeps_cuts o trees c.args.self.now k s is e (g.met.R.Rig.sound c.args.rig.now) (g.met.R.Rig.sound c.make_dir.new.rig) c.make_dir.new.self 4 3 c.make_dir.ensures.acts

pub returns-clause-node : goal.returns-clause-node
returns-clause-node g c =
    let trees = c.self.inside.stores.items in
    let k = c.args.tree in
    let s = c.index_mut.result.now in
    let o = g.R.Rig.state c.args.rig.now in
    let is = lent g.R.Rig.tells_view o trees c.args.self.now k s c.self.view_is c.requires.ready c.index_mut.ensures.value in
    at-lent g.R.Rig.tells_view g.R.Rig.keeps_cuts o trees c.args.self.now k s is (λ (store : TreeStore). IfOk c.make_dir.result (λ directory. free_from 1 (names_of store).directories ≡ Some directory.0)) c.make_dir.ensures.node

pub returns-clause-rises : goal.returns-clause-rises
returns-clause-rises g c = four-made g.R.Rig.keeps_cuts (g.R.Rig.state c.args.rig.now) (g.R.Rig.state c.make_dir.new.rig) c.index_mut.result.now c.make_dir.result c.make_dir.ensures.rises
