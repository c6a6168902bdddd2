use Rattle.rig_core.specs.Causes.{Rose}
use Rattle.store_model.specs.Stores.{StoreValue}
use Rattle.store_model.specs.Systems.{store_at}
use Rattle.tree_store.specs.Answers.{resize_refusal, resized_store}
use Rattle.tree_store.specs.Calls.{ActsAt}
use Rattle.tree_store.specs.Naming.{HasFile}
use Rattle.tree_store.specs.Stored.{row_of}
use Rattle.tree_store.specs.declared.store.TreeStore.{TreeStore}
use Rattle.tree_store.proofs.Lent.{acts-at, answer-at, at-lent, lent, lent-at, lent-holds, lent-stored, passes-at, stored-at}
use Rattle.tree_store.proofs.trees.Trees.resize.Goals as goal

pub resize-requires-clause-stored : goal.resize-requires-clause-stored
resize-requires-clause-stored g c =
    let trees = c.self.inside.stores.items in
    let k = c.args.tree in
    let s = c.index_mut.result.now in
    let o = g.R.Rig.state c.args.rig.now in
    let is = lent g.R.Rig.tells_view o trees c.args.self.now k s c.self.view_is c.requires.ready c.index_mut.ensures.value in
    lent-stored g.R.Rig.tells_view g.R.Rig.keeps_cuts o trees c.args.self.now k s is

pub resize-requires-clause-in_use : goal.resize-requires-clause-in_use
resize-requires-clause-in_use g c =
    let trees = c.self.inside.stores.items in
    let k = c.args.tree in
    let s = c.index_mut.result.now in
    let o = g.R.Rig.state c.args.rig.now in
    let is = lent g.R.Rig.tells_view o trees c.args.self.now k s c.self.view_is c.requires.ready c.index_mut.ensures.value in
    lent-at g.R.Rig.tells_view g.R.Rig.keeps_cuts o trees c.args.self.now k s is (λ (store : TreeStore). HasFile store c.args.file.0) c.requires.in_use

pub returns-clause-answer : goal.returns-clause-answer
returns-clause-answer g c stores hold =
    let trees = c.self.inside.stores.items in
    let k = c.args.tree in
    let s = c.index_mut.result.now in
    let o = g.R.Rig.state c.args.rig.now in
    let is = lent g.R.Rig.tells_view o trees c.args.self.now k s c.self.view_is c.requires.ready c.index_mut.ensures.value in
    let e = g.R.Rig.state c.resize.new.rig in
    answer-at g.R.Rig.tells_view g.R.Rig.keeps_cuts o trees c.args.self.now k s is e (g.met.R.Rig.sound c.args.rig.now) (g.met.R.Rig.sound c.resize.new.rig) c.resize.new.self (row_of s).dirty 0 c.resize.ensures.acts (resize_refusal c.args.file.0 c.args.size (store_at stores k)) stores ((resized_store c.args.file.0 c.args.size) (store_at stores k)) _ (Rose o.read_faults e.read_faults) c.resize.result hold
    (c.resize.ensures.answer (store_at stores k) (lent-holds g.R.Rig.tells_view g.R.Rig.keeps_cuts o trees c.args.self.now k s is stores hold))

pub returns-clause-moments : goal.returns-clause-moments
returns-clause-moments g c =
    let trees = c.self.inside.stores.items in
    let k = c.args.tree in
    let s = c.index_mut.result.now in
    let o = g.R.Rig.state c.args.rig.now in
    let is = lent g.R.Rig.tells_view o trees c.args.self.now k s c.self.view_is c.requires.ready c.index_mut.ensures.value in
    let e = g.R.Rig.state c.resize.new.rig in
    passes-at g.R.Rig.tells_view g.R.Rig.keeps_cuts o trees c.args.self.now k s is e (g.met.R.Rig.sound c.args.rig.now) (g.met.R.Rig.sound c.resize.new.rig) c.resize.new.self (row_of s).dirty 0 c.resize.ensures.acts (λ (v : StoreValue). v) c.resize.ensures.moments

pub returns-clause-stored : goal.returns-clause-stored
returns-clause-stored g c =
    let trees = c.self.inside.stores.items in
    let k = c.args.tree in
    let s = c.index_mut.result.now in
    let o = g.R.Rig.state c.args.rig.now in
    let is = lent g.R.Rig.tells_view o trees c.args.self.now k s c.self.view_is c.requires.ready c.index_mut.ensures.value in
    let e = g.R.Rig.state c.resize.new.rig in
    stored-at g.R.Rig.tells_view g.R.Rig.keeps_cuts o trees c.args.self.now k s is e (g.met.R.Rig.sound c.args.rig.now) (g.met.R.Rig.sound c.resize.new.rig) c.resize.new.self (row_of s).dirty 0 c.resize.ensures.acts c.resize.ensures.stored

pub returns-clause-acts : goal.returns-clause-acts
returns-clause-acts g c =
    let trees = c.self.inside.stores.items in
    let k = c.args.tree in
    let s = c.index_mut.result.now in
    let o = g.R.Rig.state c.args.rig.now in
    let is = lent g.R.Rig.tells_view o trees c.args.self.now k s c.self.view_is c.requires.ready c.index_mut.ensures.value in
    let e = g.R.Rig.state c.resize.new.rig in
    at-lent g.R.Rig.tells_view g.R.Rig.keeps_cuts o trees c.args.self.now k s is (λ (store : TreeStore). ActsAt g.R.Rig.tells_view (row_of store).dirty 0 o e c.args.self.now _)
    (acts-at g.R.Rig.tells_view g.R.Rig.keeps_cuts o trees c.args.self.now k s is e (g.met.R.Rig.sound c.args.rig.now) (g.met.R.Rig.sound c.resize.new.rig) c.resize.new.self (row_of s).dirty 0 c.resize.ensures.acts)
