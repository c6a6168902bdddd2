use Rattle.store_model.specs.Stores.{StoreValue}
use Rattle.store_model.specs.Systems.{store_at}
use Rattle.tree_store.specs.Answers.{removal_refusal, removed_directory}
use Rattle.tree_store.specs.Naming.{HasDirectory}
use Rattle.tree_store.specs.declared.store.TreeStore.{TreeStore}
use Rattle.tree_store.proofs.Lent.{acts-at, answer-at, lent, lent-at, lent-holds, lent-stored, passes-at, stored-unless}
use Rattle.tree_store.proofs.Naming.{four-made}
use Rattle.tree_store.proofs.trees.Trees.remove_dir.Goals as goal

pub remove_dir-requires-clause-stored : goal.remove_dir-requires-clause-stored
remove_dir-requires-clause-stored g c =
    let trees = c.self.inside.stores.items in
    let k = c.args.tree in
    let s = c.index_mut.result.now in
    let o = g.R.Rig.state c.args.rig.now in
    let is = lent g.R.Rig.tells_view o trees c.args.self.now k s c.self.view_is c.requires.ready c.index_mut.ensures.value in
    lent-stored g.R.Rig.tells_view g.R.Rig.keeps_cuts o trees c.args.self.now k s is

pub remove_dir-requires-clause-in_use : goal.remove_dir-requires-clause-in_use
remove_dir-requires-clause-in_use g c =
    let trees = c.self.inside.stores.items in
    let k = c.args.tree in
    let s = c.index_mut.result.now in
    let o = g.R.Rig.state c.args.rig.now in
    let is = lent g.R.Rig.tells_view o trees c.args.self.now k s c.self.view_is c.requires.ready c.index_mut.ensures.value in
    lent-at g.R.Rig.tells_view g.R.Rig.keeps_cuts o trees c.args.self.now k s is (λ (store : TreeStore). HasDirectory store c.args.directory.0) c.requires.in_use

pub returns-clause-answer : goal.returns-clause-answer
returns-clause-answer g c stores hold =
    let trees = c.self.inside.stores.items in
    let k = c.args.tree in
    let s = c.index_mut.result.now in
    let o = g.R.Rig.state c.args.rig.now in
    let is = lent g.R.Rig.tells_view o trees c.args.self.now k s c.self.view_is c.requires.ready c.index_mut.ensures.value in
    let e = g.R.Rig.state c.remove_dir.new.rig in
    answer-at g.R.Rig.tells_view g.R.Rig.keeps_cuts o trees c.args.self.now k s is e (g.met.R.Rig.sound c.args.rig.now) (g.met.R.Rig.sound c.remove_dir.new.rig) c.remove_dir.new.self 4 3 c.remove_dir.ensures.acts ((λ (v : StoreValue). removal_refusal v c.args.directory.0) (store_at stores k)) stores ((λ (v : StoreValue). removed_directory v c.args.directory.0) (store_at stores k)) _ ⊥ c.remove_dir.result hold
    (c.remove_dir.ensures.answer (store_at stores k) (lent-holds g.R.Rig.tells_view g.R.Rig.keeps_cuts o trees c.args.self.now k s is stores hold))

pub returns-clause-moments : goal.returns-clause-moments
returns-clause-moments g c =
    let trees = c.self.inside.stores.items in
    let k = c.args.tree in
    let s = c.index_mut.result.now in
    let o = g.R.Rig.state c.args.rig.now in
    let is = lent g.R.Rig.tells_view o trees c.args.self.now k s c.self.view_is c.requires.ready c.index_mut.ensures.value in
    let e = g.R.Rig.state c.remove_dir.new.rig in
    passes-at g.R.Rig.tells_view g.R.Rig.keeps_cuts o trees c.args.self.now k s is e (g.met.R.Rig.sound c.args.rig.now) (g.met.R.Rig.sound c.remove_dir.new.rig) c.remove_dir.new.self 4 3 c.remove_dir.ensures.acts (λ (v : StoreValue). removed_directory v c.args.directory.0) c.remove_dir.ensures.moments

pub returns-clause-stored : goal.returns-clause-stored
returns-clause-stored g c =
    let trees = c.self.inside.stores.items in
    let k = c.args.tree in
    let s = c.index_mut.result.now in
    let o = g.R.Rig.state c.args.rig.now in
    let is = lent g.R.Rig.tells_view o trees c.args.self.now k s c.self.view_is c.requires.ready c.index_mut.ensures.value in
    let e = g.R.Rig.state c.remove_dir.new.rig in
    stored-unless g.R.Rig.tells_view g.R.Rig.keeps_cuts o trees c.args.self.now k s is e (g.met.R.Rig.sound c.args.rig.now) (g.met.R.Rig.sound c.remove_dir.new.rig) c.remove_dir.new.self 4 3 c.remove_dir.ensures.acts c.remove_dir.result c.remove_dir.ensures.stored

pub returns-clause-acts : goal.returns-clause-acts
returns-clause-acts g c =
    let trees = c.self.inside.stores.items in
    let k = c.args.tree in
    let s = c.index_mut.result.now in
    let o = g.R.Rig.state c.args.rig.now in
    let is = lent g.R.Rig.tells_view o trees c.args.self.now k s c.self.view_is c.requires.ready c.index_mut.ensures.value in
    let e = g.R.Rig.state c.remove_dir.new.rig in
    acts-at g.R.Rig.tells_view g.R.Rig.keeps_cuts o trees c.args.self.now k s is e (g.met.R.Rig.sound c.args.rig.now) (g.met.R.Rig.sound c.remove_dir.new.rig) c.remove_dir.new.self 4 3 c.remove_dir.ensures.acts

pub returns-clause-rises : goal.returns-clause-rises
returns-clause-rises g c = four-made g.R.Rig.keeps_cuts (g.R.Rig.state c.args.rig.now) (g.R.Rig.state c.remove_dir.new.rig) c.index_mut.result.now c.remove_dir.result c.remove_dir.ensures.rises
