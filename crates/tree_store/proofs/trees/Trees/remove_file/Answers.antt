use Rattle.store_model.specs.Stores.{StoreValue}
use Rattle.store_model.specs.Systems.{store_at}
use Rattle.tree_store.specs.Answers.{removed_file}
use Rattle.tree_store.specs.Naming.{HasFile}
use Rattle.tree_store.specs.declared.store.TreeStore.{TreeStore}
use Rattle.tree_store.proofs.Lent.{acts-at, done-at, lent, lent-at, lent-holds, lent-stored, passes-at, stored-ok}
use Rattle.tree_store.proofs.Naming.{four-made}
use Rattle.tree_store.proofs.trees.Trees.remove_file.Goals as goal

pub remove_file-requires-clause-stored : goal.remove_file-requires-clause-stored
remove_file-requires-clause-stored g c =
    let trees = c.self.inside.stores.items in
    let k = c.args.tree in
    let s = c.index_mut.result.now in
    let o = g.R.Rig.state c.args.rig.now in
    let is = lent g.R.Rig.tells_view o trees c.args.self.now k s c.self.view_is c.requires.ready c.index_mut.ensures.value in
    lent-stored g.R.Rig.tells_view g.R.Rig.keeps_cuts o trees c.args.self.now k s is

pub remove_file-requires-clause-in_use : goal.remove_file-requires-clause-in_use
remove_file-requires-clause-in_use g c =
    let trees = c.self.inside.stores.items in
    let k = c.args.tree in
    let s = c.index_mut.result.now in
    let o = g.R.Rig.state c.args.rig.now in
    let is = lent g.R.Rig.tells_view o trees c.args.self.now k s c.self.view_is c.requires.ready c.index_mut.ensures.value in
    lent-at g.R.Rig.tells_view g.R.Rig.keeps_cuts o trees c.args.self.now k s is (λ (store : TreeStore). HasFile store c.args.file.0) c.requires.in_use

pub returns-clause-done : goal.returns-clause-done
returns-clause-done g c stores hold =
    let trees = c.self.inside.stores.items in
    let k = c.args.tree in
    let s = c.index_mut.result.now in
    let o = g.R.Rig.state c.args.rig.now in
    let is = lent g.R.Rig.tells_view o trees c.args.self.now k s c.self.view_is c.requires.ready c.index_mut.ensures.value in
    let e = g.R.Rig.state c.remove_file.new.rig in
    done-at g.R.Rig.tells_view g.R.Rig.keeps_cuts o trees c.args.self.now k s is e (g.met.R.Rig.sound c.args.rig.now) (g.met.R.Rig.sound c.remove_file.new.rig) c.remove_file.new.self 4 3 c.remove_file.ensures.acts stores ((λ (v : StoreValue). removed_file v c.args.file.0) (store_at stores k)) c.remove_file.result hold
    (c.remove_file.ensures.done (store_at stores k) (lent-holds g.R.Rig.tells_view g.R.Rig.keeps_cuts o trees c.args.self.now k s is stores hold))

pub returns-clause-moments : goal.returns-clause-moments
returns-clause-moments g c =
    let trees = c.self.inside.stores.items in
    let k = c.args.tree in
    let s = c.index_mut.result.now in
    let o = g.R.Rig.state c.args.rig.now in
    let is = lent g.R.Rig.tells_view o trees c.args.self.now k s c.self.view_is c.requires.ready c.index_mut.ensures.value in
    let e = g.R.Rig.state c.remove_file.new.rig in
    passes-at g.R.Rig.tells_view g.R.Rig.keeps_cuts o trees c.args.self.now k s is e (g.met.R.Rig.sound c.args.rig.now) (g.met.R.Rig.sound c.remove_file.new.rig) c.remove_file.new.self 4 3 c.remove_file.ensures.acts (λ (v : StoreValue). removed_file v c.args.file.0) c.remove_file.ensures.moments

pub returns-clause-stored : goal.returns-clause-stored
returns-clause-stored g c =
    let trees = c.self.inside.stores.items in
    let k = c.args.tree in
    let s = c.index_mut.result.now in
    let o = g.R.Rig.state c.args.rig.now in
    let is = lent g.R.Rig.tells_view o trees c.args.self.now k s c.self.view_is c.requires.ready c.index_mut.ensures.value in
    let e = g.R.Rig.state c.remove_file.new.rig in
    stored-ok g.R.Rig.tells_view g.R.Rig.keeps_cuts o trees c.args.self.now k s is e (g.met.R.Rig.sound c.args.rig.now) (g.met.R.Rig.sound c.remove_file.new.rig) c.remove_file.new.self 4 3 c.remove_file.ensures.acts c.remove_file.result c.remove_file.ensures.stored

pub returns-clause-acts : goal.returns-clause-acts
returns-clause-acts g c =
    let trees = c.self.inside.stores.items in
    let k = c.args.tree in
    let s = c.index_mut.result.now in
    let o = g.R.Rig.state c.args.rig.now in
    let is = lent g.R.Rig.tells_view o trees c.args.self.now k s c.self.view_is c.requires.ready c.index_mut.ensures.value in
    let e = g.R.Rig.state c.remove_file.new.rig in
    acts-at g.R.Rig.tells_view g.R.Rig.keeps_cuts o trees c.args.self.now k s is e (g.met.R.Rig.sound c.args.rig.now) (g.met.R.Rig.sound c.remove_file.new.rig) c.remove_file.new.self 4 3 c.remove_file.ensures.acts

pub returns-clause-rises : goal.returns-clause-rises
returns-clause-rises g c = four-made g.R.Rig.keeps_cuts (g.R.Rig.state c.args.rig.now) (g.R.Rig.state c.remove_file.new.rig) c.index_mut.result.now c.remove_file.result c.remove_file.ensures.rises
