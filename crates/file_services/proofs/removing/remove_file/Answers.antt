use Rattle.std.proofs.Common.{◌≡◌, ◌<◌, Some, None, ap, sym, subst, ◌∙◌, length, false, arith}
use Rattle.apex_model.specs.FileStep.{remove_file}
use Rattle.apex_model.specs.Trees.{walk}
use Rattle.file_tree.specs.Entries.{TreeValue, IsSpotAt}
use Rattle.store_model.specs.Systems.{store_at}
use Rattle.service_parts.specs.Places.{model_place}
use Rattle.service_parts.specs.Serving.{ReadsFailed}
use Rattle.service_parts.proofs.Closing.{served_step, served_still}
use Rattle.service_parts.proofs.Held.{all_outlined, stores_long, tree_of, trees_long}
use Rattle.service_parts.proofs.Served.{served-told}
use Rattle.file_services.proofs.RemovingLaws.{remove-err, remove-obstacle, remove-at}
use Rattle.file_services.proofs.removing.remove_file.Goals as goal

pub returns-in-Err-clause-served : goal.returns-in-Err-clause-served
returns-in-Err-clause-served g c =
    let V = g.R.Rig.tells_view in
    let K = g.R.Rig.keeps_cuts in
    let o = g.R.Rig.state c.args.rig.now in
    let trees = c.args.trees.now in
    let handles = c.args.handles.now in
    served_still V K o (g.met.R.Rig.sound c.args.rig.now) (λ fs. remove_file c.args.table.now fs c.args.p.0 c.args.path.now) (ReadsFailed false o o) trees handles c.requires.serving handles c.refusal.result
    (λ stores hold. served-told c.refusal.ensures (remove-err c.args.table.now stores handles c.args.p.0 c.args.path.now c.in-Err.errno c.in-Err.ensures.place))

pub tree-requires : goal.tree-requires
tree-requires g c = let low = trees_long c.args.table.now c.args.trees.now c.args.handles.now c.requires.of_table in omega (arith, low, c.in-Ok.ensures.within)

pub remove_spot-requires-clause-within : goal.remove_spot-requires-clause-within
remove_spot-requires-clause-within g c = let low = trees_long c.args.table.now c.args.trees.now c.args.handles.now c.requires.of_table in omega (arith, low, c.in-Ok.ensures.within)

pub remove_spot-requires-clause-found : goal.remove_spot-requires-clause-found
remove_spot-requires-clause-found g c = λ store at. subst (λ (v : TreeValue). IsSpotAt v c.in-Ok.place.path.names c.in-Ok-walk.spot) (c.tree.ensures store at) c.in-Ok-walk.ensures.spot

pub returns-in-Err-walk-clause-served : goal.returns-in-Err-walk-clause-served
returns-in-Err-walk-clause-served g c =
    let V = g.R.Rig.tells_view in
    let K = g.R.Rig.keeps_cuts in
    let o = g.R.Rig.state c.args.rig.now in
    let trees = c.args.trees.now in
    let handles = c.args.handles.now in
    served_still V K o (g.met.R.Rig.sound c.args.rig.now) (λ fs. remove_file c.args.table.now fs c.args.p.0 c.args.path.now) (ReadsFailed false o o) trees handles c.requires.serving handles c.refusal-in-Err-walk.result
    (λ stores hold. let low = trees_long c.args.table.now trees handles c.requires.of_table in
    let at : c.in-Ok.place.tree < length trees = omega (arith, low, c.in-Ok.ensures.within) in
    let long = stores_long trees stores (all_outlined V o trees stores hold) in
    let within : c.in-Ok.place.tree < length stores = omega (arith, at, long) in
    let way : walk (store_at stores c.in-Ok.place.tree).tree.nodes c.in-Ok.place.path.names ≡ Some c.in-Err-walk.errno
    = ap (λ (v : TreeValue). walk v.nodes c.in-Ok.place.path.names) (sym (tree_of trees stores (all_outlined V o trees stores hold) c.in-Ok.place.tree at c.tree.result.now c.tree.ensures)) ∙ c.in-Err-walk.ensures.obstacle in
    served-told c.refusal-in-Err-walk.ensures (remove-obstacle c.args.table.now stores handles c.args.p.0 c.args.path.now (model_place c.in-Ok.place) c.in-Err-walk.errno c.in-Ok.ensures.place within way))

pub returns-in-Ok-walk-clause-served : goal.returns-in-Ok-walk-clause-served
returns-in-Ok-walk-clause-served g c =
    let V = g.R.Rig.tells_view in
    let K = g.R.Rig.keeps_cuts in
    let o = g.R.Rig.state c.args.rig.now in
    let trees = c.args.trees.now in
    let handles = c.args.handles.now in
    served_step (λ fs over.
    let stores = over.0 in
    let hold = over.1 in
    let low = trees_long c.args.table.now trees handles c.requires.of_table in
    let at : c.in-Ok.place.tree < length trees = omega (arith, low, c.in-Ok.ensures.within) in
    let long = stores_long trees stores (all_outlined V o trees stores hold) in
    let within : c.in-Ok.place.tree < length stores = omega (arith, at, long) in
    let way : walk (store_at stores c.in-Ok.place.tree).tree.nodes c.in-Ok.place.path.names ≡ None
    = ap (λ (v : TreeValue). walk v.nodes c.in-Ok.place.path.names) (sym (tree_of trees stores (all_outlined V o trees stores hold) c.in-Ok.place.tree at c.tree.result.now c.tree.ensures)) ∙ c.in-Ok-walk.ensures.obstacle in
    remove-at c.args.table.now stores handles c.args.p.0 c.args.path.now (model_place c.in-Ok.place) c.in-Ok.ensures.place within way fs over.2) c.remove_spot.ensures.served
