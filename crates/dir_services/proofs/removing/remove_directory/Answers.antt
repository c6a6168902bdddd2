use Rattle.std.proofs.Common.{sym, ap, subst, ◌∙◌}
use Rattle.apex_model.specs.DirectoryStep.{remove_directory as remove_step}
use Rattle.apex_model.specs.Trees.{walk}
use Rattle.file_tree.specs.Entries.{TreeValue, IsSpotAt}
use Rattle.service_parts.specs.Places.{model_place}
use Rattle.service_parts.proofs.Closing.{served_step, served_still}
use Rattle.service_parts.proofs.Held.{all_outlined, tree_of}
use Rattle.service_parts.proofs.Served.{served-told}
use Rattle.dir_services.proofs.PathLaws.{within_trees, within_stores}
use Rattle.dir_services.proofs.RemovingLaws.{remove_path-refused, remove_path-blocked, remove_path-leads}
use Rattle.dir_services.proofs.removing.remove_directory.Goals as goal

pub returns-in-Err-clause-served : goal.returns-in-Err-clause-served
returns-in-Err-clause-served g c =
    let V = g.R.Rig.tells_view in
    let o = g.R.Rig.state c.args.rig.now in
    let handles = c.args.handles.now in
    served_still V g.R.Rig.keeps_cuts o (g.met.R.Rig.sound c.args.rig.now) (λ fs. remove_step c.args.table.now fs c.args.p.0 c.args.path.now) ⊥ c.args.trees.now handles c.requires.serving handles c.refusal.result
    (λ stores hold. served-told c.refusal.ensures (remove_path-refused c.args.table.now stores handles c.args.p.0 c.args.path.now c.in-Err.errno c.in-Err.ensures.place))

pub tree-requires : goal.tree-requires
tree-requires g c = within_trees c.args.table.now c.args.trees.now c.args.handles.now c.requires.of_table c.in-Ok.place.tree c.in-Ok.ensures.within

pub remove_spot-requires-clause-within : goal.remove_spot-requires-clause-within
remove_spot-requires-clause-within g c = within_trees c.args.table.now c.args.trees.now c.args.handles.now c.requires.of_table c.in-Ok.place.tree c.in-Ok.ensures.within

pub remove_spot-requires-clause-found : goal.remove_spot-requires-clause-found
remove_spot-requires-clause-found g c = λ store at. subst (λ (v : TreeValue). IsSpotAt v c.in-Ok.place.path.names c.in-Ok-walk.spot) (c.tree.ensures store at) c.in-Ok-walk.ensures.spot

pub returns-in-Err-walk-clause-served : goal.returns-in-Err-walk-clause-served
returns-in-Err-walk-clause-served g c =
    let V = g.R.Rig.tells_view in
    let o = g.R.Rig.state c.args.rig.now in
    let trees = c.args.trees.now in
    let handles = c.args.handles.now in
    let place = model_place c.in-Ok.place in
    let low = within_trees c.args.table.now trees handles c.requires.of_table place.tree c.in-Ok.ensures.within in
    served_still V g.R.Rig.keeps_cuts o (g.met.R.Rig.sound c.args.rig.now) (λ fs. remove_step c.args.table.now fs c.args.p.0 c.args.path.now) ⊥ trees handles c.requires.serving handles c.refusal-in-Err-walk.result
    (λ stores hold.
    let all = all_outlined V o trees stores hold in
    let met = ap (λ (v : TreeValue). walk v.nodes place.names) (sym (tree_of trees stores all place.tree low c.tree.result.now c.tree.ensures)) ∙ c.in-Err-walk.ensures.obstacle in
    served-told c.refusal-in-Err-walk.ensures
    (remove_path-blocked c.args.table.now stores handles c.args.p.0 c.args.path.now place c.in-Ok.ensures.place (within_stores trees stores all place.tree low) c.in-Err-walk.errno met))

pub returns-in-Ok-walk-clause-served : goal.returns-in-Ok-walk-clause-served
returns-in-Ok-walk-clause-served g c =
    let V = g.R.Rig.tells_view in
    let o = g.R.Rig.state c.args.rig.now in
    let trees = c.args.trees.now in
    let handles = c.args.handles.now in
    let place = model_place c.in-Ok.place in
    let low = within_trees c.args.table.now trees handles c.requires.of_table place.tree c.in-Ok.ensures.within in
    served_step (λ fs over.
    let all = all_outlined V o trees over.0 over.1 in
    let met = ap (λ (v : TreeValue). walk v.nodes place.names) (sym (tree_of trees over.0 all place.tree low c.tree.result.now c.tree.ensures)) ∙ c.in-Ok-walk.ensures.obstacle in
    remove_path-leads c.args.table.now over.0 handles c.args.p.0 c.args.path.now place c.in-Ok.ensures.place (within_stores trees over.0 all place.tree low) met fs over.2)
    c.remove_spot.ensures.served
