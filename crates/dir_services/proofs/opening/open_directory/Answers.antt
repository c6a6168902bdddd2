use Rattle.std.proofs.Common.{sym, ap, subst, ◌∙◌}
use Rattle.apex_model.specs.Trees.{walk}
use Rattle.file_tree.specs.Entries.{TreeValue, IsSpotAt}
use Rattle.service_parts.specs.Places.{model_place}
use Rattle.service_parts.proofs.Held.{tree_of}
use Rattle.service_parts.proofs.Served.{served-told}
use Rattle.dir_services.proofs.OpeningLaws.{open_path-refused, open_path-blocked, open_path-leads}
use Rattle.dir_services.proofs.PathLaws.{within_trees, within_stores}
use Rattle.dir_services.proofs.opening.open_directory.Goals as goal

pub returns-in-Err : goal.returns-in-Err
returns-in-Err c = λ stores all.
    served-told c.refusal.ensures (open_path-refused c.args.table.now stores c.args.handles.now c.args.p.0 c.args.path.now c.in-Err.errno c.in-Err.ensures.place)

pub tree-requires : goal.tree-requires
tree-requires c = within_trees c.args.table.now c.args.trees.now c.args.handles.now c.requires.of_table c.in-Ok.place.tree c.in-Ok.ensures.within

pub returns-in-Err-walk : goal.returns-in-Err-walk
returns-in-Err-walk c = λ stores all.
    let trees = c.args.trees.now in
    let place = model_place c.in-Ok.place in
    let low = within_trees c.args.table.now trees c.args.handles.now c.requires.of_table place.tree c.in-Ok.ensures.within in
    let met = ap (λ (v : TreeValue). walk v.nodes place.names) (sym (tree_of trees stores all place.tree low c.tree.result.now c.tree.ensures)) ∙ c.in-Err-walk.ensures.obstacle in
    served-told c.refusal-in-Err-walk.ensures
    (open_path-blocked c.args.table.now stores c.args.handles.now c.args.p.0 c.args.path.now place c.in-Ok.ensures.place (within_stores trees stores all place.tree low) c.in-Err-walk.errno met)

pub returns-in-Ok-walk : goal.returns-in-Ok-walk
returns-in-Ok-walk c = λ stores all.
    let trees = c.args.trees.now in
    let place = model_place c.in-Ok.place in
    let low = within_trees c.args.table.now trees c.args.handles.now c.requires.of_table place.tree c.in-Ok.ensures.within in
    let within = within_stores trees stores all place.tree low in
    let same = tree_of trees stores all place.tree low c.tree.result.now c.tree.ensures in
    let met = ap (λ (v : TreeValue). walk v.nodes place.names) (sym same) ∙ c.in-Ok-walk.ensures.obstacle in
    let at = subst (λ (v : TreeValue). IsSpotAt v place.names c.in-Ok-walk.spot) same c.in-Ok-walk.ensures.spot in
    open_path-leads c.args.table.now stores c.args.handles.now c.args.p.0 c.args.path.now place c.in-Ok.ensures.place within
    c.open_spot.new.handles c.open_spot.result met (c.open_spot.ensures stores place.names within at)
