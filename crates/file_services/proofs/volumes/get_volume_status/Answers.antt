use Rattle.std.proofs.Common.{◌<◌, ◌∙◌, ap, length, arith, get_or}
use Rattle.apex_model.specs.Trees.{file_count}
use Rattle.file_tree.specs.Entries.{TreeValue}
use Rattle.service_parts.specs.Places.{model_place}
use Rattle.service_parts.proofs.Held.{charge_of, stores_long, tree_of}
use Rattle.service_parts.proofs.Served.{served-told}
use Rattle.file_services.proofs.VolumesLaws.{volume-err, volume-below, volume-done, quota-at}
use Rattle.file_services.proofs.volumes.get_volume_status.Goals as goal

pub returns-in-Err : goal.returns-in-Err
returns-in-Err c = λ stores handles all.
    served-told c.refusal.ensures (volume-err c.args.table.now stores handles c.args.p.0 c.args.path.now c.in-Err.errno c.in-Err.ensures.place)

pub returns-then-len-ne0 : goal.returns-then-len-ne0
returns-then-len-ne0 c = λ stores handles all.
    served-told c.refusal-then-len-ne0.ensures (volume-below c.args.table.now stores handles c.args.p.0 c.args.path.now (model_place c.in-Ok.place) c.len.result c.in-Ok.ensures.place c.len.ensures.value c.if-len-ne0.true)

pub charge-charge-requires : goal.charge-charge-requires
charge-charge-requires c = omega (arith, c.in-Ok.ensures.within, c.requires.long)

pub tree-requires : goal.tree-requires
tree-requires c = omega (arith, c.in-Ok.ensures.within, c.requires.long)

pub returns : goal.returns
returns c = λ stores handles all.
    let within : c.in-Ok.place.tree < length c.args.trees.now = omega (arith, c.in-Ok.ensures.within, c.requires.long) in
    let long = stores_long c.args.trees.now stores all in
    served-told c.success.ensures
    (volume-done c.args.table.now stores handles c.args.p.0 c.args.path.now (model_place c.in-Ok.place) c.len.result (get_or c.trees.result.now c.in-Ok.place.tree c.index-trees-place.result).quota c.charge-charge.result c.files-files.result
    c.in-Ok.ensures.place c.len.ensures.value c.if-len-ne0.false (omega (arith, within, long))
    (quota-at c.args.table.now c.trees.result.now c.in-Ok.place.tree c.index-trees-place.result c.trees.ensures c.in-Ok.ensures.within)
    (charge_of c.args.trees.now stores all c.in-Ok.place.tree within c.charge-charge.result c.charge-charge.ensures)
    (c.files-files.ensures.count ∙ ap (λ (t : TreeValue). file_count t.nodes) (tree_of c.args.trees.now stores all c.in-Ok.place.tree within c.tree.result.now c.tree.ensures)))
