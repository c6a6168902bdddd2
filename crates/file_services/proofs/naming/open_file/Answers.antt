use Rattle.std.proofs.Common.{◌≡◌, ◌<◌, Some, None, ap, sym, ◌∙◌, subst, length, arith}
use Rattle.std.specs.Prelude.{Ok, Err}
use Rattle.apex_model.specs.FileStep.{right_for}
use Rattle.apex_model.specs.Tables.{Right, place_of}
use Rattle.apex_model.specs.Trees.{walk}
use Rattle.file_tree.specs.Entries.{TreeValue, IsSpotAt}
use Rattle.store_model.specs.Systems.{store_at}
use Rattle.service_parts.specs.Places.{model_place}
use Rattle.service_parts.proofs.Held.{stores_long, tree_of}
use Rattle.service_parts.proofs.Served.{served-told}
use Rattle.file_services.proofs.OpeningLaws.{open-err, open-obstacle, open-at}
use Rattle.file_services.proofs.naming.open_file.Goals as goal

pub returns-in-Err : goal.returns-in-Err
returns-in-Err c = λ stores all.
    let at : place_of c.args.table.now (right_for c.args.mode) c.args.p.0 c.args.path.now ≡ Err c.in-Err.errno
    = ap (λ (right : Right). place_of c.args.table.now right c.args.p.0 c.args.path.now) (sym c.right_for.ensures) ∙ c.in-Err.ensures.place in
    served-told c.refusal.ensures (open-err c.args.table.now stores c.args.handles.now c.args.p.0 c.args.path.now c.args.mode c.in-Err.errno at)

pub tree-requires : goal.tree-requires
tree-requires c = omega (arith, c.in-Ok.ensures.within, c.requires.long)

pub returns-in-Err-walk : goal.returns-in-Err-walk
returns-in-Err-walk c = λ stores all.
    let at : place_of c.args.table.now (right_for c.args.mode) c.args.p.0 c.args.path.now ≡ Ok (model_place c.in-Ok.place)
    = ap (λ (right : Right). place_of c.args.table.now right c.args.p.0 c.args.path.now) (sym c.right_for.ensures) ∙ c.in-Ok.ensures.place in
    let low : c.in-Ok.place.tree < length c.args.trees.now = omega (arith, c.in-Ok.ensures.within, c.requires.long) in
    let long = stores_long c.args.trees.now stores all in
    let within : c.in-Ok.place.tree < length stores = omega (arith, low, long) in
    let tree = tree_of c.args.trees.now stores all c.in-Ok.place.tree low c.tree.result.now c.tree.ensures in
    let way : walk (store_at stores c.in-Ok.place.tree).tree.nodes c.in-Ok.place.path.names ≡ Some c.in-Err-walk.errno
    = ap (λ (v : TreeValue). walk v.nodes c.in-Ok.place.path.names) (sym tree) ∙ c.in-Err-walk.ensures.obstacle in
    served-told c.refusal-in-Err-walk.ensures (open-obstacle c.args.table.now stores c.args.handles.now c.args.p.0 c.args.path.now c.args.mode (model_place c.in-Ok.place) c.in-Err-walk.errno at within way)

pub returns-in-Ok-walk : goal.returns-in-Ok-walk
returns-in-Ok-walk c = λ stores all.
    let at : place_of c.args.table.now (right_for c.args.mode) c.args.p.0 c.args.path.now ≡ Ok (model_place c.in-Ok.place)
    = ap (λ (right : Right). place_of c.args.table.now right c.args.p.0 c.args.path.now) (sym c.right_for.ensures) ∙ c.in-Ok.ensures.place in
    let low : c.in-Ok.place.tree < length c.args.trees.now = omega (arith, c.in-Ok.ensures.within, c.requires.long) in
    let long = stores_long c.args.trees.now stores all in
    let within : c.in-Ok.place.tree < length stores = omega (arith, low, long) in
    let tree = tree_of c.args.trees.now stores all c.in-Ok.place.tree low c.tree.result.now c.tree.ensures in
    let way : walk (store_at stores c.in-Ok.place.tree).tree.nodes c.in-Ok.place.path.names ≡ None
    = ap (λ (v : TreeValue). walk v.nodes c.in-Ok.place.path.names) (sym tree) ∙ c.in-Ok-walk.ensures.obstacle in
    let P : TreeValue → Type 0 = λ v. IsSpotAt v c.in-Ok.place.path.names c.in-Ok-walk.spot in
    open-at c.args.table.now stores c.args.handles.now c.args.p.0 c.args.path.now c.args.mode (model_place c.in-Ok.place) c.open_spot.new.handles c.open_spot.result at within way
    (c.open_spot.ensures stores c.in-Ok.place.path.names within (subst P tree c.in-Ok-walk.ensures.spot))
