use Rattle.std.proofs.Common.{◌≡◌, ◌<◌, Bool, true, false, List, None, sym, ◌∙◌, ap, length, arith}
use Rattle.std.specs.Prelude.{nat_le, not}
use Rattle.apex_types.specs.declared.fields.Spot.TheVariants.{Free}
use Rattle.apex_types.specs.declared.rows.TreeRow.{TreeRow}
use Rattle.apex_model.specs.Handles.{least_free}
use Rattle.apex_model.specs.Trees.{file_count}
use Rattle.file_tree.specs.Entries.{TreeValue, IsSpotAt}
use Rattle.open_handles.specs.NodeHandles.{handles_of}
use Rattle.store_model.specs.Systems.{store_at}
use Rattle.service_parts.specs.Serving.{ReadsFailed}
use Rattle.service_parts.proofs.Closing.{served_still}
use Rattle.service_parts.proofs.Held.{all_outlined, at_value, of_table_held, stores_long, tree_of, trees_long}
use Rattle.service_parts.proofs.Served.{none-there, served-told}
use Rattle.file_services.proofs.MakingLaws.{make_step, make-full, make-many}
use Rattle.file_services.proofs.NewNames.{limit-row, full-test, room-test}
use Rattle.file_services.proofs.making.make_in.Goals as goal

pub bounds-trees-place : goal.bounds-trees-place
bounds-trees-place g c =
    let long = trees_long c.args.table.now c.args.trees.now c.args.handles.now c.requires.of_table in
    let are = ap (λ (rows : List TreeRow). length rows) c.trees.ensures in
    omega (arith, long, are, c.requires.within)

pub bounds-trees-place-2 : goal.bounds-trees-place-2
bounds-trees-place-2 g c =
    let long = trees_long c.args.table.now c.args.trees.now c.args.handles.now c.requires.of_table in
    let are = ap (λ (rows : List TreeRow). length rows) c.trees.ensures in
    omega (arith, long, are, c.requires.within)

pub returns-then-limit-files-clause-served : goal.returns-then-limit-files-clause-served
returns-then-limit-files-clause-served g c =
    let V = g.R.Rig.tells_view in
    let K = g.R.Rig.keeps_cuts in
    let o = g.R.Rig.state c.args.rig.now in
    let trees = c.args.trees.now in
    let handles = c.args.handles.now in
    served_still V K o (g.met.R.Rig.sound c.args.rig.now) (make_step c.args.table.now c.args.p.0 c.args.place.tree c.args.place.path.names) (ReadsFailed false o o) trees handles c.requires.serving handles c.refusal.result
    (λ stores hold. let low = stores_long trees stores (all_outlined V o trees stores hold) in
    let within : c.args.place.tree < length stores = omega (arith, low, c.requires.within) in
    let found = at_value trees stores (all_outlined V o trees stores hold) (λ (v : TreeValue). IsSpotAt v c.args.place.path.names (Free c.args.parent)) c.args.place.tree c.requires.within c.requires.free in
    let limit = limit-row c.args.table.now stores handles (of_table_held V o c.args.table.now trees stores handles c.requires.of_table c.requires.serving.stored hold) c.args.place.tree within c.trees.result.now c.index-trees-place.result c.trees.ensures c.index-trees-place.is ∙ ap (λ (row : TreeRow). row.files) c.index-trees-place.is in
    let count = c.files.ensures.count ∙ ap (λ (w : TreeValue). file_count w.nodes) (tree_of trees stores (all_outlined V o trees stores hold) c.args.place.tree c.requires.within c.tree.result.now c.tree.ensures) in
    let full : nat_le (length (store_at stores c.args.place.tree).tree.files) (file_count (store_at stores c.args.place.tree).tree.nodes) ≡ true = full-test _ _ _ _ limit count c.if-limit-files.true in
    served-told c.refusal.ensures (make-full c.args.table.now stores handles c.args.p.0 c.args.place.tree c.args.place.path.names within (of_table_held V o c.args.table.now trees stores handles c.requires.of_table c.requires.serving.stored hold) c.args.parent found full))

pub returns-then-is_none-clause-served : goal.returns-then-is_none-clause-served
returns-then-is_none-clause-served g c =
    let V = g.R.Rig.tells_view in
    let K = g.R.Rig.keeps_cuts in
    let o = g.R.Rig.state c.args.rig.now in
    let trees = c.args.trees.now in
    let handles = c.args.handles.now in
    served_still V K o (g.met.R.Rig.sound c.args.rig.now) (make_step c.args.table.now c.args.p.0 c.args.place.tree c.args.place.path.names) (ReadsFailed false o o) trees handles c.requires.serving handles c.refusal-then-is_none.result
    (λ stores hold. let low = stores_long trees stores (all_outlined V o trees stores hold) in
    let within : c.args.place.tree < length stores = omega (arith, low, c.requires.within) in
    let found = at_value trees stores (all_outlined V o trees stores hold) (λ (v : TreeValue). IsSpotAt v c.args.place.path.names (Free c.args.parent)) c.args.place.tree c.requires.within c.requires.free in
    let limit = limit-row c.args.table.now stores handles (of_table_held V o c.args.table.now trees stores handles c.requires.of_table c.requires.serving.stored hold) c.args.place.tree within c.trees.result.now c.index-trees-place.result c.trees.ensures c.index-trees-place.is ∙ ap (λ (row : TreeRow). row.files) c.index-trees-place.is in
    let count = c.files.ensures.count ∙ ap (λ (w : TreeValue). file_count w.nodes) (tree_of trees stores (all_outlined V o trees stores hold) c.args.place.tree c.requires.within c.tree.result.now c.tree.ensures) in
    let room : nat_le (length (store_at stores c.args.place.tree).tree.files) (file_count (store_at stores c.args.place.tree).tree.nodes) ≡ false = room-test _ _ _ _ limit count c.if-limit-files.false in
    let none : least_free (handles_of handles c.args.p.0).files ≡ None = sym c.free_file.ensures ∙ none-there c.free_file.result (c.is_none.ensures ∙ ap (λ (b : Bool). not b) c.if-is_none.true) in
    served-told c.refusal-then-is_none.ensures (make-many c.args.table.now stores handles c.args.p.0 c.args.place.tree c.args.place.path.names within (of_table_held V o c.args.table.now trees stores handles c.requires.of_table c.requires.serving.stored hold) c.args.parent found room none))
