use Rattle.std.proofs.Common.{Some}
use Rattle.file_tree.specs.Entries.{path_in, slot, with_file_at}
use Rattle.file_tree.specs.Records.{applied}
use Rattle.file_tree.proofs.Changes.{some_is}
use Rattle.tree_region.specs.InStep.{data_at}
use Rattle.tree_state.proofs.Applies.{change_of, move-applies, moved-kept}
use Rattle.tree_state.proofs.NameSteps.{durable-to, keeps-applied, on-ok-to, step-to}
use Rattle.tree_state.proofs.Trees.{file-moved, file-stands}
use Rattle.tree_state.proofs.renaming.rename.Goals as goal

pub change_tree-requires-clause-keeps : goal.change_tree-requires-clause-keeps
change_tree-requires-clause-keeps g c =
    let v = c.args.state.now.kept.tree in
    let f = c.args.file.0 in
    let path = path_in v c.args.parent.0 c.args.name in
    let from = some_is (slot v.files f) c.requires.file in
    keeps-applied v (with_file_at v f from.0 path) (applied v (change_of 5 f c.args.parent (Some c.args.name)))
    (move-applies v c.args.parent c.args.name c.requires.in_use c.requires.few c.requires.free f from.0 from.1) (moved-kept v f from.0 path)

pub returns-clause-step : goal.returns-clause-step
returns-clause-step g c = λ from is.
    let s = c.args.state.now in
    let v = s.kept.tree in
    let f = c.args.file.0 in
    let path = path_in v c.args.parent.0 c.args.name in
    let o = g.R.Rig.state c.args.rig.now in
    step-to g.R.Rig.tells_view c.args.row.now c.args.at o (g.R.Rig.state c.change_tree.new.rig) s c.change_tree.new.state (applied v (change_of 5 f c.args.parent (Some c.args.name))) (with_file_at v f from path)
    (move-applies v c.args.parent c.args.name c.requires.in_use c.requires.few c.requires.free f from is) _
    (file-moved (data_at c.args.row.now c.args.at o.view) s.kept.table.files.items v f from path (moved-kept v f from path)) c.change_tree.ensures.step

pub returns-clause-durable : goal.returns-clause-durable
returns-clause-durable g c = λ from is tells.
    let s = c.args.state.now in
    let v = s.kept.tree in
    let f = c.args.file.0 in
    let path = path_in v c.args.parent.0 c.args.name in
    let o = g.R.Rig.state c.args.rig.now in
    on-ok-to c.change_tree.result _ _
    (λ made.
    durable-to g.R.Rig.tells_view c.args.row.now c.args.at o (g.R.Rig.state c.change_tree.new.rig) s c.change_tree.new.state (applied v (change_of 5 f c.args.parent (Some c.args.name))) (with_file_at v f from path)
    (move-applies v c.args.parent c.args.name c.requires.in_use c.requires.few c.requires.free f from is) _
    (file-moved (data_at c.args.row.now c.args.at o.view) s.kept.table.files.items v f from path (moved-kept v f from path))
    (c.change_tree.ensures.blocks tells) c.change_tree.ensures.table made)
    c.change_tree.ensures.applied

pub returns-clause-stands : goal.returns-clause-stands
returns-clause-stands g c = λ from is.
    file-stands (data_at c.args.row.now c.args.at (g.R.Rig.state c.args.rig.now).view) c.args.state.now.kept.table.files.items c.args.state.now.kept.tree c.stand.ensures.consistent c.args.file.0 from is
