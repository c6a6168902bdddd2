use Rattle.std.proofs.Common.{◌≡◌, Some, IsSome, refl, sym, subst}
use Rattle.file_tree.specs.Entries.{path_in, stored_of, with_file}
use Rattle.file_tree.specs.Records.{applied}
use Rattle.tree_region.specs.InStep.{data_at}
use Rattle.tree_state.proofs.Applies.{change_of, file-applies, file-kept, unused-slot}
use Rattle.tree_state.proofs.NameSteps.{durable-to, keeps-applied, step-to}
use Rattle.tree_state.proofs.Trees.{file-made}
use Rattle.tree_state.proofs.making.make_file.Goals as goal

pub change_tree-requires-clause-applies : goal.change_tree-requires-clause-applies
change_tree-requires-clause-applies g c =
    let v = c.args.state.now.kept.tree in
    let applies = file-applies v c.args.parent c.args.name c.requires.in_use c.requires.few c.requires.free c.in-Some.node.0 c.in-Some.ensures.least in
    subst IsSome (sym applies) refl

pub change_tree-requires-clause-keeps : goal.change_tree-requires-clause-keeps
change_tree-requires-clause-keeps g c =
    let v = c.args.state.now.kept.tree in
    let f = c.in-Some.node.0 in
    let applies = file-applies v c.args.parent c.args.name c.requires.in_use c.requires.few c.requires.free f c.in-Some.ensures.least in
    keeps-applied v (with_file v f (path_in v c.args.parent.0 c.args.name)) (applied v (change_of 1 f c.args.parent (Some c.args.name))) applies
    (file-kept v f (path_in v c.args.parent.0 c.args.name) (c.stored-nothing.ensures.unused (unused-slot v f c.in-Some.ensures.least)))

pub returns-in-Err-clause-step : goal.returns-in-Err-clause-step
returns-in-Err-clause-step g c =
    let s = c.args.state.now in
    let v = s.kept.tree in
    let f = c.in-Some.node.0 in
    let path = path_in v c.args.parent.0 c.args.name in
    let o = g.R.Rig.state c.args.rig.now in
    let nothing : stored_of v f ≡ (0, 0) = c.stored-nothing.ensures.unused (unused-slot v f c.in-Some.ensures.least) in
    step-to g.R.Rig.tells_view c.args.row.now c.args.at o (g.R.Rig.state c.change_tree.new.rig) s c.change_tree.new.state (applied v (change_of 1 f c.args.parent (Some c.args.name))) (with_file v f path)
    (file-applies v c.args.parent c.args.name c.requires.in_use c.requires.few c.requires.free f c.in-Some.ensures.least) _
    (file-made (data_at c.args.row.now c.args.at o.view) s.kept.table.files.items v f path nothing (file-kept v f path nothing)) c.change_tree.ensures.step

pub returns-in-Ok-clause-step : goal.returns-in-Ok-clause-step
returns-in-Ok-clause-step g c =
    let s = c.args.state.now in
    let v = s.kept.tree in
    let f = c.in-Some.node.0 in
    let path = path_in v c.args.parent.0 c.args.name in
    let o = g.R.Rig.state c.args.rig.now in
    let nothing : stored_of v f ≡ (0, 0) = c.stored-nothing.ensures.unused (unused-slot v f c.in-Some.ensures.least) in
    step-to g.R.Rig.tells_view c.args.row.now c.args.at o (g.R.Rig.state c.change_tree.new.rig) s c.change_tree.new.state (applied v (change_of 1 f c.args.parent (Some c.args.name))) (with_file v f path)
    (file-applies v c.args.parent c.args.name c.requires.in_use c.requires.few c.requires.free f c.in-Some.ensures.least) _
    (file-made (data_at c.args.row.now c.args.at o.view) s.kept.table.files.items v f path nothing (file-kept v f path nothing)) c.change_tree.ensures.step

pub returns-in-Ok-clause-durable : goal.returns-in-Ok-clause-durable
returns-in-Ok-clause-durable g c = λ tells.
    let s = c.args.state.now in
    let v = s.kept.tree in
    let f = c.in-Some.node.0 in
    let path = path_in v c.args.parent.0 c.args.name in
    let o = g.R.Rig.state c.args.rig.now in
    let nothing : stored_of v f ≡ (0, 0) = c.stored-nothing.ensures.unused (unused-slot v f c.in-Some.ensures.least) in
    durable-to g.R.Rig.tells_view c.args.row.now c.args.at o (g.R.Rig.state c.change_tree.new.rig) s c.change_tree.new.state (applied v (change_of 1 f c.args.parent (Some c.args.name))) (with_file v f path)
    (file-applies v c.args.parent c.args.name c.requires.in_use c.requires.few c.requires.free f c.in-Some.ensures.least) _
    (file-made (data_at c.args.row.now c.args.at o.view) s.kept.table.files.items v f path nothing (file-kept v f path nothing))
    (c.change_tree.ensures.blocks tells) c.change_tree.ensures.table c.in-Ok.ensures.applied
