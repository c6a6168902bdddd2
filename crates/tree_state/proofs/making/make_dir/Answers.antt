use Rattle.std.proofs.Common.{◌-◌, Some, IsSome, refl, sym, subst}
use Rattle.file_tree.specs.Entries.{path_in, with_directory}
use Rattle.file_tree.specs.Records.{applied}
use Rattle.tree_region.specs.InStep.{data_at}
use Rattle.tree_state.proofs.Applies.{change_of, directory-applies, directory-kept, some-number}
use Rattle.tree_state.proofs.NameSteps.{durable-to, step-to}
use Rattle.tree_state.proofs.Trees.{directory-made}
use Rattle.tree_state.proofs.making.make_dir.Goals as goal

pub overflow_sub-change : goal.overflow_sub-change
overflow_sub-change g c = some-number c.args.state.now.kept.tree.directories c.in-Some.node.0 c.in-Some.ensures.least

pub change_tree-requires-clause-applies : goal.change_tree-requires-clause-applies
change_tree-requires-clause-applies g c =
    let v = c.args.state.now.kept.tree in
    let applies = directory-applies v c.args.parent c.args.name c.requires.in_use c.requires.few c.requires.free c.in-Some.node.0 c.in-Some.ensures.least in
    subst IsSome (sym applies) refl

pub returns-in-Err-clause-step : goal.returns-in-Err-clause-step
returns-in-Err-clause-step g c =
    let s = c.args.state.now in
    let v = s.kept.tree in
    let d = c.in-Some.node.0 in
    let path = path_in v c.args.parent.0 c.args.name in
    let o = g.R.Rig.state c.args.rig.now in
    step-to g.R.Rig.tells_view c.args.row.now c.args.at o (g.R.Rig.state c.change_tree.new.rig) s c.change_tree.new.state (applied v (change_of 2 (d - 1) c.args.parent (Some c.args.name))) (with_directory v (d - 1) path)
    (directory-applies v c.args.parent c.args.name c.requires.in_use c.requires.few c.requires.free d c.in-Some.ensures.least) _
    (directory-made (data_at c.args.row.now c.args.at o.view) s.kept.table.files.items v (d - 1) path (directory-kept v (d - 1) path)) c.change_tree.ensures.step

pub returns-in-Ok-clause-step : goal.returns-in-Ok-clause-step
returns-in-Ok-clause-step g c =
    let s = c.args.state.now in
    let v = s.kept.tree in
    let d = c.in-Some.node.0 in
    let path = path_in v c.args.parent.0 c.args.name in
    let o = g.R.Rig.state c.args.rig.now in
    step-to g.R.Rig.tells_view c.args.row.now c.args.at o (g.R.Rig.state c.change_tree.new.rig) s c.change_tree.new.state (applied v (change_of 2 (d - 1) c.args.parent (Some c.args.name))) (with_directory v (d - 1) path)
    (directory-applies v c.args.parent c.args.name c.requires.in_use c.requires.few c.requires.free d c.in-Some.ensures.least) _
    (directory-made (data_at c.args.row.now c.args.at o.view) s.kept.table.files.items v (d - 1) path (directory-kept v (d - 1) path)) c.change_tree.ensures.step

pub returns-in-Ok-clause-durable : goal.returns-in-Ok-clause-durable
returns-in-Ok-clause-durable g c = λ tells.
    let s = c.args.state.now in
    let v = s.kept.tree in
    let d = c.in-Some.node.0 in
    let path = path_in v c.args.parent.0 c.args.name in
    let o = g.R.Rig.state c.args.rig.now in
    durable-to g.R.Rig.tells_view c.args.row.now c.args.at o (g.R.Rig.state c.change_tree.new.rig) s c.change_tree.new.state (applied v (change_of 2 (d - 1) c.args.parent (Some c.args.name))) (with_directory v (d - 1) path)
    (directory-applies v c.args.parent c.args.name c.requires.in_use c.requires.few c.requires.free d c.in-Some.ensures.least) _
    (directory-made (data_at c.args.row.now c.args.at o.view) s.kept.table.files.items v (d - 1) path (directory-kept v (d - 1) path))
    (c.change_tree.ensures.blocks tells) c.change_tree.ensures.table c.in-Ok.ensures.applied
