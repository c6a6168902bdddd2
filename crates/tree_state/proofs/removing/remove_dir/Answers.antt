use Rattle.std.proofs.Common.{◌-◌, [], None, sym, ◌∙◌}
use Rattle.std.specs.Prelude.{unwrap_or}
use Rattle.file_tree.specs.Entries.{way_of, without_directory}
use Rattle.file_tree.specs.Records.{applied}
use Rattle.file_tree.proofs.LeastNames.{none-is, no-spot-within}
use Rattle.tree_region.specs.InStep.{data_at}
use Rattle.tree_state.proofs.Applies.{change_of, gone-applies, gone-directory-kept}
use Rattle.tree_state.proofs.NameSteps.{durable-to, step-to}
use Rattle.tree_state.proofs.Trees.{directory-gone}
use Rattle.tree_state.proofs.removing.remove_dir.Goals as goal

pub returns-in-Err-clause-step : goal.returns-in-Err-clause-step
returns-in-Err-clause-step g c =
    let s = c.args.state.now in
    let v = s.kept.tree in
    let d = c.args.directory.0 in
    let path = unwrap_or (way_of v d) [] in
    let o = g.R.Rig.state c.args.rig.now in
    let empty = no-spot-within v path c.next_entry.result (none-is c.next_entry.result (sym c.is_some.ensures ∙ c.if-is_some.false)) c.next_entry.ensures in
    step-to g.R.Rig.tells_view c.args.row.now c.args.at o (g.R.Rig.state c.change_tree.new.rig) s c.change_tree.new.state (applied v (change_of 4 (d - 1) (record { 0 = 0 }) None)) (without_directory v (d - 1) path)
    (gone-applies v d (record { 0 = 0 }) c.requires.below_root c.requires.in_use empty) _
    (directory-gone (data_at c.args.row.now c.args.at o.view) s.kept.table.files.items v (d - 1) path (gone-directory-kept v (d - 1) path)) c.change_tree.ensures.step

pub returns-in-Ok-clause-step : goal.returns-in-Ok-clause-step
returns-in-Ok-clause-step g c =
    let s = c.args.state.now in
    let v = s.kept.tree in
    let d = c.args.directory.0 in
    let path = unwrap_or (way_of v d) [] in
    let o = g.R.Rig.state c.args.rig.now in
    let empty = no-spot-within v path c.next_entry.result (none-is c.next_entry.result (sym c.is_some.ensures ∙ c.if-is_some.false)) c.next_entry.ensures in
    step-to g.R.Rig.tells_view c.args.row.now c.args.at o (g.R.Rig.state c.change_tree.new.rig) s c.change_tree.new.state (applied v (change_of 4 (d - 1) (record { 0 = 0 }) None)) (without_directory v (d - 1) path)
    (gone-applies v d (record { 0 = 0 }) c.requires.below_root c.requires.in_use empty) _
    (directory-gone (data_at c.args.row.now c.args.at o.view) s.kept.table.files.items v (d - 1) path (gone-directory-kept v (d - 1) path)) c.change_tree.ensures.step

pub returns-in-Ok-clause-durable : goal.returns-in-Ok-clause-durable
returns-in-Ok-clause-durable g c = λ tells.
    let s = c.args.state.now in
    let v = s.kept.tree in
    let d = c.args.directory.0 in
    let path = unwrap_or (way_of v d) [] in
    let o = g.R.Rig.state c.args.rig.now in
    let empty = no-spot-within v path c.next_entry.result (none-is c.next_entry.result (sym c.is_some.ensures ∙ c.if-is_some.false)) c.next_entry.ensures in
    durable-to g.R.Rig.tells_view c.args.row.now c.args.at o (g.R.Rig.state c.change_tree.new.rig) s c.change_tree.new.state (applied v (change_of 4 (d - 1) (record { 0 = 0 }) None)) (without_directory v (d - 1) path)
    (gone-applies v d (record { 0 = 0 }) c.requires.below_root c.requires.in_use empty) _
    (directory-gone (data_at c.args.row.now c.args.at o.view) s.kept.table.files.items v (d - 1) path (gone-directory-kept v (d - 1) path))
    (c.change_tree.ensures.blocks tells) c.change_tree.ensures.table c.in-Ok.ensures.applied
