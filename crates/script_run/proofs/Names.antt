-- How often one line more changes names.
use Rattle.std.proofs.Common.{◌≡◌, ℕ, ◌+◌, List, [], ◌∷◌, ◌++◌, ap, ◌∙◌, arith, Some}
use Rattle.std.specs.Prelude.{take, slice_get}
use Rattle.apex_types.specs.Rows.{Rows}
use Rattle.apex_types.specs.declared.calls.Line.{Line}
use Rattle.apex_model.specs.FailedReads.{world_after_line}
use Rattle.apex_model.specs.Run.{world_after_all}
use Rattle.apex_model.specs.World.{World}
use Rattle.module_session.specs.Naming.{name_change}
use Rattle.module_session.specs.Sessions.{reply_in}
use Rattle.script_run.specs.Names.{name_changes}
use Rattle.script_run.proofs.OneLine.{take-line}

names-append : (table : Rows) (w : World) (lines more : List Line) → name_changes table w (lines ++ more) ≡ name_changes table w lines + name_changes table (world_after_all table [] w lines) more
names-append table w [] more = omega arith
names-append table w (line ∷ lines) more = let rest = names-append table (world_after_line table [] w line) lines more in omega (arith, rest)

pub names-more : (table : Rows) (w : World) (lines : List Line) (k : ℕ) (line : Line) → slice_get lines k ≡ Some line
    → name_changes table w (take (k + 1) lines) ≡ name_changes table w (take k lines) + name_change line.deed (reply_in table [] (world_after_all table [] w (take k lines)) line)
names-more table w lines k line at =
    let whole = ap (name_changes table w) (take-line lines k line at) ∙ names-append table w (take k lines) (line ∷ []) in
    omega (arith, whole)
