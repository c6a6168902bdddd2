-- How often the lines of a script change names, and what that says of the device's calls.
use Rattle.std.specs.Prelude.{ℕ, ◌+◌, ◌*◌, ◌≤◌, List, [], ◌∷◌}
use Rattle.apex_types.specs.Rows.{Rows}
use Rattle.apex_types.specs.declared.calls.Line.{Line}
use Rattle.apex_model.specs.FailedReads.{world_after_line}
use Rattle.apex_model.specs.World.{World}
use Rattle.module_session.specs.Naming.{name_change}
use Rattle.module_session.specs.Sessions.{StandsFor, reply_in}
use Rattle.module_session.specs.declared.session.Session.{Session}
use Rattle.rig_core.specs.Outside.{Outside}

-- how many lines change names, where no read fails
abbrev pub name_changes : Rows → World → List Line → ℕ
name_changes table w [] = 0
name_changes table w (line ∷ lines) =
    name_change line.deed (reply_in table [] w line)
    + name_changes table (world_after_line table [] w line) lines

-- Where cuts are kept and the rig tells its view, the clock rose by four at least for each change of
-- names that some lines make, in each world that the session stood for.
abbrev pub CountsNames : Type 0 → Type 0 → Rows → List Line → Session → Outside → Outside → Type 0
CountsNames keeps_cuts tells_view table done first o e =
    keeps_cuts → tells_view → (w : World) → StandsFor tells_view o first w
    → o.clock + 4 * name_changes table w done ≤ e.clock
