-- How far a script was carried out on a device, and what was told.
use Rattle.std.specs.Prelude.{◌≡◌, ◌≢◌, ◌⊎◌, ℕ, ◌+◌, ◌≤◌, min, false, List, [], ◌++◌, length, take, drop, slice_get, Some}
use Rattle.std.specs.List.{AllByRecursion}
use Rattle.apex_types.specs.Rows.{Rows}
use Rattle.apex_types.specs.declared.calls.Line.{Line}
use Rattle.apex_model.specs.FailedReads.{is_among}
use Rattle.apex_model.specs.Run.{fault_line, text_of, replies_to, world_after_all}
use Rattle.apex_model.specs.Validity.{IsValid}
use Rattle.apex_model.specs.World.{World}
use Rattle.model_laws.specs.RunText.{failures_of}
use Rattle.module_session.specs.Sessions.{table_of_session, IsEarly, IsOfLogbooks, IsReady, StandsFor}
use Rattle.module_session.specs.declared.session.Session.{Session}
use Rattle.rig_core.specs.Causes.{last_count, Rose}
use Rattle.rig_core.specs.Leaves.{LeavesPairs}
use Rattle.rig_core.specs.Outside.{Outside, Later, IsToldPart}
use Rattle.script_run.specs.Pairs.{IsPair}

-- a count rose by so many at least, or it stands at its last value
abbrev pub RoseBy : ℕ → ℕ → ℕ → Type 0
RoseBy n before now = min (before + n) last_count ≤ now

-- A text that is due for the first k lines. In each world that the session stood for it is that of
-- their replies, where the reads of these lines failed: each of those is told with EIO, and so many
-- reads of the device failed.
pub record IsDue (tells_view : Type 0) (table : Rows) (lines : List Line) (k : ℕ) (first : Session)
    (o e : Outside) (failed due : List ℕ) : Type 0 where
  pub within : k ≤ length lines
  pub few : RoseBy (length failed) o.read_faults e.read_faults
  pub text : tells_view → (w : World) → StandsFor tells_view o first w
      → due ≡ text_of (replies_to table failed w (take k lines))
  pub failures : tells_view → (w : World) → StandsFor tells_view o first w → IsValid table w
      → failures_of (replies_to table failed w (take k lines)) ≡ failed

-- at every moment a cut leaves an image and a text told that go together
abbrev pub LeavesRunPairs : Type 0 → Type 0 → Rows → List Line → Session → Outside → Outside
    → Type 0
LeavesRunPairs tells_text tells_view table lines first o e =
    tells_text → tells_view → (w : World) → StandsFor tells_view o first w → IsValid table w
    → LeavesPairs (IsPair table w lines o.told) o e

-- The first k lines of a script were carried out and told, from a session and a device on.
pub record Reached (tells_text tells_view : Type 0) (table : Rows) (lines : List Line) (k : ℕ)
    (first : Session) (o : Outside) (session : Session) (e : Outside) : Type 0 where
  pub ready : IsReady tells_view e session
  pub same_table : table_of_session session ≡ table
  pub failed : List ℕ
  pub due : List ℕ
  pub is_due : IsDue tells_view table lines k first o e failed due
  -- no line that is still to come is among the failed
  pub ahead : AllByRecursion (λ line. is_among failed line.number ≡ false) (drop k lines)
  -- and each of them is early for the session
  pub early : AllByRecursion (λ line. IsEarly line.number session) (drop k lines)
  pub stands : (w : World) → StandsFor tells_view o first w
      → StandsFor tells_view e session (world_after_all table failed w (take k lines))
  pub told : tells_text → e.told ≡ o.told ++ due
  pub later : Later o e
  pub pairs : LeavesRunPairs tells_text tells_view table lines first o e

-- The device failed in a line, in a write or a sync, or in a read of a tick or of a call of logbooks.
-- This text was due for the lines before it.
pub record FailsIn (tells_view : Type 0) (table : Rows) (lines : List Line) (first : Session)
    (o e : Outside) (line : Line) (due : List ℕ) : Type 0 where
  pub k : ℕ
  pub at : slice_get lines k ≡ Some line
  pub failed : List ℕ
  pub is_due : IsDue tells_view table lines k first o e failed due
  pub cause : Rose o.write_faults e.write_faults
      ⊎ (IsOfLogbooks line.deed × Rose o.read_faults e.read_faults)

-- And that was told.
pub record Halts (tells_text tells_view : Type 0) (table : Rows) (lines : List Line)
    (first : Session) (o e : Outside) : Type 0 where
  pub line : Line
  pub due : List ℕ
  pub fails : FailsIn tells_view table lines first o e line due
  pub told : tells_text → e.told ≡ o.told ++ (due ++ fault_line line.number)

-- The text that is due where telling fails: the replies of some first lines, or those before a line
-- in which the device failed, and that it did.
pub data IsDueAtStop (tells_view : Type 0) (table : Rows) (lines : List Line) (first : Session)
    (o e : Outside) : List ℕ → Type 0 where
  replies_due : (k : ℕ) (failed due : List ℕ) → IsDue tells_view table lines k first o e failed due
      → IsDueAtStop tells_view table lines first o e due
  fault_due : (line : Line) (due : List ℕ) → FailsIn tells_view table lines first o e line due
      → IsDueAtStop tells_view table lines first o e (due ++ fault_line line.number)

-- Telling failed behind a part of what was due.
pub record StopsTelling (tells_text tells_view : Type 0) (table : Rows) (lines : List Line)
    (first : Session) (o e : Outside) : Type 0 where
  pub due : List ℕ
  pub something : due ≢ []
  pub is_due : IsDueAtStop tells_view table lines first o e due
  pub rose : Rose o.tell_faults e.tell_faults
  pub part : tells_text → IsToldPart due o.told e.told
