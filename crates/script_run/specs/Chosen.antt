-- Lines of a script of which only the replies to some partitions are told, and in which no read
-- fails: what is told, and what a cut leaves.
use Rattle.std.specs.Prelude.{◌≡◌, ◌≢◌, ◌⊎◌, ℕ, ◌≤◌, ◌==◌, Bool, false, List, [], ◌++◌, length, take, filter, count_by, slice_get, Option, Some, None}
use Rattle.apex_types.specs.Rows.{Rows}
use Rattle.apex_types.specs.declared.calls.Line.{Line}
use Rattle.apex_types.specs.declared.numbers.PartitionId.{PartitionId}
use Rattle.apex_model.specs.Moments.{is_told}
use Rattle.apex_model.specs.Run.{Told, fault_line, text_of, replies_to, world_after_all}
use Rattle.apex_model.specs.ToldText.{replies_in}
use Rattle.apex_model.specs.Validity.{IsValid}
use Rattle.apex_model.specs.World.{World}
use Rattle.image_layout.specs.Ready.{Stores}
use Rattle.module_session.specs.Sessions.{table_of_session, IsReady, StandsFor}
use Rattle.module_session.specs.declared.session.Session.{Session}
use Rattle.rig_core.specs.Causes.{Rose}
use Rattle.rig_core.specs.Leaves.{LeavesPairs}
use Rattle.rig_core.specs.Outside.{Outside, IsToldPart}
use Rattle.script_run.specs.Pairs.{IsLeftAt}

-- whether a partition's replies are told, where a partition's are or nobody's
abbrev pub is_hearer : Option PartitionId → ℕ → Bool
is_hearer None q = false
is_hearer (Some p) q = q == p.0

-- the replies to these partitions
abbrev pub told_to : (ℕ → Bool) → List Told → List Told
told_to tellers replies = filter (λ told. tellers told.partition) replies

-- In each world that the session stood for, this is the text of the replies of some lines to these
-- partitions, where no read fails.
abbrev pub IsOwnText : Type 0 → Rows → List Line → (ℕ → Bool) → Session → Outside → List ℕ
    → Type 0
IsOwnText tells_view table done tellers first o due =
    tells_view → (w : World) → StandsFor tells_view o first w
    → due ≡ text_of (told_to tellers (replies_to table [] w done))

-- ---- what a cut leaves

-- A cut leaves the image at the line that comes behind the first few, or at the end. Where the rig
-- tells its text, that holds as many replies as those few lines have to these partitions.
pub record IsOwnPair (tells_text : Type 0) (table : Rows) (w : World) (lines : List Line)
    (tellers : ℕ → Bool) (before image told : List ℕ) : Type 0 where
  pub done : ℕ
  pub within : done ≤ length lines
  pub says : tells_text → (more : List ℕ) × (told ≡ before ++ more)
      × (count_by (is_told tellers) (take done lines) ≡ replies_in more)
  pub stores : Stores table (IsLeftAt table w lines done []) image

-- at every moment a cut leaves an image and a text told that go together
abbrev pub LeavesOwnPairs : Type 0 → Type 0 → Rows → List Line → (ℕ → Bool) → Session → Outside
    → Outside → Type 0
LeavesOwnPairs tells_text tells_view table lines tellers first o e =
    tells_view → (w : World) → StandsFor tells_view o first w → IsValid table w
    → LeavesPairs (IsOwnPair tells_text table w lines tellers o.told) o e

-- ---- how far the lines were carried out

-- Some lines were carried out, from a session and a device on, and of their replies those to these
-- partitions were told. No read failed.
pub record Served (tells_text tells_view : Type 0) (table : Rows) (done : List Line)
    (tellers : ℕ → Bool) (first : Session) (o : Outside) (session : Session) (e : Outside)
    : Type 0 where
  pub ready : IsReady tells_view e session
  pub same_table : table_of_session session ≡ table
  pub stands : (w : World) → StandsFor tells_view o first w
      → StandsFor tells_view e session (world_after_all table [] w done)
  pub due : List ℕ
  pub text : IsOwnText tells_view table done tellers first o due
  pub told : tells_text → e.told ≡ o.told ++ due

-- The device failed in a line: in a write, a sync or a read. This text was due for the lines before
-- it.
pub record FailsAt (tells_view : Type 0) (table : Rows) (lines : List Line) (tellers : ℕ → Bool)
    (first : Session) (o e : Outside) (line : Line) (due : List ℕ) : Type 0 where
  pub k : ℕ
  pub at : slice_get lines k ≡ Some line
  pub text : IsOwnText tells_view table (take k lines) tellers first o due
  pub cause : Rose o.write_faults e.write_faults ⊎ Rose o.read_faults e.read_faults

-- It failed in the line of a number, and that was not told.
pub record HaltsAt (tells_text tells_view : Type 0) (table : Rows) (lines : List Line)
    (tellers : ℕ → Bool) (first : Session) (o e : Outside) (number : ℕ) : Type 0 where
  pub line : Line
  pub due : List ℕ
  pub fails : FailsAt tells_view table lines tellers first o e line due
  pub number_is : line.number ≡ number
  pub told : tells_text → e.told ≡ o.told ++ due

-- It failed in a line, and that was told.
pub record HaltsHeard (tells_text tells_view : Type 0) (table : Rows) (lines : List Line)
    (tellers : ℕ → Bool) (first : Session) (o e : Outside) : Type 0 where
  pub line : Line
  pub due : List ℕ
  pub fails : FailsAt tells_view table lines tellers first o e line due
  pub told : tells_text → e.told ≡ o.told ++ (due ++ fault_line line.number)

-- Telling failed behind a part of the text that was due for some first lines.
pub record StopsAt (tells_text tells_view : Type 0) (table : Rows) (lines : List Line)
    (tellers : ℕ → Bool) (first : Session) (o e : Outside) : Type 0 where
  pub k : ℕ
  pub within : k ≤ length lines
  pub due : List ℕ
  pub something : due ≢ []
  pub text : IsOwnText tells_view table (take k lines) tellers first o due
  pub rose : Rose o.tell_faults e.tell_faults
  pub part : tells_text → IsToldPart due o.told e.told

-- The text that is due where telling fails: the replies of some first lines, or those before a line
-- in which the device failed, and that it did.
pub data IsDueHeard (tells_view : Type 0) (table : Rows) (lines : List Line) (tellers : ℕ → Bool)
    (first : Session) (o e : Outside) : List ℕ → Type 0 where
  own_due : (k : ℕ) (due : List ℕ) → k ≤ length lines
      → IsOwnText tells_view table (take k lines) tellers first o due
      → IsDueHeard tells_view table lines tellers first o e due
  halt_due : (line : Line) (due : List ℕ)
      → FailsAt tells_view table lines tellers first o e line due
      → IsDueHeard tells_view table lines tellers first o e (due ++ fault_line line.number)

-- Telling failed behind a part of what was due.
pub record StopsHearing (tells_text tells_view : Type 0) (table : Rows) (lines : List Line)
    (tellers : ℕ → Bool) (first : Session) (o e : Outside) : Type 0 where
  pub due : List ℕ
  pub something : due ≢ []
  pub is_due : IsDueHeard tells_view table lines tellers first o e due
  pub rose : Rose o.tell_faults e.tell_faults
  pub part : tells_text → IsToldPart due o.told e.told
