-- What a session stands for, when it can carry out a line, and what carrying one out comes to.
use Rattle.std.specs.Prelude.{◌≡◌, ◌⊎◌, ℕ, ◌+◌, ◌*◌, ◌≤◌, Bool, true, false, List, [], ◌∷◌, length, Option, Some, None, ⊤}
use Rattle.apex_types.specs.Rows.{Rows}
use Rattle.apex_types.specs.declared.calls.Call.TheVariants as call
use Rattle.apex_types.specs.declared.calls.Deed.{Deed}
use Rattle.apex_types.specs.declared.calls.Deed.TheVariants as deed
use Rattle.apex_types.specs.declared.calls.Line.{Line}
use Rattle.apex_types.specs.declared.codes.Errno.TheVariants.{Eio}
use Rattle.apex_types.specs.declared.replies.Reply.{Reply}
use Rattle.apex_model.specs.Accepted.{IsAccepted}
use Rattle.apex_model.specs.FailedReads.{call_outcome, reads_file, world_after_line}
use Rattle.apex_model.specs.Outcomes.{refusal, reply_of}
use Rattle.apex_model.specs.World.{World}
use Rattle.rig_core.specs.Outside.{Outside}
use Rattle.logbook_services.specs.Standing as logbooks
use Rattle.sampling_ext.specs.Standing as ports
use Rattle.tree_store.specs.Serving.{AreOfTable, AreServing}
use Rattle.image_layout.specs.Ready.{AreInStep, StandForWorld}
use Rattle.module_session.specs.declared.session.Session.{Session}

-- ---- a session

-- the table that it was started with
abbrev pub table_of_session : Session → Rows
table_of_session session = session.table

-- whether a step was not carried out, so that it isn't used again
abbrev pub has_failed : Session → Bool
has_failed session = session.failed

-- Before the line of this number fewer ticks went by than lines before it can ask for.
abbrev pub IsEarly : ℕ → Session → Type 0
IsEarly number session = session.time + 100000 ≤ 100000 * number

-- Its parts stand for those of the world: trees with handles, logbooks, ports, and the modes and
-- contexts of the partitions. Of logbooks it holds where the rig tells its view.
pub record StandsFor (tells_view : Type 0) (o : Outside) (session : Session) (w : World) : Type 0
  where
    pub parts : StandForWorld tells_view o session.trees session.handles session.logs w
    pub created : tells_view → session.made ≡ w.logbooks.created
    pub ports : ports.Stands session.table session.ports w.ports
    pub partitions : session.partitions ≡ w.partitions
    pub time : session.time ≡ w.time

-- The session can carry out a line: it hasn't failed, it is in step with the device, and its parts
-- are those of the table and stand for valid ones.
pub record IsReady (tells_view : Type 0) (o : Outside) (session : Session) : Type 0 where
  pub alive : has_failed session ≡ false
  pub accepted : IsAccepted session.table
  pub in_step : AreInStep tells_view session.table o session.trees session.logs
  pub of_table : AreOfTable session.table session.trees session.handles
  pub files : AreServing tells_view o session.table session.trees session.handles
  pub marks : length session.made ≡ length session.table.logbooks
  pub logbooks : tells_view
      → logbooks.IsServing session.table session.logs session.made o.view
  pub ports : ports.IsServing session.table session.time session.ports
  pub partitions : length session.partitions ≡ length session.table.partitions

-- ---- a line

-- a tick or a call of logbooks: in it a read that fails ends the run
abbrev pub IsOfLogbooks : Deed → Type 0
IsOfLogbooks (deed.Tick n) = ⊤
IsOfLogbooks (deed.Partition p (call.Logbook c)) = ⊤
IsOfLogbooks (deed.Partition p _) = ⊥

-- the reply to a line, where the reads of these lines failed
abbrev pub reply_in : Rows → List ℕ → World → Line → Option Reply
reply_in table failed w line = elim line.deed [
  | deed.Tick n ↦ None
  | deed.Partition p c ↦ Some (reply_of (call_outcome table failed w line.number p.0 c))
]

-- whether a line is a call that may need to read a file's content
abbrev pub reads_in : Deed → Bool
reads_in (deed.Tick n) = false
reads_in (deed.Partition p c) = reads_file c

-- No read failed; or one did in this line, and that was told.
abbrev pub AreFailures : Type 0 → Line → Option Reply → List ℕ → Type 0
AreFailures reads line reply failed =
    (failed ≡ [])
    ⊎ ((failed ≡ line.number ∷ []) × (reply ≡ Some (refusal Eio)) × reads
    × (reads_in line.deed ≡ true))

-- The line was carried out, and this is its reply: that of the definitions, with the line among
-- those whose read failed or not.
pub record IsCarriedOut (tells_view reads : Type 0) (table : Rows) (line : Line)
    (old new : Session) (o e : Outside) (reply : Option Reply) : Type 0 where
  pub failed : List ℕ
  pub failures : AreFailures reads line reply failed
  pub reply_is : (w : World) → StandsFor tells_view o old w → tells_view
      → reply ≡ reply_in table failed w line
  pub stands : (w : World) → StandsFor tells_view o old w
      → StandsFor tells_view e new (world_after_line table failed w line)
