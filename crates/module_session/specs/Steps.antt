-- What a line does to a session.
use Rattle.std.specs.Prelude.{◌≡◌, ◌⊎◌, ◌+◌, ◌*◌, ◌==◌, if◌then◌else◌, Option, Result, IfOk, OnOk, OnErr, ⊤}
use Rattle.std.specs.Option.{ForSome}
use Rattle.apex_types.specs.declared.calls.Deed.{Deed}
use Rattle.apex_types.specs.declared.calls.Deed.TheVariants as deed
use Rattle.apex_types.specs.declared.calls.Line.{Line}
use Rattle.apex_types.specs.declared.replies.Reply.{Reply}
use Rattle.apex_model.specs.Durable.{IsCutDuring}
use Rattle.apex_model.specs.Layout.{layout_blocks}
use Rattle.apex_model.specs.World.{World}
use Rattle.rig_core.specs.Causes.{Rose}
use Rattle.rig_core.specs.Outside.{Outside, MakesAtMost}
use Rattle.rig_core.specs.Runs.{Runs, Shows}
use Rattle.rig_core.specs.declared.source.DeviceFault.{DeviceFault}
use Rattle.logbook_store.specs.Moves.{moving_count}
use Rattle.service_parts.specs.Told.{IsTellable}
use Rattle.image_layout.specs.Ready.{Stores}
use Rattle.module_session.specs.Sessions.{IsCarriedOut, IsEarly, IsOfLogbooks, IsReady, StandsFor, table_of_session}
use Rattle.module_session.specs.declared.session.Session.{Session}

-- In a tick at most three writes are made for each logbook that has a message in progress, and three
-- syncs for all of them; none of either where none has one.
abbrev pub MovesFew : Deed → Session → Outside → Outside → Type 0
MovesFew (deed.Tick n) session o e =
    MakesAtMost (3 * moving_count session.logs) (if moving_count session.logs == 0 then 0 else 3) 0 o e
MovesFew (deed.Partition p c) session o e = ⊤

-- A line was taken up on a rig that went from o to e.
pub record IsTaken (tells_view : Type 0) (line : Line) (old new : Session) (o e : Outside)
    (result : Result (Option Reply) DeviceFault) : Type 0 where
  pub table : table_of_session new ≡ table_of_session old
  pub early : OnOk result (IsEarly (line.number + 1) new)
  pub ready : OnOk result (IsReady tells_view e new)
  pub carried_out : IfOk result (IsCarriedOut tells_view (Rose o.read_faults e.read_faults)
      (table_of_session old) line old new o e)
  pub moments : (w : World) → StandsFor tells_view o old w → Shows tells_view
      (Stores (table_of_session old) (IsCutDuring (table_of_session old) w line.deed)) o e
  pub runs : Runs tells_view 0 (512 * layout_blocks (table_of_session old)) 96 3 o e
  pub moves : MovesFew line.deed old o e
  pub cause : OnErr result (Rose o.write_faults e.write_faults
      ⊎ (IsOfLogbooks line.deed × Rose o.read_faults e.read_faults))
  pub tellable : IfOk result (λ reply. ForSome reply IsTellable)
