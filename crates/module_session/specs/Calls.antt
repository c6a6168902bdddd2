-- What a call of a partition comes to, in the words of the whole world.
use Rattle.std.specs.Prelude.{◌≡◌, ◌⊎◌, ℕ, ◌*◌, true, Result, IfOk, OnOk, OnErr}
use Rattle.apex_types.specs.declared.calls.Call.{Call}
use Rattle.apex_types.specs.declared.calls.Deed.TheVariants as deed
use Rattle.apex_types.specs.declared.calls.Mode.{Mode}
use Rattle.apex_types.specs.declared.codes.Errno.TheVariants.{Eio}
use Rattle.apex_types.specs.declared.numbers.PartitionId.{PartitionId}
use Rattle.apex_types.specs.declared.replies.Reply.{Reply}
use Rattle.apex_model.specs.Durable.{IsCutDuring}
use Rattle.apex_model.specs.FailedReads.{reads_file}
use Rattle.apex_model.specs.Layout.{layout_blocks}
use Rattle.apex_model.specs.Outcomes.{refusal, reply_of, state_after}
use Rattle.apex_model.specs.World.{World, call_step, restarted}
use Rattle.rig_core.specs.Causes.{Rose}
use Rattle.rig_core.specs.Outside.{Outside}
use Rattle.rig_core.specs.Runs.{Runs, Shows}
use Rattle.rig_core.specs.declared.source.DeviceFault.{DeviceFault}
use Rattle.tree_store.specs.Serving.{IsAccepting}
use Rattle.service_parts.specs.Told.{IsTellable}
use Rattle.image_layout.specs.Ready.{Stores}
use Rattle.module_session.specs.Sessions.{IsOfLogbooks, IsReady, StandsFor, table_of_session}
use Rattle.module_session.specs.declared.session.Session.{Session}

-- This was told: the reply of the definitions, and the session stands for the world after it.
abbrev pub IsReplied : Type 0 → ℕ → Call → Session → Session → Outside → Outside → Reply → Type 0
IsReplied tells_view p c old new o e told =
    (w : World) → StandsFor tells_view o old w
    → (tells_view → told ≡ reply_of (call_step (table_of_session old) w p c))
    × StandsFor tells_view e new (state_after w (call_step (table_of_session old) w p c))

-- That a read failed was told, where the definitions accept the call; the session stands for the
-- world before.
pub record IsUnread (tells_view : Type 0) (p : ℕ) (c : Call) (old new : Session) (o e : Outside)
    (told : Reply) : Type 0 where
  pub told_is : told ≡ refusal Eio
  pub reads : reads_file c ≡ true
  pub cause : Rose o.read_faults e.read_faults
  pub unchanged : (w : World) → StandsFor tells_view o old w
      → IsAccepting (call_step (table_of_session old) w p c) × StandsFor tells_view e new w

-- A call of a partition was carried out on a rig that went from o to e.
pub record IsCallTaken (tells_view : Type 0) (p : PartitionId) (c : Call) (old new : Session)
    (o e : Outside) (result : Result Reply DeviceFault) : Type 0 where
  pub table : table_of_session new ≡ table_of_session old
  pub time : new.time ≡ old.time
  pub ready : OnOk result (IsReady tells_view e new)
  pub told : IfOk result (λ told. IsReplied tells_view p.0 c old new o e told
      ⊎ IsUnread tells_view p.0 c old new o e told)
  pub moments : (w : World) → StandsFor tells_view o old w → Shows tells_view
      (Stores (table_of_session old)
      (IsCutDuring (table_of_session old) w (deed.Partition p c))) o e
  pub runs : Runs tells_view 0 (512 * layout_blocks (table_of_session old)) 96 3 o e
  pub cause : OnErr result (Rose o.write_faults e.write_faults
      ⊎ (IsOfLogbooks (deed.Partition p c) × Rose o.read_faults e.read_faults))
  pub tellable : IfOk result IsTellable

-- A partition started again in a mode: the session can go on, and stands for the world in which it
-- did.
pub record IsRestarted (tells_view : Type 0) (p : ℕ) (mode : Mode) (old new : Session)
    (o : Outside) : Type 0 where
  pub table : table_of_session new ≡ table_of_session old
  pub time : new.time ≡ old.time
  pub ready : IsReady tells_view o new
  pub stands : (w : World) → StandsFor tells_view o old w
      → StandsFor tells_view o new (restarted (table_of_session old) w p mode)
