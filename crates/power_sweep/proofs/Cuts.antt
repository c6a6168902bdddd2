-- What a cut leaves behind a run from the empty image.
use Rattle.std.proofs.Common.{◌≡◌, ℕ, Bool, List, subst}
use Rattle.apex_types.specs.Rows.{Rows}
use Rattle.apex_types.specs.declared.calls.Line.{Line}
use Rattle.apex_model.specs.Durable.{empty_durable, start}
use Rattle.apex_model.specs.Validity.{IsValid}
use Rattle.module_session.specs.Sessions.{StandsFor}
use Rattle.module_session.specs.declared.session.Session.{Session}
use Rattle.rig_core.specs.Outside.{Outside, AllNow, Sound}
use Rattle.script_run.specs.Chosen.{LeavesOwnPairs}
use Rattle.power_sweep.specs.Cuts.{IsLeftImage}

-- each image that a cut now may leave was left at some moment of the run
left_of : (T V K : Type 0) (table : Rows) (lines : List Line) (tellers : ℕ → Bool) (session : Session) (o e : Outside) → V → Sound V K e → LeavesOwnPairs T V table lines tellers session o e
    → StandsFor V o session (start table (empty_durable table)) → IsValid table (start table (empty_durable table)) → AllNow (IsLeftImage table lines) e
left_of T V K table lines tellers session o e tells sound leaves stands valid = λ image told now.
    let pairs = leaves tells (start table (empty_durable table)) stands valid in
    let pair = pairs.each image told (sound.from_later o.clock e.clock image told pairs.clock now) in
    (pair.stores.0, pair.stores.1, record { done = pair.done; within = pair.within; left = pair.stores.2 })

pub left_behind : (T V K : Type 0) (table held : Rows) (lines : List Line) (tellers : ℕ → Bool) (session : Session) (o e : Outside) → V → Sound V K e → held ≡ table → LeavesOwnPairs T V held lines tellers session o e
    → StandsFor V o session (start table (empty_durable table)) → IsValid table (start table (empty_durable table)) → AllNow (IsLeftImage table lines) e
left_behind T V K table held lines tellers session o e tells sound same leaves =
    left_of T V K table lines tellers session o e tells sound (subst (λ (t : Rows). LeavesOwnPairs T V t lines tellers session o e) same leaves)
