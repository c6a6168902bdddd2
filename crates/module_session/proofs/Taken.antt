-- A call of a partition, as a line that was taken up.
use Rattle.std.proofs.Common.{◌≡◌, inl, inr, ⊎_elim, ℕ, ◌+◌, Bool, true, false, ◌||◌, ◌&&◌, [], ◌∷◌, refl, sym, ap, subst, ◌∙◌, arith, Option, Some}
use Rattle.std.specs.Prelude.{Err, IsErr, Ok, Result, ◌==◌}
use Rattle.std.proofs.lemmas.Bool.{false≢true}
use Rattle.std.proofs.lemmas.Bool.Decides.{nat_tests}
use Rattle.apex_types.specs.declared.calls.Call.{Call}
use Rattle.apex_types.specs.declared.calls.Deed.{Deed}
use Rattle.apex_types.specs.declared.calls.Deed.TheVariants as deed
use Rattle.apex_types.specs.declared.calls.Line.{Line}
use Rattle.apex_types.specs.declared.codes.Errno.TheVariants.{Eio}
use Rattle.apex_types.specs.declared.numbers.PartitionId.{PartitionId}
use Rattle.apex_types.specs.declared.replies.Reply.{Reply}
use Rattle.apex_model.specs.FailedReads.{is_among, reads_file, by_read, call_outcome}
use Rattle.apex_model.specs.Outcomes.{Outcome, refuse, reply_of, state_after}
use Rattle.apex_model.specs.World.{World, call_step}
use Rattle.rig_core.specs.Causes.{Rose}
use Rattle.rig_core.specs.Outside.{Outside}
use Rattle.rig_core.specs.declared.source.DeviceFault.{DeviceFault}
use Rattle.service_parts.specs.Told.{IsTellable}
use Rattle.tree_store.specs.Serving.{IsAccepting}
use Rattle.module_session.specs.Calls.{IsCallTaken, IsReplied, IsUnread}
use Rattle.module_session.specs.Sessions.{IsCarriedOut, IsEarly, StandsFor}
use Rattle.module_session.specs.Steps.{IsTaken}
use Rattle.module_session.specs.declared.session.Session.{Session}

is_own : (n : ℕ) → is_among (n ∷ []) n ≡ true
is_own n = let same : (n == n) ≡ true = grind (arith, nat_tests) in ap (λ (b : Bool). b || false) same

module _ (V : Type 0) (o e : Outside) (old new : Session) (number : ℕ) (p : PartitionId) (c : Call) where
  abbrev own : Line
  own = record { number = number; deed = deed.Partition p c }

  -- where its read failed in a line of its own
  failed_outcome : (w : World) → reads_file c ≡ true → IsAccepting (call_step old.table w p.0 c) → call_outcome old.table (number ∷ []) w number p.0 c ≡ refuse Eio
  failed_outcome w reads accepting = let among = is_own number in λ i. by_read (among i && reads i) (accepting.2 i)

  replied : (told : Reply) → IsReplied V p.0 c old new o e told → IsCarriedOut V (Rose o.read_faults e.read_faults) old.table own old new o e (Some told)
  replied told answer = record {
    failed = [];
    failures = inl refl;
    reply_is = λ w stands tells. ap (λ (r : Reply). Some r) ((answer w stands).0 tells);
    stands = λ w stands. (answer w stands).1;
  }

  unread : (told : Reply) → IsUnread V p.0 c old new o e told → IsCarriedOut V (Rose o.read_faults e.read_faults) old.table own old new o e (Some told)
  unread told failure =
      let outcome : (w : World) → StandsFor V o old w → call_outcome old.table (number ∷ []) w number p.0 c ≡ refuse Eio = λ w stands.
      failed_outcome w failure.reads (failure.unchanged w stands).0 in
      record {
        failed = number ∷ [];
        failures = inr (refl, ap (λ (r : Reply). Some r) failure.told_is, failure.cause, failure.reads);
        reply_is = λ w stands tells. ap (λ (r : Reply). Some r) (failure.told_is ∙ ap (λ (o : Outcome World). reply_of o) (sym (outcome w stands)));
        stands = λ w stands. subst (λ (o : Outcome World). StandsFor V e new (state_after w o)) (sym (outcome w stands)) (failure.unchanged w stands).1;
      }

  -- a line that is early is so for the next, where the time stays
  still_early : new.time ≡ old.time → IsEarly number old → IsEarly (number + 1) new
  still_early same early = omega (arith, same, early)

  own_taken : (told : Reply) → IsEarly number old → IsCallTaken V p c old new o e (Ok told) → IsTaken V own old new o e (Ok (Some told))
  own_taken told early taken = record {
    table = taken.table;
    early = still_early taken.time early;
    ready = taken.ready;
    carried_out = ⊎_elim (λ answer. replied told answer) (λ failure. unread told failure) taken.told;
    moments = taken.moments;
    runs = taken.runs;
    moves = tt;
    cause = tt;
    tellable = λ r is. let same : told ≡ r = cc in subst IsTellable same taken.tellable;
  }

  own_failed : (fault : DeviceFault) (result : Result (Option Reply) DeviceFault) → IsErr result → IsCallTaken V p c old new o e (Err fault) → IsTaken V own old new o e result
  own_failed fault (Ok reply) err taken = absurd (false≢true err)
  own_failed fault (Err other) err taken = record {
    table = taken.table;
    early = tt;
    ready = tt;
    carried_out = tt;
    moments = taken.moments;
    runs = taken.runs;
    moves = tt;
    cause = taken.cause;
    tellable = tt;
  }

-- the same of the line that has it
module _ (V : Type 0) (o e : Outside) (old new : Session) (line : Line) (p : PartitionId) (c : Call) (is : line.deed ≡ deed.Partition p c) where
  as_line : (result : Result (Option Reply) DeviceFault) → IsTaken V (record { number = line.number; deed = deed.Partition p c }) old new o e result → IsTaken V line old new o e result
  as_line result taken = subst (λ (d : Deed). IsTaken V (record { number = line.number; deed = d }) old new o e result) (sym is) taken

  pub line_taken : (told : Reply) → IsEarly line.number old → IsCallTaken V p c old new o e (Ok told) → IsTaken V line old new o e (Ok (Some told))
  line_taken told early taken = as_line (Ok (Some told)) (own_taken V o e old new line.number p c told early taken)

  pub line_failed : (fault : DeviceFault) (result : Result (Option Reply) DeviceFault) → IsErr result → IsCallTaken V p c old new o e (Err fault) → IsTaken V line old new o e result
  line_failed fault result err taken = as_line result (own_failed V o e old new line.number p c fault result err taken)
