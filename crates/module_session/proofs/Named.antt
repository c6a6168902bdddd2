-- What the reply to a call of a line says of the device's counts.
use Rattle.std.proofs.Common.{◌≡◌, ℕ, ◌+◌, ◌*◌, ◌≤◌, Bool, true, false, ◌&&◌, refl, sym, ap, subst, ◌∙◌, arith, Some}
use Rattle.std.specs.Prelude.{if◌then◌else◌}
use Rattle.std.specs.Option.{ForSome}
use Rattle.std.proofs.lemmas.Bool.{false≢true}
use Rattle.apex_types.specs.declared.calls.Call.{Call}
use Rattle.apex_types.specs.declared.calls.Deed.{Deed}
use Rattle.apex_types.specs.declared.calls.Deed.TheVariants as deed
use Rattle.apex_types.specs.declared.codes.ReturnCode.{ReturnCode}
use Rattle.apex_types.specs.declared.codes.ReturnCode.TheVariants.{NoError, NoAction, NotAvailable, InvalidParam, InvalidConfig, InvalidMode, TimedOut}
use Rattle.apex_types.specs.declared.numbers.PartitionId.{PartitionId}
use Rattle.apex_types.specs.declared.replies.Reply.{Reply}
use Rattle.apex_model.specs.FailedReads.{reads_file}
use Rattle.rig_core.specs.Outside.{Outside}
use Rattle.service_parts.specs.Serving.{EioOnlyIfRead}
use Rattle.module_session.specs.Naming.{is_naming, is_no_error, name_change}
use Rattle.module_session.specs.Sessions.{reads_in}

no-error : (code : ReturnCode) → is_no_error code ≡ true → code ≡ NoError
no-error NoError is = refl
no-error NoAction is = absurd (false≢true is)
no-error NotAvailable is = absurd (false≢true is)
no-error InvalidParam is = absurd (false≢true is)
no-error InvalidConfig is = absurd (false≢true is)
no-error InvalidMode is = absurd (false≢true is)
no-error TimedOut is = absurd (false≢true is)

by-tests : (naming done : Bool) (before now : ℕ) → before ≤ now → (naming ≡ true → done ≡ true → before + 4 ≤ now) → before + 4 * (if naming && done then 1 else 0) ≤ now
by-tests true true before now later more = let four = more refl refl in omega (arith, four)
by-tests true false before now later more = omega (arith, later)
by-tests false done before now later more = omega (arith, later)

module _ (o e : Outside) (d : Deed) (p : PartitionId) (c : Call) (told : Reply) (is : d ≡ deed.Partition p c) where
  -- the clock rose by four for a change of names that was done
  pub line_named : (K : Type 0) → o.clock ≤ e.clock → (is_naming c ≡ true → K → told.code ≡ NoError → o.clock + 4 ≤ e.clock) → K → o.clock + 4 * name_change d (Some told) ≤ e.clock
  line_named K later names kept =
      subst (λ (x : Deed). o.clock + 4 * name_change x (Some told) ≤ e.clock) (sym is)
      (by-tests (is_naming c) (is_no_error told.code) o.clock e.clock later (λ naming done. names naming kept (no-error told.code done)))

  -- a reply of EIO has its cause
  pub line_unread : (reads_file c ≡ true → EioOnlyIfRead o e told) → reads_in d ≡ true → ForSome (Some told) (EioOnlyIfRead o e)
  line_unread only reads = λ reply same. let one : told ≡ reply = cc in subst (EioOnlyIfRead o e) one (only (ap reads_in (sym is) ∙ reads))
