-- That the device failed in a line is told to the one that hears the replies.
use Rattle.std.proofs.Common.{◌≡◌, inl, inr, ⊎_elim, ℕ, ◌≤◌, Bool, List, [], ◌++◌, length, refl, sym, ap, ◌∙◌, subst, arith, append_assoc}
use Rattle.std.specs.Prelude.{take, count_by}
use Rattle.std.specs.List.{AllByRecursion}
use Rattle.std.proofs.lemmas.List.{append_cancel_left}
use Rattle.std.proofs.lemmas.Option.{slice_get_within}
use Rattle.apex_types.specs.Rows.{Rows}
use Rattle.apex_types.specs.declared.calls.Line.{Line}
use Rattle.apex_model.specs.Accepted.{IsAccepted}
use Rattle.apex_model.specs.Lines.{IsLineOf}
use Rattle.apex_model.specs.Moments.{is_told}
use Rattle.apex_model.specs.Run.{replies_to, fault_line}
use Rattle.apex_model.specs.ToldText.{replies_in}
use Rattle.apex_model.specs.Validity.{IsValid}
use Rattle.apex_model.specs.World.{World}
use Rattle.apex_model.proofs.AcceptedTables.{all_at}
use Rattle.model_laws.specs.RunText.{ReplyLinesTell, failures_of}
use Rattle.module_session.specs.Sessions.{StandsFor}
use Rattle.module_session.specs.declared.session.Session.{Session}
use Rattle.rig_core.specs.Causes.{Rose}
use Rattle.rig_core.specs.Outside.{Outside, AllNow, IsToldPart, Later, Sound}
use Rattle.rig_core.proofs.Moments.{pairs_then, pairs_told, pairs_weaker}
use Rattle.script_run.specs.Chosen.{told_to, IsOwnPair, LeavesOwnPairs, FailsAt, HaltsAt, HaltsHeard, StopsAt, own_due, halt_due, StopsHearing}
use Rattle.script_run.specs.Told.{TellsText}
use Rattle.script_run.proofs.Moments.{Tells, tells-lines}
use Rattle.script_run.proofs.Parts.{part-after, back-some, rose-after}
use Rattle.script_run.proofs.Texts.{says-front_of_fault}
use Rattle.script_run.proofs.Turns.{fault-some}

-- telling the replies failed
pub stops-heard : {T V : Type 0} (table : Rows) (lines : List Line) (tellers : ℕ → Bool) (first : Session) (o e : Outside) → StopsAt T V table lines tellers first o e → StopsHearing T V table lines tellers first o e
stops-heard table lines tellers first o e stops = record {
  due = stops.due;
  something = stops.something;
  is_due = own_due stops.k stops.due stops.within stops.text;
  rose = stops.rose;
  part = stops.part;
}

-- a line of a script for a table has a number that fits
pub halt-few : {T V : Type 0} (table : Rows) (lines : List Line) (tellers : ℕ → Bool) (first : Session) (o m : Outside) (number : ℕ) → AllByRecursion (IsLineOf table) lines
    → HaltsAt T V table lines tellers first o m number → number ≤ 20000
halt-few table lines tellers first o m number are halts = subst (λ n. n ≤ 20000) halts.number_is (all_at (IsLineOf table) lines halts.fails.k halts.line are halts.fails.at).few

-- The device failed in the line of a number, and that was told, or a part of it.
module _ (T V K : Type 0) (table : Rows) (lines : List Line) (tellers : ℕ → Bool) (first : Session) (o m e : Outside) (number : ℕ) (halts : HaltsAt T V table lines tellers first o m number)
    (tell : TellsText T V (fault_line number) m e) where
  fails-still : FailsAt V table lines tellers first o e halts.line halts.due
  fails-still = record {
    k = halts.fails.k;
    at = halts.fails.at;
    text = halts.fails.text;
    cause = ⊎_elim (λ rose. inl (rose-after o.write_faults o.write_faults m.write_faults e.write_faults (omega arith) rose tell.later.write_faults))
        (λ rose. inr (rose-after o.read_faults o.read_faults m.read_faults e.read_faults (omega arith) rose tell.later.read_faults)) halts.fails.cause;
  }

  same-line : fault_line number ≡ fault_line halts.line.number
  same-line = ap fault_line (sym halts.number_is)

  pub halts-heard : (T → e.told ≡ m.told ++ fault_line number) → HaltsHeard T V table lines tellers first o e
  halts-heard told = record {
    line = halts.line;
    due = halts.due;
    fails = fails-still;
    told = λ t. told t ∙ (λ i. halts.told t i ++ same-line i) ∙ append_assoc o.told halts.due (fault_line halts.line.number);
  }

  pub stops-fault_heard : Later o m → Rose m.tell_faults e.tell_faults → StopsHearing T V table lines tellers first o e
  stops-fault_heard later rose = record {
    due = halts.due ++ fault_line halts.line.number;
    something = back-some halts.due (fault_line halts.line.number) (fault-some halts.line.number);
    is_due = halt_due halts.line halts.due fails-still;
    rose = rose-after o.tell_faults m.tell_faults e.tell_faults e.tell_faults later.tell_faults rose (omega arith);
    part = λ t. part-after o.told m.told e.told halts.due (fault_line halts.line.number) (halts.told t) (subst (λ (line : List ℕ). IsToldPart line m.told e.told) same-line (tell.part t));
  }

  module _ (law : ReplyLinesTell) (accepted : IsAccepted table) (are : AllByRecursion (IsLineOf table) lines) where
    tells-halt : V → (w : World) → StandsFor V o first w → IsValid table w → Tells tellers lines halts.fails.k (failures_of (told_to tellers (replies_to table [] w (take halts.fails.k lines)))) halts.due
    tells-halt v w stands valid =
        let within : halts.fails.k ≤ length lines = (let lt = slice_get_within lines halts.fails.k halts.line halts.fails.at in omega (arith, lt)) in
        tells-lines law tellers table [] (failures_of (told_to tellers (replies_to table [] w (take halts.fails.k lines)))) w lines halts.fails.k halts.due accepted valid are within (halts.fails.text v w stands) refl

    -- a front of the fault's line tells no reply
    same-count : V → (w : World) → StandsFor V o first w → IsValid table w → (front back : List ℕ) → front ++ back ≡ fault_line number → replies_in (halts.due ++ front) ≡ replies_in halts.due
    same-count v w stands valid front back is =
        let tells = tells-halt v w stands valid in
        let failed = failures_of (told_to tellers (replies_to table [] w (take halts.fails.k lines))) in
        let n = count_by (is_told tellers) (take halts.fails.k lines) in
        (says-front_of_fault halts.due failed n number (halt-few table lines tellers first o m number are halts) tells.whole tells.says front back is).replies ∙ sym tells.says.replies

    pair-more : V → (w : World) → StandsFor V o first w → IsValid table w → (image told : List ℕ) → IsOwnPair T table w lines tellers o.told image m.told → IsToldPart (fault_line number) m.told told
        → IsOwnPair T table w lines tellers o.told image told
    pair-more v w stands valid image told pair part = record {
      done = pair.done;
      within = pair.within;
      says = λ t.
          let says = pair.says t in
          let own : says.0 ≡ halts.due = append_cancel_left o.told says.0 halts.due (sym says.1 ∙ halts.told t) in
          let same : replies_in (says.0 ++ part.0) ≡ replies_in says.0 = subst (λ (x : List ℕ). replies_in (x ++ part.0) ≡ replies_in x) (sym own) (same-count v w stands valid part.0 part.1 part.2) in
          (says.0 ++ part.0, part.3 ∙ ap (λ (x : List ℕ). x ++ part.0) says.1 ∙ append_assoc o.told says.0 part.0, says.2 ∙ sym same);
      stores = pair.stores;
    }

    pub heard-fault_pairs : Sound V K m → LeavesOwnPairs T V table lines tellers first o m → LeavesOwnPairs T V table lines tellers first o e
    heard-fault_pairs sound pairs = λ v w stands valid.
        let Pair : List ℕ → List ℕ → Type 0 = IsOwnPair T table w lines tellers o.told in
        let run = pairs v w stands valid in
        let all : AllNow (λ image. Pair image m.told) m =
        λ image told now. subst (Pair image) (sound.told_now image told now) (run.each image told (sound.from_later o.clock m.clock image told run.clock now)) in
        pairs_then Pair o m e run
        (pairs_weaker (λ image told. Pair image m.told × IsToldPart (fault_line number) m.told told) Pair m e (λ image told has. pair-more v w stands valid image told has.0 has.1)
        (pairs_told (λ image. Pair image m.told) (fault_line number) m e sound tell.later.clock tell.cuts all))
