-- From one line of a script to the next.
use Rattle.std.proofs.Common.{◌≡◌, ◌≢◌, false, inl, inr, ⊎_elim, ◌⊎◌, ℕ, ◌+◌, ◌<◌, ◌≤◌, List, [], ◌∷◌, ◌++◌, length, length-append, refl, sym, ap, ◌∙◌, subst, arith, append_assoc, append-nil, suc}
use Rattle.std.specs.Prelude.{take, drop, slice_get, Option, Some}
use Rattle.std.specs.List.{AllByRecursion}
use Rattle.std.proofs.lemmas.Option.{slice_get_within}
use Rattle.apex_types.specs.Rows.{Rows}
use Rattle.apex_types.specs.declared.calls.Line.{Line}
use Rattle.apex_types.specs.declared.replies.Reply.{Reply}
use Rattle.apex_model.specs.Accepted.{IsAccepted}
use Rattle.apex_model.specs.Durable.{Durable, IsCut, IsCutDuring}
use Rattle.apex_model.specs.FailedReads.{is_among, world_after_line}
use Rattle.apex_model.specs.Laws.{StepKeepsValid}
use Rattle.apex_model.specs.Lines.{IsLineOf}
use Rattle.apex_model.specs.Run.{fault_line, replies_to, text_of, world_after_all}
use Rattle.apex_model.specs.ToldText.{fault_text}
use Rattle.apex_model.specs.Validity.{IsValid}
use Rattle.apex_model.specs.World.{World}
use Rattle.image_layout.specs.Ready.{Stores}
use Rattle.model_laws.specs.RunText.{ReplyLinesTell}
use Rattle.module_session.specs.Sessions.{table_of_session, reply_in, AreFailures, IsCarriedOut, IsEarly, IsOfLogbooks, IsReady, StandsFor}
use Rattle.module_session.specs.declared.session.Session.{Session}
use Rattle.module_session.proofs.Ready.{session_in_step, ready_after_told, stands_after_told}
use Rattle.recover_scan.proofs.Changes.{later_same, later_then}
use Rattle.rig_core.specs.Causes.{Rose}
use Rattle.rig_core.specs.Outside.{Outside, AllNow, Sound, Later}
use Rattle.rig_core.specs.Runs.{Runs, Shows}
use Rattle.rig_core.proofs.Moments.{leaves_now, pairs_none, pairs_then}
use Rattle.script_model.specs.Numbering.{AreNumbered}
use Rattle.script_run.specs.Chosen.{told_to}
use Rattle.script_run.specs.Pairs.{every_teller, IsPair}
use Rattle.script_run.specs.Reached.{RoseBy, IsDue, LeavesRunPairs, Reached, FailsIn, Halts, replies_due, fault_due, StopsTelling}
use Rattle.script_run.specs.Told.{told_line, TellsText}
use Rattle.script_run.proofs.Choice.{own-text, all-told}
use Rattle.script_run.proofs.Moments.{Tells, tells-all, says-left, silent-pairs, told-pairs, during-left, fault-left, reply-left, AnyFailed, pairs-of_all}
use Rattle.script_run.proofs.OneLine.{drop-line, none-or, world-more, text-more, failures-more}
use Rattle.script_run.proofs.Parts.{part-after, back-some, rose-after}
use Rattle.script_run.proofs.Rising.{IsNoneOr, above, behind-line, higher-not}
use Rattle.script_run.proofs.Worlds.{cut-as_begins, lines-valid}

-- ---- counts

rose-by_later : (n a b c : ℕ) → RoseBy n a b → b ≤ c → RoseBy n a c
rose-by_later n a b c by le = omega arith

rose-by_more : (n a b c : ℕ) → RoseBy n a b → Rose b c → RoseBy (n + 1) a c
rose-by_more n a b c by rose = omega arith

few-more : (failed : List ℕ) (line : Line) (reply : Option Reply) (more : List ℕ) (a b c d : ℕ) → RoseBy (length failed) a b → b ≤ c → c ≤ d → AreFailures (Rose b c) line reply more → RoseBy (length (failed ++ more)) a d
few-more failed line reply more a b c d by le on (inl none) =
    subst (λ (ns : List ℕ). RoseBy (length ns) a d) (sym (ap (λ (ns : List ℕ). failed ++ ns) none ∙ append-nil failed)) (rose-by_later (length failed) a b d by (omega (arith, le, on)))
few-more failed line reply more a b c d by le on (inr one) =
    let long : length (failed ++ more) ≡ length failed + 1 = length-append failed more ∙ ap (λ (ns : List ℕ). length failed + length ns) one.0 in
    subst (λ n. RoseBy n a d) (sym long) (rose-by_later (length failed + 1) a c d (rose-by_more (length failed) a b c by one.2) on)

-- ---- what a call of a session and a tell do

-- A line was carried out, from one session and device to the next.
pub record Steps (tells_view : Type 0) (table : Rows) (line : Line) (session next : Session) (reply : Option Reply) (o e : Outside) : Type 0 where
  pub later : Later o e
  pub quiet : e.told ≡ o.told
  pub ready : IsReady tells_view e next
  pub same_table : table_of_session next ≡ table
  pub carried : IsCarriedOut tells_view (Rose o.read_faults e.read_faults) table line session next o e reply

-- what a cut leaves meanwhile
abbrev pub ShowsLine : Type 0 → Rows → Line → Session → Outside → Outside → Type 0
ShowsLine tells_view table line session o e = (w : World) → StandsFor tells_view o session w → Shows tells_view (Stores table (IsCutDuring table w line.deed)) o e

-- a step's clauses, said of the table that all lines have
pub made-steps : {V : Type 0} {n : ℕ} (table own : Rows) (line : Line) (session next : Session) (reply : Option Reply) (o e : Outside) → own ≡ table → Runs V 0 n 96 3 o e → IsReady V e next → table_of_session next ≡ own
    → IsCarriedOut V (Rose o.read_faults e.read_faults) own line session next o e reply → Steps V table line session next reply o e
made-steps {V} table own line session next reply o e same runs ready kept carried = record {
  later = runs.later;
  quiet = runs.outside.told;
  ready = ready;
  same_table = kept ∙ same;
  carried = subst (λ (t : Rows). IsCarriedOut V (Rose o.read_faults e.read_faults) t line session next o e reply) same carried;
}

pub made-moments : {V : Type 0} (table own : Rows) (line : Line) (session : Session) (o e : Outside) → own ≡ table → ShowsLine V own line session o e → ShowsLine V table line session o e
made-moments {V} table own line session o e same moments = subst (λ (t : Rows). ShowsLine V t line session o e) same moments

-- what holds of each state of the device
abbrev pub AreSound : Type 0 → Type 0 → Outside → Outside → Outside → Type 0
AreSound tells_view keeps_cuts o m e = Sound tells_view keeps_cuts o × Sound tells_view keeps_cuts m × Sound tells_view keeps_cuts e

-- ---- before the first line

pub none-ahead : (lines : List Line) → AllByRecursion (λ line. is_among [] line.number ≡ false) lines
none-ahead [] = tt
none-ahead (line ∷ lines) = (refl, none-ahead lines)

-- a session that is early for one number is so for each above it
pub early-above : (n : ℕ) (session : Session) (lines : List Line) → IsEarly (n + 1) session → AllByRecursion (λ line. n < line.number) lines → AllByRecursion (λ line. IsEarly line.number session) lines
early-above n session [] early h = tt
early-above n session (line ∷ lines) early h = (let a = h.0 in omega (arith, early, a), early-above n session lines early h.1)

-- and so for the line that is next
pub first-early : (lines : List Line) (k : ℕ) (line : Line) (session : Session) → slice_get lines k ≡ Some line → AllByRecursion (λ l. IsEarly l.number session) (drop k lines) → IsEarly line.number session
first-early lines k line session at early = (subst (λ (ls : List Line). AllByRecursion (λ l. IsEarly l.number session) ls) (drop-line lines k line at) early).0

pub reached-none : {T V K : Type 0} → StepKeepsValid → (lines : List Line) (first : Session) (o : Outside) → Sound V K o → IsReady V o first → IsEarly 1 first → AreNumbered lines → Reached T V (table_of_session first) lines 0 first o first o
reached-none {T} {V} {K} step lines first o sound ready early rise =
    let table = table_of_session first in
    record {
      ready = ready;
      same_table = refl;
      failed = [];
      due = [];
      is_due = record { within = omega arith; few = omega arith; text = λ v w stands. refl; failures = λ v w stands valid. refl };
      ahead = none-ahead lines;
      early = early-above 0 first lines early (above 0 lines rise);
      stands = λ w stands. stands;
      told = λ t. sym (append-nil o.told);
      later = later_same o;
      pairs = λ t v w stands valid. pairs_none (IsPair table w lines o.told) o (λ image told now.
          let has = (session_in_step V K o first w sound ready stands v).0 image told now in
          let pair : IsPair table w lines o.told image told = record {
            more = [];
            told_is = sound.told_now image told now ∙ sym (append-nil o.told);
            stores = (
              has.0,
              has.1,
              says-left table w lines 0 [] [] has.0 (omega arith) (record { failures = refl; replies = refl })
                  (cut-as_begins step table ready.accepted w lines has.0 valid has.2),
            );
          } in pair);
    }

-- ---- a line after the first k

pub fault-some : (number : ℕ) → fault_line number ≢ []
fault-some number = back-some (fault_text number) (10 ∷ []) (λ e. let w : ◌≡◌ {A = List ℕ} (10 ∷ []) [] = e in cc)

-- The lines of a script for a table, of which the first k were carried out, and the one that is next.
pub record AtLine (T V : Type 0) (table : Rows) (lines : List Line) (first : Session) (o : Outside) (k : ℕ) (line : Line) (session : Session) (m : Outside) : Type 0 where
  pub step : StepKeepsValid
  pub law : ReplyLinesTell
  pub accepted : IsAccepted table
  pub are : AllByRecursion (IsLineOf table) lines
  pub rise : AreNumbered lines
  pub at : slice_get lines k ≡ Some line
  pub reached : Reached T V table lines k first o session m

module _ (T V K : Type 0) (table : Rows) (lines : List Line) (first : Session) (o : Outside) (k : ℕ) (line : Line) (session : Session) (m : Outside) (is_at : AtLine T V table lines first o k line session m) where
  abbrev reached : Reached T V table lines k first o session m
  reached = is_at.reached

  -- the world that the line is carried out in
  abbrev here : World → World
  here w = world_after_all table reached.failed w (take k lines)

  tells-here : V → (w : World) → StandsFor V o first w → IsValid table w → Tells every_teller lines k reached.failed reached.due
  tells-here v w stands valid =
      tells-all is_at.law table reached.failed w lines k reached.due is_at.accepted valid is_at.are reached.is_due.within (reached.is_due.text v w stands) (reached.is_due.failures v w stands valid)

  -- the device was called, and nothing was told
  pub step-pairs : (m2 : Outside) → Sound V K m → ShowsLine V table line session m m2 → LeavesRunPairs T V table lines first o m2
  step-pairs m2 sound moments = λ t v w stands valid.
      pairs_then (IsPair table w lines o.told) o m m2 (reached.pairs t v w stands valid)
      (pairs-of_all table w lines o.told m m2 t
      (silent-pairs AnyFailed every_teller table w lines o.told reached.due (IsCutDuring table (here w) line.deed) m m2 sound reached.told
      (during-left is_at.step is_at.law AnyFailed every_teller table is_at.accepted w valid lines is_at.are k line is_at.at reached.failed tt reached.due (tells-here v w stands valid))
      ((moments (here w) (reached.stands w stands)).any_moment v)))

  -- the fault was told
  pub fault-pairs : (m2 e : Outside) → AreSound V K m m2 e → m2.told ≡ m.told → ShowsLine V table line session m m2 → TellsText T V (fault_line line.number) m2 e → LeavesRunPairs T V table lines first o e
  fault-pairs m2 e sound quiet moments tell = λ t v w stands valid.
      let P : Durable → Type 0 = IsCutDuring table (here w) line.deed in
      pairs_then (IsPair table w lines o.told) o m2 e (step-pairs m2 sound.0 moments t v w stands valid)
      (pairs-of_all table w lines o.told m2 e t
      (told-pairs AnyFailed every_teller table w lines o.told reached.due P m2 e sound.1 (λ u. quiet ∙ reached.told u) (fault_line line.number) tell.later.clock tell.cuts
      (leaves_now (Stores table P) m m2 sound.1 ((moments (here w) (reached.stands w stands)).any_moment v))
      (fault-left is_at.step is_at.law AnyFailed every_teller table is_at.accepted w valid lines is_at.are k line is_at.at reached.failed tt reached.due (tells-here v w stands valid))))

  -- what was due is due still, for the lines before this one
  due-still : (e : Outside) → m.read_faults ≤ e.read_faults → IsDue V table lines k first o e reached.failed reached.due
  due-still e le = record {
    within = reached.is_due.within;
    few = rose-by_later (length reached.failed) o.read_faults m.read_faults e.read_faults reached.is_due.few le;
    text = reached.is_due.text;
    failures = reached.is_due.failures;
  }

  module _ (next : Session) (reply : Option Reply) (m2 e : Outside) (sound : AreSound V K m m2 e) (steps : Steps V table line session next reply m m2)
      (moments : ShowsLine V table line session m m2) (tell : TellsText T V (told_line line.number reply) m2 e) where
    abbrev more : List ℕ
    more = steps.carried.failed

    abbrev all_failed : List ℕ
    all_failed = reached.failed ++ more

    abbrev text : List ℕ
    text = reached.due ++ told_line line.number reply

    is : IsNoneOr line.number more
    is = none-or (Rose m.read_faults m2.read_faults) line reply more steps.carried.failures

    next-world : (w : World) → world_after_all table all_failed w (take (k + 1) lines) ≡ world_after_line table more (here w) line
    next-world w = world-more table reached.failed more lines k line is_at.at is_at.rise is reached.ahead w

    reply-is : V → (w : World) → StandsFor V o first w → reply ≡ reply_in table more (here w) line
    reply-is v w stands = steps.carried.reply_is (here w) (reached.stands w stands) v

    due-more : IsDue V table lines (k + 1) first o e all_failed text
    due-more = record {
      within = (let lt = slice_get_within lines k line is_at.at in omega (arith, lt));
      few = few-more reached.failed line reply more o.read_faults m.read_faults m2.read_faults e.read_faults reached.is_due.few steps.later.read_faults tell.later.read_faults steps.carried.failures;
      text = λ v w stands. text-more table reached.failed more lines k line is_at.at is_at.rise is reached.ahead w reached.due reply (reached.is_due.text v w stands) (reply-is v w stands);
      failures = λ v w stands valid. failures-more table reached.failed more lines k line is_at.at is_at.rise is reached.ahead w (Rose m.read_faults m2.read_faults) reply
          (lines-valid is_at.step table is_at.accepted reached.failed w (take k lines) valid) steps.carried.failures (reply-is v w stands) (reached.is_due.failures v w stands valid);
    }

    pub reply-pairs : LeavesRunPairs T V table lines first o e
    reply-pairs = λ t v w stands valid.
        let there = world_after_line table more (here w) line in
        let stands_next = steps.carried.stands (here w) (reached.stands w stands) in
        let all = (session_in_step V K m2 next there sound.1 steps.ready stands_next v).0 in
        let Q : Rows → Type 0 = λ r. AllNow (Stores r (IsCut there)) m2 in
        let told : Tells every_teller lines (k + 1) all_failed text =
        tells-all is_at.law table all_failed w lines (k + 1) text is_at.accepted valid is_at.are due-more.within (due-more.text v w stands) (due-more.failures v w stands valid) in
        let own : told_line line.number reply ≡ text_of (told_to every_teller (replies_to table more (here w) (line ∷ []))) =
        sym (own-text table more (here w) line reply (reply-is v w stands)) ∙ ap text_of (sym (all-told (replies_to table more (here w) (line ∷ [])))) in
        pairs_then (IsPair table w lines o.told) o m2 e (step-pairs m2 sound.0 moments t v w stands valid)
        (pairs-of_all table w lines o.told m2 e t
        (told-pairs AnyFailed every_teller table w lines o.told reached.due (IsCut there) m2 e sound.1 (λ u. steps.quiet ∙ reached.told u) (told_line line.number reply) tell.later.clock tell.cuts
        (subst Q steps.same_table all)
        (reply-left is_at.step is_at.law AnyFailed every_teller table is_at.accepted w valid lines is_at.are k line is_at.at reached.failed tt reached.due (tells-here v w stands valid) more all_failed tt
        (told_line line.number reply) (next-world w) own told)))

    -- the lines to come have higher numbers
    higher : AllByRecursion (λ later. line.number < later.number) (drop (k + 1) lines)
    higher = subst (λ n. AllByRecursion (λ later. line.number < later.number) (drop n lines)) (let e : suc k ≡ k + 1 = omega arith in e) (behind-line 0 lines k line is_at.rise is_at.at)

    pub reached-line : IsEarly (line.number + 1) next → (T → e.told ≡ m2.told ++ told_line line.number reply) → Reached T V table lines (k + 1) first o next e
    reached-line early told = record {
      ready = ready_after_told V K (told_line line.number reply) m2 e next sound.1 sound.2 steps.ready tell.later tell.view tell.cuts;
      same_table = steps.same_table;
      failed = all_failed;
      due = text;
      is_due = due-more;
      ahead = (
          let rest = subst (λ (ls : List Line). AllByRecursion (λ l. is_among reached.failed l.number ≡ false) ls) (drop-line lines k line is_at.at) reached.ahead in
          higher-not reached.failed line.number more (drop (k + 1) lines) is higher rest.1);
      early = early-above line.number next (drop (k + 1) lines) early higher;
      stands = λ w stands. stands_after_told V K (told_line line.number reply) m2 e next sound.1 sound.2 steps.ready tell.later tell.view tell.cuts (world_after_all table all_failed w (take (k + 1) lines))
          (let P : World → Type 0 = λ u. StandsFor V m2 next u in subst P (sym (next-world w)) (steps.carried.stands (here w) (reached.stands w stands)));
      told = λ t. told t ∙ ap (λ (x : List ℕ). x ++ told_line line.number reply) (steps.quiet ∙ reached.told t) ∙ append_assoc o.told reached.due (told_line line.number reply);
      later = later_then o m2 e (later_then o m m2 reached.later steps.later) tell.later;
      pairs = reply-pairs;
    }

    -- telling the reply failed
    pub stops-reply : told_line line.number reply ≢ [] → Rose m2.tell_faults e.tell_faults → StopsTelling T V table lines first o e
    stops-reply some rose = record {
      due = text;
      something = back-some reached.due (told_line line.number reply) some;
      is_due = replies_due (k + 1) all_failed text due-more;
      rose = rose-after o.tell_faults m2.tell_faults e.tell_faults e.tell_faults (let a = reached.later.tell_faults in let b = steps.later.tell_faults in omega (arith, a, b)) rose (omega arith);
      part = λ t. part-after o.told m2.told e.told reached.due (told_line line.number reply) (steps.quiet ∙ reached.told t) (tell.part t);
    }

  -- ---- the device failed in the line

  module _ (m2 e : Outside) (later : Later m m2) (quiet : m2.told ≡ m.told) (cause : Rose m.write_faults m2.write_faults ⊎ (IsOfLogbooks line.deed × Rose m.read_faults m2.read_faults))
      (tell : TellsText T V (fault_line line.number) m2 e) where
    fails : FailsIn V table lines first o e line reached.due
    fails = record {
      k = k;
      at = is_at.at;
      failed = reached.failed;
      is_due = due-still e (let a = later.read_faults in let b = tell.later.read_faults in omega (arith, a, b));
      cause = ⊎_elim (λ rose. inl (rose-after o.write_faults m.write_faults m2.write_faults e.write_faults reached.later.write_faults rose tell.later.write_faults))
          (λ read. inr (read.0, rose-after o.read_faults m.read_faults m2.read_faults e.read_faults reached.later.read_faults read.1 tell.later.read_faults)) cause;
    }

    pub halts : (T → e.told ≡ m2.told ++ fault_line line.number) → Halts T V table lines first o e
    halts told = record {
      line = line;
      due = reached.due;
      fails = fails;
      told = λ t. told t ∙ ap (λ (x : List ℕ). x ++ fault_line line.number) (quiet ∙ reached.told t) ∙ append_assoc o.told reached.due (fault_line line.number);
    }

    pub stops-fault : Rose m2.tell_faults e.tell_faults → StopsTelling T V table lines first o e
    stops-fault rose = record {
      due = reached.due ++ fault_line line.number;
      something = back-some reached.due (fault_line line.number) (fault-some line.number);
      is_due = fault_due line reached.due fails;
      rose = rose-after o.tell_faults m2.tell_faults e.tell_faults e.tell_faults (let a = reached.later.tell_faults in let b = later.tell_faults in omega (arith, a, b)) rose (omega arith);
      part = λ t. part-after o.told m2.told e.told reached.due (fault_line line.number) (quiet ∙ reached.told t) (tell.part t);
    }
