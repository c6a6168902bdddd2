-- From one line to the next, where only the replies to some partitions are told and no read fails.
use Rattle.std.proofs.Common.{◌≡◌, ◌≢◌, inl, inr, ⊎_elim, ◌⊎◌, ℕ, ◌+◌, ◌*◌, ◌<◌, ◌≤◌, Bool, true, false, List, [], ◌∷◌, ◌++◌, length, refl, sym, ap, ◌∙◌, subst, arith, append_assoc, append-nil, suc}
use Rattle.std.specs.Prelude.{if◌then◌else◌, map, take, drop, slice_get, Option, Some, None}
use Rattle.std.specs.List.{AllByRecursion}
use Rattle.std.proofs.lemmas.List.Elements.{filter-append}
use Rattle.std.proofs.lemmas.Option.{slice_get_within}
use Rattle.apex_types.specs.Rows.{Rows}
use Rattle.apex_types.specs.declared.calls.Deed.{Deed}
use Rattle.apex_types.specs.declared.calls.Deed.TheVariants as deed
use Rattle.apex_types.specs.declared.calls.Line.{Line}
use Rattle.apex_types.specs.declared.replies.Reply.{Reply}
use Rattle.apex_model.specs.Accepted.{IsAccepted}
use Rattle.apex_model.specs.Durable.{IsCut, IsCutDuring}
use Rattle.apex_model.specs.FailedReads.{world_after_line}
use Rattle.apex_model.specs.Laws.{StepKeepsValid}
use Rattle.apex_model.specs.Lines.{IsLineOf}
use Rattle.apex_model.specs.Outcomes.{reply_of}
use Rattle.apex_model.specs.Run.{Told, text_of, told_for, replies_to, world_after_all}
use Rattle.apex_model.specs.Validity.{IsValid}
use Rattle.apex_model.specs.World.{World, call_step}
use Rattle.image_layout.specs.Ready.{Stores}
use Rattle.model_laws.specs.RunText.{ReplyLinesTell, is_failure, failures_of}
use Rattle.model_laws.proofs.PlainSteps.{call_step-plain}
use Rattle.module_session.specs.Naming.{name_change}
use Rattle.module_session.specs.Sessions.{table_of_session, reply_in, IsEarly, IsReady, StandsFor}
use Rattle.module_session.specs.declared.session.Session.{Session}
use Rattle.module_session.proofs.Ready.{session_in_step, ready_after_told, stands_after_told}
use Rattle.recover_scan.proofs.Changes.{later_same, later_then}
use Rattle.rig_core.specs.Causes.{Rose}
use Rattle.rig_core.specs.Outside.{Outside, AllNow, Sound, Later}
use Rattle.rig_core.proofs.Moments.{pairs_none, pairs_then}
use Rattle.script_model.specs.Numbering.{AreNumbered}
use Rattle.script_run.specs.Chosen.{told_to, IsOwnPair, LeavesOwnPairs, Served, HaltsAt, StopsAt}
use Rattle.script_run.specs.Heard.{heard_text, IsPlainlyDone}
use Rattle.script_run.specs.Names.{CountsNames}
use Rattle.script_run.specs.Tally.{tally_of, IsTallyOf, IsWithin}
use Rattle.script_run.specs.Told.{TellsText}
use Rattle.script_run.specs.declared.tally.Tally.{Tally}
use Rattle.script_run.proofs.Choice.{heard-own}
use Rattle.script_run.proofs.Moments.{Tells, tells-lines, silent-pairs, told-pairs, during-left, reply-left, NoneFailed, pairs-of_own}
use Rattle.script_run.proofs.Names.{names-more}
use Rattle.script_run.proofs.OneLine.{failures-append, text-append, replies-more, world-more}
use Rattle.script_run.proofs.Parts.{part-after, back-some, rose-after}
use Rattle.script_run.proofs.Rising.{above, behind-line}
use Rattle.script_run.proofs.Turns.{AreSound, ShowsLine, none-ahead, early-above}
use Rattle.script_run.proofs.Worlds.{cut-as_begins, line-valid, lines-valid}

-- ---- no reply is that of a failed read

one-failure : (b : Bool) (told : Told) → is_failure told ≡ false → failures_of (if b then told ∷ [] else []) ≡ []
one-failure true told plain = ap (λ c. map (λ (t : Told). t.number) (if c then told ∷ [] else [])) plain
one-failure false told plain = refl

deed-failures : (tellers : ℕ → Bool) (table : Rows) (w : World) (number : ℕ) (d : Deed) → IsValid table w → failures_of (told_to tellers (told_for table [] w number d)) ≡ []
deed-failures tellers table w number (deed.Tick n) v = refl
deed-failures tellers table w number (deed.Partition p c) v =
    one-failure (tellers p.0) (record { number = number; partition = p.0; reply = reply_of (call_step table w p.0 c) }) (call_step-plain table w p.0 c v.files).errno

no-failures : StepKeepsValid → (tellers : ℕ → Bool) (table : Rows) (w : World) (lines : List Line) → IsAccepted table → IsValid table w → failures_of (told_to tellers (replies_to table [] w lines)) ≡ []
no-failures step tellers table w [] accepted v = refl
no-failures step tellers table w (line ∷ lines) accepted v =
    let next = world_after_line table [] w line in
    let own = told_for table [] w line.number line.deed in
    let rest = replies_to table [] next lines in
    ap failures_of (filter-append (λ (told : Told). tellers told.partition) own rest)
    ∙ failures-append (told_to tellers own) (told_to tellers rest)
    ∙ (λ i. deed-failures tellers table w line.number line.deed v i ++ no-failures step tellers table next lines accepted (line-valid step table accepted [] w line v) i)

-- ---- the tally of one line more

count-deed : (table : Rows) (w : World) (number : ℕ) (d : Deed) (reply : Option Reply) (old new : Tally) (replies : List Told) → reply ≡ reply_in table [] w (record { number = number; deed = d })
    → old ≡ tally_of replies → (reply ≡ None → new ≡ old)
    → ((before : List Told) (told : Told) → reply ≡ Some told.reply → old ≡ tally_of before → new ≡ tally_of (before ++ told ∷ []))
    → new ≡ tally_of (replies ++ replies_to table [] w (record { number = number; deed = d } ∷ []))
count-deed table w number (deed.Tick n) reply old new replies is was none some = none is ∙ was ∙ ap tally_of (sym (append-nil replies))
count-deed table w number (deed.Partition p c) reply old new replies is was none some =
    some replies (record { number = number; partition = p.0; reply = reply_of (call_step table w p.0 c) }) is was

-- ---- how far the lines were carried out

-- The first k lines were carried out, those to come are early, and at every moment a cut left an image and a text told that go together.
pub record ReachedFor (T V : Type 0) (table : Rows) (lines : List Line) (tellers : ℕ → Bool) (k : ℕ) (first : Session) (o : Outside) (session : Session) (tally : Tally) (e : Outside) : Type 0 where
  pub within : k ≤ length lines
  pub served : Served T V table (take k lines) tellers first o session e
  pub early : AllByRecursion (λ line. IsEarly line.number session) (drop k lines)
  pub later : Later o e
  pub tallied : IsTallyOf V table (take k lines) first o tally
  pub few : IsWithin k tally
  pub pairs : LeavesOwnPairs T V table lines tellers first o e

none-within : IsWithin 0 (tally_of [])
none-within = record { replies = omega arith; no_error = omega arith; no_action = omega arith; not_available = omega arith; invalid_param = omega arith; invalid_config = omega arith; invalid_mode = omega arith; data_bytes = omega arith }

pub reached-none_for : {T V K : Type 0} → StepKeepsValid → (lines : List Line) (tellers : ℕ → Bool) (first : Session) (o : Outside) (tally : Tally) → Sound V K o → IsReady V o first → IsEarly 1 first → AreNumbered lines
    → tally ≡ tally_of [] → ReachedFor T V (table_of_session first) lines tellers 0 first o first tally o
reached-none_for {T} {V} {K} step lines tellers first o tally sound ready early rise none =
    let table = table_of_session first in
    record {
      within = omega arith;
      served = record { ready = ready; same_table = refl; stands = λ w stands. stands; due = []; text = λ v w stands. refl; told = λ t. sym (append-nil o.told) };
      early = early-above 0 first lines early (above 0 lines rise);
      later = later_same o;
      tallied = λ v w stands. none;
      few = subst (IsWithin 0) (sym none) none-within;
      pairs = λ v w stands valid. pairs_none (IsOwnPair T table w lines tellers o.told) o (λ image told now.
          let has = (session_in_step V K o first w sound ready stands v).0 image told now in
          let pair : IsOwnPair T table w lines tellers o.told image told = record {
            done = 0;
            within = omega arith;
            says = λ t. ([], sound.told_now image told now ∙ sym (append-nil o.told), refl);
            stores = (has.0, has.1, cut-as_begins step table ready.accepted w lines has.0 valid has.2);
          } in pair);
    }

-- ---- a line after the first k

-- A line was carried out and no read failed in it, from one session and device to the next.
pub record PlainSteps (V : Type 0) (table : Rows) (line : Line) (session next : Session) (reply : Option Reply) (o e : Outside) : Type 0 where
  pub later : Later o e
  pub quiet : e.told ≡ o.told
  pub ready : IsReady V e next
  pub same_table : table_of_session next ≡ table
  pub early : IsEarly (line.number + 1) next
  pub done : IsPlainlyDone V table line session next o e reply

pub made-plain : {V : Type 0} (table own : Rows) (line : Line) (session next : Session) (reply : Option Reply) (o e : Outside) → own ≡ table → Later o e → e.told ≡ o.told → IsReady V e next → table_of_session next ≡ own
    → IsEarly (line.number + 1) next → IsPlainlyDone V own line session next o e reply → PlainSteps V table line session next reply o e
made-plain {V} table own line session next reply o e same later quiet ready kept early done = record {
  later = later;
  quiet = quiet;
  ready = ready;
  same_table = kept ∙ same;
  early = early;
  done = subst (λ (t : Rows). IsPlainlyDone V t line session next o e reply) same done;
}

-- why the device failed in a line
abbrev pub HasFailed : Outside → Outside → Type 0
HasFailed o e = Rose o.write_faults e.write_faults ⊎ Rose o.read_faults e.read_faults

-- The lines of a script for a table, of which the first k were carried out, and the one that is next.
pub record AtOwn (T V : Type 0) (table : Rows) (lines : List Line) (tellers : ℕ → Bool) (first : Session) (o : Outside) (k : ℕ) (line : Line) (session : Session) (tally : Tally) (m : Outside) : Type 0 where
  pub step : StepKeepsValid
  pub law : ReplyLinesTell
  pub accepted : IsAccepted table
  pub are : AllByRecursion (IsLineOf table) lines
  pub rise : AreNumbered lines
  pub at : slice_get lines k ≡ Some line
  pub reached : ReachedFor T V table lines tellers k first o session tally m

module _ (T V K : Type 0) (table : Rows) (lines : List Line) (tellers : ℕ → Bool) (first : Session) (o : Outside) (k : ℕ) (line : Line) (session : Session) (tally : Tally) (m : Outside)
    (is_at : AtOwn T V table lines tellers first o k line session tally m) where
  abbrev served : Served T V table (take k lines) tellers first o session m
  served = is_at.reached.served

  -- the world that the line is carried out in
  abbrev here : World → World
  here w = world_after_all table [] w (take k lines)

  tells-here : V → (w : World) → StandsFor V o first w → IsValid table w → Tells tellers lines k [] served.due
  tells-here v w stands valid =
      tells-lines is_at.law tellers table [] [] w lines k served.due is_at.accepted valid is_at.are is_at.reached.within (served.text v w stands)
      (no-failures is_at.step tellers table w (take k lines) is_at.accepted valid)

  -- the device was called, and nothing was told
  pub own-step_pairs : (m2 : Outside) → Sound V K m → ShowsLine V table line session m m2 → LeavesOwnPairs T V table lines tellers first o m2
  own-step_pairs m2 sound moments = λ v w stands valid.
      pairs_then (IsOwnPair T table w lines tellers o.told) o m m2 (is_at.reached.pairs v w stands valid)
      (pairs-of_own tellers table w lines o.told m m2
      (silent-pairs NoneFailed tellers table w lines o.told served.due (IsCutDuring table (here w) line.deed) m m2 sound served.told
      (during-left is_at.step is_at.law NoneFailed tellers table is_at.accepted w valid lines is_at.are k line is_at.at [] refl served.due (tells-here v w stands valid))
      ((moments (here w) (served.stands w stands)).any_moment v)))

  -- the device failed in the line
  pub own-halts : (m2 : Outside) → Later m m2 → m2.told ≡ m.told → HasFailed m m2 → HaltsAt T V table lines tellers first o m2 line.number
  own-halts m2 later quiet cause = record {
    line = line;
    due = served.due;
    fails = record {
      k = k;
      at = is_at.at;
      text = served.text;
      cause = ⊎_elim (λ rose. inl (rose-after o.write_faults m.write_faults m2.write_faults m2.write_faults is_at.reached.later.write_faults rose (omega arith)))
          (λ rose. inr (rose-after o.read_faults m.read_faults m2.read_faults m2.read_faults is_at.reached.later.read_faults rose (omega arith)))
          cause;
    };
    number_is = refl;
    told = λ t. quiet ∙ served.told t;
  }

  module _ (next : Session) (reply : Option Reply) (m2 e : Outside) (sound : AreSound V K m m2 e) (steps : PlainSteps V table line session next reply m m2)
      (moments : ShowsLine V table line session m m2) (tell : TellsText T V (heard_text tellers line reply) m2 e) where
    abbrev text : List ℕ
    text = served.due ++ heard_text tellers line reply

    within-next : k + 1 ≤ length lines
    within-next = let lt = slice_get_within lines k line is_at.at in omega (arith, lt)

    next-world : (w : World) → world_after_all table [] w (take (k + 1) lines) ≡ world_after_line table [] (here w) line
    next-world w = world-more table [] [] lines k line is_at.at is_at.rise (inl refl) (none-ahead (drop k lines)) w

    next-replies : (w : World) → replies_to table [] w (take (k + 1) lines) ≡ replies_to table [] w (take k lines) ++ replies_to table [] (here w) (line ∷ [])
    next-replies w = replies-more table [] [] lines k line is_at.at is_at.rise (inl refl) (none-ahead (drop k lines)) w

    reply-is : V → (w : World) → StandsFor V o first w → reply ≡ reply_in table [] (here w) line
    reply-is v w stands = steps.done.reply_is (here w) (served.stands w stands) v

    own-is : V → (w : World) → StandsFor V o first w → heard_text tellers line reply ≡ text_of (told_to tellers (replies_to table [] (here w) (line ∷ [])))
    own-is v w stands = sym (heard-own tellers table [] (here w) line reply (reply-is v w stands))

    next-text : V → (w : World) → StandsFor V o first w → text ≡ text_of (told_to tellers (replies_to table [] w (take (k + 1) lines)))
    next-text v w stands =
        let before = replies_to table [] w (take k lines) in
        let own = replies_to table [] (here w) (line ∷ []) in
        (λ i. served.text v w stands i ++ own-is v w stands i)
        ∙ sym (text-append (told_to tellers before) (told_to tellers own))
        ∙ ap text_of (sym (filter-append (λ (told : Told). tellers told.partition) before own))
        ∙ ap (λ (ts : List Told). text_of (told_to tellers ts)) (sym (next-replies w))

    pub own-reply_pairs : LeavesOwnPairs T V table lines tellers first o e
    own-reply_pairs = λ v w stands valid.
        let there = world_after_line table [] (here w) line in
        let all = (session_in_step V K m2 next there sound.1 steps.ready (steps.done.stands (here w) (served.stands w stands)) v).0 in
        let Q : Rows → Type 0 = λ r. AllNow (Stores r (IsCut there)) m2 in
        let told : Tells tellers lines (k + 1) [] text =
        tells-lines is_at.law tellers table [] [] w lines (k + 1) text is_at.accepted valid is_at.are within-next (next-text v w stands) (no-failures is_at.step tellers table w (take (k + 1) lines) is_at.accepted valid) in
        pairs_then (IsOwnPair T table w lines tellers o.told) o m2 e (own-step_pairs m2 sound.0 moments v w stands valid)
        (pairs-of_own tellers table w lines o.told m2 e
        (told-pairs NoneFailed tellers table w lines o.told served.due (IsCut there) m2 e sound.1 (λ t. steps.quiet ∙ served.told t) (heard_text tellers line reply) tell.later.clock tell.cuts
        (subst Q steps.same_table all)
        (reply-left is_at.step is_at.law NoneFailed tellers table is_at.accepted w valid lines is_at.are k line is_at.at [] refl served.due (tells-here v w stands valid) [] [] refl
        (heard_text tellers line reply) (next-world w) (own-is v w stands) told)))

    -- telling the reply failed
    pub own-stops : heard_text tellers line reply ≢ [] → Rose m2.tell_faults e.tell_faults → StopsAt T V table lines tellers first o e
    own-stops some rose = record {
      k = k + 1;
      within = within-next;
      due = text;
      something = back-some served.due (heard_text tellers line reply) some;
      text = next-text;
      rose = rose-after o.tell_faults m2.tell_faults e.tell_faults e.tell_faults (let a = is_at.reached.later.tell_faults in let b = steps.later.tell_faults in omega (arith, a, b)) rose (omega arith);
      part = λ t. part-after o.told m2.told e.told served.due (heard_text tellers line reply) (steps.quiet ∙ served.told t) (tell.part t);
    }

    -- and names were changed as often
    pub own-names : CountsNames K V table (take k lines) first o m → (K → m.clock + 4 * name_change line.deed reply ≤ m2.clock) → CountsNames K V table (take (k + 1) lines) first o e
    own-names before own kept v w stands =
        let more = names-more table w lines k line is_at.at in
        let same = ap (name_change line.deed) (reply-is v w stands) in
        omega (arith, more, same, before kept v w stands, own kept, tell.later.clock)

    pub own-later : Later o e
    own-later = later_then o m2 e (later_then o m m2 is_at.reached.later steps.later) tell.later

    -- the lines to come have higher numbers
    higher : AllByRecursion (λ later. line.number < later.number) (drop (k + 1) lines)
    higher = subst (λ n. AllByRecursion (λ later. line.number < later.number) (drop n lines)) (let e : suc k ≡ k + 1 = omega arith in e) (behind-line 0 lines k line is_at.rise is_at.at)

    -- it was told, and the reply counted
    pub own-reached : (counted : Tally) → (T → e.told ≡ m2.told ++ heard_text tellers line reply) → (reply ≡ None → counted ≡ tally)
        → ((before : List Told) (told : Told) → reply ≡ Some told.reply → tally ≡ tally_of before → counted ≡ tally_of (before ++ told ∷ [])) → IsWithin (k + 1) counted
        → ReachedFor T V table lines tellers (k + 1) first o next counted e
    own-reached counted told none some few = record {
      within = within-next;
      served = record {
        ready = ready_after_told V K (heard_text tellers line reply) m2 e next sound.1 sound.2 steps.ready tell.later tell.view tell.cuts;
        same_table = steps.same_table;
        stands = λ w stands. stands_after_told V K (heard_text tellers line reply) m2 e next sound.1 sound.2 steps.ready tell.later tell.view tell.cuts (world_after_all table [] w (take (k + 1) lines))
            (let P : World → Type 0 = λ u. StandsFor V m2 next u in subst P (sym (next-world w)) (steps.done.stands (here w) (served.stands w stands)));
        due = text;
        text = next-text;
        told = λ t. told t ∙ ap (λ (x : List ℕ). x ++ heard_text tellers line reply) (steps.quiet ∙ served.told t) ∙ append_assoc o.told served.due (heard_text tellers line reply);
      };
      early = early-above line.number next (drop (k + 1) lines) steps.early higher;
      later = own-later;
      tallied = λ v w stands.
          count-deed table (here w) line.number line.deed reply tally counted (replies_to table [] w (take k lines)) (reply-is v w stands) (is_at.reached.tallied v w stands) none some
          ∙ ap tally_of (sym (next-replies w));
      few = few;
      pairs = own-reply_pairs;
    }
