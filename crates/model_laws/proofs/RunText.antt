-- What the replies of a run tell.
use Rattle.std.proofs.Common.{◌≡◌, ℕ, ◌+◌, ◌≤◌, Bool, true, false, not, ◌&&◌, List, [], ◌∷◌, ◌++◌, length, refl, sym, ap, ◌∙◌, arith, suc}
use Rattle.std.specs.Prelude.{if◌then◌else◌, map, filter, count_by}
use Rattle.std.specs.List.{AllByRecursion}
use Rattle.std.proofs.lemmas.List.Sums.{sum_by-cons}
use Rattle.apex_types.specs.Rows.{Rows}
use Rattle.apex_types.specs.declared.calls.Deed.{Deed}
use Rattle.apex_types.specs.declared.calls.Deed.TheVariants as deed
use Rattle.apex_types.specs.declared.codes.Errno.TheVariants.{Eio}
use Rattle.apex_model.specs.FailedReads.{is_among, reads_file, by_read, world_after_line}
use Rattle.apex_model.specs.Laws.{LogbookStepKeepsValid, TickKeepsValid}
use Rattle.apex_model.specs.Outcomes.{Outcome, refused, accepted, reply_of, refusal}
use Rattle.apex_model.specs.Run.{Told, text_of, told_for, replies_to}
use Rattle.apex_model.specs.Texts.{Text}
use Rattle.apex_model.specs.ToldText.{whole_lines, number_of_line, is_failed_line, is_fault_line, reply_text, HasNoFeed}
use Rattle.apex_model.specs.Validity.{IsValid}
use Rattle.apex_model.specs.World.{World, call_step}
use Rattle.apex_model.proofs.Keeps.{all-append}
use Rattle.apex_model.proofs.ToldText.{whole_lines_are_replies, lines_tell}
use Rattle.model_laws.specs.RunText.{is_failure, failures_of, told_text, ReplyLineTells, ReplyLinesTell, TextTells, TextTellsRun}
use Rattle.model_laws.proofs.PlainOutcomes.{IsPlainOutcome}
use Rattle.model_laws.proofs.PlainSteps.{call_step-plain, not-eio}
use Rattle.model_laws.proofs.ReplyLines.{replies-no_feed, no-reply_ends, others-plain}
use Rattle.model_laws.proofs.Steps.{line-valid}

-- ---- one reply

plain-tells : (number p : ℕ) (outcome : Outcome World) → number ≤ 20000 → IsPlainOutcome outcome → ReplyLineTells (record { number = number; partition = p; reply = reply_of outcome })
plain-tells number p outcome few is =
    let plain = others-plain number (reply_of outcome) is.names (not-eio (reply_of outcome).errno is.errno) in
    record {
      no_feed = plain.no_feed;
      number_is = (lines_tell number few).number_is (reply_of outcome);
      failed = plain.not_failed ∙ sym is.errno;
      not_ended = plain.not_ended;
    }

failed-tells : (number p : ℕ) → number ≤ 20000 → ReplyLineTells (record { number = number; partition = p; reply = refusal Eio })
failed-tells number p few = record {
  no_feed = replies-no_feed number (refusal Eio) tt;
  number_is = (lines_tell number few).number_is (refusal Eio);
  failed = (lines_tell number few).failed;
  not_ended = no-reply_ends number (refusal Eio) tt;
}

read-tells : (failed : Bool) (number p : ℕ) (outcome : Outcome World) → number ≤ 20000 → IsPlainOutcome outcome
    → ReplyLineTells (record { number = number; partition = p; reply = reply_of (by_read failed outcome) })
read-tells false number p outcome few is = plain-tells number p outcome few is
read-tells true number p (refused reply) few is = plain-tells number p (refused reply) few is
read-tells true number p (accepted state values) few is = failed-tells number p few

deed-tells : (table : Rows) (failed : List ℕ) (w : World) (number : ℕ) (d : Deed) → number ≤ 20000 → IsValid table w → AllByRecursion ReplyLineTells (told_for table failed w number d)
deed-tells table failed w number (deed.Tick n) few v = tt
deed-tells table failed w number (deed.Partition p c) few v =
    (read-tells (is_among failed number && reads_file c) number p.0 (call_step table w p.0 c) few (call_step-plain table w p.0 c v.files), tt)

-- ---- a run

pub replies-tell : LogbookStepKeepsValid → TickKeepsValid → ReplyLinesTell
replies-tell books ticks table failed w [] good v are = tt
replies-tell books ticks table failed w (line ∷ lines) good v are =
    all-append ReplyLineTells (told_for table failed w line.number line.deed) (replies_to table failed (world_after_line table failed w line) lines)
    (deed-tells table failed w line.number line.deed are.0.few v)
    (replies-tell books ticks table failed (world_after_line table failed w line) lines good (line-valid books ticks table failed w line good v) are.1)

-- ---- its text

no_feeds : (replies : List Told) → AllByRecursion ReplyLineTells replies → AllByRecursion (λ told. HasNoFeed (reply_text told.number told.reply)) replies
no_feeds [] h = tt
no_feeds (told ∷ replies) h = (h.0.no_feed, no_feeds replies h.1)

one-failed : (told : Told) (b : Bool) (rest : List Text) (numbers : List ℕ) → number_of_line (told_text told) ≡ told.number → map number_of_line rest ≡ numbers
    → map number_of_line (if b then told_text told ∷ rest else rest) ≡ (if b then told.number ∷ numbers else numbers)
one-failed told true rest numbers n e = λ i. n i ∷ e i
one-failed told false rest numbers n e = e

numbers-if : (told : Told) (b : Bool) (rest : List Told) → map (λ t. t.number) (if b then told ∷ rest else rest) ≡ (if b then told.number ∷ map (λ t. t.number) rest else map (λ t. t.number) rest)
numbers-if told true rest = refl
numbers-if told false rest = refl

failures : (replies : List Told) → AllByRecursion ReplyLineTells replies
    → map number_of_line (filter is_failed_line (map told_text replies)) ≡ failures_of replies
failures [] h = refl
failures (told ∷ replies) h =
    let texts : List Text = filter is_failed_line (map told_text replies) in
    ap (λ b. map number_of_line (if b then told_text told ∷ texts else texts)) h.0.failed
    ∙ one-failed told (is_failure told) texts (failures_of replies) h.0.number_is (failures replies h.1)
    ∙ sym (numbers-if told (is_failure told) (filter is_failure replies))

counted : (replies : List Told) → AllByRecursion ReplyLineTells replies → count_by (λ line. not (is_fault_line line)) (map told_text replies) ≡ length replies
counted [] h = refl
counted (told ∷ replies) h =
    let rest = counted replies h.1 in
    sum_by-cons (λ (line : Text). if not (is_fault_line line) then 1 else 0) (told_text told) (map told_text replies)
    ∙ ap (λ b. (if not b then 1 else 0) + count_by (λ line. not (is_fault_line line)) (map told_text replies)) h.0.not_ended
    ∙ (let more : 1 + count_by (λ line. not (is_fault_line line)) (map told_text replies) ≡ suc (length replies) = omega (arith, rest) in more)

-- replies whose lines tell them are told by their text, also with a part of a line after it
pub text-tells : (replies : List Told) (part : Text) → AllByRecursion ReplyLineTells replies → HasNoFeed part → TextTells replies (text_of replies ++ part)
text-tells replies part h none =
    let lines : whole_lines (text_of replies ++ part) ≡ map told_text replies = whole_lines_are_replies replies part (no_feeds replies h) none in
    record {
      failures = ap (λ (ts : List Text). map number_of_line (filter is_failed_line ts)) lines ∙ failures replies h;
      count = ap (λ (ts : List Text). count_by (λ line. not (is_fault_line line)) ts) lines ∙ counted replies h;
    }

pub text-tells_run : LogbookStepKeepsValid → TickKeepsValid → TextTellsRun
text-tells_run books ticks table failed w lines good v are part none = text-tells (replies_to table failed w lines) part (replies-tell books ticks table failed w lines good v are) none
