-- What a cut leaves beside the text told, at the moments of a line.
use Rattle.std.proofs.Common.{◌≡◌, ⊎_elim, ℕ, ◌+◌, ◌≤◌, List, [], ◌∷◌, ◌++◌, length, sym, ap, ◌∙◌, subst, append_assoc}
use Rattle.std.specs.Prelude.{Bool, take, drop, slice_get, count_by, Some, ⊤}
use Rattle.std.specs.List.{AllByRecursion}
use Rattle.apex_types.specs.Rows.{Rows}
use Rattle.apex_types.specs.declared.calls.Line.{Line}
use Rattle.apex_model.specs.Accepted.{IsAccepted}
use Rattle.apex_model.specs.Durable.{Durable, IsCut, IsCutDuring}
use Rattle.apex_model.specs.FailedReads.{world_after_line}
use Rattle.apex_model.specs.Laws.{StepKeepsValid}
use Rattle.apex_model.specs.Lines.{IsLineOf}
use Rattle.apex_model.specs.Moments.{is_told, IsCutBefore}
use Rattle.apex_model.specs.Run.{Told, replies_to, text_of, world_after_all, fault_line}
use Rattle.apex_model.specs.Texts.{Text}
use Rattle.apex_model.specs.ToldText.{IsLeftByText}
use Rattle.apex_model.specs.Validity.{IsValid}
use Rattle.apex_model.specs.World.{World}
use Rattle.apex_model.proofs.AcceptedTables.{all_at}
use Rattle.apex_model.proofs.Keeps.{all-take}
use Rattle.image_layout.specs.Ready.{Stores}
use Rattle.model_laws.specs.RunText.{ReplyLinesTell, ReplyLineTells, failures_of}
use Rattle.rig_core.specs.Leaves.{Leaves, LeavesPairs}
use Rattle.rig_core.specs.Outside.{Outside, AllNow, Sound, IsToldPart, Speaks}
use Rattle.rig_core.proofs.Moments.{pairs_silent, pairs_told, pairs_weaker}
use Rattle.script_run.specs.Chosen.{told_to, IsOwnPair}
use Rattle.script_run.specs.Pairs.{every_teller, reply_count, IsLeftAt, IsPair}
use Rattle.script_run.proofs.Choice.{all-told, all-chosen, told-count, front-of_reply}
use Rattle.script_run.proofs.OneLine.{drop-line}
use Rattle.script_run.proofs.Texts.{IsWhole, Says, replies-whole, replies-say, says-part, says-front_of_fault}
use Rattle.script_run.proofs.Worlds.{lines-valid, cut-as_begins, cut-as_ends}

-- ---- a text, and what it allows

-- This is the text of the replies of the first k lines to these partitions, and tells that these reads failed.
pub record Tells (tellers : ℕ → Bool) (lines : List Line) (k : ℕ) (failed : List ℕ) (due : Text) : Type 0 where
  pub within : k ≤ length lines
  pub whole : IsWhole due
  pub says : Says failed (count_by (is_told tellers) (take k lines)) due

pub tells-lines : ReplyLinesTell → (tellers : ℕ → Bool) (table : Rows) (failed said : List ℕ) (w : World) (lines : List Line) (k : ℕ) (due : Text) → IsAccepted table → IsValid table w
    → AllByRecursion (IsLineOf table) lines → k ≤ length lines → due ≡ text_of (told_to tellers (replies_to table failed w (take k lines)))
    → failures_of (told_to tellers (replies_to table failed w (take k lines))) ≡ said → Tells tellers lines k said due
tells-lines law tellers table failed said w lines k due accepted v are within text failures =
    let replies = told_to tellers (replies_to table failed w (take k lines)) in
    let tell = all-chosen ReplyLineTells (λ (told : Told). tellers told.partition) (replies_to table failed w (take k lines)) (law table failed w (take k lines) accepted v (all-take (IsLineOf table) k lines are)) in
    let say = replies-say replies tell in
    record {
      within = within;
      whole = subst IsWhole (sym text) (replies-whole replies tell);
      says = subst (Says said (count_by (is_told tellers) (take k lines))) (sym text) (record { failures = say.failures ∙ failures; replies = say.replies ∙ told-count tellers table failed w (take k lines) });
    }

-- What a cut leaves at some line, where the text tells how many replies the lines before it have to these partitions, and which reads failed in them.
pub record IsLeftTelling (Fits : List ℕ → Type 0) (tellers : ℕ → Bool) (table : Rows) (w : World) (lines : List Line) (text : Text) (durable : Durable) : Type 0 where
  pub done : ℕ
  pub within : done ≤ length lines
  pub failed : List ℕ
  pub fits : Fits failed
  pub says : Says failed (count_by (is_told tellers) (take done lines)) text
  pub left : IsLeftAt table w lines done failed durable

-- The text told since a run began goes with the image.
pub record IsMoment (T : Type 0) (Fits : List ℕ → Type 0) (tellers : ℕ → Bool) (table : Rows) (w : World) (lines : List Line) (before image told : Text) : Type 0 where
  pub more : Text
  pub told_is : T → told ≡ before ++ more
  pub stores : Stores table (IsLeftTelling Fits tellers table w lines more) image

-- ---- the moments of a run of device calls, and of a tell

module _ {V K T : Type 0} (Fits : List ℕ → Type 0) (tellers : ℕ → Bool) (table : Rows) (w : World) (lines : List Line) (before due : Text) (P : Durable → Type 0) (o e : Outside) (sound : Sound V K o) (is : T → o.told ≡ before ++ due) where
  pub silent-pairs : ((durable : Durable) → P durable → IsLeftTelling Fits tellers table w lines due durable) → Leaves (Stores table P) o e → LeavesPairs (IsMoment T Fits tellers table w lines before) o e
  silent-pairs left run = pairs_weaker (λ image told. Stores table P image × (told ≡ o.told)) (IsMoment T Fits tellers table w lines before) o e
      (λ image told has. let pair : IsMoment T Fits tellers table w lines before image told = record { more = due; told_is = λ t. has.1 ∙ is t; stores = (has.0.0, has.0.1, left has.0.0 has.0.2) } in pair)
      (pairs_silent (Stores table P) o e sound run)

  pub told-pairs : (line : Text) → o.clock ≤ e.clock → Speaks line o e → AllNow (Stores table P) o
      → ((front back : Text) (durable : Durable) → front ++ back ≡ line → P durable → IsLeftTelling Fits tellers table w lines (due ++ front) durable) → LeavesPairs (IsMoment T Fits tellers table w lines before) o e
  told-pairs line later speaks all left = pairs_weaker (λ image told. Stores table P image × IsToldPart line o.told told) (IsMoment T Fits tellers table w lines before) o e
      (λ image told has.
      let stores = has.0 in
      let part = has.1 in
      let pair : IsMoment T Fits tellers table w lines before image told = record {
        more = due ++ part.0;
        told_is = λ t. part.3 ∙ ap (λ (x : Text). x ++ part.0) (is t) ∙ append_assoc before due part.0;
        stores = (stores.0, stores.1, left part.0 part.1 stores.0 part.2 stores.2);
      } in pair)
      (pairs_told (Stores table P) line o e sound later speaks all)

-- ---- one line

module _ (step : StepKeepsValid) (law : ReplyLinesTell) (Fits : List ℕ → Type 0) (tellers : ℕ → Bool) (table : Rows) (accepted : IsAccepted table) (w : World) (valid : IsValid table w)
    (lines : List Line) (are : AllByRecursion (IsLineOf table) lines) (k : ℕ) (line : Line) (at : slice_get lines k ≡ Some line) (failed : List ℕ) (fits : Fits failed) (due : Text)
    (tells : Tells tellers lines k failed due) where
  abbrev here : World
  here = world_after_all table failed w (take k lines)

  pub valid-here : IsValid table here
  valid-here = lines-valid step table accepted failed w (take k lines) valid

  left-here : (text : Text) (durable : Durable) → Says failed (count_by (is_told tellers) (take k lines)) text → IsCutDuring table here line.deed durable → IsLeftTelling Fits tellers table w lines text durable
  left-here text durable says cut = record {
    done = k;
    within = tells.within;
    failed = failed;
    fits = fits;
    says = says;
    left = subst (λ (ls : List Line). IsCutBefore table here ls durable) (sym (drop-line lines k line at)) cut;
  }

  -- while the line is carried out
  pub during-left : (durable : Durable) → IsCutDuring table here line.deed durable → IsLeftTelling Fits tellers table w lines due durable
  during-left durable cut = left-here due durable tells.says cut

  -- while its fault is told
  pub fault-left : (front back : Text) (durable : Durable) → front ++ back ≡ fault_line line.number → IsCutDuring table here line.deed durable → IsLeftTelling Fits tellers table w lines (due ++ front) durable
  fault-left front back durable is cut =
      let few = (all_at (IsLineOf table) lines k line are at).few in
      left-here (due ++ front) durable (says-front_of_fault due failed (count_by (is_told tellers) (take k lines)) line.number few tells.whole tells.says front back is) cut

  -- while its reply is told, where it is
  pub reply-left : (more all_failed : List ℕ) (fits_all : Fits all_failed) (text : Text) → world_after_all table all_failed w (take (k + 1) lines) ≡ world_after_line table more here line
      → text ≡ text_of (told_to tellers (replies_to table more here (line ∷ []))) → Tells tellers lines (k + 1) all_failed (due ++ text)
      → (front back : Text) (durable : Durable) → front ++ back ≡ text → IsCut (world_after_line table more here line) durable → IsLeftTelling Fits tellers table w lines (due ++ front) durable
  reply-left more all_failed fits_all text next is told front back durable parts cut =
      let there = world_after_all table all_failed w (take (k + 1) lines) in
      let P : World → Type 0 = λ u. IsCut u durable in
      let own = law table more here (line ∷ []) accepted valid-here (all_at (IsLineOf table) lines k line are at, tt) in
      ⊎_elim
      (λ part. left-here (due ++ front) durable (says-part due front failed (count_by (is_told tellers) (take k lines)) tells.whole tells.says part)
      (cut-as_ends step table accepted more here line durable valid-here cut))
      (λ all.
      let left : IsLeftTelling Fits tellers table w lines (due ++ text) durable = record {
        done = k + 1;
        within = told.within;
        failed = all_failed;
        fits = fits_all;
        says = told.says;
        left = cut-as_begins step table accepted there (drop (k + 1) lines) durable (lines-valid step table accepted all_failed w (take (k + 1) lines) valid) (subst P (sym next) cut);
      } in
      subst (λ (t : Text). IsLeftTelling Fits tellers table w lines (due ++ t) durable) (is ∙ sym all) left)
      (front-of_reply tellers table more here line.number line.deed front back own (parts ∙ is))

-- ---- where all replies are told

-- any reads may have failed
abbrev pub AnyFailed : List ℕ → Type 0
AnyFailed failed = ⊤

-- where the text says that the first k lines are told, it allows what is left at the line at place k
pub says-left : (table : Rows) (w : World) (lines : List Line) (k : ℕ) (failed : List ℕ) (text : Text) (durable : Durable) → k ≤ length lines → Says failed (reply_count (take k lines)) text
    → IsLeftAt table w lines k failed durable → IsLeftByText table w lines every_teller text durable
says-left table w lines k failed text durable within says left = record {
  done = k;
  within = within;
  told = sym says.replies;
  left = subst (λ (ns : List ℕ). IsCutBefore table (world_after_all table ns w (take k lines)) (drop k lines) durable) (sym says.failures) left;
}

pub tells-all : ReplyLinesTell → (table : Rows) (failed : List ℕ) (w : World) (lines : List Line) (k : ℕ) (due : Text) → IsAccepted table → IsValid table w → AllByRecursion (IsLineOf table) lines
    → k ≤ length lines → due ≡ text_of (replies_to table failed w (take k lines)) → failures_of (replies_to table failed w (take k lines)) ≡ failed → Tells every_teller lines k failed due
tells-all law table failed w lines k due accepted v are within text failures =
    let same = all-told (replies_to table failed w (take k lines)) in
    tells-lines law every_teller table failed failed w lines k due accepted v are within (text ∙ ap text_of (sym same)) (ap failures_of same ∙ failures)

pub pairs-of_all : {T : Type 0} (table : Rows) (w : World) (lines : List Line) (before : Text) (o e : Outside) → T → LeavesPairs (IsMoment T AnyFailed every_teller table w lines before) o e → LeavesPairs (IsPair table w lines before) o e
pairs-of_all {T} table w lines before o e t run = pairs_weaker (IsMoment T AnyFailed every_teller table w lines before) (IsPair table w lines before) o e
    (λ image told moment.
    let stores = moment.stores in
    let left = stores.2 in
    let pair : IsPair table w lines before image told = record {
      more = moment.more;
      told_is = moment.told_is t;
      stores = (stores.0, stores.1, says-left table w lines left.done left.failed moment.more stores.0 left.within left.says left.left);
    } in pair)
    run

-- ---- where no read failed

abbrev pub NoneFailed : List ℕ → Type 0
NoneFailed failed = failed ≡ []

pub pairs-of_own : {T : Type 0} (tellers : ℕ → Bool) (table : Rows) (w : World) (lines : List Line) (before : Text) (o e : Outside) → LeavesPairs (IsMoment T NoneFailed tellers table w lines before) o e
    → LeavesPairs (IsOwnPair T table w lines tellers before) o e
pairs-of_own {T} tellers table w lines before o e run = pairs_weaker (IsMoment T NoneFailed tellers table w lines before) (IsOwnPair T table w lines tellers before) o e
    (λ image told moment.
    let stores = moment.stores in
    let left = stores.2 in
    let pair : IsOwnPair T table w lines tellers before image told = record {
      done = left.done;
      within = left.within;
      says = λ t. (moment.more, moment.told_is t, sym left.says.replies);
      stores = (stores.0, stores.1, subst (λ (ns : List ℕ). IsLeftAt table w lines left.done ns stores.0) left.fits left.left);
    } in pair)
    run
