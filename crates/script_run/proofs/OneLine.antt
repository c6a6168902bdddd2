-- What one more line adds to the replies, the world and the failures of a run.
use Rattle.std.proofs.Common.{◌≡◌, inl, inr, ℕ, ◌+◌, false, ◌||◌, List, [], ◌∷◌, ◌++◌, refl, sym, ap, ◌∙◌, subst, append_assoc, Option, Some, None}
use Rattle.std.specs.Prelude.{Bool, ◌==◌, if◌then◌else◌, map, filter, take, drop, slice_get}
use Rattle.std.specs.List.{AllByRecursion}
use Rattle.std.proofs.lemmas.List.{map-append, take_more, drop_more, take-append-drop}
use Rattle.std.proofs.lemmas.List.Elements.{filter-append}
use Rattle.std.proofs.lemmas.List.Folds.{list_any-append}
use Rattle.std.proofs.lemmas.Option.{slice_get_within, get_or_from_slice_get}
use Rattle.apex_types.specs.Rows.{Rows}
use Rattle.apex_types.specs.declared.calls.Deed.{Deed}
use Rattle.apex_types.specs.declared.calls.Deed.TheVariants as deed
use Rattle.apex_types.specs.declared.calls.Line.{Line}
use Rattle.apex_types.specs.declared.codes.Errno.TheVariants.{Eio}
use Rattle.apex_types.specs.declared.replies.Reply.{Reply}
use Rattle.apex_model.specs.FailedReads.{is_among, call_outcome, world_after_line}
use Rattle.apex_model.specs.Outcomes.{reply_of, refusal}
use Rattle.apex_model.specs.Run.{Told, text_of, reply_line, told_for, replies_to, world_after_all}
use Rattle.apex_model.specs.Texts.{Text}
use Rattle.apex_model.specs.Validity.{IsValid}
use Rattle.apex_model.specs.World.{World, call_step}
use Rattle.apex_model.proofs.FailedReads.{failures_elsewhere}
use Rattle.model_laws.specs.RunText.{is_failure, failures_of}
use Rattle.model_laws.proofs.PlainSteps.{call_step-plain}
use Rattle.module_session.specs.Sessions.{reply_in, AreFailures}
use Rattle.script_model.specs.Numbering.{AreNumbered}
use Rattle.script_run.specs.Chosen.{told_to}
use Rattle.script_run.specs.Pairs.{every_teller}
use Rattle.script_run.specs.Told.{told_line}
use Rattle.script_run.proofs.Rising.{IsNoneOr, before-line, lower-same}
use Rattle.script_run.proofs.Choice.{all-told, own-text}

-- ---- lists

pub take-line : (lines : List Line) (k : ℕ) (line : Line) → slice_get lines k ≡ Some line → take (k + 1) lines ≡ take k lines ++ line ∷ []
take-line lines k line at = take_more lines k line (slice_get_within lines k line at) ∙ ap (λ (l : Line). take k lines ++ l ∷ []) (get_or_from_slice_get lines k line line at)

pub drop-line : (lines : List Line) (k : ℕ) (line : Line) → slice_get lines k ≡ Some line → drop k lines ≡ line ∷ drop (k + 1) lines
drop-line lines k line at = drop_more lines k line (slice_get_within lines k line at) ∙ ap (λ (l : Line). l ∷ drop (k + 1) lines) (get_or_from_slice_get lines k line line at)

pub text-append : (a b : List Told) → text_of (a ++ b) ≡ text_of a ++ text_of b
text-append [] b = refl
text-append (told ∷ a) b =
    ap (λ (t : Text). reply_line told.number told.reply ++ t) (text-append a b) ∙ sym (append_assoc (reply_line told.number told.reply) (text_of a) (text_of b))

pub failures-append : (a b : List Told) → failures_of (a ++ b) ≡ failures_of a ++ failures_of b
failures-append a b = ap (map (λ (t : Told). t.number)) (filter-append is_failure a b) ∙ map-append (λ (t : Told). t.number) (filter is_failure a) (filter is_failure b)

-- ---- runs

module _ (table : Rows) (failed : List ℕ) where
  pub replies-append : (w : World) (lines more : List Line) → replies_to table failed w (lines ++ more) ≡ replies_to table failed w lines ++ replies_to table failed (world_after_all table failed w lines) more
  replies-append w [] more = refl
  replies-append w (line ∷ lines) more =
      let next = world_after_line table failed w line in
      ap (λ (ts : List Told). told_for table failed w line.number line.deed ++ ts) (replies-append next lines more)
      ∙ sym (append_assoc (told_for table failed w line.number line.deed) (replies_to table failed next lines) (replies_to table failed (world_after_all table failed next lines) more))

  pub world-append : (w : World) (lines more : List Line) → world_after_all table failed w (lines ++ more) ≡ world_after_all table failed (world_after_all table failed w lines) more
  world-append w [] more = refl
  world-append w (line ∷ lines) more = world-append (world_after_line table failed w line) lines more

-- the text of the first lines is the front of the text, also where the replies to these partitions alone are told
pub told-front : (tellers : ℕ → Bool) (table : Rows) (failed : List ℕ) (w : World) (lines : List Line) (k : ℕ)
    → (back : Text) × (text_of (told_to tellers (replies_to table failed w (take k lines))) ++ back ≡ text_of (told_to tellers (replies_to table failed w lines)))
told-front tellers table failed w lines k =
    let first = replies_to table failed w (take k lines) in
    let rest = replies_to table failed (world_after_all table failed w (take k lines)) (drop k lines) in (
      text_of (told_to tellers rest),
      sym (text-append (told_to tellers first) (told_to tellers rest))
          ∙ ap text_of (sym (filter-append (λ (told : Told). tellers told.partition) first rest))
          ∙ ap (λ (ts : List Told). text_of (told_to tellers ts)) (sym (replies-append table failed w (take k lines) (drop k lines)))
          ∙ ap (λ (ls : List Line). text_of (told_to tellers (replies_to table failed w ls))) (take-append-drop k lines),
    )

pub text-front : (table : Rows) (failed : List ℕ) (w : World) (lines : List Line) (k : ℕ) → (back : Text) × (text_of (replies_to table failed w (take k lines)) ++ back ≡ text_of (replies_to table failed w lines))
text-front table failed w lines k =
    let front = told-front every_teller table failed w lines k in
    (front.0, ap (λ (ts : List Told). text_of ts ++ front.0) (sym (all-told (replies_to table failed w (take k lines)))) ∙ front.1 ∙ ap text_of (all-told (replies_to table failed w lines)))

-- ---- a line alone

-- it tells the failure of its read, if that failed
line-failures : (reads : Type 0) (table : Rows) (w : World) (number : ℕ) (d : Deed) (more : List ℕ) (reply : Option Reply) → IsValid table w → AreFailures reads (record { number = number; deed = d }) reply more
    → reply ≡ reply_in table more w (record { number = number; deed = d }) → failures_of (replies_to table more w (record { number = number; deed = d } ∷ [])) ≡ more
line-failures reads table w number (deed.Tick n) more reply v (inl none) is = sym none
line-failures reads table w number (deed.Tick n) more reply v (inr one) is = absurd (let e : ◌≡◌ {A = Option Reply} None (Some (refusal Eio)) = sym is ∙ one.1 in cc)
line-failures reads table w number (deed.Partition p c) more reply v (inl none) is =
    let told : Told = record { number = number; partition = p.0; reply = reply_of (call_step table w p.0 c) } in
    let plain : failures_of (told ∷ []) ≡ [] = ap (λ b. map (λ (t : Told). t.number) (if b then told ∷ [] else [])) (call_step-plain table w p.0 c v.files).errno in
    let P : List ℕ → Type 0 = λ ns. failures_of (replies_to table ns w (record { number = number; deed = deed.Partition p c } ∷ [])) ≡ ns in
    subst P (sym none) plain
line-failures reads table w number (deed.Partition p c) more reply v (inr one) is =
    let e : ◌≡◌ {A = Option Reply} (Some (reply_of (call_outcome table more w number p.0 c))) (Some (refusal Eio)) = sym is ∙ one.1 in
    let same : reply_of (call_outcome table more w number p.0 c) ≡ refusal Eio = cc in
    ap (λ (r : Reply). let told : Told = record { number = number; partition = p.0; reply = r } in failures_of (told ∷ [])) same ∙ sym one.0

-- ---- a line after the first k

pub none-or : (reads : Type 0) (line : Line) (reply : Option Reply) (more : List ℕ) → AreFailures reads line reply more → IsNoneOr line.number more
none-or reads line reply more (inl none) = inl none
none-or reads line reply more (inr one) = inr one.0

module _ (table : Rows) (failed more : List ℕ) (lines : List Line) (k : ℕ) (line : Line) (at : slice_get lines k ≡ Some line) (rise : AreNumbered lines) (is : IsNoneOr line.number more)
    (ahead : AllByRecursion (λ l. is_among failed l.number ≡ false) (drop k lines)) (w : World) where
  abbrev here : World
  here = world_after_all table failed w (take k lines)

  not-yet : is_among failed line.number ≡ false
  not-yet = (subst (λ (ls : List Line). AllByRecursion (λ l. is_among failed l.number ≡ false) ls) (drop-line lines k line at) ahead).0

  before : (replies_to table (failed ++ more) w (take k lines) ≡ replies_to table failed w (take k lines)) × (world_after_all table (failed ++ more) w (take k lines) ≡ here)
  before = failures_elsewhere table (failed ++ more) failed w (take k lines) (lower-same failed line.number more (take k lines) is (before-line 0 lines k line rise at))

  own : (replies_to table (failed ++ more) here (line ∷ []) ≡ replies_to table more here (line ∷ [])) × (world_after_line table (failed ++ more) here line ≡ world_after_line table more here line)
  own = failures_elsewhere table (failed ++ more) more here (line ∷ [])
      (list_any-append (λ n. n == line.number) failed more ∙ ap (λ b. b || is_among more line.number) not-yet, tt)

  pub replies-more : replies_to table (failed ++ more) w (take (k + 1) lines) ≡ replies_to table failed w (take k lines) ++ replies_to table more here (line ∷ [])
  replies-more =
      ap (replies_to table (failed ++ more) w) (take-line lines k line at)
      ∙ replies-append table (failed ++ more) w (take k lines) (line ∷ [])
      ∙ (λ i. before.0 i ++ replies_to table (failed ++ more) (before.1 i) (line ∷ []))
      ∙ ap (λ (ts : List Told). replies_to table failed w (take k lines) ++ ts) own.0

  pub world-more : world_after_all table (failed ++ more) w (take (k + 1) lines) ≡ world_after_line table more here line
  world-more =
      ap (world_after_all table (failed ++ more) w) (take-line lines k line at)
      ∙ world-append table (failed ++ more) w (take k lines) (line ∷ [])
      ∙ ap (λ (u : World). world_after_line table (failed ++ more) u line) before.1
      ∙ own.1

  pub text-more : (due : Text) (reply : Option Reply) → due ≡ text_of (replies_to table failed w (take k lines)) → reply ≡ reply_in table more here line
      → due ++ told_line line.number reply ≡ text_of (replies_to table (failed ++ more) w (take (k + 1) lines))
  text-more due reply text reply_is =
      (λ i. text i ++ sym (own-text table more here line reply reply_is) i)
      ∙ sym (text-append (replies_to table failed w (take k lines)) (replies_to table more here (line ∷ [])))
      ∙ ap text_of (sym replies-more)

  pub failures-more : (reads : Type 0) (reply : Option Reply) → IsValid table here → AreFailures reads line reply more → reply ≡ reply_in table more here line
      → failures_of (replies_to table failed w (take k lines)) ≡ failed → failures_of (replies_to table (failed ++ more) w (take (k + 1) lines)) ≡ failed ++ more
  failures-more reads reply v are reply_is were =
      ap failures_of replies-more
      ∙ failures-append (replies_to table failed w (take k lines)) (replies_to table more here (line ∷ []))
      ∙ (λ i. were i ++ line-failures reads table here line.number line.deed more reply v are reply_is i)
