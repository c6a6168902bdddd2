-- The replies to some partitions alone, and the line of one of them.
use Rattle.std.proofs.Common.{◌≡◌, inl, inr, ⊎_elim, ◌⊎◌, ℕ, ◌+◌, Bool, true, false, List, [], ◌∷◌, ◌++◌, length, length-append, refl, sym, ap, ◌∙◌, arith, append-nil, Option}
use Rattle.std.specs.Prelude.{if◌then◌else◌, filter, count_by, None}
use Rattle.std.specs.List.{AllByRecursion}
use Rattle.std.proofs.lemmas.List.Elements.{filter-append}
use Rattle.std.proofs.lemmas.List.Sums.{sum_by-cons}
use Rattle.apex_types.specs.Rows.{Rows}
use Rattle.apex_types.specs.declared.calls.Deed.{Deed}
use Rattle.apex_types.specs.declared.calls.Deed.TheVariants as deed
use Rattle.apex_types.specs.declared.calls.Line.{Line}
use Rattle.apex_types.specs.declared.replies.Reply.{Reply}
use Rattle.apex_model.specs.FailedReads.{call_outcome, world_after_line}
use Rattle.apex_model.specs.Moments.{is_told}
use Rattle.apex_model.specs.Outcomes.{reply_of}
use Rattle.apex_model.specs.Run.{Told, text_of, reply_line, told_for, replies_to}
use Rattle.apex_model.specs.Texts.{Text}
use Rattle.apex_model.specs.ToldText.{reply_text, HasNoFeed}
use Rattle.apex_model.specs.World.{World}
use Rattle.model_laws.specs.RunText.{ReplyLineTells}
use Rattle.module_session.specs.Sessions.{reply_in}
use Rattle.script_run.specs.Chosen.{is_hearer, told_to}
use Rattle.script_run.specs.Heard.{heard_text}
use Rattle.script_run.specs.Pairs.{every_teller}
use Rattle.script_run.specs.Told.{told_line}
use Rattle.script_run.proofs.Texts.{front-of_line}

-- all of them
pub all-told : (replies : List Told) → told_to every_teller replies ≡ replies
all-told [] = refl
all-told (told ∷ replies) = ap (λ (ts : List Told). told ∷ ts) (all-told replies)

-- none, where nobody hears
pub none-told : (replies : List Told) → told_to (is_hearer None) replies ≡ []
none-told [] = refl
none-told (told ∷ replies) = none-told replies

-- what holds of all holds of these
pub all-chosen : (P : Told → Type 0) (test : Told → Bool) (replies : List Told) → AllByRecursion P replies → AllByRecursion P (filter test replies)
all-chosen P test [] h = tt
all-chosen P test (told ∷ replies) h =
    let rest = all-chosen P test replies h.1 in
    elim (test told) as (λ b. AllByRecursion P (if b then told ∷ filter test replies else filter test replies)) [ true ↦ (h.0, rest) | false ↦ rest ]

module _ (tellers : ℕ → Bool) where
  one-count : (b : Bool) (told : Told) → length (if b then told ∷ [] else (let none : List Told = [] in none)) ≡ (if b then 1 else 0)
  one-count true told = refl
  one-count false told = refl

  deed-count : (table : Rows) (failed : List ℕ) (w : World) (number : ℕ) (d : Deed)
      → length (told_to tellers (told_for table failed w number d)) ≡ (if is_told tellers (record { number = number; deed = d }) then 1 else 0)
  deed-count table failed w number (deed.Tick n) = refl
  deed-count table failed w number (deed.Partition p c) = one-count (tellers p.0) (record { number = number; partition = p.0; reply = reply_of (call_outcome table failed w number p.0 c) })

  -- as many replies as lines of these partitions
  pub told-count : (table : Rows) (failed : List ℕ) (w : World) (lines : List Line) → length (told_to tellers (replies_to table failed w lines)) ≡ count_by (is_told tellers) lines
  told-count table failed w [] = refl
  told-count table failed w (line ∷ lines) =
      let next = world_after_line table failed w line in
      let own = told_for table failed w line.number line.deed in
      let rest = replies_to table failed next lines in
      ap (λ (ts : List Told). length ts) (filter-append (λ (told : Told). tellers told.partition) own rest)
      ∙ length-append (told_to tellers own) (told_to tellers rest)
      ∙ (λ i. deed-count table failed w line.number line.deed i + told-count table failed next lines i)
      ∙ sym (sum_by-cons (λ (l : Line). if is_told tellers l then 1 else 0) line lines)

  -- ---- a line alone

  one-text : (b : Bool) (number partition : ℕ) (reply : Reply) → text_of (if b then record { number = number; partition = partition; reply = reply } ∷ [] else []) ≡ (if b then reply_line number reply else [])
  one-text true number partition reply = append-nil (reply_line number reply)
  one-text false number partition reply = refl

  deed-text : (table : Rows) (failed : List ℕ) (w : World) (number : ℕ) (d : Deed) (reply : Option Reply) → reply ≡ reply_in table failed w (record { number = number; deed = d })
      → text_of (told_to tellers (replies_to table failed w (record { number = number; deed = d } ∷ []))) ≡ heard_text tellers (record { number = number; deed = d }) reply
  deed-text table failed w number (deed.Tick n) reply is = refl
  deed-text table failed w number (deed.Partition p c) reply is =
      one-text (tellers p.0) number p.0 (reply_of (call_outcome table failed w number p.0 c)) ∙ ap (λ (r : Option Reply). if tellers p.0 then told_line number r else []) (sym is)

  -- what a line tells is its reply's line, if it is of one of these partitions
  pub heard-own : (table : Rows) (failed : List ℕ) (w : World) (line : Line) (reply : Option Reply) → reply ≡ reply_in table failed w line
      → text_of (told_to tellers (replies_to table failed w (line ∷ []))) ≡ heard_text tellers line reply
  heard-own table failed w line reply is = deed-text table failed w line.number line.deed reply is

  front-of_none : (front back : Text) → front ++ back ≡ [] → HasNoFeed front
  front-of_none [] back is = refl
  front-of_none (b ∷ front) back is = let long : length (b ∷ (front ++ back)) ≡ 0 = ap length is in absurd (omega (arith, long))

  front-of_one : (b : Bool) (told : Told) (front back : Text) → ReplyLineTells told → front ++ back ≡ text_of (if b then told ∷ [] else []) → HasNoFeed front ⊎ (front ≡ text_of (if b then told ∷ [] else []))
  front-of_one false told front back h is = inl (front-of_none front back is)
  front-of_one true told front back h is =
      let line = reply_line told.number told.reply in
      ⊎_elim (λ part. inl part) (λ all. inr (all ∙ sym (append-nil line)))
      (front-of_line front back (reply_text told.number told.reply) (is ∙ append-nil line) h.no_feed)

  -- a front of it is a part of a line, or all of it
  pub front-of_reply : (table : Rows) (failed : List ℕ) (w : World) (number : ℕ) (d : Deed) (front back : Text) → AllByRecursion ReplyLineTells (replies_to table failed w (record { number = number; deed = d } ∷ []))
      → front ++ back ≡ text_of (told_to tellers (replies_to table failed w (record { number = number; deed = d } ∷ [])))
      → HasNoFeed front ⊎ (front ≡ text_of (told_to tellers (replies_to table failed w (record { number = number; deed = d } ∷ []))))
  front-of_reply table failed w number (deed.Tick n) front back h is = inl (front-of_none front back is)
  front-of_reply table failed w number (deed.Partition p c) front back h is =
      front-of_one (tellers p.0) (record { number = number; partition = p.0; reply = reply_of (call_outcome table failed w number p.0 c) }) front back h.0 is

-- where all replies are told, it is the reply's line
all-heard : (table : Rows) (failed : List ℕ) (w : World) (number : ℕ) (d : Deed) (reply : Option Reply) → reply ≡ reply_in table failed w (record { number = number; deed = d })
    → heard_text every_teller (record { number = number; deed = d }) reply ≡ told_line number reply
all-heard table failed w number (deed.Tick n) reply is = ap (told_line number) (sym is)
all-heard table failed w number (deed.Partition p c) reply is = refl

pub own-text : (table : Rows) (failed : List ℕ) (w : World) (line : Line) (reply : Option Reply) → reply ≡ reply_in table failed w line → text_of (replies_to table failed w (line ∷ [])) ≡ told_line line.number reply
own-text table failed w line reply is =
    ap text_of (sym (all-told (replies_to table failed w (line ∷ [])))) ∙ heard-own every_teller table failed w line reply is ∙ all-heard table failed w line.number line.deed reply is
