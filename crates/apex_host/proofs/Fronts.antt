-- A front of a text of replies: the lines of the first replies, and a part of what comes then.
use Rattle.std.proofs.Common.{◌≡◌, ◌⊎◌, inl, inr, ⊎_elim, ℕ, Bool, true, not, ◌&&◌, List, [], ◌∷◌, ◌++◌, map, refl, sym, ap, ◌∙◌, subst, append_assoc, append-nil}
use Rattle.std.specs.Prelude.{◌==◌, if◌then◌else◌, filter, get_or, drop, codes, decimal, IsTrue}
use Rattle.std.specs.Cmp.Derive.{both_true}
use Rattle.std.specs.List.{list_all, AllByRecursion}
use Rattle.std.proofs.lemmas.List.{map-append}
use Rattle.std.proofs.lemmas.List.Elements.{filter-append}
use Rattle.std.proofs.lemmas.List.Folds.{list_all-append}
use Rattle.apex_types.specs.declared.codes.Errno.TheVariants.{Eio}
use Rattle.apex_model.specs.Outcomes.{refusal}
use Rattle.apex_model.specs.Run.{Told, text_of, reply_line, fault_line}
use Rattle.apex_model.specs.Texts.{Text}
use Rattle.apex_model.specs.ToldText.{whole_lines, number_of_line, is_failed_line, fault_text, failed_in, HasNoFeed}
use Rattle.apex_model.proofs.AcceptedTables.{and-left, and-right}
use Rattle.apex_model.proofs.ToldText.{whole_line, no_whole_line, line-is, fault_is_not_failed}
use Rattle.model_laws.specs.RunText.{failures_of, told_text, ReplyLineTells}
use Rattle.model_laws.proofs.ReplyLines.{replies-no_feed}
use Rattle.model_laws.proofs.RunText.{text-tells}

-- ---- a front of a line and what is behind it

-- It is a part of the line without its line feed, or has it all.
pub front-of_line : (front back text rest : Text) → HasNoFeed text → front ++ back ≡ text ++ 10 ∷ rest → HasNoFeed front ⊎ ((more : Text) × (front ≡ text ++ 10 ∷ more) × (more ++ back ≡ rest))
front-of_line [] back text rest one is = inl refl
front-of_line (b ∷ front) back [] rest one is =
    inr (front, ap (λ n. n ∷ front) (ap (λ (xs : Text). get_or xs 0 0) is), ap (λ (xs : Text). drop 1 xs) is)
front-of_line (b ∷ front) back (c ∷ text) rest one is =
    let same : b ≡ c = ap (λ (xs : Text). get_or xs 0 0) is in
    let behind : front ++ back ≡ text ++ 10 ∷ rest = ap (λ (xs : Text). drop 1 xs) is in
    let other : IsTrue (not (b == 10)) = subst (λ n. IsTrue (not (n == 10))) (sym same) (and-left (not (c == 10)) (list_all (λ x. not (x == 10)) text) one) in
    ⊎_elim (λ none. inl (both_true other none)) (λ all. inr (all.0, (λ i. same i ∷ all.1 i), all.2))
    (front-of_line front back text rest (and-right (not (c == 10)) (list_all (λ x. not (x == 10)) text) one) behind)

-- a front of one line alone
pub front-of_one : (front back text : Text) → HasNoFeed text → front ++ back ≡ text ++ 10 ∷ [] → HasNoFeed front ⊎ (front ≡ text ++ 10 ∷ [])
front-of_one front back text one is =
    ⊎_elim (λ none. inl none) (λ all. inr (all.1 ∙ ap (λ (x : Text). text ++ 10 ∷ x) (no-more all.0 all.2))) (front-of_line front back text [] one is) where
      no-more : (more : Text) → more ++ back ≡ [] → more ≡ []
      no-more [] none = refl
      no-more (b ∷ more) none = absurd (let w : b ∷ (more ++ back) ≡ [] = none in cc)

pub front-of_none : (front back : Text) → front ++ back ≡ [] → HasNoFeed front
front-of_none [] back is = refl
front-of_none (b ∷ front) back is = absurd (let w : b ∷ (front ++ back) ≡ [] = is in cc)

-- ---- a front of the lines of replies and what is behind them

-- It has the lines of the first replies, and then something else.
pub record SplitsReplies (replies : List Told) (front : Text) (Rest : Text → Type 0) : Type 0 where
  pub first : List Told
  pub others : List Told
  pub rest : Text
  pub all : first ++ others ≡ replies
  pub text : front ≡ text_of first ++ rest
  pub no_reply : Rest rest

module _ (Rest : Text → Type 0) (parts : (text : Text) → HasNoFeed text → Rest text) (back tail : Text) (fronts : (front : Text) → front ++ back ≡ tail → Rest front) where
  pub splits-replies : (replies : List Told) (front : Text) → AllByRecursion ReplyLineTells replies → front ++ back ≡ text_of replies ++ tail → SplitsReplies replies front Rest
  splits-replies [] front tells is = record { first = []; others = []; rest = front; all = refl; text = refl; no_reply = fronts front is }
  splits-replies (told ∷ replies) front tells is =
      let line = reply_line told.number told.reply in
      ⊎_elim
      (λ none. record { first = []; others = told ∷ replies; rest = front; all = refl; text = refl; no_reply = parts front none })
      (λ all.
      let more = splits-replies replies all.0 tells.1 all.2 in
      record {
        first = told ∷ more.first;
        others = more.others;
        rest = more.rest;
        all = ap (λ (ts : List Told). told ∷ ts) more.all;
        text = all.1 ∙ sym (line-is told.number told.reply all.0) ∙ ap (λ (x : Text). line ++ x) more.text ∙ sym (append_assoc line (text_of more.first) more.rest);
        no_reply = more.no_reply;
      })
      (front-of_line front back (told_text told) (text_of replies ++ tail) tells.0.no_feed (is ∙ append_assoc line (text_of replies) tail ∙ line-is told.number told.reply (text_of replies ++ tail)))

-- ---- which reads failed, as such a text tells

lines-before : (replies : List Told) (rest : Text) → AllByRecursion ReplyLineTells replies → whole_lines (text_of replies ++ rest) ≡ map told_text replies ++ whole_lines rest
lines-before [] rest h = refl
lines-before (told ∷ replies) rest h =
    ap whole_lines (append_assoc (told_text told ++ 10 ∷ []) (text_of replies) rest ∙ line-is told.number told.reply (text_of replies ++ rest))
    ∙ whole_line (told_text told) (text_of replies ++ rest) h.0.no_feed
    ∙ ap (λ (ts : List Text). told_text told ∷ ts) (lines-before replies rest h.1)

abbrev failed-lines : List Text → List ℕ
failed-lines ts = map number_of_line (filter is_failed_line ts)

failed-append : (ts us : List Text) → failed-lines (ts ++ us) ≡ failed-lines ts ++ failed-lines us
failed-append ts us = ap (map number_of_line) (filter-append is_failed_line ts us) ∙ map-append number_of_line (filter is_failed_line ts) (filter is_failed_line us)

-- what tells no failure behind them changes nothing
pub replies-failed : (replies : List Told) (rest : Text) → AllByRecursion ReplyLineTells replies → failed_in rest ≡ [] → failed_in (text_of replies ++ rest) ≡ failures_of replies
replies-failed replies rest tells none =
    let alone = text-tells replies [] tells refl in
    let lines : whole_lines (text_of replies ++ []) ≡ map told_text replies = lines-before replies [] tells ∙ append-nil (map told_text replies) in
    ap failed-lines (lines-before replies rest tells) ∙ failed-append (map told_text replies) (whole_lines rest)
    ∙ (λ i. failed-lines (map told_text replies) ++ none i) ∙ append-nil (failed-lines (map told_text replies))
    ∙ ap failed-lines (sym lines) ∙ alone.failures

-- a part of a line tells none
pub part-failed : (text : Text) → HasNoFeed text → failed_in text ≡ []
part-failed text one = ap failed-lines (no_whole_line text one)

pub fault-no_feed : (number : ℕ) → HasNoFeed (fault_text number)
fault-no_feed number =
    let test : ℕ → Bool = λ b. not (b == 10) in
    let digits : list_all test (decimal number) ≡ true =
    and-left (list_all test (decimal number)) (list_all test (codes " NOT_AVAILABLE EIO"))
    (sym (list_all-append test (decimal number) (codes " NOT_AVAILABLE EIO")) ∙ replies-no_feed number (refusal Eio) tt) in
    list_all-append test (decimal number) (codes " NOT_AVAILABLE EIO HALTED") ∙ ap (λ b. b && true) digits

-- nor does the line that ends a run
pub fault-failed : (number : ℕ) → failed_in (fault_line number) ≡ []
fault-failed number =
    let text = fault_text number in
    ap failed-lines (whole_line text [] (fault-no_feed number)) ∙ ap (λ b. map number_of_line (if b then text ∷ [] else [])) (fault_is_not_failed number)
