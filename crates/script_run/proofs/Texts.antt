-- What the text of some replies tells, with a part of a line or the line of a fault behind it.
use Rattle.std.proofs.Common.{◌≡◌, inl, inr, ⊎_elim, ◌⊎◌, ℕ, ◌+◌, ◌≤◌, Bool, true, not, ◌&&◌, List, [], ◌∷◌, ◌++◌, length, refl, sym, ap, ◌∙◌, subst, arith, append_assoc, append-nil}
use Rattle.std.specs.Prelude.{◌==◌, if◌then◌else◌, map, filter, count_by, get_or, drop, codes, decimal, IsTrue}
use Rattle.std.specs.Cmp.Derive.{both_true}
use Rattle.std.specs.List.{list_all, AllByRecursion}
use Rattle.std.proofs.lemmas.List.{map-append}
use Rattle.std.proofs.lemmas.List.Elements.{filter-append}
use Rattle.std.proofs.lemmas.List.Folds.{list_all-append}
use Rattle.std.proofs.lemmas.List.Sums.{sum_by-append}
use Rattle.apex_types.specs.declared.codes.Errno.TheVariants.{Eio}
use Rattle.apex_model.specs.Outcomes.{refusal}
use Rattle.apex_model.specs.Run.{Told, text_of, fault_line}
use Rattle.apex_model.specs.Texts.{Text}
use Rattle.apex_model.specs.ToldText.{whole_lines, number_of_line, is_failed_line, is_fault_line, fault_text, failed_in, replies_in, HasNoFeed}
use Rattle.apex_model.proofs.AcceptedTables.{and-left, and-right}
use Rattle.apex_model.proofs.ToldText.{whole_line, no_whole_line, line-is, lines_tell}
use Rattle.model_laws.specs.RunText.{failures_of, told_text, ReplyLineTells}
use Rattle.model_laws.proofs.ReplyLines.{replies-no_feed}
use Rattle.model_laws.proofs.RunText.{text-tells}

-- the text ends where a line ends
abbrev pub IsWhole : Text → Type 0
IsWhole told = (rest : Text) → whole_lines (told ++ rest) ≡ whole_lines told ++ whole_lines rest

-- The text tells that the reads of these lines failed, and so many replies.
pub record Says (failed : List ℕ) (n : ℕ) (told : Text) : Type 0 where
  pub failures : failed_in told ≡ failed
  pub replies : replies_in told ≡ n

-- ---- the text of replies

lines-before : (replies : List Told) (rest : Text) → AllByRecursion ReplyLineTells replies → whole_lines (text_of replies ++ rest) ≡ map told_text replies ++ whole_lines rest
lines-before [] rest h = refl
lines-before (told ∷ replies) rest h =
    ap whole_lines (append_assoc (told_text told ++ 10 ∷ []) (text_of replies) rest ∙ line-is told.number told.reply (text_of replies ++ rest))
    ∙ whole_line (told_text told) (text_of replies ++ rest) h.0.no_feed
    ∙ ap (λ (ts : List Text). told_text told ∷ ts) (lines-before replies rest h.1)

pub replies-whole : (replies : List Told) → AllByRecursion ReplyLineTells replies → IsWhole (text_of replies)
replies-whole replies h rest =
    let alone : whole_lines (text_of replies) ≡ map told_text replies =
    ap whole_lines (sym (append-nil (text_of replies))) ∙ lines-before replies [] h ∙ append-nil (map told_text replies) in
    lines-before replies rest h ∙ ap (λ (ts : List Text). ts ++ whole_lines rest) (sym alone)

pub replies-say : (replies : List Told) → AllByRecursion ReplyLineTells replies → Says (failures_of replies) (length replies) (text_of replies)
replies-say replies h =
    let tells = text-tells replies [] h refl in
    record {
      failures = ap failed_in (sym (append-nil (text_of replies))) ∙ tells.failures;
      replies = ap replies_in (sym (append-nil (text_of replies))) ∙ tells.count;
    }

-- ---- what stands behind it

failures-then : (ts us : List Text) → map number_of_line (filter is_failed_line (ts ++ us)) ≡ map number_of_line (filter is_failed_line ts) ++ map number_of_line (filter is_failed_line us)
failures-then ts us = ap (map number_of_line) (filter-append is_failed_line ts us) ∙ map-append number_of_line (filter is_failed_line ts) (filter is_failed_line us)

module _ (told more : Text) (failed : List ℕ) (n : ℕ) (whole : IsWhole told) (says : Says failed n told) where
  -- it tells no failure and no reply
  says-more : failed_in more ≡ [] → replies_in more ≡ 0 → Says failed n (told ++ more)
  says-more none no_reply =
      let counted : replies_in (told ++ more) ≡ replies_in told + replies_in more =
      ap (count_by (λ (line : Text). not (is_fault_line line))) (whole more) ∙ sum_by-append (λ (line : Text). if not (is_fault_line line) then 1 else 0) (whole_lines told) (whole_lines more) in
      let own = says.replies in
      record {
        failures = ap (λ (ts : List Text). map number_of_line (filter is_failed_line ts)) (whole more) ∙ failures-then (whole_lines told) (whole_lines more)
            ∙ (λ i. says.failures i ++ none i) ∙ append-nil failed;
        replies = omega (arith, counted, own, no_reply);
      }

  -- a part of a line
  pub says-part : HasNoFeed more → Says failed n (told ++ more)
  says-part one =
      let none = no_whole_line more one in
      says-more (ap (λ (ts : List Text). map number_of_line (filter is_failed_line ts)) none) (ap (count_by (λ (line : Text). not (is_fault_line line))) none)

fault-no_feed : (number : ℕ) → HasNoFeed (fault_text number)
fault-no_feed number =
    let test : ℕ → Bool = λ b. not (b == 10) in
    let digits : list_all test (decimal number) ≡ true =
    and-left (list_all test (decimal number)) (list_all test (codes " NOT_AVAILABLE EIO"))
    (sym (list_all-append test (decimal number) (codes " NOT_AVAILABLE EIO")) ∙ replies-no_feed number (refusal Eio) tt) in
    list_all-append test (decimal number) (codes " NOT_AVAILABLE EIO HALTED") ∙ ap (λ b. b && true) digits

-- the line that ends a run
says-fault : (told : Text) (failed : List ℕ) (n number : ℕ) → number ≤ 20000 → IsWhole told → Says failed n told → Says failed n (told ++ (fault_text number ++ 10 ∷ []))
says-fault told failed n number few whole says =
    let text = fault_text number in
    let tells = lines_tell number few in
    let lines : whole_lines (text ++ 10 ∷ []) ≡ text ∷ [] = whole_line text [] (fault-no_feed number) in
    says-more told (text ++ 10 ∷ []) failed n whole says
    (ap (λ (ts : List Text). map number_of_line (filter is_failed_line ts)) lines ∙ ap (λ b. map number_of_line (if b then text ∷ [] else [])) tells.not_failed)
    (ap (count_by (λ (line : Text). not (is_fault_line line))) lines ∙ ap (λ b. 0 + (if not b then 1 else 0)) tells.ended)

-- ---- a front of a line is a part of it without its line feed, or all of it

pub front-of_line : (front back text : Text) → front ++ back ≡ text ++ 10 ∷ [] → HasNoFeed text → HasNoFeed front ⊎ (front ≡ text ++ 10 ∷ [])
front-of_line [] back text is one = inl refl
front-of_line (b ∷ []) back [] is one = inr (ap (λ n. n ∷ []) (ap (λ (xs : List ℕ). get_or xs 0 0) is))
front-of_line (b ∷ d ∷ front) back [] is one = let long = ap length is in absurd (omega (arith, long))
front-of_line (b ∷ front) back (c ∷ text) is one =
    let same : b ≡ c = ap (λ (xs : List ℕ). get_or xs 0 0) is in
    let rest : front ++ back ≡ text ++ 10 ∷ [] = ap (λ (xs : List ℕ). drop 1 xs) is in
    let other : IsTrue (not (b == 10)) = subst (λ n. IsTrue (not (n == 10))) (sym same) (and-left (not (c == 10)) (list_all (λ x. not (x == 10)) text) one) in
    ⊎_elim (λ none. inl (both_true other none)) (λ all. inr (ap (λ n. n ∷ front) same ∙ ap (λ (xs : List ℕ). c ∷ xs) all))
    (front-of_line front back text rest (and-right (not (c == 10)) (list_all (λ x. not (x == 10)) text) one))

-- a front of the line that ends a run tells no reply
pub says-front_of_fault : (told : Text) (failed : List ℕ) (n number : ℕ) → number ≤ 20000 → IsWhole told → Says failed n told → (front back : Text) → front ++ back ≡ fault_line number → Says failed n (told ++ front)
says-front_of_fault told failed n number few whole says front back is =
    ⊎_elim (λ part. says-part told front failed n whole says part)
    (λ all. subst (λ (t : Text). Says failed n (told ++ t)) (sym all) (says-fault told failed n number few whole says))
    (front-of_line front back (fault_text number) is (fault-no_feed number))
