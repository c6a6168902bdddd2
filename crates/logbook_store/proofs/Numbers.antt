-- The messages of places by their numbers.
use Rattle.std.proofs.Common.{◌≡◌, ⊎_elim, ℕ, zero, suc, ◌+◌, ◌-◌, ◌<◌, ◌≤◌, Bool, true, false, List, [], ◌∷◌, Option, Some, None, option_map, refl, sym, ◌∙◌, ap, arith, if◌then◌else◌}
use Rattle.std.specs.Prelude.{is_some, ◌==◌}
use Rattle.std.specs.List.{range_with_len}
use Rattle.std.proofs.lemmas.Bool.{cases_eq}
use Rattle.std.proofs.lemmas.Bool.Decides.{nat_tests}
use Rattle.apex_model.specs.Image.{all_answers, greatest, message_numbered}
use Rattle.logbook_store.specs.Regions.{PlaceEntry, is_numbered}
use Rattle.logbook_store.proofs.Answers.{front, with_answers}

-- the greatest number, one place more
greatest_front : (n : ℕ) (found : PlaceEntry) (rest : List PlaceEntry) → greatest n (found ∷ rest) ≡ greatest (greatest n (found ∷ [])) rest
greatest_front n None rest = refl
greatest_front n (Some entry) rest = refl

mapped_front : (n : ℕ) (found : PlaceEntry) (later : Option (List PlaceEntry)) → option_map (greatest n) (with_answers (Some found) later) ≡ option_map (greatest (greatest n (found ∷ []))) later
mapped_front n found None = refl
mapped_front n found (Some rest) = ap (λ (m : ℕ). Some m) (greatest_front n found rest)

pub greatest_more : (f : ℕ → Option PlaceEntry) (n from count : ℕ) (found : PlaceEntry) → f from ≡ Some found → 0 < count
    → option_map (greatest n) (all_answers f (range_with_len from count)) ≡ option_map (greatest (greatest n (found ∷ []))) (all_answers f (range_with_len (from + 1) (count - 1)))
greatest_more f n from zero found is low = absurd (omega (arith, low))
greatest_more f n from (suc count) found is low =
    ap (λ (o : Option PlaceEntry). option_map (greatest n) (with_answers o (all_answers f (range_with_len (from + 1) count)))) is
    ∙ mapped_front n found (all_answers f (range_with_len (from + 1) count))
    ∙ ap (λ (m : ℕ). option_map (greatest (greatest n (found ∷ []))) (all_answers f (range_with_len (from + 1) m))) (omega arith)

pub greatest_none : (f : ℕ → Option PlaceEntry) (n from count : ℕ) → f from ≡ None → 0 < count → option_map (greatest n) (all_answers f (range_with_len from count)) ≡ None
greatest_none f n from zero is low = absurd (omega (arith, low))
greatest_none f n from (suc count) is low = ap (λ (o : Option PlaceEntry). option_map (greatest n) (with_answers o (all_answers f (range_with_len (from + 1) count)))) is

-- the message of a place, if it has this number
abbrev pub found_by : ℕ → Option PlaceEntry → Option (List ℕ)
found_by number None = None
found_by number (Some None) = None
found_by number (Some (Some entry)) = if entry.0 == number then Some entry.1 else None

numbered_here : (number : ℕ) (found : PlaceEntry) (rest : List PlaceEntry) → message_numbered number rest ≡ None → message_numbered number (found ∷ rest) ≡ found_by number (Some found)
numbered_here number None rest none = none
numbered_here number (Some entry) rest none = ap (λ (o : Option (List ℕ)). if entry.0 == number then Some entry.1 else o) none

not_same : (m n : ℕ) → (m ≡ n → ⊥) → (m == n) ≡ false
not_same m n differ = grind (arith, nat_tests)

numbered_later : (number : ℕ) (found : PlaceEntry) (rest : List PlaceEntry) → ((entry : ℕ × List ℕ) → found ≡ Some entry → entry.0 ≡ number → ⊥) → message_numbered number (found ∷ rest) ≡ message_numbered number rest
numbered_later number None rest other = refl
numbered_later number (Some entry) rest other =
    ap (λ (b : Bool). if b then Some entry.1 else message_numbered number rest) (not_same entry.0 number (other entry refl))

-- Where only one place can have a number.
module _ (f : ℕ → Option PlaceEntry) (number place : ℕ) (only : (j : ℕ) (entry : ℕ × List ℕ) → f j ≡ Some (Some entry) → entry.0 ≡ number → j ≡ place) where
  elsewhere : (from n : ℕ) (xs : List PlaceEntry) → all_answers f (range_with_len from n) ≡ Some xs → ((j : ℕ) → from ≤ j → j < from + n → j ≡ place → ⊥) → message_numbered number xs ≡ None
  elsewhere from zero xs is apart = let nil : xs ≡ [] = cc in ap (message_numbered number) nil
  elsewhere from (suc n) xs is apart =
      let parts = front (f from) (all_answers f (range_with_len (from + 1) n)) xs is in
      ap (message_numbered number) parts.whole
      ∙ numbered_later number parts.first parts.rest (λ entry here same. apart from (omega arith) (omega arith) (only from entry (parts.answer ∙ ap (λ (x : PlaceEntry). Some x) here) same))
      ∙ elsewhere (from + 1) n parts.rest parts.answers (λ j low high. apart j (omega (arith, low)) (omega (arith, high)))

  -- the message of that number is that of the place
  pub numbered_from : (from n : ℕ) (xs : List PlaceEntry) → all_answers f (range_with_len from n) ≡ Some xs → from ≤ place → place < from + n → message_numbered number xs ≡ found_by number (f place)
  numbered_from from zero xs is low high = absurd (omega (arith, low, high))
  numbered_from from (suc n) xs is low high =
      let parts = front (f from) (all_answers f (range_with_len (from + 1) n)) xs is in
      ap (message_numbered number) parts.whole ∙ ⊎_elim
      (λ here. numbered_here number parts.first parts.rest (elsewhere (from + 1) n parts.rest parts.answers (λ j more less same. omega (arith, more, same, here)))
      ∙ sym (ap (found_by number) (ap f (sym here) ∙ parts.answer)))
      (λ away. numbered_later number parts.first parts.rest (λ entry here same. away (only from entry (parts.answer ∙ ap (λ (x : PlaceEntry). Some x) here) same))
      ∙ numbered_from (from + 1) n parts.rest parts.answers (omega (arith, low, away)) (omega (arith, high)))
      (cases_eq from place)

-- whether a place has the number
some_test : (b : Bool) (message : List ℕ) → is_some (if b then Some message else None) ≡ b
some_test true message = refl
some_test false message = refl

pub some_found : (number : ℕ) (found : Option PlaceEntry) → is_some (found_by number found) ≡ is_numbered number found
some_found number None = refl
some_found number (Some None) = refl
some_found number (Some (Some entry)) = some_test (entry.0 == number) entry.1

test_found : (b : Bool) (message wanted : List ℕ) → (if b then Some message else None) ≡ Some wanted → message ≡ wanted
test_found true message wanted is = cc
test_found false message wanted is = absurd cc

-- the entry of a place that has the number
pub found_entry : (number : ℕ) (found : Option PlaceEntry) (wanted : List ℕ) → found_by number found ≡ Some wanted → (entry : ℕ × List ℕ) × (found ≡ Some (Some entry)) × (entry.1 ≡ wanted)
found_entry number None wanted is = absurd cc
found_entry number (Some None) wanted is = absurd cc
found_entry number (Some (Some entry)) wanted is = (entry, refl, test_found (entry.0 == number) entry.1 wanted is)
