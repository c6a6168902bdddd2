-- The greatest number of places.
use Rattle.std.proofs.Common.{◌≡◌, ◌⊎◌, inl, inr, ⊎_elim, ℕ, zero, suc, ◌+◌, ◌<◌, ◌≤◌, max, List, [], ◌∷◌, Option, Some, None, refl, sym, ◌∙◌, ap, arith}
use Rattle.std.proofs.lemmas.Bool.{cases_eq}
use Rattle.std.specs.List.{range_with_len}
use Rattle.apex_model.specs.Image.{all_answers, greatest}
use Rattle.logbook_store.specs.Regions.{PlaceEntry}
use Rattle.logbook_store.proofs.Answers.{front}

-- no less than the number it begins with
pub greatest_from : (n : ℕ) (places : List PlaceEntry) → n ≤ greatest n places
greatest_from n [] = omega arith
greatest_from n (None ∷ places) = greatest_from n places
greatest_from n (Some entry ∷ places) = let later = greatest_from (max n entry.0) places in omega (arith, later)

-- one that is no less than all of them stays
pub greatest_stays : (n m : ℕ) (places : List PlaceEntry) → greatest n places ≤ m → greatest m places ≡ m
greatest_stays n m [] few = refl
greatest_stays n m (None ∷ places) few = greatest_stays n m places few
greatest_stays n m (Some entry ∷ places) few =
    let low = greatest_from (max n entry.0) places in
    let same : max m entry.0 ≡ m = omega (arith, low, few) in
    ap (λ (k : ℕ). greatest k places) same ∙ greatest_stays (max n entry.0) m places few

module _ (f : ℕ → Option PlaceEntry) where
  -- no less than each
  pub greatest_above : (n from count : ℕ) (xs : List PlaceEntry) → all_answers f (range_with_len from count) ≡ Some xs → (j : ℕ) (entry : ℕ × List ℕ) → from ≤ j → j < from + count → f j ≡ Some (Some entry) → entry.0 ≤ greatest n xs
  greatest_above n from zero xs is j entry low high here = absurd (omega (arith, low, high))
  greatest_above n from (suc count) xs is j entry low high here =
      let parts = front (f from) (all_answers f (range_with_len (from + 1) count)) xs is in
      ⊎_elim
      (λ same.
      let first : Some parts.first ≡ Some (Some entry) = sym parts.answer ∙ ap f (sym same) ∙ here in
      let entry_is : parts.first ≡ Some entry = cc in
      let whole : greatest n xs ≡ greatest (max n entry.0) parts.rest = ap (greatest n) parts.whole ∙ ap (λ (x : PlaceEntry). greatest n (x ∷ parts.rest)) entry_is in
      omega (arith, whole, greatest_from (max n entry.0) parts.rest))
      (λ other. later n xs from count parts.first parts.rest parts.whole (λ m. greatest_above m (from + 1) count parts.rest parts.answers j entry (omega (arith, low, other)) (omega (arith, high)) here))
      (cases_eq j from)
    where
      later : (n : ℕ) (xs : List PlaceEntry) (from count : ℕ) (first : PlaceEntry) (rest : List PlaceEntry) {k : ℕ} → xs ≡ first ∷ rest → ((m : ℕ) → k ≤ greatest m rest) → k ≤ greatest n xs
      later n xs from count None rest whole each = omega (arith, each n, ap (greatest n) whole)
      later n xs from count (Some entry) rest whole each = omega (arith, each (max n entry.0), ap (greatest n) whole)

  -- the first number, or that of a place
  pub greatest_one : (n from count : ℕ) (xs : List PlaceEntry) → all_answers f (range_with_len from count) ≡ Some xs
      → (greatest n xs ≡ n) ⊎ ((j : ℕ) × (entry : ℕ × List ℕ) × (from ≤ j) × (j < from + count) × (f j ≡ Some (Some entry)) × (entry.0 ≡ greatest n xs))
  greatest_one n from zero xs is = let nil : xs ≡ [] = cc in inl (ap (greatest n) nil)
  greatest_one n from (suc count) xs is =
      let parts = front (f from) (all_answers f (range_with_len (from + 1) count)) xs is in
      by_first n from count xs parts.first parts.rest parts.whole parts.answer (λ m. greatest_one m (from + 1) count parts.rest parts.answers)
    where
      by_first : (n from count : ℕ) (xs : List PlaceEntry) (first : PlaceEntry) (rest : List PlaceEntry) → xs ≡ first ∷ rest → f from ≡ Some first
          → ((m : ℕ) → (greatest m rest ≡ m) ⊎ ((j : ℕ) × (entry : ℕ × List ℕ) × (from + 1 ≤ j) × (j < from + 1 + count) × (f j ≡ Some (Some entry)) × (entry.0 ≡ greatest m rest)))
          → (greatest n xs ≡ n) ⊎ ((j : ℕ) × (entry : ℕ × List ℕ) × (from ≤ j) × (j < from + suc count) × (f j ≡ Some (Some entry)) × (entry.0 ≡ greatest n xs))
      by_first n from count xs None rest whole here later =
          let same : greatest n xs ≡ greatest n rest = ap (greatest n) whole in
          ⊎_elim (λ first. inl (same ∙ first)) (λ one. inr (one.0, one.1, omega (arith, one.2), omega (arith, one.3), one.4, one.5 ∙ sym same)) (later n)
      by_first n from count xs (Some entry) rest whole here later =
          let same : greatest n xs ≡ greatest (max n entry.0) rest = ap (greatest n) whole in
          ⊎_elim
          (λ first. by_max n (max n entry.0) from count entry xs (same ∙ first) refl here)
          (λ one. inr (one.0, one.1, omega (arith, one.2), omega (arith, one.3), one.4, one.5 ∙ sym same)) (later (max n entry.0))
        where
          by_max : (n m from count : ℕ) (entry : ℕ × List ℕ) (xs : List PlaceEntry) → greatest n xs ≡ m → m ≡ max n entry.0 → f from ≡ Some (Some entry)
              → (greatest n xs ≡ n) ⊎ ((j : ℕ) × (e : ℕ × List ℕ) × (from ≤ j) × (j < from + suc count) × (f j ≡ Some (Some e)) × (e.0 ≡ greatest n xs))
          by_max n m from count entry xs is max_is here = ⊎_elim
              (λ first. inl (is ∙ first))
              (λ other. inr (from, entry, omega arith, omega arith, here, omega (arith, is, max_is, other)))
              (cases_eq m n)
