-- Rows of numbers of which one is replaced.
use Rattle.std.proofs.Common.{◌≡◌, ◌≢◌, ◌⊎◌, inl, inr, ℕ, zero, suc, ◌<◌, List, [], ◌∷◌, length, refl, sym, ap, ◌∙◌, get_or-set_other, get_or-set_same}
use Rattle.std.specs.Prelude.{slice_index_or, slice_set}
use Rattle.tree_region.specs.OwnedRows.{number_at, with_number}

-- what stands at a place of a list with another item
pub set-either : {A : Type 0} (xs : List A) (i : ℕ) (x d : A) (j : ℕ) → (slice_index_or (slice_set xs i x) j d ≡ slice_index_or xs j d) ⊎ ((j ≡ i) × (slice_index_or (slice_set xs i x) j d ≡ x))
set-either [] i x d j = inl refl
set-either (y ∷ xs) zero x d zero = inr (refl, refl)
set-either (y ∷ xs) zero x d (suc j) = inl refl
set-either (y ∷ xs) (suc i) x d zero = inl refl
set-either (y ∷ xs) (suc i) x d (suc j) = elim (set-either xs i x d j) [
  | inl same ↦ inl same
  | inr own ↦ inr (ap suc own.0, own.1)
]

-- at each place stands the same number as before, or it is that place and has the new one
pub number-either : (rows : List (List ℕ)) (f k n g j : ℕ) → (number_at (with_number rows f k n) g j ≡ number_at rows g j) ⊎ ((g ≡ f) × (j ≡ k) × (number_at (with_number rows f k n) g j ≡ n))
number-either rows f k n g j = elim (set-either rows f (slice_set (slice_index_or rows f []) k n) [] g) [
  | inl same ↦ inl (ap (λ (row : List ℕ). slice_index_or row j 0) same)
  | inr own ↦
      let row_is = ap (λ (row : List ℕ). slice_index_or row j 0) own.1 in
      elim (set-either (slice_index_or rows f []) k n 0 j) [
        | inl same ↦ inl (row_is ∙ same ∙ ap (λ h. number_at rows h j) (sym own.0))
        | inr here ↦ inr (own.0, here.0, row_is ∙ here.1)
      ]
]

-- ---- a file's present numbers become durable

-- the durable numbers with those that a file has at present
abbrev pub with_present : List (List ℕ) → List (List ℕ) → ℕ → List (List ℕ)
with_present durable present f0 = slice_set durable f0 (slice_index_or present f0 [])

-- each file has its durable numbers as before, or is that file and has its present ones
pub present-either : (durable present : List (List ℕ)) (f0 f : ℕ)
    → ((k : ℕ) → number_at (with_present durable present f0) f k ≡ number_at durable f k)
    ⊎ ((f ≡ f0) × ((k : ℕ) → number_at (with_present durable present f0) f k ≡ number_at present f k))
present-either durable present f0 f = elim (set-either durable f0 (slice_index_or present f0 []) [] f) [
  | inl same ↦ inl (λ k. ap (λ (row : List ℕ). slice_index_or row k 0) same)
  | inr own ↦ inr (own.0, λ k. ap (λ (row : List ℕ). slice_index_or row k 0) own.1 ∙ ap (λ n. number_at present n k) (sym own.0))
]

module _ (durable present : List (List ℕ)) (f0 : ℕ) where
  -- that file has its present numbers
  pub own-numbers : f0 < length durable → (f : ℕ) → f ≡ f0 → (k : ℕ) → number_at (with_present durable present f0) f k ≡ number_at present f0 k
  own-numbers there f is k = ap (λ n. number_at (with_present durable present f0) n k) is ∙ ap (λ (row : List ℕ). slice_index_or row k 0) (get_or-set_same durable f0 (slice_index_or present f0 []) [] there)

  -- and another one its durable numbers
  pub other-numbers : (f : ℕ) → f ≢ f0 → (k : ℕ) → number_at (with_present durable present f0) f k ≡ number_at durable f k
  other-numbers f other k = ap (λ (row : List ℕ). slice_index_or row k 0) (get_or-set_other durable f0 f (slice_index_or present f0 []) [] other)
