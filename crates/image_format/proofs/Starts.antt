-- Where rows start that follow each other.
use Rattle.std.proofs.Common.{◌≡◌, ℕ, zero, suc, ◌+◌, ◌<◌, List, [], ◌∷◌, ◌++◌, length, take, drop, sum_by, get_or, Option, Some, None, slice_get, refl, sym, ap, ◌∙◌, arith}
use Rattle.std.proofs.lemmas.List.{append_assoc, drop_more}
use Rattle.std.proofs.lemmas.List.Sums.{sum_by-cons}
use Rattle.image_format.specs.Places.{starts_from}

-- one row more
pub starts_from-more : {R : Type 0} (f : R → ℕ) (before : List ℕ) (at : ℕ) (rows : List R) (i : ℕ) (d : R) → i < length rows
    → before ++ starts_from f at (drop i rows) ≡ (before ++ at ∷ []) ++ starts_from f (at + f (get_or rows i d)) (drop (i + 1) rows)
starts_from-more f before at rows i d low = rw (drop_more rows i d low, append_assoc) refl

-- where a row starts
pub start-at : {R : Type 0} (f : R → ℕ) (at : ℕ) (rows : List R) (k place : ℕ) → slice_get (starts_from f at rows) k ≡ Some place → place ≡ at + sum_by f (take k rows)
start-at f at [] k place found = absurd cc
start-at f at (row ∷ rows) zero place found = let e : at ≡ place = cc in omega arith
start-at f at (row ∷ rows) (suc k) place found = let e = start-at f (at + f row) rows k place found in omega (arith, sum_by-cons f row (take k rows))

-- behind the last row
pub start-past : {R : Type 0} (f : R → ℕ) (at : ℕ) (rows : List R) (k : ℕ) → slice_get (starts_from f at rows) k ≡ None → sum_by f (take k rows) ≡ sum_by f rows
start-past f at [] zero found = refl
start-past f at [] (suc k) found = refl
start-past f at (row ∷ rows) zero found = absurd cc
start-past f at (row ∷ rows) (suc k) found = omega (arith, start-past f (at + f row) rows k found, sum_by-cons f row (take k rows), sum_by-cons f row rows)

-- a place that was found in a list of the starts
pub start-found : {R : Type 0} (f : R → ℕ) (at : ℕ) (rows : List R) (k place : ℕ) (places slice : List ℕ) → slice ≡ places → places ≡ starts_from f at rows
    → Some place ≡ slice_get slice k → place ≡ at + sum_by f (take k rows)
start-found f at rows k place places slice seen made found = start-at f at rows k place (ap (λ (xs : List ℕ). slice_get xs k) (sym (seen ∙ made)) ∙ sym found)

-- a place that was not found in a list of the starts
pub start-missed : {R : Type 0} (f : R → ℕ) (at : ℕ) (rows : List R) (k : ℕ) (places slice : List ℕ) → slice ≡ places → places ≡ starts_from f at rows
    → ◌≡◌ {A = Option ℕ} None (slice_get slice k) → sum_by f (take k rows) ≡ sum_by f rows
start-missed f at rows k places slice seen made missed = start-past f at rows k (ap (λ (xs : List ℕ). slice_get xs k) (sym (seen ∙ made)) ∙ sym missed)
