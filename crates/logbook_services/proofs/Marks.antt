-- Marks of a partition's logbooks that are taken back from the front on.
use Rattle.std.proofs.Common.{◌≡◌, ℕ, ◌+◌, ◌<◌, Bool, not, ◌&&◌, List, [], ◌∷◌, ◌++◌, take, drop, set, get_or, length, zero, suc, ap, ◌∙◌, Some, Option, None, arith, add-one}
use Rattle.std.specs.Prelude.{◌==◌, slice_get}
use Rattle.apex_types.specs.declared.rows.LogbookRow.{LogbookRow}
use Rattle.apex_model.specs.World.{marks_without}

-- so many marks are taken back, and the others are as they were
abbrev pub forgotten_to : ℕ → ℕ → List LogbookRow → List Bool → List Bool
forgotten_to p k rows old = marks_without (λ row. row.partition.0) p (take k rows) (take k old) ++ drop k old

forget_next : (p k : ℕ) (rows : List LogbookRow) (old : List Bool) (row : LogbookRow) (d y : Bool) → k < length old → slice_get rows k ≡ Some row
    → y ≡ not (row.partition.0 == p) && get_or (forgotten_to p k rows old) k d → set (forgotten_to p k rows old) k y ≡ forgotten_to p (suc k) rows old
forget_next p k rows [] row d y h g e = absurd (omega arith)
forget_next p k [] (m ∷ old) row d y h g e = absurd (let w : ◌≡◌ {A = Option LogbookRow} None (Some row) = g in cc)
forget_next p zero (r ∷ rows) (m ∷ old) row d y h g e = let w : r ≡ row = cc in let same : y ≡ not (r.partition.0 == p) && m = cc in ap (λ v. v ∷ old) same
forget_next p (suc k) (r ∷ rows) (m ∷ old) row d y h g e = ap (λ rest. (not (r.partition.0 == p) && m) ∷ rest) (forget_next p k rows old row d y (omega arith) g e)

pub forgotten_more : (p k : ℕ) (rows : List LogbookRow) (now old : List Bool) (row : LogbookRow) (d y : Bool) → now ≡ forgotten_to p k rows old → k < length old → slice_get rows k ≡ Some row
    → y ≡ not (row.partition.0 == p) && get_or now k d → set now k y ≡ forgotten_to p (k + 1) rows old
forgotten_more p k rows now old row d y is h g e =
    rw add-one (ap (λ (xs : List Bool). set xs k y) is ∙ forget_next p k rows old row d y h g (e ∙ ap (λ (xs : List Bool). not (row.partition.0 == p) && get_or xs k d) is))
