-- Sums of the charges of files.
use Rattle.std.proofs.Common.{◌≡◌, ℕ, ◌∙◌, replicate, mul-zero}
use Rattle.std.specs.Prelude.{sum_by}
use Rattle.std.proofs.lemmas.List.Folds.{sum_by-replicate}

-- files that are charged for nothing
pub sum-nothing : (n : ℕ) → sum_by (λ blocks. blocks) (replicate n 0) ≡ 0
sum-nothing n = sum_by-replicate (λ blocks. blocks) n 0 ∙ mul-zero n
