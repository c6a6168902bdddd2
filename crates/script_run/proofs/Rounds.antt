-- Marks that are made one by one, and spread in rounds.
use Rattle.std.proofs.Common.{◌≡◌, ℕ, zero, suc, ◌+◌, Bool, List, [], ◌∷◌, ◌++◌, map, refl, ap, ◌∙◌, sym, arith}
use Rattle.std.specs.List.{range_with_len}
use Rattle.std.proofs.lemmas.List.FromFn.{map-range_with_len_more}
use Rattle.apex_types.specs.Rows.{Rows}
use Rattle.apex_model.specs.Isolation.{spread, spread_times}

-- one mark more at the end
pub one_more : (f : ℕ → Bool) (k : ℕ) (old new : List Bool) (mark : Bool) → old ≡ map f (range_with_len 0 k) → new ≡ old ++ mark ∷ [] → mark ≡ f k → new ≡ map f (range_with_len 0 (k + 1))
one_more f k old new mark before pushed is =
    pushed ∙ ap (λ (m : Bool). old ++ m ∷ []) is ∙ ap (λ (ms : List Bool). ms ++ f k ∷ []) before
    ∙ (let q = map-range_with_len_more f 0 k k (omega arith) in sym q)

times-more : (k : ℕ) (table : Rows) (marks : List Bool) → spread_times (suc k) table marks ≡ spread table (spread_times k table marks)
times-more zero table marks = refl
times-more (suc k) table marks = times-more k table (spread table marks)

-- one round more at the end
pub round_more : (k : ℕ) (table : Rows) (first old new : List Bool) → old ≡ spread_times k table first → new ≡ spread table old → new ≡ spread_times (k + 1) table first
round_more k table first old new before is =
    is ∙ ap (spread table) before ∙ (let q = times-more k table first in sym q) ∙ ap (λ (n : ℕ). spread_times n table first) (let e : suc k ≡ k + 1 = omega arith in e)
