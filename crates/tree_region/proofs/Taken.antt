-- A free block is none of the numbers whose blocks are used, and once the marks are made anew one is free.
use Rattle.std.proofs.Common.{◌≡◌, ℕ, suc, ◌+◌, ◌-◌, ◌∙◌, ◌<◌, ◌≤◌, Bool, true, false, not, ◌&&◌, cond, eqb, List, [], ◌∷◌, length, replicate, None, refl, sym, ap, subst, inl, inr, get_or, mul-zero, arith}
use Rattle.std.specs.List.{count_by}
use Rattle.std.proofs.lemmas.Bool.{cases_lt, false≢true}
use Rattle.std.proofs.lemmas.List.{get_or_past, length-replicate}
use Rattle.std.proofs.lemmas.List.Folds.{sum_by-replicate}
use Rattle.std.proofs.lemmas.List.Sums.{sum_by-cons}
use Rattle.block_quota.specs.Blocks.{is_used, with_mark, IsLeastFree}
use Rattle.tree_region.specs.Marking.{count_used, KeepsUsed, AreRowsUsed, AreRowsMarked}
use Rattle.tree_region.specs.OwnedRows.{number_at, named_in, named_count, fresh_before, fresh_in_files, fresh_count, AreNamedUsed, AreOthers}
use Rattle.tree_region.proofs.Marked.{keeps-mark}
use Rattle.tree_region.proofs.FreePlaces.{sum-places, sum-same}

pub free-is-other : (used : List Bool) (rows : List (List ℕ)) (n : ℕ) → AreNamedUsed used rows → 1 ≤ n → is_used used n ≡ false → AreOthers n rows
free-is-other used rows n all first free =
    λ f k same. false≢true (sym free ∙ ap (is_used used) (sym same) ∙ all.named f k (subst (λ m. 1 ≤ m) (sym same) first))

pub kept-named : (old new : List Bool) (rows : List (List ℕ)) → KeepsUsed old new → AreNamedUsed old rows → AreNamedUsed new rows
kept-named old new rows keeps all = record {
  within = λ f k. subst (λ n. number_at rows f k ≤ n) (sym keeps.long) (all.within f k);
  named = λ f k first. keeps.stays (number_at rows f k) (all.named f k first);
}

pub taken-named : (used : List Bool) (rows : List (List ℕ)) (n : ℕ) → AreNamedUsed used rows → AreNamedUsed (with_mark used n true) rows
taken-named used rows n = kept-named used (with_mark used n true) rows (keeps-mark used n)

-- ---- counts of used blocks

count-cleared : (n : ℕ) → count_used (replicate n false) ≡ 0
unfolding count_used
count-cleared n = sum_by-replicate (λ (b : Bool). cond b 1 0) n false ∙ mul-zero n

count-full : (used : List Bool) → ((k : ℕ) → k < length used → get_or used k false ≡ true) → count_used used ≡ length used
unfolding count_used
count-full [] all = refl
count-full (b ∷ used) all =
    let first : ◌≡◌ {A = ℕ} (cond b 1 0) 1 = ap (λ x. cond x 1 0) (all 0 (omega arith)) in
    let rest : count_by (λ x. x) used ≡ length used = count-full used (λ k less. all (suc k) (omega (arith, less))) in
    let both = sum_by-cons (λ (x : Bool). cond x 1 0) b used in
    omega arith

-- where fewer are used than there are, one is free
pub never-full : (used : List Bool) (long : ℕ) → length used ≡ long → count_used used < long → IsLeastFree used None → ⊥
never-full used long same few full =
    let all : count_used used ≡ length used
    = count-full used (λ k less. let e : (k + 1) - 1 ≡ k = omega arith in ap (λ j. get_or used j false) (sym e) ∙ full (k + 1) (omega arith) (omega (arith, less))) in
    omega arith

-- ---- beside nothing all numbers but 0 are fresh

and-same : (b : Bool) → (b && b) ≡ b
and-same true = refl
and-same false = refl

row-fresh : (row : List ℕ) → named_in row ≡ fresh_before [] row (length row)
unfolding named_in fresh_before
row-fresh row =
    sum-places (λ n. cond (not (eqb n 0)) 1 0) row 0
    ∙ sum-same (λ k. cond (not (eqb (get_or row k 0) 0)) 1 0) (λ k. cond (not (eqb (get_or row k 0) 0) && not (eqb (get_or row k 0) 0)) 1 0)
    (λ k. ap (λ b. cond b 1 0) (sym (and-same (not (eqb (get_or row k 0) 0))))) (length row)

rows-fresh : (rows : List (List ℕ)) → named_count rows ≡ fresh_count [] rows
unfolding named_count fresh_in_files
rows-fresh rows =
    sum-places named_in rows []
    ∙ sum-same (λ f. named_in (get_or rows f [])) (λ f. fresh_before [] (get_or rows f []) (length (get_or rows f []))) (λ f. row-fresh (get_or rows f [])) (length rows)

-- ---- the marks made anew

rows-used : (rows : List (List ℕ)) (old new : List Bool) → AreRowsMarked rows (length rows) old new → AreRowsUsed new rows
rows-used rows old new all =
    λ f k first.
    elim (cases_lt f (length rows)) [
      | inl less ↦ all.marked f k less first
      | inr past ↦
          absurd (let none : number_at rows f k ≡ 0 = ap (λ (row : List ℕ). get_or row k 0) (get_or_past rows f [] past) in omega (arith, none, first))
    ]

module _ (old cleared : List Bool) (clear : cleared ≡ replicate (length old) false) where
  cleared-long : length cleared ≡ length old
  cleared-long = ap length clear ∙ length-replicate {A = Bool} (length old) false

  pub cleared-within : (rows : List (List ℕ)) → AreNamedUsed old rows → (f k : ℕ) → number_at rows f k ≤ length cleared
  cleared-within rows all f k = subst (λ n. number_at rows f k ≤ n) (sym cleared-long) (all.within f k)

  module _ (durable : List (List ℕ)) (middle : List Bool) (first : AreRowsMarked durable (length durable) cleared middle) where
    middle-long : length middle ≡ length old
    middle-long = first.keeps.long ∙ cleared-long

    pub middle-within : (rows : List (List ℕ)) → AreNamedUsed old rows → (f k : ℕ) → number_at rows f k ≤ length middle
    middle-within rows all f k = subst (λ n. number_at rows f k ≤ n) (sym middle-long) (all.within f k)

    module _ (present : List (List ℕ)) (new : List Bool) (second : AreRowsMarked present (length present) middle new) where
      pub anew-long : length new ≡ length old
      anew-long = second.keeps.long ∙ middle-long

      pub anew-durable : AreNamedUsed old durable → AreNamedUsed new durable
      anew-durable all = record {
        within = λ f k. subst (λ n. number_at durable f k ≤ n) (sym anew-long) (all.within f k);
        named = λ f k some. second.keeps.stays (number_at durable f k) (rows-used durable cleared middle first f k some);
      }

      pub anew-present : AreNamedUsed old present → AreNamedUsed new present
      anew-present all = record {
        within = λ f k. subst (λ n. number_at present f k ≤ n) (sym anew-long) (all.within f k);
        named = rows-used present middle new second;
      }

      pub anew-few : named_count durable + fresh_count durable present < length old → count_used new < length old
      anew-few room =
          let none : count_used cleared ≡ 0 = ap count_used clear ∙ count-cleared (length old) in
          let named = rows-fresh durable in
          let of_durable : count_used middle ≤ count_used cleared + fresh_count [] durable = first.few [] (λ f k wrong. absurd (omega (arith, wrong))) in
          let of_present : count_used new ≤ count_used middle + fresh_count durable present = second.few durable (rows-used durable cleared middle first) in
          omega arith
