-- A bound on the blocks that the durable and the present content of files take together, by the files' charges.
use Rattle.std.proofs.Common.{◌≡◌, ℕ, ◌+◌, ◌*◌, ◌∙◌, ◌<◌, ◌≤◌, Bool, true, false, not, cond, eqb, List, [], length, sum_by, sym, ap, subst, inl, inr, get_or, arith}
use Rattle.std.proofs.lemmas.Bool.{cases_lt, cases_eq}
use Rattle.std.proofs.lemmas.List.{get_or_past}
use Rattle.tree_region.specs.OwnedRows.{number_at, is_new, is_fresh, named_in, named_count, fresh_before, fresh_in_files, fresh_count}
use Rattle.tree_region.proofs.FreePlaces.{sum_to, sum-places, sum-le, sum-less, sum-bounded, sum-bounded_less}

one-small : (b : Bool) → cond b 1 0 ≤ 1
one-small true = omega arith
one-small false = omega arith

-- ---- the numbers of one file, of which none but 0 stands from its charge on

module _ (row : List ℕ) (charge : ℕ) (below : (k : ℕ) → 1 ≤ get_or row k 0 → k < charge) where
  behind : (k : ℕ) → charge ≤ k → get_or row k 0 ≡ 0
  behind k past =
      elim (cases_eq (get_or row k 0) 0) [ inl none ↦ none | inr some ↦ absurd (let less : k < charge = below k (omega (arith, some)) in omega (arith, less, past)) ]

  pub named-within : named_in row ≤ charge
  unfolding named_in
  named-within =
      let f : ℕ → ℕ = λ k. cond (not (eqb (get_or row k 0) 0)) 1 0 in
      let places : named_in row ≡ sum_to f (length row) = sum-places (λ n. cond (not (eqb n 0)) 1 0) row 0 in
      subst (λ n. n ≤ charge) (sym places)
      (sum-bounded f charge (λ k. one-small (not (eqb (get_or row k 0) 0))) (λ k past. ap (λ n. cond (not (eqb n 0)) 1 0) (behind k past)) (length row))

  pub fresh-within : (known : List ℕ) (n : ℕ) → fresh_before known row n ≤ charge
  unfolding fresh_before
  fresh-within known n =
      sum-bounded (λ k. cond (is_new (get_or known k 0) (get_or row k 0)) 1 0) charge (λ k. one-small (is_new (get_or known k 0) (get_or row k 0)))
      (λ k past. ap (λ j. cond (is_new (get_or known k 0) j) 1 0) (behind k past)) n

  pub fresh-less : (known : List ℕ) (n gap : ℕ) → gap < charge → is_new (get_or known gap 0) (get_or row gap 0) ≡ false → fresh_before known row n + 1 ≤ charge
  unfolding fresh_before
  fresh-less known n gap less old =
      sum-bounded_less (λ k. cond (is_new (get_or known k 0) (get_or row k 0)) 1 0) charge (λ k. one-small (is_new (get_or known k 0) (get_or row k 0)))
      (λ k past. ap (λ j. cond (is_new (get_or known k 0) j) 1 0) (behind k past)) gap less (ap (λ b. cond b 1 0) old) n

-- ---- those of all files

-- each number but 0 stands at a place below its file's charge
abbrev pub AreBelow : List ℕ → List (List ℕ) → Type 0
AreBelow charges rows = (f k : ℕ) → 1 ≤ number_at rows f k → k < get_or charges f 0

named-charged : (rows : List (List ℕ)) (charges : List ℕ) → length rows ≡ length charges → AreBelow charges rows → named_count rows ≤ sum_by (λ blocks. blocks) charges
unfolding named_count
named-charged rows charges long below =
    let named : named_count rows ≡ sum_to (λ f. named_in (get_or rows f [])) (length rows) = sum-places named_in rows [] in
    let charged : sum_by (λ blocks. blocks) charges ≡ sum_to (λ f. get_or charges f 0) (length rows)
    = sum-places (λ blocks. blocks) charges 0 ∙ ap (sum_to (λ f. get_or charges f 0)) (sym long) in
    let le = sum-le (λ f. named_in (get_or rows f [])) (λ f. get_or charges f 0) (λ f. named-within (get_or rows f []) (get_or charges f 0) (below f)) (length rows) in
    omega arith

fresh-charged : (durable present : List (List ℕ)) (charges : List ℕ) → length present ≡ length charges → AreBelow charges present → (f k : ℕ) → k < get_or charges f 0
    → is_fresh durable present f k ≡ false → fresh_count durable present + 1 ≤ sum_by (λ blocks. blocks) charges
unfolding fresh_in_files
fresh-charged durable present charges long below f k less old =
    let of_file : ℕ → ℕ = λ g. fresh_before (get_or durable g []) (get_or present g []) (length (get_or present g [])) in
    let charged : sum_by (λ blocks. blocks) charges ≡ sum_to (λ g. get_or charges g 0) (length present)
    = sum-places (λ blocks. blocks) charges 0 ∙ ap (sum_to (λ g. get_or charges g 0)) (sym long) in
    let in_files : f < length present =
    (elim (cases_lt f (length charges)) [
      | inl within ↦ omega (arith, within, long)
      | inr past ↦ absurd (let none = get_or_past charges f 0 past in omega (arith, none, less))
    ]) in
    let sums : sum_to of_file (length present) + 1 ≤ sum_to (λ g. get_or charges g 0) (length present)
    = sum-less of_file (λ g. get_or charges g 0) (λ g. fresh-within (get_or present g []) (get_or charges g 0) (below g) (get_or durable g []) (length (get_or present g []))) f
    (fresh-less (get_or present f []) (get_or charges f 0) (below f) (get_or durable f []) (length (get_or present f [])) k less old) (length present) in_files in
    subst (λ n. sum_to of_file (length present) + 1 ≤ n) (sym charged) sums

-- Where the charges are together within the quota, and one place below its file's charge isn't fresh, the durable and the fresh blocks are fewer than twice the quota.
pub room-where_charged : (durable present : List (List ℕ)) (charges : List ℕ) (quota : ℕ) → length durable ≡ length charges → length present ≡ length charges → AreBelow charges durable
    → AreBelow charges present → sum_by (λ blocks. blocks) charges ≤ quota → (f k : ℕ) → k < get_or charges f 0 → is_fresh durable present f k ≡ false
    → named_count durable + fresh_count durable present < 2 * quota
room-where_charged durable present charges quota durable_long present_long durable_below present_below within f k less old =
    let named = named-charged durable charges durable_long durable_below in
    let fresh = fresh-charged durable present charges present_long present_below f k less old in
    omega arith
