-- The links at the start: all nodes in the first list, in order.
use Rattle.std.proofs.Common.{◌≡◌, ℕ, ◌<◌, ◌≤◌, ◌+◌, ◌-◌, ◌^◌, List, [], ◌∷◌, ◌++◌, map, length, replicate, refl, sym, ap, ◌∙◌, subst, inl, inr, ◌⊎◌, arith, zero, suc, sum_by}
use Rattle.std.specs.List.{range_with_len}
use Rattle.std.proofs.lemmas.Bool.{cases_lt, cases_eq}
use Rattle.std.proofs.lemmas.Bool.Decides.{nat_tests}
use Rattle.std.proofs.lemmas.List.{length-replicate, get_or-replicate}
use Rattle.std.proofs.lemmas.List.FromFn.{length-map-range_with_len, map-range_with_len_more, get_or-map-range_with_len, length-range_with_len}
use Rattle.std.proofs.lemmas.List.Sums.{sum_by-cons}
use Rattle.block_pool.specs.Lists.{list_at, node_count, HoldsEachOnce, all_in_first}
use Rattle.block_pool.specs.Links.{link, first_next, first_previous, IsPaired, IsPath, IsLinked}
use Rattle.block_pool.proofs.Counts.{count_of, count_of-here, count_of-elsewhere}

first_next_below : (nodes k : ℕ) → k < nodes → first_next nodes k ≡ k + 1
first_next_below nodes k h = grind (arith, nat_tests)

first_next_last : (nodes : ℕ) → first_next nodes nodes ≡ 0
first_next_last nodes = grind (arith, nat_tests)

first_next_above : (nodes k : ℕ) → nodes < k → first_next nodes k ≡ k
first_next_above nodes k h = grind (arith, nat_tests)

first_previous_none : (nodes : ℕ) → first_previous nodes 0 ≡ nodes
first_previous_none nodes = grind (arith, nat_tests)

first_previous_below : (nodes k : ℕ) → k < nodes → first_previous nodes (k + 1) ≡ k
first_previous_below nodes k h = grind (arith, nat_tests)

first_previous_above : (nodes k : ℕ) → nodes < k → first_previous nodes k ≡ k
first_previous_above nodes k h = grind (arith, nat_tests)

module _ (nodes count : ℕ) (next previous : List ℕ) (some : 0 < count) (next_is : next ≡ map (first_next nodes) (range_with_len 0 (nodes + count)))
    (previous_is : previous ≡ map (first_previous nodes) (range_with_len 0 (nodes + count))) where
  next_length : length next ≡ nodes + count
  next_length = ap length next_is ∙ length-map-range_with_len (first_next nodes) 0 (nodes + count)

  previous_length : length previous ≡ nodes + count
  previous_length = ap length previous_is ∙ length-map-range_with_len (first_previous nodes) 0 (nodes + count)

  next_at : (k : ℕ) → k < nodes + count → link next k ≡ first_next nodes k
  next_at k h = ap (λ (xs : List ℕ). link xs k) next_is ∙ get_or-map-range_with_len (first_next nodes) 0 (nodes + count) k k 0 h (omega arith)

  previous_at : (k : ℕ) → k < nodes + count → link previous k ≡ first_previous nodes k
  previous_at k h = ap (λ (xs : List ℕ). link xs k) previous_is ∙ get_or-map-range_with_len (first_previous nodes) 0 (nodes + count) k k 0 h (omega arith)

  next_below : (k : ℕ) → k < nodes → link next k ≡ k + 1
  next_below k h = next_at k (omega arith) ∙ first_next_below nodes k h

  next_last : link next nodes ≡ 0
  next_last = next_at nodes (omega arith) ∙ first_next_last nodes

  next_above : (k : ℕ) → nodes < k → k < nodes + count → link next k ≡ k
  next_above k h within = next_at k within ∙ first_next_above nodes k h

  previous_first : link previous 0 ≡ nodes
  previous_first = previous_at 0 (omega arith) ∙ first_previous_none nodes

  previous_behind : (k : ℕ) → k < nodes → link previous (k + 1) ≡ k
  previous_behind k h = previous_at (k + 1) (omega arith) ∙ first_previous_below nodes k h

  previous_above : (k : ℕ) → nodes < k → k < nodes + count → link previous k ≡ k
  previous_above k h within = previous_at k within ∙ first_previous_above nodes k h

  -- what holds below the number of nodes, at it and above it
  in_three : (P : ℕ → Type 0) (k : ℕ) → (k < nodes → P k) → P nodes → (nodes < k → P k) → P k
  in_three P k below at above =
      elim (cases_lt k nodes) [
        | inl less ↦ below less
        | inr more ↦ elim (cases_eq k nodes) [ inl same ↦ subst P (sym same) at | inr other ↦ above (omega arith) ]
      ]

  -- and at 0, just behind a node, and above the number of nodes
  behind_three : (P : ℕ → Type 0) (k : ℕ) → P 0 → ((j : ℕ) → j < nodes → P (j + 1)) → (nodes < k → P k) → P k
  behind_three P k first behind above =
      elim (cases_eq k 0) [
        | inl same ↦ subst P (sym same) first
        | inr other ↦ elim (cases_lt nodes k) [
          | inl more ↦ above more
          | inr less ↦ let one_more : (k - 1) + 1 ≡ k = omega arith in subst P one_more (behind (k - 1) (omega arith))
        ]
      ]

  first_paired : IsPaired next previous
  first_paired = record {
    same_length = previous_length ∙ sym next_length;
    next_within = λ k h.
        let within : k < nodes + count = omega (arith, next_length) in
        let inside = in_three (λ m. link next m < nodes + count ⊎ (m ≡ k → ⊥)) k
        (λ less. inl (let e = next_below k less in omega (arith, e))) (inl (let e = next_last in omega (arith, e)))
        (λ more. inl (let e = next_above k more within in omega (arith, e))) in
        elim inside [ inl below ↦ omega (arith, below, next_length) | inr never ↦ absurd (never refl) ];
    previous_within = λ k h.
        let within : k < nodes + count = omega (arith, next_length) in
        let inside = behind_three (λ m. m ≡ k → link previous m < nodes + count) k
        (λ _. let e = previous_first in omega (arith, e)) (λ j less _. let e = previous_behind j less in omega (arith, e))
        (λ more _. let e = previous_above k more within in omega (arith, e)) in
        let below = inside refl in omega (arith, below, next_length);
    back = λ k h.
        let within : k < nodes + count = omega (arith, next_length) in
        in_three (λ m. link previous (link next m) ≡ m) k
        (λ less. ap (link previous) (next_below k less) ∙ previous_behind k less)
        (ap (link previous) next_last ∙ previous_first)
        (λ more. ap (link previous) (next_above k more within) ∙ previous_above k more within);
    forth = λ k h.
        let within : k < nodes + count = omega (arith, next_length) in
        behind_three (λ m. link next (link previous m) ≡ m) k
        (ap (link next) previous_first ∙ next_last)
        (λ j less. ap (link next) (previous_behind j less) ∙ next_below j less)
        (λ more. ap (link next) (previous_above k more within) ∙ next_above k more within);
  }

  -- the nodes from a on, in order
  path_from : (steps a start : ℕ) → link next start ≡ a → a + steps ≡ nodes → IsPath next start (range_with_len a steps) nodes
  path_from zero a start e whole = omega (arith, e)
  path_from (suc steps) a start e whole = (e, path_from steps (a + 1) a (next_below a (omega arith)) (omega arith))

  first_rings : (i : ℕ) → i < count → IsPath next (nodes + i) (list_at (all_in_first nodes count) i) (nodes + i)
  first_rings zero h =
      let at_nodes : nodes ≡ nodes + 0 = omega arith in
      subst (λ (anchor : ℕ). IsPath next anchor (range_with_len 0 nodes) anchor) at_nodes (path_from nodes 0 nodes next_last (omega arith))
  first_rings (suc i) h =
      subst (λ (xs : List ℕ). IsPath next (nodes + suc i) xs (nodes + suc i))
      (sym (get_or-replicate (count - 1) i [] [] (omega arith))) (next_above (nodes + suc i) (omega arith) (omega arith))

-- a sum over empty lists
sum_by-empty : (f : List ℕ → ℕ) (n : ℕ) → f [] ≡ 0 → sum_by f (replicate n []) ≡ 0
sum_by-empty f zero none = refl
sum_by-empty f (suc n) none =
    let both = sum_by-cons f [] (replicate n []) in
    let rest = sum_by-empty f n none in
    omega (arith, both, rest, none)

sum_by-first : (f : List ℕ → ℕ) (nodes count : ℕ) → f [] ≡ 0 → sum_by f (all_in_first nodes count) ≡ f (range_with_len 0 nodes)
sum_by-first f nodes count none =
    let both = sum_by-cons f (range_with_len 0 nodes) (replicate (count - 1) []) in
    let rest = sum_by-empty f (count - 1) none in
    omega (arith, both, rest)

count_of-below : (number a n : ℕ) → number < a → count_of number (range_with_len a n) ≡ 0
count_of-below number a zero h = refl
count_of-below number a (suc n) h =
    count_of-elsewhere number a (range_with_len (a + 1) n) (λ e. omega arith) ∙ count_of-below number (a + 1) n (omega arith)

count_of-range : (number a n : ℕ) → a ≤ number → number < a + n → count_of number (range_with_len a n) ≡ 1
count_of-range number a zero h k = absurd (omega arith)
count_of-range number a (suc n) h k =
    elim (cases_eq a number) [
      | inl same ↦
          let here = count_of-here number a (range_with_len (a + 1) n) same in
          let rest = count_of-below number (a + 1) n (omega arith) in
          omega (arith, here, rest)
      | inr other ↦
          count_of-elsewhere number a (range_with_len (a + 1) n) other ∙ count_of-range number (a + 1) n (omega arith) (omega arith)
    ]

count_of-above : (number a n : ℕ) → a + n ≤ number → count_of number (range_with_len a n) ≡ 0
count_of-above number a zero h = refl
count_of-above number a (suc n) h =
    count_of-elsewhere number a (range_with_len (a + 1) n) (λ e. omega arith) ∙ count_of-above number (a + 1) n (omega arith)

pub node_count-first : (nodes count : ℕ) → node_count (all_in_first nodes count) ≡ nodes
node_count-first nodes count = sum_by-first length nodes count refl ∙ length-range_with_len 0 nodes

pub HoldsEachOnce-first : (nodes count : ℕ) → HoldsEachOnce (all_in_first nodes count)
HoldsEachOnce-first nodes count =
    let number = node_count-first nodes count in
    record {
      once = λ node h. sum_by-first (count_of node) nodes count refl ∙ count_of-range node 0 nodes (omega arith) (omega (arith, h, number));
      no_other = λ node h. sum_by-first (count_of node) nodes count refl ∙ count_of-above node 0 nodes (omega (arith, h, number));
    }

-- the links at the start make the lists at the start
pub IsLinked-first : (nodes count : ℕ) (next previous : List ℕ) → 0 < count → nodes + count < 2 ^ 32
    → next ≡ map (first_next nodes) (range_with_len 0 (nodes + count))
    → previous ≡ map (first_previous nodes) (range_with_len 0 (nodes + count)) → IsLinked nodes count next previous (all_in_first nodes count)
IsLinked-first nodes count next previous some fits next_is previous_is =
    record {
      lists_length = let rest = length-replicate {A = List ℕ} (count - 1) [] in omega (arith, rest);
      links_length = next_length nodes count next previous some next_is previous_is;
      fits = fits;
      paired = first_paired nodes count next previous some next_is previous_is;
      rings = first_rings nodes count next previous some next_is previous_is;
      all_nodes = node_count-first nodes count;
      each_once = HoldsEachOnce-first nodes count;
    }

-- the links so far, with one more
pub links_more : (f : ℕ → ℕ) (old new : List ℕ) (k link : ℕ) → old ≡ map f (range_with_len 0 k) → new ≡ old ++ link ∷ [] → link ≡ f k
    → new ≡ map f (range_with_len 0 (k + 1))
links_more f old new k link old_is new_is link_is =
    let more = map-range_with_len_more f 0 k k (omega arith) in
    new_is ∙ ap (λ (xs : List ℕ). xs ++ link ∷ []) old_is ∙ ap (λ (y : ℕ). map f (range_with_len 0 k) ++ y ∷ []) link_is ∙ sym more
