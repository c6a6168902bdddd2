-- The lists that links make are those that the links go through.
use Rattle.std.proofs.Common.{◌≡◌, ℕ, ◌<◌, ◌≤◌, ◌+◌, List, [], ◌∷◌, length, None, refl, sym, ap, ◌∙◌, subst, arith, zero, suc}
use Rattle.std.proofs.lemmas.Bool.{cond-true, cond-false, lt-ltb, le-ltb}
use Rattle.std.proofs.lemmas.List.{ext_get_or}
use Rattle.std.proofs.lemmas.List.FromFn.{length-map-range_with_len, get_or-map-range_with_len}
use Rattle.std.specs.Prelude.{nat_lt}
use Rattle.block_pool.specs.Lists.{list_at, first_of, node_count, HoldsEachOnce}
use Rattle.block_pool.specs.Links.{link, IsPath, IsLinked, walk, list_behind, lists_of}
use Rattle.block_pool.proofs.Paths.{AllBelow}
use Rattle.block_pool.proofs.Counts.{part_le, AllBelow-list}

-- a walk goes through the nodes of a path
walk-path : (next : List ℕ) (nodes steps k start end : ℕ) (xs : List ℕ) → IsPath next start xs end → AllBelow nodes xs → nodes ≤ end → length xs ≤ steps
    → k ≡ link next start → walk next nodes steps k ≡ xs
unfolding walk
walk-path next nodes zero k start end [] h below past few is = refl
walk-path next nodes (suc steps) k start end [] h below past few is =
    let leaves : nodes ≤ k = omega (arith, h, is) in
    cond-false (nat_lt k nodes) (k ∷ walk next nodes steps (link next k)) [] (le-ltb k nodes leaves)
walk-path next nodes zero k start end (x ∷ xs) h below past few is = absurd (omega arith)
walk-path next nodes (suc steps) k start end (x ∷ xs) h below past few is =
    let k_is : k ≡ x = is ∙ h.0 in
    let inside : k < nodes = omega (arith, k_is, below.0) in
    let rest = walk-path next nodes steps (link next k) x end xs h.1 below.1 past (omega arith) (ap (link next) k_is) in
    cond-true (nat_lt k nodes) (k ∷ walk next nodes steps (link next k)) [] (lt-ltb k nodes inside)
    ∙ ap (λ (y : ℕ). y ∷ walk next nodes steps (link next k)) k_is ∙ ap (λ ys. x ∷ ys) rest

pub lists_of-linked : (nodes count : ℕ) (next previous : List ℕ) (lists : List (List ℕ)) → IsLinked nodes count next previous lists
    → lists_of nodes count next ≡ lists
unfolding lists_of
lists_of-linked nodes count next previous lists linked =
    let same_length = length-map-range_with_len (list_behind next nodes) 0 count in
    ext_get_or [] (lists_of nodes count next) lists (same_length ∙ sym linked.lists_length)
    (λ i h.
    let within : i < count = omega (arith, h, same_length) in
    let in_lists : i < length lists = omega (arith, within, linked.lists_length) in
    let few = part_le length lists i in_lists in
    let below = subst (λ (n : ℕ). AllBelow n (list_at lists i)) linked.all_nodes (AllBelow-list lists i linked.each_once in_lists) in
    get_or-map-range_with_len (list_behind next nodes) 0 count i i [] within (omega arith)
    ∙ walk-path next nodes nodes (link next (nodes + i)) (nodes + i) (nodes + i) (list_at lists i) (linked.rings i within) below (omega arith)
    (omega (arith, few, linked.all_nodes)) refl)

-- links that make some lists make those that are read from them
pub IsLinked-read : (nodes count : ℕ) (next previous : List ℕ) (lists : List (List ℕ)) → IsLinked nodes count next previous lists
    → IsLinked nodes count next previous (lists_of nodes count next)
IsLinked-read nodes count next previous lists linked =
    subst (λ (read : List (List ℕ)). IsLinked nodes count next previous read) (sym (lists_of-linked nodes count next previous lists linked)) linked

-- equal links make the same lists
pub IsLinked-same : (nodes count : ℕ) (next next₂ previous previous₂ : List ℕ) (lists : List (List ℕ)) → next₂ ≡ next → previous₂ ≡ previous
    → IsLinked nodes count next previous lists → IsLinked nodes count next₂ previous₂ lists
IsLinked-same nodes count next next₂ previous previous₂ lists same same_previous linked =
    subst (λ (links : List ℕ). IsLinked nodes count links previous₂ lists) (sym same)
    (subst (λ (links : List ℕ). IsLinked nodes count next links lists) (sym same_previous) linked)

-- what is read from links that make some lists
pub record IsRead (nodes count : ℕ) (next previous : List ℕ) (lists : List (List ℕ)) : Type 0 where
  pub read : lists_of nodes count next ≡ lists
  pub linked : IsLinked nodes count next previous (lists_of nodes count next)
  pub once : HoldsEachOnce (lists_of nodes count next)
  pub node_number : node_count (lists_of nodes count next) ≡ nodes
  pub list_number : length (lists_of nodes count next) ≡ count

pub IsRead-linked : (nodes count : ℕ) (next previous : List ℕ) (lists : List (List ℕ)) → IsLinked nodes count next previous lists
    → IsRead nodes count next previous lists
IsRead-linked nodes count next previous lists linked =
    let again = IsLinked-read nodes count next previous lists linked in
    record {
      read = lists_of-linked nodes count next previous lists linked;
      linked = again;
      once = again.each_once;
      node_number = again.all_nodes;
      list_number = again.lists_length;
    }

-- where an anchor leads to no node, its list is empty
pub first_of-path : (next : List ℕ) (nodes start : ℕ) (xs : List ℕ) (end : ℕ) → IsPath next start xs end → AllBelow nodes xs → nodes ≤ link next start
    → None ≡ first_of xs
first_of-path next nodes start [] end h below past = refl
first_of-path next nodes start (x ∷ xs) end h below past = let first = h.0 in absurd (omega (arith, first, below.0))
