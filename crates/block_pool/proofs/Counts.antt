-- How many nodes lists hold, and how often each, after a move.
use Rattle.std.proofs.Common.{◌≡◌, ◌≢◌, ℕ, ◌<◌, ◌≤◌, ◌+◌, cond, ◌==◌, List, [], ◌∷◌, ◌++◌, map, length, set, refl, sym, ap, ◌∙◌, inl, inr, arith, length-append, length-set, get_or-set_other, count_by, sum_by}
use Rattle.std.proofs.lemmas.Bool.{cond_both, cond-true, cond-false, eqb-true, eqb-false, ne_eqb, eq-eqb, cases_eq}
use Rattle.std.proofs.lemmas.List.{length-map}
use Rattle.std.proofs.lemmas.List.Sums.{sum_by-cons, sum_by-append, sum_by-set, get_or-le-sum_by}
use Rattle.block_pool.specs.Lists.{list_at, node_count, times, HoldsEachOnce, without, moved, emptied}
use Rattle.block_pool.proofs.Paths.{Lacks, AllBelow, Lacks-without}

-- how often a list holds a number
abbrev pub count_of : ℕ → List ℕ → ℕ
count_of number xs = count_by (λ k. k == number) xs

pub count_of-cons : (number x : ℕ) (xs : List ℕ) → count_of number (x ∷ xs) ≡ cond (x == number) 1 0 + count_of number xs
count_of-cons number x xs = sum_by-cons (λ k. cond (k == number) 1 0) x xs

pub count_of-here : (number x : ℕ) (xs : List ℕ) → x ≡ number → count_of number (x ∷ xs) ≡ 1 + count_of number xs
count_of-here number x xs e = count_of-cons number x xs ∙ ap (λ (n : ℕ). n + count_of number xs) (cond-true (x == number) 1 0 (eq-eqb x number e))

pub count_of-elsewhere : (number x : ℕ) (xs : List ℕ) → x ≢ number → count_of number (x ∷ xs) ≡ count_of number xs
count_of-elsewhere number x xs e =
    let both = count_of-cons number x xs in
    let none : ◌≡◌ {A = ℕ} (cond (x == number) 1 0) 0 = cond-false (x == number) 1 0 (ne_eqb x number e) in
    omega (arith, both, none)

pub count_of-lacking : (number : ℕ) (xs : List ℕ) → Lacks number xs → count_of number xs ≡ 0
count_of-lacking number [] l = refl
count_of-lacking number (x ∷ xs) l = count_of-elsewhere number x xs l.0 ∙ count_of-lacking number xs l.1

pub count_of-without : (node number : ℕ) (xs : List ℕ) → number ≢ node → count_of number (without node xs) ≡ count_of number xs
count_of-without node number [] other = refl
count_of-without node number (x ∷ xs) other =
    let rest = count_of-without node number xs other in
    cond_both (x == node) (without node xs) (x ∷ without node xs) (λ ys. count_of number ys ≡ count_of number (x ∷ xs))
    (λ same. rest ∙ sym (count_of-elsewhere number x xs (λ e. other (sym e ∙ eqb-true x node same))))
    (λ _.
    let left = count_of-cons number x (without node xs) in
    let right = count_of-cons number x xs in
    omega (arith, left, right, rest))

pub length-without : (node : ℕ) (xs : List ℕ) → length (without node xs) + count_of node xs ≡ length xs
length-without node [] = refl
length-without node (x ∷ xs) =
    let rest = length-without node xs in
    cond_both (x == node) (without node xs) (x ∷ without node xs) (λ ys. length ys + count_of node (x ∷ xs) ≡ length (x ∷ xs))
    (λ same. let one = count_of-here node x xs (eqb-true x node same) in omega (arith, one, rest))
    (λ other. let none = count_of-elsewhere node x xs (eqb-false x node other) in omega (arith, none, rest))

pub times-without_other : (node number : ℕ) (lists : List (List ℕ)) → number ≢ node → times number (map (without node) lists) ≡ times number lists
times-without_other node number [] other = refl
times-without_other node number (xs ∷ lists) other =
    let here = count_of-without node number xs other in
    let rest = times-without_other node number lists other in
    let left = sum_by-cons (count_of number) (without node xs) (map (without node) lists) in
    let right = sum_by-cons (count_of number) xs lists in
    omega (arith, here, rest, left, right)

pub times-without_same : (node : ℕ) (lists : List (List ℕ)) → times node (map (without node) lists) ≡ 0
times-without_same node [] = refl
times-without_same node (xs ∷ lists) =
    let here = count_of-lacking node (without node xs) (Lacks-without node xs) in
    let rest = times-without_same node lists in
    let left = sum_by-cons (count_of node) (without node xs) (map (without node) lists) in
    omega (arith, here, rest, left)

pub node_count-without : (node : ℕ) (lists : List (List ℕ)) → node_count (map (without node) lists) + times node lists ≡ node_count lists
node_count-without node [] = refl
node_count-without node (xs ∷ lists) =
    let here = length-without node xs in
    let rest = node_count-without node lists in
    let left = sum_by-cons length (without node xs) (map (without node) lists) in
    let counted = sum_by-cons (count_of node) xs lists in
    let right = sum_by-cons length xs lists in
    omega (arith, here, rest, left, counted, right)

module _ (f : List ℕ → ℕ) (adds : (xs ys : List ℕ) → f (xs ++ ys) ≡ f xs + f ys) where
  -- a sum over lists, of which one has more behind it
  pub sum_by-with_more : (lists : List (List ℕ)) (i : ℕ) (more : List ℕ) → i < length lists
      → sum_by f (set lists i (list_at lists i ++ more)) ≡ sum_by f lists + f more
  sum_by-with_more lists i more h =
      let changed = sum_by-set f lists i (list_at lists i ++ more) [] h in
      let both = adds (list_at lists i) more in
      omega (arith, changed, both)

  -- a sum over lists, of which one went behind another
  pub sum_by-emptied : (lists : List (List ℕ)) (from to : ℕ) → from ≢ to → from < length lists → to < length lists → f [] ≡ 0
      → sum_by f (emptied from to lists) ≡ sum_by f lists
  sum_by-emptied lists from to other h k none =
      let cleared = sum_by-set f lists from [] [] h in
      let within : to < length (set lists from []) = omega (arith, length-set lists from []) in
      let filled = sum_by-set f (set lists from []) to (list_at lists to ++ list_at lists from) [] within in
      let stays = ap f (get_or-set_other lists from to [] [] (λ e. other (sym e))) in
      let both = adds (list_at lists to) (list_at lists from) in
      omega (arith, cleared, filled, stays, both, none)

-- what one list adds is at most the sum
pub part_le : (f : List ℕ → ℕ) (lists : List (List ℕ)) (i : ℕ) → i < length lists → f (list_at lists i) ≤ sum_by f lists
part_le f lists i h = get_or-le-sum_by f lists i [] h

AllBelow-from_counts : (n : ℕ) (xs : List ℕ) → ((number : ℕ) → n ≤ number → count_of number xs ≡ 0) → AllBelow n xs
AllBelow-from_counts n [] none = tt
AllBelow-from_counts n (x ∷ xs) none =
    let one = count_of-here x x xs refl in
    let below : (n ≤ x → ⊥) = λ h. omega (arith, one, none x h) in
    let rest : (number : ℕ) → n ≤ number → count_of number xs ≡ 0 = λ number h. let all = none number h in let both = count_of-cons number x xs in omega (arith, all, both) in
    (omega arith, AllBelow-from_counts n xs rest)

-- each node of a list is below the number of nodes
pub AllBelow-list : (lists : List (List ℕ)) (i : ℕ) → HoldsEachOnce lists → i < length lists → AllBelow (node_count lists) (list_at lists i)
AllBelow-list lists i o h =
    AllBelow-from_counts (node_count lists) (list_at lists i)
    (λ number above.
    let few = part_le (count_of number) lists i h in
    let none = o.no_other number above in
    omega (arith, few, none))

count_of-append : (number : ℕ) (xs ys : List ℕ) → count_of number (xs ++ ys) ≡ count_of number xs + count_of number ys
count_of-append number xs ys = sum_by-append (λ k. cond (k == number) 1 0) xs ys

module _ (node i : ℕ) (lists : List (List ℕ)) (o : HoldsEachOnce lists) (node_within : node < node_count lists) (i_within : i < length lists) where
  list_within : i < length (map (without node) lists)
  list_within = omega (arith, length-map lists (without node))

  pub length-moved : length (moved node i lists) ≡ length lists
  length-moved =
      let rest = map (without node) lists in
      length-set rest i (list_at rest i ++ node ∷ []) ∙ length-map lists (without node)

  pub node_count-moved : node_count (moved node i lists) ≡ node_count lists
  node_count-moved =
      let added = sum_by-with_more length length-append (map (without node) lists) i (node ∷ []) list_within in
      let removed = node_count-without node lists in
      let one = o.once node node_within in
      omega (arith, added, removed, one)

  times-added : (number : ℕ) → times number (moved node i lists) ≡ times number (map (without node) lists) + count_of number (node ∷ [])
  times-added number = sum_by-with_more (count_of number) (count_of-append number) (map (without node) lists) i (node ∷ []) list_within

  times-moved_same : times node (moved node i lists) ≡ 1
  times-moved_same =
      let added = times-added node in
      let gone = times-without_same node lists in
      let one = count_of-here node node [] refl in
      omega (arith, added, gone, one)

  times-moved_other : (number : ℕ) → number ≢ node → times number (moved node i lists) ≡ times number lists
  times-moved_other number other =
      let added = times-added number in
      let same = times-without_other node number lists other in
      let none = count_of-elsewhere number node [] (λ e. other (sym e)) in
      omega (arith, added, same, none)

  pub HoldsEachOnce-moved : HoldsEachOnce (moved node i lists)
  HoldsEachOnce-moved = record {
    once = λ number h.
        elim (cases_eq number node) [
          | inl same ↦ ap (λ k. times k (moved node i lists)) same ∙ times-moved_same
          | inr other ↦ times-moved_other number other ∙ o.once number (omega (arith, h, node_count-moved))
        ];
    no_other = λ number h.
        let above : node_count lists ≤ number = omega (arith, h, node_count-moved) in
        times-moved_other number (λ e. omega arith) ∙ o.no_other number above;
  }

module _ (from to : ℕ) (lists : List (List ℕ)) (o : HoldsEachOnce lists) (other : from ≢ to) (from_within : from < length lists) (to_within : to < length lists) where
  pub length-emptied : length (emptied from to lists) ≡ length lists
  length-emptied = length-set (set lists from []) to (list_at lists to ++ list_at lists from) ∙ length-set lists from []

  pub node_count-emptied : node_count (emptied from to lists) ≡ node_count lists
  node_count-emptied = sum_by-emptied length length-append lists from to other from_within to_within refl

  times-emptied : (number : ℕ) → times number (emptied from to lists) ≡ times number lists
  times-emptied number = sum_by-emptied (count_of number) (count_of-append number) lists from to other from_within to_within refl

  pub HoldsEachOnce-emptied : HoldsEachOnce (emptied from to lists)
  HoldsEachOnce-emptied = record {
    once = λ number h. times-emptied number ∙ o.once number (omega (arith, h, node_count-emptied));
    no_other = λ number h. times-emptied number ∙ o.no_other number (omega (arith, h, node_count-emptied));
  }
