-- The nodes with no block are those of list 0.
use Rattle.std.proofs.Common.{◌≡◌, ◌≢◌, ℕ, ◌<◌, ◌≤◌, ◌+◌, ◌==◌, cond, List, [], ◌∷◌, map, length, Option, Some, None, refl, sym, ap, ◌∙◌, subst, inl, inr, arith, zero, suc, sum_by, count_by}
use Rattle.std.specs.Prelude.{is_none}
use Rattle.std.specs.List.{AllByRecursion, range_with_len}
use Rattle.std.proofs.lemmas.Bool.{cases_eq, cond-true, cond-false, eq-eqb, ne_eqb}
use Rattle.std.proofs.lemmas.List.FromFn.{fill_by_all}
use Rattle.std.proofs.lemmas.List.Sums.{sum_by-cons}
use Rattle.block_pool.specs.declared.buffers.Block.{Block}
use Rattle.block_pool.specs.Lists.{list_at, times}
use Rattle.block_pool.specs.Buffers.{Buffers, AreBuffers, block_at, list_of_block}
use Rattle.block_pool.proofs.Paths.{Lacks, AllBelow}
use Rattle.block_pool.proofs.Counts.{count_of, count_of-cons, count_of-lacking, AllBelow-list}

-- sums over a range
sum_by-map : {A B : Type 0} (g : B → ℕ) (f : A → B) (ks : List A) → sum_by g (map f ks) ≡ sum_by (λ k. g (f k)) ks
sum_by-map g f [] = refl
sum_by-map g f (k ∷ ks) =
    let left = sum_by-cons g (f k) (map f ks) in
    let right = sum_by-cons (λ k. g (f k)) k ks in
    let rest = sum_by-map g f ks in
    omega (arith, left, right, rest)

sum_by-alike : (f g : ℕ → ℕ) (a n : ℕ) → ((k : ℕ) → a ≤ k → k < a + n → f k ≡ g k) → sum_by f (range_with_len a n) ≡ sum_by g (range_with_len a n)
sum_by-alike f g a zero same = refl
sum_by-alike f g a (suc n) same =
    let left = sum_by-cons f a (range_with_len (a + 1) n) in
    let right = sum_by-cons g a (range_with_len (a + 1) n) in
    let here = same a (omega arith) (omega arith) in
    let rest = sum_by-alike f g (a + 1) n (λ k h i. same k (omega arith) (omega arith)) in
    omega (arith, left, right, here, rest)

sum_by-zero : (ks : List ℕ) → sum_by (λ (k : ℕ). 0) ks ≡ 0
sum_by-zero [] = refl
sum_by-zero (k ∷ ks) = sum_by-zero ks

sum_by-both : (f g : ℕ → ℕ) (ks : List ℕ) → sum_by (λ k. f k + g k) ks ≡ sum_by f ks + sum_by g ks
sum_by-both f g [] = refl
sum_by-both f g (k ∷ ks) =
    let both = sum_by-cons (λ k. f k + g k) k ks in
    let left = sum_by-cons f k ks in
    let right = sum_by-cons g k ks in
    let rest = sum_by-both f g ks in
    omega (arith, both, left, right, rest)

-- 1 at a number, and 0 elsewhere
abbrev one_at : ℕ → ℕ → ℕ
one_at x k = cond (x == k) 1 0

one_at-here : (x k : ℕ) → x ≡ k → one_at x k ≡ 1
one_at-here x k e = cond-true (x == k) 1 0 (eq-eqb x k e)

one_at-elsewhere : (x k : ℕ) → x ≢ k → one_at x k ≡ 0
one_at-elsewhere x k e = cond-false (x == k) 1 0 (ne_eqb x k e)

none_of_range : (x a n : ℕ) → x < a → sum_by (one_at x) (range_with_len a n) ≡ 0
none_of_range x a zero h = refl
none_of_range x a (suc n) h =
    let both = sum_by-cons (one_at x) a (range_with_len (a + 1) n) in
    let here = one_at-elsewhere x a (λ e. omega arith) in
    let rest = none_of_range x (a + 1) n (omega arith) in
    omega (arith, both, here, rest)

one_of_range : (x a n : ℕ) → a ≤ x → x < a + n → sum_by (one_at x) (range_with_len a n) ≡ 1
one_of_range x a zero h i = absurd (omega arith)
one_of_range x a (suc n) h i =
    let both = sum_by-cons (one_at x) a (range_with_len (a + 1) n) in
    elim (cases_eq x a) [
      | inl same ↦
          let here = one_at-here x a same in
          let rest = none_of_range x (a + 1) n (omega arith) in
          omega (arith, both, here, rest)
      | inr other ↦
          let here = one_at-elsewhere x a other in
          let rest = one_of_range x (a + 1) n (omega arith) (omega arith) in
          omega (arith, both, here, rest)
    ]

-- the length of a list is how often it holds each number, in all
counts_in_all : (n : ℕ) (xs : List ℕ) → AllBelow n xs → sum_by (λ k. count_of k xs) (range_with_len 0 n) ≡ length xs
counts_in_all n [] below = sum_by-zero (range_with_len 0 n)
counts_in_all n (x ∷ xs) below =
    let split = sum_by-alike (λ k. count_of k (x ∷ xs)) (λ k. one_at x k + count_of k xs) 0 n (λ k _ _. count_of-cons k x xs) in
    let both = sum_by-both (one_at x) (λ k. count_of k xs) (range_with_len 0 n) in
    let one = one_of_range x 0 n (omega arith) (omega (arith, below.0)) in
    let rest = counts_in_all n xs below.1 in
    omega (arith, split, both, one, rest)

-- where no list holds a number
times-none : (k : ℕ) (lists : List (List ℕ)) → ((i : ℕ) → i < length lists → count_of k (list_at lists i) ≡ 0) → times k lists ≡ 0
times-none k [] none = refl
times-none k (xs ∷ lists) none =
    let both = sum_by-cons (count_of k) xs lists in
    let here = none 0 (omega arith) in
    let rest = times-none k lists (λ i h. none (suc i) (omega arith)) in
    omega (arith, both, here, rest)

-- and where none does but the first
times-first : (k : ℕ) (lists : List (List ℕ)) → ((i : ℕ) → 0 < i → i < length lists → count_of k (list_at lists i) ≡ 0)
    → times k lists ≡ count_of k (list_at lists 0)
times-first k [] none = refl
times-first k (xs ∷ lists) none =
    let both = sum_by-cons (count_of k) xs lists in
    let rest = times-none k lists (λ i h. none (suc i) (omega arith) (omega arith)) in
    omega (arith, both, rest)

lacks_by_list : (blocks : List (Option Block)) (i k : ℕ) (xs : List ℕ) → AllByRecursion (λ node. list_of_block (block_at blocks node) ≡ i) xs
    → list_of_block (block_at blocks k) ≢ i → Lacks k xs
lacks_by_list blocks i k [] all other = tt
lacks_by_list blocks i k (x ∷ xs) all other =
    (λ e. other (ap (λ (m : ℕ). list_of_block (block_at blocks m)) (sym e) ∙ all.0), lacks_by_list blocks i k xs all.1 other)

-- list 0 holds a node once where it has no block, and else not
free_here : (b : Buffers) → AreBuffers b → (k : ℕ) → k < length b.blocks → (o : Option Block) → block_at b.blocks k ≡ o
    → cond (is_none o) 1 0 ≡ count_of k (list_at b.lists 0)
free_here b are k h None e =
    let number = are.blocks_length in
    let once = are.each_once.once k (omega (arith, number)) in
    let first = times-first k b.lists
    (λ i above within.
    count_of-lacking k (list_at b.lists i)
    (lacks_by_list b.blocks i k (list_at b.lists i) (are.in_list i within) (λ same. let zero_is = sym (ap list_of_block e) ∙ same in omega (arith, zero_is)))) in
    sym once ∙ first
free_here b are k h (Some block) e =
    sym (count_of-lacking k (list_at b.lists 0)
    (lacks_by_list b.blocks 0 k (list_at b.lists 0) (are.in_list 0 are.one_list) (λ same. let zero_is = sym (ap list_of_block e) ∙ same in omega (arith, zero_is))))

pub free_number : (b : Buffers) → AreBuffers b → count_by is_none b.blocks ≡ length (list_at b.lists 0)
free_number b are =
    let n = length b.blocks in
    let number = are.blocks_length in
    let listed : b.blocks ≡ map (block_at b.blocks) (range_with_len 0 n) = fill_by_all (block_at b.blocks) b.blocks n None refl (λ k h. refl) in
    let over = sum_by-map (λ o. cond (is_none o) 1 0) (block_at b.blocks) (range_with_len 0 n) in
    let alike = sum_by-alike (λ k. cond (is_none (block_at b.blocks k)) 1 0) (λ k. count_of k (list_at b.lists 0)) 0 n
    (λ k _ within. free_here b are k (omega arith) (block_at b.blocks k) refl) in
    let below = subst (λ (m : ℕ). AllBelow m (list_at b.lists 0)) (sym number) (AllBelow-list b.lists 0 are.each_once are.one_list) in
    ap (λ (blocks : List (Option Block)). count_by is_none blocks) listed ∙ over ∙ alike ∙ counts_in_all n (list_at b.lists 0) below
