-- The first buffer of a file, and what becomes of the lists once it is free.
use Rattle.std.proofs.Common.{◌≡◌, ◌≢◌, ℕ, suc, ◌+◌, ◌<◌, ◌≤◌, ◌==◌, true, List, [], ◌∷◌, ◌++◌, map, length, Option, Some, None, refl, sym, ap, ◌∙◌, subst, inl, inr, arith, get_or-set_same, get_or-set_other, length-set}
use Rattle.std.specs.Prelude.{IsSome, option_map}
use Rattle.std.specs.List.{AllByRecursion}
use Rattle.std.proofs.lemmas.Bool.{cases_eq, and_parts, eqb-true, false≢true}
use Rattle.std.proofs.lemmas.List.{length-map, get_or-map, length-append}
use Rattle.std.proofs.Math.ListN.{get_or-map as read-map}
use Rattle.std.proofs.lemmas.List.Quantifiers.{position-Some}
use Rattle.std.proofs.lemmas.List.Sums.{sum_by-cons}
use Rattle.apex_types.specs.declared.numbers.FileNode.{FileNode}
use Rattle.block_pool.specs.declared.buffers.Block.{Block}
use Rattle.block_pool.specs.Lists.{first_of, list_at, moved, node_count, times, without}
use Rattle.block_pool.specs.Buffers.{Buffers, AreBuffers, block_at, holds_block, list_of_block, node_of}
use Rattle.block_pool.proofs.Counts.{count_of, count_of-lacking, length-without, node_count-moved, part_le}
use Rattle.block_pool.proofs.Held.{held_itself, not_held}
use Rattle.block_pool.proofs.Paths.{Lacks}

-- ---- which block the first buffer has

first-has : (P : ℕ → Type 0) (xs : List ℕ) (node : ℕ) → first_of xs ≡ Some node → AllByRecursion P xs → P node
first-has P [] node is all = absurd (cc)
first-has P (x ∷ xs) node is all = let same : x ≡ node = cc in subst P same all.0

block-of-list : (o : Option Block) (f : FileNode) (k : ℕ) → list_of_block o ≡ f.0 + 1 → option_map (λ block. block.index) o ≡ Some k → o ≡ Some (record { file = f; index = k })
block-of-list None f k list index = absurd (cc)
block-of-list (Some block) f k list index =
    let file : block.file.0 ≡ f.0 = omega (arith, list) in
    let same : block.index ≡ k = cc in
    (λ i. Some (record { file = record { 0 = file i }; index = same i }))

block-some : (o : Option Block) (i : ℕ) → list_of_block o ≡ i + 1 → option_map (λ block. block.index) o ≡ None → ⊥
block-some None i list none = omega (arith, list)
block-some (Some block) i list none = cc

is-held : (f : FileNode) (k : ℕ) (o : Option Block) → holds_block f k o ≡ true → o ≡ Some (record { file = f; index = k })
is-held f k None it = absurd (false≢true it)
is-held f k (Some block) it =
    let both = and_parts (block.file.0 == f.0) (block.index == k) it in
    let file : block.file.0 ≡ f.0 = eqb-true block.file.0 f.0 both.0 in
    let same : block.index ≡ k = eqb-true block.index k both.1 in
    (λ i. Some (record { file = record { 0 = file i }; index = same i }))

module _ (b : Buffers) (are : AreBuffers b) where
  -- a node with a block is the one that holds it
  found : (f : FileNode) (k node : ℕ) → node < length b.blocks → block_at b.blocks node ≡ Some (record { file = f; index = k }) → (o : Option ℕ) → node_of b f k ≡ o → o ≡ Some node
  found f k node within has None none =
      let here : holds_block f k (block_at b.blocks node) ≡ true = ap (holds_block f k) has ∙ held_itself f k in
      absurd (false≢true (sym (not_held (holds_block f k) b.blocks node none within) ∙ here))
  found f k node within has (Some m) is =
      let there = position-Some (holds_block f k) b.blocks m None is in
      let same : block_at b.blocks m ≡ block_at b.blocks node = is-held f k (block_at b.blocks m) there.1 ∙ sym has in
      let some : IsSome (block_at b.blocks m) = subst IsSome (sym (is-held f k (block_at b.blocks m) there.1)) refl in
      ap Some (are.no_block_twice m node there.0 within some same)

  module _ (f : FileNode) (node : ℕ) (file : f.0 + 1 < length b.lists) (within : node < node_count b.lists) (first : first_of (list_at b.lists (f.0 + 1)) ≡ Some node) where
    front-list : list_of_block (block_at b.blocks node) ≡ f.0 + 1
    front-list = first-has (λ n. list_of_block (block_at b.blocks n) ≡ f.0 + 1) (list_at b.lists (f.0 + 1)) node first (are.in_list (f.0 + 1) file)

    -- the first buffer of a file holds a block
    pub front-some : option_map (λ block. block.index) (block_at b.blocks node) ≡ None → ⊥
    front-some none = block-some (block_at b.blocks node) f.0 front-list none

    -- it is the node of its block
    pub front-node : (k : ℕ) → option_map (λ block. block.index) (block_at b.blocks node) ≡ Some k → node_of b f k ≡ Some node
    front-node k index =
        found f k node (omega (arith, within, are.blocks_length)) (block-of-list (block_at b.blocks node) f k front-list index) (node_of b f k) refl

-- ---- lists, once a node of one of them is free

-- a list of which all items are elsewhere lacks the node
lacks-listed : (blocks : List (Option Block)) (i node : ℕ) (xs : List ℕ) → AllByRecursion (λ n. list_of_block (block_at blocks n) ≡ i) xs → list_of_block (block_at blocks node) ≢ i → Lacks node xs
lacks-listed blocks i node [] all other = tt
lacks-listed blocks i node (x ∷ xs) all other = (λ e. other (ap (λ (n : ℕ). list_of_block (block_at blocks n)) (sym e) ∙ all.0), lacks-listed blocks i node xs all.1 other)

module _ (b : Buffers) (are : AreBuffers b) where
  -- how many nodes are free, at most
  pub free-most : length (list_at b.lists 0) ≤ node_count b.lists
  free-most = part_le (λ (xs : List ℕ). length xs) b.lists 0 are.one_list

  none-in : (i node : ℕ) → i < length b.lists → list_of_block (block_at b.blocks node) ≢ i → count_of node (list_at b.lists i) ≡ 0
  none-in i node low other = count_of-lacking node (list_at b.lists i) (lacks-listed b.blocks i node (list_at b.lists i) (are.in_list i low) other)

  module _ (f : FileNode) (node : ℕ) (file : f.0 + 1 < length b.lists) (within : node < node_count b.lists) (first : first_of (list_at b.lists (f.0 + 1)) ≡ Some node) where
    abbrev rest : List (List ℕ)
    rest = map (without node) b.lists

    -- one more buffer is free
    pub front-freed : length (list_at (moved node 0 b.lists) 0) ≡ length (list_at b.lists 0) + 1
    front-freed =
        let some = length-map b.lists (without node) in
        let here = get_or-set_same rest 0 (list_at rest 0 ++ node ∷ []) [] (omega (arith, some, are.one_list)) in
        let was = get_or-map (without node) b.lists 0 [] [] are.one_list in
        let long = ap (λ (xs : List ℕ). length xs) here in
        let short = ap (λ (xs : List ℕ). length xs) was in
        let both = length-append (list_at rest 0) (node ∷ []) in
        let all = length-without node (list_at b.lists 0) in
        let none = none-in 0 node are.one_list (λ e. let list = front-list b are f node file within first in omega (arith, e, list)) in
        omega (arith, long, short, both, all, none)

    -- so not all were
    pub front-room : length (list_at b.lists 0) + 1 ≤ node_count b.lists
    front-room =
        let freed = front-freed in
        let all = node_count-moved node 0 b.lists are.each_once within are.one_list in
        let same = length-map b.lists (without node) in
        let long = length-set rest 0 (list_at rest 0 ++ node ∷ []) in
        let most = part_le (λ (xs : List ℕ). length xs) (moved node 0 b.lists) 0 (omega (arith, same, long, are.one_list)) in
        omega (arith, freed, all, most)

-- the lists of files are no longer
pub shorter-freed : (node : ℕ) (lists : List (List ℕ)) (g : ℕ) → length (list_at (moved node 0 lists) (g + 1)) ≤ length (list_at lists (g + 1))
shorter-freed node lists g =
    let rest = map (without node) lists in
    let same = ap (λ (xs : List ℕ). length xs) (get_or-set_other rest 0 (g + 1) (list_at rest 0 ++ node ∷ []) [] (λ e. omega arith)) in
    let was = ap (λ (xs : List ℕ). length xs) (read-map (without node) lists (g + 1) []) in
    let all = length-without node (list_at lists (g + 1)) in
    omega (arith, same, was, all)

-- ---- a list with no node

-- no first node, no node
pub none-first : (xs : List ℕ) → first_of xs ≡ None → length xs ≡ 0
none-first [] none = refl
none-first (x ∷ xs) none = absurd (cc)

times-none : (node : ℕ) (lists : List (List ℕ)) → ((i : ℕ) → i < length lists → count_of node (list_at lists i) ≡ 0) → times node lists ≡ 0
times-none node [] none = refl
times-none node (xs ∷ lists) none =
    let both = sum_by-cons (count_of node) xs lists in
    let here = none 0 (omega arith) in
    let rest = times-none node lists (λ i low. none (suc i) (omega arith)) in
    omega (arith, both, here, rest)

empty-lacks : (node : ℕ) (xs : List ℕ) → length xs ≡ 0 → count_of node xs ≡ 0
empty-lacks node [] none = refl
empty-lacks node (x ∷ xs) none = absurd (omega arith)

module _ (b : Buffers) (are : AreBuffers b) (f : FileNode) (empty : length (list_at b.lists (f.0 + 1)) ≡ 0) where
  no-node : (k : ℕ) (o : Option ℕ) → node_of b f k ≡ o → o ≡ None
  no-node k None is = refl
  no-node k (Some node) is =
      let there = position-Some (holds_block f k) b.blocks node None is in
      let list : list_of_block (block_at b.blocks node) ≡ f.0 + 1 = ap list_of_block (is-held f k (block_at b.blocks node) there.1) in
      let once = are.each_once.once node (omega (arith, there.0, are.blocks_length)) in
      let none = times-none node b.lists (λ i low. elim (cases_eq i (f.0 + 1)) [
        | inl same ↦ ap (λ (j : ℕ). count_of node (list_at b.lists j)) same ∙ empty-lacks node (list_at b.lists (f.0 + 1)) empty
        | inr other ↦ none-in b are i node low (λ e. other (sym e ∙ list))
      ]) in
      absurd (omega (arith, once, none))

  -- no block of the file is in a buffer
  pub none-held : (k : ℕ) → node_of b f k ≡ None
  none-held k = no-node k (node_of b f k) refl

-- where the lists of all files are empty, all nodes are free
all-empty : (lists : List (List ℕ)) → ((i : ℕ) → i < length lists → length (list_at lists i) ≡ 0) → node_count lists ≡ 0
all-empty [] none = refl
all-empty (xs ∷ lists) none =
    let both = sum_by-cons (λ (ys : List ℕ). length ys) xs lists in
    let here = none 0 (omega arith) in
    let rest = all-empty lists (λ i low. none (suc i) (omega arith)) in
    omega (arith, both, here, rest)

pub all-free : (lists : List (List ℕ)) → ((g : ℕ) → g + 1 < length lists → length (list_at lists (g + 1)) ≡ 0) → node_count lists ≡ length (list_at lists 0)
all-free [] none = refl
all-free (xs ∷ lists) none =
    let both = sum_by-cons (λ (ys : List ℕ). length ys) xs lists in
    let rest = all-empty lists (λ g low. let next : g + 1 ≡ suc g = omega arith in ap (λ (i : ℕ). length (list_at (xs ∷ lists) i)) (sym next) ∙ none g (omega arith)) in
    omega (arith, both, rest)
