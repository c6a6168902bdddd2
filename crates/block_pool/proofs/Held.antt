-- Buffers after a node was moved, with a block or without one.
use Rattle.std.proofs.Common.{◌≡◌, ◌≢◌, ℕ, ◌<◌, ◌+◌, ◌==◌, Bool, true, false, List, [], ◌∷◌, ◌++◌, map, length, set, Option, Some, None, refl, sym, ap, ◌∙◌, subst, inl, inr, arith, zero, suc, length-set, get_or-set_same, get_or-set_other}
use Rattle.std.specs.Prelude.{IsSome, position, nat_lt}
use Rattle.std.specs.List.{AllByRecursion, position_or_len}
use Rattle.std.proofs.lemmas.Bool.{cases_eq, cases_lt, lt-ltb, and_from, both_ways, cond_both, cond-true, cond-false, eqb-false, ne_eqb, eq-eqb}
use Rattle.std.proofs.lemmas.List.{length-map, get_or-map}
use Rattle.std.proofs.lemmas.List.Sums.{fails_before_first}
use Rattle.apex_types.specs.declared.numbers.FileNode.{FileNode}
use Rattle.block_pool.specs.declared.buffers.Block.{Block}
use Rattle.block_pool.specs.Lists.{list_at, node_count, without, moved, emptied}
use Rattle.block_pool.specs.Buffers.{Buffers, AreBuffers, block_at, holds_block, list_of_block, without_file, with_taken, with_released, with_file_released}
use Rattle.block_pool.proofs.Counts.{length-moved, node_count-moved, HoldsEachOnce-moved, length-emptied, node_count-emptied, HoldsEachOnce-emptied}

module _ {A : Type 0} where
  AllByRecursion-append : (P : A → Type 0) (xs ys : List A) → AllByRecursion P xs → AllByRecursion P ys → AllByRecursion P (xs ++ ys)
  AllByRecursion-append P [] ys p q = q
  AllByRecursion-append P (x ∷ xs) ys p q = (p.0, AllByRecursion-append P xs ys p.1 q)

  AllByRecursion-weaker : (P Q : A → Type 0) (xs : List A) → ((x : A) → P x → Q x) → AllByRecursion P xs → AllByRecursion Q xs
  AllByRecursion-weaker P Q [] step p = tt
  AllByRecursion-weaker P Q (x ∷ xs) step p = (step x p.0, AllByRecursion-weaker P Q xs step p.1)

-- what holds of all others holds of a list without the node
AllByRecursion-without : (P Q : ℕ → Type 0) (node : ℕ) (xs : List ℕ) → ((k : ℕ) → k ≢ node → P k → Q k) → AllByRecursion P xs
    → AllByRecursion Q (without node xs)
AllByRecursion-without P Q node [] step p = tt
AllByRecursion-without P Q node (x ∷ xs) step p =
    let rest = AllByRecursion-without P Q node xs step p.1 in
    cond_both (x == node) (without node xs) (x ∷ without node xs) (λ ys. AllByRecursion Q ys)
    (λ _. rest) (λ other. (step x (eqb-false x node other) p.0, rest))

-- the buffers with a node in another list, and another block
abbrev pub with_node : Buffers → ℕ → ℕ → Option Block → Buffers
with_node b node i block = record { lists = moved node i b.lists; blocks = set b.blocks node block; contents = b.contents }

module _ (b : Buffers) (are : AreBuffers b) (node i : ℕ) (block : Option Block) (node_within : node < node_count b.lists) (i_within : i < length b.lists)
    (its_list : list_of_block block ≡ i) (new : (k : ℕ) → k < length b.blocks → IsSome block → block_at b.blocks k ≡ block → ⊥) where
  node_in : node < length b.blocks
  node_in = let few = are.blocks_length in omega (arith, few)

  -- the node has its new block, and the others have theirs
  block_here : block_at (set b.blocks node block) node ≡ block
  block_here = get_or-set_same b.blocks node block None node_in

  block_elsewhere : (k : ℕ) → k ≢ node → block_at (set b.blocks node block) k ≡ block_at b.blocks k
  block_elsewhere k other = get_or-set_other b.blocks node k block None other

  rest_in_list : (j : ℕ) → j < length b.lists
      → AllByRecursion (λ k. list_of_block (block_at (set b.blocks node block) k) ≡ j) (list_at (map (without node) b.lists) j)
  rest_in_list j h =
      subst (λ (xs : List ℕ). AllByRecursion (λ k. list_of_block (block_at (set b.blocks node block) k) ≡ j) xs)
      (sym (get_or-map (without node) b.lists j [] [] h))
      (AllByRecursion-without (λ k. list_of_block (block_at b.blocks k) ≡ j) (λ k. list_of_block (block_at (set b.blocks node block) k) ≡ j) node (list_at b.lists j)
      (λ k other e. ap list_of_block (block_elsewhere k other) ∙ e) (are.in_list j h))

  all_in_list : (j : ℕ) → j < length b.lists
      → AllByRecursion (λ k. list_of_block (block_at (set b.blocks node block) k) ≡ j) (list_at (moved node i b.lists) j)
  all_in_list j h =
      let rest = map (without node) b.lists in
      let rest_length = length-map b.lists (without node) in
      elim (cases_eq j i) [
        | inl same ↦
            subst (λ (m : ℕ). AllByRecursion (λ k. list_of_block (block_at (set b.blocks node block) k) ≡ m) (list_at (moved node i b.lists) m)) (sym same)
            (subst (λ (xs : List ℕ). AllByRecursion (λ k. list_of_block (block_at (set b.blocks node block) k) ≡ i) xs)
            (sym (get_or-set_same rest i (list_at rest i ++ node ∷ []) [] (omega (arith, rest_length, i_within))))
            (AllByRecursion-append (λ k. list_of_block (block_at (set b.blocks node block) k) ≡ i) (list_at rest i) (node ∷ [])
            (rest_in_list i i_within) (ap list_of_block block_here ∙ its_list, tt)))
        | inr other ↦
            subst (λ (xs : List ℕ). AllByRecursion (λ k. list_of_block (block_at (set b.blocks node block) k) ≡ j) xs)
            (sym (get_or-set_other rest i j (list_at rest i ++ node ∷ []) [] other)) (rest_in_list j h)
      ]

  none_twice : (j k : ℕ) → j < length b.blocks → k < length b.blocks → IsSome (block_at (set b.blocks node block) j)
      → block_at (set b.blocks node block) j ≡ block_at (set b.blocks node block) k → j ≡ k
  none_twice j k j_in k_in some same =
      elim (cases_eq j node) [
        | inl j_is ↦ elim (cases_eq k node) [
          | inl k_is ↦ j_is ∙ sym k_is
          | inr k_other ↦
              let here = ap (block_at (set b.blocks node block)) j_is ∙ block_here in
              absurd (new k k_in (subst (λ (o : Option Block). IsSome o) here some) (sym (block_elsewhere k k_other) ∙ sym same ∙ here))
        ]
        | inr j_other ↦ elim (cases_eq k node) [
          | inl k_is ↦
              let here = ap (block_at (set b.blocks node block)) k_is ∙ block_here in
              absurd (new j j_in (subst (λ (o : Option Block). IsSome o) (same ∙ here) some) (sym (block_elsewhere j j_other) ∙ same ∙ here))
          | inr k_other ↦
              are.no_block_twice j k j_in k_in (subst (λ (o : Option Block). IsSome o) (block_elsewhere j j_other) some)
              (sym (block_elsewhere j j_other) ∙ same ∙ block_elsewhere k k_other)
        ]
      ]

  pub AreBuffers-with_node : AreBuffers (with_node b node i block)
  AreBuffers-with_node =
      let lists_length = length-moved node i b.lists are.each_once node_within i_within in
      let number = node_count-moved node i b.lists are.each_once node_within i_within in
      let blocks_length = length-set b.blocks node block in
      let held = are.blocks_length in
      let stored = are.contents_length in
      let one = are.one_list in
      let few = are.fits in
      record {
        each_once = HoldsEachOnce-moved node i b.lists are.each_once node_within i_within;
        one_list = omega (arith, lists_length, one);
        fits = omega (arith, number, few);
        blocks_length = blocks_length ∙ held ∙ sym number;
        contents_length = stored ∙ sym number;
        in_list = λ j h. all_in_list j (omega (arith, lists_length, h));
        no_block_twice = λ j k j_in k_in. none_twice j k (omega (arith, j_in, blocks_length)) (omega (arith, k_in, blocks_length));
        full_size = are.full_size;
      }

no_block : (b : Buffers) (k : ℕ) → k < length b.blocks → IsSome {T = Block} None → block_at b.blocks k ≡ None → ⊥
no_block b k h some e = cc

pub AreBuffers-released : (b : Buffers) (node : ℕ) → AreBuffers b → node < node_count b.lists → AreBuffers (with_released b node)
AreBuffers-released b node are h = AreBuffers-with_node b are node 0 None h are.one_list refl (no_block b)

-- a block's node stands in list 0 where it holds none
pub list_of_no_block : (o : Option Block) → list_of_block o ≡ 0 → o ≡ None
list_of_no_block None e = refl
list_of_no_block (Some block) e = absurd (omega (arith, e))

-- where a file's blocks are gone
without_file-none : (file : FileNode) (o : Option Block) → list_of_block o ≡ file.0 + 1 → without_file file o ≡ None
without_file-none file None e = refl
without_file-none file (Some block) e = cond-true (block.file.0 == file.0) None (Some block) (eq-eqb block.file.0 file.0 (omega (arith, e)))

without_file-other : (file : FileNode) (o : Option Block) → list_of_block o ≢ file.0 + 1 → without_file file o ≡ o
without_file-other file None e = refl
without_file-other file (Some block) e =
    cond-false (block.file.0 == file.0) None (Some block) (ne_eqb block.file.0 file.0 (λ same. e (ap (λ (k : ℕ). k + 1) same)))

without_file-some : (file : FileNode) (o : Option Block) → IsSome (without_file file o) → without_file file o ≡ o
without_file-some file None some = refl
without_file-some file (Some block) some =
    let P : Option Block → Type 0 = λ o. IsSome o → o ≡ Some block in
    cond_both (block.file.0 == file.0) None (Some block) P (λ _ none. cc) (λ _ _. refl) some

pub block_at-map : (file : FileNode) (blocks : List (Option Block)) (k : ℕ) → block_at (map (without_file file) blocks) k ≡ without_file file (block_at blocks k)
block_at-map file [] k = refl
block_at-map file (o ∷ blocks) zero = refl
block_at-map file (o ∷ blocks) (suc k) = block_at-map file blocks k

module _ (b : Buffers) (are : AreBuffers b) (file : FileNode) (within : file.0 + 1 < length b.lists) where
  to_free : (k : ℕ) → list_of_block (block_at b.blocks k) ≡ file.0 + 1 → list_of_block (block_at (map (without_file file) b.blocks) k) ≡ 0
  to_free k e = ap list_of_block (block_at-map file b.blocks k ∙ without_file-none file (block_at b.blocks k) e)

  stays : (j : ℕ) → j ≢ file.0 + 1 → (k : ℕ) → list_of_block (block_at b.blocks k) ≡ j → list_of_block (block_at (map (without_file file) b.blocks) k) ≡ j
  stays j other k e =
      ap list_of_block (block_at-map file b.blocks k ∙ without_file-other file (block_at b.blocks k) (λ same. other (sym e ∙ same))) ∙ e

  released_in_list : (j : ℕ) → j < length b.lists
      → AllByRecursion (λ k. list_of_block (block_at (map (without_file file) b.blocks) k) ≡ j) (list_at (emptied (file.0 + 1) 0 b.lists) j)
  released_in_list j h =
      let cleared = set b.lists (file.0 + 1) [] in
      let cleared_length = length-set b.lists (file.0 + 1) [] in
      let both = list_at b.lists 0 ++ list_at b.lists (file.0 + 1) in
      let one = are.one_list in
      elim (cases_eq j 0) [
        | inl same ↦
            subst (λ (m : ℕ). AllByRecursion (λ k. list_of_block (block_at (map (without_file file) b.blocks) k) ≡ m) (list_at (emptied (file.0 + 1) 0 b.lists) m)) (sym same)
            (subst (λ (xs : List ℕ). AllByRecursion (λ k. list_of_block (block_at (map (without_file file) b.blocks) k) ≡ 0) xs)
            (sym (get_or-set_same cleared 0 both [] (omega (arith, cleared_length, one))))
            (AllByRecursion-append (λ k. list_of_block (block_at (map (without_file file) b.blocks) k) ≡ 0) (list_at b.lists 0) (list_at b.lists (file.0 + 1))
            (AllByRecursion-weaker (λ k. list_of_block (block_at b.blocks k) ≡ 0) (λ k. list_of_block (block_at (map (without_file file) b.blocks) k) ≡ 0) (list_at b.lists 0)
            (stays 0 (λ e. omega (arith, e))) (are.in_list 0 one))
            (AllByRecursion-weaker (λ k. list_of_block (block_at b.blocks k) ≡ file.0 + 1) (λ k. list_of_block (block_at (map (without_file file) b.blocks) k) ≡ 0)
            (list_at b.lists (file.0 + 1)) to_free (are.in_list (file.0 + 1) within))))
        | inr not_free ↦ elim (cases_eq j (file.0 + 1)) [
          | inl same ↦
              subst (λ (m : ℕ). AllByRecursion (λ k. list_of_block (block_at (map (without_file file) b.blocks) k) ≡ m) (list_at (emptied (file.0 + 1) 0 b.lists) m)) (sym same)
              (subst (λ (xs : List ℕ). AllByRecursion (λ k. list_of_block (block_at (map (without_file file) b.blocks) k) ≡ file.0 + 1) xs)
              (sym (get_or-set_other cleared 0 (file.0 + 1) both [] (λ e. omega (arith, e)) ∙ get_or-set_same b.lists (file.0 + 1) [] [] within)) tt)
          | inr other ↦
              subst (λ (xs : List ℕ). AllByRecursion (λ k. list_of_block (block_at (map (without_file file) b.blocks) k) ≡ j) xs)
              (sym (get_or-set_other cleared 0 j both [] not_free ∙ get_or-set_other b.lists (file.0 + 1) j [] [] other))
              (AllByRecursion-weaker (λ k. list_of_block (block_at b.blocks k) ≡ j) (λ k. list_of_block (block_at (map (without_file file) b.blocks) k) ≡ j) (list_at b.lists j)
              (stays j other) (are.in_list j h))
        ]
      ]

  released_none_twice : (j k : ℕ) → j < length b.blocks → k < length b.blocks → IsSome (block_at (map (without_file file) b.blocks) j)
      → block_at (map (without_file file) b.blocks) j ≡ block_at (map (without_file file) b.blocks) k → j ≡ k
  released_none_twice j k j_in k_in some same =
      let at_j = block_at-map file b.blocks j in
      let at_k = block_at-map file b.blocks k in
      let some_j = subst (λ (o : Option Block). IsSome o) at_j some in
      let some_k = subst (λ (o : Option Block). IsSome o) (same ∙ at_k) some in
      let old_j = without_file-some file (block_at b.blocks j) some_j in
      let old_k = without_file-some file (block_at b.blocks k) some_k in
      are.no_block_twice j k j_in k_in (subst (λ (o : Option Block). IsSome o) old_j some_j)
      (sym old_j ∙ sym at_j ∙ same ∙ at_k ∙ old_k)

  pub AreBuffers-file_released : AreBuffers (record { lists = emptied (file.0 + 1) 0 b.lists; blocks = map (without_file file) b.blocks; contents = b.contents })
  AreBuffers-file_released =
      let one = are.one_list in
      let not_free : file.0 + 1 ≢ 0 = λ e. omega (arith, e) in
      let lists_length = length-emptied (file.0 + 1) 0 b.lists are.each_once not_free within one in
      let number = node_count-emptied (file.0 + 1) 0 b.lists are.each_once not_free within one in
      let few = are.fits in
      let blocks_length = length-map b.blocks (without_file file) in
      record {
        each_once = HoldsEachOnce-emptied (file.0 + 1) 0 b.lists are.each_once not_free within one;
        one_list = omega (arith, lists_length, one);
        fits = omega (arith, number, few);
        blocks_length = blocks_length ∙ are.blocks_length ∙ sym number;
        contents_length = are.contents_length ∙ sym number;
        in_list = λ j h. released_in_list j (omega (arith, lists_length, h));
        no_block_twice = λ j k j_in k_in. released_none_twice j k (omega (arith, j_in, blocks_length)) (omega (arith, k_in, blocks_length));
        full_size = are.full_size;
      }

-- the same with the lists where one in the place of both would stay
pub AreBuffers-moved_all : (b : Buffers) → AreBuffers b → (file : FileNode) → file.0 + 1 < length b.lists → AreBuffers (with_file_released b file)
AreBuffers-moved_all b are file within =
    let not_free : file.0 + 1 ≢ 0 = λ e. omega (arith, e) in
    subst (λ (lists : List (List ℕ)). AreBuffers (record { lists = lists; blocks = map (without_file file) b.blocks; contents = b.contents }))
    (sym (cond-false (file.0 + 1 == 0) b.lists (emptied (file.0 + 1) 0 b.lists) (ne_eqb (file.0 + 1) 0 not_free)))
    (AreBuffers-file_released b are file within)

-- a block that isn't found isn't held by any node
pub not_held : (p : Option Block → Bool) (blocks : List (Option Block)) (k : ℕ) → position p blocks ≡ None → k < length blocks → p (block_at blocks k) ≡ false
not_held p blocks k none h =
    elim (cases_lt (position_or_len p blocks) (length blocks)) [
      | inl found ↦
          let some = cond-true (nat_lt (position_or_len p blocks) (length blocks)) (Some (position_or_len p blocks)) None (lt-ltb (position_or_len p blocks) (length blocks) found) in
          let clash : Some (position_or_len p blocks) ≡ None = sym some ∙ none in
          absurd (cc)
      | inr all ↦ fails_before_first p blocks k None (omega arith)
    ]

pub held_itself : (file : FileNode) (index : ℕ) → holds_block file index (Some (record { file = file; index = index })) ≡ true
held_itself file index = and_from (file.0 == file.0) (index == index) (eq-eqb file.0 file.0 refl) (eq-eqb index index refl)

-- a free node takes a block that no other node holds
pub AreBuffers-taken : (b : Buffers) (node : ℕ) (file : FileNode) (index : ℕ) → AreBuffers b → node < node_count b.lists
    → file.0 + 1 < length b.lists → position (holds_block file index) b.blocks ≡ None → AreBuffers (with_taken b node file index)
AreBuffers-taken b node file index are h within none =
    AreBuffers-with_node b are node (file.0 + 1) (Some (record { file = file; index = index })) h within refl
    (λ k k_in _ same.
    both_ways (holds_block file index (block_at b.blocks k)) (not_held (holds_block file index) b.blocks k none k_in)
    (ap (holds_block file index) same ∙ held_itself file index))
