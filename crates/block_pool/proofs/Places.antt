-- In which node a block is, after each call.
use Rattle.std.proofs.Common.{◌≡◌, ◌≢◌, ℕ, ◌<◌, ◌+◌, ◌==◌, Bool, true, false, not, cond, List, [], ◌∷◌, map, length, drop, set, get_or, Option, Some, None, refl, sym, ap, ◌∙◌, subst, inl, inr, arith, length-set, get_or-set_same, get_or-set_other}
use Rattle.std.specs.Prelude.{IsSome, position, nat_lt}
use Rattle.std.specs.List.{AllByRecursion, position_or_len, prefix_len}
use Rattle.std.proofs.lemmas.Bool.{cases_eq, both_ways, and_parts, cond-true, cond-false, cond_both, eqb-true, lt-ltb, le-ltb, false_from_ne_true}
use Rattle.std.proofs.lemmas.List.{length-map, take_at}
use Rattle.std.proofs.lemmas.List.Quantifiers.{position-Some}
use Rattle.std.proofs.lemmas.List.Folds.{position_or_len-set}
use Rattle.std.proofs.lemmas.List.Sums.{position_or_len_is}
use Rattle.apex_types.specs.declared.numbers.FileNode.{FileNode}
use Rattle.block_pool.specs.declared.buffers.Block.{Block}
use Rattle.block_pool.specs.Lists.{first_of, list_at}
use Rattle.block_pool.specs.Buffers.{Buffers, AreBuffers, block_at, holds_block, list_of_block, node_of, without_file, with_taken, with_released, with_file_released, written_over}
use Rattle.block_pool.proofs.Held.{not_held, held_itself, block_at-map, list_of_no_block}

module _ {A : Type 0} (p : A → Bool) where
  position_is : (xs : List A) (i : ℕ) (d : A) → i < length xs → p (get_or xs i d) ≡ true → ((k : ℕ) → k < i → p (get_or xs k d) ≡ false) → position p xs ≡ Some i
  position_is xs i d h here before =
      let at : position_or_len p xs ≡ i = position_or_len_is p xs i d (omega arith) before (λ _. here) in
      cond-true (nat_lt (position_or_len p xs) (length xs)) (Some (position_or_len p xs)) None (lt-ltb (position_or_len p xs) (length xs) (omega arith))
      ∙ ap (λ (n : ℕ). Some n) at

  position_none : (xs : List A) (d : A) → ((k : ℕ) → k < length xs → p (get_or xs k d) ≡ false) → position p xs ≡ None
  position_none xs d none =
      let at : position_or_len p xs ≡ length xs = position_or_len_is p xs (length xs) d (omega arith) none (λ h. absurd (omega arith)) in
      cond-false (nat_lt (position_or_len p xs) (length xs)) (Some (position_or_len p xs)) None (le-ltb (position_or_len p xs) (length xs) (omega arith))

  position_alike : (xs ys : List A) → position_or_len p xs ≡ position_or_len p ys → length xs ≡ length ys → position p xs ≡ position p ys
  position_alike xs ys same same_length =
      ap (λ (n : ℕ). cond (nat_lt (position_or_len p xs) n) (Some (position_or_len p xs)) None) same_length
      ∙ ap (λ (i : ℕ). cond (nat_lt i (length ys)) (Some i) None) same

  position-set : (xs : List A) (i : ℕ) (y d : A) → p y ≡ p (get_or xs i d) → position p (set xs i y) ≡ position p xs
  position-set xs i y d same = position_alike (set xs i y) xs (position_or_len-set p xs i y d same) (length-set xs i y)

  prefix_len-map : (f : A → A) (xs : List A) → ((x : A) → p (f x) ≡ p x) → prefix_len (λ x. not (p x)) (map f xs) ≡ prefix_len (λ x. not (p x)) xs
  prefix_len-map f [] same = refl
  prefix_len-map f (x ∷ xs) same =
      ap (λ (b : Bool). cond (not b) (1 + prefix_len (λ x. not (p x)) (map f xs)) 0) (same x)
      ∙ ap (λ (n : ℕ). cond (not (p x)) (1 + n) 0) (prefix_len-map f xs same)

  position-map : (f : A → A) (xs : List A) → ((x : A) → p (f x) ≡ p x) → position p (map f xs) ≡ position p xs
  position-map f xs same = position_alike (map f xs) xs (prefix_len-map f xs same) (length-map xs f)

-- a node that holds a block has that block
holds_block-true : (file : FileNode) (index : ℕ) (o : Option Block) → holds_block file index o ≡ true → o ≡ Some (record { file = file; index = index })
holds_block-true file index None h = cc
holds_block-true file index (Some block) h =
    let parts = and_parts (block.file.0 == file.0) (block.index == index) h in
    let same_file : block.file.0 ≡ file.0 = eqb-true block.file.0 file.0 parts.0 in
    let same_index : block.index ≡ index = eqb-true block.index index parts.1 in
    let of_file : ℕ → Option Block = λ n. Some (record { file = record { 0 = n }; index = block.index }) in
    let of_index : ℕ → Option Block = λ n. Some (record { file = file; index = n }) in
    ap of_file same_file ∙ ap of_index same_index

-- a block isn't another one
holds_block-other : (file other : FileNode) (index another : ℕ) → (file.0 ≡ other.0 → index ≡ another → ⊥)
    → holds_block file index (Some (record { file = other; index = another })) ≡ false
holds_block-other file other index another differ =
    false_from_ne_true (holds_block file index (Some (record { file = other; index = another })))
    (λ h.
    let parts = and_parts (other.0 == file.0) (another == index) h in
    differ (sym (eqb-true other.0 file.0 parts.0)) (sym (eqb-true another index parts.1)))

-- a taken node holds its block
pub node_of-taken : (b : Buffers) (node : ℕ) (file : FileNode) (index : ℕ) → node < length b.blocks → node_of b file index ≡ None
    → node_of (with_taken b node file index) file index ≡ Some node
node_of-taken b node file index h none =
    let block : Option Block = Some (record { file = file; index = index }) in
    let p : Option Block → Bool = holds_block file index in
    position_is p (set b.blocks node block) node None (omega (arith, length-set b.blocks node block, h))
    (ap p (get_or-set_same b.blocks node block None h) ∙ held_itself file index)
    (λ k before. ap p (get_or-set_other b.blocks node k block None (λ e. omega arith)) ∙ not_held p b.blocks k none (omega arith))

-- and the other blocks are where they were
pub node_of-taken_other : (b : Buffers) (node : ℕ) (file other : FileNode) (index another : ℕ) → block_at b.blocks node ≡ None
    → (file.0 ≡ other.0 → index ≡ another → ⊥) → node_of (with_taken b node other another) file index ≡ node_of b file index
node_of-taken_other b node file other index another free differ =
    let p : Option Block → Bool = holds_block file index in
    position-set p b.blocks node (Some (record { file = other; index = another })) None (holds_block-other file other index another differ ∙ sym (ap p free))

-- the block of a released node is in no node
pub node_of-released : (b : Buffers) (node : ℕ) (file : FileNode) (index : ℕ) → AreBuffers b → node < length b.blocks
    → block_at b.blocks node ≡ Some (record { file = file; index = index }) → node_of (with_released b node) file index ≡ None
node_of-released b node file index are h held =
    let p : Option Block → Bool = holds_block file index in
    position_none p (set b.blocks node None) None
    (λ k within.
    let k_in : k < length b.blocks = omega (arith, length-set b.blocks node None, within) in
    elim (cases_eq k node) [
      | inl same ↦ ap p (ap (block_at (set b.blocks node None)) same ∙ get_or-set_same b.blocks node None None h)
      | inr other ↦
          ap p (get_or-set_other b.blocks node k None None other)
          ∙ false_from_ne_true (p (block_at b.blocks k))
          (λ holds.
          let its = holds_block-true file index (block_at b.blocks k) holds in
          let some : IsSome (block_at b.blocks k) = subst (λ (o : Option Block). IsSome o) (sym its) refl in
          other (are.no_block_twice k node k_in h some (its ∙ sym held)))
    ])

-- and the others are where they were
pub node_of-released_other : (b : Buffers) (node : ℕ) (file : FileNode) (index : ℕ) → holds_block file index (block_at b.blocks node) ≡ false
    → node_of (with_released b node) file index ≡ node_of b file index
node_of-released_other b node file index other = position-set (holds_block file index) b.blocks node None None (sym other)

not_without : (file : FileNode) (index : ℕ) (o : Option Block) → holds_block file index (without_file file o) ≡ false
not_without file index None = refl
not_without file index (Some block) =
    cond_both (block.file.0 == file.0) None (Some block) (λ o. holds_block file index o ≡ false) (λ _. refl)
    (λ other. false_from_ne_true (holds_block file index (Some block))
    (λ h. both_ways (block.file.0 == file.0) other ((and_parts (block.file.0 == file.0) (block.index == index) h).0)))

-- no block of a released file is in a node
pub node_of-file_released : (b : Buffers) (file : FileNode) (index : ℕ) → node_of (with_file_released b file) file index ≡ None
node_of-file_released b file index =
    let p : Option Block → Bool = holds_block file index in
    position_none p (map (without_file file) b.blocks) None
    (λ k _. ap p (block_at-map file b.blocks k) ∙ not_without file index (block_at b.blocks k))

without_other : (file other : FileNode) (index : ℕ) → file.0 ≢ other.0 → (o : Option Block) → holds_block file index (without_file other o) ≡ holds_block file index o
without_other file other index differ None = refl
without_other file other index differ (Some block) =
    cond_both (block.file.0 == other.0) None (Some block) (λ o. holds_block file index o ≡ holds_block file index (Some block))
    (λ same. sym (false_from_ne_true (holds_block file index (Some block))
    (λ h.
    let parts = and_parts (block.file.0 == file.0) (block.index == index) h in
    differ (sym (eqb-true block.file.0 file.0 parts.0) ∙ eqb-true block.file.0 other.0 same))))
    (λ _. refl)

-- and those of other files are where they were
pub node_of-file_released_other : (b : Buffers) (file other : FileNode) (index : ℕ) → file.0 ≢ other.0
    → node_of (with_file_released b other) file index ≡ node_of b file index
node_of-file_released_other b file other index differ =
    position-map (holds_block file index) (without_file other) b.blocks (without_other file other index differ)

-- where a block is found its node holds it
pub held_at : (b : Buffers) (file : FileNode) (index node : ℕ) → node_of b file index ≡ Some node
    → (node < length b.blocks) × (block_at b.blocks node ≡ Some (record { file = file; index = index }))
held_at b file index node found =
    let facts = position-Some (holds_block file index) b.blocks node None found in
    (facts.0, holds_block-true file index (block_at b.blocks node) facts.1)

-- and a block that a node holds is found there
pub node_of-held : (b : Buffers) (file : FileNode) (index node : ℕ) → AreBuffers b → node < length b.blocks
    → block_at b.blocks node ≡ Some (record { file = file; index = index }) → node_of b file index ≡ Some node
node_of-held b file index node are h held =
    let p : Option Block → Bool = holds_block file index in
    position_is p b.blocks node None h (ap p held ∙ held_itself file index)
    (λ k before.
    false_from_ne_true (p (block_at b.blocks k))
    (λ holds.
    let its = holds_block-true file index (block_at b.blocks k) holds in
    let some : IsSome (block_at b.blocks k) = subst (λ (o : Option Block). IsSome o) (sym its) refl in
    let same = are.no_block_twice k node (omega arith) h some (its ∙ sym held) in
    omega (arith, same)))

-- what holds of each node of a list holds of the first
first_holds : (P : ℕ → Type 0) (xs : List ℕ) (node : ℕ) → first_of xs ≡ Some node → AllByRecursion P xs → P node
first_holds P [] node e all = absurd cc
first_holds P (x ∷ xs) node e all = let same : x ≡ node = cc in subst P same all.0

-- the first free node holds no block
pub free_first : (b : Buffers) (node : ℕ) → AreBuffers b → first_of (list_at b.lists 0) ≡ Some node → block_at b.blocks node ≡ None
free_first b node are first =
    list_of_no_block (block_at b.blocks node)
    (first_holds (λ k. list_of_block (block_at b.blocks k) ≡ 0) (list_at b.lists 0) node first (are.in_list 0 are.one_list))

block_of_list : (file : FileNode) (o : Option Block) → list_of_block o ≡ file.0 + 1 → (index : ℕ) × (o ≡ Some (record { file = file; index = index }))
block_of_list file None e = absurd (omega (arith, e))
block_of_list file (Some block) e =
    let same : block.file.0 ≡ file.0 = omega (arith, e) in
    let of_file : ℕ → Option Block = λ n. Some (record { file = record { 0 = n }; index = block.index }) in
    (block.index, ap of_file same)

-- the first node of a file holds a block of that file
pub file_first : (b : Buffers) (file : FileNode) (node : ℕ) → AreBuffers b → file.0 + 1 < length b.lists
    → first_of (list_at b.lists (file.0 + 1)) ≡ Some node → (index : ℕ) × (block_at b.blocks node ≡ Some (record { file = file; index = index }))
file_first b file node are within first =
    block_of_list file (block_at b.blocks node)
    (first_holds (λ k. list_of_block (block_at b.blocks k) ≡ file.0 + 1) (list_at b.lists (file.0 + 1)) node first (are.in_list (file.0 + 1) within))

-- as many bytes written over others are those bytes
pub written_over-same : (old new : List ℕ) → length new ≡ length old → written_over old new ≡ new
written_over-same old new same = take_at new (drop (length new) old) (length old) same
