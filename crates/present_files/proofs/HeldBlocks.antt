-- Which node holds a block, and with which bytes, once a node took a block, was made free or was written.
use Rattle.std.proofs.Common.{◌≡◌, ◌≢◌, ℕ, zero, suc, ◌+◌, ◌<◌, ◌≤◌, ◌==◌, Bool, true, false, cond, List, [], ◌∷◌, ◌++◌, map, length, set, take, replicate, get_or, Option, Some, None, refl, sym, ap, ◌∙◌, subst, inl, inr, arith, length-set, get_or-set_same, get_or-set_other}
use Rattle.std.specs.Prelude.{IsSome, position, nat_lt, slice_index_or, count_by, is_none}
use Rattle.std.specs.List.{AllByRecursion, position_or_len}
use Rattle.std.proofs.lemmas.Bool.{cases_eq, lt-ltb, le-ltb, and_parts, eqb-true, cond-true, cond-false, false≢true}
use Rattle.std.proofs.lemmas.Bool.Decides.{nat_tests}
use Rattle.std.proofs.lemmas.List.{length-replicate, length-map, get_or-map, take_all, append-nil, drop_all, length-append, set-set, set-get_or}
use Rattle.std.proofs.lemmas.List.Folds.{position_or_len-set}
use Rattle.std.proofs.lemmas.List.Quantifiers.{position-Some}
use Rattle.std.proofs.lemmas.List.Sums.{position_or_len_is}
use Rattle.apex_types.specs.declared.numbers.FileNode.{FileNode}
use Rattle.block_pool.specs.declared.buffers.Block.{Block}
use Rattle.block_pool.specs.Lists.{list_at, node_count, without, moved, first_of}
use Rattle.block_pool.specs.Buffers.{Buffers, AreBuffers, block_at, holds_block, list_of_block, node_of, with_taken, with_released, with_bytes, written_over}
use Rattle.block_pool.proofs.Counts.{count_of, length-without, node_count-moved, part_le}
use Rattle.block_pool.proofs.Free.{free_number}
use Rattle.block_pool.proofs.Held.{AreBuffers-released, AreBuffers-taken, not_held, held_itself, list_of_no_block}
use Rattle.present_files.specs.Nodes.{AllStay, AreHeld, HoldsMore, IsOther, OthersStay, bytes_of, free_in, held_or}

-- ---- first places

module _ {A : Type 0} (p : A → Bool) (xs : List A) where
  position-is : (i : ℕ) (d : A) → i < length xs → ((k : ℕ) → k < i → p (get_or xs k d) ≡ false) → p (get_or xs i d) ≡ true → position p xs ≡ Some i
  position-is i d within before here =
      let first = position_or_len_is p xs i d (omega arith) before (λ _. here) in
      cond-true (nat_lt (position_or_len p xs) (length xs)) (Some (position_or_len p xs)) None (lt-ltb (position_or_len p xs) (length xs) (omega (arith, first))) ∙ ap (λ (n : ℕ). Some n) first

  position-none : (d : A) → ((k : ℕ) → k < length xs → p (get_or xs k d) ≡ false) → position p xs ≡ None
  position-none d none =
      let end = position_or_len_is p xs (length xs) d (omega arith) none (λ h. absurd (omega arith)) in
      cond-false (nat_lt (position_or_len p xs) (length xs)) (Some (position_or_len p xs)) None (le-ltb (position_or_len p xs) (length xs) (omega (arith, end)))

  position-alike : (i : ℕ) (y d : A) → p y ≡ p (get_or xs i d) → position p (set xs i y) ≡ position p xs
  position-alike i y d same =
      let first = position_or_len-set p xs i y d same in
      let long = length-set xs i y in
      (λ t. cond (nat_lt (first t) (long t)) (Some (first t)) None)

-- ---- which block a node holds

holds-one : (f g : FileNode) (k j : ℕ) (o : Option Block) → holds_block f k o ≡ true → IsOther f k g j → holds_block g j o ≡ false
holds-one f g k j None it other = refl
holds-one f g k j (Some block) it other =
    let both = and_parts (block.file.0 == f.0) (block.index == k) it in
    let file = eqb-true block.file.0 f.0 both.0 in
    let index = eqb-true block.index k both.1 in
    elim (cases_eq block.file.0 g.0) [
      | inl same ↦ elim (cases_eq block.index j) [
        | inl alike ↦ absurd (other (sym same ∙ file) (sym alike ∙ index))
        | inr differs ↦ grind (arith, nat_tests)
      ]
      | inr differs ↦ grind (arith, nat_tests)
    ]

holds-same : (f : FileNode) (k : ℕ) (a b : Option Block) → holds_block f k a ≡ true → holds_block f k b ≡ true → a ≡ b
holds-same f k None b it also = absurd (false≢true it)
holds-same f k (Some x) None it also = absurd (false≢true also)
holds-same f k (Some x) (Some y) it also =
    let one = and_parts (x.file.0 == f.0) (x.index == k) it in
    let two = and_parts (y.file.0 == f.0) (y.index == k) also in
    let file : x.file.0 ≡ y.file.0 = eqb-true x.file.0 f.0 one.0 ∙ sym (eqb-true y.file.0 f.0 two.0) in
    let index : x.index ≡ y.index = eqb-true x.index k one.1 ∙ sym (eqb-true y.index k two.1) in
    (λ i. Some (record { file = record { 0 = file i }; index = index i }))

holds-some : (f : FileNode) (k : ℕ) (o : Option Block) → holds_block f k o ≡ true → IsSome o
holds-some f k None it = absurd (false≢true it)
holds-some f k (Some block) it = refl

-- ---- nodes

module _ (b : Buffers) (f : FileNode) (k : ℕ) where
  -- where a node holds the block
  module _ (node : ℕ) (is : node_of b f k ≡ Some node) where
    pub node-in : node < length b.blocks
    node-in = (position-Some (holds_block f k) b.blocks node None is).0

    pub node-holds : holds_block f k (block_at b.blocks node) ≡ true
    node-holds = (position-Some (holds_block f k) b.blocks node None is).1

    -- another block has another node
    pub other-node : (g : FileNode) (j m : ℕ) → IsOther f k g j → node_of b g j ≡ Some m → m ≢ node
    other-node g j m other found same =
        let there = (position-Some (holds_block g j) b.blocks m None found).1 in
        false≢true (sym (holds-one f g k j (block_at b.blocks node) node-holds other) ∙ ap (λ (n : ℕ). holds_block g j (block_at b.blocks n)) (sym same) ∙ there)

    pub gone-released : AreBuffers b → node_of (with_released b node) f k ≡ None
    gone-released are =
        position-none (holds_block f k) (set b.blocks node None) None (λ m low.
        elim (cases_eq m node) [
          | inl same ↦ ap (λ (n : ℕ). holds_block f k (block_at (set b.blocks node None) n)) same ∙ ap (holds_block f k) (get_or-set_same b.blocks node None None node-in)
          | inr differs ↦ ap (holds_block f k) (get_or-set_other b.blocks node m None None differs) ∙ only-one m (omega (arith, low, length-set b.blocks node None)) differs (holds_block f k (block_at b.blocks m)) refl
        ])
      where
        only-one : (m : ℕ) → m < length b.blocks → m ≢ node → (v : Bool) → holds_block f k (block_at b.blocks m) ≡ v → holds_block f k (block_at b.blocks m) ≡ false
        only-one m low differs false e = e
        only-one m low differs true e =
            absurd (differs (are.no_block_twice m node low node-in (holds-some f k (block_at b.blocks m) e) (holds-same f k (block_at b.blocks m) (block_at b.blocks node) e node-holds)))

    others-nodes-released : (g : FileNode) (j : ℕ) → IsOther f k g j → node_of (with_released b node) g j ≡ node_of b g j
    others-nodes-released g j other = position-alike (holds_block g j) b.blocks node None None (sym (holds-one f g k j (block_at b.blocks node) node-holds other))

    pub others-released : OthersStay f k b (with_released b node)
    others-released = record {
      nodes = λ g j other. others-nodes-released g j other;
      bytes = λ stored g j other. ap (bytes_of b stored) (others-nodes-released g j other);
      lists = length-set (map (without node) b.lists) 0 (list_at (map (without node) b.lists) 0 ++ node ∷ []) ∙ length-map b.lists (without node);
      count = refl;
    }

    -- a node that is written has the new bytes
    pub bytes-written : (stored bytes : List ℕ) → node < length b.contents → held_or (with_bytes b node bytes) stored f k ≡ written_over (slice_index_or b.contents node (replicate 512 0)) bytes
    bytes-written stored bytes within =
        ap (bytes_of (with_bytes b node bytes) stored) is
        ∙ get_or-set_same b.contents node (written_over (slice_index_or b.contents node (replicate 512 0)) bytes) (replicate 512 0) within

    same-bytes : (bytes stored : List ℕ) (g : FileNode) (j : ℕ) → IsOther f k g j → (o : Option ℕ) → node_of b g j ≡ o → bytes_of (with_bytes b node bytes) stored (node_of b g j) ≡ bytes_of b stored (node_of b g j)
    same-bytes bytes stored g j other None e = ap (bytes_of (with_bytes b node bytes) stored) e ∙ ap (bytes_of b stored) (sym e)
    same-bytes bytes stored g j other (Some m) e =
        ap (bytes_of (with_bytes b node bytes) stored) e
        ∙ get_or-set_other b.contents node m (written_over (slice_index_or b.contents node (replicate 512 0)) bytes) (replicate 512 0) (other-node g j m other e)
        ∙ ap (bytes_of b stored) (sym e)

    pub others-written : (bytes : List ℕ) → OthersStay f k b (with_bytes b node bytes)
    others-written bytes = record {
      nodes = λ g j other. refl;
      bytes = λ stored g j other. same-bytes bytes stored g j other (node_of b g j) refl;
      lists = refl;
      count = length-set b.contents node (written_over (slice_index_or b.contents node (replicate 512 0)) bytes);
    }

  -- where a free node takes the block
  module _ (node : ℕ) (free : block_at b.blocks node ≡ None) (within : node < length b.blocks) (absent : node_of b f k ≡ None) where
    abbrev now : Option Block
    now = Some (record { file = f; index = k })

    pub node-taken : node_of (with_taken b node f k) f k ≡ Some node
    node-taken =
        position-is (holds_block f k) (set b.blocks node now) node None (omega (arith, within, length-set b.blocks node now))
        (λ m low. ap (holds_block f k) (get_or-set_other b.blocks node m now None (λ e. omega arith)) ∙ not_held (holds_block f k) b.blocks m absent (omega arith))
        (ap (holds_block f k) (get_or-set_same b.blocks node now None within) ∙ held_itself f k)

    others-nodes-taken : (g : FileNode) (j : ℕ) → IsOther f k g j → node_of (with_taken b node f k) g j ≡ node_of b g j
    others-nodes-taken g j other =
        position-alike (holds_block g j) b.blocks node now None
        (holds-one f g k j now (held_itself f k) other ∙ sym (ap (holds_block g j) free))

    pub others-taken : OthersStay f k b (with_taken b node f k)
    others-taken = record {
      nodes = λ g j other. others-nodes-taken g j other;
      bytes = λ stored g j other. ap (bytes_of b stored) (others-nodes-taken g j other);
      lists = length-set (map (without node) b.lists) (f.0 + 1) (list_at (map (without node) b.lists) (f.0 + 1) ++ node ∷ []) ∙ length-map b.lists (without node);
      count = refl;
    }

-- the first free node holds no block
pub first-free : (b : Buffers) → AreBuffers b → (node : ℕ) → first_of (list_at b.lists 0) ≡ Some node → block_at b.blocks node ≡ None
first-free b are node first = list_of_no_block (block_at b.blocks node) (at-first (λ n. list_of_block (block_at b.blocks n) ≡ 0) (list_at b.lists 0) node first (are.in_list 0 are.one_list))
  where
    at-first : (P : ℕ → Type 0) (xs : List ℕ) (n : ℕ) → first_of xs ≡ Some n → AllByRecursion P xs → P n
    at-first P [] n e all = absurd (cc)
    at-first P (x ∷ xs) n e all = let same : x ≡ n = cc in subst P same all.0

pub some-first : (xs : List ℕ) → first_of xs ≡ None → 0 < length xs → ⊥
some-first [] none some = omega arith
some-first (x ∷ xs) none some = cc

-- each buffer has 512 bytes
pub buffer-long : (contents : List (List ℕ)) → AllByRecursion (λ bytes. length bytes ≡ 512) contents → (n : ℕ) → length (get_or contents n (replicate 512 0)) ≡ 512
buffer-long [] all n = length-replicate {A = ℕ} 512 0
buffer-long (x ∷ contents) all zero = all.0
buffer-long (x ∷ contents) all (suc n) = buffer-long contents all.1 n

-- bytes written over as many
pub over-whole : (old new : List ℕ) → length new ≡ length old → written_over old new ≡ new
over-whole old new long =
    ap (λ (rest : List ℕ). take (length old) (new ++ rest)) (drop_all (length new) old (omega (arith, long)))
    ∙ ap (take (length old)) (append-nil new) ∙ take_all (length old) new (omega (arith, long))

-- ---- others that stay, step by step

pub others-then : (f : FileNode) (k : ℕ) (a b c : Buffers) → OthersStay f k a b → OthersStay f k b c → OthersStay f k a c
others-then f k a b c one two = record {
  nodes = λ g j other. two.nodes g j other ∙ one.nodes g j other;
  bytes = λ stored g j other. two.bytes stored g j other ∙ one.bytes stored g j other;
  lists = two.lists ∙ one.lists;
  count = two.count ∙ one.count;
}

pub others-none : (f : FileNode) (k : ℕ) (a : Buffers) → OthersStay f k a a
others-none f k a = record { nodes = λ g j other. refl; bytes = λ stored g j other. refl; lists = refl; count = refl }

-- ---- how many nodes are free

module _ (b : Buffers) (are : AreBuffers b) (node : ℕ) (within : node < node_count b.lists) where
  fewer : length (list_at b.lists 0) ≤ length (without node (list_at b.lists 0)) + 1
  fewer =
      let all = length-without node (list_at b.lists 0) in
      let most = part_le (count_of node) b.lists 0 are.one_list in
      let once = are.each_once.once node within in
      omega (arith, all, most, once)

  pub free-taken : (i : ℕ) → i ≢ 0 → length (list_at b.lists 0) ≤ length (list_at (moved node i b.lists) 0) + 1
  free-taken i other =
      let rest = map (without node) b.lists in
      let same = get_or-set_other rest i 0 (list_at rest i ++ node ∷ []) [] (λ e. other (sym e)) ∙ get_or-map (without node) b.lists 0 [] [] are.one_list in
      let long = ap (λ (xs : List ℕ). length xs) same in
      omega (arith, long, fewer)

  pub free-released : length (list_at b.lists 0) ≤ length (list_at (moved node 0 b.lists) 0)
  free-released =
      let rest = map (without node) b.lists in
      let some = length-map b.lists (without node) in
      let same = get_or-set_same rest 0 (list_at rest 0 ++ node ∷ []) [] (omega (arith, some, are.one_list)) in
      let here = get_or-map (without node) b.lists 0 [] [] are.one_list in
      let long = ap (λ (xs : List ℕ). length xs) same in
      let both = length-append (list_at rest 0) (node ∷ []) in
      let short = ap (λ (xs : List ℕ). length xs) here in
      omega (arith, long, both, short, fewer)

-- ---- a free node takes a block and gets bytes

module _ (b t : Buffers) (are : AreBuffers b) (f : FileNode) (k node : ℕ) (bytes : List ℕ) (first : first_of (list_at b.lists 0) ≡ Some node) (within : node < node_count b.lists)
    (file : f.0 + 1 < length b.lists) (absent : node_of b f k ≡ None) (taken : t ≡ with_taken b node f k) where
  free-node : block_at b.blocks node ≡ None
  free-node = first-free b are node first

  in-blocks : node < length b.blocks
  in-blocks = omega (arith, within, are.blocks_length)

  pub taken-node : node_of t f k ≡ Some node
  taken-node = ap (λ (u : Buffers). node_of u f k) taken ∙ node-taken b f k node free-node in-blocks absent

  pub taken-room : node < length t.contents
  taken-room = let long = ap (λ (u : Buffers). length u.contents) taken in omega (arith, within, are.contents_length, long)

  pub taken-bytes : (stored : List ℕ) → length bytes ≡ 512 → held_or (with_bytes t node bytes) stored f k ≡ bytes
  taken-bytes stored long =
      let had : length (slice_index_or t.contents node (replicate 512 0)) ≡ 512 = ap (λ (u : Buffers). length (slice_index_or u.contents node (replicate 512 0))) taken ∙ buffer-long b.contents are.full_size node in
      bytes-written t f k node taken-node stored bytes taken-room ∙ over-whole (slice_index_or t.contents node (replicate 512 0)) bytes (long ∙ sym had)

  pub taken-others : OthersStay f k b (with_bytes t node bytes)
  taken-others =
      others-then f k b t (with_bytes t node bytes)
      (subst (λ (u : Buffers). OthersStay f k b u) (sym taken) (others-taken b f k node free-node in-blocks absent))
      (others-written t f k node taken-node bytes)

  pub taken-free : free_in b ≤ free_in t + 1
  taken-free =
      subst (λ (u : Buffers). free_in b ≤ free_in u + 1) (sym taken) (free-taken b are node within (f.0 + 1) (λ e. omega arith))

  -- where the node is made free again, all is as before
  abbrev again : Buffers
  again = with_released (with_bytes t node bytes) node

  blocks-again : again.blocks ≡ b.blocks
  blocks-again =
      ap (λ (u : Buffers). set u.blocks node None) taken
      ∙ set-set b.blocks node (Some (record { file = f; index = k })) None
      ∙ ap (set b.blocks node) (sym free-node) ∙ set-get_or b.blocks node None

  not-node : (g : FileNode) (j m : ℕ) → node_of b g j ≡ Some m → m ≢ node
  not-node g j m found same =
      let there = (position-Some (holds_block g j) b.blocks m None found).1 in
      let none : block_at b.blocks m ≡ None = ap (block_at b.blocks) same ∙ free-node in
      false≢true (sym (ap (holds_block g j) none) ∙ there)

  bytes-again : (stored : List ℕ) (g : FileNode) (j : ℕ) (o : Option ℕ) → node_of b g j ≡ o → bytes_of again stored o ≡ bytes_of b stored o
  bytes-again stored g j None e = refl
  bytes-again stored g j (Some m) e =
      get_or-set_other t.contents node m (written_over (slice_index_or t.contents node (replicate 512 0)) bytes) (replicate 512 0) (not-node g j m e)
      ∙ ap (λ (u : Buffers). slice_index_or u.contents m (replicate 512 0)) taken

  lists-again : length again.lists ≡ length b.lists
  lists-again =
      length-set (map (without node) t.lists) 0 (list_at (map (without node) t.lists) 0 ++ node ∷ []) ∙ length-map t.lists (without node)
      ∙ ap (λ (u : Buffers). length u.lists) taken
      ∙ length-set (map (without node) b.lists) (f.0 + 1) (list_at (map (without node) b.lists) (f.0 + 1) ++ node ∷ []) ∙ length-map b.lists (without node)

  free-again : free_in again ≡ free_in b
  free-again =
      let whole : AreBuffers t = subst AreBuffers (sym taken) (AreBuffers-taken b node f k are within file absent) in
      let nodes : node_count t.lists ≡ node_count b.lists = ap (λ (u : Buffers). node_count u.lists) taken ∙ node_count-moved node (f.0 + 1) b.lists are.each_once within file in
      sym (free_number (with_released t node) (AreBuffers-released t node whole (omega (arith, within, nodes)))) ∙ ap (count_by is_none) blocks-again ∙ free_number b are

  count-again : length again.contents ≡ length b.contents
  count-again =
      length-set t.contents node (written_over (slice_index_or t.contents node (replicate 512 0)) bytes) ∙ ap (λ (u : Buffers). length u.contents) taken

  pub given-back : AllStay b again
  given-back = record {
    nodes = λ g j. ap (position (holds_block g j)) blocks-again;
    bytes = λ stored g j. ap (λ (blocks : List (Option Block)). bytes_of again stored (position (holds_block g j) blocks)) blocks-again ∙ bytes-again stored g j (node_of b g j) refl;
    lists = lists-again;
    count = count-again;
    free = free-again;
  }

-- ---- blocks that nodes hold

-- the other blocks, where all stay
pub others-all : (f : FileNode) (k : ℕ) (b c : Buffers) → AllStay b c → OthersStay f k b c
others-all f k b c stay = record { nodes = λ g j other. stay.nodes g j; bytes = λ stored g j other. stay.bytes stored g j; lists = stay.lists; count = stay.count }

pub held-node : (o : Option ℕ) (node : ℕ) → o ≡ Some node → IsSome o
held-node o node is = subst IsSome (sym is) refl

-- one block more of a file
pub held-next : (b c : Buffers) (f : FileNode) (from k : ℕ) → AreHeld b f from k → OthersStay f k b c → IsSome (node_of c f k) → AreHeld c f from (k + 1)
held-next b c f from k held others here j low high =
    elim (cases_eq j k) [
      | inl same ↦ subst (λ (m : ℕ). IsSome (node_of c f m)) (sym same) here
      | inr differs ↦ subst IsSome (sym (others.nodes f j (λ _ e. differs e))) (held j low (omega (arith, high, differs)))
    ]

-- no block loses its node
pub more-next : (a b c : Buffers) (f : FileNode) (k : ℕ) → HoldsMore a b → OthersStay f k b c → IsSome (node_of c f k) → HoldsMore a c
more-next a b c f k more others here g j some =
    elim (cases_eq g.0 f.0) [
      | inr differs ↦ subst IsSome (sym (others.nodes g j (λ e _. differs e))) (more g j some)
      | inl file ↦ elim (cases_eq j k) [
        | inr differs ↦ subst IsSome (sym (others.nodes g j (λ _ e. differs e))) (more g j some)
        | inl index ↦
            let same : f ≡ g = (λ i. record { 0 = sym file i }) in
            subst (λ (h : FileNode). IsSome (node_of c h j)) same (subst (λ (m : ℕ). IsSome (node_of c f m)) (sym index) here)
      ]
    ]
