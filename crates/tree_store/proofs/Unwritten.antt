-- A block that no buffer holds is written: its bytes are zeros, or those of the data block of its number. So no more blocks are in memory alone than there are buffers.
use Rattle.std.proofs.Common.{◌≡◌, inl, inr, ℕ, zero, suc, ◌+◌, ◌-◌, ◌*◌, ◌<◌, ◌≤◌, ◌==◌, Bool, true, false, cond, not, ◌&&◌, ◌||◌, List, [], ◌∷◌, ◌++◌, length, take, drop, replicate, refl, sym, ap, subst, ◌∙◌, Option, Some, None, arith}
use Rattle.std.proofs.Math.Seq.{take-append_seam, drop-append_seam}
use Rattle.std.proofs.lemmas.Bool.{cases_eq, cases_lt, false≢true, ne_eqb, eq-eqb, cond-false, cond-true}
use Rattle.std.proofs.lemmas.Iterator.Adapters.{position_from-zero}
use Rattle.std.proofs.lemmas.List.{drop-drop, drop-take, get_or_past, length-take, length-take-le, take-replicate, take-take, take_all}
use Rattle.std.proofs.lemmas.List.Sums.{sum_by-cons}
use Rattle.std.specs.List.{AllZip, flat_map, list_all, list_any, range_with_len}
use Rattle.std.specs.Map.{values_of}
use Rattle.std.specs.Prelude.{bytes_eq, count_by, sum_by}
use Rattle.apex_types.specs.declared.numbers.FileNode.{FileNode}
use Rattle.apex_types.specs.declared.rows.TreeRow.{TreeRow}
use Rattle.apex_model.specs.Fields.{is_padding}
use Rattle.apex_model.specs.Files.{Content, File, blocks_of}
use Rattle.apex_model.specs.Image.{data_block}
use Rattle.apex_model.specs.Layout.{tree_blocks}
use Rattle.apex_model.specs.Trees.{Name, Node, directory, file, Tree}
use Rattle.apex_model.specs.Unwritten.{block_of, data_of, is_stored, is_unwritten, unwritten_of, unwritten_in, unwritten}
use Rattle.block_pool.specs.Buffers.{AreBuffers, node_of, holds_block}
use Rattle.file_tree.proofs.Children.{same-bytes}
use Rattle.present_files.specs.Nodes.{bytes_of}
use Rattle.present_files.specs.Present.{block_in, never_changed, number_in, room_in, row_length}
use Rattle.present_files.specs.declared.present.PresentSize.{PresentSize}
use Rattle.present_files.proofs.DataBlocks.{block-long}
use Rattle.present_files.proofs.Joined.{AreWhole, joined_from}
use Rattle.present_files.proofs.Rooms.{blocks-whole}
use Rattle.rig_core.specs.Outside.{Outside, Sound}
use Rattle.tree_region.specs.InStep.{data_at}
use Rattle.tree_region.specs.Region.{region_at}
use Rattle.store_model.specs.Standing.{IsNode, IsEntry, IsTree}
use Rattle.store_model.specs.Stores.{StoreValue, kept_at}
use Rattle.tree_store.specs.Stored.{row_of, start_of, size_at, content_over, IsStored, Holds}
use Rattle.tree_store.specs.declared.store.TreeStore.{TreeStore}
use Rattle.tree_store.proofs.Counted.{count-less, held-count, holds_file, is_held, not-held, weights-less, buffers-count}
use Rattle.tree_store.proofs.Summed.{nodes-sum, weights_from}

-- ---- blocks of a content

-- one of some blocks, one after the other
part-joined : (g : ℕ → List ℕ) (a n k : ℕ) → AreWhole g a n → k < n → take 512 (drop (512 * k) (joined_from g a n)) ≡ g (a + k)
part-joined g a zero k whole low = absurd (omega arith)
part-joined g a (suc n) zero whole low =
    let here = whole a (omega arith) (omega arith) in
    let at : 512 * zero ≡ 0 = omega arith in
    let first : a ≡ a + zero = omega arith in
    ap (λ (m : ℕ). take 512 (drop m (g a ++ joined_from g (a + 1) n))) at
    ∙ ap (λ (m : ℕ). take m (g a ++ joined_from g (a + 1) n)) (sym here) ∙ take-append_seam (g a) (joined_from g (a + 1) n) ∙ ap g first
part-joined g a (suc n) (suc k) whole low =
    let here = whole a (omega arith) (omega arith) in
    let at : 512 * suc k ≡ 512 + 512 * k = omega arith in
    let next : a + 1 + k ≡ a + suc k = omega arith in
    ap (λ (m : ℕ). take 512 (drop m (g a ++ joined_from g (a + 1) n))) at
    ∙ ap (take 512) (sym (drop-drop (512 * k) 512 (g a ++ joined_from g (a + 1) n)))
    ∙ ap (λ (m : ℕ). take 512 (drop (512 * k) (drop m (g a ++ joined_from g (a + 1) n)))) (sym here)
    ∙ ap (λ (ys : List ℕ). take 512 (drop (512 * k) ys)) (drop-append_seam (g a) (joined_from g (a + 1) n))
    ∙ part-joined g (a + 1) n k (λ m from to. whole m (omega arith) (omega arith)) (omega arith) ∙ ap g next

-- the block of a content that is cut from a longer one
cut-block : (size k : ℕ) (room : List ℕ) → 512 * k ≤ size → length (take 512 (drop (512 * k) room)) ≡ 512
    → (c : ℕ) × (c ≤ 512) × (block_of (take size room) k ≡ take c (take 512 (drop (512 * k) room)))
cut-block size k room within long =
    let split : size ≡ 512 * k + (size - 512 * k) = omega arith in
    let behind : drop (512 * k) (take size room) ≡ take (size - 512 * k) (drop (512 * k) room)
    = ap (λ (n : ℕ). drop (512 * k) (take n room)) split ∙ drop-take (512 * k) (size - 512 * k) room in
    let cut : block_of (take size room) k ≡ take 512 (take (size - 512 * k) (drop (512 * k) room)) = ap (take 512) behind in
    elim (cases_lt (size - 512 * k) 512) [
      | inl less ↦
          let short = length-take (size - 512 * k) (drop (512 * k) room) in (
            size - 512 * k,
            omega arith,
            cut ∙ take_all 512 (take (size - 512 * k) (drop (512 * k) room)) (omega (arith, short)) ∙ sym (take-take (size - 512 * k) 512 (drop (512 * k) room) (omega arith)),
          )
      | inr more ↦ (
        512,
        omega arith,
        cut ∙ take-take 512 (size - 512 * k) (drop (512 * k) room) more ∙ sym (take_all 512 (take 512 (drop (512 * k) room)) (omega (arith, long))),
      )
    ]

-- ---- what is written

zeros-pass : (n : ℕ) → is_padding (replicate n 0) ≡ true
zeros-pass zero = refl
zeros-pass (suc n) = zeros-pass n

or-true : (b : Bool) → (b || true) ≡ true
or-true true = refl
or-true false = refl

any-range : (p : ℕ → Bool) (a n m : ℕ) → a ≤ m → m < a + n → p m ≡ true → list_any p (range_with_len a n) ≡ true
any-range p a zero m low high is = absurd (omega arith)
any-range p a (suc n) m low high is =
    elim (cases_eq m a) [
      | inl same ↦ ap (λ (b : Bool). b || list_any p (range_with_len (a + 1) n)) (ap p (sym same) ∙ is)
      | inr other ↦ ap (λ (b : Bool). p a || b) (any-range p (a + 1) n m (omega arith) (omega arith) is) ∙ or-true (p a)
    ]

not-both : (a b : Bool) → b ≡ true → (not a && not b) ≡ false
not-both true b is = refl
not-both false b is = ap not is

-- the front of a data block
front-written : (row : TreeRow) (region : List ℕ) (n c : ℕ) → n ≤ 2 * row.quota → length (data_block (data_of row region) n) ≡ 512 → c ≤ 512
    → is_unwritten row region (take c (data_block (data_of row region) n)) ≡ false
front-written row region n c most long few =
    elim (cases_eq n 0) [
      | inl none ↦
          let zeros : take c (data_block (data_of row region) n) ≡ replicate c 0
          = ap (take c) (cond-true (n == 0) (replicate 512 0) (take 512 (drop (512 * (n - 1)) (data_of row region))) (eq-eqb n 0 none)) ∙ take-replicate c 512 0 few in
          let pass = ap is_padding zeros ∙ zeros-pass c in
          ap (λ (b : Bool). not b && not (is_stored row region (take c (data_block (data_of row region) n)))) pass
      | inr some ↦
          let bytes : List ℕ = take c (data_block (data_of row region) n) in
          let count : length bytes ≡ c = length-take-le c (data_block (data_of row region) n) (omega (arith, long, few)) in
          let here : bytes_eq (take (length bytes) (data_block (data_of row region) n)) bytes ≡ true
          = ap (λ (m : ℕ). bytes_eq (take m (data_block (data_of row region) n)) bytes) count ∙ same-bytes bytes in
          not-both (is_padding bytes) (is_stored row region bytes)
          (any-range (λ m. bytes_eq (take (length bytes) (data_block (data_of row region) m)) bytes) 1 (2 * row.quota) n (omega arith) (omega arith) here)
    ]

-- ---- the blocks of a store

module _ (V K : Type 0) (o : Outside) (sound : Sound V K o) (s : TreeStore) (stored : IsStored V o s) (tells : V) (are : AreBuffers s.state.present.pool) where
  abbrev region : List ℕ
  region = region_at (row_of s) (start_of s) o.view

  view-long : start_of s + 512 * tree_blocks (row_of s) ≤ length o.view
  view-long = let fits = stored.fits in let fills = sound.view_fills tells in omega (arith, fits, fills)

  file-within : (f k : ℕ) → k < blocks_of (size_at s f) → f < (row_of s).files
  file-within f k low = elim (cases_lt f (row_of s).files) [
    | inl less ↦ less
    | inr far ↦
        let many = stored.state.present.sizes_length in
        let none = ap (λ (p : PresentSize). p.size) (get_or_past s.state.present.sizes.items f never_changed (omega (arith, far, many))) in
        absurd (omega (arith, none, low))
  ]

  room-part : (f : FileNode) (k : ℕ) → k < row_length s.state.present.numbers.items f.0
      → take 512 (drop (512 * k) (room_in (data_at (row_of s) (start_of s) o.view) s.state.present.numbers.items s.state.present.pool f))
      ≡ block_in (data_at (row_of s) (start_of s) o.view) s.state.present.numbers.items s.state.present.pool f k
  unfolding room_in
  room-part f k low =
      let blocks : ℕ → List ℕ = block_in (data_at (row_of s) (start_of s) o.view) s.state.present.numbers.items s.state.present.pool f in
      let first : 0 + k ≡ k = omega arith in
      part-joined blocks 0 (row_length s.state.present.numbers.items f.0) k
      (blocks-whole (row_of s) (start_of s) o.view view-long s.state.present.numbers.items stored.state.present.within s.state.present.pool are f (row_length s.state.present.numbers.items f.0)) low
      ∙ ap blocks first

  -- a block that no buffer holds
  block-written : (f : FileNode) (k : ℕ) → 512 * k ≤ size_at s f.0 → k < blocks_of (size_at s f.0) → node_of s.state.present.pool f k ≡ None
      → is_unwritten (row_of s) region (block_of (content_over s o.view f.0) k) ≡ false
  block-written f k within low none =
      let less = file-within f.0 k low in
      let rooms = stored.state.present.rooms f.0 less in
      let fits = stored.state.present.fits f.0 less in
      let number : ℕ = number_in s.state.present.numbers.items f.0 k in
      let most = stored.state.present.within f.0 k in
      let part = room-part f k (omega (arith, rooms, fits, low))
      ∙ ap (bytes_of s.state.present.pool (data_block (data_at (row_of s) (start_of s) o.view) number)) none in
      let long = block-long (row_of s) (start_of s) number o.view view-long most in
      let cut = cut-block (size_at s f.0) k (room_in (data_at (row_of s) (start_of s) o.view) s.state.present.numbers.items s.state.present.pool f) within
      (ap (λ (bytes : List ℕ). length bytes) part ∙ long) in
      ap (is_unwritten (row_of s) region) (cut.2 ∙ ap (take cut.0) part) ∙ front-written (row_of s) region number cut.0 most long cut.1

  held-if : (f k : ℕ) → 512 * k ≤ size_at s f → k < blocks_of (size_at s f) → is_unwritten (row_of s) region (block_of (content_over s o.view f) k) ≡ true → is_held s.state.present.pool.blocks f k ≡ true
  held-if f k within low so =
      (elim (is_held s.state.present.pool.blocks f k) as (λ b. is_held s.state.present.pool.blocks f k ≡ b → b ≡ true) [
        | true ↦ λ is. refl
        | false ↦ λ is.
            let none : node_of s.state.present.pool (record { 0 = f }) k ≡ None
            = position_from-zero (holds_block (record { 0 = f }) k) s.state.present.pool.blocks ∙ not-held s.state.present.pool.blocks (record { 0 = f }) k 0 is in
            absurd (false≢true (sym (block-written (record { 0 = f }) k within low none) ∙ so))
      ]) refl

  -- of one file no more are unwritten than buffers hold
  file-count : (f : ℕ) → unwritten_of (row_of s) region (content_over s o.view f) ≤ count_by (holds_file f) s.state.present.pool.blocks
  file-count f =
      let size = length-take (size_at s f) (room_in (data_at (row_of s) (start_of s) o.view) s.state.present.numbers.items s.state.present.pool (record { 0 = f })) in
      let held = count-less (λ k. is_unwritten (row_of s) region (block_of (content_over s o.view f) k)) (is_held s.state.present.pool.blocks f) 0 (blocks_of (length (content_over s o.view f)))
      (λ k low high. held-if f k (omega (arith, size, high)) (omega (arith, size, high))) in
      let most = held-count s.state.present.pool.blocks f (blocks_of (length (content_over s o.view f))) in
      omega (arith, held, most)

  -- ---- all files

  module _ (v : StoreValue) (holds : Holds V o s v) where
    abbrev weight : Node ℕ → ℕ
    weight directory = 0
    weight (file f) = unwritten_of (row_of s) region (kept_at v f).content

    node-weight : (n : Node ℕ) (m : Node File) → IsNode v n m → unwritten_in (row_of s) region m ≡ weight n
    node-weight directory directory is = refl
    node-weight directory (file g) is = absurd is
    node-weight (file f) directory is = absurd is
    node-weight (file f) (file g) is = ap (unwritten_of (row_of s) region) (sym is.content)

    entries-weight : (nodes : Tree ℕ) (tree : Tree File) → AllZip (IsEntry v) nodes tree → sum_by (unwritten_in (row_of s) region) (values_of tree) ≡ sum_by weight (values_of nodes)
    entries-weight [] [] all = refl
    entries-weight [] (e ∷ tree) all = absurd all
    entries-weight (n ∷ nodes) [] all = absurd all
    entries-weight (n ∷ nodes) (e ∷ tree) all =
        let rest = entries-weight nodes tree all.1 in
        let here = node-weight n.1 e.1 all.0.1 in
        sum_by-cons (unwritten_in (row_of s) region) e.1 (values_of tree) ∙ (λ i. here i + rest i) ∙ sym (sum_by-cons weight n.1 (values_of nodes))

    -- no more blocks of a tree are in memory alone than it may have unwritten
    pub few-unwritten : (tree : Tree File) → IsTree v tree → unwritten (row_of s) region tree ≤ (row_of s).dirty
    few-unwritten tree is =
        let nodes = entries-weight v.tree.nodes tree is.entries in
        let files = nodes-sum v.tree holds.sound.names weight refl in
        let each = weights-less (λ f. weight (file f)) (λ f. count_by (holds_file f) s.state.present.pool.blocks) 0 v.tree.files
        (λ f. subst (λ (content : Content). unwritten_of (row_of s) region content ≤ count_by (holds_file f) s.state.present.pool.blocks) (sym (holds.contents tells f)) (file-count f)) in
        let all = buffers-count s.state.present.pool.blocks 0 v.tree.files in
        let long = are.blocks_length in
        let buffers = stored.state.buffers in
        omega (arith, nodes, files, each, all, long, buffers)
