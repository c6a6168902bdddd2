-- The blocks of a file, one behind the other, once one of them was changed.
use Rattle.std.proofs.Common.{◌≡◌, ◌≢◌, ◌⊎◌, ℕ, suc, ◌+◌, ◌*◌, ◌<◌, ◌≤◌, List, [], ◌∷◌, ◌++◌, length, take, get_or, Option, Some, None, refl, sym, ap, ◌∙◌, subst, inl, inr, ⊎_elim, arith}
use Rattle.std.specs.Prelude.{IsSome, slice_index_or}
use Rattle.std.specs.List.{flat_map}
use Rattle.std.proofs.lemmas.Bool.{cases_eq}
use Rattle.std.proofs.lemmas.List.{get_or_read}
use Rattle.apex_types.specs.declared.numbers.FileNode.{FileNode}
use Rattle.apex_types.specs.declared.rows.TreeRow.{TreeRow}
use Rattle.apex_model.specs.Files.{blocks_of}
use Rattle.apex_model.specs.Image.{data_block, joined}
use Rattle.apex_model.specs.Layout.{tree_blocks}
use Rattle.block_pool.specs.Buffers.{Buffers, AreBuffers, node_of}
use Rattle.rig_core.specs.Bytes.{byte, put}
use Rattle.tree_region.specs.InStep.{data_at}
use Rattle.present_files.specs.Nodes.{IsOther, OthersStay, bytes_of}
use Rattle.present_files.specs.Present.{ArePresent, block_in, number_in, room_in, row_length, size_in}
use Rattle.present_files.specs.declared.present.PresentSize.{PresentSize}
use Rattle.present_files.proofs.DataBlocks.{block-long}
use Rattle.present_files.proofs.HeldBlocks.{buffer-long}
use Rattle.present_files.proofs.Joined.{AreWhole, byte-joined, joined-alike, joined-put, joined_from, length-joined}

-- one block is another or not
pub same-or-other : (f : FileNode) (k : ℕ) (g : FileNode) (j : ℕ) → ((g.0 ≡ f.0) × (j ≡ k)) ⊎ IsOther f k g j
same-or-other f k g j =
    elim (cases_eq g.0 f.0) [
      | inr differs ↦ inr (λ e _. differs e)
      | inl same ↦ elim (cases_eq j k) [
        | inr differs ↦ inr (λ _ e. differs e)
        | inl alike ↦ inl (same, alike)
      ]
    ]

pub same-file : (f g : FileNode) → g.0 ≡ f.0 → g ≡ f
same-file f g e = (λ i. record { 0 = e i })

-- ---- what each block has

bytes-long : (b : Buffers) → AreBuffers b → (stored : List ℕ) → length stored ≡ 512 → (o : Option ℕ) → length (bytes_of b stored o) ≡ 512
bytes-long b are stored long None = long
bytes-long b are stored long (Some node) = buffer-long b.contents are.full_size node

module _ (row : TreeRow) (at : ℕ) (img : List ℕ) (fits : at + 512 * tree_blocks row ≤ length img) (numbers : List (List ℕ)) (within : (f k : ℕ) → number_in numbers f k ≤ 2 * row.quota) where
  pub blocks-whole : (b : Buffers) → AreBuffers b → (f : FileNode) (n : ℕ) → AreWhole (block_in (data_at row at img) numbers b f) 0 n
  blocks-whole b are f n k low high = bytes-long b are (data_block (data_at row at img) (number_in numbers f.0 k)) (block-long row at (number_in numbers f.0 k) img fits (within f.0 k)) (node_of b f k)

  pub room-long : (b : Buffers) → AreBuffers b → (f : FileNode) → length (room_in (data_at row at img) numbers b f) ≡ 512 * row_length numbers f.0
  unfolding room_in
  room-long b are f = length-joined (block_in (data_at row at img) numbers b f) 0 (row_length numbers f.0) (blocks-whole b are f (row_length numbers f.0))

  -- the byte at a place of a block
  pub room-byte : (b : Buffers) → AreBuffers b → (f : FileNode) (k j : ℕ) → k < row_length numbers f.0 → j < 512
      → byte (room_in (data_at row at img) numbers b f) (512 * k + j) ≡ byte (block_in (data_at row at img) numbers b f k) j
  unfolding room_in
  room-byte b are f k j low few =
      let first : 0 + k ≡ k = omega arith in
      byte-joined (block_in (data_at row at img) numbers b f) 0 (row_length numbers f.0) k j (blocks-whole b are f (row_length numbers f.0)) low few
      ∙ ap (λ (m : ℕ). byte (block_in (data_at row at img) numbers b f m) j) first

  -- bytes that are put into one block are put among all
  pub room-put : (b c : Buffers) → AreBuffers b → (f : FileNode) (k from : ℕ) (bytes : List ℕ) → OthersStay f k b c → k < row_length numbers f.0 → from + length bytes ≤ 512
      → block_in (data_at row at img) numbers c f k ≡ put from bytes (block_in (data_at row at img) numbers b f k)
      → room_in (data_at row at img) numbers c f ≡ put (512 * k + from) bytes (room_in (data_at row at img) numbers b f)
  unfolding room_in
  room-put b c are f k from bytes others low few here =
      let first : k ≡ 0 + k = omega arith in
      joined-put (block_in (data_at row at img) numbers b f) (block_in (data_at row at img) numbers c f) 0 (row_length numbers f.0) k from bytes (blocks-whole b are f (row_length numbers f.0)) low few
      (subst (λ (m : ℕ). block_in (data_at row at img) numbers c f m ≡ put from bytes (block_in (data_at row at img) numbers b f m)) first here)
      (λ m _ _ differs. others.bytes (data_block (data_at row at img) (number_in numbers f.0 m)) f m (λ _ e. differs (e ∙ first)))

-- ---- what stays

-- all blocks of another file
pub room-other : (blocks : List ℕ) (numbers : List (List ℕ)) (b c : Buffers) (f g : FileNode) (k : ℕ) → OthersStay f k b c → g.0 ≢ f.0 → room_in blocks numbers c g ≡ room_in blocks numbers b g
unfolding room_in
room-other blocks numbers b c f g k others differs =
    joined-alike (block_in blocks numbers b g) (block_in blocks numbers c g) 0 (row_length numbers g.0)
    (λ m _ _. others.bytes (data_block blocks (number_in numbers g.0 m)) g m (λ e _. differs e))

-- all blocks, where the one has its bytes too
pub block-same : (blocks : List ℕ) (numbers : List (List ℕ)) (b c : Buffers) (f : FileNode) (k : ℕ) → OthersStay f k b c → block_in blocks numbers c f k ≡ block_in blocks numbers b f k
    → (g : FileNode) (j : ℕ) → block_in blocks numbers c g j ≡ block_in blocks numbers b g j
block-same blocks numbers b c f k others here g j =
    ⊎_elim
    (λ (same : (g.0 ≡ f.0) × (j ≡ k)).
    let file : f ≡ g = sym (same-file f g same.0) in
    let index : k ≡ j = sym same.1 in
    subst (λ (h : FileNode). block_in blocks numbers c h j ≡ block_in blocks numbers b h j) file
    (subst (λ (m : ℕ). block_in blocks numbers c f m ≡ block_in blocks numbers b f m) index here))
    (λ other. others.bytes (data_block blocks (number_in numbers g.0 j)) g j other)
    (same-or-other f k g j)

pub room-same : (blocks : List ℕ) (numbers : List (List ℕ)) (b c : Buffers) (f : FileNode) → ((j : ℕ) → block_in blocks numbers c f j ≡ block_in blocks numbers b f j) → room_in blocks numbers c f ≡ room_in blocks numbers b f
unfolding room_in
room-same blocks numbers b c f same = joined-alike (block_in blocks numbers b f) (block_in blocks numbers c f) 0 (row_length numbers f.0) (λ j _ _. same j)

-- what holds of sizes, numbers and buffers, where a block of a file has a node
pub present-held : (row : TreeRow) (sizes : List PresentSize) (numbers : List (List ℕ)) (b c : Buffers) (f : FileNode) (k : ℕ) → ArePresent row sizes numbers b → OthersStay f k b c
    → f.0 < row.files → k < blocks_of (size_in sizes f.0) → ArePresent row sizes numbers c
present-held row sizes numbers b c f k are others file block = record {
  sizes_length = are.sizes_length;
  numbers_length = are.numbers_length;
  lists = others.lists ∙ are.lists;
  rooms = are.rooms;
  within = are.within;
  fits = are.fits;
  short = are.short;
  behind = are.behind;
  held = λ g j some.
      ⊎_elim
      (λ (same : (g.0 ≡ f.0) × (j ≡ k)).
      let size = ap (λ (h : ℕ). blocks_of (size_in sizes h)) same.0 in
      (omega (arith, same.0, file), omega (arith, same.1, block, size)))
      (λ other. are.held g j (subst IsSome (others.nodes g j other) some))
      (same-or-other f k g j);
}

-- ---- a file with no buffers

listed : (blocks : List ℕ) (ns : List ℕ) (g : ℕ → List ℕ) (a : ℕ) → ((k : ℕ) → g (a + k) ≡ data_block blocks (get_or ns k 0)) → joined_from g a (length ns) ≡ flat_map (data_block blocks) ns
listed blocks [] g a same = refl
listed blocks (n ∷ ns) g a same =
    let first : a ≡ a + 0 = omega arith in
    let here = ap g first ∙ same 0 in
    let rest = listed blocks ns g (a + 1) (λ k. let next : a + 1 + k ≡ a + suc k = omega arith in ap g next ∙ same (suc k)) in
    (λ i. here i ++ rest i)

-- its content is that of its numbers' data blocks
pub content-stored : (blocks : List ℕ) (numbers : List (List ℕ)) (b : Buffers) (f : FileNode) (size : ℕ) → ((k : ℕ) → node_of b f k ≡ None)
    → take size (room_in blocks numbers b f) ≡ joined blocks (slice_index_or numbers f.0 []) size
unfolding room_in
content-stored blocks numbers b f size none =
    ap (take size)
    (listed blocks (slice_index_or numbers f.0 []) (block_in blocks numbers b f) 0
    (λ k.
    let first : 0 + k ≡ k = omega arith in
    ap (block_in blocks numbers b f) first ∙ ap (bytes_of b (data_block blocks (number_in numbers f.0 k))) (none k)))

-- ---- a number that was looked up

pub numbered : (numbers : List (List ℕ)) (f k : ℕ) (list : List ℕ) (n : ℕ) → f < length numbers → list ≡ get_or numbers f list → n ≡ slice_index_or list k 0 → n ≡ number_in numbers f k
numbered numbers f k list n within row at = at ∙ ap (λ (ns : List ℕ). slice_index_or ns k 0) (get_or_read numbers f list within row [])
