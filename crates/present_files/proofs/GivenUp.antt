-- Blocks that are given up, one after the other, and what holds then.
use Rattle.std.proofs.Common.{◌≡◌, ◌≢◌, ◌⊎◌, ℕ, ◌+◌, ◌*◌, ◌/◌, ◌%◌, ◌<◌, ◌≤◌, List, [], length, set, take, Option, None, refl, sym, ap, ◌∙◌, subst, inl, inr, ⊎_elim, arith, length-set, get_or-set_same, get_or-set_other}
use Rattle.std.specs.Prelude.{IsSome, slice_index_or}
use Rattle.std.proofs.lemmas.Bool.{cases_eq, cases_lt}
use Rattle.std.proofs.lemmas.List.{get_or-replicate}
use Rattle.apex_types.specs.declared.numbers.FileNode.{FileNode}
use Rattle.apex_types.specs.declared.rows.TreeRow.{TreeRow}
use Rattle.apex_model.specs.Files.{blocks_of}
use Rattle.apex_model.specs.Image.{data_block}
use Rattle.apex_model.specs.Layout.{tree_blocks}
use Rattle.block_pool.specs.Buffers.{Buffers, AreBuffers, node_of}
use Rattle.rig_core.specs.Bytes.{byte}
use Rattle.tree_region.specs.InStep.{data_at}
use Rattle.present_files.specs.Dropped.{AreDropped, IsBeside}
use Rattle.present_files.specs.Nodes.{OthersStay, bytes_of, held_or}
use Rattle.present_files.specs.Present.{ArePresent, block_in, number_in, room_in, row_length, size_in}
use Rattle.present_files.specs.declared.present.PresentSize.{PresentSize}
use Rattle.present_files.proofs.Joined.{joined-alike, joined-front, joined_from}
use Rattle.present_files.proofs.Rooms.{blocks-whole, room-byte}
use Rattle.present_files.proofs.Sizes.{none-behind, none-not-some}

-- a block is one of those or beside them
beside-or : (f : FileNode) (from to : ℕ) (g : FileNode) (j : ℕ) → ((g.0 ≡ f.0) × (from ≤ j) × (j < to)) ⊎ IsBeside f from to g j
beside-or f from to g j =
    elim (cases_eq g.0 f.0) [
      | inr differs ↦ inr (λ e _ _. differs e)
      | inl same ↦ elim (cases_lt j from) [
        | inl below ↦ inr (λ _ low _. omega (arith, below, low))
        | inr above ↦ elim (cases_lt j to) [
          | inl within ↦ inl (same, above, within)
          | inr far ↦ inr (λ _ _ high. omega (arith, far, high))
        ]
      ]
    ]

-- ---- one block

module _ (numbers : List (List ℕ)) (f k : ℕ) (within : f < length numbers) (room : k < row_length numbers f) where
  abbrev zeroed : List (List ℕ)
  zeroed = set numbers f (set (slice_index_or numbers f []) k 0)

  list-here : slice_index_or zeroed f [] ≡ set (slice_index_or numbers f []) k 0
  list-here = get_or-set_same numbers f (set (slice_index_or numbers f []) k 0) [] within

  zero-here : number_in zeroed f k ≡ 0
  zero-here = ap (λ (ns : List ℕ). slice_index_or ns k 0) list-here ∙ get_or-set_same (slice_index_or numbers f []) k 0 0 room

  number-other : (g j : ℕ) → (g ≡ f → j ≡ k → ⊥) → number_in zeroed g j ≡ number_in numbers g j
  number-other g j other =
      elim (cases_eq g f) [
        | inl same ↦
            ap (λ (h : ℕ). number_in zeroed h j) same ∙ ap (λ (ns : List ℕ). slice_index_or ns j 0) list-here
            ∙ get_or-set_other (slice_index_or numbers f []) k j 0 0 (other same) ∙ ap (λ (h : ℕ). number_in numbers h j) (sym same)
        | inr differs ↦ ap (λ (ns : List ℕ). slice_index_or ns j 0) (get_or-set_other numbers f g (set (slice_index_or numbers f []) k 0) [] differs)
      ]

  row-same : (g : ℕ) → row_length zeroed g ≡ row_length numbers g
  row-same g =
      elim (cases_eq g f) [
        | inl same ↦
            ap (λ (h : ℕ). row_length zeroed h) same ∙ ap (λ (ns : List ℕ). length ns) list-here ∙ length-set (slice_index_or numbers f []) k 0 ∙ ap (λ (h : ℕ). row_length numbers h) (sym same)
        | inr differs ↦ ap (λ (ns : List ℕ). length ns) (get_or-set_other numbers f g (set (slice_index_or numbers f []) k 0) [] differs)
      ]

pub drop-one : (numbers now : List (List ℕ)) (b c : Buffers) (f : FileNode) (k : ℕ) → f.0 < length numbers → k < row_length numbers f.0 → OthersStay f k b c → node_of c f k ≡ None
    → now ≡ set numbers f.0 (set (slice_index_or numbers f.0 []) k 0) → AreDropped f k (k + 1) numbers now b c
drop-one numbers now b c f k within room others gone is =
    subst (λ (ns : List (List ℕ)). AreDropped f k (k + 1) numbers ns b c) (sym is)
    (record {
      zeros = λ j low high. let same : j ≡ k = omega arith in ap (number_in (zeroed numbers f.0 k within room) f.0) same ∙ zero-here numbers f.0 k within room;
      gone = λ j low high. let same : j ≡ k = omega arith in ap (node_of c f) same ∙ gone;
      numbers_stay = λ g j beside. number-other numbers f.0 k within room g.0 j (λ e same. beside e (omega arith) (omega arith));
      nodes_stay = λ g j beside. others.nodes g j (λ e same. beside e (omega arith) (omega arith));
      bytes_stay = λ stored g j beside. others.bytes stored g j (λ e same. beside e (omega arith) (omega arith));
      files = length-set numbers f.0 (set (slice_index_or numbers f.0 []) k 0);
      rows = row-same numbers f.0 k within room;
      lists = others.lists;
      count = others.count;
    })

-- ---- one after the other

pub drop-none : (numbers : List (List ℕ)) (b : Buffers) (f : FileNode) (from : ℕ) → AreDropped f from from numbers numbers b b
drop-none numbers b f from = record {
  zeros = λ k low high. absurd (omega arith);
  gone = λ k low high. absurd (omega arith);
  numbers_stay = λ g j beside. refl;
  nodes_stay = λ g j beside. refl;
  bytes_stay = λ stored g j beside. refl;
  files = refl;
  rows = λ g. refl;
  lists = refl;
  count = refl;
}

pub drop-then : (x y z : List (List ℕ)) (p q r : Buffers) (f : FileNode) (from k : ℕ) → from ≤ k → AreDropped f from k x y p q → AreDropped f k (k + 1) y z q r → AreDropped f from (k + 1) x z p r
drop-then x y z p q r f from k order one two = record {
  zeros = λ j low high. elim (cases_lt j k) [
    | inl before ↦ two.numbers_stay f j (λ _ late _. omega (arith, before, late)) ∙ one.zeros j low before
    | inr here ↦ two.zeros j here high
  ];
  gone = λ j low high. elim (cases_lt j k) [
    | inl before ↦ two.nodes_stay f j (λ _ late _. omega (arith, before, late)) ∙ one.gone j low before
    | inr here ↦ two.gone j here high
  ];
  numbers_stay = λ g j beside. two.numbers_stay g j (λ e late high. beside e (omega (arith, order, late)) high) ∙ one.numbers_stay g j (λ e low high. beside e low (omega (arith, high)));
  nodes_stay = λ g j beside. two.nodes_stay g j (λ e late high. beside e (omega (arith, order, late)) high) ∙ one.nodes_stay g j (λ e low high. beside e low (omega (arith, high)));
  bytes_stay = λ stored g j beside. two.bytes_stay stored g j (λ e late high. beside e (omega (arith, order, late)) high) ∙ one.bytes_stay stored g j (λ e low high. beside e low (omega (arith, high)));
  files = two.files ∙ one.files;
  rows = λ g. two.rows g ∙ one.rows g;
  lists = two.lists ∙ one.lists;
  count = two.count ∙ one.count;
}

-- ---- what holds then

pub present-dropped : (row : TreeRow) (sizes : List PresentSize) (numbers now : List (List ℕ)) (b c : Buffers) (f : FileNode) (from to : ℕ) → ArePresent row sizes numbers b
    → AreDropped f from to numbers now b c → ArePresent row sizes now c
present-dropped row sizes numbers now b c f from to are dropped = record {
  sizes_length = are.sizes_length;
  numbers_length = dropped.files ∙ are.numbers_length;
  lists = dropped.lists ∙ are.lists;
  rooms = λ g low. dropped.rows g ∙ are.rooms g low;
  within = λ g k.
      ⊎_elim
      (λ (those : (g ≡ f.0) × (from ≤ k) × (k < to)). let none = ap (λ (h : ℕ). number_in now h k) those.0 ∙ dropped.zeros k those.1 those.2 in omega (arith, none))
      (λ beside. let same = dropped.numbers_stay (record { 0 = g }) k beside in omega (arith, same, are.within g k))
      (beside-or f from to (record { 0 = g }) k);
  fits = are.fits;
  short = are.short;
  behind = λ g k low far.
      ⊎_elim
      (λ (those : (g ≡ f.0) × (from ≤ k) × (k < to)). ap (λ (h : ℕ). number_in now h k) those.0 ∙ dropped.zeros k those.1 those.2)
      (λ beside. dropped.numbers_stay (record { 0 = g }) k beside ∙ are.behind g k low far)
      (beside-or f from to (record { 0 = g }) k);
  held = λ g k some.
      ⊎_elim
      (λ (those : (g.0 ≡ f.0) × (from ≤ k) × (k < to)).
      let file : g ≡ f = (λ i. record { 0 = those.0 i }) in
      absurd (none-not-some (node_of c g k) (ap (λ (h : FileNode). node_of c h k) file ∙ dropped.gone k those.1 those.2) some))
      (λ beside. are.held g k (subst IsSome (dropped.nodes_stay g k beside) some))
      (beside-or f from to g k);
}

module _ (blocks : List ℕ) (numbers now : List (List ℕ)) (b c : Buffers) (f : FileNode) (from to : ℕ) (dropped : AreDropped f from to numbers now b c) where
  block-kept : (g : FileNode) (j : ℕ) → IsBeside f from to g j → block_in blocks now c g j ≡ block_in blocks numbers b g j
  block-kept g j beside =
      ap (λ (n : ℕ). held_or c (data_block blocks n) g j) (dropped.numbers_stay g j beside) ∙ dropped.bytes_stay (data_block blocks (number_in numbers g.0 j)) g j beside

  -- the blocks of another file
  pub room-beside : (g : FileNode) → g.0 ≢ f.0 → room_in blocks now c g ≡ room_in blocks numbers b g
  unfolding room_in
  room-beside g differs =
      ap (λ (n : ℕ). joined_from (block_in blocks now c g) 0 n) (dropped.rows g.0)
      ∙ joined-alike (block_in blocks numbers b g) (block_in blocks now c g) 0 (row_length numbers g.0) (λ j _ _. block-kept g j (λ e _ _. differs e))

-- the first bytes, where only blocks behind them are given up
pub room-front : (row : TreeRow) (at : ℕ) (img : List ℕ) → at + 512 * tree_blocks row ≤ length img → (numbers now : List (List ℕ)) → ((g k : ℕ) → number_in numbers g k ≤ 2 * row.quota)
    → (b c : Buffers) → AreBuffers b → (f : FileNode) (size to : ℕ) → AreDropped f (blocks_of size) to numbers now b c → blocks_of size ≤ row_length numbers f.0
    → take size (room_in (data_at row at img) now c f) ≡ take size (room_in (data_at row at img) numbers b f)
unfolding room_in
room-front row at img fits numbers now within b c are f size to dropped room =
    let blocks = data_at row at img in
    ap (λ (n : ℕ). take size (joined_from (block_in blocks now c f) 0 n)) (dropped.rows f.0)
    ∙ joined-front (block_in blocks numbers b f) (block_in blocks now c f) 0 (blocks_of size) (row_length numbers f.0) size (blocks-whole row at img fits numbers within b are f (blocks_of size))
    (λ j _ low. block-kept blocks numbers now b c f (blocks_of size) to dropped f j (λ _ high _. omega (arith, low, high))) room (omega arith)

-- ---- behind a file's end

-- numbers and nodes, where all blocks from one on were given up up to the last
module _ (row : TreeRow) (sizes : List PresentSize) (numbers now : List (List ℕ)) (b c : Buffers) (f : FileNode) (from to : ℕ) (are : ArePresent row sizes now c)
    (dropped : AreDropped f from to numbers now b c) (file : f.0 < row.files) (last : blocks_of (size_in sizes f.0) ≤ to) where
  pub zeros-behind : (k : ℕ) → from ≤ k → number_in now f.0 k ≡ 0
  zeros-behind k low =
      elim (cases_lt k to) [
        | inl within ↦ dropped.zeros k low within
        | inr far ↦ are.behind f.0 k file (omega (arith, far, last))
      ]

  pub gone-behind : (k : ℕ) → from ≤ k → node_of c f k ≡ None
  gone-behind k low =
      elim (cases_lt k to) [
        | inl within ↦ dropped.gone k low within
        | inr far ↦ none-behind row sizes now c f k are (omega (arith, far, last))
      ]

-- bytes behind the last block are zeros
pub zeros-past : (row : TreeRow) (at : ℕ) (img : List ℕ) → at + 512 * tree_blocks row ≤ length img → (sizes : List PresentSize) (numbers : List (List ℕ)) (b : Buffers) → AreBuffers b → ArePresent row sizes numbers b
    → (f : FileNode) → f.0 < row.files → (i : ℕ) → 512 * blocks_of (size_in sizes f.0) ≤ i → i < 512 * row_length numbers f.0 → byte (room_in (data_at row at img) numbers b f) i ≡ 0
zeros-past row at img fits sizes numbers b buffers are f file i past low =
    let k = i / 512 in
    let j = i % 512 in
    let place : i ≡ 512 * k + j = omega arith in
    let few : j < 512 = omega arith in
    let blocks = data_at row at img in
    let number : number_in numbers f.0 k ≡ 0 = are.behind f.0 k file (omega (arith, past)) in
    let none : node_of b f k ≡ None = none-behind row sizes numbers b f k are (omega (arith, past)) in
    ap (byte (room_in blocks numbers b f)) place
    ∙ room-byte row at img fits numbers are.within b buffers f k j (omega (arith, low)) few
    ∙ ap (λ (o : Option ℕ). byte (bytes_of b (data_block blocks (number_in numbers f.0 k)) o) j) none
    ∙ ap (λ (n : ℕ). byte (data_block blocks n) j) number
    ∙ get_or-replicate 512 j 0 0 few
