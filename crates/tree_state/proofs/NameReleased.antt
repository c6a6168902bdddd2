-- All that is present of a file is given up, and the other files stay.
use Rattle.std.proofs.Common.{◌≡◌, ◌≢◌, inl, inr, ℕ, zero, suc, ◌+◌, ◌-◌, ◌*◌, ◌<◌, ◌≤◌, ◌&&◌, true, false, cond, List, [], ◌∷◌, length, map, take, replicate, refl, sym, ap, subst, ◌∙◌, Option, Some, None, IsSome, arith, length-set, get_or-set_same, get_or-set_other}
use Rattle.std.specs.Prelude.{◌==◌, flat_map, slice_index_or, slice_set}
use Rattle.std.specs.List.{position_from, range_with_len}
use Rattle.std.proofs.lemmas.Bool.{cases_eq}
use Rattle.std.proofs.lemmas.Iterator.Adapters.{position_from-zero}
use Rattle.std.proofs.lemmas.Bool.Decides.{nat_tests}
use Rattle.std.proofs.lemmas.List.{length-replicate}
use Rattle.apex_types.specs.declared.numbers.FileNode.{FileNode}
use Rattle.apex_types.specs.declared.rows.TreeRow.{TreeRow}
use Rattle.apex_model.specs.Files.{blocks_of}
use Rattle.apex_model.specs.Image.{data_block}
use Rattle.block_pool.specs.declared.buffers.Block.{Block}
use Rattle.block_pool.specs.Buffers.{Buffers, holds_block, node_of, with_file_released, without_file}
use Rattle.present_files.specs.Nodes.{bytes_of}
use Rattle.present_files.specs.Present.{ArePresent, block_in, never_changed, number_in, room_in, row_length, size_in}
use Rattle.present_files.specs.declared.present.PresentSize.{PresentSize}
use Rattle.tree_region.specs.Numbers.{most_blocks, with_room}

-- ---- the nodes

other-number : (a b : ℕ) → a ≢ b → (a == b) ≡ false
other-number a b differs = grind (arith, nat_tests)

same-number : (a b : ℕ) → (a == b) ≡ true → a ≡ b
same-number a b is = grind (arith, nat_tests)

module _ (f : FileNode) where
  -- a block of another file is held where it was
  holds-other : (g : FileNode) (k : ℕ) → g.0 ≢ f.0 → (o : Option Block) → holds_block g k (without_file f o) ≡ holds_block g k o
  holds-other g k differs None = refl
  holds-other g k differs (Some block) =
      (elim (block.file.0 == f.0) as (λ b. (block.file.0 == f.0) ≡ b → holds_block g k (cond b None (Some block)) ≡ holds_block g k (Some block)) [
        | true ↦ λ is.
            let other : (block.file.0 == g.0) ≡ false = other-number block.file.0 g.0 (λ e. differs (sym e ∙ same-number block.file.0 f.0 is)) in
            sym (ap (λ b. b && (block.index == k)) other)
        | false ↦ λ is. refl
      ]) refl

  -- none of its own is
  holds-none : (k : ℕ) (o : Option Block) → holds_block f k (without_file f o) ≡ false
  holds-none k None = refl
  holds-none k (Some block) =
      (elim (block.file.0 == f.0) as (λ b. (block.file.0 == f.0) ≡ b → holds_block f k (cond b None (Some block)) ≡ false) [
        | true ↦ λ is. refl
        | false ↦ λ is. ap (λ b. b && (block.index == k)) is
      ]) refl

  position-other : (g : FileNode) (k : ℕ) → g.0 ≢ f.0 → (i : ℕ) (blocks : List (Option Block)) → position_from (holds_block g k) i (map (without_file f) blocks) ≡ position_from (holds_block g k) i blocks
  position-other g k differs i [] = refl
  position-other g k differs i (o ∷ blocks) = λ j. cond (holds-other g k differs o j) (Some i) (position-other g k differs (i + 1) blocks j)

  position-none : (k i : ℕ) (blocks : List (Option Block)) → position_from (holds_block f k) i (map (without_file f) blocks) ≡ None
  position-none k i [] = refl
  position-none k i (o ∷ blocks) = ap (λ b. cond b (Some i) (position_from (holds_block f k) (i + 1) (map (without_file f) blocks))) (holds-none k o) ∙ position-none k (i + 1) blocks

  pub node-other : (b : Buffers) (g : FileNode) (k : ℕ) → g.0 ≢ f.0 → node_of (with_file_released b f) g k ≡ node_of b g k
  node-other b g k differs =
      position_from-zero (holds_block g k) (map (without_file f) b.blocks) ∙ position-other g k differs 0 b.blocks ∙ sym (position_from-zero (holds_block g k) b.blocks)

  pub node-none : (b : Buffers) (k : ℕ) → node_of (with_file_released b f) f k ≡ None
  node-none b k = position_from-zero (holds_block f k) (map (without_file f) b.blocks) ∙ position-none k 0 b.blocks

-- ---- the numbers

zeros-at : (n k : ℕ) → ◌≡◌ {A = ℕ} (slice_index_or (replicate n 0) k 0) 0
zeros-at zero k = refl
zeros-at (suc n) zero = refl
zeros-at (suc n) (suc k) = zeros-at n k

-- a row of zeros
no-numbers : (row : List ℕ) (k : ℕ) → slice_index_or (with_room (length row) (take 0 row)) k 0 ≡ 0
no-numbers row k = zeros-at (length row - 0) k

as-long : (row : List ℕ) → length (with_room (length row) (take 0 row)) ≡ length row
as-long row = let all : length row - 0 ≡ length row = omega arith in length-replicate {A = ℕ} (length row - 0) 0 ∙ all

module _ (row : TreeRow) (sizes : List PresentSize) (numbers : List (List ℕ)) (b : Buffers) (f : FileNode) (are : ArePresent row sizes numbers b) (file : f.0 < row.files) where
  abbrev new_sizes : List PresentSize
  new_sizes = slice_set sizes f.0 never_changed

  abbrev zeros : List ℕ
  zeros = with_room (length (slice_index_or numbers f.0 [])) (take 0 (slice_index_or numbers f.0 []))

  abbrev new_numbers : List (List ℕ)
  new_numbers = slice_set numbers f.0 zeros

  abbrev new : Buffers
  new = with_file_released b f

  row-here : slice_index_or new_numbers f.0 [] ≡ zeros
  row-here = get_or-set_same numbers f.0 zeros [] (omega (arith, file, are.numbers_length))

  pub row-other : (g : ℕ) → g ≢ f.0 → slice_index_or new_numbers g [] ≡ slice_index_or numbers g []
  row-other g differs = get_or-set_other numbers f.0 g zeros [] differs

  pub none-here : (k : ℕ) → number_in new_numbers f.0 k ≡ 0
  none-here k = ap (λ (ns : List ℕ). slice_index_or ns k 0) row-here ∙ no-numbers (slice_index_or numbers f.0 []) k

  number-other : (g k : ℕ) → g ≢ f.0 → number_in new_numbers g k ≡ number_in numbers g k
  number-other g k differs = ap (λ (ns : List ℕ). slice_index_or ns k 0) (row-other g differs)

  size-here : slice_index_or new_sizes f.0 never_changed ≡ never_changed
  size-here = get_or-set_same sizes f.0 never_changed never_changed (omega (arith, file, are.sizes_length))

  size-other : (g : ℕ) → g ≢ f.0 → slice_index_or new_sizes g never_changed ≡ slice_index_or sizes g never_changed
  size-other g differs = get_or-set_other sizes f.0 g never_changed never_changed differs

  -- what holds of each number and size holds after
  each : (P : ℕ → Type 0) → P f.0 → ((g : ℕ) → g ≢ f.0 → P g) → (g : ℕ) → P g
  each P here other g = elim (cases_eq g f.0) [ inl same ↦ subst P (sym same) here | inr differs ↦ other g differs ]

  pub size-blocks-here : blocks_of (size_in new_sizes f.0) ≡ 0
  size-blocks-here = ap (λ (s : PresentSize). blocks_of s.size) size-here

  pub present-released : (c : Buffers) → c ≡ new → length c.lists ≡ length b.lists → ArePresent row new_sizes new_numbers c
  present-released c is lists =
      let nodes : (g : FileNode) (k : ℕ) → node_of c g k ≡ node_of new g k = λ g k. ap (λ (x : Buffers). node_of x g k) is in
      record {
        sizes_length = length-set sizes f.0 never_changed ∙ are.sizes_length;
        numbers_length = length-set numbers f.0 zeros ∙ are.numbers_length;
        lists = lists ∙ are.lists;
        rooms = each (λ g. g < row.files → row_length new_numbers g ≡ most_blocks row)
            (λ less. ap (λ (ns : List ℕ). length ns) row-here ∙ as-long (slice_index_or numbers f.0 []) ∙ are.rooms f.0 less)
            (λ g differs less. ap (λ (ns : List ℕ). length ns) (row-other g differs) ∙ are.rooms g less);
        within = each (λ g. (k : ℕ) → number_in new_numbers g k ≤ 2 * row.quota)
            (λ k. omega (arith, none-here k))
            (λ g differs k. omega (arith, number-other g k differs, are.within g k));
        fits = each (λ g. g < row.files → blocks_of (size_in new_sizes g) ≤ most_blocks row)
            (λ less. omega (arith, size-blocks-here))
            (λ g differs less. subst (λ (s : PresentSize). blocks_of s.size ≤ most_blocks row) (sym (size-other g differs)) (are.fits g less));
        short = each (λ g. g < row.files → size_in new_sizes g ≤ 1048576)
            (λ less. subst (λ (s : PresentSize). s.size ≤ 1048576) (sym size-here) (omega arith))
            (λ g differs less. subst (λ (s : PresentSize). s.size ≤ 1048576) (sym (size-other g differs)) (are.short g less));
        behind = λ g k. each (λ g. g < row.files → blocks_of (size_in new_sizes g) ≤ k → number_in new_numbers g k ≡ 0)
            (λ less far. none-here k)
            (λ g differs less far. number-other g k differs ∙ are.behind g k less (subst (λ (s : PresentSize). blocks_of s.size ≤ k) (size-other g differs) far)) g;
        held = λ g k some. elim (cases_eq g.0 f.0) [
          | inl same ↦
              let this : g ≡ f = (λ i. record { 0 = same i }) in
              absurd (let wrong : false ≡ true = subst IsSome (nodes g k ∙ ap (λ (h : FileNode). node_of new h k) this ∙ node-none f b k) some in cc)
          | inr differs ↦
              let was = are.held g k (subst IsSome (nodes g k ∙ node-other f b g k differs) some) in
              (was.0, subst (λ (s : PresentSize). k < blocks_of s.size) (sym (size-other g.0 differs)) was.1)
        ];
      }

  -- the content of another file stays
  pub content-other : (c : Buffers) → c ≡ new → (blocks : List ℕ) (g : FileNode) → g.0 ≢ f.0 → take (size_in new_sizes g.0) (room_in blocks new_numbers c g) ≡ take (size_in sizes g.0) (room_in blocks numbers b g)
  unfolding room_in
  content-other c is blocks g differs =
      let same : (k : ℕ) → block_in blocks new_numbers c g k ≡ block_in blocks numbers b g k
      = λ k. ap (λ (x : Buffers). block_in blocks new_numbers x g k) is
      ∙ (λ i. bytes_of (record { lists = new.lists; blocks = new.blocks; contents = b.contents }) (data_block blocks (number-other g.0 k differs i)) (node-other f b g k differs i)) in
      λ i. take (size-other g.0 differs i).size (flat_map (λ (k : ℕ). same k i) (range_with_len 0 (length (row-other g.0 differs i))))
