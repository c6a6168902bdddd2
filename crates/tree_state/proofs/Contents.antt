-- Contents stay when a block of a file is written to a data block of its own.
use Rattle.std.proofs.Common.{◌≡◌, ◌≢◌, ℕ, ◌<◌, List, [], length, set, sym, ap, ◌∙◌, subst, inl, inr, ⊎_elim, length-set, get_or-set_same, get_or-set_other}
use Rattle.std.specs.Prelude.{slice_index_or}
use Rattle.std.proofs.lemmas.Bool.{cases_eq}
use Rattle.apex_types.specs.declared.numbers.FileNode.{FileNode}
use Rattle.apex_model.specs.Image.{data_block}
use Rattle.block_pool.specs.Buffers.{Buffers}
use Rattle.tree_region.specs.OwnedRows.{number_at, with_number}
use Rattle.tree_region.proofs.Owned.{at-other, at-place}
use Rattle.present_files.specs.Nodes.{IsOther, OthersStay, held_or}
use Rattle.present_files.specs.Present.{block_in, room_in, row_length}
use Rattle.present_files.proofs.Joined.{joined-alike, joined_from}
use Rattle.present_files.proofs.Rooms.{same-file, same-or-other}

-- a row keeps its length
pub rows-kept : (numbers : List (List ℕ)) (f k n : ℕ) → f < length numbers → (g : ℕ) → row_length (with_number numbers f k n) g ≡ row_length numbers g
rows-kept numbers f k n file g =
    elim (cases_eq g f) [
      | inl same ↦
          ap (row_length (with_number numbers f k n)) same
          ∙ ap (λ (ns : List ℕ). length ns) (get_or-set_same numbers f (set (slice_index_or numbers f []) k n) [] file)
          ∙ length-set (slice_index_or numbers f []) k n ∙ ap (row_length numbers) (sym same)
      | inr other ↦ ap (λ (ns : List ℕ). length ns) (get_or-set_other numbers f g (set (slice_index_or numbers f []) k n) [] other)
    ]

-- there are as many rows
pub rows-long : (numbers now : List (List ℕ)) (f k n : ℕ) → now ≡ with_number numbers f k n → length now ≡ length numbers
rows-long numbers now f k n placed = ap (λ (rows : List (List ℕ)). length rows) placed ∙ length-set numbers f (set (slice_index_or numbers f []) k n)

-- Block k of file f got number n, under which it is written, and other data blocks stay. Its buffer has its bytes or the data block does.
module _ (blocks written : List ℕ) (numbers now : List (List ℕ)) (b c : Buffers) (f : FileNode) (k n : ℕ) (file : f.0 < length numbers) (place : k < row_length numbers f.0)
    (placed : now ≡ with_number numbers f.0 k n) (once : (g j : ℕ) → number_at now g j ≡ n → (g ≡ f.0) × (j ≡ k)) (others : (m : ℕ) → m ≢ n → data_block written m ≡ data_block blocks m) (pool : OthersStay f k b c)
    (here : held_or c (data_block written n) f k ≡ held_or b (data_block blocks (number_at numbers f.0 k)) f k) where
  number-here : number_at now f.0 k ≡ n
  number-here = ap (λ (rows : List (List ℕ)). number_at rows f.0 k) placed ∙ at-place numbers f.0 k n file place

  number-other : (g : FileNode) (j : ℕ) → IsOther f k g j → number_at now g.0 j ≡ number_at numbers g.0 j
  number-other g j other = ap (λ (rows : List (List ℕ)). number_at rows g.0 j) placed ∙ at-other numbers f.0 k n file place g.0 j (λ both. other both.0 both.1)

  block-here : block_in written now c f k ≡ block_in blocks numbers b f k
  block-here = ap (λ (m : ℕ). held_or c (data_block written m) f k) number-here ∙ here

  block-other : (g : FileNode) (j : ℕ) → IsOther f k g j → block_in written now c g j ≡ block_in blocks numbers b g j
  block-other g j other =
      let number = number-other g j other in
      let apart : number_at numbers g.0 j ≢ n = λ e. let both = once g.0 j (number ∙ e) in other both.0 both.1 in
      ap (λ (m : ℕ). held_or c (data_block written m) g j) number
      ∙ ap (λ (stored : List ℕ). held_or c stored g j) (others (number_at numbers g.0 j) apart)
      ∙ pool.bytes (data_block blocks (number_at numbers g.0 j)) g j other

  block-kept : (g : FileNode) (j : ℕ) → block_in written now c g j ≡ block_in blocks numbers b g j
  block-kept g j =
      ⊎_elim
      (λ (same : (g.0 ≡ f.0) × (j ≡ k)).
      let that : f ≡ g = sym (same-file f g same.0) in
      let index : k ≡ j = sym same.1 in
      subst (λ (h : FileNode). block_in written now c h j ≡ block_in blocks numbers b h j) that
      (subst (λ (m : ℕ). block_in written now c f m ≡ block_in blocks numbers b f m) index block-here))
      (block-other g j)
      (same-or-other f k g j)

  rows-now : (g : ℕ) → row_length now g ≡ row_length numbers g
  rows-now g = ap (λ (rows : List (List ℕ)). row_length rows g) placed ∙ rows-kept numbers f.0 k n file g

  -- the bytes of each file's blocks
  pub room-kept : (g : FileNode) → room_in written now c g ≡ room_in blocks numbers b g
  unfolding room_in
  room-kept g =
      ap (λ (count : ℕ). joined_from (block_in written now c g) 0 count) (rows-now g.0)
      ∙ joined-alike (block_in blocks numbers b g) (block_in written now c g) 0 (row_length numbers g.0) (λ j _ _. block-kept g j)
