-- Worked examples: an image that is empty, and which blocks are named, by computation.
use Rattle.std.proofs.Common.{◌≡◌, ◌≢◌, ℕ, zero, suc, ◌+◌, ◌-◌, ◌*◌, true, List, [], ◌∷◌, length, Some, refl, sym, ◌∙◌, ap, subst, arith}
use Rattle.std.proofs.lemmas.Bool.Decides.{nat_tests}
use Rattle.std.specs.Prelude.{slice_index, slice_get, ◌==◌}
use Rattle.apex_types.specs.declared.rows.LogbookRow.{LogbookRow}
use Rattle.apex_types.specs.declared.rows.TreeRow.{TreeRow}
use Rattle.apex_model.specs.Examples.{small_table, empty_image, poked, tree_row}
use Rattle.apex_model.specs.Fields.{part, is_padding}
use Rattle.apex_model.specs.Image.{wanted_superblock}
use Rattle.apex_model.specs.Layout.{tree_start, logbook_start}
use Rattle.apex_model.proofs.AcceptedTables.{and-left, and-right}
use Rattle.image_laws.specs.EmptyImage.{AreZeros, IsEmptyTree, IsEmptyLogbook, IsEmptyImage}
use Rattle.image_laws.specs.NamedBlocks.{named_blocks}
use Rattle.image_laws.proofs.Zeros.{byte-part}

-- zeros by the test of their bytes
padding_at : (xs : List ℕ) (k : ℕ) → is_padding xs ≡ true → slice_index xs k ≡ 0
padding_at [] k all = refl
padding_at (x ∷ xs) zero all =
    let here : (x == 0) ≡ true = and-left (x == 0) (is_padding xs) all in
    grind (arith, nat_tests)
padding_at (x ∷ xs) (suc k) all = padding_at xs k (and-right (x == 0) (is_padding xs) all)

zeros_by_test : (image : List ℕ) (from n : ℕ) → is_padding (part image from n) ≡ true → AreZeros from (from + n) image
zeros_by_test image from n all k low high =
    let at : from + (k - from) ≡ k = omega (arith, low) in
    sym (byte-part image from n (k - from) (omega (arith, low, high)) ∙ ap (slice_index image) at) ∙ padding_at (part image from n) (k - from) all

not_gate : (n : ℕ) → n ≡ 0 → n ≢ 165
not_gate n is opened = omega (arith, is, opened)

abbrev small_tree : TreeRow
small_tree = tree_row 0 0 (1 ∷ []) 8 4 2 16

abbrev small_book : LogbookRow
small_book = record { name = 0x46 ∷ 0x41 ∷ 0x55 ∷ 0x4c ∷ 0x54 ∷ 0x53 ∷ []; partition = record { 0 = 0 }; message_size = 16; logged = 4; in_progress = 2 }

abbrev image : List ℕ
image = empty_image small_table

small_superblock : part image 512 (length (wanted_superblock small_table)) ≡ wanted_superblock small_table
small_superblock = refl

small_tree_empty : IsEmptyTree small_tree 16896 image
small_tree_empty = record {
  opened = refl;
  sequence = refl;
  version = refl;
  body = zeros_by_test image 17410 1022 refl;
  journal = λ r low. not_gate (slice_index image (18432 + 1024 * r)) (zeros_by_test image 18432 32768 refl (18432 + 1024 * r) (omega arith) (omega (arith, low)));
  other = not_gate (slice_index image 51200) refl;
}

small_book_empty : IsEmptyLogbook small_book 93696 image
small_book_empty = record {
  opened = refl;
  header = zeros_by_test image 94208 512 refl;
  other = not_gate (slice_index image 94720) refl;
  places = λ place low. not_gate (slice_index image (93696 + 512 * (4 + 2 * place))) (zeros_by_test image 95744 5120 refl (93696 + 512 * (4 + 2 * place)) (omega arith) (omega (arith, low)));
}

trees_empty : (k : ℕ) (row : TreeRow) → slice_get small_table.trees k ≡ Some row → IsEmptyTree row (512 * tree_start small_table k) image
trees_empty zero row is =
    let same : small_tree ≡ row = cc in
    let P : TreeRow → Type 0 = λ r. IsEmptyTree r 16896 image in
    subst P same small_tree_empty
trees_empty (suc k) row is = absurd cc

books_empty : (k : ℕ) (row : LogbookRow) → slice_get small_table.logbooks k ≡ Some row → IsEmptyLogbook row (512 * logbook_start small_table k) image
books_empty zero row is =
    let same : small_book ≡ row = cc in
    let P : LogbookRow → Type 0 = λ r. IsEmptyLogbook r 93696 image in
    subst P same small_book_empty
books_empty (suc k) row is = absurd cc

-- there is an empty image
small_image_empty : IsEmptyImage small_table image
small_image_empty = record {
  long = omega arith;
  opened = refl;
  superblock = λ k low. sym (byte-part image 512 (length (wanted_superblock small_table)) k low) ∙ ap (λ (xs : List ℕ). slice_index xs k) small_superblock;
  trees = trees_empty;
  logbooks = books_empty;
}

-- ---- names

-- a file A of 600 bytes in data blocks 2 and 4
abbrev with_file : List ℕ
with_file = poked (poked (poked image 17472 (0x01 ∷ 0x01 ∷ 0x00 ∷ 0x00 ∷ 0x58 ∷ 0x02 ∷ [])) 17484 (0x41 ∷ [])) 18240 (0x03 ∷ 0x00 ∷ 0x00 ∷ 0x00 ∷ 0x05 ∷ [])

abbrev region_of : List ℕ → List ℕ
region_of bytes = part bytes 16896 (512 * 150)

no_names : named_blocks small_tree (region_of image) ≡ []
unfolding named_blocks
no_names = refl

names_of_file : named_blocks small_tree (region_of with_file) ≡ 3 ∷ 5 ∷ []
unfolding named_blocks
names_of_file = refl

-- renamed to B in the journal
names_of_renamed_file : named_blocks small_tree (region_of (poked (poked with_file 18432 (0xa5 ∷ [])) 18944 (0x05 ∷ 0x00 ∷ 0x00 ∷ 0x01 ∷ 0x42 ∷ []))) ≡ 3 ∷ 5 ∷ []
unfolding named_blocks
names_of_renamed_file = refl

-- deleted, and then made again, in the journal
names_of_deleted_file : named_blocks small_tree (region_of (poked (poked with_file 18432 (0xa5 ∷ [])) 18944 (0x03 ∷ []))) ≡ []
unfolding named_blocks
names_of_deleted_file = refl

names_of_new_file : named_blocks small_tree (region_of (poked (poked (poked (poked with_file 18432 (0xa5 ∷ [])) 18944 (0x03 ∷ [])) 19456 (0xa5 ∷ [])) 19968 (0x01 ∷ 0x00 ∷ 0x00 ∷ 0x01 ∷ 0x41 ∷ []))) ≡ []
unfolding named_blocks
names_of_new_file = refl
