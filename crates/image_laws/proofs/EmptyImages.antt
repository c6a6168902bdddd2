-- A formatted image stands for the empty state, and one whose superblock is closed for none.
use Rattle.std.proofs.Common.{◌≡◌, ℕ, zero, suc, ◌+◌, ◌*◌, ◌<◌, ◌≤◌, Bool, true, false, not, List, [], ◌∷◌, length, take, Option, Some, None, refl, ◌∙◌, ap, arith}
use Rattle.std.proofs.lemmas.Bool.Decides.{nat_tests}
use Rattle.std.proofs.lemmas.List.Sums.{sum_by-cons}
use Rattle.std.specs.Prelude.{slice_index, slice_get, if◌then◌else◌, ◌==◌, nat_lt, sum_by, map, Result, Ok, Err}
use Rattle.apex_types.specs.Rows.{Rows}
use Rattle.apex_types.specs.declared.rows.LogbookRow.{LogbookRow}
use Rattle.apex_types.specs.declared.rows.TreeRow.{TreeRow}
use Rattle.apex_model.specs.Durable.{Durable, StoredFile, StoredLogbook, empty_durable}
use Rattle.apex_model.specs.Image.{Refusal, too_small, not_formatted, other_table, bad_tree, bad_logbook, blocks_at, is_open, wanted_superblock, first_difference, tree_of_region, logbook_of_region, tree_region, logbook_region, states_from, state_of_regions, state_of}
use Rattle.apex_model.specs.Layout.{tree_blocks, logbook_blocks, tree_start, logbook_start, layout_blocks}
use Rattle.apex_model.specs.Trees.{Tree}
use Rattle.image_laws.specs.EmptyImage.{IsEmptyImage}
use Rattle.image_laws.specs.Laws.{EmptyImageIsEmpty, ClosedImageIsUnformatted}
use Rattle.image_laws.proofs.Zeros.{byte-part, length-part, not_open, is_opened, all_states}
use Rattle.image_laws.proofs.EmptyBooks.{empty_book}
use Rattle.image_laws.proofs.EmptyTrees.{empty_tree}
use Rattle.image_laws.proofs.TableSizes.{table_fits}

-- the blocks of the rows before a row, and its own, are among all
sum_front : {R : Type 0} (size : R → ℕ) (rows : List R) (k : ℕ) (row : R) → slice_get rows k ≡ Some row → sum_by size (take k rows) + size row ≤ sum_by size rows
sum_front size [] k row is = absurd cc
sum_front size (r ∷ rows) zero row is =
    let same : r ≡ row = cc in
    let sizes : size r ≡ size row = ap size same in
    omega (arith, sum_by-cons size r rows)
sum_front size (r ∷ rows) (suc k) row is =
    let rest = sum_front size rows k row is in
    omega (arith, sum_by-cons size r rows, sum_by-cons size r (take k rows))

-- no byte differs where the wanted ones stand
no_difference : (k : ℕ) (wanted found : List ℕ) → length wanted ≤ length found → ((j : ℕ) → j < length wanted → slice_index found j ≡ slice_index wanted j) → first_difference k wanted found ≡ None
no_difference k [] found fits same = refl
no_difference k (x ∷ xs) [] fits same = absurd (omega arith)
no_difference k (x ∷ xs) (y ∷ ys) fits same =
    let here : y ≡ x = same 0 (omega arith) in
    let rest : first_difference (k + 1) xs ys ≡ None = no_difference (k + 1) xs ys (omega arith) (λ j low. same (suc j) (omega arith)) in
    let test : (x == y) ≡ true = grind (arith, nat_tests) in
    ap (λ (b : Bool). if b then first_difference (k + 1) xs ys else Some k) test ∙ rest

-- what is told of an image, by its length, its superblock's gate, the first place that differs and its regions
abbrev told : Bool → ℕ → Bool → Option ℕ → Result Durable Refusal → Result Durable Refusal
told short wanted opened place regions =
    if short then Err (too_small wanted) else if not opened then Err not_formatted else elim place [ Some p ↦ Err (other_table p) | None ↦ regions ]

abbrev regions_told : Result (List (Tree StoredFile)) ℕ → Result (List StoredLogbook) ℕ → Result Durable Refusal
regions_told trees logbooks = elim trees [
  | Err bad ↦ Err (bad_tree bad)
  | Ok trees ↦ elim logbooks [
    | Err bad ↦ Err (bad_logbook bad)
    | Ok logbooks ↦ Ok (record { trees = trees; logbooks = logbooks })
  ]
]

long_enough : (table : Rows) (image : List ℕ) → 512 * layout_blocks table ≤ length image → nat_lt (length image) (512 * layout_blocks table) ≡ false
long_enough table image long = grind (arith, nat_tests)

-- an image whose superblock is closed is not formatted
pub closed_image : ClosedImageIsUnformatted
unfolding state_of
closed_image table image long shut =
    let place = first_difference 0 (wanted_superblock table) (blocks_at image 1 32) in
    ap (λ (b : Bool). told b (512 * layout_blocks table) (is_open image 0) place (state_of_regions table image)) (long_enough table image long)
    ∙ ap (λ (b : Bool). told false (512 * layout_blocks table) b place (state_of_regions table image)) (not_open image 0 shut)

-- the table's bytes fit the superblock, so the image is that of the table
module _ (table : Rows) (image : List ℕ) (fits : length (wanted_superblock table) ≤ 16384) (empty : IsEmptyImage table image) where
  abbrev empty_tree_of : TreeRow → Tree StoredFile
  empty_tree_of row = []

  abbrev empty_book_of : LogbookRow → StoredLogbook
  empty_book_of row = record { life = 0; logged = [] }

  room : 16896 ≤ length image
  room = let long = empty.long in omega arith

  trees_are : states_from (λ k row. tree_of_region row (tree_region table image k row)) 0 table.trees ≡ Ok (map empty_tree_of table.trees)
  trees_are = all_states (λ k row. tree_of_region row (tree_region table image k row)) empty_tree_of 0 table.trees (λ j row is.
      let long = empty.long in
      let within = sum_front tree_blocks table.trees j row is in
      ap (λ (k : ℕ). tree_of_region row (tree_region table image k row)) (omega arith)
      ∙ empty_tree row (512 * tree_start table j) image (omega arith) (empty.trees j row is))

  books_are : states_from (λ k row. logbook_of_region row (logbook_region table image k row)) 0 table.logbooks ≡ Ok (map empty_book_of table.logbooks)
  books_are = all_states (λ k row. logbook_of_region row (logbook_region table image k row)) empty_book_of 0 table.logbooks (λ j row is.
      let long = empty.long in
      let within = sum_front logbook_blocks table.logbooks j row is in
      ap (λ (k : ℕ). logbook_of_region row (logbook_region table image k row)) (omega arith)
      ∙ empty_book row (512 * logbook_start table j) image (omega arith) (empty.logbooks j row is))

  regions_are : state_of_regions table image ≡ Ok (empty_durable table)
  regions_are =
      ap (λ (t : Result (List (Tree StoredFile)) ℕ). regions_told t (states_from (λ k row. logbook_of_region row (logbook_region table image k row)) 0 table.logbooks)) trees_are
      ∙ ap (regions_told (Ok (map empty_tree_of table.trees))) books_are

  same_table : first_difference 0 (wanted_superblock table) (blocks_at image 1 32) ≡ None
  same_table =
      let long = room in
      let blocks = length-part image 512 16384 (omega arith) in
      no_difference 0 (wanted_superblock table) (blocks_at image 1 32) (omega (arith, blocks, fits)) (λ j low. byte-part image 512 16384 j (omega (arith, low, fits)) ∙ empty.superblock j low)

  pub fitting_image : state_of table image ≡ Ok (empty_durable table)
  unfolding state_of
  fitting_image =
      let place = first_difference 0 (wanted_superblock table) (blocks_at image 1 32) in
      ap (λ (b : Bool). told b (512 * layout_blocks table) (is_open image 0) place (state_of_regions table image)) (long_enough table image empty.long)
      ∙ ap (λ (b : Bool). told false (512 * layout_blocks table) b place (state_of_regions table image)) (is_opened image 0 empty.opened)
      ∙ ap (λ (o : Option ℕ). told false (512 * layout_blocks table) true o (state_of_regions table image)) same_table
      ∙ regions_are

-- a formatted image stands for the empty state
pub empty_image : EmptyImageIsEmpty
empty_image table image good empty = fitting_image table image (table_fits table good) empty
