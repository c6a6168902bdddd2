-- The superblock and the state are told by their bytes.
use Rattle.std.proofs.Common.{◌≡◌, ℕ, suc, ◌+◌, ◌*◌, ◌==◌, List, [], ◌∷◌, length, Some, slice_get, ap, ◌∙◌, arith, refl}
use Rattle.std.specs.Prelude.{Ok}
use Rattle.std.specs.List.{AllZip}
use Rattle.apex_types.specs.Rows.{Rows}
use Rattle.apex_types.specs.declared.rows.LogbookRow.{LogbookRow}
use Rattle.apex_types.specs.declared.rows.TreeRow.{TreeRow}
use Rattle.apex_model.specs.Durable.{Durable, StoredFile, StoredLogbook}
use Rattle.apex_model.specs.Image.{state_of, tree_of_region, logbook_of_region, first_difference, wanted_superblock}
use Rattle.apex_model.specs.Layout.{superblock_blocks, layout_blocks, tree_start, logbook_start, tree_blocks, logbook_blocks}
use Rattle.apex_model.specs.Trees.{Tree}
use Rattle.image_format.proofs.Regions.{tree_within, logbook_within, trees_within}
use Rattle.rig_core.specs.Bytes.{part, SameWithin}
use Rattle.rig_core.specs.Leaves.{SpeaksOf}
use Rattle.rig_core.proofs.Put.{part_same}
use Rattle.recover_scan.specs.Mount.{IsImageOf}
use Rattle.store_model.specs.Betweens.{IsTreeAt}
use Rattle.logbook_store.specs.Logs.{sites_from as log_sites_from}
use Rattle.tree_store.specs.Serving.{sites_from as tree_sites_from}
use Rattle.image_layout.specs.Parts.{IsBookAt}
use Rattle.image_layout.proofs.Parts.{parts_are_state, state_has_parts}

pub superblock_speaks : (table : Rows) → SpeaksOf 0 (512 * superblock_blocks) (IsImageOf table)
superblock_speaks table = record {
  told_by = λ a b long same has.
      let body : part 512 16384 b ≡ part 512 16384 a = part_same 512 16384 b a long (λ k low high. same.within k (omega arith) (omega (arith, high))) in
      record {
        room = omega (arith, has.room, long);
        formatted = ap (λ (n : ℕ). n == 165) (same.within 0 (omega arith) (omega arith)) ∙ has.formatted;
        same = ap (first_difference 0 (wanted_superblock table)) body ∙ has.same;
      };
}

module _ (table : Rows) (a b : List ℕ) (long : length b ≡ length a) (same : SameWithin 0 (512 * layout_blocks table) a b) where
  trees_stay : (k : ℕ) (rows : List TreeRow) (trees : List (Tree StoredFile)) → ((j : ℕ) (row : TreeRow) → slice_get rows j ≡ Some row → slice_get table.trees (k + j) ≡ Some row)
      → AllZip (λ site tree. IsTreeAt site tree a) (tree_sites_from table k rows) trees → AllZip (λ site tree. IsTreeAt site tree b) (tree_sites_from table k rows) trees
  trees_stay k [] [] are all = tt
  trees_stay k [] (t ∷ trees) are all = absurd all
  trees_stay k (row ∷ rows) [] are all = absurd all
  trees_stay k (row ∷ rows) (t ∷ trees) are all =
      let found : slice_get table.trees k ≡ Some row = ap (λ (n : ℕ). slice_get table.trees n) (omega arith) ∙ are 0 row refl in
      let end = tree_within table k row found in
      let last = trees_within table in
      let region : part (512 * tree_start table k) (512 * tree_blocks row) b ≡ part (512 * tree_start table k) (512 * tree_blocks row) a =
      part_same (512 * tree_start table k) (512 * tree_blocks row) b a long (λ p low high. same.within p (omega arith) (omega (arith, high, end, last))) in
      (ap (tree_of_region row) region ∙ all.0, trees_stay (k + 1) rows trees (λ j r is. ap (λ (n : ℕ). slice_get table.trees n) (omega arith) ∙ are (suc j) r is) all.1)

  books_stay : (k : ℕ) (rows : List LogbookRow) (books : List StoredLogbook) → ((j : ℕ) (row : LogbookRow) → slice_get rows j ≡ Some row → slice_get table.logbooks (k + j) ≡ Some row)
      → AllZip (λ site book. IsBookAt site book a) (log_sites_from table k rows) books → AllZip (λ site book. IsBookAt site book b) (log_sites_from table k rows) books
  books_stay k [] [] are all = tt
  books_stay k [] (c ∷ books) are all = absurd all
  books_stay k (row ∷ rows) [] are all = absurd all
  books_stay k (row ∷ rows) (c ∷ books) are all =
      let found : slice_get table.logbooks k ≡ Some row = ap (λ (n : ℕ). slice_get table.logbooks n) (omega arith) ∙ are 0 row refl in
      let end = logbook_within table k row found in
      let region : part (512 * logbook_start table k) (512 * logbook_blocks row) b ≡ part (512 * logbook_start table k) (512 * logbook_blocks row) a =
      part_same (512 * logbook_start table k) (512 * logbook_blocks row) b a long (λ p low high. same.within p (omega arith) (omega (arith, high, end))) in
      (ap (logbook_of_region row) region ∙ all.0, books_stay (k + 1) rows books (λ j r is. ap (λ (n : ℕ). slice_get table.logbooks n) (omega arith) ∙ are (suc j) r is) all.1)

pub state_speaks : (table : Rows) (stored : Durable) → SpeaksOf 0 (512 * layout_blocks table) (λ image. state_of table image ≡ Ok stored)
state_speaks table stored = record {
  told_by = λ a b long same is.
      let has = state_has_parts table a stored is in
      parts_are_state table b stored (record {
        superblock = (superblock_speaks table).told_by a b long (record { within = λ k low high. same.within k low (omega (arith, high)) }) has.superblock;
        trees = trees_stay table a b long same 0 table.trees stored.trees (λ j row is. ap (λ (n : ℕ). slice_get table.trees n) (omega arith) ∙ is) has.trees;
        books = books_stay table a b long same 0 table.logbooks stored.logbooks (λ j row is. ap (λ (n : ℕ). slice_get table.logbooks n) (omega arith) ∙ is) has.books;
      });
}
