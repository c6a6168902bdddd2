-- What one call shows of the whole image, where superblock, trees and logbooks are in step before it.
use Rattle.std.proofs.Common.{◌≡◌, ℕ, List, length, map, slice_get, sym, ap, subst, ◌∙◌}
use Rattle.apex_types.specs.Rows.{Rows}
use Rattle.apex_model.specs.Durable.{IsCutBetween}
use Rattle.apex_model.specs.Files.{File}
use Rattle.apex_model.specs.Logbooks.{Logbook}
use Rattle.apex_model.specs.Trees.{Tree}
use Rattle.apex_model.specs.World.{World}
use Rattle.open_handles.specs.NodeHandles.{AllHandles}
use Rattle.rig_core.specs.Bytes.{SameElsewhere}
use Rattle.rig_core.specs.Leaves.{LeavesElsewhere}
use Rattle.rig_core.specs.Outside.{Outside, Later, MakesAtMost, Sound}
use Rattle.rig_core.specs.Runs.{Runs, Shows}
use Rattle.rig_core.specs.Windows.{AreWithin}
use Rattle.store_model.specs.Betweens.{TreeSite, AreTreesBetween}
use Rattle.logbook_store.specs.Logs.{Site, AreBeforeOrAfter, AreWithin as BooksAreWithin, sites_of as log_sites_of}
use Rattle.logbook_store.specs.declared.book.Book.{Book}
use Rattle.tree_store.specs.Serving.{sites_of, window_of}
use Rattle.tree_store.specs.declared.store.TreeStore.{TreeStore}
use Rattle.image_layout.specs.Laws.{HasCounts}
use Rattle.image_layout.specs.Layout.{trees_start, trees_long, books_start, books_long}
use Rattle.image_layout.specs.Ready.{AreInStep, StandForWorld, Stores}
use Rattle.image_layout.proofs.Between.{tree_sites_count, log_sites_count}
use Rattle.image_layout.proofs.Following.{trees_within, books_within, superblock_beside_trees, superblock_beside_books, tree_beside_books, book_beside_trees}
use Rattle.image_layout.proofs.Frames.{superblock_shows, books_show, trees_show, shows_between}
use Rattle.image_layout.proofs.InStep.{trees_count, books_count, trees_now, trees_shown, books_now, books_shown}

-- ---- where a call of trees runs, and one of logbooks

abbrev pub TreesRun : Type 0 → List TreeStore → ℕ → ℕ → Outside → Outside → Type 0
TreesRun V trees writes syncs o e = (at n : ℕ) → AreWithin at n (map window_of (sites_of trees)) → Runs V at n writes syncs o e

abbrev pub BooksRun : Type 0 → List Book → ℕ → ℕ → Outside → Outside → Type 0
BooksRun V books writes syncs o e = (at n : ℕ) → BooksAreWithin at n (log_sites_of books) → Runs V at n writes syncs o e

-- the clauses of a call of logbooks, as one run
pub books_run : (V : Type 0) (books : List Book) (writes syncs : ℕ) (o e : Outside) → ((at n : ℕ) → BooksAreWithin at n (log_sites_of books) → LeavesElsewhere at n o e)
    → ((at n : ℕ) → BooksAreWithin at n (log_sites_of books) → V → SameElsewhere at n o.view e.view) → Later o e → MakesAtMost writes syncs 0 o e → BooksRun V books writes syncs o e
books_run V books writes syncs o e outside outside_view later made at n within =
    record { outside = outside at n within; outside_view = outside_view at n within; later = later; made = made }

module _ (V : Type 0) (table : Rows) (o e : Outside) (trees : List TreeStore) (books : List Book) (writes syncs : ℕ) (step : AreInStep V table o trees books) where
  pub run_of_trees : TreesRun V trees writes syncs o e → Runs V (trees_start table) (trees_long table) writes syncs o e
  run_of_trees run = run (trees_start table) (trees_long table)
      (subst (λ (l : List TreeSite). AreWithin (trees_start table) (trees_long table) (map window_of l)) (sym step.tree_sites) (trees_within table))

  pub run_of_books : BooksRun V books writes syncs o e → Runs V (books_start table) (books_long table) writes syncs o e
  run_of_books run = run (books_start table) (books_long table)
      (subst (λ (l : List Site). BooksAreWithin (books_start table) (books_long table) l) (sym step.log_sites) (books_within table))

-- ---- the moments of a call

-- Behind what a rig tells a record needs no more than that it tells.
told_shows : {V : Type 0} {P : List ℕ → Type 0} {o e : Outside} → (V → Shows V P o e) → Shows V P o e
told_shows shows = record { any_moment = λ tells. (shows tells).any_moment tells; shown = λ tells. (shows tells).shown tells }

module _ (V K : Type 0) (o e : Outside) (sound : Sound V K o) (table : Rows) (trees : List TreeStore) (handles : AllHandles) (books : List Book) (before after : World)
    (step : AreInStep V table o trees books) (stands : StandForWorld V o trees handles books before) where
  -- there are as many trees and logbooks as the table has; nothing is known of the logbooks of a rig that tells nothing
  pub world_counts : V → HasCounts table before
  world_counts tells = record {
    trees = sym (trees_count V o trees stands.files.0 before.files.trees stands.files.1 stands.files.2.trees) ∙ ap (λ (l : List TreeSite). length l) step.tree_sites ∙ tree_sites_count table 0 table.trees;
    books = sym (books_count books o.view before.logbooks.books (stands.logbooks tells)) ∙ ap (λ (l : List Site). length l) step.log_sites ∙ log_sites_count table 0 table.logbooks;
  }

  -- the logbooks are the same, and there are as many trees
  pub tree_call_moments : (writes syncs : ℕ) → after.logbooks.books ≡ before.logbooks.books → length after.files.trees ≡ length before.files.trees
      → Shows V (AreTreesBetween (sites_of trees) before.files.trees after.files.trees) o e → TreesRun V trees writes syncs o e
      → Shows V (Stores table (IsCutBetween before after)) o e
  tree_call_moments writes syncs same long shows runs = told_shows (λ tells.
      let many = world_counts tells in
      let run = run_of_trees V table o e trees books writes syncs step runs in
      let kept : Shows V (AreBeforeOrAfter (log_sites_of books) before.logbooks.books before.logbooks.books) o e =
      books_show V (trees_start table) (trees_long table) writes syncs (log_sites_of books) before.logbooks.books o e
      (λ k site is. book_beside_trees table k site (ap (λ (l : List Site). slice_get l k) (sym step.log_sites) ∙ is))
      (λ told. books_now V K o sound books before.logbooks.books step.logs_settled (stands.logbooks told))
      (λ told. books_shown V K o sound books before.logbooks.books step.logs_settled (stands.logbooks told)) run in
      shows_between V table before after o e many (record { trees = long ∙ many.trees; books = ap (λ (l : List Logbook). length l) same ∙ many.books })
      (superblock_shows V K table (trees_start table) (trees_long table) writes syncs o e sound (superblock_beside_trees table) step.superblock.settled step.superblock.image run)
      (subst (λ (l : List TreeSite). Shows V (AreTreesBetween l before.files.trees after.files.trees) o e) step.tree_sites shows)
      (subst (λ (l : List Site). Shows V (AreBeforeOrAfter l before.logbooks.books after.logbooks.books) o e) step.log_sites
      (subst (λ (b : List Logbook). Shows V (AreBeforeOrAfter (log_sites_of books) before.logbooks.books b) o e) (sym same) kept)))

  -- the trees are the same, and there are as many logbooks
  pub logs_call_moments : (writes syncs : ℕ) → after.files.trees ≡ before.files.trees → length after.logbooks.books ≡ length before.logbooks.books
      → Shows V (AreBeforeOrAfter (log_sites_of books) before.logbooks.books after.logbooks.books) o e → BooksRun V books writes syncs o e
      → Shows V (Stores table (IsCutBetween before after)) o e
  logs_call_moments writes syncs same long shows runs = told_shows (λ tells.
      let many = world_counts tells in
      let run = run_of_books V table o e trees books writes syncs step runs in
      let kept : Shows V (AreTreesBetween (sites_of trees) before.files.trees before.files.trees) o e =
      trees_show V (books_start table) (books_long table) writes syncs (sites_of trees) before.files.trees o e
      (λ k site is. tree_beside_books table k site (ap (λ (l : List TreeSite). slice_get l k) (sym step.tree_sites) ∙ is))
      (λ told. trees_now V K o sound trees stands.files.0 before.files.trees step.stored stands.files.1 stands.files.2.trees)
      (trees_shown V K o sound trees stands.files.0 before.files.trees step.stored stands.files.1 stands.files.2.trees) run in
      shows_between V table before after o e many (record { trees = ap (λ (l : List (Tree File)). length l) same ∙ many.trees; books = long ∙ many.books })
      (superblock_shows V K table (books_start table) (books_long table) writes syncs o e sound (superblock_beside_books table) step.superblock.settled step.superblock.image run)
      (subst (λ (l : List TreeSite). Shows V (AreTreesBetween l before.files.trees after.files.trees) o e) step.tree_sites
      (subst (λ (t : List (Tree File)). Shows V (AreTreesBetween (sites_of trees) before.files.trees t) o e) (sym same) kept))
      (subst (λ (l : List Site). Shows V (AreBeforeOrAfter l before.logbooks.books after.logbooks.books) o e) step.log_sites shows))
