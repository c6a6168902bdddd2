-- What is in step stays so through a call of the trees, through one of the logbooks, through reads, and while a line is told.
use Rattle.std.proofs.Common.{◌≡◌, ℕ, zero, suc, ◌*◌, List, [], ◌∷◌, Some, slice_get, sym, ap, ◌∙◌, arith}
use Rattle.apex_types.specs.Rows.{Rows}
use Rattle.apex_model.specs.FileSystem.{FileSystem}
use Rattle.apex_model.specs.Layout.{superblock_blocks}
use Rattle.apex_model.specs.Logbooks.{Logbook}
use Rattle.apex_model.specs.World.{World}
use Rattle.open_handles.specs.NodeHandles.{AllHandles}
use Rattle.rig_core.specs.Outside.{Outside, Sound, Later, OnlyReads, Speaks}
use Rattle.rig_core.specs.Runs.{Runs, StaysWithin}
use Rattle.rig_core.proofs.Beside.{settled_stays, shown_stays, stays_beside, stays_reads, stays_told}
use Rattle.store_model.specs.Betweens.{TreeSite, tree_long}
use Rattle.store_model.specs.Stores.{StoreValue}
use Rattle.logbook_store.specs.Books.{Stands}
use Rattle.logbook_store.specs.Logs.{Site, site_of as book_site, size_of, AreSettled, StandFor, sites_of as log_sites_of}
use Rattle.logbook_store.specs.declared.book.Book.{Book}
use Rattle.logbook_store.proofs.Beside.{site_at, stands_same}
use Rattle.recover_scan.specs.Mount.{IsImageOf}
use Rattle.tree_store.specs.Serving.{AreStored, AllHold, StandOver, sites_of}
use Rattle.tree_store.specs.Stored.{start_of, site_of, IsStored, Holds}
use Rattle.tree_store.specs.declared.store.TreeStore.{TreeStore}
use Rattle.tree_store.proofs.Stays.{stored_stays, holds_stays}
use Rattle.tree_store.proofs.Together.{all_keep, stored_in, zip_keep}
use Rattle.image_layout.specs.Layout.{trees_start, trees_long, books_start, books_long}
use Rattle.image_layout.specs.Ready.{HasTable, AreInStep, StandForWorld}
use Rattle.image_layout.proofs.Following.{superblock_beside_trees, superblock_beside_books, tree_beside_books, book_beside_trees}
use Rattle.image_layout.proofs.Moments.{TreesRun, BooksRun, run_of_trees, run_of_books}
use Rattle.image_layout.proofs.Spoken.{superblock_speaks}

-- ---- each part, while its region stays

site_in : (trees : List TreeStore) (j : ℕ) (t : TreeStore) → slice_get trees j ≡ Some t → slice_get (sites_of trees) j ≡ Some (site_of t)
site_in [] j t is = absurd cc
site_in (x ∷ trees) zero t is = let same : x ≡ t = cc in ap (λ (u : TreeStore). Some (site_of u)) same
site_in (x ∷ trees) (suc j) t is = site_in trees j t is

module _ (V K : Type 0) (o e : Outside) (sound : Sound V K o) (sound_after : Sound V K e) where
  -- the superblock
  pub table_stays : (table : Rows) → StaysWithin V 0 (512 * superblock_blocks) o e → HasTable V table o → HasTable V table e
  table_stays table stays has = record {
    room = omega (arith, has.room, stays.size);
    settled = settled_stays V K 0 (512 * superblock_blocks) o e sound_after stays has.settled;
    image = λ tells. shown_stays V 0 (512 * superblock_blocks) (IsImageOf table) o e (superblock_speaks table) stays tells (has.image tells);
  }

  -- the trees
  module _ (trees : List TreeStore) (stays : (j : ℕ) (t : TreeStore) → slice_get trees j ≡ Some t → StaysWithin V (start_of t) (tree_long (site_of t)) o e) (stored : AreStored V o trees) where
    pub trees_stay : AreStored V e trees
    trees_stay = all_keep (IsStored V o) (IsStored V e) trees stored (λ j t at was. stored_stays V K o e sound sound_after t was (stays j t at))

    values_stay : (stores : List StoreValue) → AllHold V o trees stores → AllHold V e trees stores
    values_stay stores hold = zip_keep (Holds V o) (Holds V e) trees stores hold
        (λ j t v at was. holds_stays V K o e sound sound_after t (stored_in (IsStored V o) trees j t stored at) (stays j t at) v was)

    pub files_stay : (handles : AllHandles) (fs : FileSystem) → StandOver V o trees handles fs → StandOver V e trees handles fs
    files_stay handles fs stand = (stand.0, values_stay stand.0 stand.1, stand.2)

  -- the logbooks
  module _ (books : List Book) (stays : (k : ℕ) (site : Site) → slice_get (log_sites_of books) k ≡ Some site → StaysWithin V site.1 (size_of site) o e) where
    pub settled_stay : AreSettled (log_sites_of books) o → AreSettled (log_sites_of books) e
    settled_stay settled k site is = settled_stays V K site.1 (size_of site) o e sound_after (stays k site is) (settled k site is)

    pub books_stay : V → (logbooks : List Logbook) → StandFor books o.view logbooks → StandFor books e.view logbooks
    books_stay tells logbooks stand = zip_keep (λ (book : Book) (b : Logbook). Stands book o.view b) (λ (book : Book) (b : Logbook). Stands book e.view b) books logbooks stand
        (λ j book b at was. let same = (stays j (book_site book) (site_at books j book at)).view tells in stands_same book b o.view e.view same.0 same.1 was)

-- ---- a call of the trees

module _ (V K : Type 0) (o e : Outside) (sound : Sound V K o) (sound_after : Sound V K e) (table : Rows) (trees : List TreeStore) (books : List Book) (writes syncs : ℕ)
    (step : AreInStep V table o trees books) where
  module _ (runs : TreesRun V trees writes syncs o e) where
    run : Runs V (trees_start table) (trees_long table) writes syncs o e
    run = run_of_trees V table o e trees books writes syncs step runs

    book_stays : (k : ℕ) (site : Site) → slice_get (log_sites_of books) k ≡ Some site → StaysWithin V site.1 (size_of site) o e
    book_stays k site is = stays_beside V K site.1 (size_of site) (trees_start table) (trees_long table) writes syncs o e sound_after
        (book_beside_trees table k site (ap (λ (l : List Site). slice_get l k) (sym step.log_sites) ∙ is)) run

    -- superblock and logbooks, and the trees where the call says so
    pub in_step_after_trees : (new : List TreeStore) → sites_of new ≡ sites_of trees → AreStored V e new → AreInStep V table e new books
    in_step_after_trees new sites stored = record {
      superblock = table_stays V K o e sound sound_after table (stays_beside V K 0 (512 * superblock_blocks) (trees_start table) (trees_long table) writes syncs o e sound_after (superblock_beside_trees table) run) step.superblock;
      tree_sites = sites ∙ step.tree_sites;
      stored = stored;
      log_sites = step.log_sites;
      logs_settled = settled_stay V K o e sound sound_after books book_stays step.logs_settled;
    }

    -- the logbooks stand for what they stood for
    pub books_after_trees : V → (logbooks : List Logbook) → StandFor books o.view logbooks → StandFor books e.view logbooks
    books_after_trees tells = books_stay V K o e sound sound_after books book_stays tells

  -- ---- a call of the logbooks

  module _ (runs : BooksRun V books writes syncs o e) where
    log_run : Runs V (books_start table) (books_long table) writes syncs o e
    log_run = run_of_books V table o e trees books writes syncs step runs

    tree_stays : (j : ℕ) (t : TreeStore) → slice_get trees j ≡ Some t → StaysWithin V (start_of t) (tree_long (site_of t)) o e
    tree_stays j t is = stays_beside V K (start_of t) (tree_long (site_of t)) (books_start table) (books_long table) writes syncs o e sound_after
        (tree_beside_books table j (site_of t) (ap (λ (l : List TreeSite). slice_get l j) (sym step.tree_sites) ∙ site_in trees j t is)) log_run

    -- superblock and trees, and the logbooks where the call says so
    pub in_step_after_books : (new : List Book) → log_sites_of new ≡ log_sites_of books → AreSettled (log_sites_of new) e → AreInStep V table e trees new
    in_step_after_books new sites settled = record {
      superblock = table_stays V K o e sound sound_after table (stays_beside V K 0 (512 * superblock_blocks) (books_start table) (books_long table) writes syncs o e sound_after (superblock_beside_books table) log_run) step.superblock;
      tree_sites = step.tree_sites;
      stored = trees_stay V K o e sound sound_after trees tree_stays step.stored;
      log_sites = sites ∙ step.log_sites;
      logs_settled = settled;
    }

    -- trees and handles stand for what they stood for
    pub files_after_books : (handles : AllHandles) (fs : FileSystem) → StandOver V o trees handles fs → StandOver V e trees handles fs
    files_after_books = files_stay V K o e sound sound_after trees tree_stays step.stored

-- ---- while nothing changes on the device

module _ (V K : Type 0) (o e : Outside) (sound : Sound V K o) (sound_after : Sound V K e) (table : Rows) (trees : List TreeStore) (books : List Book) (step : AreInStep V table o trees books) where
  module _ (stays : (at n : ℕ) → StaysWithin V at n o e) where
    in_step_stays : AreInStep V table e trees books
    in_step_stays = record {
      superblock = table_stays V K o e sound sound_after table (stays 0 (512 * superblock_blocks)) step.superblock;
      tree_sites = step.tree_sites;
      stored = trees_stay V K o e sound sound_after trees (λ j t is. stays (start_of t) (tree_long (site_of t))) step.stored;
      log_sites = step.log_sites;
      logs_settled = settled_stay V K o e sound sound_after books (λ k site is. stays site.1 (size_of site)) step.logs_settled;
    }

    world_stays : (handles : AllHandles) (w : World) → StandForWorld V o trees handles books w → StandForWorld V e trees handles books w
    world_stays handles w stand = record {
      files = files_stay V K o e sound sound_after trees (λ j t is. stays (start_of t) (tree_long (site_of t))) step.stored handles w.files stand.files;
      logbooks = λ tells. books_stay V K o e sound sound_after books (λ k site is. stays site.1 (size_of site)) tells w.logbooks.books (stand.logbooks tells);
    }

  -- reads
  module _ (reads : OnlyReads V o e) where
    read : (at n : ℕ) → StaysWithin V at n o e
    read at n = stays_reads V K at n o e sound_after reads

    pub in_step_after_reads : AreInStep V table e trees books
    in_step_after_reads = in_step_stays read

    pub world_after_reads : (handles : AllHandles) (w : World) → StandForWorld V o trees handles books w → StandForWorld V e trees handles books w
    world_after_reads = world_stays read

  -- a line that is told
  module _ (line : List ℕ) (later : Later o e) (view : V → e.view ≡ o.view) (speaks : Speaks line o e) where
    told : (at n : ℕ) → StaysWithin V at n o e
    told at n = stays_told V K at n line o e sound_after later view speaks

    pub in_step_after_told : AreInStep V table e trees books
    in_step_after_told = in_step_stays told

    pub world_after_told : (handles : AllHandles) (w : World) → StandForWorld V o trees handles books w → StandForWorld V e trees handles books w
    world_after_told = world_stays told
