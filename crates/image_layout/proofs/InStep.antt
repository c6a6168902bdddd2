-- Between calls each image that a cut may leave, and what reads give, stands for what a cut of the world leaves.
use Rattle.std.proofs.Common.{◌≡◌, inl, ℕ, zero, suc, List, [], ◌∷◌, length, Some, refl, sym, subst, ◌∙◌, arith}
use Rattle.std.specs.Prelude.{slice_get}
use Rattle.std.specs.List.{AllZip}
use Rattle.apex_types.specs.Rows.{Rows}
use Rattle.apex_model.specs.Durable.{IsCut}
use Rattle.apex_model.specs.Files.{File}
use Rattle.apex_model.specs.Firsts.{first_tree}
use Rattle.apex_model.specs.Logbooks.{Logbook}
use Rattle.apex_model.specs.Trees.{Tree}
use Rattle.apex_model.specs.World.{World}
use Rattle.open_handles.specs.NodeHandles.{AllHandles}
use Rattle.rig_core.specs.Outside.{Outside, AllNow, Sound}
use Rattle.store_model.specs.Betweens.{TreeSite, IsTreeAt, AreTreesBetween}
use Rattle.store_model.specs.Standing.{IsTree}
use Rattle.store_model.specs.Stores.{StoreValue}
use Rattle.logbook_store.specs.Books.{IsStored}
use Rattle.logbook_store.specs.Logs.{Site, AreBeforeOrAfter, AreSettled, StandFor, sites_of as log_sites_of}
use Rattle.logbook_store.specs.declared.book.Book.{Book}
use Rattle.logbook_store.proofs.Beside.{stored_same, stored_each}
use Rattle.tree_store.specs.Serving.{AreStored, AllHold, sites_of}
use Rattle.tree_store.specs.declared.store.TreeStore.{TreeStore}
use Rattle.tree_store.proofs.Now.{tree_now, tree_shown, place_of}
use Rattle.image_layout.specs.Ready.{AreInStep, StandForWorld, Stores}
use Rattle.image_layout.proofs.Between.{now_stores}
use Rattle.image_layout.proofs.Frames.{superblock_now}

-- from places to a list
pub zip_from : {A B : Type 0} (P : A → B → Type 0) (xs : List A) (ys : List B) → length xs ≡ length ys → ((k : ℕ) (x : A) (y : B) → slice_get xs k ≡ Some x → slice_get ys k ≡ Some y → P x y) → AllZip P xs ys
zip_from P [] [] long each = tt
zip_from P [] (y ∷ ys) long each = absurd (omega (arith, long))
zip_from P (x ∷ xs) [] long each = absurd (omega (arith, long))
zip_from P (x ∷ xs) (y ∷ ys) long each = (each zero x y refl refl, zip_from P xs ys (omega (arith, long)) (λ k a b at was. each (suc k) a b at was))

-- ---- the trees

pub trees_count : (V : Type 0) (o : Outside) (trees : List TreeStore) (stores : List StoreValue) (files : List (Tree File)) → AllHold V o trees stores → AllZip IsTree stores files → length (sites_of trees) ≡ length files
trees_count V o [] [] [] hold stand = refl
trees_count V o [] [] (f ∷ files) hold stand = absurd stand
trees_count V o [] (v ∷ stores) files hold stand = absurd hold
trees_count V o (t ∷ trees) [] files hold stand = absurd hold
trees_count V o (t ∷ trees) (v ∷ stores) [] hold stand = absurd stand
trees_count V o (t ∷ trees) (v ∷ stores) (f ∷ files) hold stand = omega (arith, trees_count V o trees stores files hold.1 stand.1)

module _ (V K : Type 0) (o : Outside) (sound : Sound V K o) (trees : List TreeStore) (stores : List StoreValue) (files : List (Tree File))
    (stored : AreStored V o trees) (hold : AllHold V o trees stores) (stand : AllZip IsTree stores files) where
  -- the tree at one place, in each image that a cut may leave now and in what reads give
  one_now : (k : ℕ) (site : TreeSite) (tree : Tree File) → slice_get (sites_of trees) k ≡ Some site → slice_get files k ≡ Some tree → AllNow (IsTreeAt site (first_tree tree)) o
  one_now k site tree at was image told now =
      let place = place_of V o trees stores files k site tree stored hold stand at was in
      subst (λ (p : TreeSite). IsTreeAt p (first_tree tree) image) (sym place.site_is) (tree_now V K o sound place.store place.stored place.value place.holds tree place.is image told now)

  one_shown : V → (k : ℕ) (site : TreeSite) (tree : Tree File) → slice_get (sites_of trees) k ≡ Some site → slice_get files k ≡ Some tree → IsTreeAt site (first_tree tree) o.view
  one_shown tells k site tree at was =
      let place = place_of V o trees stores files k site tree stored hold stand at was in
      subst (λ (p : TreeSite). IsTreeAt p (first_tree tree) o.view) (sym place.site_is) (tree_shown V K o sound place.store place.stored place.value place.holds tree place.is tells)

  -- each by itself
  pub trees_now : AllNow (AreTreesBetween (sites_of trees) files files) o
  trees_now image told now k site b a at was will = inl (one_now k site b at was image told now)

  pub trees_shown : V → AreTreesBetween (sites_of trees) files files o.view
  trees_shown tells k site b a at was will = inl (one_shown tells k site b at was)

  -- as lists that go together
  trees_zip_now : AllNow (λ image. AllZip (λ site tree. IsTreeAt site (first_tree tree) image) (sites_of trees) files) o
  trees_zip_now image told now = zip_from (λ (site : TreeSite) (tree : Tree File). IsTreeAt site (first_tree tree) image) (sites_of trees) files (trees_count V o trees stores files hold stand)
      (λ k site tree at was. one_now k site tree at was image told now)

  trees_zip_shown : V → AllZip (λ site tree. IsTreeAt site (first_tree tree) o.view) (sites_of trees) files
  trees_zip_shown tells = zip_from (λ (site : TreeSite) (tree : Tree File). IsTreeAt site (first_tree tree) o.view) (sites_of trees) files (trees_count V o trees stores files hold stand) (one_shown tells)

-- ---- the logbooks

pub books_count : (books : List Book) (image : List ℕ) (logbooks : List Logbook) → StandFor books image logbooks → length (log_sites_of books) ≡ length logbooks
books_count [] image [] stand = refl
books_count [] image (b ∷ logbooks) stand = absurd stand
books_count (x ∷ books) image [] stand = absurd stand
books_count (x ∷ books) image (b ∷ logbooks) stand = omega (arith, books_count books image logbooks stand.1)

module _ (V K : Type 0) (o : Outside) (sound : Sound V K o) (books : List Book) (logbooks : List Logbook) (settled : AreSettled (log_sites_of books) o) (stand : StandFor books o.view logbooks) where
  -- a logbook in each image that a cut may leave now
  book_now : (k : ℕ) (site : Site) (b : Logbook) → slice_get (log_sites_of books) k ≡ Some site → slice_get logbooks k ≡ Some b → AllNow (IsStored site.0 site.1 b) o
  book_now k site b at was image told now =
      let long : length image ≡ length o.view = sound.image_fills o.clock image told now ∙ sym (sound.view_fills (sound.shown o.clock image told now)) in
      stored_same site.0 site.1 b o.view image long (settled k site at image told now) (stored_each books o.view logbooks stand k site b at was)

  pub books_now : AllNow (AreBeforeOrAfter (log_sites_of books) logbooks logbooks) o
  books_now image told now k site b c is was will = inl (book_now k site b is was image told now)

  pub books_shown : AreBeforeOrAfter (log_sites_of books) logbooks logbooks o.view
  books_shown k site b c is was will = inl (stored_each books o.view logbooks stand k site b is was)

  books_zip_now : AllNow (λ image. AllZip (λ site b. IsStored site.0 site.1 b image) (log_sites_of books) logbooks) o
  books_zip_now image told now = zip_from (λ (site : Site) (b : Logbook). IsStored site.0 site.1 b image) (log_sites_of books) logbooks (books_count books o.view logbooks stand)
      (λ k site b at was. book_now k site b at was image told now)

  books_zip_shown : AllZip (λ site b. IsStored site.0 site.1 b o.view) (log_sites_of books) logbooks
  books_zip_shown = zip_from (λ (site : Site) (b : Logbook). IsStored site.0 site.1 b o.view) (log_sites_of books) logbooks (books_count books o.view logbooks stand)
      (λ k site b at was. stored_each books o.view logbooks stand k site b at was)

-- ---- the whole image

module _ (V K : Type 0) (o : Outside) (sound : Sound V K o) (table : Rows) (trees : List TreeStore) (handles : AllHandles) (books : List Book) (w : World)
    (step : AreInStep V table o trees books) (stands : StandForWorld V o trees handles books w) where
  image_in_step : V → AllNow (Stores table (IsCut w)) o
  image_in_step tells image told now = now_stores table w image (record {
    superblock = superblock_now V K table o sound step.superblock.settled (step.superblock.image tells) image told now;
    trees = subst (λ (l : List TreeSite). AllZip (λ site tree. IsTreeAt site (first_tree tree) image) l w.files.trees) step.tree_sites
        (trees_zip_now V K o sound trees stands.files.0 w.files.trees step.stored stands.files.1 stands.files.2.trees image told now);
    books = subst (λ (l : List Site). AllZip (λ site b. IsStored site.0 site.1 b image) l w.logbooks.books) step.log_sites
        (books_zip_now V K o sound books w.logbooks.books step.logs_settled (stands.logbooks tells) image told now);
  })

  view_in_step : V → Stores table (IsCut w) o.view
  view_in_step tells = now_stores table w o.view (record {
    superblock = step.superblock.image tells;
    trees = subst (λ (l : List TreeSite). AllZip (λ site tree. IsTreeAt site (first_tree tree) o.view) l w.files.trees) step.tree_sites
        (trees_zip_shown V K o sound trees stands.files.0 w.files.trees step.stored stands.files.1 stands.files.2.trees tells);
    books = subst (λ (l : List Site). AllZip (λ site b. IsStored site.0 site.1 b o.view) l w.logbooks.books) step.log_sites
        (books_zip_shown V K o sound books w.logbooks.books step.logs_settled (stands.logbooks tells));
  })

  pub in_step : V → AllNow (Stores table (IsCut w)) o × Stores table (IsCut w) o.view
  in_step tells = (image_in_step tells, view_in_step tells)
