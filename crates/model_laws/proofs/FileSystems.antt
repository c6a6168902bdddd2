-- A valid file system in which one tree is another, and handles follow what they held.
use Rattle.std.proofs.Common.{◌≡◌, ◌≢◌, ℕ, zero, suc, ◌≤◌, ◌<◌, inl, inr, Bool, true, false, ◌&&◌, ◌||◌, List, [], ◌∷◌, map, refl, sym, ap, subst, ◌∙◌, Option, Some, None, length, arith}
use Rattle.std.specs.Prelude.{◌==◌, slice_get, slice_set, slice_index_or, option_map, if◌then◌else◌}
use Rattle.std.specs.List.{AllZip, AllByRecursion, list_any}
use Rattle.std.specs.Option.{option_map_or}
use Rattle.std.proofs.lemmas.Bool.Decides.{nat_tests}
use Rattle.std.proofs.lemmas.List.{get_or-set_same}
use Rattle.apex_types.specs.Rows.{Rows}
use Rattle.apex_types.specs.declared.calls.OpenMode.TheVariants.{ReadWrite}
use Rattle.apex_types.specs.declared.rows.TreeRow.{TreeRow}
use Rattle.apex_model.specs.Files.{File, size}
use Rattle.apex_model.specs.FileSystem.{FileSystem, tree_at, tree_in, handles_in, with_tree}
use Rattle.apex_model.specs.Handles.{Handles, OpenedFile, OpenedDirectory, no_handles, handle_at, is_path, leads_to, is_file_handle_to, is_directory_handle_to, file_moved, directory_gone, with_files_moved, with_directories_gone}
use Rattle.apex_model.specs.Tables.{Right, owner_alone, owner_or_reader, has_right}
use Rattle.apex_model.specs.Trees.{Name, Node, directory, file, Tree, standing_at}
use Rattle.apex_model.specs.Validity.{Has, HasAllSlots, IsValidTree, IsValidFileHandle, IsValidDirectoryHandle, IsValidFileSystem}
use Rattle.apex_model.proofs.AcceptedTables.{and-left, and-right}
use Rattle.apex_model.proofs.Cuts.{length-map}
use Rattle.apex_model.proofs.Keeps.{zip-set}
use Rattle.apex_model.proofs.Trees.{same_path}
use Rattle.apex_model.proofs.ValidFiles.{index-set}
use Rattle.model_laws.proofs.Handles.{handle-map, index-map}
use Rattle.model_laws.proofs.TreeChanges.{same_key}

-- ---- rows

-- a right is held in a row of the table
pub row_of : (table : Rows) (right : Right) (p t : ℕ) → Has table right p t → (row : TreeRow) × (slice_get table.trees t ≡ Some row)
row_of table right p t h = there (slice_get table.trees t) h
  where
    there : (o : Option TreeRow) → option_map_or (has_right right p) o false ≡ true → (row : TreeRow) × (o ≡ Some row)
    there None h = absurd cc
    there (Some row) h = (row, refl)

-- a tree has one owner
pub one_owner : (table : Rows) (p q t : ℕ) → Has table owner_alone p t → Has table owner_alone q t → p ≡ q
one_owner table p q t h k = alike (slice_get table.trees t) h k
  where
    alike : (o : Option TreeRow) → option_map_or (has_right owner_alone p) o false ≡ true → option_map_or (has_right owner_alone q) o false ≡ true → p ≡ q
    alike None h k = absurd cc
    alike (Some row) h k = let a : (row.owner.0 == p) ≡ true = h in let b : (row.owner.0 == q) ≡ true = k in grind (arith, nat_tests)

or-true : (a b : Bool) → a ≡ true → (a || b) ≡ true
or-true true b h = refl
or-true false b h = absurd cc

-- the owner may read
pub owner-reads : (table : Rows) (p t : ℕ) → Has table owner_alone p t → Has table owner_or_reader p t
owner-reads table p t h = weaker (slice_get table.trees t) h
  where
    weaker : (o : Option TreeRow) → option_map_or (has_right owner_alone p) o false ≡ true → option_map_or (has_right owner_or_reader p) o false ≡ true
    weaker None h = absurd cc
    weaker (Some row) h = or-true (row.owner.0 == p) (list_any (λ reader. reader.0 == p) row.readers) h

-- a row of the table has a tree
pub within-zip : (rows : List TreeRow) (trees : List (Tree File)) (t : ℕ) (row : TreeRow) → AllZip IsValidTree rows trees → slice_get rows t ≡ Some row → t < length trees
within-zip [] trees t row z g = absurd (let e : ◌≡◌ {A = Option TreeRow} None (Some row) = g in cc)
within-zip (r ∷ rows) [] t row z g = absurd z
within-zip (r ∷ rows) (x ∷ trees) zero row z g = omega arith
within-zip (r ∷ rows) (x ∷ trees) (suc t) row z g = let ih = within-zip rows trees t row z.1 g in omega (arith, ih)

-- ---- where handles lead

pub leads : (at : ℕ) (path : Option (List Name)) (tree : ℕ) (names : List Name) → leads_to at path tree names ≡ true → (at ≡ tree) × (path ≡ Some names)
leads at None tree names h = absurd cc
leads at (Some other) tree names h =
    let a : (at == tree) ≡ true = and-left (at == tree) (is_path other names) h in
    (grind (arith, nat_tests), ap Some (same_path other names (and-right (at == tree) (is_path other names) h)))

pub leads-not : (at : ℕ) (path : Option (List Name)) (tree : ℕ) (names : List Name) → leads_to at path tree names ≡ false → at ≡ tree → path ≡ Some names → ⊥
leads-not at path tree names h same named =
    let same_number : (tree == tree) ≡ true = grind (arith, nat_tests) in
    let there : leads_to tree (Some names) tree names ≡ true = ap (λ b. b && is_path names names) same_number ∙ same_key names in
    let here : leads_to at path tree names ≡ leads_to tree (Some names) tree names = (λ i. leads_to (same i) (named i) tree names) in
    let wrong : false ≡ true = sym h ∙ here ∙ there in cc

-- ---- one tree is another

-- a fact of each tree
pub tree-set : (P : Tree File → Type 0) (trees : List (Tree File)) (t u : ℕ) (tree : Tree File) → P (tree_at trees u) → (t ≡ u → P tree) → P (tree_at (slice_set trees t tree) u)
tree-set P trees t u tree was new = elim (index-set trees t u tree []) [ inl is ↦ subst P (sym is.0) (new is.1) | inr same ↦ subst P (sym same) was ]

module _ (table : Rows) (fs : FileSystem) (v : IsValidFileSystem table fs) (t : ℕ) (row : TreeRow) (at : slice_get table.trees t ≡ Some row) (tree : Tree File) (good : IsValidTree row tree) where
  -- what a handle to a file of the tree needs of the other tree
  abbrev Carries : OpenedFile → Type 0
  Carries h = (names : List Name) (f : File) → h.tree ≡ t → h.path ≡ Some names → standing_at (tree_in fs t) names ≡ Some (file f)
      → (g : File) × (standing_at tree names ≡ Some (file g)) × (h.mode ≡ ReadWrite → h.position ≤ size f → h.position ≤ size g)

  file-carried : (p : ℕ) (h : OpenedFile) → IsValidFileHandle table fs.trees p h → Carries h → IsValidFileHandle table (slice_set fs.trees t tree) p h
  file-carried p h is carry = record {
    holder = is.holder;
    position = is.position;
    path = λ names e.
        let was = is.path names e in
        let P : Tree File → Type 0 = λ x. (f : File) × (standing_at x names ≡ Some (file f)) in
        tree-set P fs.trees t h.tree tree was
        (λ same. let Q : ℕ → Type 0 = λ u. standing_at (tree_at fs.trees u) names ≡ Some (file was.0) in
        let c = carry names was.0 (sym same) e (subst Q (sym same) was.1) in (c.0, c.1));
    writer = λ m.
        let w = is.writer m in
        let P : Tree File → Type 0 = λ x. (f : File) × (standing_at x w.names ≡ Some (file f)) × (h.position ≤ size f) in
        let now = tree-set P fs.trees t h.tree tree (w.held, w.stands, w.position)
        (λ same. let Q : ℕ → Type 0 = λ u. standing_at (tree_at fs.trees u) w.names ≡ Some (file w.held) in
        let c = carry w.names w.held (sym same) w.path (subst Q (sym same) w.stands) in (c.0, c.1, c.2 m w.position)) in
        record { owner = w.owner; names = w.names; held = now.0; path = w.path; stands = now.1; position = now.2 };
  }

  directory-carried : (p : ℕ) (h : OpenedDirectory) → IsValidDirectoryHandle table fs.trees p h
      → ((names : List Name) → h.tree ≡ t → h.path ≡ Some names → standing_at (tree_in fs t) names ≡ Some directory → standing_at tree names ≡ Some directory)
      → IsValidDirectoryHandle table (slice_set fs.trees t tree) p h
  directory-carried p h is carry = record {
    holder = is.holder;
    path = λ names e.
        let P : Tree File → Type 0 = λ x. standing_at x names ≡ Some directory in
        let Q : ℕ → Type 0 = λ u. standing_at (tree_at fs.trees u) names ≡ Some directory in
        tree-set P fs.trees t h.tree tree (is.path names e) (λ same. carry names (sym same) e (subst Q (sym same) (is.path names e)));
  }

  trees-valid : AllZip IsValidTree table.trees (slice_set fs.trees t tree)
  trees-valid = zip-set IsValidTree table.trees fs.trees t row tree v.trees at good

  -- with the same handles
  pub with_tree-valid : ((p id : ℕ) (h : OpenedFile) → handle_at (handles_in fs p).files id ≡ Some h → Carries h)
      → ((names : List Name) → standing_at (tree_in fs t) names ≡ Some directory → standing_at tree names ≡ Some directory)
      → IsValidFileSystem table (with_tree fs t tree)
  with_tree-valid files directories = record {
    trees = trees-valid;
    partitions = v.partitions;
    slots = v.slots;
    files = λ p id h e. file-carried p h (v.files p id h e) (files p id h e);
    directories = λ p id h e. directory-carried p h (v.directories p id h e) (λ names _ _. directories names);
    one_writer = v.one_writer;
  }

  -- where no file or directory is another, or elsewhere
  pub with_more-valid : ((names : List Name) (node : Node File) → standing_at (tree_in fs t) names ≡ Some node → standing_at tree names ≡ Some node)
      → IsValidFileSystem table (with_tree fs t tree)
  with_more-valid kept = with_tree-valid (λ p id h e names f _ _ stands. (f, kept names (file f) stands, λ _ fits. fits)) (λ names. kept names directory)

  module _ (names : List Name) (path : Option (List Name)) where
    -- a handle that was moved is none with write access
    abbrev AreUnwritten : Type 0
    AreUnwritten = (q id : ℕ) (h : OpenedFile) → handle_at (handles_in fs q).files id ≡ Some h → is_file_handle_to t names h ≡ true → h.mode ≢ ReadWrite

    moved-handle : (p : ℕ) (h : OpenedFile) → IsValidFileHandle table fs.trees p h → (is_file_handle_to t names h ≡ true → h.mode ≢ ReadWrite)
        → ((other : List Name) (f : File) → other ≢ names → standing_at (tree_in fs t) other ≡ Some (file f) → standing_at tree other ≡ Some (file f))
        → ((other : List Name) → path ≡ Some other → (f : File) × (standing_at tree other ≡ Some (file f)))
        → IsValidFileHandle table (slice_set fs.trees t tree) p (file_moved t names path h)
    moved-handle p h is unwritten kept there =
        let to : OpenedFile = record { tree = h.tree; path = path; mode = h.mode; position = h.position } in
        (elim (is_file_handle_to t names h) as (λ b. is_file_handle_to t names h ≡ b → IsValidFileHandle table (slice_set fs.trees t tree) p (if b then to else h)) [
          | true ↦ λ e. record {
            holder = is.holder;
            position = is.position;
            path = λ other named.
                let same = (leads h.tree h.path t names e).0 in
                let found = there other named in
                let whole : tree_at (slice_set fs.trees t tree) h.tree ≡ tree = ap (tree_at (slice_set fs.trees t tree)) same ∙ get_or-set_same fs.trees t tree [] (within-zip table.trees fs.trees t row v.trees at) in
                (found.0, ap (λ (x : Tree File). standing_at x other) whole ∙ found.1);
            writer = λ m. absurd (unwritten e m);
          }
          | false ↦ λ e. file-carried p h is (λ other f same named stands.
              (f, kept other f (λ alike. leads-not h.tree h.path t names e same (named ∙ ap Some alike)) stands, λ _ fits. fits))
        ]) refl

    unmoved : (h k : OpenedFile) → (is_file_handle_to t names h ≡ true → h.mode ≢ ReadWrite) → file_moved t names path h ≡ k → k.mode ≡ ReadWrite → h ≡ k
    unmoved h k unwritten same m =
        let to : OpenedFile = record { tree = h.tree; path = path; mode = h.mode; position = h.position } in
        (elim (is_file_handle_to t names h) as (λ b. is_file_handle_to t names h ≡ b → (if b then to else h) ≡ k → h ≡ k) [
          | true ↦ λ e s. absurd (unwritten e (ap (λ (x : OpenedFile). x.mode) s ∙ m))
          | false ↦ λ e s. s
        ]) refl same

    -- the handles to a file go where it went, or nowhere
    pub files_moved-valid : AreUnwritten
        → ((other : List Name) (f : File) → other ≢ names → standing_at (tree_in fs t) other ≡ Some (file f) → standing_at tree other ≡ Some (file f))
        → ((other : List Name) → path ≡ Some other → (f : File) × (standing_at tree other ≡ Some (file f)))
        → ((other : List Name) → standing_at (tree_in fs t) other ≡ Some directory → standing_at tree other ≡ Some directory)
        → IsValidFileSystem table (record { trees = slice_set fs.trees t tree; handles = map (with_files_moved t names path) fs.handles })
    files_moved-valid unwritten kept there directories = record {
      trees = trees-valid;
      partitions = length-map (with_files_moved t names path) fs.handles ∙ v.partitions;
      slots = all-slots fs.handles v.slots;
      files = λ q id k e. let m = before q id k e in
          let P : OpenedFile → Type 0 = λ x. IsValidFileHandle table (slice_set fs.trees t tree) q x in
          subst P m.2 (moved-handle q m.0 (v.files q id m.0 m.1) (unwritten q id m.0 m.1) kept there);
      directories = λ q id k e. directory-carried q k (v.directories q id k (sym (ap (λ (hs : Handles). handle_at hs.directories id) (index-map (with_files_moved t names path) fs.handles q no_handles refl)) ∙ e))
          (λ other _ _. directories other);
      one_writer = λ q a b h k e f hm km ht hp.
          let m = before q a h e in
          let n = before q b k f in
          let one = unmoved m.0 h (unwritten q a m.0 m.1) m.2 hm in
          let two = unmoved n.0 k (unwritten q b n.0 n.1) n.2 km in
          v.one_writer q a b h k (m.1 ∙ ap Some one) (n.1 ∙ ap Some two) hm km ht hp;
    }
      where
        all-slots : (handles : List Handles) → AllByRecursion HasAllSlots handles → AllByRecursion HasAllSlots (map (with_files_moved t names path) handles)
        all-slots [] h = tt
        all-slots (hs ∷ handles) h = (record { files = length-map (option_map (file_moved t names path)) hs.files ∙ h.0.files; directories = h.0.directories }, all-slots handles h.1)

        before : (q id : ℕ) (k : OpenedFile) → handle_at (slice_index_or (map (with_files_moved t names path) fs.handles) q no_handles).files id ≡ Some k
            → (h : OpenedFile) × (handle_at (handles_in fs q).files id ≡ Some h) × (file_moved t names path h ≡ k)
        before q id k e = handle-map (file_moved t names path) (handles_in fs q).files id k
            (sym (ap (λ (hs : Handles). handle_at hs.files id) (index-map (with_files_moved t names path) fs.handles q no_handles refl)) ∙ e)

  module _ (names : List Name) where
    gone-handle : (p : ℕ) (h : OpenedDirectory) → IsValidDirectoryHandle table fs.trees p h
        → ((other : List Name) → other ≢ names → standing_at (tree_in fs t) other ≡ Some directory → standing_at tree other ≡ Some directory)
        → IsValidDirectoryHandle table (slice_set fs.trees t tree) p (directory_gone t names h)
    gone-handle p h is kept =
        let to : OpenedDirectory = record { tree = h.tree; path = None; last = h.last } in
        (elim (is_directory_handle_to t names h) as (λ b. is_directory_handle_to t names h ≡ b → IsValidDirectoryHandle table (slice_set fs.trees t tree) p (if b then to else h)) [
          | true ↦ λ e. record { holder = is.holder; path = λ other named. absurd (let wrong : ◌≡◌ {A = Option (List Name)} None (Some other) = named in cc) }
          | false ↦ λ e. directory-carried p h is (λ other same named stands. kept other (λ alike. leads-not h.tree h.path t names e same (named ∙ ap Some alike)) stands)
        ]) refl

    -- the handles to a directory lead nowhere
    pub directories_gone-valid : ((other : List Name) (f : File) → standing_at (tree_in fs t) other ≡ Some (file f) → standing_at tree other ≡ Some (file f))
        → ((other : List Name) → other ≢ names → standing_at (tree_in fs t) other ≡ Some directory → standing_at tree other ≡ Some directory)
        → IsValidFileSystem table (record { trees = slice_set fs.trees t tree; handles = map (with_directories_gone t names) fs.handles })
    directories_gone-valid files kept = record {
      trees = trees-valid;
      partitions = length-map (with_directories_gone t names) fs.handles ∙ v.partitions;
      slots = all-slots fs.handles v.slots;
      files = λ q id k e. file-carried q k (v.files q id k (same_files q id ∙ e)) (λ other f _ _ stands. (f, files other f stands, λ _ fits. fits));
      directories = λ q id k e.
          let m = handle-map (directory_gone t names) (handles_in fs q).directories id k
          (sym (ap (λ (hs : Handles). handle_at hs.directories id) (index-map (with_directories_gone t names) fs.handles q no_handles refl)) ∙ e) in
          let P : OpenedDirectory → Type 0 = λ x. IsValidDirectoryHandle table (slice_set fs.trees t tree) q x in
          subst P m.2 (gone-handle q m.0 (v.directories q id m.0 m.1) kept);
      one_writer = λ q a b h k e f. v.one_writer q a b h k (same_files q a ∙ e) (same_files q b ∙ f);
    }
      where
        all-slots : (handles : List Handles) → AllByRecursion HasAllSlots handles → AllByRecursion HasAllSlots (map (with_directories_gone t names) handles)
        all-slots [] h = tt
        all-slots (hs ∷ handles) h = (record { files = h.0.files; directories = length-map (option_map (directory_gone t names)) hs.directories ∙ h.0.directories }, all-slots handles h.1)

        same_files : (q id : ℕ) → handle_at (handles_in fs q).files id ≡ handle_at (slice_index_or (map (with_directories_gone t names) fs.handles) q no_handles).files id
        same_files q id = sym (ap (λ (hs : Handles). handle_at hs.files id) (index-map (with_directories_gone t names) fs.handles q no_handles refl))
