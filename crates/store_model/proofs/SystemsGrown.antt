-- What stores and handles stand for after a change of a store that leaves its entries in use at their paths.
use Rattle.std.proofs.Common.{◌≡◌, ℕ, zero, suc, ◌<◌, List, [], ◌∷◌, refl, sym, ap, subst, ◌∙◌, Option, Some, None, inl, inr, length, get_or-set_same, get_or-set_other}
use Rattle.std.specs.Prelude.{slice_set, slice_index_or, option_and_then, map}
use Rattle.std.specs.List.{AllZip}
use Rattle.std.proofs.lemmas.Bool.{cases_eq}
use Rattle.apex_types.specs.declared.calls.OpenMode.{OpenMode}
use Rattle.apex_types.specs.declared.fields.DirHandle.{DirHandle}
use Rattle.apex_types.specs.declared.fields.FileHandle.{FileHandle}
use Rattle.apex_types.specs.declared.numbers.DirNode.{DirNode}
use Rattle.apex_types.specs.declared.numbers.FileNode.{FileNode}
use Rattle.apex_model.specs.Files.{File}
use Rattle.apex_model.specs.FileStep.{with_position}
use Rattle.apex_model.specs.FileSystem.{FileSystem, with_tree, with_file_handle}
use Rattle.apex_model.specs.Handles.{OpenedFile, handle_at}
use Rattle.apex_model.specs.Trees.{Name, Tree}
use Rattle.file_tree.specs.Entries.{TreeValue, slot, way_of}
use Rattle.file_tree.proofs.Ways.{not_some}
use Rattle.open_handles.specs.NodeHandles.{AllHandles, handles_of, none_open, with_file_slot}
use Rattle.open_handles.specs.Nodes as nodes
use Rattle.store_model.proofs.Handles.{each_place, slots-same}
use Rattle.store_model.proofs.Systems.{zip_set, opened-stands, moved-stands}
use Rattle.store_model.specs.Standing.{IsTree}
use Rattle.store_model.specs.Stores.{StoreValue}
use Rattle.store_model.specs.Systems.{no_store, store_at, file_path, directory_path, opened_file, opened_directory, opened_handles, HoldsFile, HoldsDirectory, Stands}

-- ---- lists in which one element is another one

module _ {A : Type 0} where
  -- each element is in relation to the one before, where that one is
  pub related_at : (R : A → A → Type 0) → ((x : A) → R x x) → (xs : List A) (k : ℕ) (x d : A) → R (slice_index_or xs k d) x → (j : ℕ) → R (slice_index_or xs j d) (slice_index_or (slice_set xs k x) j d)
  related_at R itself [] k x d r j = itself d
  related_at R itself (y ∷ xs) zero x d r zero = r
  related_at R itself (y ∷ xs) zero x d r (suc j) = itself (slice_index_or xs j d)
  related_at R itself (y ∷ xs) (suc k) x d r zero = itself y
  related_at R itself (y ∷ xs) (suc k) x d r (suc j) = related_at R itself xs k x d r j

  -- two functions map a list to the same, if they do so at each element
  pub maps-same : {B : Type 0} (f g : A → B) (xs : List A) (d : A) → ((k : ℕ) → f (slice_index_or xs k d) ≡ g (slice_index_or xs k d)) → map f xs ≡ map g xs
  maps-same f g [] d each = refl
  maps-same f g (x ∷ xs) d each = λ i. each 0 i ∷ maps-same f g xs d (λ k. each (suc k)) i

-- ---- entries stay in use, at their paths

pub record StaysAt (old new : TreeValue) : Type 0 where
  pub files : (f : ℕ) (path : List Name) → slot old.files f ≡ Some path → slot new.files f ≡ Some path
  pub directories : (d : ℕ) (path : List Name) → way_of old d ≡ Some path → way_of new d ≡ Some path

pub stays_itself : (v : TreeValue) → StaysAt v v
stays_itself v = record { files = λ f path e. e; directories = λ d path e. e }

pub stays-same : (old new : TreeValue) → new ≡ old → StaysAt old new
stays-same old new e = subst (StaysAt old) (sym e) (stays_itself old)

slots_stay : (old : List (Option (List Name))) (k : ℕ) (path : List Name) → slot old k ≡ None → (j : ℕ) (other : List Name) → slot old j ≡ Some other → slot (slice_set old k (Some path)) j ≡ Some other
slots_stay old k path free j other e = elim (cases_eq j k) [
  | inl same ↦ absurd (not_some (sym free ∙ ap (slot old) (sym same) ∙ e))
  | inr differ ↦ get_or-set_other old k j (Some path) None differ ∙ e
]

ways_stay : (old new : TreeValue) → ((d : ℕ) (path : List Name) → slot old.directories d ≡ Some path → slot new.directories d ≡ Some path) → (d : ℕ) (path : List Name) → way_of old d ≡ Some path → way_of new d ≡ Some path
ways_stay old new each zero path e = e
ways_stay old new each (suc d) path e = each d path e

-- with the same path at each entry
pub stays-paths : (old new : TreeValue) → new.files ≡ old.files → new.directories ≡ old.directories → StaysAt old new
stays-paths old new files directories = record {
  files = λ g path e. ap (λ (paths : List (Option (List Name))). slot paths g) files ∙ e;
  directories = ways_stay old new (λ d path e. ap (λ (paths : List (Option (List Name))). slot paths d) directories ∙ e);
}

-- an entry of a file that was not in use has a path now
pub stays-made_file : (old new : TreeValue) (f : ℕ) (names : List Name) → slot old.files f ≡ None → new.files ≡ slice_set old.files f (Some names) → new.directories ≡ old.directories → StaysAt old new
stays-made_file old new f names free files directories = record {
  files = λ g path e. ap (λ (paths : List (Option (List Name))). slot paths g) files ∙ slots_stay old.files f names free g path e;
  directories = ways_stay old new (λ d path e. ap (λ (paths : List (Option (List Name))). slot paths d) directories ∙ e);
}

-- and that of a directory
pub stays-made_directory : (old new : TreeValue) (d : ℕ) (names : List Name) → slot old.directories d ≡ None → new.directories ≡ slice_set old.directories d (Some names) → new.files ≡ old.files → StaysAt old new
stays-made_directory old new d names free directories files = record {
  files = λ g path e. ap (λ (paths : List (Option (List Name))). slot paths g) files ∙ e;
  directories = ways_stay old new (λ g path e. ap (λ (paths : List (Option (List Name))). slot paths g) directories ∙ slots_stay old.directories d names free g path e);
}

-- what is held at a path is held at it still
held-same : {N : Type 0} (old new : N → Option (List Name)) (o : Option N) → ((n : N) → o ≡ Some n → (names : List Name) × (old n ≡ Some names)) → ((n : N) (path : List Name) → old n ≡ Some path → new n ≡ Some path)
    → option_and_then old o ≡ option_and_then new o
held-same old new None holds stays = refl
held-same old new (Some n) holds stays = let held = holds n refl in held.1 ∙ sym (stays n held.0 held.1)

module _ (stores : List StoreValue) (handles : AllHandles) (fs : FileSystem) (s : Stands stores handles fs) where
  -- with other stores in which each entry stays at its path
  pub grown-stands : (grown : List StoreValue) (trees : List (Tree File)) → AllZip IsTree grown trees → ((t : ℕ) → StaysAt (store_at stores t).tree (store_at grown t).tree)
      → Stands grown handles (record { trees = trees; handles = fs.handles })
  grown-stands grown trees zip stays =
      let files_same : (h : FileHandle) → HoldsFile stores h → opened_file stores h ≡ opened_file grown h
      = λ h holds i. record { tree = h.tree; path = held-same (file_path stores h.tree) (file_path grown h.tree) h.file holds (λ g. (stays h.tree).files g.0) i; mode = h.mode; position = h.position } in
      let directories_same : (h : DirHandle) → HoldsDirectory stores h → opened_directory stores h ≡ opened_directory grown h
      = λ h holds i. record { tree = h.tree; path = held-same (directory_path stores h.tree) (directory_path grown h.tree) h.directory holds (λ g. (stays h.tree).directories g.0) i; last = h.last } in
      let here : (p : ℕ) → opened_handles stores (handles_of handles p) ≡ opened_handles grown (handles_of handles p)
      = λ p i. record {
        files = slots-same (opened_file stores) (opened_file grown) (handles_of handles p).files
            (each_place (λ (h : FileHandle). opened_file stores h ≡ opened_file grown h) (handles_of handles p).files (λ id h e. files_same h (s.files p id h e))) i;
        directories = slots-same (opened_directory stores) (opened_directory grown) (handles_of handles p).directories
            (each_place (λ (h : DirHandle). opened_directory stores h ≡ opened_directory grown h) (handles_of handles p).directories (λ id h e. directories_same h (s.directories p id h e))) i;
      } in
      record {
        trees = zip;
        opened = s.opened ∙ maps-same (opened_handles stores) (opened_handles grown) handles none_open here;
        files = λ p id h e g is. let held = s.files p id h e g is in (held.0, (stays h.tree).files g.0 held.0 held.1);
        directories = λ p id h e g is. let held = s.directories p id h e g is in (held.0, (stays h.tree).directories g.0 held.0 held.1);
      }

  module _ (t : ℕ) (v : StoreValue) (tree : Tree File) (stands_for : IsTree v tree) where
    -- with another store of a tree, in which each entry stays at its path
    pub store_grown-stands : StaysAt (store_at stores t).tree v.tree → Stands (slice_set stores t v) handles (with_tree fs t tree)
    store_grown-stands stays =
        grown-stands (slice_set stores t v) (slice_set fs.trees t tree) (zip_set IsTree stores fs.trees t v tree s.trees stands_for)
        (related_at (λ a b. StaysAt a.tree b.tree) (λ a. stays_itself a.tree) stores t v no_store stays)

    -- with the same names
    pub store_changed-stands : v.tree ≡ (store_at stores t).tree → Stands (slice_set stores t v) handles (with_tree fs t tree)
    store_changed-stands names = store_grown-stands (stays-same (store_at stores t).tree v.tree names)

    -- with the same path at each entry
    pub same_paths-stands : v.tree.files ≡ (store_at stores t).tree.files → v.tree.directories ≡ (store_at stores t).tree.directories → Stands (slice_set stores t v) handles (with_tree fs t tree)
    same_paths-stands files directories = store_grown-stands (stays-paths (store_at stores t).tree v.tree files directories)

    -- with one more file
    pub made-stands-system : (f : ℕ) (names : List Name) → slot (store_at stores t).tree.files f ≡ None → v.tree.files ≡ slice_set (store_at stores t).tree.files f (Some names)
        → v.tree.directories ≡ (store_at stores t).tree.directories → Stands (slice_set stores t v) handles (with_tree fs t tree)
    made-stands-system f names free files directories = store_grown-stands (stays-made_file (store_at stores t).tree v.tree f names free files directories)

    -- with one more directory
    pub made_directory-stands-system : (d : ℕ) (names : List Name) → slot (store_at stores t).tree.directories d ≡ None → v.tree.directories ≡ slice_set (store_at stores t).tree.directories d (Some names)
        → v.tree.files ≡ (store_at stores t).tree.files → Stands (slice_set stores t v) handles (with_tree fs t tree)
    made_directory-stands-system d names free directories files = store_grown-stands (stays-made_directory (store_at stores t).tree v.tree d names free directories files)

-- ---- handles after a store changed

-- a handle has the path that it had, where the names are the same
pub changed-opened : (stores : List StoreValue) (t : ℕ) (v : StoreValue) → v.tree ≡ (store_at stores t).tree → (h : FileHandle) → opened_file (slice_set stores t v) h ≡ opened_file stores h
changed-opened stores t v names h =
    let same : (u : ℕ) → (store_at (slice_set stores t v) u).tree ≡ (store_at stores u).tree = related_at (λ a b. b.tree ≡ a.tree) (λ a. refl) stores t v no_store names in
    λ i. record { tree = h.tree; path = option_and_then (λ (g : FileNode). slot (same h.tree i).files g.0) h.file; mode = h.mode; position = h.position }

-- the path of an entry in a store that was put in
pub file_path-put : (stores : List StoreValue) (t : ℕ) (v : StoreValue) (f : FileNode) → t < length stores → file_path (slice_set stores t v) t f ≡ slot v.tree.files f.0
file_path-put stores t v f low = ap (λ (w : StoreValue). slot w.tree.files f.0) (get_or-set_same stores t v no_store low)

pub directory_path-put : (stores : List StoreValue) (t : ℕ) (v : StoreValue) (d : DirNode) → t < length stores → directory_path (slice_set stores t v) t d ≡ way_of v.tree d.0
directory_path-put stores t v d low = ap (λ (w : StoreValue). way_of w.tree d.0) (get_or-set_same stores t v no_store low)

module _ (stores : List StoreValue) (handles : AllHandles) (fs : FileSystem) (s : Stands stores handles fs) (t : ℕ) (v : StoreValue) (tree : Tree File) (stands_for : IsTree v tree) where
  -- a file was changed through a handle, which was moved to a position
  pub written-stands : v.tree ≡ (store_at stores t).tree → (p id : ℕ) (h : FileHandle) (position : ℕ) → handle_at (handles_of handles p).files id ≡ Some h
      → Stands (slice_set stores t v) (with_file_slot handles p id (Some (record h { position = position }))) (with_position (with_tree fs t tree) p id (opened_file stores h) position)
  written-stands names p id h position e =
      let P : OpenedFile → Type 0
      = λ model. Stands (slice_set stores t v) (with_file_slot handles p id (Some (record h { position = position }))) (with_position (with_tree fs t tree) p id model position) in
      subst P (changed-opened stores t v names h)
      (moved-stands (slice_set stores t v) handles (with_tree fs t tree) (store_changed-stands stores handles fs s t v tree stands_for names) p id h position e)

  -- a file was made and opened
  pub made_and_opened-stands : (f : FileNode) (names : List Name) → slot (store_at stores t).tree.files f.0 ≡ None → v.tree.files ≡ slice_set (store_at stores t).tree.files f.0 (Some names)
      → v.tree.directories ≡ (store_at stores t).tree.directories → t < length stores → f.0 < length (store_at stores t).tree.files → (p id : ℕ) (mode : OpenMode)
      → Stands (slice_set stores t v) (with_file_slot handles p id (Some (nodes.opened_file t f mode)))
      (with_file_handle (with_tree fs t tree) p id (Some (record { tree = t; path = Some names; mode = mode; position = 0 })))
  made_and_opened-stands f names free files directories low room p id mode =
      opened-stands (slice_set stores t v) handles (with_tree fs t tree) (made-stands-system stores handles fs s t v tree stands_for f.0 names free files directories) p id t f mode names
      (file_path-put stores t v f low ∙ ap (λ (paths : List (Option (List Name))). slot paths f.0) files ∙ get_or-set_same (store_at stores t).tree.files f.0 (Some names) None room)
