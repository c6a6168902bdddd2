-- What stores and handles stand for after an entry got another path, or none.
use Rattle.std.proofs.Common.{◌≡◌, ◌≢◌, ℕ, zero, suc, ◌<◌, ◌-◌, true, false, List, [], ◌∷◌, length, refl, sym, ap, subst, ◌∙◌, Option, Some, None, inl, inr, arith, get_or-set_same, get_or-set_other}
use Rattle.std.specs.Prelude.{◌==◌, ◌&&◌, slice_set, slice_index_or, option_map, option_and_then, map}
use Rattle.std.specs.List.{AllZip}
use Rattle.std.proofs.lemmas.Bool.{cases_eq}
use Rattle.std.proofs.lemmas.Bool.Decides.{nat_tests}
use Rattle.apex_types.specs.declared.fields.DirHandle.{DirHandle}
use Rattle.apex_types.specs.declared.fields.FileHandle.{FileHandle}
use Rattle.apex_types.specs.declared.numbers.DirNode.{DirNode}
use Rattle.apex_types.specs.declared.numbers.FileNode.{FileNode}
use Rattle.apex_model.specs.Files.{File}
use Rattle.apex_model.specs.FileSystem.{FileSystem}
use Rattle.apex_model.specs.Handles.{Handles, OpenedFile, OpenedDirectory, handle_at, file_moved, directory_gone, with_files_moved, with_directories_gone}
use Rattle.apex_model.specs.Trees.{Name, Tree}
use Rattle.file_tree.specs.Entries.{TreeValue, slot, way_of}
use Rattle.file_tree.proofs.Ways.{not_some}
use Rattle.open_handles.specs.NodeHandles.{AllHandles, handles_of, none_open, with_file_gone, with_directory_gone}
use Rattle.open_handles.specs.Nodes.{without_file, without_directory}
use Rattle.open_handles.specs.declared.handles.PartitionHandles.{PartitionHandles}
use Rattle.store_model.proofs.Handles.{IsFrom, each_place, open_from, slots-become}
use Rattle.store_model.proofs.HandlesHeld.{consistent_at}
use Rattle.store_model.proofs.HandlesMoved.{file-gone, file_held-gone, file-renamed, file_held-renamed, directory-gone, directory_held-gone}
use Rattle.store_model.proofs.Systems.{zip_set}
use Rattle.store_model.proofs.SystemsGrown.{related_at}
use Rattle.store_model.specs.Standing.{IsTree}
use Rattle.store_model.specs.Stores.{StoreValue}
use Rattle.store_model.specs.Systems.{no_store, store_at, file_path, directory_path, opened_file, opened_directory, opened_handles, HoldsFile, HoldsDirectory, Stands}

-- ---- all handles are changed

-- the same change on both sides, where it is the same at each element
maps-become : {A B : Type 0} (f g : A → B) (change : A → A) (of_model : B → B) (xs : List A) (d : A) → ((k : ℕ) → of_model (f (slice_index_or xs k d)) ≡ g (change (slice_index_or xs k d)))
    → map of_model (map f xs) ≡ map g (map change xs)
maps-become f g change of_model [] d each = refl
maps-become f g change of_model (x ∷ xs) d each = λ i. each 0 i ∷ maps-become f g change of_model xs d (λ k. each (suc k)) i

-- a change of the file handles of each partition, and one of the directory handles
files_by : (FileHandle → FileHandle) → PartitionHandles → PartitionHandles
files_by change hs = record { files = map (option_map change) hs.files; directories = hs.directories }

directories_by : (DirHandle → DirHandle) → PartitionHandles → PartitionHandles
directories_by change hs = record { files = hs.files; directories = map (option_map change) hs.directories }

handles_of-files : (change : FileHandle → FileHandle) (handles : AllHandles) (p : ℕ) → handles_of (map (files_by change) handles) p ≡ files_by change (handles_of handles p)
unfolding files_by
handles_of-files change [] p = refl
handles_of-files change (h ∷ handles) zero = refl
handles_of-files change (h ∷ handles) (suc p) = handles_of-files change handles p

handles_of-directories : (change : DirHandle → DirHandle) (handles : AllHandles) (p : ℕ) → handles_of (map (directories_by change) handles) p ≡ directories_by change (handles_of handles p)
unfolding directories_by
handles_of-directories change [] p = refl
handles_of-directories change (h ∷ handles) zero = refl
handles_of-directories change (h ∷ handles) (suc p) = handles_of-directories change handles p

unchanged_slots : {A : Type 0} (slots : List (Option A)) → map (option_map (λ a. a)) slots ≡ slots
unchanged_slots [] = refl
unchanged_slots (None ∷ slots) = ap (λ (rest : List (Option _)). None ∷ rest) (unchanged_slots slots)
unchanged_slots (Some a ∷ slots) = ap (λ (rest : List (Option _)). Some a ∷ rest) (unchanged_slots slots)

unchanged : (handles : AllHandles) → map (files_by (λ h. h)) handles ≡ handles
unfolding files_by
unchanged [] = refl
unchanged (h ∷ handles) = λ i. record { files = unchanged_slots h.files i; directories = h.directories } ∷ unchanged handles i

module _ (stores : List StoreValue) (handles : AllHandles) (fs : FileSystem) (s : Stands stores handles fs) (new : List StoreValue) (trees : List (Tree File)) (zip : AllZip IsTree new trees) where
  files_become : (change : FileHandle → FileHandle) (of_model : OpenedFile → OpenedFile)
      → ((h : FileHandle) → HoldsFile stores h → of_model (opened_file stores h) ≡ opened_file new (change h)) → ((h : FileHandle) → HoldsFile stores h → HoldsFile new (change h))
      → ((u : ℕ) (d : DirNode) → directory_path new u d ≡ directory_path stores u d)
      → Stands new (map (files_by change) handles) (record { trees = trees; handles = map (λ (hs : Handles). record { files = map (option_map of_model) hs.files; directories = hs.directories }) fs.handles })
  unfolding files_by
  files_become change of_model become holds ways =
      let moved : Handles → Handles = λ (hs : Handles). record { files = map (option_map of_model) hs.files; directories = hs.directories } in
      let here : (p : ℕ) → moved (opened_handles stores (handles_of handles p)) ≡ opened_handles new (files_by change (handles_of handles p))
      = λ p i. record {
        files = slots-become (opened_file stores) (opened_file new) change of_model (handles_of handles p).files
            (each_place (λ (h : FileHandle). of_model (opened_file stores h) ≡ opened_file new (change h)) (handles_of handles p).files (λ id h e. become h (s.files p id h e))) i;
        directories = map (option_map (λ (h : DirHandle). record { tree = h.tree; path = option_and_then (λ (d : DirNode). sym (ways h.tree d) i) h.directory; last = h.last })) (handles_of handles p).directories;
      } in
      record {
        trees = zip;
        opened = ap (map moved) s.opened ∙ maps-become (opened_handles stores) (opened_handles new) (files_by change) moved handles none_open here;
        files = λ p id h e.
            let from : IsFrom change (handles_of handles p).files id h
            = open_from change (handles_of handles p).files id h (ap (λ (hs : PartitionHandles). handle_at hs.files id) (sym (handles_of-files change handles p)) ∙ e) in
            subst (HoldsFile new) from.is (holds from.old (s.files p id from.old from.at));
        directories = λ p id h e g is.
            let held = s.directories p id h (ap (λ (hs : PartitionHandles). handle_at hs.directories id) (sym (handles_of-files change handles p)) ∙ e) g is in
            (held.0, ways h.tree g ∙ held.1);
      }

  directories_become : (change : DirHandle → DirHandle) (of_model : OpenedDirectory → OpenedDirectory)
      → ((h : DirHandle) → HoldsDirectory stores h → of_model (opened_directory stores h) ≡ opened_directory new (change h)) → ((h : DirHandle) → HoldsDirectory stores h → HoldsDirectory new (change h))
      → ((u : ℕ) (f : FileNode) → file_path new u f ≡ file_path stores u f)
      → Stands new (map (directories_by change) handles) (record { trees = trees; handles = map (λ (hs : Handles). record { files = hs.files; directories = map (option_map of_model) hs.directories }) fs.handles })
  unfolding directories_by
  directories_become change of_model become holds paths =
      let moved : Handles → Handles = λ (hs : Handles). record { files = hs.files; directories = map (option_map of_model) hs.directories } in
      let here : (p : ℕ) → moved (opened_handles stores (handles_of handles p)) ≡ opened_handles new (directories_by change (handles_of handles p))
      = λ p i. record {
        files = map (option_map (λ (h : FileHandle). record { tree = h.tree; path = option_and_then (λ (f : FileNode). sym (paths h.tree f) i) h.file; mode = h.mode; position = h.position })) (handles_of handles p).files;
        directories = slots-become (opened_directory stores) (opened_directory new) change of_model (handles_of handles p).directories
            (each_place (λ (h : DirHandle). of_model (opened_directory stores h) ≡ opened_directory new (change h)) (handles_of handles p).directories (λ id h e. become h (s.directories p id h e))) i;
      } in
      record {
        trees = zip;
        opened = ap (map moved) s.opened ∙ maps-become (opened_handles stores) (opened_handles new) (directories_by change) moved handles none_open here;
        files = λ p id h e g is.
            let held = s.files p id h (ap (λ (hs : PartitionHandles). handle_at hs.files id) (sym (handles_of-directories change handles p)) ∙ e) g is in
            (held.0, paths h.tree g ∙ held.1);
        directories = λ p id h e.
            let from : IsFrom change (handles_of handles p).directories id h
            = open_from change (handles_of handles p).directories id h (ap (λ (hs : PartitionHandles). handle_at hs.directories id) (sym (handles_of-directories change handles p)) ∙ e) in
            subst (HoldsDirectory new) from.is (holds from.old (s.directories p id from.old from.at));
      }

-- ---- an entry of one store is changed

-- a place that has something is within its list
slot-within : {A : Type 0} (xs : List (Option A)) (k : ℕ) (x : A) → slot xs k ≡ Some x → k < length xs
slot-within [] k x e = absurd (not_some e)
slot-within (o ∷ xs) zero x e = omega arith
slot-within (o ∷ xs) (suc k) x e = let low = slot-within xs k x e in omega arith

-- a tree in which an entry has a path is one of the trees
pub store-within : (stores : List StoreValue) (t : ℕ) (f : FileNode) (names : List Name) → file_path stores t f ≡ Some names → t < length stores
store-within [] t f names e = absurd (not_some e)
store-within (v ∷ stores) zero f names e = omega arith
store-within (v ∷ stores) (suc t) f names e = let low = store-within stores t f names e in omega arith

way_of-same : (old new : TreeValue) → new.directories ≡ old.directories → (d : ℕ) → way_of new d ≡ way_of old d
way_of-same old new e zero = refl
way_of-same old new e (suc d) = ap (λ (paths : List (Option (List Name))). slot paths d) e

way_of-other : (old new : TreeValue) (d g : ℕ) → d ≢ 0 → g ≢ d → new.directories ≡ slice_set old.directories (d - 1) None → way_of new g ≡ way_of old g
way_of-other old new d zero some differ e = refl
way_of-other old new d (suc g) some differ e =
    let other : g ≢ d - 1 = omega arith in
    ap (λ (paths : List (Option (List Name))). slot paths g) e ∙ get_or-set_other old.directories (d - 1) g None None other

-- two numbers that are not both the same
not_both : (a b c d : ℕ) → ((a == b) && (c == d)) ≡ false → a ≡ b → c ≢ d
not_both a b c d e same is =
    let first : (a == b) ≡ true = grind (arith, nat_tests) in
    let second : (c == d) ≡ true = grind (arith, nat_tests) in
    let both : ((a == b) && (c == d)) ≡ true = λ i. first i && second i in
    let w : true ≡ false = sym both ∙ e in cc

module _ (stores : List StoreValue) (t : ℕ) (v : StoreValue) where
  -- the paths of the other files, where one entry of a store has another path or none
  pub file_path-elsewhere : (f : FileNode) (o : Option (List Name)) → v.tree.files ≡ slice_set (store_at stores t).tree.files f.0 o
      → (u : ℕ) (g : FileNode) → ((u == t) && (g.0 == f.0)) ≡ false → file_path (slice_set stores t v) u g ≡ file_path stores u g
  file_path-elsewhere f o files u g e = elim (cases_eq u t) [
    | inl same ↦ related_at (λ a b. slot b.tree.files g.0 ≡ slot a.tree.files g.0) (λ a. refl) stores t v no_store
        (ap (λ (paths : List (Option (List Name))). slot paths g.0) files ∙ get_or-set_other (store_at stores t).tree.files f.0 g.0 o None (not_both u t g.0 f.0 e same)) u
    | inr differ ↦ ap (λ (w : StoreValue). slot w.tree.files g.0) (get_or-set_other stores t u v no_store differ)
  ]

  pub file_path-same : v.tree.files ≡ (store_at stores t).tree.files → (u : ℕ) (g : FileNode) → file_path (slice_set stores t v) u g ≡ file_path stores u g
  file_path-same files u g =
      related_at (λ a b. slot b.tree.files g.0 ≡ slot a.tree.files g.0) (λ a. refl) stores t v no_store (ap (λ (paths : List (Option (List Name))). slot paths g.0) files) u

  -- the paths of the other directories, where the entry of one is not in use any more
  pub directory_path-elsewhere : (d : DirNode) → d.0 ≢ 0 → v.tree.directories ≡ slice_set (store_at stores t).tree.directories (d.0 - 1) None
      → (u : ℕ) (g : DirNode) → ((u == t) && (g.0 == d.0)) ≡ false → directory_path (slice_set stores t v) u g ≡ directory_path stores u g
  directory_path-elsewhere d below directories u g e = elim (cases_eq u t) [
    | inl same ↦ related_at (λ a b. way_of b.tree g.0 ≡ way_of a.tree g.0) (λ a. refl) stores t v no_store
        (way_of-other (store_at stores t).tree v.tree d.0 g.0 below (not_both u t g.0 d.0 e same) directories) u
    | inr differ ↦ ap (λ (w : StoreValue). way_of w.tree g.0) (get_or-set_other stores t u v no_store differ)
  ]

  pub directory_path-same : v.tree.directories ≡ (store_at stores t).tree.directories → (u : ℕ) (g : DirNode) → directory_path (slice_set stores t v) u g ≡ directory_path stores u g
  directory_path-same directories u g =
      related_at (λ a b. way_of b.tree g.0 ≡ way_of a.tree g.0) (λ a. refl) stores t v no_store (way_of-same (store_at stores t).tree v.tree directories g.0) u

module _ (stores : List StoreValue) (handles : AllHandles) (fs : FileSystem) (s : Stands stores handles fs) (t : ℕ) (v : StoreValue) (tree : Tree File) (stands_for : IsTree v tree) where
  trees_set : AllZip IsTree (slice_set stores t v) (slice_set fs.trees t tree)
  trees_set = zip_set IsTree stores fs.trees t v tree s.trees stands_for

  -- a file was removed
  pub removed-stands-system : (f : FileNode) (names : List Name) → file_path stores t f ≡ Some names → v.tree.files ≡ slice_set (store_at stores t).tree.files f.0 None
      → v.tree.directories ≡ (store_at stores t).tree.directories
      → Stands (slice_set stores t v) (map (with_file_gone t f) handles) (record { trees = slice_set fs.trees t tree; handles = map (with_files_moved t names None) fs.handles })
  unfolding files_by
  removed-stands-system f names at files directories =
      let new = slice_set stores t v in
      let consistent = consistent_at stores fs.trees s.trees t in
      let elsewhere = file_path-elsewhere stores t v f None files in
      files_become stores handles fs s new (slice_set fs.trees t tree) trees_set (without_file t f) (file_moved t names None)
      (file-gone stores new t f names consistent at elsewhere) (file_held-gone stores new t f names consistent at elsewhere) (directory_path-same stores t v directories)

  -- a file stands at another path
  pub renamed-stands-system : (f : FileNode) (from to : List Name) → file_path stores t f ≡ Some from → v.tree.files ≡ slice_set (store_at stores t).tree.files f.0 (Some to)
      → v.tree.directories ≡ (store_at stores t).tree.directories
      → Stands (slice_set stores t v) handles (record { trees = slice_set fs.trees t tree; handles = map (with_files_moved t from (Some to)) fs.handles })
  renamed-stands-system f from to at files directories =
      let new = slice_set stores t v in
      let consistent = consistent_at stores fs.trees s.trees t in
      let elsewhere = file_path-elsewhere stores t v f (Some to) files in
      let room : f.0 < length (store_at stores t).tree.files = slot-within (store_at stores t).tree.files f.0 from at in
      let there : file_path new t f ≡ Some to
      = ap (λ (w : StoreValue). slot w.tree.files f.0) (get_or-set_same stores t v no_store (store-within stores t f from at))
      ∙ ap (λ (paths : List (Option (List Name))). slot paths f.0) files ∙ get_or-set_same (store_at stores t).tree.files f.0 (Some to) None room in
      let after : FileSystem = record { trees = slice_set fs.trees t tree; handles = map (with_files_moved t from (Some to)) fs.handles } in
      subst (λ (held : AllHandles). Stands new held after) (unchanged handles)
      (files_become stores handles fs s new (slice_set fs.trees t tree) trees_set (λ h. h) (file_moved t from (Some to))
      (file-renamed stores new t f from consistent at elsewhere to there) (file_held-renamed stores new t f from consistent at elsewhere to there) (directory_path-same stores t v directories))

  -- a directory was removed
  pub removed_directory-stands-system : (d : DirNode) (names : List Name) → d.0 ≢ 0 → directory_path stores t d ≡ Some names → v.tree.directories ≡ slice_set (store_at stores t).tree.directories (d.0 - 1) None
      → v.tree.files ≡ (store_at stores t).tree.files
      → Stands (slice_set stores t v) (map (with_directory_gone t d) handles) (record { trees = slice_set fs.trees t tree; handles = map (with_directories_gone t names) fs.handles })
  unfolding directories_by
  removed_directory-stands-system d names below at directories files =
      let new = slice_set stores t v in
      let consistent = consistent_at stores fs.trees s.trees t in
      let elsewhere = directory_path-elsewhere stores t v d below directories in
      directories_become stores handles fs s new (slice_set fs.trees t tree) trees_set (without_directory t d) (directory_gone t names)
      (directory-gone stores new t d names consistent at elsewhere) (directory_held-gone stores new t d names consistent at elsewhere) (file_path-same stores t v files)
