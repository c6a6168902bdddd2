-- What stores and handles stand for after each operation of a store.
use Rattle.std.proofs.Common.{◌≡◌, ◌≢◌, ℕ, ◌+◌, ◌-◌, ◌<◌, List, length, ap, subst, Option, Some, None, arith}
use Rattle.std.specs.Prelude.{map, slice_set}
use Rattle.apex_types.specs.Rows.{Rows}
use Rattle.apex_types.specs.declared.calls.OpenMode.{OpenMode}
use Rattle.apex_types.specs.declared.fields.FileHandle.{FileHandle}
use Rattle.apex_types.specs.declared.numbers.DirNode.{DirNode}
use Rattle.apex_types.specs.declared.numbers.FileNode.{FileNode}
use Rattle.apex_model.specs.Files.{File, Content}
use Rattle.apex_model.specs.FileStep.{with_position}
use Rattle.apex_model.specs.FileSystem.{FileSystem, with_tree, with_file_handle}
use Rattle.apex_model.specs.Handles.{handle_at, free_from, with_files_moved, with_directories_gone}
use Rattle.apex_model.specs.Trees.{Name, Tree}
use Rattle.file_tree.specs.Entries.{slot, with_file, with_directory, without_directory, with_file_at}
use Rattle.file_tree.proofs.Ways.{free-some}
use Rattle.open_handles.specs.NodeHandles.{AllHandles, handles_of, with_file_slot, with_file_gone, with_directory_gone}
use Rattle.open_handles.specs.Nodes as nodes
use Rattle.store_model.proofs.Systems.{store-of_table, same_names-of_table, file_entry-of_table, directory_entry-of_table}
use Rattle.store_model.proofs.SystemsGrown.{same_paths-stands, made_directory-stands-system, written-stands, made_and_opened-stands}
use Rattle.store_model.proofs.SystemsMoved.{removed-stands-system, renamed-stands-system, removed_directory-stands-system}
use Rattle.store_model.specs.Standing.{IsTree}
use Rattle.store_model.specs.Stores.{StoreValue, with_names, changed_store, synchronised_store, removed_store}
use Rattle.store_model.specs.Systems.{store_at, file_path, directory_path, opened_file, Stands, IsOfTable}

-- an entry that is the first free one
pub record IsFree (paths : List (Option (List Name))) (k : ℕ) : Type 0 where
  pub within : k < length paths
  pub none : slot paths k ≡ None

pub free-at : (paths : List (Option (List Name))) (n k : ℕ) → free_from n paths ≡ Some k → IsFree paths (k - n)
free-at paths n k e =
    let found = free-some paths n k e in
    let number : k ≡ n + found.0 = found.1 in
    let same : found.0 ≡ k - n = omega arith in
    subst (IsFree paths) same (record { within = found.2; none = found.3 })

pub free_file-at : (paths : List (Option (List Name))) (k : ℕ) → free_from 0 paths ≡ Some k → IsFree paths k
free_file-at paths k e = let same : k - 0 ≡ k = omega arith in subst (IsFree paths) same (free-at paths 0 k e)

module _ (stores : List StoreValue) (handles : AllHandles) (fs : FileSystem) (s : Stands stores handles fs) (t : ℕ) (v : StoreValue) (tree : Tree File) (stands_for : IsTree v tree) where
  -- a file was changed through a handle, which was moved to a position
  pub changed_file-stands : (f : ℕ) (content : Content) → v ≡ changed_store (store_at stores t) f content → (p id : ℕ) (h : FileHandle) (position : ℕ) → handle_at (handles_of handles p).files id ≡ Some h
      → Stands (slice_set stores t v) (with_file_slot handles p id (Some (record h { position = position }))) (with_position (with_tree fs t tree) p id (opened_file stores h) position)
  changed_file-stands f content is p id h position e = written-stands stores handles fs s t v tree stands_for (ap (λ (w : StoreValue). w.tree) is) p id h position e

  -- a file was synchronised
  pub synchronised_file-stands : (f : ℕ) → v ≡ synchronised_store (store_at stores t) f → Stands (slice_set stores t v) handles (with_tree fs t tree)
  synchronised_file-stands f is = same_paths-stands stores handles fs s t v tree stands_for (ap (λ (w : StoreValue). w.tree.files) is) (ap (λ (w : StoreValue). w.tree.directories) is)

  -- a file was made and opened
  pub new_file-stands : (f : FileNode) (names : List Name) → free_from 0 (store_at stores t).tree.files ≡ Some f.0 → v ≡ with_names (store_at stores t) (with_file (store_at stores t).tree f.0 names)
      → t < length stores → (p id : ℕ) (mode : OpenMode)
      → Stands (slice_set stores t v) (with_file_slot handles p id (Some (nodes.opened_file t f mode)))
      (with_file_handle (with_tree fs t tree) p id (Some (record { tree = t; path = Some names; mode = mode; position = 0 })))
  new_file-stands f names free is low p id mode =
      let first = free_file-at (store_at stores t).tree.files f.0 free in
      made_and_opened-stands stores handles fs s t v tree stands_for f names first.none (ap (λ (w : StoreValue). w.tree.files) is) (ap (λ (w : StoreValue). w.tree.directories) is) low first.within p id mode

  -- a directory was made
  pub new_directory-stands : (d : DirNode) (names : List Name) → free_from 1 (store_at stores t).tree.directories ≡ Some d.0
      → v ≡ with_names (store_at stores t) (with_directory (store_at stores t).tree (d.0 - 1) names) → Stands (slice_set stores t v) handles (with_tree fs t tree)
  new_directory-stands d names free is =
      made_directory-stands-system stores handles fs s t v tree stands_for (d.0 - 1) names (free-at (store_at stores t).tree.directories 1 d.0 free).none
      (ap (λ (w : StoreValue). w.tree.directories) is) (ap (λ (w : StoreValue). w.tree.files) is)

  -- a file was removed
  pub gone_file-stands : (f : FileNode) (names : List Name) → file_path stores t f ≡ Some names → v ≡ removed_store (store_at stores t) f.0 names
      → Stands (slice_set stores t v) (map (with_file_gone t f) handles) (record { trees = slice_set fs.trees t tree; handles = map (with_files_moved t names None) fs.handles })
  gone_file-stands f names at is =
      removed-stands-system stores handles fs s t v tree stands_for f names at (ap (λ (w : StoreValue). w.tree.files) is) (ap (λ (w : StoreValue). w.tree.directories) is)

  -- a file stands at another path
  pub renamed_file-stands : (f : FileNode) (from to : List Name) → file_path stores t f ≡ Some from → v ≡ with_names (store_at stores t) (with_file_at (store_at stores t).tree f.0 from to)
      → Stands (slice_set stores t v) handles (record { trees = slice_set fs.trees t tree; handles = map (with_files_moved t from (Some to)) fs.handles })
  renamed_file-stands f from to at is =
      renamed-stands-system stores handles fs s t v tree stands_for f from to at (ap (λ (w : StoreValue). w.tree.files) is) (ap (λ (w : StoreValue). w.tree.directories) is)

  -- a directory was removed
  pub gone_directory-stands : (d : DirNode) (names : List Name) → d.0 ≢ 0 → directory_path stores t d ≡ Some names → v ≡ with_names (store_at stores t) (without_directory (store_at stores t).tree (d.0 - 1) names)
      → Stands (slice_set stores t v) (map (with_directory_gone t d) handles) (record { trees = slice_set fs.trees t tree; handles = map (with_directories_gone t names) fs.handles })
  gone_directory-stands d names below at is =
      removed_directory-stands-system stores handles fs s t v tree stands_for d names below at (ap (λ (w : StoreValue). w.tree.directories) is) (ap (λ (w : StoreValue). w.tree.files) is)

-- ---- the stores are still those of the table

module _ (table : Rows) (stores : List StoreValue) (handles : AllHandles) (o : IsOfTable table stores handles) (t : ℕ) (v : StoreValue) where
  pub changed_file-of_table : (f : ℕ) (content : Content) → v ≡ changed_store (store_at stores t) f content → IsOfTable table (slice_set stores t v) handles
  changed_file-of_table f content is = same_names-of_table table stores handles o t v (ap (λ (w : StoreValue). w.quota) is) (ap (λ (w : StoreValue). w.tree) is)

  pub synchronised_file-of_table : (f : ℕ) → v ≡ synchronised_store (store_at stores t) f → IsOfTable table (slice_set stores t v) handles
  synchronised_file-of_table f is = store-of_table table stores handles o t v (ap (λ (w : StoreValue). w.quota) is) (ap (λ (w : StoreValue). length w.tree.files) is) (ap (λ (w : StoreValue). length w.tree.directories) is)

  pub new_file-of_table : (f : ℕ) (names : List Name) → v ≡ with_names (store_at stores t) (with_file (store_at stores t).tree f names) → IsOfTable table (slice_set stores t v) handles
  new_file-of_table f names is =
      file_entry-of_table table stores handles o t v f (Some names) (ap (λ (w : StoreValue). w.quota) is) (ap (λ (w : StoreValue). w.tree.files) is) (ap (λ (w : StoreValue). w.tree.directories) is)

  pub new_directory-of_table : (d : ℕ) (names : List Name) → v ≡ with_names (store_at stores t) (with_directory (store_at stores t).tree d names) → IsOfTable table (slice_set stores t v) handles
  new_directory-of_table d names is =
      directory_entry-of_table table stores handles o t v d (Some names) (ap (λ (w : StoreValue). w.quota) is) (ap (λ (w : StoreValue). w.tree.directories) is) (ap (λ (w : StoreValue). w.tree.files) is)

  pub gone_file-of_table : (f : ℕ) (names : List Name) → v ≡ removed_store (store_at stores t) f names → IsOfTable table (slice_set stores t v) handles
  gone_file-of_table f names is =
      file_entry-of_table table stores handles o t v f None (ap (λ (w : StoreValue). w.quota) is) (ap (λ (w : StoreValue). w.tree.files) is) (ap (λ (w : StoreValue). w.tree.directories) is)

  pub renamed_file-of_table : (f : ℕ) (from to : List Name) → v ≡ with_names (store_at stores t) (with_file_at (store_at stores t).tree f from to) → IsOfTable table (slice_set stores t v) handles
  renamed_file-of_table f from to is =
      file_entry-of_table table stores handles o t v f (Some to) (ap (λ (w : StoreValue). w.quota) is) (ap (λ (w : StoreValue). w.tree.files) is) (ap (λ (w : StoreValue). w.tree.directories) is)

  pub gone_directory-of_table : (d : ℕ) (names : List Name) → v ≡ with_names (store_at stores t) (without_directory (store_at stores t).tree d names) → IsOfTable table (slice_set stores t v) handles
  gone_directory-of_table d names is =
      directory_entry-of_table table stores handles o t v d None (ap (λ (w : StoreValue). w.quota) is) (ap (λ (w : StoreValue). w.tree.directories) is) (ap (λ (w : StoreValue). w.tree.files) is)
