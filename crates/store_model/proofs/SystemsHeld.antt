-- What a handle that is open leads to.
use Rattle.std.proofs.Common.{◌≡◌, ℕ, zero, suc, ◌<◌, Bool, true, false, List, [], ◌∷◌, length, sym, ap, subst, ◌∙◌, Some, None, IsTrue, arith}
use Rattle.std.specs.Prelude.{option_and_then, slice_get}
use Rattle.std.specs.Option.{option_map_or}
use Rattle.apex_types.specs.Rows.{Rows}
use Rattle.apex_types.specs.declared.fields.DirHandle.{DirHandle}
use Rattle.apex_types.specs.declared.fields.FileHandle.{FileHandle}
use Rattle.apex_types.specs.declared.numbers.DirNode.{DirNode}
use Rattle.apex_types.specs.declared.numbers.FileNode.{FileNode}
use Rattle.apex_model.specs.FileSystem.{FileSystem}
use Rattle.apex_model.specs.Handles.{handle_at}
use Rattle.apex_model.specs.Tables.{owner_or_reader, has_right}
use Rattle.apex_model.specs.Trees.{Name}
use Rattle.apex_model.specs.Validity.{IsValidFileSystem}
use Rattle.open_handles.specs.NodeHandles.{AllHandles, handles_of}
use Rattle.store_model.proofs.Systems.{handle-there, directory_handle-there, stores-long}
use Rattle.store_model.proofs.SystemsMoved.{store-within}
use Rattle.store_model.specs.Stores.{StoreValue}
use Rattle.store_model.specs.Systems.{file_path, directory_path, opened_file, opened_directory, Stands, IsOfTable}

-- the file that a handle holds
pub record HeldFile (stores : List StoreValue) (h : FileHandle) (f : FileNode) : Type 0 where
  pub names : List Name
  pub path : file_path stores h.tree f ≡ Some names
  pub opened : (opened_file stores h).path ≡ Some names
  pub within : h.tree < length stores

-- the directory that a handle holds
pub record HeldDirectory (stores : List StoreValue) (h : DirHandle) (d : DirNode) : Type 0 where
  pub names : List Name
  pub path : directory_path stores h.tree d ≡ Some names
  pub opened : (opened_directory stores h).path ≡ Some names

-- a stale handle has no path
pub stale-file : (stores : List StoreValue) (h : FileHandle) → h.file ≡ None → (opened_file stores h).path ≡ None
stale-file stores h e = ap (option_and_then (file_path stores h.tree)) e

pub stale-directory : (stores : List StoreValue) (h : DirHandle) → h.directory ≡ None → (opened_directory stores h).path ≡ None
stale-directory stores h e = ap (option_and_then (directory_path stores h.tree)) e

row_within : {R : Type 0} (test : R → Bool) (rows : List R) (k : ℕ) → IsTrue (option_map_or test (slice_get rows k) false) → k < length rows
row_within test [] k t = absurd (let w : false ≡ true = t in cc)
row_within test (row ∷ rows) zero t = omega arith
row_within test (row ∷ rows) (suc k) t = let low = row_within test rows k t in omega arith

module _ (stores : List StoreValue) (handles : AllHandles) (fs : FileSystem) (s : Stands stores handles fs) where
  pub held-file : (p id : ℕ) (h : FileHandle) (f : FileNode) → handle_at (handles_of handles p).files id ≡ Some h → h.file ≡ Some f → HeldFile stores h f
  held-file p id h f e is =
      let held = s.files p id h e f is in
      record { names = held.0; path = held.1; opened = ap (option_and_then (file_path stores h.tree)) is ∙ held.1; within = store-within stores h.tree f held.0 held.1 }

  pub held-directory : (p id : ℕ) (h : DirHandle) (d : DirNode) → handle_at (handles_of handles p).directories id ≡ Some h → h.directory ≡ Some d → HeldDirectory stores h d
  held-directory p id h d e is =
      let held = s.directories p id h e d is in
      record { names = held.0; path = held.1; opened = ap (option_and_then (directory_path stores h.tree)) is ∙ held.1 }

  module _ (table : Rows) (o : IsOfTable table stores handles) (valid : IsValidFileSystem table fs) where
    -- the tree of a handle has a store, whether or not the handle is stale
    pub file_tree-within : (p id : ℕ) (h : FileHandle) → handle_at (handles_of handles p).files id ≡ Some h → h.tree < length stores
    file_tree-within p id h e =
        let low : h.tree < length table.trees = row_within (has_right owner_or_reader p) table.trees h.tree (valid.files p id (opened_file stores h) (handle-there stores handles fs s p id h e)).holder in
        subst (λ n. h.tree < n) (sym (stores-long table stores handles o)) low

    pub directory_tree-within : (p id : ℕ) (h : DirHandle) → handle_at (handles_of handles p).directories id ≡ Some h → h.tree < length stores
    directory_tree-within p id h e =
        let low : h.tree < length table.trees
        = row_within (has_right owner_or_reader p) table.trees h.tree (valid.directories p id (opened_directory stores h) (directory_handle-there stores handles fs s p id h e)).holder in
        subst (λ n. h.tree < n) (sym (stores-long table stores handles o)) low
