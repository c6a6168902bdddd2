-- The files and directories that open handles hold.
use Rattle.std.proofs.Common.{◌≡◌, ℕ, ◌<◌, ◌≤◌, List, length, sym, ap, subst, ◌∙◌, Some}
use Rattle.apex_types.specs.Rows.{Rows}
use Rattle.apex_types.specs.declared.calls.OpenMode.TheVariants.{ReadWrite}
use Rattle.apex_types.specs.declared.fields.DirHandle.{DirHandle}
use Rattle.apex_types.specs.declared.fields.FileHandle.{FileHandle}
use Rattle.apex_types.specs.declared.numbers.DirNode.{DirNode}
use Rattle.apex_types.specs.declared.numbers.FileNode.{FileNode}
use Rattle.apex_model.specs.Files.{File}
use Rattle.apex_model.specs.FileSystem.{FileSystem, tree_in, on_file}
use Rattle.apex_model.specs.Handles.{handle_at}
use Rattle.apex_model.specs.Outcomes.{Outcome}
use Rattle.apex_model.specs.Trees.{Name, directory, file, standing_at}
use Rattle.apex_model.specs.Validity.{IsValidFileSystem}
use Rattle.open_handles.specs.NodeHandles.{AllHandles, handles_of}
use Rattle.store_model.proofs.Names.{file-found, file-kept, directory-found}
use Rattle.store_model.proofs.Systems.{handle-there, store-there}
use Rattle.store_model.proofs.SystemsHeld.{held-file, held-directory}
use Rattle.store_model.proofs.SystemsWords.{on_file-there}
use Rattle.store_model.specs.Standing.{IsFile}
use Rattle.store_model.specs.Stores.{StoreValue, kept_at, charge_at}
use Rattle.store_model.specs.Systems.{store_at, file_path, directory_path, opened_file, opened_directory, Stands}

-- a file that an open handle holds, as it is kept and as it stands in the tree
pub record IsOpenFile (stores : List StoreValue) (fs : FileSystem) (h : FileHandle) (f : FileNode) : Type 0 where
  pub names : List Name
  pub found : File
  pub path : file_path stores h.tree f ≡ Some names
  pub opened : (opened_file stores h).path ≡ Some names
  pub within : h.tree < length stores
  pub stands : standing_at (tree_in fs h.tree) names ≡ Some (file found)
  pub kept : IsFile (kept_at (store_at stores h.tree) f.0) (charge_at (store_at stores h.tree) f.0) found

-- a directory that an open handle holds
pub record IsOpenDirectory (stores : List StoreValue) (fs : FileSystem) (h : DirHandle) (d : DirNode) : Type 0 where
  pub names : List Name
  pub path : directory_path stores h.tree d ≡ Some names
  pub opened : (opened_directory stores h).path ≡ Some names
  pub stands : standing_at (tree_in fs h.tree) names ≡ Some directory

module _ (stores : List StoreValue) (handles : AllHandles) (fs : FileSystem) (s : Stands stores handles fs) where
  pub open-file : (p id : ℕ) (h : FileHandle) (f : FileNode) → handle_at (handles_of handles p).files id ≡ Some h → h.file ≡ Some f → IsOpenFile stores fs h f
  open-file p id h f e is =
      let held = held-file stores handles fs s p id h f e is in
      let got = file-found (store_at stores h.tree) (tree_in fs h.tree) (store-there stores handles fs s h.tree held.within) f.0 held.names held.path in
      record { names = held.names; found = got.0; path = held.path; opened = held.opened; within = held.within; stands = got.1; kept = got.2 }

  pub open-directory : (p id : ℕ) (h : DirHandle) (d : DirNode) → handle_at (handles_of handles p).directories id ≡ Some h → h.directory ≡ Some d → h.tree < length stores → IsOpenDirectory stores fs h d
  open-directory p id h d e is within =
      let held = held-directory stores handles fs s p id h d e is in
      record {
        names = held.names;
        path = held.path;
        opened = held.opened;
        stands = directory-found (store_at stores h.tree) (tree_in fs h.tree) (store-there stores handles fs s h.tree within) d.0 held.names held.path;
      }

  -- what a service does with the file of a handle
  pub on_file-open : {S : Type 0} (h : FileHandle) (f : FileNode) (rest : List Name → File → Outcome S) (o : IsOpenFile stores fs h f) → on_file fs (opened_file stores h) rest ≡ rest o.names o.found
  on_file-open h f rest o = on_file-there stores handles fs s h o.names o.found rest o.opened o.stands

  module _ (table : Rows) (valid : IsValidFileSystem table fs) where
    -- the position of a handle that may write is within its file
    pub position-within : (p id : ℕ) (h : FileHandle) (f : FileNode) → handle_at (handles_of handles p).files id ≡ Some h → h.file ≡ Some f → h.mode ≡ ReadWrite
        → h.position ≤ length (kept_at (store_at stores h.tree) f.0).content
    position-within p id h f e is writes =
        let held = held-file stores handles fs s p id h f e is in
        let writer = (valid.files p id (opened_file stores h) (handle-there stores handles fs s p id h e)).writer writes in
        let named : Some writer.names ≡ Some held.names = sym writer.path ∙ held.opened in
        let same : writer.names ≡ held.names = cc in
        let stands : standing_at (tree_in fs h.tree) held.names ≡ Some (file writer.held) = ap (standing_at (tree_in fs h.tree)) (sym same) ∙ writer.stands in
        let kept = file-kept (store_at stores h.tree) (tree_in fs h.tree) (store-there stores handles fs s h.tree held.within) f.0 held.names writer.held held.path stands in
        subst (λ content. h.position ≤ length content) (sym kept.content) writer.position

    -- and that of any handle within the largest file
    pub position-few : (p id : ℕ) (h : FileHandle) → handle_at (handles_of handles p).files id ≡ Some h → h.position ≤ 1048576
    position-few p id h e = (valid.files p id (opened_file stores h) (handle-there stores handles fs s p id h e)).position
