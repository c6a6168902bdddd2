-- When stores and handles stand for the file system that the services work on: where it has paths, they have entries.
use Rattle.std.specs.Prelude.{◌≡◌, ℕ, List, [], length, map, Option, Some, option_map, option_and_then, slice_index_or}
use Rattle.std.specs.List.{AllZip}
use Rattle.apex_types.specs.Rows.{Rows}
use Rattle.apex_types.specs.declared.fields.DirHandle.{DirHandle}
use Rattle.apex_types.specs.declared.fields.FileHandle.{FileHandle}
use Rattle.apex_types.specs.declared.numbers.DirNode.{DirNode}
use Rattle.apex_types.specs.declared.numbers.FileNode.{FileNode}
use Rattle.apex_types.specs.declared.rows.TreeRow.{TreeRow}
use Rattle.apex_model.specs.FileSystem.{FileSystem}
use Rattle.apex_model.specs.Handles.{Handles, OpenedFile, OpenedDirectory, handle_at}
use Rattle.apex_model.specs.Trees.{Name}
use Rattle.apex_model.specs.Validity.{IsValidFileSystem}
use Rattle.file_tree.specs.Entries.{slot, way_of, no_entries}
use Rattle.open_handles.specs.NodeHandles.{AllHandles, handles_of}
use Rattle.open_handles.specs.declared.handles.PartitionHandles.{PartitionHandles}
use Rattle.store_model.specs.Standing.{IsTree}
use Rattle.store_model.specs.Stores.{StoreValue}

-- a store for no file and no directory
abbrev pub no_store : StoreValue
no_store = record { tree = no_entries 0 0; files = []; charges = []; quota = 0 }

-- the store of a tree, by its number in the table
abbrev pub store_at : List StoreValue → ℕ → StoreValue
store_at stores tree = slice_index_or stores tree no_store

-- the path of a file's entry, and that of a directory's, in a tree; an unused entry has none
abbrev pub file_path : List StoreValue → ℕ → FileNode → Option (List Name)
file_path stores tree file = slot (store_at stores tree).tree.files file.0

abbrev pub directory_path : List StoreValue → ℕ → DirNode → Option (List Name)
directory_path stores tree directory = way_of (store_at stores tree).tree directory.0

-- a handle by the path of its entry
abbrev pub opened_file : List StoreValue → FileHandle → OpenedFile
opened_file stores h = record { tree = h.tree; path = option_and_then (file_path stores h.tree) h.file; mode = h.mode; position = h.position }

abbrev pub opened_directory : List StoreValue → DirHandle → OpenedDirectory
opened_directory stores h = record { tree = h.tree; path = option_and_then (directory_path stores h.tree) h.directory; last = h.last }

abbrev pub opened_handles : List StoreValue → PartitionHandles → Handles
opened_handles stores handles = record {
  files = map (option_map (opened_file stores)) handles.files;
  directories = map (option_map (opened_directory stores)) handles.directories;
}

-- a handle that isn't stale has an entry in use
abbrev pub HoldsFile : List StoreValue → FileHandle → Type 0
HoldsFile stores h = (file : FileNode) → h.file ≡ Some file → (names : List Name) × (file_path stores h.tree file ≡ Some names)

abbrev pub HoldsDirectory : List StoreValue → DirHandle → Type 0
HoldsDirectory stores h = (directory : DirNode) → h.directory ≡ Some directory → (names : List Name) × (directory_path stores h.tree directory ≡ Some names)

-- stores and handles stand for a file system
pub record Stands (stores : List StoreValue) (handles : AllHandles) (fs : FileSystem) : Type 0 where
  pub trees : AllZip IsTree stores fs.trees
  pub opened : fs.handles ≡ map (opened_handles stores) handles
  pub files : (p id : ℕ) (h : FileHandle) → handle_at (handles_of handles p).files id ≡ Some h → HoldsFile stores h
  pub directories : (p id : ℕ) (h : DirHandle) → handle_at (handles_of handles p).directories id ≡ Some h → HoldsDirectory stores h

-- a store has the limits that the table gives its tree
pub record HasLimits (row : TreeRow) (v : StoreValue) : Type 0 where
  pub quota : v.quota ≡ row.quota
  pub files : length v.tree.files ≡ row.files
  pub directories : length v.tree.directories ≡ row.directories

-- stores and handles are those of a table
pub record IsOfTable (table : Rows) (stores : List StoreValue) (handles : AllHandles) : Type 0 where
  pub limits : AllZip HasLimits table.trees stores
  pub partitions : length handles ≡ length table.partitions

-- they stand for a valid file system of the table
abbrev pub IsServing : Rows → List StoreValue → AllHandles → Type 0
IsServing table stores handles = (fs : FileSystem) × Stands stores handles fs × IsValidFileSystem table fs
