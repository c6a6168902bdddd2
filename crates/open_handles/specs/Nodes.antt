-- What handles hold: entries of their trees, where the services' handles have paths.
use Rattle.std.specs.Prelude.{ℕ, Bool, false, ◌&&◌, ◌==◌, if◌then◌else◌, Option, Some, None}
use Rattle.apex_types.specs.declared.calls.OpenMode.{OpenMode}
use Rattle.apex_types.specs.declared.fields.DirHandle.{DirHandle}
use Rattle.apex_types.specs.declared.fields.FileHandle.{FileHandle}
use Rattle.apex_types.specs.declared.numbers.DirNode.{DirNode}
use Rattle.apex_types.specs.declared.numbers.FileNode.{FileNode}
use Rattle.apex_model.specs.Handles.{may_write}

-- a handle on a file that was opened just now
abbrev pub opened_file : ℕ → FileNode → OpenMode → FileHandle
opened_file tree file mode = record { tree = tree; file = Some file; mode = mode; position = 0 }

-- a handle on a directory of which no name was given yet
abbrev pub opened_directory : ℕ → DirNode → DirHandle
opened_directory tree directory = record { tree = tree; directory = Some directory; last = None }

-- whether a handle's file is this one; a stale handle has none
abbrev pub is_file : Option FileNode → FileNode → Bool
is_file None file = false
is_file (Some held) file = held.0 == file.0

-- whether a handle's directory is this one; a stale handle has none
abbrev pub is_directory : Option DirNode → DirNode → Bool
is_directory None directory = false
is_directory (Some held) directory = held.0 == directory.0

-- whether a handle holds this file of this tree
abbrev pub holds_file : ℕ → FileNode → FileHandle → Bool
holds_file tree file h = (h.tree == tree) && is_file h.file file

-- whether a handle holds this directory of this tree
abbrev pub holds_directory : ℕ → DirNode → DirHandle → Bool
holds_directory tree directory h = (h.tree == tree) && is_directory h.directory directory

-- whether a handle may write to this file of this tree
abbrev pub writes_file : ℕ → FileNode → FileHandle → Bool
writes_file tree file h = may_write h.mode && holds_file tree file h

-- a handle after this file was removed: stale, if it held the file
abbrev pub without_file : ℕ → FileNode → FileHandle → FileHandle
without_file tree file h =
    if holds_file tree file h then record { tree = h.tree; file = None; mode = h.mode; position = h.position } else h

-- a handle after this directory was removed: stale, if it held the directory
abbrev pub without_directory : ℕ → DirNode → DirHandle → DirHandle
without_directory tree directory h =
    if holds_directory tree directory h then record { tree = h.tree; directory = None; last = h.last } else h
