-- The handles of partitions, with entries of their trees where the services' handles have paths.
use Rattle.std.specs.Prelude.{ℕ, List, map, Option, None, slice_set, slice_index_or, option_map, replicate}
use Rattle.apex_types.specs.declared.fields.DirHandle.{DirHandle}
use Rattle.apex_types.specs.declared.fields.FileHandle.{FileHandle}
use Rattle.apex_types.specs.declared.numbers.DirNode.{DirNode}
use Rattle.apex_types.specs.declared.numbers.FileNode.{FileNode}
use Rattle.apex_model.specs.Handles.{with_slot}
use Rattle.open_handles.specs.Nodes.{without_file, without_directory}
use Rattle.open_handles.specs.declared.handles.PartitionHandles.{PartitionHandles}

-- the handles of each partition, in the order of the partitions
abbrev pub AllHandles : Type 0
AllHandles = List PartitionHandles

-- the handles of a partition that has none open
abbrev pub none_open : PartitionHandles
none_open = record { files = replicate 24 None; directories = replicate 8 None }

-- the handles of a partition
abbrev pub handles_of : AllHandles → ℕ → PartitionHandles
handles_of all p = slice_index_or all p none_open

-- with another file handle, or none, at a number of a partition
abbrev pub with_file_slot : AllHandles → ℕ → ℕ → Option FileHandle → AllHandles
with_file_slot all p id handle =
    slice_set all p (record { files = with_slot (handles_of all p).files id handle; directories = (handles_of all p).directories })

-- with another directory handle, or none, at a number of a partition
abbrev pub with_directory_slot : AllHandles → ℕ → ℕ → Option DirHandle → AllHandles
with_directory_slot all p id handle =
    slice_set all p (record { files = (handles_of all p).files; directories = with_slot (handles_of all p).directories id handle })

-- a partition's handles after this file was removed
abbrev pub with_file_gone : ℕ → FileNode → PartitionHandles → PartitionHandles
with_file_gone tree file handles =
    record { files = map (option_map (without_file tree file)) handles.files; directories = handles.directories }

-- a partition's handles after this directory was removed
abbrev pub with_directory_gone : ℕ → DirNode → PartitionHandles → PartitionHandles
with_directory_gone tree directory handles =
    record { files = handles.files; directories = map (option_map (without_directory tree directory)) handles.directories }
