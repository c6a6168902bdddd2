-- The tree that the header and the entries of a slot's body spell. Which blocks a file has is not read here: a file's content is taken as so many zeros.
use Rattle.std.specs.Prelude.{◌≡◌, ℕ, Bool, true, false, List, length, take, replicate, nat_le, if◌then◌else◌, Option, Some, None, option_map}
use Rattle.std.specs.List.{range_with_len}
use Rattle.apex_types.specs.declared.fields.FileEntryField.{FileEntryField}
use Rattle.apex_types.specs.declared.fields.FileEntryField.TheVariants.{Unused, Used}
use Rattle.apex_model.specs.Fields.{header_of, entry_of_bytes}
use Rattle.apex_model.specs.Image as image
use Rattle.file_tree.specs.declared.kind.Kind.{Kind}
use Rattle.file_tree.specs.declared.kind.Kind.TheVariants.{File, Directory}
use Rattle.file_tree.specs.Entries.{TreeValue, no_entries}
use Rattle.file_tree.specs.Images.{names_of}

-- a file's entry has a size of at most 1,048,576
abbrev pub file_entry : FileEntryField → Option (Option image.Entry)
file_entry Unused = Some None
file_entry (Used name parent size changes) =
    if nat_le size 1048576 then Some (Some (record { name = name; parent = parent.0; stored = record { content = replicate size 0; changes = changes } })) else None

-- the entry of a kind that a field gives, if it gives one
abbrev pub entry_of : Kind → FileEntryField → Option (Option image.Entry)
entry_of File field = file_entry field
entry_of Directory field = image.directory_entry field

-- the entry that bytes spell in a body of a version, if they spell one
abbrev pub entry_by : Kind → Option FileEntryField → Option (Option image.Entry)
entry_by kind None = None
entry_by kind (Some field) = entry_of kind field

-- so many entries of a kind from a number on, if each is spelled
abbrev pub entries_in : Kind → ℕ → List ℕ → ℕ → ℕ → Option (List (Option image.Entry))
entries_in kind version body start count = image.all_answers (λ k. entry_by kind (entry_of_bytes version (image.entry_bytes body k))) (range_with_len start count)

-- the tree that entries stand for: none where a parent is not there, a path is too long or goes round, or two names in a directory are one
abbrev pub named_tree : image.Entries → Option TreeValue
named_tree entries = option_map (λ tree. names_of entries) (image.tree_of_entries entries)

-- the tree of so many files and directories in a body of a version
abbrev pub tree_of_lists : Option (List (Option image.Entry)) → Option (List (Option image.Entry)) → Option TreeValue
tree_of_lists None directories = None
tree_of_lists (Some files) None = None
tree_of_lists (Some files) (Some directories) = named_tree (record { files = files; directories = directories })

unfoldable pub tree_in_version : ℕ → ℕ → ℕ → List ℕ → Option TreeValue
tree_in_version version files directories body = tree_of_lists (entries_in File version body 0 files) (entries_in Directory version body files directories)

-- the tree of so many files and directories in a body, by its header's version
abbrev pub tree_by : Option (ℕ × ℕ) → ℕ → ℕ → List ℕ → Option TreeValue
tree_by None files directories body = None
tree_by (Some header) files directories body = tree_in_version header.1 files directories body

abbrev pub tree_in_body : ℕ → ℕ → List ℕ → Option TreeValue
tree_in_body files directories body = tree_by (header_of (take 64 body)) files directories body

-- a tree was read, or there is none and only the root is left
abbrev pub IsReadTree : Option TreeValue → TreeValue → TreeValue → Bool → Type 0
IsReadTree found old new true = found ≡ Some new
IsReadTree found old new false = (found ≡ None) × (new ≡ no_entries (length old.files) (length old.directories))
