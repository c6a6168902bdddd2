-- What a record of a journal changes in a tree, and when it applies.
use Rattle.std.specs.Prelude.{◌≡◌, ℕ, Bool, true, false, ◌==◌, List, [], ◌∷◌, length, nat_le, if◌then◌else◌, Option, Some, None, option_map, is_some, is_none, slice_get}
use Rattle.apex_types.specs.declared.fields.RecordField.{RecordField}
use Rattle.apex_model.specs.Trees.{Name, standing_at, entries_within}
use Rattle.file_tree.specs.Entries.{TreeValue, slot, way_of, path_in, with_file, with_directory, without_file, without_directory, with_file_at}

-- whether there is an entry of this number that is not used
abbrev pub is_unused : {A : Type 0} → List (Option A) → ℕ → Bool
is_unused entries k = elim (slice_get entries k) [ None ↦ false | Some place ↦ is_none place ]

-- whether a directory in use takes this name: its path has at most 6 names, and nothing stands there
abbrev pub takes : TreeValue → ℕ → Name → Bool
takes v parent name =
    if is_some (way_of v parent) then (if nat_le (length (path_in v parent name)) 6 then is_none (standing_at v.nodes (path_in v parent name)) else false) else false

-- whether a list has nothing
abbrev pub has_none : {A : Type 0} → List A → Bool
has_none [] = true
has_none (x ∷ xs) = false

-- a new file at an unused entry
abbrev pub new_file : TreeValue → ℕ → ℕ → Option Name → Option TreeValue
new_file v f parent None = None
new_file v f parent (Some name) = if is_unused v.files f then (if takes v parent name then Some (with_file v f (path_in v parent name)) else None) else None

-- a new directory at an unused entry
abbrev pub new_directory : TreeValue → ℕ → ℕ → Option Name → Option TreeValue
new_directory v d parent None = None
new_directory v d parent (Some name) = if is_unused v.directories d then (if takes v parent name then Some (with_directory v d (path_in v parent name)) else None) else None

-- no file at an entry in use
abbrev pub gone_file : TreeValue → ℕ → Option TreeValue
gone_file v f = option_map (without_file v f) (slot v.files f)

-- no directory at an entry, which has this path, where nothing stands in it
abbrev pub gone_directory_at : TreeValue → ℕ → Option (List Name) → Option TreeValue
gone_directory_at v d None = None
gone_directory_at v d (Some path) = if has_none (entries_within v.nodes path) then Some (without_directory v d path) else None

-- no directory at an entry in use
abbrev pub gone_directory : TreeValue → ℕ → Option TreeValue
gone_directory v d = gone_directory_at v d (slot v.directories d)

-- the file of an entry, which has this path, under another name; its own is not free
abbrev pub moved_file_at : TreeValue → ℕ → ℕ → Name → Option (List Name) → Option TreeValue
moved_file_at v f parent name None = None
moved_file_at v f parent name (Some from) = if takes v parent name then Some (with_file_at v f from (path_in v parent name)) else None

-- the file of an entry in use under another name
abbrev pub moved_file : TreeValue → ℕ → ℕ → Option Name → Option TreeValue
moved_file v f parent None = None
moved_file v f parent (Some name) = moved_file_at v f parent name (slot v.files f)

-- the names after a record, if it applies
abbrev pub applied : TreeValue → RecordField → Option TreeValue
applied v change =
    if change.kind == 1 then new_file v change.index change.parent.0 change.name
    else if change.kind == 2 then new_directory v change.index change.parent.0 change.name
    else if change.kind == 3 then gone_file v change.index
    else if change.kind == 4 then gone_directory v change.index
    else moved_file v change.index change.parent.0 change.name

-- a change was made where it has an outcome, which is the new value; and else nothing changed
abbrev pub IsMade : Option TreeValue → TreeValue → TreeValue → Bool → Type 0
IsMade outcome old new true = outcome ≡ Some new
IsMade outcome old new false = (outcome ≡ None) × (new ≡ old)
