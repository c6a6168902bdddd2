-- What is tested of the entries of a body before they are a tree, and what is written of a tree's entries.
use Rattle.std.specs.Prelude.{Bool, true, false, not, ◌&&◌, List, [], ◌∷◌, Option, Some, None, option_map, is_some, position}
use Rattle.file_tree.specs.declared.entries.Entry.{Entry}
use Rattle.file_tree.specs.declared.kind.Kind.{Kind}
use Rattle.file_tree.specs.declared.kind.Kind.TheVariants.{File, Directory}
use Rattle.file_tree.specs.Table.{way, is_child, entry_with}

-- whether an entry's parent is a directory in use with at most 5 names on its way
abbrev pub has_parent : List (Option Entry) → Option Entry → Bool
has_parent directories None = true
has_parent directories (Some entry) = is_some (way directories 5 entry.parent.0)

-- whether one of these entries has the same name in the same directory
abbrev pub has_namesake : List (Option Entry) → Option Entry → Bool
has_namesake entries None = false
has_namesake entries (Some entry) = is_some (position (is_child entry.parent.0 entry.name) entries)

-- whether no entry has the name of one behind it in the same directory
abbrev pub are_apart : List (Option Entry) → Bool
are_apart [] = true
are_apart (place ∷ entries) = not (has_namesake entries place) && are_apart entries

-- what is written of an entry: of a directory's no size and no change count
abbrev pub kept : Kind → Option Entry → Option Entry
kept File place = place
kept Directory place = option_map (entry_with (0, 0)) place
