-- Entries with a parent, a name and what is stored of them, and the paths that they stand for.
use Rattle.std.specs.Prelude.{◌≡◌, ℕ, zero, suc, Bool, false, ◌≤◌, ◌&&◌, ◌==◌, List, [], ◌∷◌, ◌++◌, length, map, Option, Some, None, option_map, IsSome, IsTrue, bytes_eq}
use Rattle.apex_model.specs.Trees.{Name}
use Rattle.apex_types.specs.Naming.{is_name}
use Rattle.apex_types.specs.declared.numbers.DirNode.{DirNode}
use Rattle.file_tree.specs.declared.entries.Entry.{Entry}
use Rattle.file_tree.specs.Entries.{TreeValue, slot, nodes_of, AreDistinct}

-- the path of an entry in use, where this gives the paths of directories
abbrev pub path_of : (ℕ → Option (List Name)) → Option Entry → Option (List Name)
path_of ways None = None
path_of ways (Some entry) = option_map (λ names. names ++ entry.name ∷ []) (ways entry.parent.0)

abbrev pub way_by : (ℕ → Option (List Name)) → List (Option Entry) → ℕ → Option (List Name)
way_by ways directories zero = Some []
way_by ways directories (suc d) = path_of ways (slot directories d)

-- the path of a directory in use that lies at most so many names deep
unfoldable pub way : List (Option Entry) → ℕ → ℕ → Option (List Name)
way directories zero zero = Some []
way directories zero (suc d) = None
way directories (suc depth) d = way_by (way directories depth) directories d

-- the paths of entries
abbrev pub paths : List (Option Entry) → List (Option Entry) → List (Option (List Name))
paths directories entries = map (path_of (way directories 5)) entries

-- what is stored of an entry; of an unused one nothing is
abbrev pub stored_at : Option Entry → ℕ × ℕ
stored_at None = (0, 0)
stored_at (Some entry) = entry.stored

-- the same entry, of which this is stored
abbrev pub entry_with : ℕ × ℕ → Entry → Entry
entry_with stored entry = record { parent = entry.parent; name = entry.name; stored = stored }

-- what the durable body has of each entry
abbrev pub stored_in : List (Option Entry) → List (Option (ℕ × ℕ))
stored_in entries = map (option_map (λ (entry : Entry). entry.stored)) entries

unfoldable pub value_of : List (Option Entry) → List (Option Entry) → TreeValue
value_of files directories = record {
  nodes = nodes_of (paths directories files) (paths directories directories);
  files = paths directories files;
  directories = paths directories directories;
  stored = stored_in files;
}

-- the parent of each entry is a directory in use with at most 5 names on its way
abbrev pub HaveParents : List (Option Entry) → List (Option Entry) → Type 0
HaveParents directories entries = (i : ℕ) (entry : Entry) → slot entries i ≡ Some entry → IsSome (way directories 5 entry.parent.0)

-- what makes entries a tree
pub record AreSound (files directories : List (Option Entry)) : Type 0 where
  pub few_files : length files ≤ 255
  pub few_directories : length directories ≤ 255
  pub file_parents : HaveParents directories files
  pub directory_parents : HaveParents directories directories
  pub distinct : AreDistinct (paths directories files) (paths directories directories)

-- the name of an entry in use is spelled as a name
abbrev pub HasName : Option Entry → Type 0
HasName None = Unit {0}
HasName (Some entry) = IsTrue (is_name entry.name)

abbrev pub HaveNames : List (Option Entry) → Type 0
HaveNames entries = (i : ℕ) → HasName (slot entries i)

-- what holds of the entries that a tree keeps
pub record AreKept (files directories : List (Option Entry)) : Type 0 where
  pub sound : AreSound files directories
  pub file_names : HaveNames files
  pub directory_names : HaveNames directories

-- whether a place has the entry of this name in this directory
abbrev pub is_child : ℕ → Name → Option Entry → Bool
is_child parent name None = false
is_child parent name (Some entry) = (entry.parent.0 == parent) && bytes_eq entry.name name

-- the directory of an entry in use
abbrev pub parent_at : Option Entry → Option DirNode
parent_at None = None
parent_at (Some entry) = Some entry.parent
