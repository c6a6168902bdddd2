-- What callers see of a tree: what stands at each path, and the path of each entry.
use Rattle.std.specs.Prelude.{◌≡◌, ℕ, zero, suc, ◌+◌, ◌≤◌, List, [], ◌∷◌, ◌++◌, length, Option, Some, None, replicate, unwrap_or, slice_index_or, slice_set, IsTrue}
use Rattle.std.specs.List.{AllByRecursion}
use Rattle.std.specs.FinMap.Entries.{put}
use Rattle.apex_types.specs.Naming.{is_name}
use Rattle.apex_types.specs.declared.fields.Spot.{Spot}
use Rattle.apex_types.specs.declared.fields.Spot.TheVariants.{Free, File, Directory, Root}
use Rattle.apex_model.specs.Trees.{Name, Node, directory, file, Tree, path_cmp, standing_at, with_node, without_node, next_entry}
use Rattle.apex_model.specs.Validity.{parent_of}

-- what stands at each path, with the numbers of the files; the path of each file's entry, and of each directory's entry; what the durable body has of each file's entry: its size and its change count; an unused entry has none
pub record TreeValue : Type 0 where
  pub nodes : Tree ℕ
  pub files : List (Option (List Name))
  pub directories : List (Option (List Name))
  pub stored : List (Option (ℕ × ℕ))

-- what a place of a list has, which is nothing past its end
abbrev pub slot : {A : Type 0} → List (Option A) → ℕ → Option A
slot xs i = slice_index_or xs i None

-- the path of a directory in use: 0 is the root, and d + 1 is entry d
abbrev pub way_of : TreeValue → ℕ → Option (List Name)
way_of v zero = Some []
way_of v (suc d) = slot v.directories d

-- the path of a name in a directory
abbrev pub path_in : TreeValue → ℕ → Name → List Name
path_in v parent name = unwrap_or (way_of v parent) [] ++ name ∷ []

-- only the root, where so many entries are unused
abbrev pub no_entries : ℕ → ℕ → TreeValue
no_entries files directories = record { nodes = []; files = replicate files None; directories = replicate directories None; stored = replicate files None }

-- the size and the change count that the durable body has of a file's entry
abbrev pub stored_of : TreeValue → ℕ → ℕ × ℕ
stored_of v f = unwrap_or (slot v.stored f) (0, 0)

-- with a file at an unused entry, of which nothing is stored
abbrev pub with_file : TreeValue → ℕ → List Name → TreeValue
with_file v f path = record { nodes = with_node v.nodes path (file f); files = slice_set v.files f (Some path); directories = v.directories; stored = slice_set v.stored f (Some (0, 0)) }

-- with a directory at an unused entry
abbrev pub with_directory : TreeValue → ℕ → List Name → TreeValue
with_directory v d path = record { nodes = with_node v.nodes path directory; files = v.files; directories = slice_set v.directories d (Some path); stored = v.stored }

-- without the file of an entry, which stood at this path
abbrev pub without_file : TreeValue → ℕ → List Name → TreeValue
without_file v f path = record { nodes = without_node v.nodes path; files = slice_set v.files f None; directories = v.directories; stored = slice_set v.stored f None }

-- without the directory of an entry, which stood at this path
abbrev pub without_directory : TreeValue → ℕ → List Name → TreeValue
without_directory v d path = record { nodes = without_node v.nodes path; files = v.files; directories = slice_set v.directories d None; stored = v.stored }

-- with the file of an entry at another path
abbrev pub with_file_at : TreeValue → ℕ → List Name → List Name → TreeValue
with_file_at v f from to = record { nodes = with_node (without_node v.nodes from) to (file f); files = slice_set v.files f (Some to); directories = v.directories; stored = v.stored }

-- with this size and change count of a file's entry
abbrev pub with_stored : TreeValue → ℕ → ℕ → ℕ → TreeValue
with_stored v f size changes = record { nodes = v.nodes; files = v.files; directories = v.directories; stored = slice_set v.stored f (Some (size, changes)) }

-- an entry: of a file or of a directory
pub data Place : Type 0 where
  in_file : ℕ → Place
  in_directory : ℕ → Place

-- the path of an entry
abbrev pub path_at : List (Option (List Name)) → List (Option (List Name)) → Place → Option (List Name)
path_at files directories (in_file f) = slot files f
path_at files directories (in_directory d) = slot directories d

-- what stands at an entry's path
abbrev pub node_at : Place → Node ℕ
node_at (in_file f) = file f
node_at (in_directory d) = directory

-- a tree with what stands at these paths beside its own, where the first has this number
abbrev pub put_all : (ℕ → Node ℕ) → ℕ → List (Option (List Name)) → Tree ℕ → Tree ℕ
put_all node k [] tree = tree
put_all node k (None ∷ paths) tree = put_all node (k + 1) paths tree
put_all node k (Some path ∷ paths) tree = put path_cmp path (node k) (put_all node (k + 1) paths tree)

-- the map of all entries' paths
abbrev pub nodes_of : List (Option (List Name)) → List (Option (List Name)) → Tree ℕ
nodes_of files directories = put_all file 0 files (put_all (λ _. directory) 0 directories [])

-- no two entries have the same path
abbrev pub AreDistinct : List (Option (List Name)) → List (Option (List Name)) → Type 0
AreDistinct files directories = (a b : Place) (path : List Name) → path_at files directories a ≡ Some path → path_at files directories b ≡ Some path → a ≡ b

-- where a walk that meets no obstacle ends
abbrev pub IsSpotAt : TreeValue → List Name → Spot → Type 0
IsSpotAt v names (Free parent) = (way_of v parent.0 ≡ Some (parent_of names)) × (standing_at v.nodes names ≡ None)
IsSpotAt v names (File parent node name) =
    (way_of v parent.0 ≡ Some (parent_of names)) × (names ≡ parent_of names ++ name ∷ []) × (slot v.files node.0 ≡ Some names) × (standing_at v.nodes names ≡ Some (file node.0))
IsSpotAt v names (Directory parent node name) =
    (way_of v parent.0 ≡ Some (parent_of names)) × (names ≡ parent_of names ++ name ∷ []) × (way_of v node.0 ≡ Some names) × (standing_at v.nodes names ≡ Some directory)
IsSpotAt v names Root = names ≡ []

-- what a listing of a directory gives behind the last name given
abbrev pub IsNextSpot : TreeValue → List Name → Option Name → Option Spot → Type 0
IsNextSpot v way after None = next_entry v.nodes way after ≡ None
IsNextSpot v way after (Some (File parent node name)) =
    (way_of v parent.0 ≡ Some way) × (next_entry v.nodes way after ≡ Some (name, file node.0)) × (slot v.files node.0 ≡ Some (way ++ name ∷ []))
IsNextSpot v way after (Some (Directory parent node name)) =
    (way_of v parent.0 ≡ Some way) × (next_entry v.nodes way after ≡ Some (name, directory)) × (way_of v node.0 ≡ Some (way ++ name ∷ []))
IsNextSpot v way after (Some (Free parent)) = ⊥
IsNextSpot v way after (Some Root) = ⊥

-- what holds of every tree: the map is that of the entries' paths, no two of which are the same; each has 1 to 6 names, and its parent is a directory or the root; each file's entry has a size and a change count
pub record IsConsistent (v : TreeValue) : Type 0 where
  pub nodes_are : v.nodes ≡ nodes_of v.files v.directories
  pub distinct : AreDistinct v.files v.directories
  pub some : (a : Place) (path : List Name) → path_at v.files v.directories a ≡ Some path → 1 ≤ length path
  pub few : (a : Place) (path : List Name) → path_at v.files v.directories a ≡ Some path → length path ≤ 6
  pub parent : (a : Place) (path : List Name) → path_at v.files v.directories a ≡ Some path → standing_at v.nodes (parent_of path) ≡ Some directory
  pub stored : (f : ℕ) (path : List Name) → slot v.files f ≡ Some path → slot v.stored f ≡ Some (stored_of v f)

-- each path of a tree has names that are spelled as names
abbrev pub AreSpelled : TreeValue → Type 0
AreSpelled v = (a : Place) (path : List Name) → path_at v.files v.directories a ≡ Some path
    → AllByRecursion (λ name. IsTrue (is_name name)) path
