-- Where nothing stands at the end of a path.
use Rattle.std.proofs.Common.{◌≡◌, ℕ, ◌-◌, ◌≤◌, List, [], ◌∷◌, Option, Some, None, length, arith}
use Rattle.std.specs.Prelude.{slice_get}
use Rattle.apex_types.specs.declared.fields.Spot.TheVariants as spot
use Rattle.apex_types.specs.declared.numbers.DirNode.{DirNode}
use Rattle.apex_model.specs.Trees.{Name, Node, directory, Tree, standing_at}
use Rattle.file_tree.specs.Entries.{TreeValue, path_in, IsSpotAt}
use Rattle.file_tree.proofs.Children.{free-path}

-- such a path has a name
named : (tree : Tree ℕ) (names : List Name) → standing_at tree names ≡ None → 1 ≤ length names
named tree [] nothing = absurd (let e : ◌≡◌ {A = Option (Node ℕ)} (Some directory) None = nothing in cc)
named tree (name ∷ names) nothing = omega arith

pub free-named : (v : TreeValue) (names : List Name) (parent : DirNode) → IsSpotAt v names (spot.Free parent) → 1 ≤ length names
free-named v names parent free = named v.nodes names free.1

-- its last name in its parent is the whole path
pub path-of-free : (v : TreeValue) (names : List Name) (parent : DirNode) (name : Name) → IsSpotAt v names (spot.Free parent) → slice_get names (length names - 1) ≡ Some name → path_in v parent.0 name ≡ names
path-of-free v names parent name free last = free-path v names parent.0 name free.0 last (named v.nodes names free.1)
