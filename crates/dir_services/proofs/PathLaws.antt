-- What stands at the end of a path, in the stores and in the file system that they stand for.
use Rattle.std.proofs.Common.{◌≡◌, ℕ, ◌+◌, ◌-◌, ◌<◌, ◌≤◌, List, [], ◌∷◌, ◌++◌, Option, Some, None, sym, ◌∙◌, ap, subst, length, take, get_or, arith}
use Rattle.std.specs.Prelude.{slice_get}
use Rattle.std.proofs.lemmas.Grind.{take_at_read}
use Rattle.std.proofs.Math.Seq.{take-length}
use Rattle.apex_types.specs.Rows.{Rows}
use Rattle.apex_types.specs.declared.fields.Spot.{Spot}
use Rattle.apex_types.specs.declared.fields.Spot.TheVariants as spot
use Rattle.apex_types.specs.declared.numbers.DirNode.{DirNode}
use Rattle.apex_types.specs.declared.numbers.FileNode.{FileNode}
use Rattle.apex_model.specs.Files.{File}
use Rattle.apex_model.specs.FileSystem.{FileSystem, tree_in}
use Rattle.apex_model.specs.Trees.{Name, Node, directory, file, standing_at}
use Rattle.apex_model.specs.Validity.{parent_of}
use Rattle.file_tree.specs.Entries.{TreeValue, IsSpotAt, path_in}
use Rattle.file_tree.proofs.Children.{free-path}
use Rattle.open_handles.specs.NodeHandles.{AllHandles}
use Rattle.store_model.specs.Stores.{StoreValue}
use Rattle.store_model.specs.Systems.{Stands, store_at, directory_path}
use Rattle.store_model.proofs.Spots.{spot-same}
use Rattle.store_model.proofs.Systems.{store-there}
use Rattle.tree_store.specs.Serving.{AreOfTable}
use Rattle.tree_store.specs.declared.store.TreeStore.{TreeStore}
use Rattle.service_parts.specs.Serving.{AllOutline}
use Rattle.service_parts.proofs.Held.{stores_long, trees_long}

-- a path at which nothing stands has a name at least
pub names-some : (v : TreeValue) (names : List Name) → standing_at v.nodes names ≡ None → 1 ≤ length names
names-some v [] e = absurd (let w : ◌≡◌ {A = Option (Node ℕ)} (Some directory) None = e in cc)
names-some v (name ∷ names) e = omega arith

-- where a walk ends with nothing, the last name in the parent gives the whole path
pub path-whole : (v : TreeValue) (parent : DirNode) (names : List Name) (name : Name) → IsSpotAt v names (spot.Free parent) → slice_get names (length names - 1) ≡ Some name → path_in v parent.0 name ≡ names
path-whole v parent names name free last = free-path v names parent.0 name free.0 last (names-some v names free.1)

-- a path is its parent's with one more name
pub last-of : (names : List Name) → 1 ≤ length names → (name : Name) × (parent_of names ++ name ∷ [] ≡ names)
last-of names some =
    let k = length names - 1 in
    let low : k < length names = omega (arith, some) in
    let long : k + 1 ≡ length names = omega (arith, some) in
    (get_or names k [], sym (take_at_read names k [] low).1 ∙ ap (λ (n : ℕ). take n names) long ∙ take-length names)

-- ---- how many trees and values there are

pub within_trees : (table : Rows) (trees : List TreeStore) (handles : AllHandles) → AreOfTable table trees handles → (t : ℕ) → t < length table.trees → t < length trees
within_trees table trees handles of t low = let long = trees_long table trees handles of in omega (arith, long, low)

pub within_stores : (trees : List TreeStore) (stores : List StoreValue) → AllOutline trees stores → (t : ℕ) → t < length trees → t < length stores
within_stores trees stores all t low = let long = stores_long trees stores all in omega (arith, long, low)

-- ---- what stands at the end of a path

module _ (stores : List StoreValue) (handles : AllHandles) (t : ℕ) (names : List Name) (low : t < length stores) (end : Spot) (at : IsSpotAt (store_at stores t).tree names end) where
  -- nothing stands at the path
  pub free-there : (parent : DirNode) → end ≡ spot.Free parent → (fs : FileSystem) → Stands stores handles fs → standing_at (tree_in fs t) names ≡ None
  free-there parent e fs s = spot-same (store_at stores t) (tree_in fs t) (store-there stores handles fs s t low) names (spot.Free parent) (subst (IsSpotAt (store_at stores t).tree names) e at)

  -- a file stands there
  pub file-there : (parent : DirNode) (node : FileNode) (name : Name) → end ≡ spot.File parent node name → (fs : FileSystem) → Stands stores handles fs → (g : File) × (standing_at (tree_in fs t) names ≡ Some (file g))
  file-there parent node name e fs s =
      let found = spot-same (store_at stores t) (tree_in fs t) (store-there stores handles fs s t low) names (spot.File parent node name) (subst (IsSpotAt (store_at stores t).tree names) e at) in
      (found.0, found.1)

  -- a directory stands there
  pub directory-there : (parent node : DirNode) (name : Name) → end ≡ spot.Directory parent node name → (fs : FileSystem) → Stands stores handles fs → standing_at (tree_in fs t) names ≡ Some directory
  directory-there parent node name e fs s =
      spot-same (store_at stores t) (tree_in fs t) (store-there stores handles fs s t low) names (spot.Directory parent node name) (subst (IsSpotAt (store_at stores t).tree names) e at)

  -- and its entry has this path
  pub directory-path : (parent node : DirNode) (name : Name) → end ≡ spot.Directory parent node name → directory_path stores t node ≡ Some names
  directory-path parent node name e = let is : IsSpotAt (store_at stores t).tree names (spot.Directory parent node name) = subst (IsSpotAt (store_at stores t).tree names) e at in is.2

  -- the path is that of the root
  pub root-path : end ≡ spot.Root → names ≡ []
  root-path e = subst (IsSpotAt (store_at stores t).tree names) e at

  pub root-there : end ≡ spot.Root → (fs : FileSystem) → Stands stores handles fs → standing_at (tree_in fs t) names ≡ Some directory
  root-there e fs s = ap (standing_at (tree_in fs t)) (root-path e)
