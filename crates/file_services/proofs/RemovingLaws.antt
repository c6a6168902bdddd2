-- Removing files.
use Rattle.std.proofs.Common.{◌≡◌, ℕ, ◌<◌, Bool, true, false, List, Option, Some, None, sym, ◌∙◌, ap, subst, length}
use Rattle.std.specs.Prelude.{Ok, Err, map, slice_set}
use Rattle.apex_types.specs.Rows.{Rows}
use Rattle.apex_types.specs.declared.codes.Errno.{Errno}
use Rattle.apex_types.specs.declared.codes.Errno.TheVariants.{Enoent, Eisdir, Ebusy}
use Rattle.apex_types.specs.declared.fields.Spot.TheVariants as spot
use Rattle.apex_types.specs.declared.numbers.DirNode.{DirNode}
use Rattle.apex_types.specs.declared.numbers.FileNode.{FileNode}
use Rattle.apex_types.specs.declared.replies.Values.TheVariants.{Empty}
use Rattle.apex_model.specs.FileStep.{FileOutcome, remove_file_at, remove_file}
use Rattle.apex_model.specs.FileSystem.{FileSystem, tree_in}
use Rattle.apex_model.specs.Handles.{any_open, with_files_moved}
use Rattle.apex_model.specs.Outcomes.{accepted, success, refusal, refuse_if}
use Rattle.apex_model.specs.Tables.{Place, owner_alone, place_of}
use Rattle.apex_model.specs.Trees.{Name, standing_at, without_node, walk}
use Rattle.file_tree.specs.Entries.{IsSpotAt, slot}
use Rattle.open_handles.specs.NodeHandles.{AllHandles, handles_of, with_file_gone}
use Rattle.open_handles.specs.Nodes.{holds_file}
use Rattle.store_model.specs.Standing.{IsTree}
use Rattle.store_model.specs.Stores.{StoreValue, removed_store}
use Rattle.store_model.specs.Systems.{Stands, store_at, file_path}
use Rattle.store_model.proofs.Changes.{removed-stands}
use Rattle.store_model.proofs.HandlesHeld.{holds-same}
use Rattle.store_model.proofs.Names.{file-found}
use Rattle.store_model.proofs.Spots.{spot-same}
use Rattle.store_model.proofs.Systems.{store-there, map-of_table}
use Rattle.store_model.proofs.SystemsSteps.{gone_file-stands, gone_file-of_table}
use Rattle.tree_store.specs.Answers.{removed_file}
use Rattle.service_parts.specs.Serving.{Serves}
use Rattle.service_parts.proofs.Consistent.{without_file-consistent}
use Rattle.service_parts.proofs.PathWords.{on_path-err, on_path-walk}
use Rattle.service_parts.proofs.Served.{refused-served, accepted-served}

-- the word of the store is the one without the file
gone : StoreValue → ℕ → Option (List Name) → StoreValue
gone v f None = v
gone v f (Some path) = removed_store v f path

pub removed-is : (v : StoreValue) (f : ℕ) (path : List Name) → slot v.tree.files f ≡ Some path → removed_file v f ≡ removed_store v f path
unfolding gone
removed-is v f path there = ap (gone v f) there

-- a place of a tree
abbrev at : ℕ → List Name → Place
at t names = record { tree = t; names = names }

-- removing what stands at a place
abbrev pub remove_step : ℕ → ℕ → List Name → FileSystem → FileOutcome
remove_step p t names fs = remove_file_at fs p (record { tree = t; names = names }) (standing_at (tree_in fs t) names)

-- the state without the file
abbrev removed : FileSystem → ℕ → List Name → FileSystem
removed fs t names = record { trees = slice_set fs.trees t (without_node (tree_in fs t) names); handles = map (with_files_moved t names None) fs.handles }

module _ (stores : List StoreValue) (handles : AllHandles) (p t : ℕ) (names : List Name) (within : t < length stores) where
  pub remove-nothing : (parent : DirNode) → IsSpotAt (store_at stores t).tree names (spot.Free parent) → Serves (remove_step p t names) stores handles stores handles (refusal Enoent)
  remove-nothing parent free = refused-served (remove_step p t names) stores handles Enoent
      (λ fs s. ap (remove_file_at fs p (at t names)) (spot-same (store_at stores t) (tree_in fs t) (store-there stores handles fs s t within) names (spot.Free parent) free))

  pub remove-root : IsSpotAt (store_at stores t).tree names spot.Root → Serves (remove_step p t names) stores handles stores handles (refusal Eisdir)
  remove-root root = refused-served (remove_step p t names) stores handles Eisdir
      (λ fs s. ap (remove_file_at fs p (at t names)) (spot-same (store_at stores t) (tree_in fs t) (store-there stores handles fs s t within) names spot.Root root).1)

  pub remove-directory : (parent node : DirNode) (name : Name) → IsSpotAt (store_at stores t).tree names (spot.Directory parent node name) → Serves (remove_step p t names) stores handles stores handles (refusal Eisdir)
  remove-directory parent node name found = refused-served (remove_step p t names) stores handles Eisdir
      (λ fs s. ap (remove_file_at fs p (at t names)) (spot-same (store_at stores t) (tree_in fs t) (store-there stores handles fs s t within) names (spot.Directory parent node name) found))

  module _ (f : FileNode) (path : file_path stores t f ≡ Some names) where
    -- removing a file, by whether the caller has it open
    remove-by : (b : Bool) → any_open (holds_file t f) (handles_of handles p).files ≡ b → (fs : FileSystem) → Stands stores handles fs
        → remove_step p t names fs ≡ refuse_if b Ebusy (accepted (removed fs t names) Empty)
    remove-by b busy fs s =
        let found = file-found (store_at stores t) (tree_in fs t) (store-there stores handles fs s t within) f.0 names path in
        ap (remove_file_at fs p (at t names)) found.1
        ∙ ap (λ (c : Bool). refuse_if c Ebusy (accepted (removed fs t names) Empty)) (holds-same stores handles fs s t f names path p ∙ busy)

    pub remove-busy : any_open (holds_file t f) (handles_of handles p).files ≡ true → Serves (remove_step p t names) stores handles stores handles (refusal Ebusy)
    remove-busy busy = refused-served (remove_step p t names) stores handles Ebusy (remove-by true busy)

    pub remove-done : (v : StoreValue) → any_open (holds_file t f) (handles_of handles p).files ≡ false → v ≡ removed_store (store_at stores t) f.0 names
        → Serves (remove_step p t names) stores handles (slice_set stores t v) (map (with_file_gone t f) handles) (success Empty)
    remove-done v closed is =
        accepted-served (remove_step p t names) stores handles (slice_set stores t v) (map (with_file_gone t f) handles) Empty
        (λ fs s.
        let tree = store-there stores handles fs s t within in
        let new_tree = without_node (tree_in fs t) names in
        let consistent = without_file-consistent (store_at stores t).tree tree.sound.names f.0 names path in
        let stands_for : IsTree v new_tree = subst (λ (w : StoreValue). IsTree w new_tree) (sym is) (removed-stands (store_at stores t) (tree_in fs t) f.0 names tree path consistent) in
        record {
          after = removed fs t names;
          is = remove-by false closed fs s;
          stands = gone_file-stands stores handles fs s t v new_tree stands_for f names path is;
        })
        (λ table o. map-of_table table (slice_set stores t v) handles (gone_file-of_table table stores handles o t v f.0 names is) (with_file_gone t f))

-- ---- REMOVE_FILE

remove_rest : FileSystem → ℕ → Place → FileOutcome
remove_rest fs p place = remove_file_at fs p place (standing_at (tree_in fs place.tree) place.names)

module _ (table : Rows) (stores : List StoreValue) (handles : AllHandles) (p : ℕ) (path : List ℕ) where
  pub remove-err : (e : Errno) → place_of table owner_alone p path ≡ Err e → Serves (λ fs. remove_file table fs p path) stores handles stores handles (refusal e)
  unfolding remove_file remove_rest
  remove-err e is = refused-served (λ fs. remove_file table fs p path) stores handles e (λ fs s. on_path-err table owner_alone p path fs e (remove_rest fs p) is)

  pub remove-obstacle : (place : Place) (e : Errno) → place_of table owner_alone p path ≡ Ok place → place.tree < length stores → walk (store_at stores place.tree).tree.nodes place.names ≡ Some e
      → Serves (λ fs. remove_file table fs p path) stores handles stores handles (refusal e)
  unfolding remove_file remove_rest
  remove-obstacle place e is within way = refused-served (λ fs. remove_file table fs p path) stores handles e
      (λ fs s. on_path-walk table owner_alone p path stores handles fs s place is within (Some e) (remove_rest fs p) way)

  -- the rest is that of the place
  pub remove-at : (place : Place) → place_of table owner_alone p path ≡ Ok place → place.tree < length stores → walk (store_at stores place.tree).tree.nodes place.names ≡ None
      → (fs : FileSystem) → Stands stores handles fs → remove_file table fs p path ≡ remove_step p place.tree place.names fs
  unfolding remove_file remove_rest
  remove-at place is within way fs s = on_path-walk table owner_alone p path stores handles fs s place is within None (remove_rest fs p) way
