-- Opening new files.
use Rattle.std.proofs.Common.{◌≡◌, ℕ, ◌<◌, ◌≤◌, Bool, true, false, List, Some, None, sym, ◌∙◌, ap, subst, length}
use Rattle.std.specs.Prelude.{Ok, Err, nat_le, slice_set}
use Rattle.apex_types.specs.Rows.{Rows}
use Rattle.apex_types.specs.declared.calls.OpenMode.TheVariants.{ReadWrite}
use Rattle.apex_types.specs.declared.codes.Errno.{Errno}
use Rattle.apex_types.specs.declared.codes.Errno.TheVariants.{Eisdir, Eexist, Enospc, Emfile}
use Rattle.apex_types.specs.declared.fields.Spot.TheVariants as spot
use Rattle.apex_types.specs.declared.numbers.DirNode.{DirNode}
use Rattle.apex_types.specs.declared.numbers.FileNode.{FileNode}
use Rattle.apex_types.specs.declared.replies.Values.TheVariants.{Number}
use Rattle.apex_model.specs.Files.{new_file}
use Rattle.apex_model.specs.FileStep.{FileOutcome, open_new_at, open_new_file, opened}
use Rattle.apex_model.specs.FileSystem.{FileSystem, tree_in, with_tree, file_limit, on_free_file}
use Rattle.apex_model.specs.Handles.{with_slot, free_from, least_free}
use Rattle.apex_model.specs.Outcomes.{accepted, success, refusal, refuse_if}
use Rattle.apex_model.specs.Tables.{Place, owner_alone, place_of}
use Rattle.apex_model.specs.Trees.{Name, file, standing_at, with_node, file_count, walk}
use Rattle.file_tree.specs.Entries.{IsSpotAt, with_file}
use Rattle.open_handles.specs.NodeHandles.{AllHandles, handles_of, with_file_slot}
use Rattle.open_handles.specs.Nodes as nodes
use Rattle.store_model.specs.Standing.{IsTree}
use Rattle.store_model.specs.Stores.{StoreValue, with_names}
use Rattle.store_model.specs.Systems.{Stands, IsOfTable, store_at}
use Rattle.store_model.proofs.Changes.{made-stands}
use Rattle.store_model.proofs.Counts.{full-count, free-count}
use Rattle.store_model.proofs.Names.{file_count-same}
use Rattle.store_model.proofs.Spots.{spot-same}
use Rattle.store_model.proofs.Systems.{store-there, file_limit-is, set-of_table}
use Rattle.store_model.proofs.SystemsSteps.{free_file-at, new_file-stands, new_file-of_table}
use Rattle.store_model.proofs.SystemsWords.{on_free_file-found, on_free_file-none}
use Rattle.service_parts.specs.Serving.{Serves}
use Rattle.service_parts.proofs.Consistent.{with_file-consistent}
use Rattle.service_parts.proofs.PathWords.{on_path-err, on_path-walk}
use Rattle.service_parts.proofs.Served.{refused-served, accepted-served}

-- a place of a tree
abbrev at : ℕ → List Name → Place
at t names = record { tree = t; names = names }

-- making a file at a place, by what stands there
abbrev pub make_step : Rows → ℕ → ℕ → List Name → FileSystem → FileOutcome
make_step table p t names fs = open_new_at table fs p (record { tree = t; names = names }) (standing_at (tree_in fs t) names)

-- the state with the file, open
abbrev made : FileSystem → ℕ → ℕ → List Name → ℕ → FileSystem
made fs p t names id = opened (with_tree fs t (with_node (tree_in fs t) names (file new_file))) p id (record { tree = t; names = names }) ReadWrite

module _ (table : Rows) (stores : List StoreValue) (handles : AllHandles) (p t : ℕ) (names : List Name) (within : t < length stores) where
  pub make-root : IsSpotAt (store_at stores t).tree names spot.Root → Serves (make_step table p t names) stores handles stores handles (refusal Eisdir)
  make-root root = refused-served (make_step table p t names) stores handles Eisdir
      (λ fs s. ap (open_new_at table fs p (at t names)) (spot-same (store_at stores t) (tree_in fs t) (store-there stores handles fs s t within) names spot.Root root).1)

  pub make-directory : (parent node : DirNode) (name : Name) → IsSpotAt (store_at stores t).tree names (spot.Directory parent node name) → Serves (make_step table p t names) stores handles stores handles (refusal Eisdir)
  make-directory parent node name found = refused-served (make_step table p t names) stores handles Eisdir
      (λ fs s. ap (open_new_at table fs p (at t names)) (spot-same (store_at stores t) (tree_in fs t) (store-there stores handles fs s t within) names (spot.Directory parent node name) found))

  pub make-file : (parent : DirNode) (node : FileNode) (name : Name) → IsSpotAt (store_at stores t).tree names (spot.File parent node name) → Serves (make_step table p t names) stores handles stores handles (refusal Eexist)
  make-file parent node name found = refused-served (make_step table p t names) stores handles Eexist
      (λ fs s. ap (open_new_at table fs p (at t names)) (spot-same (store_at stores t) (tree_in fs t) (store-there stores handles fs s t within) names (spot.File parent node name) found).1)

  module _ (o : IsOfTable table stores handles) (parent : DirNode) (free : IsSpotAt (store_at stores t).tree names (spot.Free parent)) where
    -- making a file where nothing stands, by whether the tree has as many as it may have
    make-by : (b : Bool) (fs : FileSystem) (s : Stands stores handles fs) → nat_le (length (store_at stores t).tree.files) (file_count (tree_in fs t)) ≡ b
        → make_step table p t names fs ≡ refuse_if b Enospc (on_free_file fs p (λ id. accepted (made fs p t names id) (Number id)))
    make-by b fs s test =
        let nothing = spot-same (store_at stores t) (tree_in fs t) (store-there stores handles fs s t within) names (spot.Free parent) free in
        let same : nat_le (file_limit table t) (file_count (tree_in fs t)) ≡ b = ap (λ (n : ℕ). nat_le n (file_count (tree_in fs t))) (sym (file_limit-is table stores handles o t)) ∙ test in
        ap (open_new_at table fs p (at t names)) nothing ∙ ap (λ (c : Bool). refuse_if c Enospc (on_free_file fs p (λ id. accepted (made fs p t names id) (Number id)))) same

    -- the count of the store's names is that of the tree
    counted : (b : Bool) → nat_le (length (store_at stores t).tree.files) (file_count (store_at stores t).tree.nodes) ≡ b → (fs : FileSystem) → Stands stores handles fs
        → nat_le (length (store_at stores t).tree.files) (file_count (tree_in fs t)) ≡ b
    counted b test fs s =
        ap (λ (n : ℕ). nat_le (length (store_at stores t).tree.files) n) (sym (file_count-same (store_at stores t) (tree_in fs t) (store-there stores handles fs s t within))) ∙ test

    pub make-full : nat_le (length (store_at stores t).tree.files) (file_count (store_at stores t).tree.nodes) ≡ true → Serves (make_step table p t names) stores handles stores handles (refusal Enospc)
    make-full full = refused-served (make_step table p t names) stores handles Enospc (λ fs s. make-by true fs s (counted true full fs s))

    pub make-none_free : free_from 0 (store_at stores t).tree.files ≡ None → Serves (make_step table p t names) stores handles stores handles (refusal Enospc)
    make-none_free none = refused-served (make_step table p t names) stores handles Enospc
        (λ fs s. make-by true fs s (full-count (store_at stores t) (tree_in fs t) (store-there stores handles fs s t within) none))

    pub make-many : nat_le (length (store_at stores t).tree.files) (file_count (store_at stores t).tree.nodes) ≡ false → least_free (handles_of handles p).files ≡ None
        → Serves (make_step table p t names) stores handles stores handles (refusal Emfile)
    make-many room none = refused-served (make_step table p t names) stores handles Emfile
        (λ fs s. make-by false fs s (counted false room fs s) ∙ on_free_file-none stores handles fs s p (λ id. accepted (made fs p t names id) (Number id)) none)

    pub make-done : (f : FileNode) (id : ℕ) (v : StoreValue) → free_from 0 (store_at stores t).tree.files ≡ Some f.0 → length names ≤ 6 → length (store_at stores t).tree.stored ≡ length (store_at stores t).tree.files
        → v ≡ with_names (store_at stores t) (with_file (store_at stores t).tree f.0 names) → least_free (handles_of handles p).files ≡ Some id
        → Serves (make_step table p t names) stores handles (slice_set stores t v) (with_file_slot handles p id (Some (nodes.opened_file t f ReadWrite))) (success (Number id))
    make-done f id v least few long is number =
        accepted-served (make_step table p t names) stores handles (slice_set stores t v) (with_file_slot handles p id (Some (nodes.opened_file t f ReadWrite))) (Number id)
        (λ fs s.
        let tree = store-there stores handles fs s t within in
        let new_tree = with_node (tree_in fs t) names (file new_file) in
        let first = free_file-at (store_at stores t).tree.files f.0 least in
        let consistent = with_file-consistent (store_at stores t).tree tree.sound.names names parent free.0 free.1 few f.0 first.none first.within long in
        let stands_for : IsTree v new_tree = subst (λ (w : StoreValue). IsTree w new_tree) (sym is) (made-stands (store_at stores t) (tree_in fs t) f.0 names tree least free.1 consistent) in
        record {
          after = made fs p t names id;
          is = make-by false fs s (free-count (store_at stores t) (tree_in fs t) tree f.0 least) ∙ on_free_file-found stores handles fs s p id (λ id. accepted (made fs p t names id) (Number id)) number;
          stands = new_file-stands stores handles fs s t v new_tree stands_for f names least is within p id ReadWrite;
        })
        (λ other of. set-of_table other (slice_set stores t v) handles (new_file-of_table other stores handles of t v f.0 names is) p
        (record { files = with_slot (handles_of handles p).files id (Some (nodes.opened_file t f ReadWrite)); directories = (handles_of handles p).directories }))

-- ---- OPEN_NEW_FILE

make_rest : Rows → FileSystem → ℕ → Place → FileOutcome
make_rest table fs p place = open_new_at table fs p place (standing_at (tree_in fs place.tree) place.names)

module _ (table : Rows) (stores : List StoreValue) (handles : AllHandles) (p : ℕ) (path : List ℕ) where
  pub make-err : (e : Errno) → place_of table owner_alone p path ≡ Err e → Serves (λ fs. open_new_file table fs p path) stores handles stores handles (refusal e)
  unfolding open_new_file make_rest
  make-err e is = refused-served (λ fs. open_new_file table fs p path) stores handles e (λ fs s. on_path-err table owner_alone p path fs e (make_rest table fs p) is)

  pub make-obstacle : (place : Place) (e : Errno) → place_of table owner_alone p path ≡ Ok place → place.tree < length stores → walk (store_at stores place.tree).tree.nodes place.names ≡ Some e
      → Serves (λ fs. open_new_file table fs p path) stores handles stores handles (refusal e)
  unfolding open_new_file make_rest
  make-obstacle place e is within way = refused-served (λ fs. open_new_file table fs p path) stores handles e
      (λ fs s. on_path-walk table owner_alone p path stores handles fs s place is within (Some e) (make_rest table fs p) way)

  -- the rest is that of the place
  pub make-at : (place : Place) → place_of table owner_alone p path ≡ Ok place → place.tree < length stores → walk (store_at stores place.tree).tree.nodes place.names ≡ None
      → (fs : FileSystem) → Stands stores handles fs → open_new_file table fs p path ≡ make_step table p place.tree place.names fs
  unfolding open_new_file make_rest
  make-at place is within way fs s = on_path-walk table owner_alone p path stores handles fs s place is within None (make_rest table fs p) way
