-- Making directories.
use Rattle.std.proofs.Common.{◌≡◌, ℕ, ◌<◌, ◌≤◌, ◌-◌, Bool, true, false, List, Option, Some, None, Ok, Err, refl, sym, ◌∙◌, ap, subst, length}
use Rattle.std.specs.Prelude.{nat_le, is_some, slice_get, slice_set}
use Rattle.apex_types.specs.Rows.{Rows}
use Rattle.apex_types.specs.declared.codes.Errno.{Errno}
use Rattle.apex_types.specs.declared.codes.Errno.TheVariants.{Eexist, Enospc}
use Rattle.apex_types.specs.declared.fields.Spot.{Spot}
use Rattle.apex_types.specs.declared.fields.Spot.TheVariants as spot
use Rattle.apex_types.specs.declared.numbers.DirNode.{DirNode}
use Rattle.apex_types.specs.declared.numbers.FileNode.{FileNode}
use Rattle.apex_types.specs.declared.replies.Values.TheVariants.{Empty}
use Rattle.apex_model.specs.DirectoryStep.{make_directory}
use Rattle.apex_model.specs.Files.{File}
use Rattle.apex_model.specs.FileStep.{FileOutcome}
use Rattle.apex_model.specs.FileSystem.{FileSystem, tree_in, with_tree, directory_limit}
use Rattle.apex_model.specs.Handles.{free_from}
use Rattle.apex_model.specs.Outcomes.{accepted, success, refusal, refuse_if}
use Rattle.apex_model.specs.Tables.{Place, place_of, owner_alone}
use Rattle.apex_model.specs.Trees.{Name, Node, directory, walk, with_node, directory_count}
use Rattle.file_tree.specs.Entries.{IsSpotAt, path_in, with_directory}
use Rattle.file_tree.proofs.Ways.{not_some}
use Rattle.open_handles.specs.NodeHandles.{AllHandles}
use Rattle.store_model.specs.Stores.{StoreValue, with_names}
use Rattle.store_model.specs.Systems.{Stands, IsOfTable, store_at}
use Rattle.store_model.proofs.Changes.{made_directory-stands}
use Rattle.store_model.proofs.Counts.{full-directories, free-directories}
use Rattle.store_model.proofs.Systems.{store-there, directory_limit-is}
use Rattle.store_model.proofs.SystemsSteps.{free-at, new_directory-stands, new_directory-of_table}
use Rattle.rig_core.specs.Outside.{Outside}
use Rattle.tree_store.specs.Answers.{directory_refusal, made_directory}
use Rattle.tree_store.specs.Calls.{AtTree}
use Rattle.tree_store.specs.Serving.{AllHold, AreOfTable, AreStored}
use Rattle.tree_store.specs.Stored.{names_of}
use Rattle.tree_store.specs.declared.store.TreeStore.{TreeStore}
use Rattle.service_parts.specs.Serving.{Serves}
use Rattle.service_parts.proofs.Consistent.{with_directory-consistent}
use Rattle.service_parts.proofs.Held.{all_outlined, at_value, of_table_held}
use Rattle.service_parts.proofs.PathWords.{on_path-err, on_path-walk}
use Rattle.service_parts.proofs.Served.{refused-served, accepted-served}
use Rattle.dir_services.specs.Steps.{make_at}
use Rattle.dir_services.proofs.PathLaws.{free-there, file-there, directory-there, path-whole, root-there, within_stores}

-- why a store refuses a directory, by the entry that is unused
refusal-at : Option ℕ → Option Errno
refusal-at None = Some Enospc
refusal-at (Some d) = None

-- the state with the directory
abbrev made : FileSystem → Place → FileSystem
made fs place = with_tree fs place.tree (with_node (tree_in fs place.tree) place.names directory)

-- the step by what stands at the place
abbrev make_where : Rows → FileSystem → Place → Option (Node File) → FileOutcome
make_where table fs place o =
    refuse_if (is_some o) Eexist (refuse_if (nat_le (directory_limit table place.tree) (directory_count (tree_in fs place.tree))) Enospc (accepted (made fs place) Empty))

module _ (table : Rows) (stores : List StoreValue) (handles : AllHandles) (place : Place) (low : place.tree < length stores) (end : Spot) (at : IsSpotAt (store_at stores place.tree).tree place.names end) where
  -- something stands there
  pub make-directory : (parent node : DirNode) (name : Name) → end ≡ spot.Directory parent node name → Serves (λ fs. make_at table fs place) stores handles stores handles (refusal Eexist)
  make-directory parent node name e = refused-served (λ fs. make_at table fs place) stores handles Eexist
      (λ fs s. ap (make_where table fs place) (directory-there stores handles place.tree place.names low end at parent node name e fs s))

  pub make-file : (parent : DirNode) (node : FileNode) (name : Name) → end ≡ spot.File parent node name → Serves (λ fs. make_at table fs place) stores handles stores handles (refusal Eexist)
  make-file parent node name e = refused-served (λ fs. make_at table fs place) stores handles Eexist
      (λ fs s. ap (make_where table fs place) (file-there stores handles place.tree place.names low end at parent node name e fs s).1)

  pub make-root : end ≡ spot.Root → Serves (λ fs. make_at table fs place) stores handles stores handles (refusal Eexist)
  make-root e = refused-served (λ fs. make_at table fs place) stores handles Eexist
      (λ fs s. ap (make_where table fs place) (root-there stores handles place.tree place.names low end at e fs s))

module _ (table : Rows) (stores : List StoreValue) (handles : AllHandles) (o : IsOfTable table stores handles) (place : Place) (low : place.tree < length stores) (parent : DirNode)
    (at : IsSpotAt (store_at stores place.tree).tree place.names (spot.Free parent)) where
  -- making a directory where nothing stands, by whether the tree has as many as it may have
  make-by : (b : Bool) (fs : FileSystem) (s : Stands stores handles fs) → nat_le (length (store_at stores place.tree).tree.directories) (directory_count (tree_in fs place.tree)) ≡ b
      → make_at table fs place ≡ refuse_if b Enospc (accepted (made fs place) Empty)
  make-by b fs s test =
      let same : nat_le (directory_limit table place.tree) (directory_count (tree_in fs place.tree)) ≡ b
      = ap (λ (n : ℕ). nat_le n (directory_count (tree_in fs place.tree))) (sym (directory_limit-is table stores handles o place.tree)) ∙ test in
      ap (make_where table fs place) (free-there stores handles place.tree place.names low (spot.Free parent) at parent refl fs s)
      ∙ ap (λ (c : Bool). refuse_if c Enospc (accepted (made fs place) Empty)) same

  make-full : free_from 1 (store_at stores place.tree).tree.directories ≡ None → Serves (λ fs. make_at table fs place) stores handles stores handles (refusal Enospc)
  make-full none = refused-served (λ fs. make_at table fs place) stores handles Enospc
      (λ fs s. make-by true fs s (full-directories (store_at stores place.tree) (tree_in fs place.tree) (store-there stores handles fs s place.tree low) none))

  -- the directory of an unused entry
  make-done : (d : DirNode) → free_from 1 (store_at stores place.tree).tree.directories ≡ Some d.0 → length place.names ≤ 6
      → Serves (λ fs. make_at table fs place) stores handles
      (slice_set stores place.tree (with_names (store_at stores place.tree) (with_directory (store_at stores place.tree).tree (d.0 - 1) place.names))) handles (success Empty)
  make-done d least few =
      let old = store_at stores place.tree in
      let v = with_names old (with_directory old.tree (d.0 - 1) place.names) in
      let first = free-at old.tree.directories 1 d.0 least in
      accepted-served (λ fs. make_at table fs place) stores handles (slice_set stores place.tree v) handles Empty
      (λ fs s.
      let tree = store-there stores handles fs s place.tree low in
      let consistent = with_directory-consistent old.tree tree.sound.names place.names parent at.0 at.1 few (d.0 - 1) first.none first.within in
      record {
        after = made fs place;
        is = make-by false fs s (free-directories old (tree_in fs place.tree) tree d.0 least);
        stands = new_directory-stands stores handles fs s place.tree v (with_node (tree_in fs place.tree) place.names directory)
            (made_directory-stands old (tree_in fs place.tree) (d.0 - 1) place.names tree at.1 consistent) d place.names least refl;
      })
      (λ other of. new_directory-of_table other stores handles of place.tree v (d.0 - 1) place.names refl)

  module _ (name : Name) (whole : path_in (store_at stores place.tree).tree parent.0 name ≡ place.names) where
    -- what the store's value comes to, by the entry that is unused
    word-at : Option ℕ → StoreValue
    word-at None = store_at stores place.tree
    word-at (Some d) = with_names (store_at stores place.tree) (with_directory (store_at stores place.tree).tree (d - 1) (path_in (store_at stores place.tree).tree parent.0 name))

    make-by_entry : (unused : Option ℕ) → free_from 1 (store_at stores place.tree).tree.directories ≡ unused → length place.names ≤ 6 → refusal-at unused ≡ None
        → Serves (λ fs. make_at table fs place) stores handles (slice_set stores place.tree (word-at unused)) handles (success Empty)
    unfolding refusal-at word-at
    make-by_entry None is few none = absurd (not_some (sym none))
    make-by_entry (Some d) is few none =
        let made_at : List Name → List StoreValue = λ path. slice_set stores place.tree (with_names (store_at stores place.tree) (with_directory (store_at stores place.tree).tree (d - 1) path)) in
        subst (λ (path : List Name). Serves (λ fs. make_at table fs place) stores handles (made_at path) handles (success Empty)) (sym whole) (make-done (record { 0 = d }) is few)

    -- the store takes the directory
    pub make-word : length place.names ≤ 6 → directory_refusal (store_at stores place.tree) ≡ None
        → Serves (λ fs. make_at table fs place) stores handles (slice_set stores place.tree (made_directory (store_at stores place.tree) parent.0 name)) handles (success Empty)
    unfolding refusal-at word-at
    make-word = make-by_entry (free_from 1 (store_at stores place.tree).tree.directories) refl

  refused-at : (unused : Option ℕ) → free_from 1 (store_at stores place.tree).tree.directories ≡ unused → (e : Errno) → refusal-at unused ≡ Some e
      → Serves (λ fs. make_at table fs place) stores handles stores handles (refusal e)
  unfolding refusal-at
  refused-at None is e reason = let same : Enospc ≡ e = cc in subst (λ (e : Errno). Serves (λ fs. make_at table fs place) stores handles stores handles (refusal e)) same (make-full is)
  refused-at (Some d) is e reason = absurd (not_some reason)

  -- the store refuses it
  pub make-refused : (e : Errno) → directory_refusal (store_at stores place.tree) ≡ Some e → Serves (λ fs. make_at table fs place) stores handles stores handles (refusal e)
  unfolding refusal-at
  make-refused = refused-at (free_from 1 (store_at stores place.tree).tree.directories) refl

-- ---- by a path

module _ (table : Rows) (stores : List StoreValue) (handles : AllHandles) (p : ℕ) (bytes : List ℕ) where
  pub make_path-refused : (e : Errno) → place_of table owner_alone p bytes ≡ Err e → Serves (λ fs. make_directory table fs p bytes) stores handles stores handles (refusal e)
  unfolding make_directory
  make_path-refused e is = refused-served (λ fs. make_directory table fs p bytes) stores handles e (λ fs s. on_path-err table owner_alone p bytes fs e (make_at table fs) is)

  module _ (place : Place) (is : place_of table owner_alone p bytes ≡ Ok place) (low : place.tree < length stores) where
    pub make_path-blocked : (e : Errno) → walk (store_at stores place.tree).tree.nodes place.names ≡ Some e → Serves (λ fs. make_directory table fs p bytes) stores handles stores handles (refusal e)
    unfolding make_directory
    make_path-blocked e met = refused-served (λ fs. make_directory table fs p bytes) stores handles e
        (λ fs s. on_path-walk table owner_alone p bytes stores handles fs s place is low (Some e) (make_at table fs) met)

    pub make_path-leads : walk (store_at stores place.tree).tree.nodes place.names ≡ None → (fs : FileSystem) → Stands stores handles fs → make_directory table fs p bytes ≡ make_at table fs place
    unfolding make_directory
    make_path-leads met fs s = on_path-walk table owner_alone p bytes stores handles fs s place is low None (make_at table fs) met

-- ---- over stored trees

module _ (V : Type 0) (o : Outside) (table : Rows) (trees : List TreeStore) (handles : AllHandles) (of : AreOfTable table trees handles) (stored : AreStored V o trees) (place : Place)
    (within : place.tree < length trees) (parent : DirNode) (free : AtTree trees place.tree (λ store. IsSpotAt (names_of store) place.names (spot.Free parent)))
    (name : Name) (last : slice_get place.names (length place.names - 1) ≡ Some name) (few : length place.names ≤ 6) (stores : List StoreValue) (hold : AllHold V o trees stores) where
  found-free : IsSpotAt (store_at stores place.tree).tree place.names (spot.Free parent)
  found-free = at_value trees stores (all_outlined V o trees stores hold) (λ v. IsSpotAt v place.names (spot.Free parent)) place.tree within free

  -- the word of the value that a tree holds serves the step
  pub make-serves : directory_refusal (store_at stores place.tree) ≡ None
      → Serves (λ fs. make_at table fs place) stores handles (slice_set stores place.tree (made_directory (store_at stores place.tree) parent.0 name)) handles (success Empty)
  make-serves =
      let low = within_stores trees stores (all_outlined V o trees stores hold) place.tree within in
      make-word table stores handles (of_table_held V o table trees stores handles of stored hold) place low parent found-free name
      (path-whole (store_at stores place.tree).tree parent place.names name found-free last) few

  -- and its refusal is the step's
  pub make-refuses : (e : Errno) → directory_refusal (store_at stores place.tree) ≡ Some e → Serves (λ fs. make_at table fs place) stores handles stores handles (refusal e)
  make-refuses =
      let low = within_stores trees stores (all_outlined V o trees stores hold) place.tree within in
      make-refused table stores handles (of_table_held V o table trees stores handles of stored hold) place low parent found-free
