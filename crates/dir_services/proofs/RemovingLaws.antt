-- Removing directories.
use Rattle.std.proofs.Common.{◌≡◌, ◌≢◌, ℕ, zero, suc, ◌<◌, ◌≤◌, ◌-◌, ◌+◌, ◌++◌, ◌∷◌, [], Bool, true, false, ◌||◌, List, Option, Some, None, Ok, Err, refl, sym, ◌∙◌, ap, subst, length, arith}
use Rattle.std.specs.FinMap.Entries.{find}
use Rattle.std.specs.Prelude.{map, slice_set, unwrap_or}
use Rattle.std.proofs.lemmas.List.{length-append}
use Rattle.apex_types.specs.Rows.{Rows}
use Rattle.apex_types.specs.declared.codes.Errno.{Errno}
use Rattle.apex_types.specs.declared.codes.Errno.TheVariants.{Ebusy, Enoent, Enotdir, Enotempty}
use Rattle.apex_types.specs.declared.fields.Spot.{Spot}
use Rattle.apex_types.specs.declared.fields.Spot.TheVariants as spot
use Rattle.apex_types.specs.declared.numbers.DirNode.{DirNode}
use Rattle.apex_types.specs.declared.numbers.FileNode.{FileNode}
use Rattle.apex_types.specs.declared.replies.Values.TheVariants.{Empty}
use Rattle.apex_model.specs.DirectoryStep.{remove_directory_at, remove_directory, has_entries}
use Rattle.apex_model.specs.FileStep.{FileOutcome, is_empty}
use Rattle.apex_model.specs.FileSystem.{FileSystem, tree_in, handles_in}
use Rattle.apex_model.specs.Handles.{any_open, is_directory_handle_to, with_directories_gone}
use Rattle.apex_model.specs.Outcomes.{accepted, success, refusal, refuse_if}
use Rattle.apex_model.specs.Tables.{Place, place_of, owner_alone}
use Rattle.apex_model.specs.Trees.{Name, Node, directory, path_cmp, standing_at, walk, without_node, entries_within}
use Rattle.apex_model.specs.Validity.{parent_of}
use Rattle.file_tree.specs.Entries.{TreeValue, Place as Entry, IsSpotAt, IsConsistent, slot, way_of, in_directory, path_at, node_at, without_directory}
use Rattle.file_tree.proofs.Changes.{is_some, slot-within}
use Rattle.file_tree.proofs.Listing.{found-within}
use Rattle.file_tree.proofs.Paths.{at_found, changed_directory}
use Rattle.file_tree.proofs.Ways.{not_some}
use Rattle.open_handles.specs.NodeHandles.{AllHandles, handles_of, with_directory_gone}
use Rattle.open_handles.specs.Nodes.{holds_directory}
use Rattle.store_model.specs.Stores.{StoreValue, with_names}
use Rattle.store_model.specs.Systems.{Stands, store_at, directory_path}
use Rattle.store_model.proofs.Changes.{removed_directory-stands}
use Rattle.store_model.proofs.HandlesHeld.{holds_directory-same}
use Rattle.store_model.proofs.Listing.{empty-within, some-within}
use Rattle.store_model.proofs.Systems.{store-there, map-of_table}
use Rattle.store_model.proofs.SystemsSteps.{gone_directory-stands, gone_directory-of_table}
use Rattle.rig_core.specs.Outside.{Outside}
use Rattle.tree_store.specs.Answers.{removal_refusal, removed_directory}
use Rattle.tree_store.specs.Calls.{AtTree}
use Rattle.tree_store.specs.Serving.{AllHold}
use Rattle.tree_store.specs.Stored.{names_of}
use Rattle.tree_store.specs.declared.store.TreeStore.{TreeStore}
use Rattle.service_parts.specs.Serving.{Serves}
use Rattle.service_parts.proofs.Consistent.{without-consistent}
use Rattle.service_parts.proofs.Held.{all_outlined, at_value}
use Rattle.service_parts.proofs.PathWords.{on_path-err, on_path-walk}
use Rattle.service_parts.proofs.Served.{refused-served, accepted-served}
use Rattle.dir_services.proofs.PathLaws.{free-there, file-there, directory-there, last-of, root-path, root-there, within_stores}

-- the state without the directory
abbrev removed : FileSystem → Place → FileSystem
removed fs place = record { trees = slice_set fs.trees place.tree (without_node (tree_in fs place.tree) place.names); handles = map (with_directories_gone place.tree place.names) fs.handles }

-- the rest of the step, by whether the place is the root's or open, and whether something stands there
abbrev remove_where : FileSystem → Place → Bool → Bool → FileOutcome
remove_where fs place busy full = refuse_if busy Ebusy (refuse_if full Enotempty (accepted (removed fs place) Empty))

-- the entry of a directory below the root
entry-of : (v : TreeValue) (n : ℕ) (names : List Name) → n ≢ 0 → way_of v n ≡ Some names → slot v.directories (n - 1) ≡ Some names
entry-of v zero names some e = absurd (some refl)
entry-of v (suc k) names some e = let same : suc k - 1 ≡ k = omega arith in ap (slot v.directories) same ∙ e

-- why a store refuses to remove a directory, by what stands in it
refusal-of : List (Name × Node ℕ) → Option Errno
refusal-of [] = None
refusal-of (entry ∷ entries) = Some Enotempty

empty-of : (entries : List (Name × Node ℕ)) → refusal-of entries ≡ None → entries ≡ []
unfolding refusal-of
empty-of [] none = refl
empty-of (entry ∷ entries) none = absurd (not_some (sym none))

reason-of : (entries : List (Name × Node ℕ)) (e : Errno) → refusal-of entries ≡ Some e → (Enotempty ≡ e) × (1 ≤ length entries)
unfolding refusal-of
reason-of [] e reason = absurd (not_some reason)
reason-of (entry ∷ entries) e reason = (cc, omega arith)

-- a directory in which nothing stands is the parent of no entry
childless : (v : TreeValue) → IsConsistent v → (names : List Name) → entries_within v.nodes names ≡ [] → (b : Entry) (path : List Name) → path_at v.files v.directories b ≡ Some path → names ≢ parent_of path
childless v c names none b path at same =
    let last = last-of path (c.some b path at) in
    let whole : path ≡ names ++ last.0 ∷ [] = sym last.1 ∙ ap (λ (way : List Name). way ++ last.0 ∷ []) (sym same) in
    found-within v.nodes names last.0 (node_at b)
    (ap (λ (q : List Name). find path_cmp q v.nodes) (sym whole) ∙ ap (find path_cmp path) c.nodes_are ∙ at_found v.files v.directories c.distinct b path at) none

-- a path of names is not the root's
is_empty-long : (names : List Name) → 1 ≤ length names → is_empty names ≡ false
is_empty-long [] some = absurd (omega arith)
is_empty-long (name ∷ names) some = refl

-- where a directory below the root has a path, its number is not the root's
pub below_root : (v : TreeValue) (n : ℕ) (before : List Name) (name : Name) (names : List Name) → way_of v n ≡ Some names → names ≡ before ++ name ∷ [] → n ≢ 0
below_root v n before name names e is root =
    let w : Some [] ≡ Some names = ap (way_of v) (sym root) ∙ e in
    let none : [] ≡ names = cc in
    let long : length (before ++ name ∷ []) ≡ length before + 1 = length-append before (name ∷ []) in
    let short : length names ≡ 0 = ap (λ (names : List Name). length names) (sym none) in
    let same : length names ≡ length (before ++ name ∷ []) = ap (λ (names : List Name). length names) is in
    omega (arith, long, short, same)

module _ (stores : List StoreValue) (handles : AllHandles) (p : ℕ) (place : Place) (low : place.tree < length stores) where
  module _ (d : DirNode) (below : d.0 ≢ 0) (path : directory_path stores place.tree d ≡ Some place.names) where
    -- removing a directory, by whether the caller has it open, and whether something stands in it
    remove-by : (busy full : Bool) (fs : FileSystem) (s : Stands stores handles fs) → any_open (holds_directory place.tree d) (handles_of handles p).directories ≡ busy
        → has_entries (entries_within (tree_in fs place.tree) place.names) ≡ full → remove_directory_at fs p place (Some directory) ≡ remove_where fs place busy full
    remove-by busy full fs s held entries =
        let used = entry-of (store_at stores place.tree).tree d.0 place.names below path in
        let long = is_empty-long place.names ((store-there stores handles fs s place.tree low).sound.names.some (in_directory (d.0 - 1)) place.names used) in
        let open_same = holds_directory-same stores handles fs s place.tree d place.names path p ∙ held in
        λ i. remove_where fs place (long i || open_same i) (entries i)

    pub remove-busy : any_open (holds_directory place.tree d) (handles_of handles p).directories ≡ true
        → Serves (λ fs. remove_directory_at fs p place (Some directory)) stores handles stores handles (refusal Ebusy)
    remove-busy held = refused-served (λ fs. remove_directory_at fs p place (Some directory)) stores handles Ebusy
        (λ fs s. remove-by true (has_entries (entries_within (tree_in fs place.tree) place.names)) fs s held refl)

    remove-full : any_open (holds_directory place.tree d) (handles_of handles p).directories ≡ false → 1 ≤ length (entries_within (store_at stores place.tree).tree.nodes place.names)
        → Serves (λ fs. remove_directory_at fs p place (Some directory)) stores handles stores handles (refusal Enotempty)
    remove-full closed some = refused-served (λ fs. remove_directory_at fs p place (Some directory)) stores handles Enotempty
        (λ fs s. remove-by false true fs s closed (some-within (store_at stores place.tree) (tree_in fs place.tree) (store-there stores handles fs s place.tree low) place.names some))

    remove-done : any_open (holds_directory place.tree d) (handles_of handles p).directories ≡ false → entries_within (store_at stores place.tree).tree.nodes place.names ≡ []
        → Serves (λ fs. remove_directory_at fs p place (Some directory)) stores handles
        (slice_set stores place.tree (with_names (store_at stores place.tree) (without_directory (store_at stores place.tree).tree (d.0 - 1) place.names)))
        (map (with_directory_gone place.tree d) handles) (success Empty)
    remove-done closed none =
        let old = store_at stores place.tree in
        let v = with_names old (without_directory old.tree (d.0 - 1) place.names) in
        let used = entry-of old.tree d.0 place.names below path in
        accepted-served (λ fs. remove_directory_at fs p place (Some directory)) stores handles (slice_set stores place.tree v) (map (with_directory_gone place.tree d) handles) Empty
        (λ fs s.
        let tree = store-there stores handles fs s place.tree low in
        let c = tree.sound.names in
        let consistent : IsConsistent (without_directory old.tree (d.0 - 1) place.names)
        = without-consistent old.tree c old.tree.files (slice_set old.tree.directories (d.0 - 1) None) old.tree.stored (in_directory (d.0 - 1)) place.names
        (changed_directory old.tree.files old.tree.directories (d.0 - 1) None (slot-within old.tree.directories (d.0 - 1) (is_some used))) used (childless old.tree c place.names none) c.stored in
        record {
          after = removed fs place;
          is = remove-by false false fs s closed (empty-within old (tree_in fs place.tree) tree place.names none);
          stands = gone_directory-stands stores handles fs s place.tree v (without_node (tree_in fs place.tree) place.names)
              (removed_directory-stands old (tree_in fs place.tree) (d.0 - 1) place.names tree used consistent) d place.names below path refl;
        })
        (λ table o. map-of_table table (slice_set stores place.tree v) handles (gone_directory-of_table table stores handles o place.tree v (d.0 - 1) place.names refl) (with_directory_gone place.tree d))

    -- the directory's entry has the place's path
    way-is : unwrap_or (way_of (store_at stores place.tree).tree d.0) [] ≡ place.names
    way-is = ap (λ (o : Option (List Name)). unwrap_or o []) path

    -- the store gives the directory up
    pub remove-word : any_open (holds_directory place.tree d) (handles_of handles p).directories ≡ false → removal_refusal (store_at stores place.tree) d.0 ≡ None
        → Serves (λ fs. remove_directory_at fs p place (Some directory)) stores handles (slice_set stores place.tree (removed_directory (store_at stores place.tree) d.0))
        (map (with_directory_gone place.tree d) handles) (success Empty)
    unfolding refusal-of
    remove-word closed none =
        let old = store_at stores place.tree in
        let removed_at : List Name → List StoreValue = λ way. slice_set stores place.tree (with_names old (without_directory old.tree (d.0 - 1) way)) in
        let empty : entries_within old.tree.nodes place.names ≡ []
        = ap (entries_within old.tree.nodes) (sym way-is) ∙ empty-of (entries_within old.tree.nodes (unwrap_or (way_of old.tree d.0) [])) none in
        subst (λ (way : List Name). Serves (λ fs. remove_directory_at fs p place (Some directory)) stores handles (removed_at way) (map (with_directory_gone place.tree d) handles) (success Empty))
        (sym way-is) (remove-done closed empty)

    -- the store refuses it
    pub remove-refused : any_open (holds_directory place.tree d) (handles_of handles p).directories ≡ false → (e : Errno) → removal_refusal (store_at stores place.tree) d.0 ≡ Some e
        → Serves (λ fs. remove_directory_at fs p place (Some directory)) stores handles stores handles (refusal e)
    unfolding refusal-of
    remove-refused closed e reason =
        let old = store_at stores place.tree in
        let why = reason-of (entries_within old.tree.nodes (unwrap_or (way_of old.tree d.0) [])) e reason in
        let some : 1 ≤ length (entries_within old.tree.nodes place.names) = subst (λ (way : List Name). 1 ≤ length (entries_within old.tree.nodes way)) way-is why.1 in
        subst (λ (e : Errno). Serves (λ fs. remove_directory_at fs p place (Some directory)) stores handles stores handles (refusal e)) why.0 (remove-full closed some)

  module _ (end : Spot) (at : IsSpotAt (store_at stores place.tree).tree place.names end) where
    -- nothing stands at the path
    pub remove-nothing : (parent : DirNode) → end ≡ spot.Free parent
        → Serves (λ fs. remove_directory_at fs p place (standing_at (tree_in fs place.tree) place.names)) stores handles stores handles (refusal Enoent)
    remove-nothing parent e = refused-served (λ fs. remove_directory_at fs p place (standing_at (tree_in fs place.tree) place.names)) stores handles Enoent
        (λ fs s. ap (remove_directory_at fs p place) (free-there stores handles place.tree place.names low end at parent e fs s))

    -- a file stands there
    pub remove-file : (parent : DirNode) (node : FileNode) (name : Name) → end ≡ spot.File parent node name
        → Serves (λ fs. remove_directory_at fs p place (standing_at (tree_in fs place.tree) place.names)) stores handles stores handles (refusal Enotdir)
    remove-file parent node name e = refused-served (λ fs. remove_directory_at fs p place (standing_at (tree_in fs place.tree) place.names)) stores handles Enotdir
        (λ fs s. ap (remove_directory_at fs p place) (file-there stores handles place.tree place.names low end at parent node name e fs s).1)

    -- it is the root
    pub remove-root : end ≡ spot.Root → Serves (λ fs. remove_directory_at fs p place (standing_at (tree_in fs place.tree) place.names)) stores handles stores handles (refusal Ebusy)
    remove-root e = refused-served (λ fs. remove_directory_at fs p place (standing_at (tree_in fs place.tree) place.names)) stores handles Ebusy
        (λ fs s. ap (remove_directory_at fs p place) (root-there stores handles place.tree place.names low end at e fs s)
        ∙ ap (λ (names : List Name). remove_where fs place (is_empty names || any_open (is_directory_handle_to place.tree place.names) (handles_in fs p).directories)
        (has_entries (entries_within (tree_in fs place.tree) place.names))) (root-path stores handles place.tree place.names low end at e))

    -- a directory stands there
    pub remove-directory : (parent node : DirNode) (name : Name) → end ≡ spot.Directory parent node name → (fs : FileSystem) → Stands stores handles fs
        → remove_directory_at fs p place (standing_at (tree_in fs place.tree) place.names) ≡ remove_directory_at fs p place (Some directory)
    remove-directory parent node name e fs s = ap (remove_directory_at fs p place) (directory-there stores handles place.tree place.names low end at parent node name e fs s)

    pub found-below : (parent node : DirNode) (name : Name) → end ≡ spot.Directory parent node name → node.0 ≢ 0
    found-below parent node name e =
        let is : IsSpotAt (store_at stores place.tree).tree place.names (spot.Directory parent node name) = subst (IsSpotAt (store_at stores place.tree).tree place.names) e at in
        below_root (store_at stores place.tree).tree node.0 (parent_of place.names) name place.names is.2 is.1

-- ---- by a path

-- what is left of the step at a place
remove_rest : FileSystem → ℕ → Place → FileOutcome
remove_rest fs p place = remove_directory_at fs p place (standing_at (tree_in fs place.tree) place.names)

module _ (table : Rows) (stores : List StoreValue) (handles : AllHandles) (p : ℕ) (bytes : List ℕ) where
  pub remove_path-refused : (e : Errno) → place_of table owner_alone p bytes ≡ Err e → Serves (λ fs. remove_directory table fs p bytes) stores handles stores handles (refusal e)
  unfolding remove_directory remove_rest
  remove_path-refused e is = refused-served (λ fs. remove_directory table fs p bytes) stores handles e (λ fs s. on_path-err table owner_alone p bytes fs e (remove_rest fs p) is)

  module _ (place : Place) (is : place_of table owner_alone p bytes ≡ Ok place) (low : place.tree < length stores) where
    pub remove_path-blocked : (e : Errno) → walk (store_at stores place.tree).tree.nodes place.names ≡ Some e → Serves (λ fs. remove_directory table fs p bytes) stores handles stores handles (refusal e)
    unfolding remove_directory remove_rest
    remove_path-blocked e met = refused-served (λ fs. remove_directory table fs p bytes) stores handles e
        (λ fs s. on_path-walk table owner_alone p bytes stores handles fs s place is low (Some e) (remove_rest fs p) met)

    pub remove_path-leads : walk (store_at stores place.tree).tree.nodes place.names ≡ None → (fs : FileSystem) → Stands stores handles fs
        → remove_directory table fs p bytes ≡ remove_directory_at fs p place (standing_at (tree_in fs place.tree) place.names)
    unfolding remove_directory remove_rest
    remove_path-leads met fs s = on_path-walk table owner_alone p bytes stores handles fs s place is low None (remove_rest fs p) met

-- ---- over stored trees

module _ (V : Type 0) (o : Outside) (trees : List TreeStore) (handles : AllHandles) (p : ℕ) (place : Place) (within : place.tree < length trees) (d : DirNode) (below : d.0 ≢ 0)
    (stands : AtTree trees place.tree (λ store. way_of (names_of store) d.0 ≡ Some place.names)) (closed : any_open (holds_directory place.tree d) (handles_of handles p).directories ≡ false)
    (stores : List StoreValue) (hold : AllHold V o trees stores) where
  path-held : directory_path stores place.tree d ≡ Some place.names
  path-held = at_value trees stores (all_outlined V o trees stores hold) (λ v. way_of v d.0 ≡ Some place.names) place.tree within stands

  -- the word of the value that a tree holds serves the step
  pub remove-serves : removal_refusal (store_at stores place.tree) d.0 ≡ None
      → Serves (λ fs. remove_directory_at fs p place (Some directory)) stores handles (slice_set stores place.tree (removed_directory (store_at stores place.tree) d.0))
      (map (with_directory_gone place.tree d) handles) (success Empty)
  remove-serves = remove-word stores handles p place (within_stores trees stores (all_outlined V o trees stores hold) place.tree within) d below path-held closed

  -- and its refusal is the step's
  pub remove-refuses : (e : Errno) → removal_refusal (store_at stores place.tree) d.0 ≡ Some e → Serves (λ fs. remove_directory_at fs p place (Some directory)) stores handles stores handles (refusal e)
  remove-refuses = remove-refused stores handles p place (within_stores trees stores (all_outlined V o trees stores hold) place.tree within) d below path-held closed
