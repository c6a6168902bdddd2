-- Renaming files within their trees.
use Rattle.std.proofs.Common.{◌≡◌, ℕ, ◌<◌, ◌≤◌, Bool, true, false, List, Option, Some, None, refl, sym, ◌∙◌, ap, subst, length, arith}
use Rattle.std.specs.Prelude.{◌-◌, ◌==◌, Ok, Err, is_some, map, not, slice_get, slice_set}
use Rattle.std.proofs.lemmas.Bool.Decides.{nat_tests}
use Rattle.apex_types.specs.Rows.{Rows}
use Rattle.apex_types.specs.declared.codes.Errno.{Errno}
use Rattle.apex_types.specs.declared.codes.Errno.TheVariants.{Enoent, Eisdir, Ebusy, Eexist, Einval}
use Rattle.apex_types.specs.declared.fields.Spot.TheVariants as spot
use Rattle.apex_types.specs.declared.numbers.DirNode.{DirNode}
use Rattle.apex_types.specs.declared.numbers.FileNode.{FileNode}
use Rattle.apex_types.specs.declared.replies.Values.TheVariants.{Empty}
use Rattle.apex_model.specs.Files.{File}
use Rattle.apex_model.specs.FileStep.{FileOutcome, rename_at, rename_file}
use Rattle.apex_model.specs.FileSystem.{FileSystem, tree_in, handles_in, at_place}
use Rattle.apex_model.specs.Handles.{any_open, is_file_handle_to, with_files_moved}
use Rattle.apex_model.specs.Outcomes.{accepted, success, refusal, refuse_if, refuse_for}
use Rattle.apex_model.specs.Tables.{Place, owner_alone, place_of}
use Rattle.apex_model.specs.Trees.{Name, Node, directory, file, standing_at, with_node, without_node, walk}
use Rattle.file_tree.specs.Entries.{IsSpotAt, path_in, slot, with_file_at}
use Rattle.open_handles.specs.NodeHandles.{AllHandles, handles_of}
use Rattle.open_handles.specs.Nodes.{holds_file}
use Rattle.store_model.specs.Standing.{IsTree}
use Rattle.store_model.specs.Stores.{StoreValue, with_names}
use Rattle.store_model.specs.Systems.{Stands, store_at, file_path}
use Rattle.store_model.proofs.Changes.{renamed-stands}
use Rattle.store_model.proofs.HandlesHeld.{holds-same}
use Rattle.store_model.proofs.Names.{file-found, walk-same, nothing-standing}
use Rattle.store_model.proofs.Spots.{spot-same}
use Rattle.store_model.proofs.Systems.{store-there}
use Rattle.store_model.proofs.SystemsSteps.{renamed_file-stands, renamed_file-of_table}
use Rattle.tree_store.specs.Answers.{renamed_file}
use Rattle.service_parts.specs.Serving.{Serves}
use Rattle.file_services.proofs.FreePaths.{path-of-free}
use Rattle.service_parts.proofs.Consistent.{with_file_at-consistent}
use Rattle.service_parts.proofs.PathWords.{at_place-err, at_place-ok}
use Rattle.service_parts.proofs.Served.{refused-served, accepted-served}

-- the word of the store is the one with the file at the other path
moved : StoreValue → ℕ → List Name → Option (List Name) → StoreValue
moved v f to None = v
moved v f to (Some from) = with_names v (with_file_at v.tree f from to)

pub renamed-is : (v : StoreValue) (f : ℕ) (from to : List Name) (parent : DirNode) (name : Name) → slot v.tree.files f ≡ Some from → IsSpotAt v.tree to (spot.Free parent) → slice_get to (length to - 1) ≡ Some name
    → renamed_file v f parent.0 name ≡ with_names v (with_file_at v.tree f from to)
unfolding moved
renamed-is v f from to parent name there free last =
    ap (moved v f (path_in v.tree parent.0 name)) there ∙ ap (λ (path : List Name). with_names v (with_file_at v.tree f from path)) (path-of-free v.tree to parent name free last)

-- renaming what stands at a place of a tree
abbrev pub rename_step : ℕ → ℕ → List Name → List Name → FileSystem → FileOutcome
rename_step p t from to fs = rename_at fs p t from to (standing_at (tree_in fs t) from)

-- the state with the file at the other path
abbrev renamed : FileSystem → ℕ → List Name → List Name → File → FileSystem
renamed fs t from to g = record { trees = slice_set fs.trees t (with_node (without_node (tree_in fs t) from) to (file g)); handles = map (with_files_moved t from (Some to)) fs.handles }

module _ (stores : List StoreValue) (handles : AllHandles) (p t : ℕ) (from to : List Name) (within : t < length stores) where
  pub rename-nothing : (parent : DirNode) → IsSpotAt (store_at stores t).tree from (spot.Free parent) → Serves (rename_step p t from to) stores handles stores handles (refusal Enoent)
  rename-nothing parent free = refused-served (rename_step p t from to) stores handles Enoent
      (λ fs s. ap (rename_at fs p t from to) (spot-same (store_at stores t) (tree_in fs t) (store-there stores handles fs s t within) from (spot.Free parent) free))

  pub rename-root : IsSpotAt (store_at stores t).tree from spot.Root → Serves (rename_step p t from to) stores handles stores handles (refusal Eisdir)
  rename-root root = refused-served (rename_step p t from to) stores handles Eisdir
      (λ fs s. ap (rename_at fs p t from to) (spot-same (store_at stores t) (tree_in fs t) (store-there stores handles fs s t within) from spot.Root root).1)

  pub rename-directory : (parent node : DirNode) (name : Name) → IsSpotAt (store_at stores t).tree from (spot.Directory parent node name) → Serves (rename_step p t from to) stores handles stores handles (refusal Eisdir)
  rename-directory parent node name found = refused-served (rename_step p t from to) stores handles Eisdir
      (λ fs s. ap (rename_at fs p t from to) (spot-same (store_at stores t) (tree_in fs t) (store-there stores handles fs s t within) from (spot.Directory parent node name) found))

  module _ (f : FileNode) (path : file_path stores t f ≡ Some from) where
    -- a file that is there
    found-at : (fs : FileSystem) → Stands stores handles fs → (g : File) × (standing_at (tree_in fs t) from ≡ Some (file g))
    found-at fs s = let found = file-found (store_at stores t) (tree_in fs t) (store-there stores handles fs s t within) f.0 from path in (found.0, found.1)

    -- what a rename comes to, by the obstacle on the way to the other path, whether the caller has the file open, and whether something stands there
    rename-by : (o : Option Errno) (busy there : Bool) (fs : FileSystem) (s : Stands stores handles fs) → walk (store_at stores t).tree.nodes to ≡ o
        → any_open (holds_file t f) (handles_of handles p).files ≡ busy → is_some (standing_at (tree_in fs t) to) ≡ there
        → rename_step p t from to fs ≡ refuse_for o (refuse_if busy Ebusy (refuse_if there Eexist (accepted (renamed fs t from to (found-at fs s).0) Empty)))
    rename-by o busy there fs s way held stands =
        let g = (found-at fs s).0 in
        let tree = store-there stores handles fs s t within in
        let same_way : walk (tree_in fs t) to ≡ o = sym (walk-same (store_at stores t) (tree_in fs t) tree to) ∙ way in
        let same_held : any_open (is_file_handle_to t from) (handles_in fs p).files ≡ busy = holds-same stores handles fs s t f from path p ∙ held in
        ap (rename_at fs p t from to) (found-at fs s).1
        ∙ (λ i. refuse_for (same_way i) (refuse_if (same_held i) Ebusy (refuse_if (stands i) Eexist (accepted (renamed fs t from to g) Empty))))

    pub rename-obstacle : (e : Errno) → walk (store_at stores t).tree.nodes to ≡ Some e → Serves (rename_step p t from to) stores handles stores handles (refusal e)
    rename-obstacle e way = refused-served (rename_step p t from to) stores handles e
        (λ fs s. rename-by (Some e) (any_open (holds_file t f) (handles_of handles p).files) (is_some (standing_at (tree_in fs t) to)) fs s way refl refl)

    pub rename-busy : walk (store_at stores t).tree.nodes to ≡ None → any_open (holds_file t f) (handles_of handles p).files ≡ true → Serves (rename_step p t from to) stores handles stores handles (refusal Ebusy)
    rename-busy way busy = refused-served (rename_step p t from to) stores handles Ebusy
        (λ fs s. rename-by None true (is_some (standing_at (tree_in fs t) to)) fs s way busy refl)

    -- something stands at the other path
    rename-exists : (node : (fs : FileSystem) → Stands stores handles fs → Node File) → ((fs : FileSystem) (s : Stands stores handles fs) → standing_at (tree_in fs t) to ≡ Some (node fs s))
        → walk (store_at stores t).tree.nodes to ≡ None → any_open (holds_file t f) (handles_of handles p).files ≡ false → Serves (rename_step p t from to) stores handles stores handles (refusal Eexist)
    rename-exists node stands way closed = refused-served (rename_step p t from to) stores handles Eexist
        (λ fs s. rename-by None false true fs s way closed (ap is_some (stands fs s)))

    pub rename-to_root : IsSpotAt (store_at stores t).tree to spot.Root → walk (store_at stores t).tree.nodes to ≡ None → any_open (holds_file t f) (handles_of handles p).files ≡ false
        → Serves (rename_step p t from to) stores handles stores handles (refusal Eexist)
    rename-to_root root = rename-exists (λ fs s. directory)
        (λ fs s. (spot-same (store_at stores t) (tree_in fs t) (store-there stores handles fs s t within) to spot.Root root).1)

    pub rename-to_directory : (parent node : DirNode) (name : Name) → IsSpotAt (store_at stores t).tree to (spot.Directory parent node name) → walk (store_at stores t).tree.nodes to ≡ None
        → any_open (holds_file t f) (handles_of handles p).files ≡ false → Serves (rename_step p t from to) stores handles stores handles (refusal Eexist)
    rename-to_directory parent node name found = rename-exists (λ fs s. directory)
        (λ fs s. spot-same (store_at stores t) (tree_in fs t) (store-there stores handles fs s t within) to (spot.Directory parent node name) found)

    pub rename-to_file : (parent : DirNode) (node : FileNode) (name : Name) → IsSpotAt (store_at stores t).tree to (spot.File parent node name) → walk (store_at stores t).tree.nodes to ≡ None
        → any_open (holds_file t f) (handles_of handles p).files ≡ false → Serves (rename_step p t from to) stores handles stores handles (refusal Eexist)
    rename-to_file parent node name found = rename-exists
        (λ fs s. file (spot-same (store_at stores t) (tree_in fs t) (store-there stores handles fs s t within) to (spot.File parent node name) found).0)
        (λ fs s. (spot-same (store_at stores t) (tree_in fs t) (store-there stores handles fs s t within) to (spot.File parent node name) found).1)

    pub rename-done : (v : StoreValue) (parent : DirNode) → walk (store_at stores t).tree.nodes to ≡ None → any_open (holds_file t f) (handles_of handles p).files ≡ false
        → IsSpotAt (store_at stores t).tree to (spot.Free parent) → length to ≤ 6 → v ≡ with_names (store_at stores t) (with_file_at (store_at stores t).tree f.0 from to)
        → Serves (rename_step p t from to) stores handles (slice_set stores t v) handles (success Empty)
    rename-done v parent way closed free few is =
        accepted-served (rename_step p t from to) stores handles (slice_set stores t v) handles Empty
        (λ fs s.
        let tree = store-there stores handles fs s t within in
        let found = found-at fs s in
        let new_tree = with_node (without_node (tree_in fs t) from) to (file found.0) in
        let consistent = with_file_at-consistent (store_at stores t).tree tree.sound.names f.0 from to parent path free.0 free.1 few in
        let stands_for : IsTree v new_tree = subst (λ (w : StoreValue). IsTree w new_tree) (sym is) (renamed-stands (store_at stores t) (tree_in fs t) f.0 from to found.0 tree path free.1 found.1 consistent) in
        record {
          after = renamed fs t from to found.0;
          is = rename-by None false false fs s way closed (ap is_some (nothing-standing (store_at stores t) (tree_in fs t) tree to free.1));
          stands = renamed_file-stands stores handles fs s t v new_tree stands_for f from to path is;
        })
        (λ table o. renamed_file-of_table table stores handles o t v f.0 from to is)

-- ---- RENAME_FILE

-- the rest at two places
rename_both : FileSystem → ℕ → Place → Place → FileOutcome
rename_both fs p source target =
    refuse_if (not (source.tree == target.tree)) Einval (
    refuse_for (walk (tree_in fs source.tree) source.names) (
    rename_at fs p source.tree source.names target.names (standing_at (tree_in fs source.tree) source.names)))

rename_rest : Rows → FileSystem → ℕ → List ℕ → Place → FileOutcome
rename_rest table fs p to source = at_place (place_of table owner_alone p to) (rename_both fs p source)

module _ (table : Rows) (stores : List StoreValue) (handles : AllHandles) (p : ℕ) (from to : List ℕ) where
  pub rename-err : (e : Errno) → place_of table owner_alone p from ≡ Err e → Serves (λ fs. rename_file table fs p from to) stores handles stores handles (refusal e)
  unfolding rename_file rename_rest rename_both
  rename-err e is = refused-served (λ fs. rename_file table fs p from to) stores handles e (λ fs s. at_place-err table owner_alone p from e (rename_rest table fs p to) is)

  module _ (source : Place) (is : place_of table owner_alone p from ≡ Ok source) where
    -- once the first path was read
    rename-source : (fs : FileSystem) → rename_file table fs p from to ≡ at_place (place_of table owner_alone p to) (rename_both fs p source)
    unfolding rename_file rename_rest rename_both
    rename-source fs = at_place-ok table owner_alone p from source (rename_rest table fs p to) is

    pub rename-target_err : (e : Errno) → place_of table owner_alone p to ≡ Err e → Serves (λ fs. rename_file table fs p from to) stores handles stores handles (refusal e)
    rename-target_err e is = refused-served (λ fs. rename_file table fs p from to) stores handles e
        (λ fs s. rename-source fs ∙ at_place-err table owner_alone p to e (rename_both fs p source) is)

    module _ (target : Place) (leads : place_of table owner_alone p to ≡ Ok target) where
      pub rename-elsewhere : (source.tree ≡ target.tree → ⊥) → Serves (λ fs. rename_file table fs p from to) stores handles stores handles (refusal Einval)
      unfolding rename_both
      rename-elsewhere apart =
          let test : not (source.tree == target.tree) ≡ true = grind (arith, nat_tests) in
          refused-served (λ fs. rename_file table fs p from to) stores handles Einval
          (λ fs s. rename-source fs ∙ at_place-ok table owner_alone p to target (rename_both fs p source) leads
          ∙ ap (λ (b : Bool). refuse_if b Einval (
          refuse_for (walk (tree_in fs source.tree) source.names) (
          rename_at fs p source.tree source.names target.names (standing_at (tree_in fs source.tree) source.names)))) test)

      module _ (same : source.tree ≡ target.tree) (within : source.tree < length stores) where
        -- within one tree the walk in the store decides
        rename-walk : (o : Option Errno) → walk (store_at stores source.tree).tree.nodes source.names ≡ o → (fs : FileSystem) → Stands stores handles fs
            → rename_file table fs p from to ≡ refuse_for o (rename_step p source.tree source.names target.names fs)
        unfolding rename_both
        rename-walk o way fs s =
            let test : not (source.tree == target.tree) ≡ false = grind (arith, nat_tests) in
            let tree = store-there stores handles fs s source.tree within in
            let same_way : walk (tree_in fs source.tree) source.names ≡ o = sym (walk-same (store_at stores source.tree) (tree_in fs source.tree) tree source.names) ∙ way in
            rename-source fs ∙ at_place-ok table owner_alone p to target (rename_both fs p source) leads
            ∙ (λ i. refuse_if (test i) Einval (refuse_for (same_way i) (rename_step p source.tree source.names target.names fs)))

        pub rename-way : (e : Errno) → walk (store_at stores source.tree).tree.nodes source.names ≡ Some e → Serves (λ fs. rename_file table fs p from to) stores handles stores handles (refusal e)
        rename-way e way = refused-served (λ fs. rename_file table fs p from to) stores handles e (rename-walk (Some e) way)

        -- the rest is that of the tree of the second path
        pub rename-within : walk (store_at stores source.tree).tree.nodes source.names ≡ None → (fs : FileSystem) → Stands stores handles fs
            → rename_file table fs p from to ≡ rename_step p target.tree source.names target.names fs
        rename-within way fs s = rename-walk None way fs s ∙ ap (λ (t : ℕ). rename_step p t source.names target.names fs) same
