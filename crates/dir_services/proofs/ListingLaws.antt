-- Listing directories.
use Rattle.std.proofs.Common.{◌≡◌, ℕ, ◌<◌, List, [], Option, Some, None, sym, ◌∙◌, ap, subst, length, arith}
use Rattle.std.specs.Prelude.{IsSome, IfSome, is_some, unwrap_or}
use Rattle.apex_types.specs.Rows.{Rows}
use Rattle.apex_types.specs.declared.codes.Errno.TheVariants.{Ebadf, Estale}
use Rattle.apex_types.specs.declared.fields.DirHandle.{DirHandle}
use Rattle.apex_types.specs.declared.fields.Spot.{Spot}
use Rattle.apex_types.specs.declared.fields.Spot.TheVariants as spot
use Rattle.apex_types.specs.declared.numbers.DirNode.{DirNode}
use Rattle.apex_types.specs.declared.numbers.FileNode.{FileNode}
use Rattle.apex_types.specs.declared.replies.Values.TheVariants.{Empty, FileEntry, DirectoryEntry, EndOfDirectory}
use Rattle.apex_model.specs.DirectoryStep.{read_directory, rewind_directory, sync_directory, give_entry, with_last}
use Rattle.apex_model.specs.FileStep.{FileOutcome}
use Rattle.apex_model.specs.FileSystem.{FileSystem, tree_in, on_directory, on_directory_handle}
use Rattle.apex_model.specs.Handles.{OpenedDirectory, handle_at, with_slot}
use Rattle.apex_model.specs.Outcomes.{accepted, success, refusal}
use Rattle.apex_model.specs.Tables.{owner_or_reader}
use Rattle.apex_model.specs.Trees.{Name, next_entry}
use Rattle.file_tree.specs.Entries.{TreeValue, IsNextSpot, way_of}
use Rattle.open_handles.specs.NodeHandles.{AllHandles, handles_of, with_directory_slot}
use Rattle.store_model.specs.Stores.{StoreValue, kept_at}
use Rattle.store_model.specs.Systems.{Stands, IsServing, store_at, directory_path, opened_directory}
use Rattle.store_model.proofs.Spots.{next-spot-same}
use Rattle.store_model.proofs.Systems.{directory_handle-there, last-stands, store-there, trees-long, set-of_table}
use Rattle.store_model.proofs.SystemsHeld.{held-directory}
use Rattle.store_model.proofs.SystemsWords.{on_directory_handle-there, on_directory_handle-absent, on_directory-there, on_directory-stale}
use Rattle.model_laws.proofs.FileSystems.{row_of, within-zip}
use Rattle.tree_store.specs.Calls.{AtTree}
use Rattle.tree_store.specs.Stored.{names_of}
use Rattle.tree_store.specs.declared.store.TreeStore.{TreeStore}
use Rattle.service_parts.specs.Serving.{Serves}
use Rattle.service_parts.proofs.Held.{stores_long, tree_of}
use Rattle.service_parts.proofs.Served.{refused-served, accepted-served}
use Rattle.dir_services.specs.Seen.{AreSeenServing}

-- what a read, a rewind and a synchronisation are made of, once a handle's directory is known
read_rest : FileSystem → ℕ → ℕ → OpenedDirectory → List Name → FileOutcome
read_rest fs p id handle names = give_entry fs p id handle (next_entry (tree_in fs handle.tree) names handle.last)

rewind_rest : FileSystem → ℕ → ℕ → OpenedDirectory → List Name → FileOutcome
rewind_rest fs p id handle names = accepted (with_last fs p id handle None) Empty

sync_rest : FileSystem → OpenedDirectory → List Name → FileOutcome
sync_rest fs handle names = accepted fs Empty

-- what a listing finds, where tree, last name and entry are these
pub next-as : (v w : TreeValue) (d : ℕ) (last given : Option Name) (o found : Option Spot) → v ≡ w → last ≡ given → o ≡ found → IsNextSpot v (unwrap_or (way_of v d) []) last o
    → IsNextSpot w (unwrap_or (way_of w d) []) given found
next-as v w d last given o found a b c next =
    let P : TreeValue → Type 0 = λ u. IsNextSpot u (unwrap_or (way_of u d) []) given found in
    let Q : Option Name → Type 0 = λ l. IsNextSpot v (unwrap_or (way_of v d) []) l found in
    let R : Option Spot → Type 0 = λ q. IsNextSpot v (unwrap_or (way_of v d) []) last q in
    subst P a (subst Q b (subst R c next))

-- the handles with another last name of one
pub last-set : (handles new : AllHandles) (p id : ℕ) (h : DirHandle) (last wanted : Option Name) → handle_at (handles_of handles p).directories id ≡ Some h → last ≡ wanted
    → IfSome (handle_at (handles_of handles p).directories id) (λ k. new ≡ with_directory_slot handles p id (Some (record k { last = last })))
    → new ≡ with_directory_slot handles p id (Some (record h { last = wanted }))
last-set handles new p id h last wanted at e set =
    let P : Option DirHandle → Type 0 = λ o. IfSome o (λ k. new ≡ with_directory_slot handles p id (Some (record k { last = last }))) in
    subst P at set ∙ ap (λ (l : Option Name). with_directory_slot handles p id (Some (record h { last = l }))) e

module _ (stores : List StoreValue) (handles : AllHandles) (p id : ℕ) where
  -- ---- the number is not open

  pub read-bad_id : handle_at (handles_of handles p).directories id ≡ None → Serves (λ fs. read_directory fs p id) stores handles stores handles (refusal Ebadf)
  unfolding read_directory read_rest
  read-bad_id none = refused-served (λ fs. read_directory fs p id) stores handles Ebadf
      (λ fs s. on_directory_handle-absent stores handles fs s p id (λ handle. on_directory handle (read_rest fs p id handle)) none)

  pub rewind-bad_id : handle_at (handles_of handles p).directories id ≡ None → Serves (λ fs. rewind_directory fs p id) stores handles stores handles (refusal Ebadf)
  unfolding rewind_directory rewind_rest
  rewind-bad_id none = refused-served (λ fs. rewind_directory fs p id) stores handles Ebadf
      (λ fs s. on_directory_handle-absent stores handles fs s p id (λ handle. on_directory handle (rewind_rest fs p id handle)) none)

  pub sync-bad_id : handle_at (handles_of handles p).directories id ≡ None → Serves (λ fs. sync_directory fs p id) stores handles stores handles (refusal Ebadf)
  unfolding sync_directory sync_rest
  sync-bad_id none = refused-served (λ fs. sync_directory fs p id) stores handles Ebadf
      (λ fs s. on_directory_handle-absent stores handles fs s p id (λ handle. on_directory handle (sync_rest fs handle)) none)

  module _ (h : DirHandle) (at : handle_at (handles_of handles p).directories id ≡ Some h) where
    -- ---- the handle is stale

    pub read-stale : h.directory ≡ None → Serves (λ fs. read_directory fs p id) stores handles stores handles (refusal Estale)
    unfolding read_directory read_rest
    read-stale none = refused-served (λ fs. read_directory fs p id) stores handles Estale
        (λ fs s. on_directory_handle-there stores handles fs s p id h (λ handle. on_directory handle (read_rest fs p id handle)) at
        ∙ on_directory-stale stores h (read_rest fs p id (opened_directory stores h)) none)

    pub rewind-stale : h.directory ≡ None → Serves (λ fs. rewind_directory fs p id) stores handles stores handles (refusal Estale)
    unfolding rewind_directory rewind_rest
    rewind-stale none = refused-served (λ fs. rewind_directory fs p id) stores handles Estale
        (λ fs s. on_directory_handle-there stores handles fs s p id h (λ handle. on_directory handle (rewind_rest fs p id handle)) at
        ∙ on_directory-stale stores h (rewind_rest fs p id (opened_directory stores h)) none)

    pub sync-stale : h.directory ≡ None → Serves (λ fs. sync_directory fs p id) stores handles stores handles (refusal Estale)
    unfolding sync_directory sync_rest
    sync-stale none = refused-served (λ fs. sync_directory fs p id) stores handles Estale
        (λ fs s. on_directory_handle-there stores handles fs s p id h (λ handle. on_directory handle (sync_rest fs handle)) at
        ∙ on_directory-stale stores h (sync_rest fs (opened_directory stores h)) none)

    module _ (d : DirNode) (is : h.directory ≡ Some d) where
      -- the words of a service that goes on with the directory of a handle
      on_held : (fs : FileSystem) → Stands stores handles fs → (rest : OpenedDirectory → List Name → FileOutcome)
          → on_directory_handle fs p id (λ handle. on_directory handle (rest handle)) ≡ rest (opened_directory stores h) (unwrap_or (directory_path stores h.tree d) [])
      on_held fs s rest =
          let held = held-directory stores handles fs s p id h d at is in
          on_directory_handle-there stores handles fs s p id h (λ handle. on_directory handle (rest handle)) at
          ∙ on_directory-there stores h (rest (opened_directory stores h)) held.names held.opened
          ∙ ap (λ (path : Option (List Name)). rest (opened_directory stores h) (unwrap_or path [])) (sym held.path)

      pub rewind-done : Serves (λ fs. rewind_directory fs p id) stores handles stores (with_directory_slot handles p id (Some (record h { last = None }))) (success Empty)
      unfolding rewind_directory rewind_rest
      rewind-done = accepted-served (λ fs. rewind_directory fs p id) stores handles stores (with_directory_slot handles p id (Some (record h { last = None }))) Empty
          (λ fs s. record {
            after = with_last fs p id (opened_directory stores h) None;
            is = on_held fs s (rewind_rest fs p id);
            stands = last-stands stores handles fs s p id h None at;
          })
          (λ table o. set-of_table table stores handles o p (record { files = (handles_of handles p).files; directories = with_slot (handles_of handles p).directories id (Some (record h { last = None })) }))

      pub sync-done : Serves (λ fs. sync_directory fs p id) stores handles stores handles (success Empty)
      unfolding sync_directory sync_rest
      sync-done = accepted-served (λ fs. sync_directory fs p id) stores handles stores handles Empty
          (λ fs s. record { after = fs; is = on_held fs s (sync_rest fs); stands = s })
          (λ table o. o)

      module _ (table : Rows) (serving : IsServing table stores handles) where
        -- the directory is one of a tree that there is
        pub held-within : h.tree < length stores
        held-within =
            let fs = serving.0 in
            let s = serving.1 in
            let valid = serving.2 in
            let row = row_of table owner_or_reader p h.tree (valid.directories p id (opened_directory stores h) (directory_handle-there stores handles fs s p id h at)).holder in
            let low = within-zip table.trees fs.trees h.tree row.0 valid.trees row.1 in
            subst (λ (n : ℕ). h.tree < n) (trees-long stores handles fs s) low

        -- and its entry is used there
        pub held-used : IsSome (way_of (store_at stores h.tree).tree d.0)
        held-used = ap is_some (held-directory stores handles serving.0 serving.1 p id h d at is).path

      -- the path of the handle's directory
      way : List Name
      way = unwrap_or (directory_path stores h.tree d) []

      module _ (low : h.tree < length stores) where
        -- no name is behind the last one given
        pub read-end : IsNextSpot (store_at stores h.tree).tree (unwrap_or (directory_path stores h.tree d) []) h.last None
            → Serves (λ fs. read_directory fs p id) stores handles stores handles (success EndOfDirectory)
        unfolding read_directory read_rest way
        read-end next = accepted-served (λ fs. read_directory fs p id) stores handles stores handles EndOfDirectory
            (λ fs s. record {
              after = fs;
              is = on_held fs s (read_rest fs p id)
                  ∙ ap (give_entry fs p id (opened_directory stores h)) (next-spot-same (store_at stores h.tree) (tree_in fs h.tree) (store-there stores handles fs s h.tree low) way h.last None next);
              stands = s;
            })
            (λ table o. o)

        pub read-directory : (next_spot : Spot) (parent node : DirNode) (name : Name) → next_spot ≡ spot.Directory parent node name
            → IsNextSpot (store_at stores h.tree).tree (unwrap_or (directory_path stores h.tree d) []) h.last (Some next_spot)
            → Serves (λ fs. read_directory fs p id) stores handles stores (with_directory_slot handles p id (Some (record h { last = Some name }))) (success (DirectoryEntry name))
        unfolding read_directory read_rest way
        read-directory next_spot parent node name e given =
            let next = subst (λ (o : Spot). IsNextSpot (store_at stores h.tree).tree way h.last (Some o)) e given in
            accepted-served (λ fs. read_directory fs p id) stores handles stores (with_directory_slot handles p id (Some (record h { last = Some name }))) (DirectoryEntry name)
            (λ fs s. record {
              after = with_last fs p id (opened_directory stores h) (Some name);
              is = on_held fs s (read_rest fs p id)
                  ∙ ap (give_entry fs p id (opened_directory stores h))
                  (next-spot-same (store_at stores h.tree) (tree_in fs h.tree) (store-there stores handles fs s h.tree low) way h.last (Some (spot.Directory parent node name)) next);
              stands = last-stands stores handles fs s p id h (Some name) at;
            })
            (λ table o. set-of_table table stores handles o p
            (record { files = (handles_of handles p).files; directories = with_slot (handles_of handles p).directories id (Some (record h { last = Some name })) }))

        pub read-file : (next_spot : Spot) (parent : DirNode) (node : FileNode) (name : Name) → next_spot ≡ spot.File parent node name
            → IsNextSpot (store_at stores h.tree).tree (unwrap_or (directory_path stores h.tree d) []) h.last (Some next_spot)
            → Serves (λ fs. read_directory fs p id) stores handles stores (with_directory_slot handles p id (Some (record h { last = Some name })))
            (success (FileEntry name (length (kept_at (store_at stores h.tree) node.0).content)))
        unfolding read_directory read_rest way
        read-file next_spot parent node name e given =
            let next = subst (λ (o : Spot). IsNextSpot (store_at stores h.tree).tree way h.last (Some o)) e given in
            accepted-served (λ fs. read_directory fs p id) stores handles stores (with_directory_slot handles p id (Some (record h { last = Some name })))
            (FileEntry name (length (kept_at (store_at stores h.tree) node.0).content))
            (λ fs s. let found = next-spot-same (store_at stores h.tree) (tree_in fs h.tree) (store-there stores handles fs s h.tree low) way h.last (Some (spot.File parent node name)) next in
            record {
              after = with_last fs p id (opened_directory stores h) (Some name);
              is = on_held fs s (read_rest fs p id)
                  ∙ ap (give_entry fs p id (opened_directory stores h)) found.1
                  ∙ (λ i. accepted (with_last fs p id (opened_directory stores h) (Some name)) (FileEntry name (length (sym found.2.content i))));
              stands = last-stands stores handles fs s p id h (Some name) at;
            })
            (λ table o. set-of_table table stores handles o p
            (record { files = (handles_of handles p).files; directories = with_slot (handles_of handles p).directories id (Some (record h { last = Some name })) }))

-- ---- over trees that are seen

module _ (trees : List TreeStore) (handles : AllHandles) (seen : AreSeenServing trees handles) (p id : ℕ) (h : DirHandle) (at : handle_at (handles_of handles p).directories id ≡ Some h)
    (d : DirNode) (is : h.directory ≡ Some d) where
  pub seen-within : h.tree < length trees
  seen-within =
      let low = held-within seen.0 handles p id h at d is seen.2 seen.3 in
      let long = stores_long trees seen.0 seen.1 in
      omega (arith, low, long)

  pub seen-used : (names : TreeValue) → AtTree trees h.tree (λ store. names ≡ names_of store) → IsSome (way_of names d.0)
  seen-used names told =
      subst (λ (v : TreeValue). IsSome (way_of v d.0)) (sym (tree_of trees seen.0 seen.1 h.tree seen-within names told))
      (held-used seen.0 handles p id h at d is seen.2 seen.3)
