-- Opening and closing directories.
use Rattle.std.proofs.Common.{◌≡◌, ℕ, ◌<◌, List, Some, None, Ok, Err, ap, length}
use Rattle.apex_types.specs.Rows.{Rows}
use Rattle.apex_types.specs.declared.codes.Errno.{Errno}
use Rattle.apex_types.specs.declared.codes.Errno.TheVariants.{Ebadf, Emfile, Enoent, Enotdir}
use Rattle.apex_types.specs.declared.fields.DirHandle.{DirHandle}
use Rattle.apex_types.specs.declared.fields.Spot.{Spot}
use Rattle.apex_types.specs.declared.fields.Spot.TheVariants as spot
use Rattle.apex_types.specs.declared.numbers.DirNode.{DirNode}
use Rattle.apex_types.specs.declared.numbers.FileNode.{FileNode}
use Rattle.apex_types.specs.declared.replies.Reply.{Reply}
use Rattle.apex_types.specs.declared.replies.Values.TheVariants.{Empty, Number}
use Rattle.apex_model.specs.DirectoryStep.{open_directory_at, open_directory, close_directory}
use Rattle.apex_model.specs.FileSystem.{tree_in, with_directory_handle}
use Rattle.apex_model.specs.Handles.{handle_at, with_slot, least_free}
use Rattle.apex_model.specs.Outcomes.{accepted, success, refusal}
use Rattle.apex_model.specs.Tables.{Place, place_of, owner_or_reader}
use Rattle.apex_model.specs.Trees.{Name, directory, standing_at, walk}
use Rattle.file_tree.specs.Entries.{IsSpotAt}
use Rattle.open_handles.specs.NodeHandles.{AllHandles, handles_of, with_directory_slot}
use Rattle.open_handles.specs.Nodes as nodes
use Rattle.store_model.specs.Stores.{StoreValue}
use Rattle.store_model.specs.Systems.{store_at, directory_path}
use Rattle.store_model.proofs.Systems.{closed_directory-stands, opened_directory-stands, set-of_table}
use Rattle.store_model.proofs.SystemsWords.{on_directory_handle-there, on_directory_handle-absent, on_free_directory-found, on_free_directory-none}
use Rattle.service_parts.specs.Serving.{Serves}
use Rattle.service_parts.proofs.Served.{refused-served, accepted-served, step-served}
use Rattle.service_parts.proofs.PathWords.{on_path-err, on_path-walk}
use Rattle.dir_services.proofs.PathLaws.{free-there, file-there, directory-there, root-there}

module _ (stores : List StoreValue) (handles : AllHandles) (p : ℕ) where
  module _ (id : ℕ) where
    pub close-bad_id : handle_at (handles_of handles p).directories id ≡ None → Serves (λ fs. close_directory fs p id) stores handles stores handles (refusal Ebadf)
    unfolding close_directory
    close-bad_id none = refused-served (λ fs. close_directory fs p id) stores handles Ebadf
        (λ fs s. on_directory_handle-absent stores handles fs s p id (λ handle. accepted (with_directory_handle fs p id None) Empty) none)

    pub close-done : (h : DirHandle) → handle_at (handles_of handles p).directories id ≡ Some h → Serves (λ fs. close_directory fs p id) stores handles stores (with_directory_slot handles p id None) (success Empty)
    unfolding close_directory
    close-done h at = accepted-served (λ fs. close_directory fs p id) stores handles stores (with_directory_slot handles p id None) Empty
        (λ fs s. record {
          after = with_directory_handle fs p id None;
          is = on_directory_handle-there stores handles fs s p id h (λ handle. accepted (with_directory_handle fs p id None) Empty) at;
          stands = closed_directory-stands stores handles fs s p id;
        })
        (λ table o. set-of_table table stores handles o p (record { files = (handles_of handles p).files; directories = with_slot (handles_of handles p).directories id None }))

  module _ (t : ℕ) (names : List Name) where
    -- all numbers are used
    pub open-full : least_free (handles_of handles p).directories ≡ None
        → Serves (λ fs. open_directory_at fs p (record { tree = t; names = names }) (Some directory)) stores handles stores handles (refusal Emfile)
    open-full none = refused-served (λ fs. open_directory_at fs p (record { tree = t; names = names }) (Some directory)) stores handles Emfile
        (λ fs s. on_free_directory-none stores handles fs s p (λ id. accepted (with_directory_handle fs p id (Some (record { tree = t; path = Some names; last = None }))) (Number id)) none)

    -- the least free number is given
    pub open-done : (d : DirNode) (id : ℕ) → directory_path stores t d ≡ Some names → least_free (handles_of handles p).directories ≡ Some id
        → Serves (λ fs. open_directory_at fs p (record { tree = t; names = names }) (Some directory)) stores handles stores (with_directory_slot handles p id (Some (nodes.opened_directory t d))) (success (Number id))
    open-done d id at free =
        accepted-served (λ fs. open_directory_at fs p (record { tree = t; names = names }) (Some directory)) stores handles stores (with_directory_slot handles p id (Some (nodes.opened_directory t d))) (Number id)
        (λ fs s. record {
          after = with_directory_handle fs p id (Some (record { tree = t; path = Some names; last = None }));
          is = on_free_directory-found stores handles fs s p id (λ id. accepted (with_directory_handle fs p id (Some (record { tree = t; path = Some names; last = None }))) (Number id)) free;
          stands = opened_directory-stands stores handles fs s p id t d names at;
        })
        (λ table o. set-of_table table stores handles o p
        (record { files = (handles_of handles p).files; directories = with_slot (handles_of handles p).directories id (Some (nodes.opened_directory t d)) }))

    module _ (low : t < length stores) (end : Spot) (at : IsSpotAt (store_at stores t).tree names end) where
      -- nothing stands at the path
      pub open-nothing : (parent : DirNode) → end ≡ spot.Free parent
          → Serves (λ fs. open_directory_at fs p (record { tree = t; names = names }) (standing_at (tree_in fs t) names)) stores handles stores handles (refusal Enoent)
      open-nothing parent e = refused-served (λ fs. open_directory_at fs p (record { tree = t; names = names }) (standing_at (tree_in fs t) names)) stores handles Enoent
          (λ fs s. ap (open_directory_at fs p (record { tree = t; names = names })) (free-there stores handles t names low end at parent e fs s))

      -- a file stands there
      pub open-file : (parent : DirNode) (node : FileNode) (name : Name) → end ≡ spot.File parent node name
          → Serves (λ fs. open_directory_at fs p (record { tree = t; names = names }) (standing_at (tree_in fs t) names)) stores handles stores handles (refusal Enotdir)
      open-file parent node name e = refused-served (λ fs. open_directory_at fs p (record { tree = t; names = names }) (standing_at (tree_in fs t) names)) stores handles Enotdir
          (λ fs s. ap (open_directory_at fs p (record { tree = t; names = names })) (file-there stores handles t names low end at parent node name e fs s).1)

      module _ (new : AllHandles) (told : Reply) (served : Serves (λ fs. open_directory_at fs p (record { tree = t; names = names }) (Some directory)) stores handles stores new told) where
        -- a directory stands there, or it is the root
        pub open-directory : (parent node : DirNode) (name : Name) → end ≡ spot.Directory parent node name
            → Serves (λ fs. open_directory_at fs p (record { tree = t; names = names }) (standing_at (tree_in fs t) names)) stores handles stores new told
        open-directory parent node name e =
            step-served (λ fs. open_directory_at fs p (record { tree = t; names = names }) (standing_at (tree_in fs t) names)) stores handles
            (λ fs. open_directory_at fs p (record { tree = t; names = names }) (Some directory)) stores new told
            (λ fs s. ap (open_directory_at fs p (record { tree = t; names = names })) (directory-there stores handles t names low end at parent node name e fs s)) served

        pub open-root : end ≡ spot.Root → Serves (λ fs. open_directory_at fs p (record { tree = t; names = names }) (standing_at (tree_in fs t) names)) stores handles stores new told
        open-root e =
            step-served (λ fs. open_directory_at fs p (record { tree = t; names = names }) (standing_at (tree_in fs t) names)) stores handles
            (λ fs. open_directory_at fs p (record { tree = t; names = names }) (Some directory)) stores new told
            (λ fs s. ap (open_directory_at fs p (record { tree = t; names = names })) (root-there stores handles t names low end at e fs s)) served

-- ---- by a path

module _ (table : Rows) (stores : List StoreValue) (handles : AllHandles) (p : ℕ) (bytes : List ℕ) where
  pub open_path-refused : (e : Errno) → place_of table owner_or_reader p bytes ≡ Err e → Serves (λ fs. open_directory table fs p bytes) stores handles stores handles (refusal e)
  unfolding open_directory
  open_path-refused e is = refused-served (λ fs. open_directory table fs p bytes) stores handles e
      (λ fs s. on_path-err table owner_or_reader p bytes fs e (λ place. open_directory_at fs p place (standing_at (tree_in fs place.tree) place.names)) is)

  module _ (place : Place) (is : place_of table owner_or_reader p bytes ≡ Ok place) (low : place.tree < length stores) where
    pub open_path-blocked : (e : Errno) → walk (store_at stores place.tree).tree.nodes place.names ≡ Some e → Serves (λ fs. open_directory table fs p bytes) stores handles stores handles (refusal e)
    unfolding open_directory
    open_path-blocked e met = refused-served (λ fs. open_directory table fs p bytes) stores handles e
        (λ fs s. on_path-walk table owner_or_reader p bytes stores handles fs s place is low (Some e) (λ place. open_directory_at fs p place (standing_at (tree_in fs place.tree) place.names)) met)

    pub open_path-leads : (new : AllHandles) (told : Reply) → walk (store_at stores place.tree).tree.nodes place.names ≡ None
        → Serves (λ fs. open_directory_at fs p place (standing_at (tree_in fs place.tree) place.names)) stores handles stores new told
        → Serves (λ fs. open_directory table fs p bytes) stores handles stores new told
    unfolding open_directory
    open_path-leads new told met served =
        step-served (λ fs. open_directory table fs p bytes) stores handles (λ fs. open_directory_at fs p place (standing_at (tree_in fs place.tree) place.names)) stores new told
        (λ fs s. on_path-walk table owner_or_reader p bytes stores handles fs s place is low None (λ place. open_directory_at fs p place (standing_at (tree_in fs place.tree) place.names)) met) served
