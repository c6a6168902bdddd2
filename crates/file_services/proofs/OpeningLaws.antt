-- Opening files that stand at a path.
use Rattle.std.proofs.Common.{◌≡◌, ℕ, ◌<◌, Bool, true, false, ◌&&◌, List, Some, None, ◌∙◌, ap, length}
use Rattle.std.specs.Prelude.{Ok, Err}
use Rattle.apex_types.specs.Rows.{Rows}
use Rattle.apex_types.specs.declared.calls.OpenMode.{OpenMode}
use Rattle.apex_types.specs.declared.codes.Errno.{Errno}
use Rattle.apex_types.specs.declared.codes.Errno.TheVariants.{Enoent, Eisdir, Ebusy, Emfile}
use Rattle.apex_types.specs.declared.fields.Spot.TheVariants as spot
use Rattle.apex_types.specs.declared.numbers.DirNode.{DirNode}
use Rattle.apex_types.specs.declared.numbers.FileNode.{FileNode}
use Rattle.apex_types.specs.declared.replies.Reply.{Reply}
use Rattle.apex_types.specs.declared.replies.Values.TheVariants.{Number}
use Rattle.apex_model.specs.FileStep.{FileOutcome, open_at, open_file, opened, right_for}
use Rattle.apex_model.specs.FileSystem.{FileSystem, tree_in, handles_in, on_free_file}
use Rattle.apex_model.specs.Handles.{with_slot, least_free, any_open, is_writer_of, may_write}
use Rattle.apex_model.specs.Outcomes.{accepted, success, refusal, refuse_if}
use Rattle.apex_model.specs.Tables.{Place, place_of}
use Rattle.apex_model.specs.Trees.{Name, standing_at, walk}
use Rattle.file_tree.specs.Entries.{IsSpotAt}
use Rattle.open_handles.specs.NodeHandles.{AllHandles, handles_of, with_file_slot}
use Rattle.open_handles.specs.Nodes.{writes_file}
use Rattle.open_handles.specs.Nodes as nodes
use Rattle.store_model.specs.Stores.{StoreValue}
use Rattle.store_model.specs.Systems.{Stands, store_at, file_path}
use Rattle.store_model.proofs.HandlesHeld.{writes-same}
use Rattle.store_model.proofs.Names.{file-found}
use Rattle.store_model.proofs.Spots.{spot-same}
use Rattle.store_model.proofs.Systems.{store-there, opened-stands, set-of_table}
use Rattle.store_model.proofs.SystemsWords.{on_free_file-found, on_free_file-none}
use Rattle.service_parts.specs.Serving.{Serves}
use Rattle.service_parts.proofs.PathWords.{on_path-err, on_path-walk}
use Rattle.service_parts.proofs.Served.{refused-served, accepted-served, step-served}

-- a place of a tree
abbrev at : ℕ → List Name → Place
at t names = record { tree = t; names = names }

-- opening what stands at a place
abbrev pub open_step : ℕ → OpenMode → ℕ → List Name → FileSystem → FileOutcome
open_step p mode t names fs = open_at fs p mode (record { tree = t; names = names }) (standing_at (tree_in fs t) names)

module _ (stores : List StoreValue) (handles : AllHandles) (p : ℕ) (mode : OpenMode) (t : ℕ) (names : List Name) (within : t < length stores) where
  pub open-nothing : (parent : DirNode) → IsSpotAt (store_at stores t).tree names (spot.Free parent) → Serves (open_step p mode t names) stores handles stores handles (refusal Enoent)
  open-nothing parent free = refused-served (open_step p mode t names) stores handles Enoent
      (λ fs s. ap (open_at fs p mode (at t names)) (spot-same (store_at stores t) (tree_in fs t) (store-there stores handles fs s t within) names (spot.Free parent) free))

  pub open-root : IsSpotAt (store_at stores t).tree names spot.Root → Serves (open_step p mode t names) stores handles stores handles (refusal Eisdir)
  open-root root = refused-served (open_step p mode t names) stores handles Eisdir
      (λ fs s. ap (open_at fs p mode (at t names)) (spot-same (store_at stores t) (tree_in fs t) (store-there stores handles fs s t within) names spot.Root root).1)

  pub open-directory : (parent node : DirNode) (name : Name) → IsSpotAt (store_at stores t).tree names (spot.Directory parent node name) → Serves (open_step p mode t names) stores handles stores handles (refusal Eisdir)
  open-directory parent node name found = refused-served (open_step p mode t names) stores handles Eisdir
      (λ fs s. ap (open_at fs p mode (at t names)) (spot-same (store_at stores t) (tree_in fs t) (store-there stores handles fs s t within) names (spot.Directory parent node name) found))

  module _ (f : FileNode) (path : file_path stores t f ≡ Some names) where
    -- opening a file, by whether it may be opened in this mode
    open-by : (b : Bool) → (may_write mode && any_open (writes_file t f) (handles_of handles p).files) ≡ b → (fs : FileSystem) → Stands stores handles fs
        → open_step p mode t names fs ≡ refuse_if b Ebusy (on_free_file fs p (λ id. accepted (opened fs p id (at t names) mode) (Number id)))
    open-by b busy fs s =
        let found = file-found (store_at stores t) (tree_in fs t) (store-there stores handles fs s t within) f.0 names path in
        let same : (may_write mode && any_open (is_writer_of t names) (handles_in fs p).files) ≡ b = ap (λ (c : Bool). may_write mode && c) (writes-same stores handles fs s t f names path p) ∙ busy in
        ap (open_at fs p mode (at t names)) found.1
        ∙ ap (λ (c : Bool). refuse_if c Ebusy (on_free_file fs p (λ id. accepted (opened fs p id (at t names) mode) (Number id)))) same

    pub open-busy : (may_write mode && any_open (writes_file t f) (handles_of handles p).files) ≡ true → Serves (open_step p mode t names) stores handles stores handles (refusal Ebusy)
    open-busy busy = refused-served (open_step p mode t names) stores handles Ebusy (open-by true busy)

    pub open-full : (may_write mode && any_open (writes_file t f) (handles_of handles p).files) ≡ false → least_free (handles_of handles p).files ≡ None
        → Serves (open_step p mode t names) stores handles stores handles (refusal Emfile)
    open-full fine none = refused-served (open_step p mode t names) stores handles Emfile
        (λ fs s. open-by false fine fs s ∙ on_free_file-none stores handles fs s p (λ id. accepted (opened fs p id (at t names) mode) (Number id)) none)

    pub open-done : (id : ℕ) → (may_write mode && any_open (writes_file t f) (handles_of handles p).files) ≡ false → least_free (handles_of handles p).files ≡ Some id
        → Serves (open_step p mode t names) stores handles stores (with_file_slot handles p id (Some (nodes.opened_file t f mode))) (success (Number id))
    open-done id fine least = accepted-served (open_step p mode t names) stores handles stores (with_file_slot handles p id (Some (nodes.opened_file t f mode))) (Number id)
        (λ fs s. record {
          after = opened fs p id (at t names) mode;
          is = open-by false fine fs s ∙ on_free_file-found stores handles fs s p id (λ id. accepted (opened fs p id (at t names) mode) (Number id)) least;
          stands = opened-stands stores handles fs s p id t f mode names path;
        })
        (λ table o. set-of_table table stores handles o p
        (record { files = with_slot (handles_of handles p).files id (Some (nodes.opened_file t f mode)); directories = (handles_of handles p).directories }))

-- ---- OPEN_FILE

open_rest : FileSystem → ℕ → OpenMode → Place → FileOutcome
open_rest fs p mode place = open_at fs p mode place (standing_at (tree_in fs place.tree) place.names)

module _ (table : Rows) (stores : List StoreValue) (handles : AllHandles) (p : ℕ) (path : List ℕ) (mode : OpenMode) where
  pub open-err : (e : Errno) → place_of table (right_for mode) p path ≡ Err e → Serves (λ fs. open_file table fs p path mode) stores handles stores handles (refusal e)
  unfolding open_file open_rest
  open-err e is = refused-served (λ fs. open_file table fs p path mode) stores handles e (λ fs s. on_path-err table (right_for mode) p path fs e (open_rest fs p mode) is)

  pub open-obstacle : (place : Place) (e : Errno) → place_of table (right_for mode) p path ≡ Ok place → place.tree < length stores → walk (store_at stores place.tree).tree.nodes place.names ≡ Some e
      → Serves (λ fs. open_file table fs p path mode) stores handles stores handles (refusal e)
  unfolding open_file open_rest
  open-obstacle place e is within way = refused-served (λ fs. open_file table fs p path mode) stores handles e
      (λ fs s. on_path-walk table (right_for mode) p path stores handles fs s place is within (Some e) (open_rest fs p mode) way)

  -- the rest of an open is that of the place
  pub open-at : (place : Place) (new_handles : AllHandles) (told : Reply) → place_of table (right_for mode) p path ≡ Ok place → place.tree < length stores
      → walk (store_at stores place.tree).tree.nodes place.names ≡ None → Serves (open_step p mode place.tree place.names) stores handles stores new_handles told
      → Serves (λ fs. open_file table fs p path mode) stores handles stores new_handles told
  unfolding open_file open_rest
  open-at place new_handles told is within way served = step-served (λ fs. open_file table fs p path mode) stores handles (open_step p mode place.tree place.names) stores new_handles told
      (λ fs s. on_path-walk table (right_for mode) p path stores handles fs s place is within None (open_rest fs p mode) way) served
