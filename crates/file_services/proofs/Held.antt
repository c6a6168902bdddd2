-- The file that a handle holds, where stores and handles stand for a file system.
use Rattle.std.proofs.Common.{◌≡◌, ℕ, ◌<◌, ◌≤◌, List, Option, Some, ◌∙◌, ap, subst, arith, length}
use Rattle.std.specs.Prelude.{IsSome, IfSome, is_some}
use Rattle.apex_types.specs.declared.calls.OpenMode.TheVariants.{ReadWrite}
use Rattle.apex_types.specs.declared.fields.FileHandle.{FileHandle}
use Rattle.apex_types.specs.declared.numbers.FileNode.{FileNode}
use Rattle.apex_model.specs.Files.{File}
use Rattle.apex_model.specs.FileSystem.{FileSystem, tree_in, on_file_handle, on_file}
use Rattle.apex_model.specs.Handles.{OpenedFile, handle_at}
use Rattle.apex_model.specs.Outcomes.{Outcome}
use Rattle.apex_model.specs.Trees.{Name, file, standing_at}
use Rattle.file_tree.specs.Entries.{TreeValue, slot}
use Rattle.open_handles.specs.NodeHandles.{AllHandles, handles_of, with_file_slot}
use Rattle.rig_core.specs.Outside.{Outside}
use Rattle.store_model.specs.Standing.{IsFile, IsTree}
use Rattle.store_model.specs.Stores.{StoreValue, kept_at, charge_at}
use Rattle.store_model.specs.Systems.{Stands, store_at, file_path, opened_file}
use Rattle.store_model.proofs.Names.{file-found}
use Rattle.store_model.proofs.Systems.{store-there}
use Rattle.store_model.proofs.SystemsFiles.{position-few, position-within}
use Rattle.store_model.proofs.SystemsHeld.{held-file}
use Rattle.store_model.proofs.SystemsWords.{on_file_handle-there, on_file-there}
use Rattle.tree_store.specs.Calls.{AtTree}
use Rattle.tree_store.specs.Naming.{HasFile}
use Rattle.tree_store.specs.Stored.{size_at}
use Rattle.tree_store.specs.declared.store.TreeStore.{TreeStore}
use Rattle.service_parts.specs.Serving.{AreInService, AreSeen, AreStanding}
use Rattle.service_parts.proofs.Held.{all_outlined, at_tree, outline_at, stores_long}

-- what a handle with a file has in a file system
pub record Held (stores : List StoreValue) (fs : FileSystem) (h : FileHandle) (f : FileNode) : Type 0 where
  pub names : List Name
  pub held : File
  pub within : h.tree < length stores
  pub path : file_path stores h.tree f ≡ Some names
  pub opened : (opened_file stores h).path ≡ Some names
  pub tree : IsTree (store_at stores h.tree) (tree_in fs h.tree)
  pub stands : standing_at (tree_in fs h.tree) names ≡ Some (file held)
  pub kept : IsFile (kept_at (store_at stores h.tree) f.0) (charge_at (store_at stores h.tree) f.0) held

module _ (stores : List StoreValue) (handles : AllHandles) (p id : ℕ) (h : FileHandle) (f : FileNode) (at : handle_at (handles_of handles p).files id ≡ Some h) (is : h.file ≡ Some f) where
  pub held-at : (fs : FileSystem) → Stands stores handles fs → Held stores fs h f
  held-at fs s =
      let at_path = held-file stores handles fs s p id h f at is in
      let tree = store-there stores handles fs s h.tree at_path.within in
      let found = file-found (store_at stores h.tree) (tree_in fs h.tree) tree f.0 at_path.names at_path.path in
      record {
        names = at_path.names;
        held = found.0;
        within = at_path.within;
        path = at_path.path;
        opened = at_path.opened;
        tree = tree;
        stands = found.1;
        kept = found.2;
      }

  -- the tree of a handle is one of those that there are
  pub held-within : AreStanding stores handles → h.tree < length stores
  held-within standing = (held-at standing.0 standing.1).within

  -- and its file is used there
  pub held-used : AreStanding stores handles → IsSome (slot (store_at stores h.tree).tree.files f.0)
  held-used standing = ap is_some (held-at standing.0 standing.1).path

  -- the words of a service that goes on with the file of a handle
  pub on_held : {S : Type 0} (fs : FileSystem) (s : Stands stores handles fs) (held : Held stores fs h f) (rest : OpenedFile → List Name → File → Outcome S)
      → on_file_handle fs p id (λ handle. on_file fs handle (rest handle)) ≡ rest (opened_file stores h) held.names held.held
  on_held fs s held rest =
      on_file_handle-there stores handles fs s p id h (λ handle. on_file fs handle (rest handle)) at
      ∙ on_file-there stores handles fs s h held.names held.held (rest (opened_file stores h)) held.opened held.stands

-- a handle that was moved to a position
pub moved-handles : (handles new : AllHandles) (p id position : ℕ) (h : FileHandle) → IfSome (handle_at (handles_of handles p).files id) (λ h. new ≡ with_file_slot handles p id (Some (record h { position = position })))
    → handle_at (handles_of handles p).files id ≡ Some h → new ≡ with_file_slot handles p id (Some (record h { position = position }))
moved-handles handles new p id position h moved at =
    let P : Option FileHandle → Type 0 = λ o. IfSome o (λ h. new ≡ with_file_slot handles p id (Some (record h { position = position }))) in subst P at moved

-- ---- as stored trees see it

module _ (trees : List TreeStore) (handles : AllHandles) (p id : ℕ) (h : FileHandle) (f : FileNode) (at : handle_at (handles_of handles p).files id ≡ Some h) (is : h.file ≡ Some f) where
  module _ (seen : AreSeen trees handles) where
    pub held-tree : h.tree < length trees
    held-tree = let long = stores_long trees seen.0 seen.1 in let low = held-within seen.0 handles p id h f at is seen.2 in omega (arith, long, low)

    pub held-in_use : AtTree trees h.tree (λ store. HasFile store f.0)
    held-in_use = at_tree trees seen.0 seen.1 (λ (v : TreeValue). IsSome (slot v.files f.0)) h.tree (held-used seen.0 handles p id h f at is seen.2)

  -- the position of a handle that may write is within its file
  pub held-position : (V : Type 0) (o : Outside) → AreInService V o trees handles → h.mode ≡ ReadWrite → AtTree trees h.tree (λ store. h.position ≤ size_at store f.0)
  held-position V o ready writes store there =
      let over = ready.serving.1 in
      subst (λ n. h.position ≤ n) ((outline_at trees over.0 (all_outlined V o trees over.0 over.1) h.tree store there).sizes f.0)
      (position-within over.0 handles ready.serving.0 over.2 ready.table ready.serving.2 p id h f at is writes)

-- and that of any handle within the largest file
pub held-low : (V : Type 0) (o : Outside) (trees : List TreeStore) (handles : AllHandles) (p id : ℕ) (h : FileHandle) → handle_at (handles_of handles p).files id ≡ Some h → AreInService V o trees handles → h.position ≤ 1048576
held-low V o trees handles p id h at ready =
    let over = ready.serving.1 in position-few over.0 handles ready.serving.0 over.2 ready.table ready.serving.2 p id h at
