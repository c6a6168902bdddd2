-- What a call to the services comes to, over values of stores and over stored trees.
use Rattle.std.specs.Prelude.{◌≡◌, ◌⊎◌, ℕ, ◌+◌, ◌≤◌, Bool, true, false, List, length, map, Some, Result, IfOk, OnOk, OnErr}
use Rattle.std.specs.List.{AllZip}
use Rattle.apex_types.specs.Rows.{Rows}
use Rattle.apex_types.specs.declared.codes.Errno.TheVariants.{Eio}
use Rattle.apex_types.specs.declared.codes.ReturnCode.TheVariants.{NoError}
use Rattle.apex_types.specs.declared.replies.Reply.{Reply}
use Rattle.apex_model.specs.Accepted.{IsAccepted}
use Rattle.apex_model.specs.FileSystem.{FileSystem}
use Rattle.apex_model.specs.Outcomes.{Outcome, reply_of, state_after}
use Rattle.open_handles.specs.NodeHandles.{AllHandles}
use Rattle.rig_core.specs.Causes.{Rose}
use Rattle.rig_core.specs.Outside.{Outside}
use Rattle.rig_core.specs.declared.source.DeviceFault.{DeviceFault}
use Rattle.rig_core.specs.Runs.{Runs, Shows}
use Rattle.rig_core.specs.Windows.{AreLaidOut, AreWithin}
use Rattle.store_model.specs.Betweens.{AreTreesBetween}
use Rattle.store_model.specs.Stores.{StoreValue, kept_at}
use Rattle.store_model.specs.Systems.{Stands, IsOfTable}
use Rattle.tree_store.specs.Serving.{AreOfTable, AreServing, AreStored, IsAnswered, IsUnread, StandOver, sites_of, window_of}
use Rattle.tree_store.specs.Stored.{changes_at, charges_of, names_of, size_at}
use Rattle.tree_store.specs.declared.store.TreeStore.{TreeStore}
use Rattle.service_parts.specs.Told.{IsTellable}

-- ---- over values of stores

-- they stand for some file system
abbrev pub AreStanding : List StoreValue → AllHandles → Type 0
AreStanding stores handles = (fs : FileSystem) × Stands stores handles fs

-- whatever file system they stood for, this was the reply of the step, and they stand now for the state after it; they are of the same tables as before
pub record Serves (step : FileSystem → Outcome FileSystem) (stores : List StoreValue) (handles : AllHandles) (new_stores : List StoreValue) (new_handles : AllHandles) (told : Reply) : Type 0 where
  pub reply : (fs : FileSystem) → Stands stores handles fs → told ≡ reply_of (step fs)
  pub state : (fs : FileSystem) → Stands stores handles fs → Stands new_stores new_handles (state_after fs (step fs))
  pub of_table : (table : Rows) → IsOfTable table stores handles → IsOfTable table new_stores new_handles
  pub tellable : IsTellable told

-- ---- over stored trees

-- a value as a stored tree shows it without its device: all of it but the contents
pub record Outlines (s : TreeStore) (v : StoreValue) : Type 0 where
  pub names : v.tree ≡ names_of s
  pub sizes : (f : ℕ) → length (kept_at v f).content ≡ size_at s f
  pub changes : (f : ℕ) → (kept_at v f).changes ≡ changes_at s f
  pub charges : v.charges ≡ charges_of s

abbrev pub AllOutline : List TreeStore → List StoreValue → Type 0
AllOutline trees stores = AllZip Outlines trees stores

-- some values that the trees show stand for some file system
abbrev pub AreSeen : List TreeStore → AllHandles → Type 0
AreSeen trees handles = (stores : List StoreValue) × AllOutline trees stores × AreStanding stores handles

-- What a service needs: the trees and handles are those of an accepted table, one tree behind the other and in step with the
-- device, and they stand for a valid file system of the table.
pub record AreInService (tells_view : Type 0) (o : Outside) (trees : List TreeStore) (handles : AllHandles) : Type 0 where
  pub table : Rows
  pub accepted : IsAccepted table
  pub of_table : AreOfTable table trees handles
  pub laid_out : AreLaidOut (map window_of (sites_of trees)) o.size
  pub stored : AreStored tells_view o trees
  pub serving : AreServing tells_view o table trees handles

-- whether a read may fail in a call, and one did
abbrev pub ReadsFailed : Bool → Outside → Outside → Type 0
ReadsFailed true o e = Rose o.read_faults e.read_faults
ReadsFailed false o e = ⊥

-- a reply of EIO comes only where a read failed
abbrev pub EioOnlyIfRead : Outside → Outside → Reply → Type 0
EioOnlyIfRead o e told = told.errno ≡ Some Eio → Rose o.read_faults e.read_faults

-- where cuts are kept, a reply without an error comes only after four calls of the device at least
abbrev pub MakesFourIfDone : Type 0 → Outside → Outside → Result Reply DeviceFault → Type 0
MakesFourIfDone keeps_cuts o e result = keeps_cuts → IfOk result (λ told. told.code ≡ NoError → o.clock + 4 ≤ e.clock)

-- A call was served on a rig that went from o to e. Only a write or sync that failed is a fault.
pub record IsServed (tells_view : Type 0) (step : FileSystem → Outcome FileSystem) (reads : Type 0) (writes syncs : ℕ) (trees new_trees : List TreeStore) (handles new_handles : AllHandles)
    (o e : Outside) (result : Result Reply DeviceFault) : Type 0 where
  pub told : IfOk result (λ told. IsAnswered tells_view step trees new_trees handles new_handles o e told ⊎ IsUnread tells_view reads step trees new_trees handles new_handles o e told)
  -- at every moment a cut leaves each tree as before or as after, each by itself
  pub moments : (fs : FileSystem) → StandOver tells_view o trees handles fs → Shows tells_view (AreTreesBetween (sites_of trees) fs.trees (state_after fs (step fs)).trees) o e
  pub stored : OnOk result (AreStored tells_view e new_trees)
  pub sites : sites_of new_trees ≡ sites_of trees
  pub partitions : length new_handles ≡ length handles
  -- all of it within the regions of trees
  pub runs : (at n : ℕ) → AreWithin at n (map window_of (sites_of trees)) → Runs tells_view at n writes syncs o e
  pub cause : OnErr result (Rose o.write_faults e.write_faults)
  pub tellable : IfOk result IsTellable
