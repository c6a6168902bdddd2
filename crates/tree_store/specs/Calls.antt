-- What a call on one of several stored trees needs, and what it comes to for all of them.
use Rattle.std.specs.Prelude.{◌≡◌, ℕ, ◌+◌, ◌<◌, ◌≤◌, List, length, map, Option, Some, None, Result, Ok, Err, OnOk, slice_get, slice_set}
use Rattle.std.specs.List.{AllZip}
use Rattle.apex_types.specs.declared.codes.Errno.{Errno}
use Rattle.apex_model.specs.Files.{File}
use Rattle.apex_model.specs.Trees.{Tree}
use Rattle.rig_core.specs.Causes.{Rose}
use Rattle.rig_core.specs.Outside.{Outside}
use Rattle.rig_core.specs.declared.source.DeviceFault.{DeviceFault}
use Rattle.rig_core.specs.Runs.{Runs, Shows}
use Rattle.rig_core.specs.Windows.{AreLaidOut, AreWithin}
use Rattle.store_model.specs.Betweens.{AreTreesBetween}
use Rattle.store_model.specs.Standing.{IsTree}
use Rattle.store_model.specs.Stores.{StoreValue}
use Rattle.store_model.specs.Systems.{store_at}
use Rattle.tree_store.specs.Serving.{AllHold, AreStored, sites_of, window_of}
use Rattle.tree_store.specs.declared.refusal.StoreRefusal.{StoreRefusal}
use Rattle.tree_store.specs.declared.refusal.StoreRefusal.TheVariants.{Refused, ReadFault, Device}
use Rattle.tree_store.specs.declared.store.TreeStore.{TreeStore}

-- P of the tree of this number
abbrev pub AtTree : List TreeStore → ℕ → (TreeStore → Type 0) → Type 0
AtTree trees tree P = (store : TreeStore) → slice_get trees tree ≡ Some store → P store

-- There is a tree of this number; all are in step with the device, one behind the other.
pub record AreReady (tells_view : Type 0) (o : Outside) (trees : List TreeStore) (tree : ℕ) : Type 0 where
  pub number : tree < length trees
  pub laid_out : AreLaidOut (map window_of (sites_of trees)) o.size
  pub stored : AreStored tells_view o trees

-- The tree of this number comes to w, where nothing speaks against it, and the others hold what they held. A refusal changes nothing; behind a
-- failed read all hold what they held; behind another fault nothing is known.
abbrev pub IsAnswerAt : {T : Type 0} → Type 0 → Option Errno → ℕ → List StoreValue → StoreValue → Type 0 → Type 0 → Outside → Outside → List TreeStore → Result T StoreRefusal → Type 0
IsAnswerAt tells_view refusal tree stores w unchanged reads o e new (Ok done) = (refusal ≡ None) × AllHold tells_view e new (slice_set stores tree w)
IsAnswerAt tells_view refusal tree stores w unchanged reads o e new (Err (Refused errno)) = (refusal ≡ Some errno) × unchanged
IsAnswerAt tells_view refusal tree stores w unchanged reads o e new (Err ReadFault) = (refusal ≡ None) × reads × AllHold tells_view e new stores
IsAnswerAt tells_view refusal tree stores w unchanged reads o e new (Err Device) = (refusal ≡ None) × Rose o.write_faults e.write_faults

abbrev pub IsDoneAt : {T : Type 0} → Type 0 → ℕ → List StoreValue → StoreValue → Outside → Outside → List TreeStore → Result T DeviceFault → Type 0
IsDoneAt tells_view tree stores w o e new (Ok done) = AllHold tells_view e new (slice_set stores tree w)
IsDoneAt tells_view tree stores w o e new (Err fault) = Rose o.write_faults e.write_faults

-- ---- for all values that the trees held

abbrev pub ComesToAt : {T : Type 0} → Type 0 → ℕ → (StoreValue → Option Errno) → (StoreValue → StoreValue) → Type 0 → Outside → Outside → List TreeStore → List TreeStore → Result T StoreRefusal → Type 0
ComesToAt tells_view tree refusal word same_rig o e old new result = (stores : List StoreValue) → AllHold tells_view o old stores
    → IsAnswerAt tells_view (refusal (store_at stores tree)) tree stores (word (store_at stores tree)) ((new ≡ old) × same_rig) (Rose o.read_faults e.read_faults) o e new result

-- where no read can fail
abbrev pub NamesToAt : {T : Type 0} → Type 0 → ℕ → (StoreValue → Option Errno) → (StoreValue → StoreValue) → Type 0 → Outside → Outside → List TreeStore → List TreeStore → Result T StoreRefusal → Type 0
NamesToAt tells_view tree refusal word same_rig o e old new result = (stores : List StoreValue) → AllHold tells_view o old stores
    → IsAnswerAt tells_view (refusal (store_at stores tree)) tree stores (word (store_at stores tree)) ((new ≡ old) × same_rig) ⊥ o e new result

-- where nothing speaks against the call
abbrev pub DoneToAt : {T : Type 0} → Type 0 → ℕ → (StoreValue → StoreValue) → Outside → Outside → List TreeStore → List TreeStore → Result T DeviceFault → Type 0
DoneToAt tells_view tree word o e old new result = (stores : List StoreValue) → AllHold tells_view o old stores
    → IsDoneAt tells_view tree stores (word (store_at stores tree)) o e new result

-- At every moment the region of each tree stands for what a cut leaves of it before or after the call, each by itself.
abbrev pub PassesAt : Type 0 → ℕ → List TreeStore → (StoreValue → StoreValue) → Outside → Outside → Type 0
PassesAt tells_view tree old word o e = (stores : List StoreValue) (before : List (Tree File)) (after : Tree File) → AllHold tells_view o old stores
    → AllZip IsTree stores before → IsTree (word (store_at stores tree)) after → Shows tells_view (AreTreesBetween (sites_of old) before (slice_set before tree after)) o e

-- what they held they hold
abbrev pub StayHeld : Type 0 → Outside → Outside → List TreeStore → List TreeStore → Type 0
StayHeld tells_view o e old new = (stores : List StoreValue) → AllHold tells_view o old stores → AllHold tells_view e new stores

-- where cuts are kept, a call that comes to its end makes four calls of the device at least
abbrev pub MakesFour : {T E : Type 0} → Type 0 → Outside → Outside → Result T E → Type 0
MakesFour keeps_cuts o e result = keeps_cuts → OnOk result (o.clock + 4 ≤ e.clock)

-- No tree moves, and the call stays within their regions, with so many writes and syncs at most.
pub record ActsAt (tells_view : Type 0) (writes syncs : ℕ) (o e : Outside) (old new : List TreeStore) : Type 0 where
  pub sites : sites_of new ≡ sites_of old
  pub runs : (at n : ℕ) → AreWithin at n (map window_of (sites_of old)) → Runs tells_view at n writes syncs o e
