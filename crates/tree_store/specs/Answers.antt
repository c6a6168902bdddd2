-- What a call of a stored tree answers, and what the store is then.
use Rattle.std.specs.Prelude.{◌≡◌, ℕ, ◌+◌, ◌-◌, ◌<◌, ◌≤◌, List, [], ◌∷◌, Option, Some, None, Result, Ok, Err, OnOk, length, unwrap_or, if◌then◌else◌}
use Rattle.apex_types.specs.declared.codes.Errno.{Errno}
use Rattle.apex_types.specs.declared.codes.Errno.TheVariants.{Enospc, Enotempty}
use Rattle.apex_model.specs.Files.{Content, written, resized}
use Rattle.apex_model.specs.Handles.{free_from}
use Rattle.apex_model.specs.Trees.{Name, entries_within}
use Rattle.file_tree.specs.Entries.{slot, way_of, path_in, with_file, with_directory, without_directory, with_file_at}
use Rattle.rig_core.specs.Causes.{Rose}
use Rattle.rig_core.specs.Outside.{Outside}
use Rattle.rig_core.specs.declared.source.DeviceFault.{DeviceFault}
use Rattle.rig_core.specs.Runs.{Runs, Shows}
use Rattle.store_model.specs.Betweens.{tree_long}
use Rattle.store_model.specs.Stores.{StoreValue, kept_at, change_refusal, changed_store, with_names, removed_store}
use Rattle.tree_store.specs.Stored.{site_of, start_of, has_room, IsStored, Holds, IsBetween}
use Rattle.tree_store.specs.declared.refusal.StoreRefusal.{StoreRefusal}
use Rattle.tree_store.specs.declared.refusal.StoreRefusal.TheVariants.{Refused, ReadFault, Device}
use Rattle.tree_store.specs.declared.store.TreeStore.{TreeStore}

-- ---- the values that changes of contents come to, and why they are refused

-- bytes are written to a file from a place on
abbrev pub write_refusal : ℕ → ℕ → List ℕ → StoreValue → Option Errno
write_refusal f from bytes v = change_refusal v f (length (written (kept_at v f).content from bytes))

abbrev pub written_store : ℕ → ℕ → List ℕ → StoreValue → StoreValue
written_store f from bytes v = changed_store v f (written (kept_at v f).content from bytes)

-- a file is cut to a size, or filled up to it
abbrev pub resize_refusal : ℕ → ℕ → StoreValue → Option Errno
resize_refusal f size v = change_refusal v f size

abbrev pub resized_store : ℕ → ℕ → StoreValue → StoreValue
resized_store f size v = changed_store v f (resized (kept_at v f).content size)

-- ---- the values that changes of names come to

-- with an empty file of this name at the least unused entry
abbrev pub made_file : StoreValue → ℕ → Name → StoreValue
made_file v parent name = elim (free_from 0 v.tree.files) [ None ↦ v | Some f ↦ with_names v (with_file v.tree f (path_in v.tree parent name)) ]

abbrev pub made_directory : StoreValue → ℕ → Name → StoreValue
made_directory v parent name = elim (free_from 1 v.tree.directories) [ None ↦ v | Some d ↦ with_names v (with_directory v.tree (d - 1) (path_in v.tree parent name)) ]

-- without the file of an entry, and without the directory
abbrev pub removed_file : StoreValue → ℕ → StoreValue
removed_file v f = elim (slot v.tree.files f) [ None ↦ v | Some path ↦ removed_store v f path ]

abbrev pub removed_directory : StoreValue → ℕ → StoreValue
removed_directory v d = with_names v (without_directory v.tree (d - 1) (unwrap_or (way_of v.tree d) []))

-- with the file of an entry at another path
abbrev pub renamed_file : StoreValue → ℕ → ℕ → Name → StoreValue
renamed_file v f parent name = elim (slot v.tree.files f) [ None ↦ v | Some from ↦ with_names v (with_file_at v.tree f from (path_in v.tree parent name)) ]

-- ---- why they are refused

abbrev pub file_refusal : StoreValue → Option Errno
file_refusal v = elim (free_from 0 v.tree.files) [ None ↦ Some Enospc | Some f ↦ None ]

abbrev pub directory_refusal : StoreValue → Option Errno
directory_refusal v = elim (free_from 1 v.tree.directories) [ None ↦ Some Enospc | Some d ↦ None ]

abbrev pub removal_refusal : StoreValue → ℕ → Option Errno
removal_refusal v d = elim (entries_within v.tree.nodes (unwrap_or (way_of v.tree d) [])) [ [] ↦ None | entry ∷ entries ↦ Some Enotempty ]

-- ---- answers

-- From v the store comes to w, where nothing speaks against it. A refusal changes nothing; behind a failed read it holds what it held;
-- behind another fault nothing is known of it. No read fails where reads is empty.
abbrev pub IsAnswer : {T : Type 0} → Type 0 → Option Errno → StoreValue → StoreValue → Type 0 → Type 0 → Outside → Outside → TreeStore → Result T StoreRefusal → Type 0
IsAnswer tells_view refusal v w unchanged reads o e new (Ok done) = (refusal ≡ None) × Holds tells_view e new w
IsAnswer tells_view refusal v w unchanged reads o e new (Err (Refused errno)) = (refusal ≡ Some errno) × unchanged
IsAnswer tells_view refusal v w unchanged reads o e new (Err ReadFault) = (refusal ≡ None) × reads × Holds tells_view e new v
IsAnswer tells_view refusal v w unchanged reads o e new (Err Device) = (refusal ≡ None) × Rose o.write_faults e.write_faults

-- the same of a call that nothing speaks against
abbrev pub IsDone : {T : Type 0} → Type 0 → StoreValue → Outside → Outside → TreeStore → Result T DeviceFault → Type 0
IsDone tells_view w o e new (Ok done) = Holds tells_view e new w
IsDone tells_view w o e new (Err fault) = Rose o.write_faults e.write_faults

-- where no write or sync failed
abbrev pub UnlessDevice : {T : Type 0} → Result T StoreRefusal → Type 0 → Type 0
UnlessDevice (Ok done) P = P
UnlessDevice (Err (Refused errno)) P = P
UnlessDevice (Err ReadFault) P = P
UnlessDevice (Err Device) P = Unit {0}

-- A call stays within the tree's region, and makes so many writes and syncs at most.
pub record Acts (tells_view : Type 0) (writes syncs : ℕ) (o e : Outside) (old new : TreeStore) : Type 0 where
  pub site : site_of new ≡ site_of old
  pub runs : Runs tells_view (start_of old) (tree_long (site_of old)) writes syncs o e

-- at every moment since o the region stands for what a cut leaves of v or of w, and so it does for the bytes that reads give
abbrev pub Passes : Type 0 → TreeStore → StoreValue → StoreValue → Outside → Outside → Type 0
Passes tells_view old v w o e = Shows tells_view (IsBetween (site_of old) v w) o e

-- so many calls that a change of names makes
abbrev pub name_calls : TreeStore → ℕ
name_calls s = if has_room s then 4 else 7

-- ---- the same for each value that the store held

-- It comes to the word of that value, where nothing speaks against it; a refusal changes neither store nor rig.
abbrev pub ComesTo : {T : Type 0} → Type 0 → (StoreValue → Option Errno) → (StoreValue → StoreValue) → Type 0 → Outside → Outside → TreeStore → TreeStore → Result T StoreRefusal → Type 0
ComesTo tells_view refusal word same_rig o e old new result = (v : StoreValue) → Holds tells_view o old v
    → IsAnswer tells_view (refusal v) v (word v) ((new ≡ old) × same_rig) (Rose o.read_faults e.read_faults) o e new result

-- At every moment the region stands for what a cut leaves of that value or of its word.
abbrev pub PassesAll : Type 0 → TreeStore → (StoreValue → StoreValue) → Outside → Outside → Type 0
PassesAll tells_view old word o e = (v : StoreValue) → Holds tells_view o old v → Passes tells_view old v (word v) o e

-- It is held still.
abbrev pub StaysHeld : Type 0 → Outside → Outside → TreeStore → TreeStore → Type 0
StaysHeld tells_view o e old new = (v : StoreValue) → Holds tells_view o old v → Holds tells_view e new v
