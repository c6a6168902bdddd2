-- What a change of names of a stored tree needs, and what it comes to for each value that the store held.
use Rattle.std.specs.Prelude.{◌≡◌, ℕ, ◌+◌, ◌≤◌, length, Option, None, Result, OnOk, IsSome}
use Rattle.apex_types.specs.declared.codes.Errno.{Errno}
use Rattle.apex_model.specs.Trees.{Name, standing_at}
use Rattle.file_tree.specs.Entries.{path_in, slot, way_of}
use Rattle.rig_core.specs.Outside.{Outside}
use Rattle.rig_core.specs.declared.source.DeviceFault.{DeviceFault}
use Rattle.store_model.specs.Stores.{StoreValue}
use Rattle.tree_store.specs.Answers.{IsAnswer, IsDone, name_calls}
use Rattle.tree_store.specs.Stored.{Holds, names_of}
use Rattle.tree_store.specs.declared.refusal.StoreRefusal.{StoreRefusal}
use Rattle.tree_store.specs.declared.store.TreeStore.{TreeStore}

-- the entry of a file is in use, and that of a directory
abbrev pub HasFile : TreeStore → ℕ → Type 0
HasFile s f = IsSome (slot (names_of s).files f)

abbrev pub HasDirectory : TreeStore → ℕ → Type 0
HasDirectory s d = IsSome (way_of (names_of s) d)

-- nothing has this name in a directory
abbrev pub IsFree : TreeStore → ℕ → Name → Type 0
IsFree s parent name = standing_at (names_of s).nodes (path_in (names_of s) parent name) ≡ None

-- its path has at most 6 names
abbrev pub IsShallow : TreeStore → ℕ → Name → Type 0
IsShallow s parent name = length (path_in (names_of s) parent name) ≤ 6

-- Each value that the store held comes to its word, where nothing speaks against it; a refusal changes neither store nor rig, and no read fails.
abbrev pub NamesTo : {T : Type 0} → Type 0 → (StoreValue → Option Errno) → (StoreValue → StoreValue) → Type 0 → Outside → Outside → TreeStore → TreeStore → Result T StoreRefusal → Type 0
NamesTo tells_view refusal word same_rig o e old new result = (v : StoreValue) → Holds tells_view o old v
    → IsAnswer tells_view (refusal v) v (word v) ((new ≡ old) × same_rig) ⊥ o e new result

-- The same of a call that nothing speaks against.
abbrev pub DoneTo : {T : Type 0} → Type 0 → (StoreValue → StoreValue) → Outside → Outside → TreeStore → TreeStore → Result T DeviceFault → Type 0
DoneTo tells_view word o e old new result = (v : StoreValue) → Holds tells_view o old v → IsDone tells_view (word v) o e new result

-- where cuts are kept the clock rises by the calls of one record, or by those of one slot
abbrev pub RisesBy : {T E : Type 0} → Type 0 → Outside → Outside → TreeStore → Result T E → Type 0
RisesBy keeps_cuts o e old result = keeps_cuts → OnOk result (e.clock ≡ o.clock + name_calls old)
