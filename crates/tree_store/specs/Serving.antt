-- When stored trees and handles stand for a file system, and what a call to the services comes to.
use Rattle.std.specs.Prelude.{◌≡◌, ℕ, ◌+◌, ◌*◌, List, [], ◌∷◌, map, length}
use Rattle.std.specs.List.{AllByRecursion, AllZip}
use Rattle.apex_types.specs.Rows.{Rows}
use Rattle.apex_types.specs.declared.codes.Errno.TheVariants.{Eio}
use Rattle.apex_types.specs.declared.replies.Reply.{Reply}
use Rattle.apex_types.specs.declared.replies.Values.{Values}
use Rattle.apex_types.specs.declared.rows.TreeRow.{TreeRow}
use Rattle.apex_model.specs.FileSystem.{FileSystem}
use Rattle.apex_model.specs.Layout.{tree_start}
use Rattle.apex_model.specs.Outcomes.{Outcome, accepted, refusal, reply_of, state_after}
use Rattle.apex_model.specs.Validity.{IsValidFileSystem}
use Rattle.open_handles.specs.NodeHandles.{AllHandles}
use Rattle.rig_core.specs.Outside.{Outside}
use Rattle.rig_core.specs.Windows.{Window}
use Rattle.store_model.specs.Betweens.{TreeSite, tree_long}
use Rattle.store_model.specs.Stores.{StoreValue}
use Rattle.store_model.specs.Systems.{Stands}
use Rattle.tree_store.specs.Stored.{site_of, IsStored, Holds}
use Rattle.tree_store.specs.declared.store.TreeStore.{TreeStore}

-- ---- all trees of a table

abbrev pub sites_of : List TreeStore → List TreeSite
sites_of trees = map site_of trees

abbrev pub window_of : TreeSite → Window
window_of site = (site.1, tree_long site)

-- the trees of a table from a number on, where the table has them
abbrev pub sites_from : Rows → ℕ → List TreeRow → List TreeSite
sites_from table k [] = []
sites_from table k (row ∷ rows) = (row, 512 * tree_start table k) ∷ sites_from table (k + 1) rows

-- all are in step, and all hold these values
abbrev pub AreStored : Type 0 → Outside → List TreeStore → Type 0
AreStored tells_view o trees = AllByRecursion (IsStored tells_view o) trees

abbrev pub AllHold : Type 0 → Outside → List TreeStore → List StoreValue → Type 0
AllHold tells_view o trees stores = AllZip (Holds tells_view o) trees stores

-- ---- standing for a file system

-- some values that the trees hold stand for it, with the handles. The values are one way to see the trees: where the rig tells
-- its view there is one alone.
abbrev pub StandOver : Type 0 → Outside → List TreeStore → AllHandles → FileSystem → Type 0
StandOver tells_view o trees handles fs = (stores : List StoreValue) × AllHold tells_view o trees stores × Stands stores handles fs

-- they are those of the table
pub record AreOfTable (table : Rows) (trees : List TreeStore) (handles : AllHandles) : Type 0 where
  pub sites : sites_of trees ≡ sites_from table 0 table.trees
  pub partitions : length handles ≡ length table.partitions

-- they stand for a valid file system of the table
abbrev pub AreServing : Type 0 → Outside → Rows → List TreeStore → AllHandles → Type 0
AreServing tells_view o table trees handles = (fs : FileSystem) × StandOver tells_view o trees handles fs × IsValidFileSystem table fs

-- ---- what a call comes to

-- the step accepts the call
abbrev pub IsAccepting : {S : Type 0} → Outcome S → Type 0
IsAccepting {S} outcome = (state : S) × (values : Values) × (outcome ≡ accepted state values)

-- This was told: the reply of the step, and the trees and handles stand for the state after it.
abbrev pub IsAnswered : Type 0 → (FileSystem → Outcome FileSystem) → List TreeStore → List TreeStore → AllHandles → AllHandles → Outside → Outside → Reply → Type 0
IsAnswered tells_view step trees new_trees handles new_handles o e told = (fs : FileSystem) → StandOver tells_view o trees handles fs
    → (tells_view → told ≡ reply_of (step fs)) × StandOver tells_view e new_trees new_handles (state_after fs (step fs))

-- That a read failed was told, where the step accepts the call; they stand for the state before.
pub record IsUnread (tells_view reads : Type 0) (step : FileSystem → Outcome FileSystem) (trees new_trees : List TreeStore) (handles new_handles : AllHandles) (o e : Outside) (told : Reply) : Type 0 where
  pub told_is : told ≡ refusal Eio
  pub cause : reads
  pub unchanged : (fs : FileSystem) → StandOver tells_view o trees handles fs → IsAccepting (step fs) × StandOver tells_view e new_trees new_handles fs
