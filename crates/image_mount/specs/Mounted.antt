-- What is mounted of the image of a table.
use Rattle.std.specs.Prelude.{◌≡◌, ℕ, ◌*◌, List, map, Some, Ok, slice_get}
use Rattle.std.specs.List.{AllZip}
use Rattle.apex_types.specs.Rows.{Rows}
use Rattle.apex_types.specs.declared.rows.TreeRow.{TreeRow}
use Rattle.apex_model.specs.Durable.{StoredFile, StoredLogbook, loaded_book}
use Rattle.apex_model.specs.Image.{state_of}
use Rattle.apex_model.specs.Layout.{tree_start}
use Rattle.apex_model.specs.Trees.{Tree}
use Rattle.rig_core.specs.Outside.{Outside}
use Rattle.logbook_store.specs.Logs.{StandFor}
use Rattle.tree_store.specs.Serving.{AreStored, sites_of, sites_from}
use Rattle.tree_store.specs.Stored.{site_of, IsLoaded, IsStored}
use Rattle.tree_store.specs.declared.store.TreeStore.{TreeStore}
use Rattle.image_layout.specs.Ready.{AreInStep}
use Rattle.image_mount.specs.declared.store.Store.{Store}

-- One tree, by its number in the table: it is in step, and it holds what a run starts from.
pub record IsTreeMounted (tells_view : Type 0) (o : Outside) (table : Rows) (k : ℕ) (store : TreeStore) : Type 0 where
  pub row : TreeRow
  pub there : slice_get table.trees k ≡ Some row
  pub site : site_of store ≡ (row, 512 * tree_start table k)
  pub stored : IsStored tells_view o store
  pub tree : Tree StoredFile
  pub loaded : IsLoaded tells_view o store tree

-- The trees of some first rows of the table.
pub record AreMounted (tells_view : Type 0) (o : Outside) (table : Rows) (rows : List TreeRow) (trees : List TreeStore) : Type 0 where
  pub sites : sites_of trees ≡ sites_from table 0 rows
  pub stored : AreStored tells_view o trees
  pub states : List (Tree StoredFile)
  pub loaded : AllZip (IsLoaded tells_view o) trees states

-- The whole image: all is in step with the device; the trees hold what a run starts from, and with the logbooks, where the rig tells
-- its view, the state that the image stands for.
pub record IsMounted (tells_view : Type 0) (o : Outside) (table : Rows) (store : Store) : Type 0 where
  pub in_step : AreInStep tells_view table o store.trees store.logs
  -- the trees as the image has them
  pub stored : List (Tree StoredFile)
  pub loaded : AllZip (IsLoaded tells_view o) store.trees stored
  pub books : tells_view → (books : List StoredLogbook)
      × (state_of table o.view ≡ Ok (record { trees = stored; logbooks = books })) × StandFor store.logs o.view (map loaded_book books)
