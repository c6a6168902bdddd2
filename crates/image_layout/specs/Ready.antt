-- The superblock, the trees and the logbooks in step with a device, and the world that they stand for.
use Rattle.std.specs.Prelude.{◌≡◌, ℕ, ◌*◌, ◌≤◌, List, Ok}
use Rattle.apex_types.specs.Rows.{Rows}
use Rattle.apex_model.specs.Durable.{Durable}
use Rattle.apex_model.specs.Image.{state_of}
use Rattle.apex_model.specs.Layout.{superblock_blocks, layout_blocks}
use Rattle.apex_model.specs.World.{World}
use Rattle.open_handles.specs.NodeHandles.{AllHandles}
use Rattle.recover_scan.specs.Mount.{IsImageOf}
use Rattle.rig_core.specs.Leaves.{IsSettled}
use Rattle.rig_core.specs.Outside.{Outside}
use Rattle.logbook_store.specs.Logs.{sites_of as log_sites_of, sites_from as log_sites_from, AreSettled, StandFor}
use Rattle.logbook_store.specs.declared.book.Book.{Book}
use Rattle.tree_store.specs.Serving.{AreStored, StandOver, sites_of, sites_from}
use Rattle.tree_store.specs.declared.store.TreeStore.{TreeStore}

-- The superblock is in step: it is settled, and that of this table.
pub record HasTable (tells_view : Type 0) (table : Rows) (o : Outside) : Type 0 where
  pub room : 512 * layout_blocks table ≤ o.size
  pub settled : IsSettled 0 (512 * superblock_blocks) o
  pub image : tells_view → IsImageOf table o.view

-- Superblock, trees and logbooks are in step with the device, and they are those of the table.
pub record AreInStep (tells_view : Type 0) (table : Rows) (o : Outside) (trees : List TreeStore) (books : List Book) : Type 0 where
  pub superblock : HasTable tells_view table o
  pub tree_sites : sites_of trees ≡ sites_from table 0 table.trees
  pub stored : AreStored tells_view o trees
  pub log_sites : log_sites_of books ≡ log_sites_from table 0 table.logbooks
  pub logs_settled : AreSettled (log_sites_of books) o

-- They stand for the files and the logbooks of a world; for the logbooks where the rig tells its view.
pub record StandForWorld (tells_view : Type 0) (o : Outside) (trees : List TreeStore) (handles : AllHandles) (books : List Book) (w : World) : Type 0 where
  pub files : StandOver tells_view o trees handles w.files
  pub logbooks : tells_view → StandFor books o.view w.logbooks.books

-- the image stands for a state that has P
abbrev pub Stores : Rows → (Durable → Type 0) → List ℕ → Type 0
Stores table P image = (durable : Durable) × (state_of table image ≡ Ok durable) × P durable
