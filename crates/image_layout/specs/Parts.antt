-- An image by its parts: the superblock, and a region for each tree and logbook.
use Rattle.std.specs.Prelude.{◌≡◌, ℕ, List, Some}
use Rattle.std.specs.List.{AllZip}
use Rattle.apex_types.specs.Rows.{Rows}
use Rattle.apex_model.specs.Durable.{Durable, StoredLogbook}
use Rattle.apex_model.specs.Image.{logbook_of_region}
use Rattle.recover_scan.specs.Mount.{IsImageOf}
use Rattle.logbook_store.specs.Logs.{Site}
use Rattle.logbook_store.specs.Regions.{region_at}
use Rattle.store_model.specs.Betweens.{IsTreeAt}
use Rattle.image_layout.specs.Layout.{tree_sites, log_sites}

-- the region of an image stands for this logbook
abbrev pub IsBookAt : Site → StoredLogbook → List ℕ → Type 0
IsBookAt site book image = logbook_of_region site.0 (region_at site.0 site.1 image) ≡ Some book

-- the image is one of this table, and its regions stand for these
pub record HasParts (table : Rows) (image : List ℕ) (stored : Durable) : Type 0 where
  pub superblock : IsImageOf table image
  pub trees : AllZip (λ site tree. IsTreeAt site tree image) (tree_sites table) stored.trees
  pub books : AllZip (λ site book. IsBookAt site book image) (log_sites table) stored.logbooks
