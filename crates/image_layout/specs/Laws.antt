-- What an image that stands for a state is made of.
use Rattle.std.specs.Prelude.{◌≡◌, ℕ, ◌*◌, List, length, Ok}
use Rattle.std.specs.List.{AllZip}
use Rattle.apex_types.specs.Rows.{Rows}
use Rattle.apex_model.specs.Durable.{Durable, IsCut, IsCutBetween}
use Rattle.apex_model.specs.Image.{state_of}
use Rattle.apex_model.specs.Firsts.{first_tree}
use Rattle.apex_model.specs.Layout.{layout_blocks}
use Rattle.apex_model.specs.World.{World}
use Rattle.recover_scan.specs.Mount.{IsImageOf}
use Rattle.rig_core.specs.Leaves.{SpeaksOf}
use Rattle.logbook_store.specs.Books.{IsStored}
use Rattle.logbook_store.specs.Logs.{AreBeforeOrAfter}
use Rattle.store_model.specs.Betweens.{IsTreeAt, AreTreesBetween}
use Rattle.image_layout.specs.Layout.{tree_sites, log_sites}
use Rattle.image_layout.specs.Parts.{HasParts}
use Rattle.image_layout.specs.Ready.{Stores}

-- The parts of an image tell its state, and an image that stands for a state has its parts.
pub record ArePartsOfState (table : Rows) (image : List ℕ) (stored : Durable) : Type 0 where
  pub told : HasParts table image stored → state_of table image ≡ Ok stored
  pub parts : state_of table image ≡ Ok stored → HasParts table image stored

abbrev pub StateIsOfParts : Type 0
StateIsOfParts = (table : Rows) (image : List ℕ) (stored : Durable) → ArePartsOfState table image stored

-- as many trees and logbooks as the table has
pub record HasCounts (table : Rows) (w : World) : Type 0 where
  pub trees : length w.files.trees ≡ length table.trees
  pub books : length w.logbooks.books ≡ length table.logbooks

-- The image is one of the table, and each of its regions is, by itself, as before or as after.
pub record HasPartsBetween (table : Rows) (before after : World) (image : List ℕ) : Type 0 where
  pub superblock : IsImageOf table image
  pub trees : AreTreesBetween (tree_sites table) before.files.trees after.files.trees image
  pub books : AreBeforeOrAfter (log_sites table) before.logbooks.books after.logbooks.books image

-- Such an image stands for what a cut between the two worlds leaves.
abbrev pub PartsAreBetween : Type 0
PartsAreBetween = (table : Rows) (before after : World) (image : List ℕ) → HasCounts table before → HasCounts table after
    → HasPartsBetween table before after image → Stores table (IsCutBetween before after) image

-- The image is one of the table, and each region has the synchronised contents of its tree, or its logbook.
pub record HasPartsOf (table : Rows) (w : World) (image : List ℕ) : Type 0 where
  pub superblock : IsImageOf table image
  pub trees : AllZip (λ site tree. IsTreeAt site (first_tree tree) image) (tree_sites table) w.files.trees
  pub books : AllZip (λ site b. IsStored site.0 site.1 b image) (log_sites table) w.logbooks.books

-- Between calls an image stands for what a cut of the world leaves.
abbrev pub PartsAreNow : Type 0
PartsAreNow = (table : Rows) (w : World) (image : List ℕ) → HasPartsOf table w image → Stores table (IsCut w) image

-- The state is told by the bytes of the layout.
abbrev pub StateIsInLayout : Type 0
StateIsInLayout = (table : Rows) (stored : Durable) → SpeaksOf 0 (512 * layout_blocks table) (λ image. state_of table image ≡ Ok stored)
