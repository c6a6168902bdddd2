-- What the logbooks of a device and the marks of created ones are, and the system that they stand for.
use Rattle.std.specs.Prelude.{◌≡◌, ℕ, Bool, false, List, length, map}
use Rattle.apex_types.specs.Rows.{Rows}
use Rattle.apex_model.specs.Logbooks.{LogbookSystem}
use Rattle.apex_model.specs.Validity.{IsValidLogbooks}
use Rattle.apex_model.specs.World.{marks_without}
use Rattle.logbook_store.specs.Logs.{StandFor, sites_of, sites_from}
use Rattle.logbook_store.specs.declared.book.Book.{Book}

-- over this image the logbooks and the marks stand for this system
pub record Stands (table : Rows) (logs : List Book) (made : List Bool) (image : List ℕ) (system : LogbookSystem) : Type 0 where
  pub stored : StandFor logs image system.books
  pub marks : made ≡ system.created

-- the logbooks are those of the table, and each has its mark
pub record IsOfTable (table : Rows) (logs : List Book) (made : List Bool) : Type 0 where
  pub sites : sites_of logs ≡ sites_from table 0 table.logbooks
  pub long : length made ≡ length table.logbooks

-- they stand for valid logbooks of the table
abbrev pub IsServing : Rows → List Book → List Bool → List ℕ → Type 0
IsServing table logs made image = (system : LogbookSystem) × Stands table logs made image system × IsValidLogbooks table system

-- no logbook is created
abbrev pub none_made : Rows → List Bool
none_made table = map (λ row. false) table.logbooks

-- the marks without a partition's
abbrev pub marks_forgotten : Rows → ℕ → List Bool → List Bool
marks_forgotten table p marks = marks_without (λ row. row.partition.0) p table.logbooks marks

-- a partition has created no logbook
abbrev pub forgotten : Rows → ℕ → LogbookSystem → LogbookSystem
forgotten table p system = record { books = system.books; created = marks_forgotten table p system.created }
