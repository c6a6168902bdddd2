-- What the tests keep between the steps of logbooks.
use Rattle.std.specs.Prelude.{List, Bool}
use Rattle.apex_types.specs.Rows.{Rows}
use Rattle.apex_model.specs.Accepted.{IsAccepted}
use Rattle.rig_core.specs.Outside.{Outside}
use Rattle.logbook_store.specs.Logs.{AreLaidOut, AreSettled, sites_of}
use Rattle.logbook_store.specs.declared.book.Book.{Book}
use Rattle.logbook_services.specs.Standing.{IsOfTable, IsServing}

-- The logbooks of an accepted table lie on the device and serve it, and nothing of theirs is pending there.
pub record IsInStep (V : Type 0) (o : Outside) (table : Rows) (logs : List Book) (made : List Bool) : Type 0 where
  pub accepted : IsAccepted table
  pub of_table : IsOfTable table logs made
  pub laid_out : AreLaidOut (sites_of logs) o.size
  pub settled : AreSettled (sites_of logs) o
  pub serving : V → IsServing table logs made o.view
