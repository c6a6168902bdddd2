-- Marks after a restart.
use Rattle.std.proofs.Common.{◌≡◌, ℕ, Bool, List, length, ◌∙◌, ap}
use Rattle.apex_types.specs.Rows.{Rows}
use Rattle.apex_model.specs.Logbooks.{LogbookSystem}
use Rattle.model_laws.proofs.Steps.{marks-length}
use Rattle.logbook_store.specs.declared.book.Book.{Book}
use Rattle.logbook_services.specs.Standing.{Stands, IsOfTable, IsServing, marks_forgotten, forgotten}

module _ (table : Rows) (p : ℕ) (old new : List Bool) (is : new ≡ marks_forgotten table p old) (long : length old ≡ length table.logbooks) where
  pub forgotten-long : length new ≡ length table.logbooks
  forgotten-long = ap length is ∙ marks-length (λ row. row.partition.0) p table.logbooks old long

  pub forgotten-of_table : (logs : List Book) → IsOfTable table logs old → IsOfTable table logs new
  forgotten-of_table logs of_table = record { sites = of_table.sites; long = forgotten-long }

  pub forgotten-stands : (logs : List Book) (image : List ℕ) (system : LogbookSystem) → Stands table logs old image system → Stands table logs new image (forgotten table p system)
  forgotten-stands logs image system stands = record { stored = stands.stored; marks = is ∙ ap (λ (marks : List Bool). marks_forgotten table p marks) stands.marks }

  pub forgotten-serving : (logs : List Book) (image : List ℕ) → IsServing table logs old image → IsServing table logs new image
  forgotten-serving logs image serving = (
    forgotten table p serving.0,
    forgotten-stands logs image serving.0 serving.1,
    record { books = serving.2.books; created = marks-length (λ row. row.partition.0) p table.logbooks serving.0.created serving.2.created },
  )
