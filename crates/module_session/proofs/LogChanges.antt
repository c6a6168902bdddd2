-- What a call of the logbooks leaves of the whole image and of all that stands beside the logbooks.
use Rattle.std.proofs.Common.{◌≡◌, ℕ, ◌*◌, List, length, sym, ap, subst, ◌∙◌}
use Rattle.apex_model.specs.Durable.{IsCutBetween}
use Rattle.apex_model.specs.FileSystem.{FileSystem}
use Rattle.apex_model.specs.Layout.{layout_blocks}
use Rattle.apex_model.specs.Logbooks.{Logbook}
use Rattle.apex_model.specs.World.{World}
use Rattle.rig_core.specs.Bytes.{SameElsewhere}
use Rattle.rig_core.specs.Leaves.{Leaves, LeavesElsewhere}
use Rattle.rig_core.specs.Outside.{Later, MakesAtMost, Outside, Sound}
use Rattle.rig_core.specs.Runs.{Runs, Shows}
use Rattle.logbook_store.specs.Logs.{AreBeforeOrAfter, AreSettled, AreWithin, Site, StandFor, sites_of as log_sites_of}
use Rattle.logbook_store.specs.declared.book.Book.{Book}
use Rattle.tree_store.specs.Serving.{StandOver}
use Rattle.image_layout.specs.Ready.{AreInStep, Stores}
use Rattle.image_layout.proofs.After.{files_after_books, in_step_after_books}
use Rattle.image_layout.proofs.Between.{log_sites_count}
use Rattle.image_layout.proofs.Following.{books_in_image}
use Rattle.image_layout.proofs.InStep.{books_count}
use Rattle.image_layout.proofs.Moments.{BooksRun, books_run, logs_call_moments}
use Rattle.module_session.specs.Sessions.{IsReady, StandsFor}
use Rattle.module_session.specs.declared.session.Session.{Session}

-- A call on all logbooks, at each of its ends: at every moment each is as before or as the word says, and so it is in what
-- reads give; nothing changes elsewhere.
pub record ChangesLogs (V : Type 0) (word : List Logbook → List Logbook) (books new : List Book) (o e : Outside) : Type 0 where
  pub sites : log_sites_of new ≡ log_sites_of books
  pub any_moment : (logbooks : List Logbook) → V → StandFor books o.view logbooks → Leaves (AreBeforeOrAfter (log_sites_of books) logbooks (word logbooks)) o e
  pub shown : (logbooks : List Logbook) → V → StandFor books o.view logbooks → AreBeforeOrAfter (log_sites_of books) logbooks (word logbooks) e.view
  pub outside : (at n : ℕ) → AreWithin at n (log_sites_of books) → LeavesElsewhere at n o e
  pub outside_view : (at n : ℕ) → AreWithin at n (log_sites_of books) → V → SameElsewhere at n o.view e.view
  pub later : Later o e
  pub made : MakesAtMost 96 3 0 o e

module _ (V K : Type 0) (o e : Outside) (sound : Sound V K o) (sound_after : Sound V K e) (old : Session) (new : List Book) (word : List Logbook → List Logbook) (ready : IsReady V o old)
    (changes : ChangesLogs V word old.logs new o e) where
  all_runs : BooksRun V old.logs 96 3 o e
  all_runs = books_run V old.logs 96 3 o e changes.outside changes.outside_view changes.later changes.made

  pub logs_runs : Runs V 0 (512 * layout_blocks old.table) 96 3 o e
  logs_runs = all_runs 0 (512 * layout_blocks old.table)
      (subst (λ (l : List Site). AreWithin 0 (512 * layout_blocks old.table) l) (sym ready.in_step.log_sites) (books_in_image old.table))

  -- there are as many logbooks as the table has
  pub logs_count : (w : World) → StandsFor V o old w → V → length w.logbooks.books ≡ length old.table.logbooks
  logs_count w stands tells =
      sym (books_count old.logs o.view w.logbooks.books (stands.parts.logbooks tells)) ∙ ap (λ (l : List Site). length l) ready.in_step.log_sites ∙ log_sites_count old.table 0 old.table.logbooks

  -- where the rig tells its view, since else nothing is known of the logbooks
  pub logs_moments : (w after : World) → StandsFor V o old w → after.files.trees ≡ w.files.trees → (V → after.logbooks.books ≡ word w.logbooks.books)
      → (V → length (word w.logbooks.books) ≡ length w.logbooks.books) → Shows V (Stores old.table (IsCutBetween w after)) o e
  logs_moments w after stands trees books long =
      let all : V → Shows V (Stores old.table (IsCutBetween w after)) o e = λ tells.
      let stand = stands.parts.logbooks tells in
      let shows : Shows V (AreBeforeOrAfter (log_sites_of old.logs) w.logbooks.books after.logbooks.books) o e =
      subst (λ (l : List Logbook). Shows V (AreBeforeOrAfter (log_sites_of old.logs) w.logbooks.books l) o e) (sym (books tells))
      (record { any_moment = λ told. changes.any_moment w.logbooks.books told stand; shown = λ told. changes.shown w.logbooks.books told stand }) in
      logs_call_moments V K o e sound old.table old.trees old.handles old.logs w after ready.in_step stands.parts 96 3 trees
      (ap (λ (l : List Logbook). length l) (books tells) ∙ long tells) shows all_runs in
      record { any_moment = λ tells. (all tells).any_moment tells; shown = λ tells. (all tells).shown tells }

  pub logs_files : (fs : FileSystem) → StandOver V o old.trees old.handles fs → StandOver V e old.trees old.handles fs
  logs_files = files_after_books V K o e sound sound_after old.table old.trees old.logs 96 3 ready.in_step all_runs old.handles

  -- superblock, trees and logbooks are in step again
  pub logs_in_step : AreSettled (log_sites_of new) e → AreInStep V old.table e old.trees new
  logs_in_step settled = in_step_after_books V K o e sound sound_after old.table old.trees old.logs 96 3 ready.in_step all_runs new changes.sites settled
