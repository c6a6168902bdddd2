-- A call of logbooks leaves as many logbooks as there were.
use Rattle.std.proofs.Common.{◌≡◌, ℕ, not, List, refl, length, Option, Some, None}
use Rattle.std.specs.Prelude.{nat_le, ◌==◌, slice_get, slice_set}
use Rattle.std.proofs.lemmas.List.{length-set}
use Rattle.apex_types.specs.Rows.{Rows}
use Rattle.apex_types.specs.declared.calls.LogbookCall.{LogbookCall}
use Rattle.apex_types.specs.declared.calls.LogbookCall.TheVariants.{Create, Write, Overwrite, Read, Clear, GetId, GetStatus}
use Rattle.apex_types.specs.declared.calls.Mode.{Mode}
use Rattle.apex_types.specs.declared.codes.ReturnCode.TheVariants.{NoAction, NotAvailable, InvalidParam, InvalidConfig, InvalidMode}
use Rattle.apex_types.specs.declared.rows.LogbookRow.{LogbookRow}
use Rattle.apex_model.specs.Logbooks.{Logbook, Message, LogbookSystem, LogbookOutcome, given_or, book_in, book_number, book_named, book_row, is_created, is_idle, is_normal, is_out_of_size, is_worn_out, entry_of, on_book, on_named_book, on_message, create_logbook, write_logbook, overwrite_logbook, read_logbook, clear_logbook, get_logbook_id, get_logbook_status, logbook_service, logbook_step}
use Rattle.apex_model.specs.Outcomes.{state_after, refuse_with}
use Rattle.apex_model.specs.Tables.{logbooks_of}
use Rattle.apex_model.proofs.Keeps.{keeps-if_with}

module _ (table : Rows) (system : LogbookSystem) (p : ℕ) where
  -- as many logbooks as there were
  abbrev IsSame : LogbookSystem → Type 0
  IsSame after = length after.books ≡ length system.books

  abbrev Counts : LogbookOutcome → Type 0
  Counts outcome = IsSame (state_after system outcome)

  set-counts : (k : ℕ) (book : Logbook) → length (slice_set system.books k book) ≡ length system.books
  set-counts k book = length-set system.books k book

  -- ---- ways to a logbook

  given-counts : {A : Type 0} (o : Option A) (refusal : LogbookOutcome) (rest : A → LogbookOutcome) → Counts refusal → ((a : A) → Counts (rest a)) → Counts (given_or o refusal rest)
  given-counts None refusal rest c h = c
  given-counts (Some a) refusal rest c h = h a

  book-counts : (id : ℕ) (rest : ℕ → LogbookRow → LogbookOutcome) → ((k : ℕ) (row : LogbookRow) → Counts (rest k row)) → Counts (on_book table system p id rest)
  book-counts id rest h =
      given-counts (book_number table p id) (refuse_with InvalidParam) _ refl (λ k.
      keeps-if_with IsSame system (not (is_created system k)) InvalidParam _ refl (λ _.
      given-counts (book_row table k) (refuse_with InvalidParam) (rest k) refl (λ row. h k row)))

  named-counts : (name : List ℕ) (rest : ℕ → ℕ → LogbookOutcome) → ((place k : ℕ) → Counts (rest place k)) → Counts (on_named_book table p name rest)
  named-counts name rest h =
      given-counts (book_named table p name) (refuse_with InvalidConfig) _ refl (λ place.
      given-counts (slice_get (logbooks_of table p) place) (refuse_with InvalidConfig) (rest place) refl (λ k. h place k))

  message-counts : (id : ℕ) (message : Message) (rest : ℕ → LogbookRow → LogbookOutcome) → ((k : ℕ) (row : LogbookRow) → Counts (rest k row)) → Counts (on_message table system p id message rest)
  message-counts id message rest h = book-counts id _ (λ k row.
      keeps-if_with IsSame system (is_out_of_size row.message_size message) InvalidParam _ refl (λ _.
      keeps-if_with IsSame system (is_worn_out (book_in system k)) InvalidConfig (rest k row) refl (λ _. h k row)))

  -- ---- the services

  create-counts : (mode : Mode) (name : List ℕ) → Counts (create_logbook table system p mode name)
  unfolding create_logbook
  create-counts mode name =
      keeps-if_with IsSame system (is_normal mode) InvalidMode _ refl (λ _.
      named-counts name _ (λ place k. keeps-if_with IsSame system (is_created system k) NoAction _ refl (λ _. refl)))

  write-counts : (id : ℕ) (message : Message) → Counts (write_logbook table system p id message)
  unfolding write_logbook
  write-counts id message = message-counts id message _ (λ k row.
      keeps-if_with IsSame system (nat_le row.in_progress (length (book_in system k).in_progress)) NotAvailable _ refl (λ _. set-counts k _))

  overwrite-counts : (id : ℕ) (message : Message) → Counts (overwrite_logbook table system p id message)
  unfolding overwrite_logbook
  overwrite-counts id message = message-counts id message _ (λ k row. set-counts k _)

  read-counts : (id number : ℕ) → Counts (read_logbook table system p id number)
  unfolding read_logbook
  read-counts id number = book-counts id _ (λ k row.
      keeps-if_with IsSame system (number == 0) InvalidParam _ refl (λ _.
      given-counts (entry_of (book_in system k) number) (refuse_with NotAvailable) _ refl (λ values. refl)))

  clear-counts : (id : ℕ) → Counts (clear_logbook table system p id)
  unfolding clear_logbook
  clear-counts id = book-counts id _ (λ k row. set-counts k _)

  get_id-counts : (name : List ℕ) → Counts (get_logbook_id table system p name)
  unfolding get_logbook_id
  get_id-counts name = named-counts name _ (λ place k. keeps-if_with IsSame system (not (is_created system k)) InvalidConfig _ refl (λ _. refl))

  get_status-counts : (id : ℕ) → Counts (get_logbook_status table system p id)
  unfolding get_logbook_status
  get_status-counts id = book-counts id _ (λ k row. refl)

  -- ---- all of them

  service-counts : (mode : Mode) (c : LogbookCall) → Counts (logbook_service table system p mode c)
  service-counts mode (Create name) = create-counts mode name
  service-counts mode (Write id message) = write-counts id message
  service-counts mode (Overwrite id message) = overwrite-counts id message
  service-counts mode (Read id number) = read-counts id number
  service-counts mode (Clear id) = clear-counts id
  service-counts mode (GetId name) = get_id-counts name
  service-counts mode (GetStatus id) = get_status-counts id

-- as many logbooks as there were
pub books_count_after : (table : Rows) (system : LogbookSystem) (p : ℕ) (mode : Mode) (c : LogbookCall) → length (state_after system (logbook_step table system p mode c)).books ≡ length system.books
books_count_after table system p mode c = keeps-if_with (IsSame table system p) system (is_idle mode) InvalidMode _ refl (λ _. service-counts table system p mode c)
