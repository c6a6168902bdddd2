-- The answers to logbook calls are plain.
use Rattle.std.proofs.Common.{ℕ, not, List, Option, Some, None, length}
use Rattle.std.specs.Prelude.{IfSome, ◌==◌, nat_le, slice_get, option_map}
use Rattle.apex_types.specs.Rows.{Rows}
use Rattle.apex_types.specs.declared.calls.LogbookCall.{LogbookCall}
use Rattle.apex_types.specs.declared.calls.LogbookCall.TheVariants.{Create, Write, Overwrite, Read, Clear, GetId, GetStatus}
use Rattle.apex_types.specs.declared.calls.Mode.{Mode}
use Rattle.apex_types.specs.declared.codes.ReturnCode.TheVariants as code
use Rattle.apex_types.specs.declared.rows.LogbookRow.{LogbookRow}
use Rattle.apex_types.specs.declared.replies.Values.{Values}
use Rattle.apex_types.specs.declared.replies.Values.TheVariants as values
use Rattle.apex_types.specs.declared.replies.EntryState.{EntryState}
use Rattle.apex_types.specs.declared.replies.EntryState.TheVariants.{InProgress, Complete}
use Rattle.apex_model.specs.Logbooks.{LogbookSystem, LogbookOutcome, given_or, is_created, book_number, book_row, book_in, book_named, on_book, is_normal, on_named_book, is_out_of_size, is_worn_out, on_message, create_logbook, write_logbook, overwrite_logbook, entry_of, read_logbook, clear_logbook, get_logbook_id, get_logbook_status, logbook_service}
use Rattle.apex_model.specs.Outcomes.{accepted, refuse_with}
use Rattle.apex_model.specs.Tables.{logbooks_of}
use Rattle.model_laws.specs.ReplyLines.{HasNames}
use Rattle.model_laws.proofs.PlainOutcomes.{IsPlainOutcome, plain-accepted, plain-refuse_with, plain-if_with, some-choice}

plain-given_or : {A : Type 0} (o : Option A) (none : LogbookOutcome) (rest : A → LogbookOutcome) → IsPlainOutcome none → ((a : A) → IsPlainOutcome (rest a)) → IsPlainOutcome (given_or o none rest)
plain-given_or None none rest h k = h
plain-given_or (Some a) none rest h k = k a

-- an entry has no names
entry-names : (state : EntryState) (o : Option (List ℕ)) → IfSome (option_map (values.Entry state) o) HasNames
entry-names state None = tt
entry-names state (Some bytes) = tt

plain-entry : (books : LogbookSystem) (o : Option Values) → IfSome o HasNames → IsPlainOutcome (given_or o (refuse_with code.NotAvailable) (λ v. accepted books v))
plain-entry books None h = plain-refuse_with code.NotAvailable
plain-entry books (Some v) h = plain-accepted books v h

module _ (table : Rows) (books : LogbookSystem) (p : ℕ) where
  plain-book : (id : ℕ) (rest : ℕ → LogbookRow → LogbookOutcome) → ((k : ℕ) (row : LogbookRow) → IsPlainOutcome (rest k row)) → IsPlainOutcome (on_book table books p id rest)
  plain-book id rest h = plain-given_or (book_number table p id) _ _ (plain-refuse_with _) (λ k. plain-if_with (not (is_created books k)) _ _ (plain-given_or (book_row table k) _ _ (plain-refuse_with _) (h k)))

  plain-named : (name : List ℕ) (rest : ℕ → ℕ → LogbookOutcome) → ((place k : ℕ) → IsPlainOutcome (rest place k)) → IsPlainOutcome (on_named_book table p name rest)
  plain-named name rest h = plain-given_or (book_named table p name) _ _ (plain-refuse_with _) (λ place. plain-given_or (slice_get (logbooks_of table p) place) _ _ (plain-refuse_with _) (h place))

  plain-message : (id : ℕ) (message : List ℕ) (rest : ℕ → LogbookRow → LogbookOutcome) → ((k : ℕ) (row : LogbookRow) → IsPlainOutcome (rest k row)) → IsPlainOutcome (on_message table books p id message rest)
  plain-message id message rest h = plain-book id _ (λ k row. plain-if_with (is_out_of_size row.message_size message) _ _ (plain-if_with (is_worn_out (book_in books k)) _ _ (h k row)))

  create_logbook-plain : (m : Mode) (name : List ℕ) → IsPlainOutcome (create_logbook table books p m name)
  unfolding create_logbook
  create_logbook-plain m name = plain-if_with (is_normal m) _ _ (plain-named name _ (λ place k. plain-if_with (is_created books k) _ _ (plain-accepted _ _ tt)))

  write_logbook-plain : (id : ℕ) (message : List ℕ) → IsPlainOutcome (write_logbook table books p id message)
  unfolding write_logbook
  write_logbook-plain id message = plain-message id message _ (λ k row. plain-if_with (nat_le row.in_progress (length (book_in books k).in_progress)) _ _ (plain-accepted _ _ tt))

  overwrite_logbook-plain : (id : ℕ) (message : List ℕ) → IsPlainOutcome (overwrite_logbook table books p id message)
  unfolding overwrite_logbook
  overwrite_logbook-plain id message = plain-message id message _ (λ k row. plain-accepted _ _ tt)

  read_logbook-plain : (id number : ℕ) → IsPlainOutcome (read_logbook table books p id number)
  unfolding read_logbook
  read_logbook-plain id number = plain-book id _ (λ k row. plain-if_with (number == 0) _ _ (plain-entry books (entry_of (book_in books k) number)
      (some-choice HasNames (nat_le number (length (book_in books k).in_progress)) _ _ (entry-names InProgress _) (entry-names Complete _))))

  clear_logbook-plain : (id : ℕ) → IsPlainOutcome (clear_logbook table books p id)
  unfolding clear_logbook
  clear_logbook-plain id = plain-book id _ (λ k row. plain-accepted _ _ tt)

  get_logbook_id-plain : (name : List ℕ) → IsPlainOutcome (get_logbook_id table books p name)
  unfolding get_logbook_id
  get_logbook_id-plain name = plain-named name _ (λ place k. plain-if_with (not (is_created books k)) _ _ (plain-accepted _ _ tt))

  get_logbook_status-plain : (id : ℕ) → IsPlainOutcome (get_logbook_status table books p id)
  unfolding get_logbook_status
  get_logbook_status-plain id = plain-book id _ (λ k row. plain-accepted _ _ tt)

  pub logbook_service-plain : (m : Mode) (c : LogbookCall) → IsPlainOutcome (logbook_service table books p m c)
  logbook_service-plain m (Create name) = create_logbook-plain m name
  logbook_service-plain m (Write id bytes) = write_logbook-plain id bytes
  logbook_service-plain m (Overwrite id bytes) = overwrite_logbook-plain id bytes
  logbook_service-plain m (Read id number) = read_logbook-plain id number
  logbook_service-plain m (Clear id) = clear_logbook-plain id
  logbook_service-plain m (GetId name) = get_logbook_id-plain name
  logbook_service-plain m (GetStatus id) = get_logbook_status-plain id
