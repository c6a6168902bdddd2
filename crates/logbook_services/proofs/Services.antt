-- What each service comes to, by where its id or name leads.
use Rattle.std.proofs.Common.{◌≡◌, ℕ, ◌+◌, ◌-◌, ◌<◌, ◌≤◌, Bool, true, false, not, List, refl, sym, ◌∙◌, ap, Option, Some, None, length, reverse, option_map, if◌then◌else◌, arith}
use Rattle.std.specs.Prelude.{◌==◌, ◌||◌, nat_le, nat_lt, slice_get, slice_set, slice_index_or, IfSome}
use Rattle.std.proofs.lemmas.Bool.Decides.{nat_tests}
use Rattle.std.proofs.lemmas.List.{length-reverse}
use Rattle.std.proofs.lemmas.Option.{slice_get_past}
use Rattle.apex_types.specs.Rows.{Rows}
use Rattle.apex_types.specs.declared.calls.Mode.{Mode}
use Rattle.apex_types.specs.declared.codes.ReturnCode.{ReturnCode}
use Rattle.apex_types.specs.declared.codes.ReturnCode.TheVariants.{NoAction, NotAvailable, InvalidParam, InvalidConfig, InvalidMode}
use Rattle.apex_types.specs.declared.fields.LogCounts.{LogCounts}
use Rattle.apex_types.specs.declared.replies.EntryState.TheVariants.{InProgress, Complete}
use Rattle.apex_types.specs.declared.replies.Values.{Values}
use Rattle.apex_types.specs.declared.replies.Values.TheVariants.{Empty, Number, Entry, LogbookStatus}
use Rattle.apex_types.specs.declared.rows.LogbookRow.{LogbookRow}
use Rattle.apex_model.specs.Accepted.{IsAccepted}
use Rattle.apex_model.specs.Logbooks.{Logbook, LogbookSystem, LogbookOutcome, Message, empty_book, given_or, is_normal, book_in, with_book, on_named_book, on_message, is_out_of_size, is_worn_out, appended, overwritten, cleared, entry_of, create_logbook, write_logbook, overwrite_logbook, read_logbook, clear_logbook, get_logbook_id, get_logbook_status}
use Rattle.apex_model.specs.Outcomes.{accepted, refuse_with, refuse_if_with, state_after}
use Rattle.apex_model.proofs.Keeps.{lt-true, lt-false}
use Rattle.logbook_store.specs.Books.{row_of, life_of, progress_of, counts_of, counts_in}
use Rattle.logbook_store.specs.Logs.{StandFor}
use Rattle.logbook_store.specs.declared.book.Book.{Book}
use Rattle.logbook_services.specs.Standing.{Stands, IsOfTable}
use Rattle.logbook_services.specs.Steps.{LeadsTo, LeadsToNone, IsNamed, IsNamedNowhere, Takes, TakesNone}
use Rattle.logbook_services.proofs.Rows.{book_of_row, within_logs, has_progress, if_some, some_is}

-- ---- names

abbrev create_rest : LogbookSystem → ℕ → ℕ → LogbookOutcome
create_rest system place k = refuse_if_with (slice_index_or system.created k false) NoAction (accepted (record { books = system.books; created = slice_set system.created k true }) (Number (place + 1)))

abbrev id_rest : LogbookSystem → ℕ → ℕ → LogbookOutcome
id_rest system place k = refuse_if_with (not (slice_index_or system.created k false)) InvalidConfig (accepted system (Number (place + 1)))

module _ (table : Rows) (p : ℕ) (name : List ℕ) (system : LogbookSystem) where
  pub create-normal : (mode : Mode) → is_normal mode ≡ true → create_logbook table system p mode name ≡ refuse_with InvalidMode
  unfolding create_logbook
  create-normal mode e = ap (λ (b : Bool). refuse_if_with b InvalidMode (on_named_book table p name (create_rest system))) e

  to-name : (mode : Mode) → is_normal mode ≡ false → create_logbook table system p mode name ≡ on_named_book table p name (create_rest system)
  unfolding create_logbook
  to-name mode e = ap (λ (b : Bool). refuse_if_with b InvalidMode (on_named_book table p name (create_rest system))) e

  pub create-unknown : (mode : Mode) → is_normal mode ≡ false → IsNamedNowhere table p name → create_logbook table system p mode name ≡ refuse_with InvalidConfig
  create-unknown mode e none = to-name mode e ∙ none (create_rest system)

  create-by : (mode : Mode) (place k : ℕ) → is_normal mode ≡ false → IsNamed table p name place k → (b : Bool) → slice_index_or system.created k false ≡ b
      → create_logbook table system p mode name ≡ refuse_if_with b NoAction (accepted (record { books = system.books; created = slice_set system.created k true }) (Number (place + 1)))
  create-by mode place k e named b is =
      to-name mode e ∙ named (create_rest system)
      ∙ ap (λ (b : Bool). refuse_if_with b NoAction (accepted (record { books = system.books; created = slice_set system.created k true }) (Number (place + 1)))) is

  pub create-again : (mode : Mode) (place k : ℕ) → is_normal mode ≡ false → IsNamed table p name place k → slice_index_or system.created k false ≡ true → create_logbook table system p mode name ≡ refuse_with NoAction
  create-again mode place k e named is = create-by mode place k e named true is

  pub create-new : (mode : Mode) (place k : ℕ) → is_normal mode ≡ false → IsNamed table p name place k → slice_index_or system.created k false ≡ false
      → create_logbook table system p mode name ≡ accepted (record { books = system.books; created = slice_set system.created k true }) (Number (place + 1))
  create-new mode place k e named is = create-by mode place k e named false is

  pub id-unknown : IsNamedNowhere table p name → get_logbook_id table system p name ≡ refuse_with InvalidConfig
  unfolding get_logbook_id
  id-unknown none = none (id_rest system)

  id-by : (place k : ℕ) → IsNamed table p name place k → (b : Bool) → slice_index_or system.created k false ≡ b
      → get_logbook_id table system p name ≡ refuse_if_with (not b) InvalidConfig (accepted system (Number (place + 1)))
  unfolding get_logbook_id
  id-by place k named b is = named (id_rest system) ∙ ap (λ (b : Bool). refuse_if_with (not b) InvalidConfig (accepted system (Number (place + 1)))) is

  pub id-unmade : (place k : ℕ) → IsNamed table p name place k → slice_index_or system.created k false ≡ false → get_logbook_id table system p name ≡ refuse_with InvalidConfig
  id-unmade place k named is = id-by place k named false is

  pub id-made : (place k : ℕ) → IsNamed table p name place k → slice_index_or system.created k false ≡ true → get_logbook_id table system p name ≡ accepted system (Number (place + 1))
  id-made place k named is = id-by place k named true is

-- ---- messages

abbrev message_rest : LogbookSystem → Message → (ℕ → LogbookRow → LogbookOutcome) → ℕ → LogbookRow → LogbookOutcome
message_rest system message rest k row = refuse_if_with (is_out_of_size row.message_size message) InvalidParam (refuse_if_with (is_worn_out (book_in system k)) InvalidConfig (rest k row))

out-of-size : (limit : ℕ) (message : Message) → (a b : Bool) → (length message == 0) ≡ a → nat_lt limit (length message) ≡ b → is_out_of_size limit message ≡ (a || b)
out-of-size limit message a b e f = ap (λ (x : Bool). x || nat_lt limit (length message)) e ∙ ap (λ (y : Bool). a || y) f

le-by-lt : (a b : ℕ) → nat_le a b ≡ not (nat_lt b a)
le-by-lt a b = elim (nat_lt b a) as (λ t. nat_lt b a ≡ t → nat_le a b ≡ not t) [
  | true ↦ λ e. let less = lt-true b a e in grind (arith, nat_tests)
  | false ↦ λ e. let more = lt-false b a e in grind (arith, nat_tests)
] refl

module _ (table : Rows) (logs : List Book) (made : List Bool) (p id : ℕ) (message : Message) where
  pub none-led : LeadsToNone table made p id → TakesNone table logs made p id message InvalidParam
  none-led none image system stands rest = none system stands.marks (message_rest system message rest)

  module _ (k : ℕ) (row : LogbookRow) (to : LeadsTo table made p id k row) where
    by-size : (image : List ℕ) (system : LogbookSystem) → Stands table logs made image system → (rest : ℕ → LogbookRow → LogbookOutcome) → (b : Bool) → is_out_of_size row.message_size message ≡ b
        → on_message table system p id message rest ≡ refuse_if_with b InvalidParam (refuse_if_with (is_worn_out (book_in system k)) InvalidConfig (rest k row))
    by-size image system stands rest b e =
        to.goes_on system stands.marks (message_rest system message rest)
        ∙ ap (λ (b : Bool). refuse_if_with b InvalidParam (refuse_if_with (is_worn_out (book_in system k)) InvalidConfig (rest k row))) e

    pub none-empty : (length message == 0) ≡ true → TakesNone table logs made p id message InvalidParam
    none-empty e image system stands rest = by-size image system stands rest true (out-of-size row.message_size message true _ e refl)

    pub none-long : (length message == 0) ≡ false → nat_lt row.message_size (length message) ≡ true → TakesNone table logs made p id message InvalidParam
    none-long e f image system stands rest = by-size image system stands rest true (out-of-size row.message_size message false true e f)

    module _ (some : (length message == 0) ≡ false) (short : nat_lt row.message_size (length message) ≡ false) (counts : LogCounts)
        (told : (image : List ℕ) (logbooks : List Logbook) → StandFor logs image logbooks → counts ≡ counts_of (slice_index_or logbooks k empty_book)) where
      by-life : (image : List ℕ) (system : LogbookSystem) → Stands table logs made image system → (rest : ℕ → LogbookRow → LogbookOutcome) → (b : Bool) → ((counts.life + counts.progress) == 4294967295) ≡ b
          → on_message table system p id message rest ≡ refuse_if_with b InvalidConfig (rest k row)
      by-life image system stands rest b e =
          by-size image system stands rest false (out-of-size row.message_size message false false some short)
          ∙ ap (λ (b : Bool). refuse_if_with b InvalidConfig (rest k row))
          (sym (ap (λ (l : LogCounts). (l.life + l.progress) == 4294967295) (told image system.books stands.stored)) ∙ e)

      pub none-worn : ((counts.life + counts.progress) == 4294967295) ≡ true → TakesNone table logs made p id message InvalidConfig
      none-worn e image system stands rest = by-life image system stands rest true e

      pub takes : IsAccepted table → IsOfTable table logs made → IfSome (slice_get logs k) (λ book. counts ≡ counts_in book) → counts.life + counts.progress ≤ 4294967295
          → ((counts.life + counts.progress) == 4294967295) ≡ false → (has_room : Bool) → has_room ≡ nat_lt counts.progress row.in_progress → Takes table logs made p id message k has_room
      takes good of_table kept whole fresh has_room room_is =
          let found = book_of_row table logs k row of_table.sites to.row_is in
          let book = found.0 in
          let at : slice_get logs k ≡ Some book = found.1 in
          let row_same : row_of book ≡ row = found.2 in
          let held : counts ≡ counts_in book = some_is (λ b. counts ≡ counts_in b) (slice_get logs k) book at kept in
          let life : counts.life ≡ life_of book = ap (λ (l : LogCounts). l.life) held in
          let progress : counts.progress ≡ length (progress_of book) = ap (λ (l : LogCounts). l.progress) held in
          let size_is : (row_of book).message_size ≡ row.message_size = ap (λ (r : LogbookRow). r.message_size) row_same in
          let limit_is : (row_of book).in_progress ≡ row.in_progress = ap (λ (r : LogbookRow). r.in_progress) row_same in
          let long : 1 ≤ length message = grind (arith, nat_tests) in
          let few : length message ≤ row.message_size = lt-false row.message_size (length message) short in
          let less : counts.life + counts.progress < 4294967295 = grind (arith, nat_tests) in
          let one : 1 ≤ row.in_progress = has_progress table good k row to.row_is in
          record {
            row = row;
            within = within_logs table logs k row of_table.sites to.row_is;
            some = long;
            fits = if_some (λ b. length message ≤ (row_of b).message_size) (slice_get logs k) book at (omega (arith, few, size_is));
            lives = if_some (λ b. life_of b + length (progress_of b) < 4294967295) (slice_get logs k) book at (omega (arith, life, progress, less));
            room = λ e. let below : counts.progress < row.in_progress = lt-true counts.progress row.in_progress (sym room_is ∙ e) in
                if_some (λ b. length (progress_of b) < (row_of b).in_progress) (slice_get logs k) book at (omega (arith, below, progress, limit_is));
            full = λ e. let above : row.in_progress ≤ counts.progress = lt-false counts.progress row.in_progress (sym room_is ∙ e) in
                if_some (λ b. 0 < length (progress_of b)) (slice_get logs k) book at (omega (arith, above, progress, one));
            goes_on = λ image system stands rest. by-life image system stands rest false fresh;
            tested = λ image system stands.
                le-by-lt row.in_progress (length (book_in system k).in_progress)
                ∙ ap (λ (n : ℕ). not (nat_lt n row.in_progress)) (sym (ap (λ (l : LogCounts). l.progress) (told image system.books stands.stored)))
                ∙ ap not (sym room_is);
          }

abbrev write_rest : LogbookSystem → Message → ℕ → LogbookRow → LogbookOutcome
write_rest system message k row =
    refuse_if_with (nat_le row.in_progress (length (book_in system k).in_progress)) NotAvailable (accepted (with_book system k (appended (book_in system k) message)) Empty)

abbrev overwrite_rest : LogbookSystem → Message → ℕ → LogbookRow → LogbookOutcome
overwrite_rest system message k row = accepted
    (with_book system k (if nat_le row.in_progress (length (book_in system k).in_progress) then overwritten (book_in system k) message else appended (book_in system k) message)) Empty

module _ (table : Rows) (logs : List Book) (made : List Bool) (p id : ℕ) (message : Message) (image : List ℕ) (system : LogbookSystem) (stands : Stands table logs made image system) where
  pub write-none : (code : ReturnCode) → TakesNone table logs made p id message code → write_logbook table system p id message ≡ refuse_with code
  unfolding write_logbook
  write-none code none = none image system stands (write_rest system message)

  pub overwrite-none : (code : ReturnCode) → TakesNone table logs made p id message code → overwrite_logbook table system p id message ≡ refuse_with code
  unfolding overwrite_logbook
  overwrite-none code none = none image system stands (overwrite_rest system message)

  module _ (k : ℕ) (has_room : Bool) (takes : Takes table logs made p id message k has_room) where
    write-by : (b : Bool) → has_room ≡ b → write_logbook table system p id message ≡ refuse_if_with (not b) NotAvailable (accepted (with_book system k (appended (book_in system k) message)) Empty)
    unfolding write_logbook
    write-by b e =
        takes.goes_on image system stands (write_rest system message)
        ∙ ap (λ (b : Bool). refuse_if_with b NotAvailable (accepted (with_book system k (appended (book_in system k) message)) Empty)) (takes.tested image system stands ∙ ap not e)

    pub write-full : has_room ≡ false → write_logbook table system p id message ≡ refuse_with NotAvailable
    write-full e = write-by false e

    pub write-done : has_room ≡ true → write_logbook table system p id message ≡ accepted (with_book system k (appended (book_in system k) message)) Empty
    write-done e = write-by true e

    overwrite-by : (b : Bool) → has_room ≡ b
        → overwrite_logbook table system p id message ≡ accepted (with_book system k (if not b then overwritten (book_in system k) message else appended (book_in system k) message)) Empty
    unfolding overwrite_logbook
    overwrite-by b e =
        takes.goes_on image system stands (overwrite_rest system message)
        ∙ ap (λ (b : Bool). accepted (with_book system k (if b then overwritten (book_in system k) message else appended (book_in system k) message)) Empty) (takes.tested image system stands ∙ ap not e)

    pub overwrite-full : has_room ≡ false → overwrite_logbook table system p id message ≡ accepted (with_book system k (overwritten (book_in system k) message)) Empty
    overwrite-full e = overwrite-by false e

    pub overwrite-done : has_room ≡ true → overwrite_logbook table system p id message ≡ accepted (with_book system k (appended (book_in system k) message)) Empty
    overwrite-done e = overwrite-by true e

-- ---- entries, and the rest

abbrev entry_or : LogbookSystem → Option Values → LogbookOutcome
entry_or system o = given_or o (refuse_with NotAvailable) (λ values. accepted system values)

abbrev read_rest : LogbookSystem → ℕ → ℕ → LogbookRow → LogbookOutcome
read_rest system number k row = refuse_if_with (number == 0) InvalidParam (entry_or system (entry_of (book_in system k) number))

abbrev status_rest : LogbookSystem → ℕ → LogbookRow → LogbookOutcome
status_rest system k row = accepted system (LogbookStatus row.message_size row.logged row.in_progress (length (book_in system k).logged) (length (book_in system k).in_progress))

abbrev clear_rest : LogbookSystem → ℕ → LogbookRow → LogbookOutcome
clear_rest system k row = accepted (with_book system k (cleared (book_in system k))) Empty

entry-same : (system : LogbookSystem) (o : Option Values) → state_after system (entry_or system o) ≡ system
entry-same system None = refl
entry-same system (Some values) = refl

-- no entry is behind the last
pub entry-past : (b : Logbook) (number : ℕ) → length b.in_progress + length b.logged < number → entry_of b number ≡ None
entry-past b number past =
    let behind : nat_le number (length b.in_progress) ≡ false = grind (arith, nat_tests) in
    let long = length-reverse b.logged in
    ap (λ (t : Bool). if t then option_map (Entry InProgress) (slice_get (reverse b.in_progress) (number - 1)) else option_map (Entry Complete) (slice_get (reverse b.logged) (number - length b.in_progress - 1))) behind
    ∙ ap (λ (o : Option Message). option_map (Entry Complete) o) (slice_get_past (reverse b.logged) (number - length b.in_progress - 1) (omega (arith, long, past)))

module _ (table : Rows) (made : List Bool) (p id : ℕ) (system : LogbookSystem) (is : made ≡ system.created) where
  pub read-none : (number : ℕ) → LeadsToNone table made p id → read_logbook table system p id number ≡ refuse_with InvalidParam
  unfolding read_logbook
  read-none number none = none system is (read_rest system number)

  pub status-none : LeadsToNone table made p id → get_logbook_status table system p id ≡ refuse_with InvalidParam
  unfolding get_logbook_status
  status-none none = none system is (status_rest system)

  pub clear-none : LeadsToNone table made p id → clear_logbook table system p id ≡ refuse_with InvalidParam
  unfolding clear_logbook
  clear-none none = none system is (clear_rest system)

  module _ (k : ℕ) (row : LogbookRow) (to : LeadsTo table made p id k row) where
    pub clear-at : clear_logbook table system p id ≡ accepted (with_book system k (cleared (book_in system k))) Empty
    unfolding clear_logbook
    clear-at = to.goes_on system is (clear_rest system)

    pub status-at : (counts : LogCounts) → counts ≡ counts_of (book_in system k)
        → get_logbook_status table system p id ≡ accepted system (LogbookStatus row.message_size row.logged row.in_progress counts.logged counts.progress)
    unfolding get_logbook_status
    status-at counts told =
        to.goes_on system is (status_rest system)
        ∙ sym (ap (λ (l : LogCounts). accepted system (LogbookStatus row.message_size row.logged row.in_progress l.logged l.progress)) told)

    read-by : (number : ℕ) (b : Bool) → (number == 0) ≡ b → read_logbook table system p id number ≡ refuse_if_with b InvalidParam (entry_or system (entry_of (book_in system k) number))
    unfolding read_logbook
    read-by number b e =
        to.goes_on system is (read_rest system number)
        ∙ ap (λ (b : Bool). refuse_if_with b InvalidParam (entry_or system (entry_of (book_in system k) number))) e

    pub read-zero : (number : ℕ) → (number == 0) ≡ true → read_logbook table system p id number ≡ refuse_with InvalidParam
    read-zero number e = read-by number true e

    pub read-past : (number : ℕ) (counts : LogCounts) → counts ≡ counts_of (book_in system k) → (number == 0) ≡ false → counts.progress + counts.logged < number → read_logbook table system p id number ≡ refuse_with NotAvailable
    read-past number counts told e past =
        let progress : counts.progress ≡ length (book_in system k).in_progress = ap (λ (l : LogCounts). l.progress) told in
        let logged : counts.logged ≡ length (book_in system k).logged = ap (λ (l : LogCounts). l.logged) told in
        read-by number false e ∙ ap (entry_or system) (entry-past (book_in system k) number (omega (arith, progress, logged, past)))

    pub read-entry : (number : ℕ) (values : Values) → (number == 0) ≡ false → entry_of (book_in system k) number ≡ Some values → read_logbook table system p id number ≡ accepted system values
    read-entry number values e found = read-by number false e ∙ ap (entry_or system) found

    -- it changes nothing
    pub read-same : (number : ℕ) → (number == 0) ≡ false → state_after system (read_logbook table system p id number) ≡ system
    read-same number e = ap (λ (out : LogbookOutcome). state_after system out) (read-by number false e) ∙ entry-same system (entry_of (book_in system k) number)
