-- Two logbook systems with the same logbooks of some partitions, the members: what a member's logbook call, and a tick, does and answers is the same in both, and what another partition's does leaves them so.
use Rattle.std.proofs.Common.{◌≡◌, ℕ, ◌-◌, Bool, true, false, not, List, refl, sym, ap, subst, ◌∙◌, Option, Some, None, length}
use Rattle.std.specs.Prelude.{◌==◌, nat_le, slice_get, if◌then◌else◌}
use Rattle.apex_types.specs.Rows.{Rows}
use Rattle.apex_types.specs.declared.calls.LogbookCall.{LogbookCall}
use Rattle.apex_types.specs.declared.calls.LogbookCall.TheVariants.{Create, Write, Overwrite, Read, Clear, GetId, GetStatus}
use Rattle.apex_types.specs.declared.calls.Mode.{Mode}
use Rattle.apex_types.specs.declared.codes.ReturnCode.TheVariants.{InvalidMode, InvalidParam, InvalidConfig, NoAction, NotAvailable}
use Rattle.apex_types.specs.declared.replies.Values.TheVariants.{LogbookStatus}
use Rattle.apex_types.specs.declared.rows.LogbookRow.{LogbookRow}
use Rattle.apex_model.specs.Logbooks.{Logbook, LogbookSystem, LogbookOutcome, Message, moved_by, all_moved, empty_book, book_row, book_in, with_book, book_number, book_named, given_or, is_created, is_normal, is_idle, on_book, on_named_book, create_logbook, is_out_of_size, is_worn_out, appended, overwritten, on_message, write_logbook, overwrite_logbook, entry_of, read_logbook, cleared, clear_logbook, get_logbook_id, get_logbook_status, logbook_service, logbook_step}
use Rattle.apex_model.specs.Outcomes.{state_after, refuse_with}
use Rattle.apex_model.specs.Tables.{logbooks_of}
use Rattle.apex_model.proofs.Keeps.{keeps-if_with}
use Rattle.model_laws.proofs.AlikeWords.{Agree, agree-set, agree-set-first, equal-numbers, joined-at, joined-count, numbered, Alike, alike-refused, alike-accepted, alike-if_with}

-- a logbook of a member
abbrev pub IsBookOf : Rows → (ℕ → Bool) → ℕ → Type 0
IsBookOf table is_member k = (row : LogbookRow) × (slice_get table.logbooks k ≡ Some row) × (is_member row.partition.0 ≡ true)

abbrev pub SameBook : Rows → (ℕ → Bool) → ℕ → Logbook → Logbook → Type 0
SameBook table is_member k x y = IsBookOf table is_member k → x ≡ y

abbrev pub SameMade : Rows → (ℕ → Bool) → ℕ → Bool → Bool → Type 0
SameMade table is_member k x y = IsBookOf table is_member k → x ≡ y

-- the same logbooks of members, made or not
pub record BooksAlike (table : Rows) (is_member : ℕ → Bool) (a b : LogbookSystem) : Type 0 where
  pub books : Agree (SameBook table is_member) empty_book a.books b.books
  pub created : Agree (SameMade table is_member) false a.created b.created

-- a partition's logbook of a place among its own
own-book : (table : Rows) (p i k : ℕ) → slice_get (logbooks_of table p) i ≡ Some k → (row : LogbookRow) × (slice_get table.logbooks k ≡ Some row) × (row.partition.0 ≡ p)
own-book table p i k e = let found = numbered (λ row. row.partition.0 == p) table.logbooks i k e in (found.0, found.1, equal-numbers found.0.partition.0 p found.2)

-- and of an id
own-number : (table : Rows) (p id k : ℕ) → book_number table p id ≡ Some k → (row : LogbookRow) × (slice_get table.logbooks k ≡ Some row) × (row.partition.0 ≡ p)
own-number table p id k e = by-test (id == 0) e
  where
    by-test : (b : Bool) → (if b then None else slice_get (logbooks_of table p) (id - 1)) ≡ Some k → (row : LogbookRow) × (slice_get table.logbooks k ≡ Some row) × (row.partition.0 ≡ p)
    by-test true h = absurd (let wrong : ◌≡◌ {A = Option ℕ} None (Some k) = h in cc)
    by-test false h = own-book table p (id - 1) k h

module _ (table : Rows) (is_member : ℕ → Bool) (a b : LogbookSystem) (same : BooksAlike table is_member a b) where
  -- ---- a tick

  pub all_moved-alike : BooksAlike table is_member (all_moved table a) (all_moved table b)
  all_moved-alike = record {
    books = record {
      count = joined-count moved_by table.logbooks a.books b.books same.books.count;
      at = λ k is. joined-at moved_by empty_book empty_book table.logbooks a.books b.books k same.books.count (same.books.at k is);
    };
    created = same.created;
  }

  module _ (p : ℕ) (member : is_member p ≡ true) where
    -- ---- a member's call

    own : (k : ℕ) → (row : LogbookRow) × (slice_get table.logbooks k ≡ Some row) × (row.partition.0 ≡ p) → IsBookOf table is_member k
    own k is = (is.0, is.1, ap is_member is.2 ∙ member)

    given-alike : {X : Type 0} (o q : Option X) (refusal : LogbookOutcome) (rest next : X → LogbookOutcome) → o ≡ q → Alike (BooksAlike table is_member) refusal refusal
        → ((x : X) → o ≡ Some x → Alike (BooksAlike table is_member) (rest x) (next x)) → Alike (BooksAlike table is_member) (given_or o refusal rest) (given_or q refusal next)
    given-alike {X} o q refusal rest next e r h = let P : Option X → Type 0 = λ z. Alike (BooksAlike table is_member) (given_or o refusal rest) (given_or z refusal next) in subst P e (go o h)
      where
        go : (o : Option X) → ((x : X) → o ≡ Some x → Alike (BooksAlike table is_member) (rest x) (next x)) → Alike (BooksAlike table is_member) (given_or o refusal rest) (given_or o refusal next)
        go None h = r
        go (Some x) h = h x refl

    made-alike : (k : ℕ) → IsBookOf table is_member k → is_created a k ≡ is_created b k
    made-alike k is = same.created.at k is

    book-alike : (id : ℕ) (rest next : ℕ → LogbookRow → LogbookOutcome) → ((k : ℕ) (row : LogbookRow) → book_in a k ≡ book_in b k → Alike (BooksAlike table is_member) (rest k row) (next k row))
        → Alike (BooksAlike table is_member) (on_book table a p id rest) (on_book table b p id next)
    book-alike id rest next h =
        given-alike (book_number table p id) (book_number table p id) (refuse_with InvalidParam) _ _ refl (alike-refused (BooksAlike table is_member) _) (λ k e.
        let is = own k (own-number table p id k e) in
        alike-if_with (BooksAlike table is_member) (not (is_created a k)) (not (is_created b k)) InvalidParam _ _ (ap not (made-alike k is)) (λ _.
        given-alike (book_row table k) (book_row table k) (refuse_with InvalidParam) (rest k) (next k) refl (alike-refused (BooksAlike table is_member) _) (λ row _. h k row (same.books.at k is))))

    named-alike : (name : List ℕ) (rest next : ℕ → ℕ → LogbookOutcome) → ((place k : ℕ) → is_created a k ≡ is_created b k → Alike (BooksAlike table is_member) (rest place k) (next place k))
        → Alike (BooksAlike table is_member) (on_named_book table p name rest) (on_named_book table p name next)
    named-alike name rest next h =
        given-alike (book_named table p name) (book_named table p name) (refuse_with InvalidConfig) _ _ refl (alike-refused (BooksAlike table is_member) _) (λ place _.
        given-alike (slice_get (logbooks_of table p) place) (slice_get (logbooks_of table p) place) (refuse_with InvalidConfig) (rest place) (next place) refl (alike-refused (BooksAlike table is_member) _) (λ k e.
        h place k (made-alike k (own k (own-book table p place k e)))))

    with_book-alike : (k : ℕ) (x y : Logbook) → x ≡ y → BooksAlike table is_member (with_book a k x) (with_book b k y)
    with_book-alike k x y e = record { books = agree-set (SameBook table is_member) empty_book a.books b.books same.books k x y (λ _. e); created = same.created }

    message-alike : (id : ℕ) (message : Message) (rest next : ℕ → LogbookRow → LogbookOutcome)
        → ((k : ℕ) (row : LogbookRow) → book_in a k ≡ book_in b k → Alike (BooksAlike table is_member) (rest k row) (next k row))
        → Alike (BooksAlike table is_member) (on_message table a p id message rest) (on_message table b p id message next)
    message-alike id message rest next h = book-alike id _ _ (λ k row e.
        alike-if_with (BooksAlike table is_member) (is_out_of_size row.message_size message) (is_out_of_size row.message_size message) InvalidParam _ _ refl (λ _.
        alike-if_with (BooksAlike table is_member) (is_worn_out (book_in a k)) (is_worn_out (book_in b k)) InvalidConfig (rest k row) (next k row) (ap (λ (x : Logbook). is_worn_out x) e) (λ _. h k row e)))

    create-alike : (mode : Mode) (name : List ℕ) → Alike (BooksAlike table is_member) (create_logbook table a p mode name) (create_logbook table b p mode name)
    unfolding create_logbook
    create-alike mode name = alike-if_with (BooksAlike table is_member) (is_normal mode) (is_normal mode) InvalidMode _ _ refl (λ _. named-alike name _ _ (λ place k e.
        alike-if_with (BooksAlike table is_member) (is_created a k) (is_created b k) NoAction _ _ e (λ _. alike-accepted (BooksAlike table is_member) _ _ _ _ refl
        (record { books = same.books; created = agree-set (SameMade table is_member) false a.created b.created same.created k true true (λ _. refl) }))))

    write-alike : (id : ℕ) (message : Message) → Alike (BooksAlike table is_member) (write_logbook table a p id message) (write_logbook table b p id message)
    unfolding write_logbook
    write-alike id message = message-alike id message _ _ (λ k row e.
        alike-if_with (BooksAlike table is_member) (nat_le row.in_progress (length (book_in a k).in_progress)) (nat_le row.in_progress (length (book_in b k).in_progress)) NotAvailable _ _
        (ap (λ (x : Logbook). nat_le row.in_progress (length x.in_progress)) e) (λ _.
        alike-accepted (BooksAlike table is_member) _ _ _ _ refl (with_book-alike k _ _ (ap (λ (x : Logbook). appended x message) e))))

    overwrite-alike : (id : ℕ) (message : Message) → Alike (BooksAlike table is_member) (overwrite_logbook table a p id message) (overwrite_logbook table b p id message)
    unfolding overwrite_logbook
    overwrite-alike id message = message-alike id message _ _ (λ k row e.
        alike-accepted (BooksAlike table is_member) _ _ _ _ refl
        (with_book-alike k _ _ (ap (λ (x : Logbook). if nat_le row.in_progress (length x.in_progress) then overwritten x message else appended x message) e)))

    read-alike : (id number : ℕ) → Alike (BooksAlike table is_member) (read_logbook table a p id number) (read_logbook table b p id number)
    unfolding read_logbook
    read-alike id number = book-alike id _ _ (λ k row e.
        alike-if_with (BooksAlike table is_member) (number == 0) (number == 0) InvalidParam _ _ refl (λ _.
        given-alike (entry_of (book_in a k) number) (entry_of (book_in b k) number) (refuse_with NotAvailable) _ _ (ap (λ (x : Logbook). entry_of x number) e) (alike-refused (BooksAlike table is_member) _) (λ values _.
        alike-accepted (BooksAlike table is_member) _ _ _ _ refl same)))

    clear-alike : (id : ℕ) → Alike (BooksAlike table is_member) (clear_logbook table a p id) (clear_logbook table b p id)
    unfolding clear_logbook
    clear-alike id = book-alike id _ _ (λ k row e. alike-accepted (BooksAlike table is_member) _ _ _ _ refl (with_book-alike k _ _ (ap (λ (x : Logbook). cleared x) e)))

    get_id-alike : (name : List ℕ) → Alike (BooksAlike table is_member) (get_logbook_id table a p name) (get_logbook_id table b p name)
    unfolding get_logbook_id
    get_id-alike name = named-alike name _ _ (λ place k e.
        alike-if_with (BooksAlike table is_member) (not (is_created a k)) (not (is_created b k)) InvalidConfig _ _ (ap not e) (λ _. alike-accepted (BooksAlike table is_member) _ _ _ _ refl same))

    get_status-alike : (id : ℕ) → Alike (BooksAlike table is_member) (get_logbook_status table a p id) (get_logbook_status table b p id)
    unfolding get_logbook_status
    get_status-alike id = book-alike id _ _ (λ k row e. alike-accepted (BooksAlike table is_member) _ _ _ _
        (ap (λ (x : Logbook). LogbookStatus row.message_size row.logged row.in_progress (length x.logged) (length x.in_progress)) e) same)

    logbook_service-alike : (mode : Mode) (c : LogbookCall) → Alike (BooksAlike table is_member) (logbook_service table a p mode c) (logbook_service table b p mode c)
    logbook_service-alike mode (Create name) = create-alike mode name
    logbook_service-alike mode (Write id message) = write-alike id message
    logbook_service-alike mode (Overwrite id message) = overwrite-alike id message
    logbook_service-alike mode (Read id number) = read-alike id number
    logbook_service-alike mode (Clear id) = clear-alike id
    logbook_service-alike mode (GetId name) = get_id-alike name
    logbook_service-alike mode (GetStatus id) = get_status-alike id

    -- a member's logbook call is answered the same, and leaves both alike
    pub logbook_step-alike : (mode : Mode) (c : LogbookCall) → Alike (BooksAlike table is_member) (logbook_step table a p mode c) (logbook_step table b p mode c)
    logbook_step-alike mode c = alike-if_with (BooksAlike table is_member) (is_idle mode) (is_idle mode) InvalidMode _ _ refl (λ _. logbook_service-alike mode c)

  module _ (q : ℕ) (out : is_member q ≡ false) where
    -- ---- another's call

    abbrev Stays : LogbookSystem → Type 0
    Stays s = BooksAlike table is_member s b

    not-own : (k : ℕ) → (row : LogbookRow) × (slice_get table.logbooks k ≡ Some row) × (row.partition.0 ≡ q) → IsBookOf table is_member k → ⊥
    not-own k is own =
        let both : ◌≡◌ {A = Option LogbookRow} (Some is.0) (Some own.0) = sym is.1 ∙ own.1 in
        let row : is.0 ≡ own.0 = cc in
        let wrong : true ≡ false = sym own.2 ∙ ap (λ (r : LogbookRow). is_member r.partition.0) (sym row) ∙ ap is_member is.2 ∙ out in cc

    given-beside : {X : Type 0} (o : Option X) (refusal : LogbookOutcome) (rest : X → LogbookOutcome) → Stays (state_after a refusal) → ((x : X) → o ≡ Some x → Stays (state_after a (rest x)))
        → Stays (state_after a (given_or o refusal rest))
    given-beside None refusal rest r h = r
    given-beside (Some x) refusal rest r h = h x refl

    book-beside : (id : ℕ) (rest : ℕ → LogbookRow → LogbookOutcome) → ((k : ℕ) (row : LogbookRow) → (IsBookOf table is_member k → ⊥) → Stays (state_after a (rest k row)))
        → Stays (state_after a (on_book table a q id rest))
    book-beside id rest h =
        given-beside (book_number table q id) (refuse_with InvalidParam) _ same (λ k e.
        keeps-if_with Stays a (not (is_created a k)) InvalidParam _ same (λ _.
        given-beside (book_row table k) (refuse_with InvalidParam) (rest k) same (λ row _. h k row (not-own k (own-number table q id k e)))))

    with_book-beside : (k : ℕ) (x : Logbook) → (IsBookOf table is_member k → ⊥) → Stays (with_book a k x)
    with_book-beside k x none = record { books = agree-set-first (SameBook table is_member) empty_book a.books b.books same.books k x (λ y _ is. absurd (none is)); created = same.created }

    message-beside : (id : ℕ) (message : Message) (rest : ℕ → LogbookRow → LogbookOutcome) → ((k : ℕ) (row : LogbookRow) → (IsBookOf table is_member k → ⊥) → Stays (state_after a (rest k row)))
        → Stays (state_after a (on_message table a q id message rest))
    message-beside id message rest h = book-beside id _ (λ k row none.
        keeps-if_with Stays a (is_out_of_size row.message_size message) InvalidParam _ same (λ _.
        keeps-if_with Stays a (is_worn_out (book_in a k)) InvalidConfig _ same (λ _. h k row none)))

    create-beside : (mode : Mode) (name : List ℕ) → Stays (state_after a (create_logbook table a q mode name))
    unfolding create_logbook
    create-beside mode name = keeps-if_with Stays a (is_normal mode) InvalidMode _ same (λ _.
        given-beside (book_named table q name) (refuse_with InvalidConfig) _ same (λ place _.
        given-beside (slice_get (logbooks_of table q) place) (refuse_with InvalidConfig) _ same (λ k e.
        keeps-if_with Stays a (is_created a k) NoAction _ same (λ _.
        record { books = same.books; created = agree-set-first (SameMade table is_member) false a.created b.created same.created k true (λ y _ is. absurd (not-own k (own-book table q place k e) is)) }))))

    write-beside : (id : ℕ) (message : Message) → Stays (state_after a (write_logbook table a q id message))
    unfolding write_logbook
    write-beside id message = message-beside id message _ (λ k row none.
        keeps-if_with Stays a (nat_le row.in_progress (length (book_in a k).in_progress)) NotAvailable _ same (λ _. with_book-beside k _ none))

    overwrite-beside : (id : ℕ) (message : Message) → Stays (state_after a (overwrite_logbook table a q id message))
    unfolding overwrite_logbook
    overwrite-beside id message = message-beside id message _ (λ k row none. with_book-beside k _ none)

    read-beside : (id number : ℕ) → Stays (state_after a (read_logbook table a q id number))
    unfolding read_logbook
    read-beside id number = book-beside id _ (λ k row _.
        keeps-if_with Stays a (number == 0) InvalidParam _ same (λ _.
        given-beside (entry_of (book_in a k) number) (refuse_with NotAvailable) _ same (λ values _. same)))

    clear-beside : (id : ℕ) → Stays (state_after a (clear_logbook table a q id))
    unfolding clear_logbook
    clear-beside id = book-beside id _ (λ k row none. with_book-beside k _ none)

    get_id-beside : (name : List ℕ) → Stays (state_after a (get_logbook_id table a q name))
    unfolding get_logbook_id
    get_id-beside name =
        given-beside (book_named table q name) (refuse_with InvalidConfig) _ same (λ place _.
        given-beside (slice_get (logbooks_of table q) place) (refuse_with InvalidConfig) _ same (λ k e.
        keeps-if_with Stays a (not (is_created a k)) InvalidConfig _ same (λ _. same)))

    get_status-beside : (id : ℕ) → Stays (state_after a (get_logbook_status table a q id))
    unfolding get_logbook_status
    get_status-beside id = book-beside id _ (λ k row _. same)

    logbook_service-beside : (mode : Mode) (c : LogbookCall) → Stays (state_after a (logbook_service table a q mode c))
    logbook_service-beside mode (Create name) = create-beside mode name
    logbook_service-beside mode (Write id message) = write-beside id message
    logbook_service-beside mode (Overwrite id message) = overwrite-beside id message
    logbook_service-beside mode (Read id number) = read-beside id number
    logbook_service-beside mode (Clear id) = clear-beside id
    logbook_service-beside mode (GetId name) = get_id-beside name
    logbook_service-beside mode (GetStatus id) = get_status-beside id

    -- it leaves both alike
    pub logbook_step-beside : (mode : Mode) (c : LogbookCall) → BooksAlike table is_member (state_after a (logbook_step table a q mode c)) b
    logbook_step-beside mode c = keeps-if_with Stays a (is_idle mode) InvalidMode _ same (λ _. logbook_service-beside mode c)
