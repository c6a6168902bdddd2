-- Logbooks that are mounted one after the other.
use Rattle.std.proofs.Common.{◌≡◌, ℕ, zero, suc, ◌+◌, ◌*◌, ◌≤◌, true, List, [], ◌∷◌, ◌++◌, length, take, drop, map, sum_by, Option, Some, None, refl, sym, ◌∙◌, ap, subst, arith}
use Rattle.std.specs.Prelude.{slice_get, Result, Ok, Err, nat_le, IfSome}
use Rattle.std.specs.List.{list_all, AllByRecursion}
use Rattle.std.proofs.lemmas.List.Sums.{sum_by-cons}
use Rattle.apex_types.specs.Rows.{Rows}
use Rattle.apex_types.specs.declared.rows.LogbookRow.{LogbookRow}
use Rattle.apex_model.specs.Accepted.{IsAccepted, has_good_names, has_no_repeats, has_known_names, fits_volumes, fits_image, is_in_range, is_within, is_logbook_in_range, is_channel_in_range}
use Rattle.apex_model.specs.Durable.{StoredLogbook, loaded_book}
use Rattle.apex_model.specs.Image.{logbook_of_region, logbook_region, states_from}
use Rattle.apex_model.specs.Layout.{logbook_blocks, logbook_start, layout_blocks}
use Rattle.apex_model.specs.Logbooks.{Logbook, Message}
use Rattle.apex_model.proofs.AcceptedTables.{and-left, and-right, all-from-list_all}
use Rattle.apex_model.proofs.Keeps.{le-true}
use Rattle.image_format.proofs.Regions.{logbook_start-next, logbook_within}
use Rattle.logbook_store.specs.Regions.{region_at}
use Rattle.logbook_store.specs.Books.{row_of, start_of, life_of, IsStored, Stands}
use Rattle.logbook_store.specs.Logs.{Site, site_of, sites_of, sites_from, AreLaidOut, StandFor}
use Rattle.logbook_store.specs.declared.book.Book.{Book}
use Rattle.logbook_store.proofs.Zips.{zip_push}

-- Rows of an accepted table.

pub record HasRoom (row : LogbookRow) : Type 0 where
  pub message_size : row.message_size ≤ 480
  pub in_progress : row.in_progress ≤ 16
  pub logged : 1 ≤ row.logged

row_room : (row : LogbookRow) → is_logbook_in_range row ≡ true → HasRoom row
row_room row e = record {
  message_size = le-true row.message_size 480 (and-right (nat_le 1 row.message_size) _ (and-left _ (is_within 1 256 row.logged) (and-left _ (is_within 1 16 row.in_progress) e)));
  in_progress = le-true row.in_progress 16 (and-right (nat_le 1 row.in_progress) _ (and-right _ (is_within 1 16 row.in_progress) e));
  logged = le-true 1 row.logged (and-left _ _ (and-right (is_within 1 480 row.message_size) (is_within 1 256 row.logged) (and-left _ (is_within 1 16 row.in_progress) e)));
}

all_room : (rows : List LogbookRow) → AllByRecursion HasRoom rows → (k : ℕ) (row : LogbookRow) → slice_get rows k ≡ Some row → HasRoom row
all_room [] all k row is = absurd cc
all_room (r ∷ rows) all zero row is = let same : r ≡ row = cc in subst HasRoom same all.0
all_room (r ∷ rows) all (suc k) row is = all_room rows all.1 k row is

in_range : (table : Rows) → IsAccepted table → is_in_range table ≡ true
in_range table good = and-right (has_good_names table) _ (and-left _ (has_no_repeats table) (and-left _ (has_known_names table) (and-left _ (fits_volumes table) (and-left _ (fits_image table) good))))

pub room_of : (table : Rows) → IsAccepted table → (k : ℕ) (row : LogbookRow) → slice_get table.logbooks k ≡ Some row → HasRoom row
room_of table good = all_room table.logbooks (all-from-list_all is_logbook_in_range HasRoom row_room table.logbooks
    (and-right _ (list_all is_logbook_in_range table.logbooks) (and-left _ (list_all is_channel_in_range table.channels) (in_range table good))))

-- Rows up to one.

pub split_at : {X : Type 0} (xs : List X) (k : ℕ) (x : X) → slice_get xs k ≡ Some x → xs ≡ take k xs ++ x ∷ drop (suc k) xs
split_at [] k x is = absurd cc
split_at (y ∷ xs) zero x is = let same : y ≡ x = cc in ap (λ z. z ∷ xs) same
split_at (y ∷ xs) (suc k) x is = ap (λ l. y ∷ l) (split_at xs k x is)

take_suc : {X : Type 0} (xs : List X) (k : ℕ) (x : X) → slice_get xs k ≡ Some x → take (suc k) xs ≡ take k xs ++ x ∷ []
take_suc [] k x is = absurd cc
take_suc (y ∷ xs) zero x is = let same : y ≡ x = cc in ap (λ z. z ∷ []) same
take_suc (y ∷ xs) (suc k) x is = ap (λ l. y ∷ l) (take_suc xs k x is)

pub take_next : {X : Type 0} (xs : List X) (k : ℕ) (x : X) → slice_get xs k ≡ Some x → take (k + 1) xs ≡ take k xs ++ x ∷ []
take_next xs k x is = let more : k + 1 ≡ suc k = omega arith in ap (λ (n : ℕ). take n xs) more ∙ take_suc xs k x is

pub take_past : {X : Type 0} (xs : List X) (k : ℕ) → length xs ≤ k → take k xs ≡ xs
take_past [] zero long = refl
take_past [] (suc k) long = refl
take_past (x ∷ xs) zero long = absurd (omega (arith, long))
take_past (x ∷ xs) (suc k) long = ap (λ l. x ∷ l) (take_past xs k (omega (arith, long)))

pub length_front : {X : Type 0} (xs : List X) (k : ℕ) (x : X) → slice_get xs k ≡ Some x → length (take k xs) ≡ k
length_front [] k x is = absurd cc
length_front (y ∷ xs) zero x is = refl
length_front (y ∷ xs) (suc k) x is = let later = length_front xs k x is in omega (arith, later)

pub sites_more : (table : Rows) (k : ℕ) (rows : List LogbookRow) (row : LogbookRow) → sites_from table k (rows ++ row ∷ []) ≡ sites_from table k rows ++ (row, 512 * logbook_start table (k + length rows)) ∷ []
sites_more table k [] row = ap (λ (n : ℕ). let s : List Site = (row, 512 * logbook_start table n) ∷ [] in s) (omega arith)
sites_more table k (r ∷ rows) row =
    ap (λ (sites : List Site). (r, 512 * logbook_start table k) ∷ sites) (sites_more table (k + 1) rows row)
    ∙ ap (λ (n : ℕ). (r, 512 * logbook_start table k) ∷ (sites_from table (k + 1) rows ++ (row, 512 * logbook_start table n) ∷ [])) (omega arith)

-- States up to a row.

abbrev after_row : {X : Type 0} → ℕ → Option X → Result (List X) ℕ → Result (List X) ℕ
after_row bad o later = elim o [ None ↦ Err bad | Some x ↦ elim later [ Err worse ↦ Err worse | Ok xs ↦ Ok (x ∷ xs) ] ]

record First {X : Type 0} (o : Option X) (later : Result (List X) ℕ) (xs : List X) : Type 0 where
  pub first : X
  pub rest : List X
  pub state : o ≡ Some first
  pub states : later ≡ Ok rest
  pub whole : xs ≡ first ∷ rest

first_of : {X : Type 0} (bad : ℕ) (o : Option X) (later : Result (List X) ℕ) (xs : List X) → after_row bad o later ≡ Ok xs → First o later xs
first_of bad None later xs is = absurd cc
first_of bad (Some x) (Err worse) xs is = absurd cc
first_of bad (Some x) (Ok rest) xs is = record { first = x; rest = rest; state = refl; states = refl; whole = cc }

module _ {R X : Type 0} (f : ℕ → R → Option X) where
  pub states_more : (k : ℕ) (rows : List R) (xs : List X) (row : R) (x : X) → states_from f k rows ≡ Ok xs → f (k + length rows) row ≡ Some x → states_from f k (rows ++ row ∷ []) ≡ Ok (xs ++ x ∷ [])
  states_more k [] xs row x is one =
      let nil : [] ≡ xs = cc in
      let here : f k row ≡ Some x = ap (λ (n : ℕ). f n row) (omega arith) ∙ one in
      ap (λ (o : Option X). after_row (k + 1) o (Ok [])) here ∙ ap (λ (l : List X). let r : Result (List X) ℕ = Ok (l ++ x ∷ []) in r) nil
  states_more k (r ∷ rows) xs row x is one =
      let parts = first_of (k + 1) (f k r) (states_from f (k + 1) rows) xs is in
      let later = states_more (k + 1) rows parts.rest row x parts.states (ap (λ (n : ℕ). f n row) (omega arith) ∙ one) in
      ap (λ (o : Option X). after_row (k + 1) o (states_from f (k + 1) (rows ++ row ∷ []))) parts.state
      ∙ ap (after_row (k + 1) (Some parts.first)) later
      ∙ ap (λ (l : List X). let r : Result (List X) ℕ = Ok (l ++ x ∷ []) in r) (sym parts.whole)

  pub states_bad : (k : ℕ) (rows : List R) (xs : List X) (row : R) (rest : List R) → states_from f k rows ≡ Ok xs → f (k + length rows) row ≡ None → states_from f k (rows ++ row ∷ rest) ≡ Err (k + length rows + 1)
  states_bad k [] xs row rest is none =
      let here : f k row ≡ None = ap (λ (n : ℕ). f n row) (omega arith) ∙ none in
      ap (λ (o : Option X). after_row (k + 1) o (states_from f (k + 1) rest)) here ∙ ap (λ (n : ℕ). let r : Result (List X) ℕ = Err n in r) (omega arith)
  states_bad k (r ∷ rows) xs row rest is none =
      let parts = first_of (k + 1) (f k r) (states_from f (k + 1) rows) xs is in
      let later = states_bad (k + 1) rows parts.rest row rest parts.states (ap (λ (n : ℕ). f n row) (omega arith) ∙ none) in
      ap (λ (o : Option X). after_row (k + 1) o (states_from f (k + 1) (rows ++ row ∷ rest))) parts.state
      ∙ ap (after_row (k + 1) (Some parts.first)) later
      ∙ ap (λ (n : ℕ). let r : Result (List X) ℕ = Err n in r) (omega arith)

-- One logbook more.
abbrev pub IsBad : LogbookRow → ℕ → List ℕ → Type 0
IsBad row start image = logbook_of_region row (region_at row start image) ≡ None

abbrev pub stored_of : Rows → List ℕ → ℕ → LogbookRow → Option StoredLogbook
stored_of table image k row = logbook_of_region row (logbook_region table image k row)

-- the logbooks mounted so far
pub record Mounted (table : Rows) (image : List ℕ) (k : ℕ) (books : List Book) : Type 0 where
  pub stored : List StoredLogbook
  pub states : states_from (stored_of table image) 0 (take k table.logbooks) ≡ Ok stored
  pub stand : StandFor books image (map loaded_book stored)

map_push : (xs : List StoredLogbook) (x : StoredLogbook) → map loaded_book (xs ++ x ∷ []) ≡ map loaded_book xs ++ loaded_book x ∷ []
map_push [] x = refl
map_push (y ∷ xs) x = ap (λ (l : List Logbook). loaded_book y ∷ l) (map_push xs x)

pub mounted_more : (table : Rows) (image : List ℕ) (k : ℕ) (books : List Book) (row : LogbookRow) (start : ℕ) (book : Book) → slice_get table.logbooks k ≡ Some row → start ≡ 512 * logbook_start table k
    → Mounted table image k books → row_of book ≡ row → start_of book ≡ start → ((logged : List Message) × Stands book image (record { life = life_of book; logged = logged; in_progress = [] }))
    → Mounted table image (k + 1) (books ++ book ∷ [])
mounted_more table image k books row start book is start_is so_far same_row same_start stands =
    let new : StoredLogbook = record { life = life_of book; logged = stands.0 } in
    let count = length_front table.logbooks k row is in
    let b : Logbook = record { life = life_of book; logged = stands.0; in_progress = [] } in
    let here : IsStored row (512 * logbook_start table k) b image =
    subst (λ (n : ℕ). IsStored row n b image) (same_start ∙ start_is) (subst (λ (r : LogbookRow). IsStored r (start_of book) b image) same_row stands.1.region) in
    record {
      stored = so_far.stored ++ new ∷ [];
      states = ap (states_from (stored_of table image) 0) (take_next table.logbooks k row is)
          ∙ states_more (stored_of table image) 0 (take k table.logbooks) so_far.stored row new so_far.states (ap (λ (n : ℕ). stored_of table image n row) (omega (arith, count)) ∙ here);
      stand = subst (λ (bs : List Logbook). StandFor (books ++ book ∷ []) image bs) (sym (map_push so_far.stored new))
          (zip_push (λ (a : Book) (c : Logbook). Stands a image c) books (map loaded_book so_far.stored) book (loaded_book new) so_far.stand stands.1);
    }

pub bad_at : (table : Rows) (image : List ℕ) (k : ℕ) (books : List Book) (row : LogbookRow) (start : ℕ) → slice_get table.logbooks k ≡ Some row → start ≡ 512 * logbook_start table k → Mounted table image k books
    → logbook_of_region row (logbook_region table image k row) ≡ None → states_from (stored_of table image) 0 table.logbooks ≡ Err (k + 1)
bad_at table image k books row start is start_is so_far none =
    let count = length_front table.logbooks k row is in
    ap (states_from (stored_of table image) 0) (split_at table.logbooks k row is)
    ∙ states_bad (stored_of table image) 0 (take k table.logbooks) so_far.stored row (drop (suc k) table.logbooks) so_far.states (ap (λ (n : ℕ). stored_of table image n row) (omega (arith, count)) ∙ none)
    ∙ ap (λ (n : ℕ). let r : Result (List StoredLogbook) ℕ = Err n in r) (omega (arith, count))

pub sites_next : (table : Rows) (k : ℕ) (books : List Book) (row : LogbookRow) (start : ℕ) (book : Book) → slice_get table.logbooks k ≡ Some row → start ≡ 512 * logbook_start table k
    → sites_of books ≡ sites_from table 0 (take k table.logbooks) → row_of book ≡ row → start_of book ≡ start → sites_of (books ++ book ∷ []) ≡ sites_from table 0 (take (k + 1) table.logbooks)
sites_next table k books row start book is start_is so_far same_row same_start =
    let count = length_front table.logbooks k row is in
    push books book ∙ ap (λ (sites : List Site). sites ++ site_of book ∷ []) so_far
    ∙ ap (λ (r : LogbookRow). sites_from table 0 (take k table.logbooks) ++ (r, start_of book) ∷ []) same_row
    ∙ ap (λ (n : ℕ). sites_from table 0 (take k table.logbooks) ++ (row, n) ∷ []) (same_start ∙ start_is)
    ∙ ap (λ (n : ℕ). sites_from table 0 (take k table.logbooks) ++ (row, 512 * logbook_start table n) ∷ []) (omega (arith, count))
    ∙ sym (ap (sites_from table 0) (take_next table.logbooks k row is) ∙ sites_more table 0 (take k table.logbooks) row)
  where
    push : (books : List Book) (book : Book) → sites_of (books ++ book ∷ []) ≡ sites_of books ++ site_of book ∷ []
    push [] book = refl
    push (b ∷ books) book = ap (λ (sites : List Site). site_of b ∷ sites) (push books book)

pub found_is : {X : Type 0} (P : X → Type 0) (o : Option X) (x : X) → o ≡ Some x → IfSome o P → P x
found_is P o x is has = subst (λ o. IfSome o P) is has

-- the region of a row fits the disk
pub region_fits : (table : Rows) (k : ℕ) (row : LogbookRow) (start size : ℕ) → slice_get table.logbooks k ≡ Some row → start ≡ 512 * logbook_start table k → 512 * layout_blocks table ≤ size → start + 512 * logbook_blocks row ≤ size
region_fits table k row start size is start_is fits = omega (arith, start_is, fits, logbook_within table k row is)

-- The regions of a table lie one behind another.
sites_at : (table : Rows) (from : ℕ) (rows : List LogbookRow) (k : ℕ) (site : Site) → slice_get (sites_from table from rows) k ≡ Some site → (row : LogbookRow) × (slice_get rows k ≡ Some row) × (site.0 ≡ row) × (site.1 ≡ 512 * logbook_start table (from + k))
sites_at table from [] k site is = absurd cc
sites_at table from (row ∷ rows) zero site is =
    let here : Site = (row, 512 * logbook_start table from) in
    let same : here ≡ site = cc in
    (row, refl, ap (λ (s : Site). s.0) (sym same), ap (λ (s : Site). s.1) (sym same) ∙ ap (λ (n : ℕ). 512 * logbook_start table n) (omega arith))
sites_at table from (row ∷ rows) (suc k) site is =
    let there = sites_at table (from + 1) rows k site is in
    (there.0, there.1, there.2, there.3 ∙ ap (λ (n : ℕ). 512 * logbook_start table n) (omega arith))

sums_rise : (rows : List LogbookRow) (j k : ℕ) → j ≤ k → sum_by logbook_blocks (take j rows) ≤ sum_by logbook_blocks (take k rows)
sums_rise [] zero zero le = omega arith
sums_rise [] zero (suc k) le = omega arith
sums_rise [] (suc j) zero le = absurd (omega arith)
sums_rise [] (suc j) (suc k) le = omega arith
sums_rise (row ∷ rows) zero k le = omega arith
sums_rise (row ∷ rows) (suc j) zero le = absurd (omega arith)
sums_rise (row ∷ rows) (suc j) (suc k) le = omega (arith, sums_rise rows j k (omega arith), sum_by-cons logbook_blocks row (take j rows), sum_by-cons logbook_blocks row (take k rows))

pub sites_laid_out : (table : Rows) (size : ℕ) → 512 * layout_blocks table ≤ size → AreLaidOut (sites_from table 0 table.logbooks) size
sites_laid_out table size fits = record {
  fit = λ k site is.
      let there = sites_at table 0 table.logbooks k site is in
      let within = logbook_within table k there.0 there.1 in
      let blocks : logbook_blocks site.0 ≡ logbook_blocks there.0 = ap logbook_blocks there.2 in
      let at : logbook_start table (0 + k) ≡ logbook_start table k = ap (logbook_start table) (omega arith) in
      omega (arith, fits, within, blocks, there.3, at);
  ordered = λ j k first second less is other.
      let one = sites_at table 0 table.logbooks j first is in
      let two = sites_at table 0 table.logbooks k second other in
      let next = logbook_start-next table j one.0 one.1 in
      let rises = sums_rise table.logbooks (j + 1) k (omega (arith, less)) in
      let blocks : logbook_blocks first.0 ≡ logbook_blocks one.0 = ap logbook_blocks one.2 in
      let at : logbook_start table (0 + j) ≡ logbook_start table j = ap (logbook_start table) (omega arith) in
      let end : logbook_start table (0 + k) ≡ logbook_start table k = ap (logbook_start table) (omega arith) in
      omega (arith, next, rises, blocks, at, end, one.3, two.3);
}
