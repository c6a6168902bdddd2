-- Logbooks that were mounted are valid: their messages have lengths that a row allows, and their lives are those in memory.
use Rattle.std.proofs.Common.{◌≡◌, ℕ, suc, ◌+◌, ◌-◌, ◌*◌, ◌%◌, ◌≤◌, ◌<◌, Bool, true, false, List, [], ◌∷◌, length, map, drop, Option, Some, None, refl, sym, ap, subst, ◌∙◌, arith}
use Rattle.std.specs.Prelude.{slice_get, nat_le, ◌==◌, ◌&&◌, if◌then◌else◌}
use Rattle.std.specs.List.{AllByRecursion, AllZip}
use Rattle.std.proofs.lemmas.List.{length-take, length-drop}
use Rattle.std.proofs.lemmas.Bool.Decides.{nat_tests}
use Rattle.std.proofs.lemmas.Option.{slice_get_within}
use Rattle.apex_types.specs.Rows.{Rows}
use Rattle.apex_types.specs.declared.rows.LogbookRow.{LogbookRow}
use Rattle.apex_model.specs.Durable.{StoredLogbook, loaded_book}
use Rattle.apex_model.specs.Fields.{part, number_at, is_padding, log_entry_of}
use Rattle.apex_model.specs.Image.{is_open, blocks_at, message_in_place, logbook_of_region, message_numbered}
use Rattle.apex_model.specs.Layout.{layout_blocks, logbook_start, logbook_blocks}
use Rattle.apex_model.specs.Validity.{IsMessage, IsValidLogbook}
use Rattle.apex_model.proofs.AcceptedTables.{and-left, and-right}
use Rattle.image_format.proofs.Regions.{logbook_within}
use Rattle.logbook_store.specs.Books.{row_of, start_of, Stands}
use Rattle.logbook_store.specs.Logs.{Site, site_of, size_of, sites_of, StandFor, sites_from as log_sites_from}
use Rattle.logbook_store.specs.Regions.{PlaceEntry, region_at}
use Rattle.logbook_store.specs.Sizes.{AreSized}
use Rattle.logbook_store.specs.declared.book.Book.{Book}
use Rattle.logbook_store.proofs.Answers.{answer_count}
use Rattle.logbook_store.proofs.Spelled.{Spells, spelled, oldest_of, logged_entry}

-- ---- the bytes of a place

if_some : {X : Type 0} (b : Bool) (x y : X) → (if b then Some x else None) ≡ Some y → (b ≡ true) × (x ≡ y)
if_some true x y is = (refl, cc)
if_some false x y is = absurd cc

le_true : (m n : ℕ) → nat_le m n ≡ true → m ≤ n
le_true m n test = grind (arith, nat_tests)

-- an entry of a block
record IsEntry (limit : ℕ) (bytes : List ℕ) (entry : ℕ × List ℕ) : Type 0 where
  pub message : entry.1 ≡ part bytes 6 (number_at bytes 4 2)
  pub some : 1 ≤ number_at bytes 4 2
  pub few : number_at bytes 4 2 ≤ limit

entry_spelled : (limit : ℕ) (bytes : List ℕ) (entry : ℕ × List ℕ) → log_entry_of limit bytes ≡ Some entry → IsEntry limit bytes entry
entry_spelled limit bytes entry is =
    let a : Bool = nat_le 1 (number_at bytes 0 4) in
    let b : Bool = nat_le 1 (number_at bytes 4 2) in
    let c : Bool = nat_le (number_at bytes 4 2) limit in
    let d : Bool = is_padding (drop (6 + number_at bytes 4 2) bytes) in
    let made : ℕ × List ℕ = (number_at bytes 0 4, part bytes 6 (number_at bytes 4 2)) in
    let both = if_some (a && b && c && d) made entry is in
    let abc : (a && b && c) ≡ true = and-left (a && b && c) d both.0 in
    let ab : (a && b) ≡ true = and-left (a && b) c abc in
    record {
      message = sym (ap (λ (e : ℕ × List ℕ). e.1) both.1);
      some = le_true 1 (number_at bytes 4 2) (and-right a b ab);
      few = le_true (number_at bytes 4 2) limit (and-right (a && b) c abc);
    }

message_long : (limit : ℕ) (bytes : List ℕ) (entry : ℕ × List ℕ) → 7 ≤ length bytes → IsEntry limit bytes entry → (1 ≤ length entry.1) × (length entry.1 ≤ limit)
message_long limit bytes entry long spells =
    let n = number_at bytes 4 2 in
    let same : length entry.1 ≡ length (part bytes 6 n) = ap length spells.message in
    let taken = length-take n (drop 6 bytes) in
    let behind : length (drop 6 bytes) ≡ length bytes - 6 = length-drop 6 bytes in
    (omega (arith, same, taken, behind, long, spells.some), omega (arith, same, taken, spells.few))

abbrev in_place : ℕ → ℕ → Bool → Option (ℕ × List ℕ) → Option PlaceEntry
in_place count place opened o = if opened then elim o as (λ _. Option PlaceEntry) [ None ↦ None | Some entry ↦ if entry.0 % count == place then Some (Some entry) else None ] else Some None

test_own : (b : Bool) (entry wanted : ℕ × List ℕ) → (if b then (let s : Option PlaceEntry = Some (Some entry) in s) else None) ≡ Some (Some wanted) → entry ≡ wanted
test_own true entry wanted is = cc
test_own false entry wanted is = absurd cc

own_entry : (count place : ℕ) (opened : Bool) (o : Option (ℕ × List ℕ)) (entry : ℕ × List ℕ) → in_place count place opened o ≡ Some (Some entry) → o ≡ Some entry
own_entry count place false o entry is = absurd cc
own_entry count place true None entry is = absurd cc
own_entry count place true (Some found) entry is = ap (λ (e : ℕ × List ℕ). Some e) (test_own (found.0 % count == place) found entry is)

place_spelled : (row : LogbookRow) (region : List ℕ) (place : ℕ) (entry : ℕ × List ℕ) → message_in_place row region place ≡ Some (Some entry) → IsEntry row.message_size (blocks_at region (5 + 2 * place) 1) entry
place_spelled row region place entry is =
    entry_spelled row.message_size (blocks_at region (5 + 2 * place) 1) entry
    (own_entry (row.logged + 1) place (is_open region (4 + 2 * place)) (log_entry_of row.message_size (blocks_at region (5 + 2 * place) 1)) entry is)

place_low : (number count : ℕ) → number % (count + 1) < count + 1
place_low number count = omega (arith)

block_long : (row : LogbookRow) (region : List ℕ) (place : ℕ) → 512 * logbook_blocks row ≤ length region → place < row.logged + 1 → 512 ≤ length (blocks_at region (5 + 2 * place) 1)
block_long row region place long low =
    omega (arith, long, low, length-take 512 (drop (512 * (5 + 2 * place)) region), length-drop (512 * (5 + 2 * place)) region)

-- ---- what a region of full length says of its logbook, whatever numbers stand in its places of bytes

record IsSizedBook (row : LogbookRow) (stored : StoredLogbook) : Type 0 where
  pub sized : AreSized row.message_size stored.logged
  pub few : length stored.logged ≤ row.logged
  pub lived : length stored.logged ≤ stored.life

module _ (row : LogbookRow) (region : List ℕ) (stored : StoredLogbook) (spells : Spells row region stored) where
  book_count : length stored.logged ≡ stored.life - oldest_of row spells.cleared stored.life
  book_count = answer_count (λ n. message_numbered n spells.places) (oldest_of row spells.cleared stored.life + 1) (stored.life - oldest_of row spells.cleared stored.life) stored.logged spells.messages

  -- each logged message stands in a place
  message_at : (i : ℕ) (message : List ℕ) → slice_get stored.logged i ≡ Some message
      → (place : ℕ) × (entry : ℕ × List ℕ) × (place < row.logged + 1) × IsEntry row.message_size (blocks_at region (5 + 2 * place) 1) entry × (entry.1 ≡ message)
  message_at i message is =
      let low = slice_get_within stored.logged i message is in
      let number : ℕ = stored.life + i + 1 - length stored.logged in
      let found = logged_entry row region stored spells i number low (omega (arith, book_count)) message is in
      (number % (row.logged + 1), found.0, place_low number row.logged, place_spelled row region (number % (row.logged + 1)) found.0 found.1, found.2)

book_is_sized : (row : LogbookRow) (region : List ℕ) (stored : StoredLogbook) → 512 * logbook_blocks row ≤ length region → logbook_of_region row region ≡ Some stored → IsSizedBook row stored
book_is_sized row region stored long is =
    let spells = spelled row region stored is in
    let count = book_count row region stored spells in
    record {
      sized = λ k message at.
          let found = message_at row region stored spells k message at in
          let lengths = message_long row.message_size (blocks_at region (5 + 2 * found.0) 1) found.1 (omega (arith, block_long row region found.0 long found.2)) found.3 in
          (omega (arith, lengths.0, ap length found.4), omega (arith, lengths.1, ap length found.4));
      few = omega (arith, count);
      lived = omega (arith, count);
    }

all_from : {X : Type 0} (P : X → Type 0) (xs : List X) → ((k : ℕ) (x : X) → slice_get xs k ≡ Some x → P x) → AllByRecursion P xs
all_from P [] each = tt
all_from P (x ∷ xs) each = (each 0 x refl, all_from P xs (λ k y is. each (suc k) y is))

region_long : (row : LogbookRow) (start : ℕ) (image : List ℕ) → start + 512 * logbook_blocks row ≤ length image → 512 * logbook_blocks row ≤ length (region_at row start image)
region_long row start image fits = omega (arith, fits, length-take (512 * logbook_blocks row) (drop start image), length-drop start image)

-- ---- mounted logbooks

mounted_is_valid : (book : Book) (image : List ℕ) (stored : StoredLogbook) → Stands book image (loaded_book stored) → start_of book + size_of (site_of book) ≤ length image → IsValidLogbook (row_of book) (loaded_book stored)
mounted_is_valid book image stored stands fits =
    let sized = book_is_sized (row_of book) (region_at (row_of book) (start_of book) image) stored (region_long (row_of book) (start_of book) image fits) stands.region in
    record {
      logged = all_from (IsMessage (row_of book).message_size) stored.logged (λ k message at. let lengths = sized.sized k message at in record { some = lengths.0; fits = lengths.1 });
      in_progress = tt;
      few_logged = sized.few;
      few_in_progress = omega arith;
      lived = sized.lived;
      life = omega (arith, book.whole, stands.life);
    }

module _ (table : Rows) (image : List ℕ) (room : 512 * layout_blocks table ≤ length image) where
  mounted_from : (k : ℕ) (rows : List LogbookRow) (books : List Book) (stored : List StoredLogbook) → ((j : ℕ) (row : LogbookRow) → slice_get rows j ≡ Some row → slice_get table.logbooks (k + j) ≡ Some row)
      → sites_of books ≡ log_sites_from table k rows → StandFor books image (map loaded_book stored) → AllZip IsValidLogbook rows (map loaded_book stored)
  mounted_from k [] [] [] rows_are sites stand = tt
  mounted_from k [] [] (s ∷ stored) rows_are sites stand = absurd stand
  mounted_from k [] (book ∷ books) stored rows_are sites stand = absurd (let long = ap length sites in omega (arith, long))
  mounted_from k (row ∷ rows) [] stored rows_are sites stand = absurd (let long = ap length sites in omega (arith, long))
  mounted_from k (row ∷ rows) (book ∷ books) [] rows_are sites stand = absurd stand
  mounted_from k (row ∷ rows) (book ∷ books) (s ∷ stored) rows_are sites stand =
      let found : slice_get table.logbooks k ≡ Some row = ap (λ (n : ℕ). slice_get table.logbooks n) (omega arith) ∙ rows_are 0 row refl in
      let here : site_of book ≡ (row, 512 * logbook_start table k) = cc in
      let same_row : row_of book ≡ row = ap (λ (t : Site). t.0) here in
      let same_start : start_of book ≡ 512 * logbook_start table k = ap (λ (t : Site). t.1) here in
      let blocks : logbook_blocks (row_of book) ≡ logbook_blocks row = ap logbook_blocks same_row in
      let end = logbook_within table k row found in (
        subst (λ (r : LogbookRow). IsValidLogbook r (loaded_book s)) same_row (mounted_is_valid book image s stand.0 (omega (arith, same_start, blocks, end, room))),
        mounted_from (k + 1) rows books stored (λ j r is. ap (λ (n : ℕ). slice_get table.logbooks n) (omega arith) ∙ rows_are (suc j) r is) (cc) stand.1,
      )

-- all of a table
pub mounted_are_valid : (table : Rows) (image : List ℕ) (books : List Book) (stored : List StoredLogbook) → 512 * layout_blocks table ≤ length image → sites_of books ≡ log_sites_from table 0 table.logbooks
    → StandFor books image (map loaded_book stored) → AllZip IsValidLogbook table.logbooks (map loaded_book stored)
mounted_are_valid table image books stored room sites stand =
    mounted_from table image room 0 table.logbooks books stored (λ j row is. ap (λ (n : ℕ). slice_get table.logbooks n) (omega arith) ∙ is) sites stand
