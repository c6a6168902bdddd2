-- What a device's logbooks know in the tests.
use Rattle.std.proofs.Common.{◌≡◌, ℕ, zero, suc, ◌+◌, List, [], ◌∷◌, length, Option, Some, None, refl, sym, ◌∙◌, ap, subst, arith}
use Rattle.std.specs.Prelude.{slice_get, slice_index_or, IfSome}
use Rattle.std.specs.List.{AllByRecursion}
use Rattle.std.proofs.lemmas.List.{length-map}
use Rattle.apex_types.specs.Rows.{Rows}
use Rattle.apex_types.specs.declared.rows.LogbookRow.{LogbookRow}
use Rattle.apex_types.specs.declared.fields.LogCounts.{LogCounts}
use Rattle.apex_model.specs.Layout.{logbook_start}
use Rattle.apex_model.specs.Logbooks.{Logbook, Message, empty_book}
use Rattle.rig_core.specs.Outside.{Outside, Sound, OnlyReads}
use Rattle.rig_core.specs.Leaves.{IsAllSettled}
use Rattle.rig_core.proofs.Moments.{now_none}
use Rattle.logbook_store.specs.Books.{row_of, life_of, logged_of, progress_of, counts_of, Stands}
use Rattle.logbook_store.specs.Logs.{Site, site_of, sites_of, sites_from, AreLaidOut, StandFor}
use Rattle.logbook_store.specs.declared.book.Book.{Book}
use Rattle.logbook_store.proofs.Zips.{zip_at}

abbrev pub IsSmallRow : LogbookRow → Type 0
IsSmallRow row = (row.message_size ≡ 16) × (row.in_progress ≡ 2)

abbrev pub IsSmall : Site → Type 0
IsSmall site = (site.0.message_size ≡ 16) × (site.0.in_progress ≡ 2)

pub if_some : (P : Book → Type 0) (books : List Book) (k : ℕ) → ((book : Book) → slice_get books k ≡ Some book → P book) → IfSome (slice_get books k) P
if_some P [] k each = tt
if_some P (x ∷ books) zero each = each x refl
if_some P (x ∷ books) (suc k) each = if_some P books k each

pub small_at : (books : List Book) → AllByRecursion IsSmall (sites_of books) → (k : ℕ) (book : Book) → slice_get books k ≡ Some book → IsSmallRow (row_of book)
small_at [] all k book is = absurd cc
small_at (x ∷ books) all zero book is = let same : x ≡ book = cc in subst (λ (b : Book). IsSmallRow (row_of b)) same all.0
small_at (x ∷ books) all (suc k) book is = small_at books all.1 k book is

pub sites_small : (table : Rows) (k : ℕ) (rows : List LogbookRow) → AllByRecursion IsSmallRow rows → AllByRecursion IsSmall (sites_from table k rows)
sites_small table k [] all = tt
sites_small table k (row ∷ rows) all = (all.0, sites_small table (k + 1) rows all.1)

sites_count : (table : Rows) (k : ℕ) (rows : List LogbookRow) → length (sites_from table k rows) ≡ length rows
sites_count table k [] = refl
sites_count table k (row ∷ rows) = ap suc (sites_count table (k + 1) rows)

pub count_from : (table : Rows) (books : List Book) → sites_of books ≡ sites_from table 0 table.logbooks → length books ≡ length table.logbooks
count_from table books sites = sym (length-map books site_of) ∙ ap length sites ∙ sites_count table 0 table.logbooks

-- what the counts tell of memory
pub record Counts (book : Book) (counts : LogCounts) : Type 0 where
  pub life : life_of book ≡ counts.life
  pub logged : logged_of book ≡ counts.logged
  pub progress : length (progress_of book) ≡ counts.progress

pub counted : (books : List Book) (image : List ℕ) (logbooks : List Logbook) → StandFor books image logbooks → (k : ℕ) (counts : LogCounts)
    → ((image : List ℕ) (logbooks : List Logbook) → StandFor books image logbooks → counts ≡ counts_of (slice_index_or logbooks k empty_book))
    → (book : Book) → slice_get books k ≡ Some book → Counts book counts
counted books image logbooks stand k counts is book at =
    let b = slice_index_or logbooks k empty_book in
    let P : Book → Logbook → Type 0 = λ a c. Stands a image c in
    let stands : Stands book image b = zip_at P books logbooks k book empty_book stand at in
    let same : counts ≡ counts_of b = is image logbooks stand in
    record {
      life = stands.life ∙ sym (ap (λ (c : LogCounts). c.life) same);
      logged = stands.logged ∙ sym (ap (λ (c : LogCounts). c.logged) same);
      progress = ap (λ (l : List Message). length l) stands.in_progress ∙ sym (ap (λ (c : LogCounts). c.progress) same);
    }

-- nothing is pending after reads
pub still : (V K : Type 0) (o e : Outside) → Sound V K e → OnlyReads V o e → IsAllSettled o → IsAllSettled e
still V K o e sound reads all image told now =
    let before = now_none o e sound reads.later.clock reads.cuts image told now in
    all image told before ∙ sym (reads.view (sound.shown e.clock image told now))

-- two logbooks with nothing logged
pub none_logged : (logs : List Book) → length logs ≡ 2 → IfSome (slice_get logs 0) (λ book. logged_of book ≡ 0) → IfSome (slice_get logs 1) (λ book. logged_of book ≡ 0)
    → (k : ℕ) (book : Book) → slice_get logs k ≡ Some book → logged_of book ≡ 0
none_logged [] two first second k book is = absurd (omega (arith, two))
none_logged (a ∷ []) two first second k book is = absurd (omega (arith, two))
none_logged (a ∷ b ∷ []) two first second zero book is = let same : a ≡ book = cc in subst (λ (x : Book). logged_of x ≡ 0) same first
none_logged (a ∷ b ∷ []) two first second (suc zero) book is = let same : b ≡ book = cc in subst (λ (x : Book). logged_of x ≡ 0) same second
none_logged (a ∷ b ∷ []) two first second (suc (suc k)) book is = absurd cc
none_logged (a ∷ b ∷ c ∷ logs) two first second k book is = absurd (omega (arith, two))

-- the regions stay where they are
pub still_laid : (sites new_sites : List Site) (size new_size : ℕ) → new_sites ≡ sites → new_size ≡ size → AreLaidOut sites size → AreLaidOut new_sites new_size
still_laid sites new_sites size new_size same long laid = subst (λ (s : List Site). AreLaidOut s new_size) (sym same) (subst (AreLaidOut sites) (sym long) laid)
