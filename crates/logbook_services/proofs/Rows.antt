-- The logbooks of an accepted table.
use Rattle.std.proofs.Common.{◌≡◌, ℕ, true, zero, suc, ◌+◌, ◌*◌, ◌<◌, ◌≤◌, List, [], ◌∷◌, Option, Some, None, length, refl, sym, ◌∙◌, ap, subst}
use Rattle.std.specs.Prelude.{nat_le, slice_get, IfSome}
use Rattle.std.specs.List.{list_all}
use Rattle.std.proofs.lemmas.Option.{slice_get_within}
use Rattle.apex_types.specs.Rows.{Rows}
use Rattle.apex_types.specs.declared.rows.LogbookRow.{LogbookRow}
use Rattle.apex_model.specs.Accepted.{IsAccepted, has_good_names, is_in_range, has_no_repeats, has_known_names, fits_volumes, fits_image, is_within, is_tree_in_range, is_logbook_in_range, is_channel_in_range}
use Rattle.apex_model.specs.Layout.{logbook_start}
use Rattle.apex_model.proofs.AcceptedTables.{and-left, and-right, all_at, logbook_limits, HasLimits}
use Rattle.apex_model.proofs.Keeps.{le-true}
use Rattle.logbook_store.specs.Books.{row_of}
use Rattle.logbook_store.specs.Logs.{Site, site_of, sites_of, sites_from}
use Rattle.logbook_store.specs.declared.book.Book.{Book}

in_range : (table : Rows) → IsAccepted table → is_in_range table ≡ true
in_range table a = and-right (has_good_names table) _ (and-left _ (has_no_repeats table) (and-left _ (has_known_names table) (and-left _ (fits_volumes table) (and-left _ (fits_image table) a))))

-- a table has 32 logbooks at most
pub few_logbooks : (table : Rows) → IsAccepted table → length table.logbooks ≤ 32
few_logbooks table a =
    le-true (length table.logbooks) 32 (and-right _ (nat_le (length table.logbooks) 32)
    (and-left _ (nat_le (length table.channels) 32)
    (and-left _ (list_all (λ row. is_within 1 131072 row.blocks) table.volumes)
    (and-left _ (list_all is_tree_in_range table.trees)
    (and-left _ (list_all is_logbook_in_range table.logbooks)
    (and-left _ (list_all is_channel_in_range table.channels) (in_range table a)))))))

-- each has room for a message in progress
pub has_progress : (table : Rows) → IsAccepted table → (k : ℕ) (row : LogbookRow) → slice_get table.logbooks k ≡ Some row → 1 ≤ row.in_progress
has_progress table a k row is = (all_at HasLimits table.logbooks k row (logbook_limits table a) is).in_progress

row_at : (table : Rows) (from : ℕ) (rows : List LogbookRow) (k : ℕ) (row : LogbookRow) → slice_get rows k ≡ Some row → (start : ℕ) × (slice_get (sites_from table from rows) k ≡ Some (row, start))
row_at table from [] k row is = absurd (let w : ◌≡◌ {A = Option LogbookRow} None (Some row) = is in cc)
row_at table from (r ∷ rows) zero row is = let same : r ≡ row = cc in (512 * logbook_start table from, ap (λ (x : LogbookRow). let s : Site = (x, 512 * logbook_start table from) in Some s) same)
row_at table from (r ∷ rows) (suc k) row is = row_at table (from + 1) rows k row is

book_at : (logs : List Book) (k : ℕ) (site : Site) → slice_get (sites_of logs) k ≡ Some site → (book : Book) × (slice_get logs k ≡ Some book) × (site_of book ≡ site)
book_at [] k site is = absurd (let w : ◌≡◌ {A = Option Site} None (Some site) = is in cc)
book_at (b ∷ logs) zero site is = let same : site_of b ≡ site = cc in (b, refl, same)
book_at (b ∷ logs) (suc k) site is = book_at logs k site is

-- the logbook of a row
pub book_of_row : (table : Rows) (logs : List Book) (k : ℕ) (row : LogbookRow) → sites_of logs ≡ sites_from table 0 table.logbooks → slice_get table.logbooks k ≡ Some row
    → (book : Book) × (slice_get logs k ≡ Some book) × (row_of book ≡ row)
book_of_row table logs k row sites is =
    let there = row_at table 0 table.logbooks k row is in
    let site : Site = (row, there.0) in
    let found = book_at logs k site (ap (λ (s : List Site). slice_get s k) sites ∙ there.1) in
    (found.0, found.1, ap (λ (s : Site). s.0) found.2)

pub within_logs : (table : Rows) (logs : List Book) (k : ℕ) (row : LogbookRow) → sites_of logs ≡ sites_from table 0 table.logbooks → slice_get table.logbooks k ≡ Some row → k < length logs
within_logs table logs k row sites is = let found = book_of_row table logs k row sites is in slice_get_within logs k found.0 found.1

pub if_some : {A : Type 0} (P : A → Type 0) (o : Option A) (a : A) → o ≡ Some a → P a → IfSome o P
if_some {A = A} P o a is p = subst (λ (x : Option A). IfSome x P) (sym is) p

pub some_is : {A : Type 0} (P : A → Type 0) (o : Option A) (a : A) → o ≡ Some a → IfSome o P → P a
some_is {A = A} P o a is p = subst (λ (x : Option A). IfSome x P) is p
