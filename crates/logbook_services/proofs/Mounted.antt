-- Logbooks that were mounted, and those that moved a message.
use Rattle.std.proofs.Common.{◌≡◌, ℕ, suc, ◌+◌, Bool, false, List, [], ◌∷◌, Some, length, map, refl, sym, ◌∙◌, ap, subst, arith}
use Rattle.std.specs.Prelude.{slice_get, zip}
use Rattle.std.specs.List.{AllZip, AllByRecursion}
use Rattle.apex_types.specs.Rows.{Rows}
use Rattle.apex_types.specs.declared.rows.LogbookRow.{LogbookRow}
use Rattle.apex_model.specs.Accepted.{IsAccepted}
use Rattle.apex_model.specs.Durable.{StoredLogbook, loaded_book}
use Rattle.apex_model.specs.Logbooks.{Logbook, LogbookSystem, moved, moved_by, all_moved}
use Rattle.apex_model.specs.Validity.{IsMessage, IsValidLogbook, IsValidLogbooks}
use Rattle.apex_model.proofs.AcceptedTables.{all_logged, logbook_limits}
use Rattle.apex_model.proofs.Cuts.{length-map}
use Rattle.apex_model.proofs.ValidLogbooks.{all_moved-valid}
use Rattle.logbook_store.specs.Books.{logged_of, Stands as BookStands}
use Rattle.logbook_store.specs.Logs.{Site, StandFor, sites_of, sites_from}
use Rattle.logbook_store.specs.Moves.{moved_all}
use Rattle.logbook_store.specs.declared.book.Book.{Book}
use Rattle.logbook_services.specs.Standing.{IsOfTable, IsServing, none_made}

none-all : {A : Type 0} (P : A → Type 0) (xs : List A) → length xs ≡ 0 → AllByRecursion P xs
none-all P [] e = tt
none-all P (x ∷ xs) e = absurd (omega (arith, e))

unused-book : (row : LogbookRow) (book : Book) (image : List ℕ) (stored : StoredLogbook) → BookStands book image (loaded_book stored) → logged_of book ≡ 0 → IsValidLogbook row (loaded_book stored)
unused-book row book image stored stands none =
    let empty : length stored.logged ≡ 0 = sym stands.logged ∙ none in
    record {
      logged = none-all (IsMessage row.message_size) stored.logged empty;
      in_progress = tt;
      few_logged = omega (arith, empty);
      few_in_progress = omega arith;
      lived = omega (arith, empty);
      life = omega (arith, book.whole, stands.life);
    }

unused-valid : (table : Rows) (n : ℕ) (rows : List LogbookRow) (logs : List Book) (image : List ℕ) (stored : List StoredLogbook) → sites_of logs ≡ sites_from table n rows → StandFor logs image (map loaded_book stored)
    → ((k : ℕ) (book : Book) → slice_get logs k ≡ Some book → logged_of book ≡ 0) → AllZip IsValidLogbook rows (map loaded_book stored)
unused-valid table n [] [] image [] sites stand none = tt
unused-valid table n [] [] image (s ∷ stored) sites stand none = absurd stand
unused-valid table n [] (b ∷ logs) image stored sites stand none = absurd (let long = ap length sites in omega (arith, long))
unused-valid table n (row ∷ rows) [] image stored sites stand none = absurd (let long = ap length sites in omega (arith, long))
unused-valid table n (row ∷ rows) (b ∷ logs) image [] sites stand none = absurd stand
unused-valid table n (row ∷ rows) (b ∷ logs) image (s ∷ stored) sites stand none = (
  unused-book row b image s stand.0 (none 0 b refl),
  unused-valid table (n + 1) rows logs image stored (cc) stand.1 (λ k book is. none (suc k) book is),
)

-- What a mount found is served with no logbook created, where it is valid.
pub mounted-serving : (table : Rows) (logs : List Book) (made : List Bool) (image : List ℕ) (stored : List StoredLogbook) → StandFor logs image (map loaded_book stored) → made ≡ none_made table
    → AllZip IsValidLogbook table.logbooks (map loaded_book stored) → IsServing table logs made image
mounted-serving table logs made image stored stand none_is valid = (
  record { books = map loaded_book stored; created = none_made table },
  record { stored = stand; marks = none_is },
  record { books = valid; created = length-map (λ row. false) table.logbooks },
)

-- logbooks with nothing logged are valid, and none is created
pub unused-serving : (table : Rows) (logs : List Book) (made : List Bool) (image : List ℕ) (stored : List StoredLogbook) → IsOfTable table logs made → StandFor logs image (map loaded_book stored) → made ≡ none_made table
    → ((k : ℕ) (book : Book) → slice_get logs k ≡ Some book → logged_of book ≡ 0) → IsServing table logs made image
unused-serving table logs made image stored of_table stand none_is none =
    mounted-serving table logs made image stored stand none_is (unused-valid table 0 table.logbooks logs image stored of_table.sites stand none)

pub new-of_table : (table : Rows) (logs : List Book) (made : List Bool) → sites_of logs ≡ sites_from table 0 table.logbooks → made ≡ none_made table → IsOfTable table logs made
new-of_table table logs made sites none_is = record { sites = sites; long = ap length none_is ∙ length-map (λ row. false) table.logbooks }

moved-same : (table : Rows) (n : ℕ) (rows : List LogbookRow) (books : List Logbook) → moved_all (sites_from table n rows) books ≡ map moved_by (zip rows books)
moved-same table n [] books = refl
moved-same table n (row ∷ rows) [] = refl
moved-same table n (row ∷ rows) (b ∷ books) = ap (λ (l : List Logbook). moved row.logged b ∷ l) (moved-same table (n + 1) rows books)

-- Valid logbooks of an accepted table are valid when each has moved a message.
pub moved-valid : (table : Rows) (system : LogbookSystem) → IsAccepted table → IsValidLogbooks table system → IsValidLogbooks table (all_moved table system)
moved-valid table system good valid = all_moved-valid table system (all_logged table.logbooks (logbook_limits table good)) valid

-- logbooks that all moved a message stand for those that did, and stay valid
pub moved-serving : (table : Rows) (logs new_logs : List Book) (made : List Bool) (image new_image : List ℕ) → IsAccepted table → IsOfTable table logs made → IsServing table logs made image
    → ((logbooks : List Logbook) → StandFor logs image logbooks → StandFor new_logs new_image (moved_all (sites_of logs) logbooks)) → IsServing table new_logs made new_image
moved-serving table logs new_logs made image new_image good of_table serving stand =
    let P : List Logbook → Type 0 = λ books. StandFor new_logs new_image books in (
      all_moved table serving.0,
      record {
        stored = subst P (ap (λ (sites : List Site). moved_all sites serving.0.books) of_table.sites ∙ moved-same table 0 table.logbooks serving.0.books) (stand serving.0.books serving.1.stored);
        marks = serving.1.marks;
      },
      moved-valid table serving.0 good serving.2,
    )
