-- What the logbooks of a device stand for together.
use Rattle.std.specs.Prelude.{◌≡◌, ◌⊎◌, ℕ, ◌+◌, ◌*◌, ◌<◌, ◌≤◌, List, [], ◌∷◌, map, Some, Err, Result, slice_get, slice_set, slice_index_or}
use Rattle.std.specs.List.{AllZip}
use Rattle.apex_types.specs.Rows.{Rows}
use Rattle.apex_types.specs.declared.rows.LogbookRow.{LogbookRow}
use Rattle.apex_model.specs.Durable.{StoredLogbook}
use Rattle.apex_model.specs.Image.{logbook_of_region, logbook_region, states_from}
use Rattle.apex_model.specs.Layout.{logbook_blocks, logbook_start}
use Rattle.apex_model.specs.Logbooks.{Logbook, cleared, empty_book}
use Rattle.rig_core.specs.Causes.{Rose}
use Rattle.rig_core.specs.Outside.{Outside}
use Rattle.rig_core.specs.Leaves.{IsSettled}
use Rattle.logbook_store.specs.Books.{row_of, start_of, IsStored, Stands}
use Rattle.logbook_store.specs.declared.book.Book.{Book}
use Rattle.logbook_store.specs.declared.errors.LogError.{LogError}
use Rattle.logbook_store.specs.declared.errors.LogError.TheVariants.{Bad, Device, Memory}

-- a row of the table with the first byte of its logbook's region
abbrev pub Site : Type 0
Site = LogbookRow × ℕ

abbrev pub site_of : Book → Site
site_of book = (row_of book, start_of book)

abbrev pub sites_of : List Book → List Site
sites_of books = map site_of books

-- how many bytes the region has
abbrev pub size_of : Site → ℕ
size_of site = 512 * logbook_blocks site.0

-- the logbooks of a table from a number on
abbrev pub sites_from : Rows → ℕ → List LogbookRow → List Site
sites_from table k [] = []
sites_from table k (row ∷ rows) = (row, 512 * logbook_start table k) ∷ sites_from table (k + 1) rows

-- the regions lie one behind another on a disk of so many bytes
pub record AreLaidOut (sites : List Site) (size : ℕ) : Type 0 where
  pub fit : (k : ℕ) (site : Site) → slice_get sites k ≡ Some site → site.1 + size_of site ≤ size
  pub ordered : (j k : ℕ) (first second : Site) → j < k → slice_get sites j ≡ Some first → slice_get sites k ≡ Some second → first.1 + size_of first ≤ second.1

-- each region is settled
abbrev pub AreSettled : List Site → Outside → Type 0
AreSettled sites o = (k : ℕ) (site : Site) → slice_get sites k ≡ Some site → IsSettled site.1 (size_of site) o

-- Over this image the objects stand for these logbooks.
abbrev pub StandFor : List Book → List ℕ → List Logbook → Type 0
StandFor books image logbooks = AllZip (λ book b. Stands book image b) books logbooks

-- what the regions of an image stand for, or the number of the first that is bad
abbrev pub stored_in : Rows → List ℕ → Result (List StoredLogbook) ℕ
stored_in table image = states_from (λ k row. logbook_of_region row (logbook_region table image k row)) 0 table.logbooks

-- A logbook is bad exactly where it is the first that is, and a fault comes only where the count of them rose.
abbrev pub IsMountFault : Rows → List ℕ → ℕ → ℕ → Type 0 → LogError → Type 0
IsMountFault table image before now tells (Bad logbook) = tells → stored_in table image ≡ Err logbook
IsMountFault table image before now tells Device = Rose before now
IsMountFault table image before now tells Memory = Memory ≡ Memory

-- each region spells its logbook as before or as after, each by itself
abbrev pub AreBeforeOrAfter : List Site → List Logbook → List Logbook → List ℕ → Type 0
AreBeforeOrAfter sites before after image = (k : ℕ) (site : Site) (b c : Logbook) → slice_get sites k ≡ Some site → slice_get before k ≡ Some b → slice_get after k ≡ Some c
    → IsStored site.0 site.1 b image ⊎ IsStored site.0 site.1 c image

-- What reads gave stood for some logbooks, and now each region spells its logbook as before or as after, by itself.
abbrev pub ShowsEither : Type 0 → List Book → (List Logbook → List Logbook) → List ℕ → List ℕ → Type 0
ShowsEither tells_view books word old new =
    (logbooks : List Logbook) → tells_view → StandFor books old logbooks → AreBeforeOrAfter (sites_of books) logbooks (word logbooks) new

-- the logbook of a number is cleared
abbrev pub with_cleared : ℕ → List Logbook → List Logbook
with_cleared k logbooks = slice_set logbooks k (cleared (slice_index_or logbooks k empty_book))

-- all regions lie in n bytes from a place on
abbrev pub AreWithin : ℕ → ℕ → List Site → Type 0
AreWithin at n sites = (k : ℕ) (site : Site) → slice_get sites k ≡ Some site → (at ≤ site.1) × (site.1 + size_of site ≤ at + n)
