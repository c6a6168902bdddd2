-- What a logbook's object stands for.
use Rattle.std.specs.Prelude.{◌≡◌, ℕ, List, Some, length}
use Rattle.apex_types.specs.declared.rows.LogbookRow.{LogbookRow}
use Rattle.apex_types.specs.declared.fields.LogCounts.{LogCounts}
use Rattle.apex_model.specs.Image.{logbook_of_region}
use Rattle.apex_model.specs.Logbooks.{Logbook, Message}
use Rattle.gate_slots.specs.Slots.{Knows}
use Rattle.logbook_store.specs.Regions.{region_at}
use Rattle.logbook_store.specs.declared.book.Book.{Book}

-- the logbook's row in the table
abbrev pub row_of : Book → LogbookRow
row_of book = book.row

-- the first byte of its region
abbrev pub start_of : Book → ℕ
start_of book = book.start

-- how many messages were ever moved
abbrev pub life_of : Book → ℕ
life_of book = book.life

-- how many messages are logged
abbrev pub logged_of : Book → ℕ
logged_of book = book.logged

-- the messages in progress, oldest first
abbrev pub progress_of : Book → List Message
progress_of book = book.in_progress

-- this image's region of a logbook spells its life and its logged messages
abbrev pub IsStored : LogbookRow → ℕ → Logbook → List ℕ → Type 0
IsStored row start b image = logbook_of_region row (region_at row start image) ≡ Some (record { life = b.life; logged = b.logged })

-- Over this image the object stands for this logbook.
pub record Stands (book : Book) (image : List ℕ) (b : Logbook) : Type 0 where
  -- the region spells the life and the logged messages
  pub region : IsStored (row_of book) (start_of book) b image
  -- memory has the counts and the messages in progress
  pub life : life_of book ≡ b.life
  pub logged : logged_of book ≡ length b.logged
  pub in_progress : progress_of book ≡ b.in_progress
  -- it knows which header is newest
  pub headers : Knows book.headers image

-- the life and the counts of a logbook
abbrev pub counts_of : Logbook → LogCounts
counts_of b = record { life = b.life; logged = length b.logged; progress = length b.in_progress }

-- those that an object has in memory
abbrev pub counts_in : Book → LogCounts
counts_in book = record { life = life_of book; logged = logged_of book; progress = length (progress_of book) }
