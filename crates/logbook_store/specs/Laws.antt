-- What a logbook's region spells while a message is written into its next place.
use Rattle.std.specs.Prelude.{◌≡◌, ℕ, ◌+◌, ◌%◌, ◌≤◌, List, ◌∷◌, length, Some, None}
use Rattle.apex_types.specs.declared.rows.LogbookRow.{LogbookRow}
use Rattle.apex_model.specs.Image.{message_in_place}
use Rattle.apex_model.specs.Logbooks.{Logbook, Message, moved}
use Rattle.rig_core.specs.Bytes.{SameWithin}
use Rattle.logbook_store.specs.Books.{IsStored}
use Rattle.logbook_store.specs.Regions.{region_at}

-- the place that takes a logbook's next message
abbrev pub next_place : LogbookRow → Logbook → ℕ
next_place row b = (b.life + 1) % (row.logged + 1)

-- The second image has the headers of the first, and in each place but the next what the first has.
pub record SameButNext (row : LogbookRow) (start : ℕ) (b : Logbook) (old new : List ℕ) : Type 0 where
  pub long : length new ≡ length old
  pub headers : SameWithin start 2048 old new
  pub places : (place : ℕ) → place ≤ row.logged → (place ≡ next_place row b → ⊥) → message_in_place row (region_at row start new) place ≡ message_in_place row (region_at row start old) place

-- the logbook stays while the next place is closed
abbrev pub StaysWhileClosed : Type 0
StaysWhileClosed = (row : LogbookRow) (start : ℕ) (b : Logbook) (old new : List ℕ) → 1 ≤ row.logged → IsStored row start b old → SameButNext row start b old new
    → message_in_place row (region_at row start new) (next_place row b) ≡ Some None → IsStored row start b new

-- it has moved its oldest message in progress once the next place has that message with the next number
abbrev pub MovesOnceOpen : Type 0
MovesOnceOpen = (row : LogbookRow) (start : ℕ) (b : Logbook) (old new : List ℕ) (message : Message) (rest : List Message) → 1 ≤ row.logged → IsStored row start b old → SameButNext row start b old new
    → b.in_progress ≡ message ∷ rest → message_in_place row (region_at row start new) (next_place row b) ≡ Some (Some (b.life + 1, message)) → IsStored row start (moved row.logged b) new
