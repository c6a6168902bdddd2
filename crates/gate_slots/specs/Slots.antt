-- What slots know of their place.
use Rattle.std.specs.Prelude.{◌≡◌, ℕ, ◌+◌, ◌-◌, List, IsTrue}
use Rattle.rig_core.specs.Bytes.{byte}
use Rattle.gate_slots.specs.Place.{Place, IsNewest, IsOpen, gate_of}
use Rattle.gate_slots.specs.declared.slots.Slots.{Slots}
pub use Rattle.gate_slots.specs.Place.{Place, IsNewest, IsOpen, gate_of, slot_size, slots_size, content_size, slot_in, newest_slot, newest_content}

-- where the slots stand
abbrev pub place_of : Slots → Place
place_of slots = record { start = slots.start; body = slots.body_blocks; tail = slots.tail_blocks }

-- the sequence number of the newest slot, as it was found or committed last
abbrev pub number_of : Slots → ℕ
number_of slots = slots.sequence

-- A newest slot was found, and the two gates, which slot is newest and its number are so in the image.
pub record Knows (slots : Slots) (image : List ℕ) : Type 0 where
  pub found : IsTrue slots.found
  pub newest : IsNewest (gate_of (place_of slots) slots.newest) (gate_of (place_of slots) (1 - slots.newest)) image
  pub sequence : slots.sequence ≡ byte image (gate_of (place_of slots) slots.newest + 512)
  pub open_is : IsTrue slots.older_open → IsOpen (gate_of (place_of slots) (1 - slots.newest)) image
  pub open_only : IsOpen (gate_of (place_of slots) (1 - slots.newest)) image → IsTrue slots.older_open
