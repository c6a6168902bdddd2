-- Two slots in one place, of which the newest counts.
use Rattle.std.specs.Prelude.{◌≡◌, ℕ, ◌+◌, ◌*◌, ◌%◌, ◌≤◌, ◌==◌, List, Option, Some, None, option_map, if◌then◌else◌}
use Rattle.apex_model.specs.Image.{Slot, closed, numbered, newest}
use Rattle.rig_core.specs.Bytes.{byte, part}

-- the first byte of slot 0, and the blocks of a body and of a tail
pub record Place : Type 0 where
  pub start : ℕ
  pub body : ℕ
  pub tail : ℕ

-- the bytes of a body with its tail
abbrev pub content_size : Place → ℕ
content_size p = 512 * (p.body + p.tail)

-- the bytes of a slot, its gate's block with them
abbrev pub slot_size : Place → ℕ
slot_size p = 512 + content_size p

-- the bytes of both slots
abbrev pub slots_size : Place → ℕ
slots_size p = slot_size p + slot_size p

-- the gate of slot 0 or 1
abbrev pub gate_of : Place → ℕ → ℕ
gate_of p slot = if slot == 0 then p.start else p.start + slot_size p

-- the gate is open
abbrev pub IsOpen : ℕ → List ℕ → Type 0
IsOpen gate image = byte image gate ≡ 165

-- the slot with this gate, as the state of an image reads it
abbrev pub slot_in : ℕ → List ℕ → Slot
slot_in gate image = if byte image gate == 165 then numbered (byte image (gate + 512)) else closed

-- the number of the newest slot, if one is
abbrev pub newest_slot : Place → List ℕ → Option ℕ
newest_slot p image = newest (slot_in (gate_of p 0) image) (slot_in (gate_of p 1) image)

-- the body of the newest slot with its tail, if one is newest
unfoldable pub newest_content : Place → List ℕ → Option (List ℕ)
newest_content p image = option_map (λ slot. part (gate_of p slot + 512) (content_size p) image) (newest_slot p image)

-- The slot with this gate is newer than the other: it is open, and where both are, its number follows the other's.
pub record IsNewest (gate other : ℕ) (image : List ℕ) : Type 0 where
  pub opened : IsOpen gate image
  pub number : byte image (gate + 512) ≤ 2
  pub other_number : IsOpen other image → byte image (other + 512) ≤ 2
  pub follows : IsOpen other image → byte image (gate + 512) ≡ (byte image (other + 512) + 1) % 3

-- a slot by its sequence number, if it is open
abbrev pub slot_of : Option ℕ → Slot
slot_of None = closed
slot_of (Some n) = numbered n
