-- What is said of two slots is told by their bytes, and is what the state of an image reads there.
use Rattle.std.proofs.Common.{◌≡◌, ℕ, ◌+◌, ◌-◌, ◌*◌, ◌%◌, ◌<◌, ◌≤◌, List, Option, Some, None, option_map, if◌then◌else◌, ◌==◌, length, refl, sym, ◌∙◌, ap, arith}
use Rattle.std.proofs.lemmas.Bool.Decides.{nat_tests}
use Rattle.apex_model.specs.Image.{closed, numbered, newest, slot_at}
use Rattle.rig_core.specs.Bytes.{byte, part, SameWithin}
use Rattle.rig_core.specs.Leaves.{SpeaksOf}
use Rattle.rig_core.proofs.Put.{part_same}
use Rattle.gate_slots.specs.declared.slots.Slots.{Slots}
use Rattle.gate_slots.specs.Slots.{Knows, Place, place_of, gate_of, slot_size, slots_size, content_size, slot_in, newest_slot}
use Rattle.gate_slots.specs.Place.{newest_content}

gate_low : (p : Place) (slot : ℕ) → p.start ≤ gate_of p slot
gate_low p slot = grind (arith, nat_tests)

gate_high : (p : Place) (slot : ℕ) → gate_of p slot + slot_size p ≤ p.start + slots_size p
gate_high p slot = grind (arith, nat_tests)

map_same : (f g : ℕ → List ℕ) (slot : Option ℕ) → ((s : ℕ) → f s ≡ g s) → option_map f slot ≡ option_map g slot
map_same f g None same = refl
map_same f g (Some s) same = ap (λ (l : List ℕ). Some l) (same s)

module _ (p : Place) (some : 0 < p.body) (a b : List ℕ) (same : SameWithin p.start (slots_size p) a b) where
  pub same_gate : (slot : ℕ) → byte b (gate_of p slot) ≡ byte a (gate_of p slot)
  same_gate slot = same.within (gate_of p slot) (gate_low p slot) (omega (arith, gate_high p slot))

  pub same_number : (slot : ℕ) → byte b (gate_of p slot + 512) ≡ byte a (gate_of p slot + 512)
  same_number slot = same.within (gate_of p slot + 512) (omega (arith, gate_low p slot)) (omega (arith, gate_high p slot, some))

  same_slot : (slot : ℕ) → slot_in (gate_of p slot) b ≡ slot_in (gate_of p slot) a
  same_slot slot =
      ap (λ (gate : ℕ). if gate == 165 then numbered (byte b (gate_of p slot + 512)) else closed) (same_gate slot)
      ∙ ap (λ (n : ℕ). if byte a (gate_of p slot) == 165 then numbered n else closed) (same_number slot)

  pub same_newest : newest_slot p b ≡ newest_slot p a
  same_newest = ap (λ s. newest s (slot_in (gate_of p 1) b)) (same_slot 0) ∙ ap (newest (slot_in (gate_of p 0) a)) (same_slot 1)

  pub same_content : length b ≡ length a → newest_content p b ≡ newest_content p a
  unfolding newest_content
  same_content long =
      ap (option_map (λ (slot : ℕ). part (gate_of p slot + 512) (content_size p) b)) same_newest
      ∙ map_same (λ (slot : ℕ). part (gate_of p slot + 512) (content_size p) b) (λ (slot : ℕ). part (gate_of p slot + 512) (content_size p) a) (newest_slot p a)
      (λ slot. part_same (gate_of p slot + 512) (content_size p) b a long (λ k low high. same.within k (omega (arith, low, gate_low p slot)) (omega (arith, high, gate_high p slot))))

-- the newest slot and its content are told by the bytes of the slots
pub newest_speaks : (p : Place) (slot : Option ℕ) → 0 < p.body → SpeaksOf p.start (slots_size p) (λ image. newest_slot p image ≡ slot)
newest_speaks p slot some = record { told_by = λ a b long same is. same_newest p some a b same ∙ is }

pub content_speaks : (p : Place) (content : Option (List ℕ)) → 0 < p.body → SpeaksOf p.start (slots_size p) (λ image. newest_content p image ≡ content)
content_speaks p content some = record { told_by = λ a b long same is. same_content p some a b same long ∙ is }

-- what slots know stays so while their bytes do
pub knows_speaks : (slots : Slots) → 0 < (place_of slots).body → SpeaksOf (place_of slots).start (slots_size (place_of slots)) (Knows slots)
knows_speaks slots some = record {
  told_by = λ a b long same knows.
      let p = place_of slots in
      let gate = same_gate p some a b same in
      let number = same_number p some a b same in
      let this = slots.newest in
      let other = 1 - slots.newest in
      record {
        found = knows.found;
        newest = record {
          opened = gate this ∙ knows.newest.opened;
          number = omega (arith, number this, knows.newest.number);
          other_number = λ opened. omega (arith, number other, knows.newest.other_number (sym (gate other) ∙ opened));
          follows = λ opened. number this ∙ knows.newest.follows (sym (gate other) ∙ opened) ∙ ap (λ (n : ℕ). (n + 1) % 3) (sym (number other));
        };
        sequence = knows.sequence ∙ sym (number this);
        open_is = λ opened. gate other ∙ knows.open_is opened;
        open_only = λ opened. knows.open_only (sym (gate other) ∙ opened);
      };
}

-- The newest slot of a region, as the state of an image reads it.
module _ (p : Place) (some : 0 < p.body) (region image : List ℕ) (same : (k : ℕ) → k < slots_size p → byte region k ≡ byte image (p.start + k)) where
  slot_there : (block gate : ℕ) → p.start + 512 * block ≡ gate → 512 * block + 512 < slots_size p → slot_at region block ≡ slot_in gate image
  slot_there block gate at fits =
      let first : byte region (512 * block) ≡ byte image gate = same (512 * block) (omega (arith, fits)) ∙ ap (byte image) at in
      let next : byte region (512 * (block + 1)) ≡ byte image (gate + 512) = same (512 * (block + 1)) (omega (arith, fits)) ∙ ap (byte image) (omega (arith, at)) in
      ap (λ (g : ℕ). if g == 165 then numbered (byte region (512 * (block + 1))) else closed) first
      ∙ ap (λ (n : ℕ). if byte image gate == 165 then numbered n else closed) next

  pub newest_in_region : newest (slot_at region 0) (slot_at region (1 + p.body + p.tail)) ≡ newest_slot p image
  newest_in_region =
      ap (λ s. newest s (slot_at region (1 + p.body + p.tail))) (slot_there 0 (gate_of p 0) (omega arith) (omega (arith, some)))
      ∙ ap (newest (slot_in (gate_of p 0) image)) (slot_there (1 + p.body + p.tail) (gate_of p 1) (omega arith) (omega (arith, some)))
