-- What stays of a region's slots and data blocks where an image changes in one record's blocks alone.
use Rattle.std.proofs.Common.{◌≡◌, ◌⊎◌, inl, inr, ⊎_elim, ℕ, zero, suc, ◌+◌, ◌-◌, ◌*◌, ◌%◌, ◌<◌, ◌≤◌, List, length, drop, take, sym, ap, ◌∙◌, arith, ◌==◌, if◌then◌else◌}
use Rattle.std.proofs.lemmas.List.{drop-drop, drop-take}
use Rattle.std.proofs.lemmas.Bool.Decides.{nat_tests}
use Rattle.apex_types.specs.declared.rows.TreeRow.{TreeRow}
use Rattle.apex_model.specs.Image.{closed, numbered, newest}
use Rattle.apex_model.specs.Layout.{body_blocks, slot_blocks, tree_blocks}
use Rattle.rig_core.specs.Bytes.{byte, part, SameElsewhere, SameWithin}
use Rattle.rig_core.proofs.Put.{part_same}
use Rattle.gate_slots.specs.Place.{Place, gate_of, slot_in, newest_slot, slot_size}
use Rattle.gate_slots.specs.Slots.{Knows, place_of}
use Rattle.gate_slots.specs.declared.slots.Slots.{Slots}
use Rattle.gate_slots.proofs.Regions.{same_newest}
use Rattle.meta_journal.specs.Leading as journal
use Rattle.tree_region.specs.Region.{slots_at, body_of, journal_of}
use Rattle.tree_region.specs.InStep.{data_at, slots_long}

pub some-body : (row : TreeRow) → 0 < body_blocks row
some-body row = omega arith

-- the gates and the numbers of slots
module _ (p : Place) (a b : List ℕ) (gates : (slot : ℕ) → byte b (gate_of p slot) ≡ byte a (gate_of p slot)) (numbers : (slot : ℕ) → byte b (gate_of p slot + 512) ≡ byte a (gate_of p slot + 512)) where
  slot-same : (slot : ℕ) → slot_in (gate_of p slot) b ≡ slot_in (gate_of p slot) a
  slot-same slot =
      ap (λ (gate : ℕ). if gate == 165 then numbered (byte b (gate_of p slot + 512)) else closed) (gates slot)
      ∙ ap (λ (n : ℕ). if byte a (gate_of p slot) == 165 then numbered n else closed) (numbers slot)

  pub newest-same : newest_slot p b ≡ newest_slot p a
  newest-same = ap (λ s. newest s (slot_in (gate_of p 1) b)) (slot-same 0) ∙ ap (newest (slot_in (gate_of p 0) a)) (slot-same 1)

-- what slots know
pub knows-same : (slots : Slots) (a b : List ℕ) → ((slot : ℕ) → byte b (gate_of (place_of slots) slot) ≡ byte a (gate_of (place_of slots) slot))
    → ((slot : ℕ) → byte b (gate_of (place_of slots) slot + 512) ≡ byte a (gate_of (place_of slots) slot + 512)) → Knows slots a → Knows slots b
knows-same slots a b gates numbers knows =
    let this = slots.newest in
    let other = 1 - slots.newest in
    record {
      found = knows.found;
      newest = record {
        opened = gates this ∙ knows.newest.opened;
        number = omega (arith, numbers this, knows.newest.number);
        other_number = λ opened. omega (arith, numbers other, knows.newest.other_number (sym (gates other) ∙ opened));
        follows = λ opened. numbers this ∙ knows.newest.follows (sym (gates other) ∙ opened) ∙ ap (λ (n : ℕ). (n + 1) % 3) (sym (numbers other));
      };
      sequence = knows.sequence ∙ sym (numbers this);
      open_is = λ opened. gates other ∙ knows.open_is opened;
      open_only = λ opened. knows.open_only (sym (gates other) ∙ opened);
    }

-- slot 1, by any number but 0
gate-one : (p : Place) (s : ℕ) → gate_of p (suc s) ≡ p.start + slot_size p
gate-one p s = grind (arith, nat_tests)

-- the data blocks are the last part of the region
pub data-part : (row : TreeRow) (at : ℕ) (img : List ℕ) → data_at row at img ≡ part (at + slots_long row) (1024 * row.quota) img
data-part row at img =
    let whole : 512 * tree_blocks row ≡ slots_long row + 1024 * row.quota = omega arith in
    ap (λ (n : ℕ). drop (slots_long row) (take n (drop at img))) whole
    ∙ drop-take (slots_long row) (1024 * row.quota) (drop at img)
    ∙ ap (take (1024 * row.quota)) (drop-drop (slots_long row) at img)

-- they are the same where their bytes are
pub data-same : (row : TreeRow) (at : ℕ) (a b : List ℕ) → length b ≡ length a → ((k : ℕ) → at + slots_long row ≤ k → byte b k ≡ byte a k) → data_at row at b ≡ data_at row at a
data-same row at a b long same = data-part row at b ∙ part_same (at + slots_long row) (1024 * row.quota) b a long (λ k low high. same k low) ∙ sym (data-part row at a)

module _ (row : TreeRow) (at : ℕ) where
  abbrev p : Place
  p = slots_at row at

  apart : (s slot held : ℕ) → slot ≤ 1 → held < 32 → (gate_of p s + 512 < journal.gate_of (journal_of row at slot) held) ⊎ (journal.gate_of (journal_of row at slot) held + 1024 ≤ gate_of p s)
  apart zero zero held low few = inl (omega (arith, some-body row))
  apart zero (suc zero) held low few = inl (omega (arith, some-body row))
  apart (suc s) zero held low few = inr (omega (arith, few, gate-one p s))
  apart (suc s) (suc zero) held low few = inl (omega (arith, some-body row, gate-one p s))
  apart s (suc (suc slot)) held low few = absurd (omega (arith, low))

  pub record-low : (slot held : ℕ) → slot ≤ 1 → gate_of p slot + 512 + 512 * body_blocks row ≤ journal.gate_of (journal_of row at slot) held
  record-low slot held low = omega arith

  pub record-high : (slot held : ℕ) → slot ≤ 1 → held < 32 → journal.gate_of (journal_of row at slot) held + 1024 ≤ at + slots_long row
  record-high zero held low few = omega (arith, few)
  record-high (suc zero) held low few = omega (arith, few)
  record-high (suc (suc slot)) held low few = absurd (omega (arith, low))

  pub record-start : (slot : ℕ) → slot ≤ 1 → at ≤ gate_of p slot
  record-start zero low = omega arith
  record-start (suc slot) low = omega (arith, gate-one p slot)

  -- an image that changed in a record's blocks
  module _ (slot held : ℕ) (low : slot ≤ 1) (few : held < 32) (from img : List ℕ) (same : SameElsewhere (journal.gate_of (journal_of row at slot) held) 1024 from img) where
    pub gates-stay : (s : ℕ) → byte img (gate_of p s) ≡ byte from (gate_of p s)
    gates-stay s = ⊎_elim (λ h. same.below (gate_of p s) (omega (arith, h))) (λ h. same.above (gate_of p s) h) (apart s slot held low few)

    pub numbers-stay : (s : ℕ) → byte img (gate_of p s + 512) ≡ byte from (gate_of p s + 512)
    numbers-stay s = ⊎_elim (λ h. same.below (gate_of p s + 512) h) (λ h. same.above (gate_of p s + 512) (omega (arith, h))) (apart s slot held low few)

    pub newest-stays : newest_slot p img ≡ newest_slot p from
    newest-stays = newest-same p from img gates-stay numbers-stay

    pub body-stays : body_of row at slot img ≡ body_of row at slot from
    body-stays = part_same (gate_of p slot + 512) (512 * body_blocks row) img from same.long (λ k from-low from-high. same.below k (omega (arith, from-high, record-low slot held low)))

    pub data-stays : data_at row at img ≡ data_at row at from
    data-stays = data-same row at from img same.long (λ k far. same.above k (omega (arith, far, record-high slot held low few)))

  -- an image with the bytes of the view in both slots
  module _ (slot : ℕ) (low : slot ≤ 1) (view from : List ℕ) (long : length from ≡ length view) (same : SameWithin at (slots_long row) view from) where
    pub newest-settled : newest_slot p from ≡ newest_slot p view
    newest-settled = same_newest p (some-body row) view from (record { within = λ k start end. same.within k start (omega (arith, end)) })

    pub slot-high : gate_of p slot + 512 * slot_blocks row ≤ at + slots_long row
    slot-high = slot-end slot low
      where
        slot-end : (s : ℕ) → s ≤ 1 → gate_of p s + 512 * slot_blocks row ≤ at + slots_long row
        slot-end zero h = omega arith
        slot-end (suc zero) h = omega arith
        slot-end (suc (suc s)) h = absurd (omega (arith, h))

    pub body-settled : body_of row at slot from ≡ body_of row at slot view
    body-settled = part_same (gate_of p slot + 512) (512 * body_blocks row) from view long (λ k start end. same.within k (omega (arith, start, record-start slot low)) (omega (arith, end, slot-high)))
