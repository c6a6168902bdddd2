-- The parts of a region, by the bytes of the image that it stands in.
use Rattle.std.proofs.Common.{◌≡◌, ℕ, zero, suc, ◌+◌, ◌-◌, ◌*◌, ◌<◌, ◌≤◌, ◌||◌, ◌&&◌, Bool, true, false, cond, List, length, take, drop, sym, ap, ◌∙◌, Option, Some, None, nat_le, nat_lt, arith}
use Rattle.std.proofs.lemmas.List.{drop-drop, drop-take, take-take, length-drop}
use Rattle.std.specs.Prelude.{slice_index, ◌==◌}
use Rattle.apex_types.specs.declared.rows.TreeRow.{TreeRow}
use Rattle.apex_model.specs.Fields.{header_of, is_padding}
use Rattle.apex_model.specs.Image.{Slot, closed, numbered, newest, follows, slot_at, blocks_at, leading_records, tree_in_slot, tree_of_region}
use Rattle.apex_model.specs.Layout.{body_blocks, slot_blocks, tree_blocks}
use Rattle.rig_core.specs.Bytes.{byte, part}
use Rattle.rig_core.proofs.Put.{byte-part, length-part}
use Rattle.gate_slots.specs.Place.{gate_of, slot_in, newest_slot}
use Rattle.gate_slots.proofs.Regions.{newest_in_region}
use Rattle.meta_journal.specs.Leading.{records}
use Rattle.meta_journal.proofs.Regions.{records_in_region}
use Rattle.tree_region.specs.Region.{region_at, data_of, slots_at, body_of, journal_of}

-- a part of a part
inner : (at m i n : ℕ) (image : List ℕ) → i + n ≤ m → part i n (part at m image) ≡ part (at + i) n image
inner at m i n image fits =
    let whole : m ≡ i + (m - i) = omega (arith, fits) in
    ap (λ k. take n (drop i (take k (drop at image)))) whole
    ∙ ap (take n) (drop-take i (m - i) (drop at image))
    ∙ take-take n (m - i) (drop i (drop at image)) (omega (arith, fits))
    ∙ ap (take n) (drop-drop i at image)

if_some : (b : Bool) (n s : ℕ) → cond b None (Some n) ≡ Some s → n ≡ s
if_some true n s e = absurd (let w : ◌≡◌ {A = Option ℕ} None (Some s) = e in cc)
if_some false n s e = let w : ◌≡◌ {A = Option ℕ} (Some n) (Some s) = e in cc

newer_low : (a b c : Bool) (s : ℕ) → cond a None (cond b (Some 0) (cond c (Some 1) None)) ≡ Some s → s ≤ 1
newer_low true b c s e = absurd (let w : ◌≡◌ {A = Option ℕ} None (Some s) = e in cc)
newer_low false true c s e = let is : 0 ≡ s = (let w : ◌≡◌ {A = Option ℕ} (Some 0) (Some s) = e in cc) in omega arith
newer_low false false true s e = let is : 1 ≡ s = (let w : ◌≡◌ {A = Option ℕ} (Some 1) (Some s) = e in cc) in omega arith
newer_low false false false s e = absurd (let w : ◌≡◌ {A = Option ℕ} None (Some s) = e in cc)

-- there are two slots
newest_low : (a b : Slot) (s : ℕ) → newest a b ≡ Some s → s ≤ 1
newest_low closed closed s e = absurd (let w : ◌≡◌ {A = Option ℕ} None (Some s) = e in cc)
newest_low (numbered m) closed s e = let is = if_some (nat_lt 2 m) 0 s e in omega arith
newest_low closed (numbered n) s e = let is = if_some (nat_lt 2 n) 1 s e in omega arith
newest_low (numbered m) (numbered n) s e = newer_low (nat_lt 2 m || nat_lt 2 n) (follows m n) (follows n m) s e

-- the version of a header
version-of : (test : Bool) (a b sequence version : ℕ) → cond {A = Option (ℕ × ℕ)} test (Some (a, b)) None ≡ Some (sequence, version) → b ≡ version
version-of true a b sequence version h = let w : ◌≡◌ {A = Option (ℕ × ℕ)} (Some (a, b)) (Some (sequence, version)) = h in let p : ◌≡◌ {A = ℕ × ℕ} (a, b) (sequence, version) = cc in ap (λ (x : ℕ × ℕ). x.1) p
version-of false a b sequence version h = absurd (let w : ◌≡◌ {A = Option (ℕ × ℕ)} None (Some (sequence, version)) = h in cc)

module _ (row : TreeRow) (at : ℕ) (image : List ℕ) (fits : at + 512 * tree_blocks row ≤ length image) where
  abbrev region : List ℕ
  region = region_at row at image

  some-body : 0 < body_blocks row
  some-body = omega arith

  -- the newest slot
  pub newest-there : newest (slot_at region 0) (slot_at region (slot_blocks row)) ≡ newest_slot (slots_at row at) image
  newest-there = newest_in_region (slots_at row at) some-body region image (λ k low. byte-part at (512 * tree_blocks row) k image (omega (arith, low)))

  pub slot-low : (slot : ℕ) → newest_slot (slots_at row at) image ≡ Some slot → slot ≤ 1
  slot-low slot h = newest_low (slot_in (gate_of (slots_at row at) 0) image) (slot_in (gate_of (slots_at row at) 1) image) slot h

  pub none-newest : newest_slot (slots_at row at) image ≡ None → tree_of_region row region ≡ None
  unfolding tree_of_region
  none-newest h = ap (λ (o : Option ℕ). elim o [ None ↦ None | Some slot ↦ tree_in_slot row region (slot * slot_blocks row) ]) (newest-there ∙ h)

  pub some-newest : (slot : ℕ) → newest_slot (slots_at row at) image ≡ Some slot → tree_of_region row region ≡ tree_in_slot row region (slot * slot_blocks row)
  unfolding tree_of_region
  some-newest slot h = ap (λ (o : Option ℕ). elim o [ None ↦ None | Some s ↦ tree_in_slot row region (s * slot_blocks row) ]) (newest-there ∙ h)

  -- as many data blocks as twice the quota
  pub data-long : length (data_of row region) ≡ 1024 * row.quota
  data-long =
      let whole : length region ≡ 512 * tree_blocks row = length-part at (512 * tree_blocks row) image fits in
      omega (arith, whole, length-drop (512 * (2 * slot_blocks row)) region)

  gate-there : (slot : ℕ) → slot ≤ 1 → at + 512 * (slot * slot_blocks row) ≡ gate_of (slots_at row at) slot
  gate-there zero low = omega arith
  gate-there (suc zero) low = omega arith
  gate-there (suc (suc slot)) low = absurd (omega (arith, low))

  low-gate : (slot : ℕ) → slot ≤ 1 → slot * slot_blocks row ≤ slot_blocks row
  low-gate zero low = omega arith
  low-gate (suc zero) low = omega arith
  low-gate (suc (suc slot)) low = absurd (omega (arith, low))

  module _ (slot : ℕ) (low : slot ≤ 1) where
    pub slot-fits : gate_of (slots_at row at) slot + 512 * slot_blocks row ≤ length image
    slot-fits = omega (arith, gate-there slot low, low-gate slot low, fits)

    -- the body of a slot
    pub body-there : blocks_at region (slot * slot_blocks row + 1) (body_blocks row) ≡ body_of row at slot image
    body-there =
        inner at (512 * tree_blocks row) (512 * (slot * slot_blocks row + 1)) (512 * body_blocks row) image (omega (arith, low-gate slot low))
        ∙ (let place : at + 512 * (slot * slot_blocks row + 1) ≡ gate_of (slots_at row at) slot + 512 = omega (arith, gate-there slot low) in
        ap (λ k. part k (512 * body_blocks row) image) place)

    -- its journal
    pub journal-there : blocks_at region (slot * slot_blocks row + 1 + body_blocks row) 64 ≡ part (journal_of row at slot) 32768 image
    journal-there =
        inner at (512 * tree_blocks row) (512 * (slot * slot_blocks row + 1 + body_blocks row)) 32768 image (omega (arith, low-gate slot low))
        ∙ (let place : at + 512 * (slot * slot_blocks row + 1 + body_blocks row) ≡ journal_of row at slot = omega (arith, gate-there slot low) in ap (λ k. part k 32768 image) place)

    pub journal-fits : journal_of row at slot + 32768 ≤ length image
    journal-fits = omega (arith, slot-fits)

    -- the records of it
    pub records-there : leading_records 32 (blocks_at region (slot * slot_blocks row + 1 + body_blocks row) 64) ≡ records (journal_of row at slot) image
    records-there =
        let first : ℕ = journal_of row at slot in
        ap (leading_records 32) journal-there
        ∙ sym (records_in_region first (part first 32768 image) image (omega (arith, length-part first 32768 image journal-fits)) journal-fits (λ k less. byte-part first 32768 k image less))

    -- the byte of its version
    pub version-byte : slice_index region (512 * (slot * slot_blocks row + 1) + 1) ≡ byte image (gate_of (slots_at row at) slot + 513)
    version-byte =
        byte-part at (512 * tree_blocks row) (512 * (slot * slot_blocks row + 1) + 1) image (omega (arith, low-gate slot low))
        ∙ (let place : at + (512 * (slot * slot_blocks row + 1) + 1) ≡ gate_of (slots_at row at) slot + 513 = omega (arith, gate-there slot low) in ap (byte image) place)

    -- the version that its header has
    pub version-there : (sequence version : ℕ) → header_of (take 64 (body_of row at slot image)) ≡ Some (sequence, version) → byte image (gate_of (slots_at row at) slot + 513) ≡ version
    version-there sequence version h =
        let body : List ℕ = body_of row at slot image in
        let long : 1 < 512 * body_blocks row = omega (arith, some-body) in
        let here : byte (take 64 body) 1 ≡ byte image (gate_of (slots_at row at) slot + 513)
        = byte-part 0 64 1 body (omega arith) ∙ byte-part (gate_of (slots_at row at) slot + 512) (512 * body_blocks row) 1 image long ∙ ap (byte image) (omega arith) in
        sym here
        ∙ version-of (nat_le (slice_index (take 64 body) 0) 2 && ((slice_index (take 64 body) 1 == 1) || (slice_index (take 64 body) 1 == 2)) && is_padding (drop 2 (take 64 body)))
        (slice_index (take 64 body) 0) (slice_index (take 64 body) 1) sequence version h
