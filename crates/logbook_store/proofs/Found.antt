-- The places of a region on a device.
use Rattle.std.proofs.Common.{◌≡◌, ℕ, ◌+◌, ◌*◌, ◌%◌, ◌<◌, ◌≤◌, Bool, true, false, List, Option, Some, None, refl, sym, ◌∙◌, ap, arith, ext_get_or, if◌then◌else◌}
use Rattle.std.specs.Prelude.{slice_index, ◌==◌, is_some}
use Rattle.std.proofs.lemmas.List.{places}
use Rattle.std.proofs.lemmas.Bool.Decides.{nat_tests}
use Rattle.apex_types.specs.declared.rows.LogbookRow.{LogbookRow}
use Rattle.apex_model.specs.Fields.{log_entry_of}
use Rattle.apex_model.specs.Image.{blocks_at, is_open, message_in_place, message_numbered}
use Rattle.apex_model.specs.Layout.{logbook_blocks}
use Rattle.rig_core.specs.Bytes.{byte, part}
use Rattle.rig_core.proofs.Put.{byte-part}
use Rattle.logbook_store.specs.Regions.{PlaceEntry, region_at, places_in, entry_by_bytes, is_numbered}
use Rattle.logbook_store.proofs.Numbers.{found_by, numbered_from, some_found}

-- a part of a part
pub part_of_part : (image : List ℕ) (start size at n : ℕ) → at + n ≤ size → part at n (part start size image) ≡ part (start + at) n image
part_of_part image start size at n fits =
    ext_get_or 0 (part at n (part start size image)) (part (start + at) n image) (grind (arith, places)) (λ k low.
    let within : k < n = grind (arith, places) in
    byte-part at n k (part start size image) within ∙ byte-part start size (at + k) image (omega (arith, fits, within))
    ∙ ap (byte image) (omega arith) ∙ sym (byte-part (start + at) n k image within))

module _ (row : LogbookRow) (start : ℕ) (image : List ℕ) where
  abbrev region : List ℕ
  region = region_at row start image

  pub region_byte : (k : ℕ) → k < 512 * logbook_blocks row → slice_index region k ≡ byte image (start + k)
  region_byte k low = byte-part start (512 * logbook_blocks row) k image low

  pub region_block : (block at : ℕ) → block + 1 ≤ logbook_blocks row → start + 512 * block ≡ at → blocks_at region block 1 ≡ part at 512 image
  region_block block at fits is = part_of_part image start (512 * logbook_blocks row) (512 * block) 512 (omega (arith, fits)) ∙ ap (λ (k : ℕ). part k 512 image) is

  -- by a place's gate
  pub place_gate : (place gate : ℕ) → place ≤ row.logged → start + 2048 + 1024 * place ≡ gate → is_open region (4 + 2 * place) ≡ (byte image gate == 165)
  place_gate place gate low is = ap (λ (n : ℕ). n == 165) (region_byte (512 * (4 + 2 * place)) (omega (arith, low)) ∙ ap (byte image) (omega (arith, is)))

  abbrev by_gate : ℕ → List ℕ → Bool → Option PlaceEntry
  by_gate place body opened = if opened then entry_by_bytes row place body else Some None

  pub place_shut : (place gate : ℕ) → place ≤ row.logged → start + 2048 + 1024 * place ≡ gate → (byte image gate == 165) ≡ false → message_in_place row region place ≡ Some None
  place_shut place gate low is shut = ap (by_gate place (blocks_at region (5 + 2 * place) 1)) (place_gate place gate low is ∙ shut)

  pub place_open : (place gate : ℕ) → place ≤ row.logged → start + 2048 + 1024 * place ≡ gate → (byte image gate == 165) ≡ true → message_in_place row region place ≡ entry_by_bytes row place (part (gate + 512) 512 image)
  place_open place gate low is opened =
      ap (by_gate place (blocks_at region (5 + 2 * place) 1)) (place_gate place gate low is ∙ opened)
      ∙ ap (entry_by_bytes row place) (region_block (5 + 2 * place) (gate + 512) (omega (arith, low)) (omega (arith, is)))

-- An entry stands in its own place.
test_own : (b : Bool) (entry wanted : ℕ × List ℕ) → (if b then Some (Some entry) else None) ≡ Some (Some wanted) → (b ≡ true) × (entry ≡ wanted)
test_own true entry wanted is = (refl, cc)
test_own false entry wanted is = absurd cc

same_numbers : (m n : ℕ) → (m == n) ≡ true → m ≡ n
same_numbers m n same = grind (arith, nat_tests)

abbrev pub own_entry : ℕ → ℕ → Option (ℕ × List ℕ) → Option PlaceEntry
own_entry count place o = elim o [ None ↦ None | Some entry ↦ if entry.0 % count == place then Some (Some entry) else None ]

abbrev pub in_place : ℕ → ℕ → Bool → Option (ℕ × List ℕ) → Option PlaceEntry
in_place count place opened o = if opened then own_entry count place o else Some None

own_number : (count place : ℕ) (opened : Bool) (o : Option (ℕ × List ℕ)) (wanted : ℕ × List ℕ) → in_place count place opened o ≡ Some (Some wanted) → wanted.0 % count ≡ place
own_number count place false o wanted is = absurd cc
own_number count place true None wanted is = absurd cc
own_number count place true (Some entry) wanted is =
    let own = test_own (entry.0 % count == place) entry wanted is in
    ap (λ (e : ℕ × List ℕ). e.0 % count) (sym own.1) ∙ same_numbers (entry.0 % count) place own.0

pub number_in_place : (row : LogbookRow) (region : List ℕ) (place : ℕ) (entry : ℕ × List ℕ) → message_in_place row region place ≡ Some (Some entry) → entry.0 % (row.logged + 1) ≡ place
number_in_place row region place entry is =
    own_number (row.logged + 1) place (is_open region (4 + 2 * place)) (log_entry_of row.message_size (blocks_at region (5 + 2 * place) 1)) entry is

pub place_low : (number count : ℕ) → number % (count + 1) < count + 1
place_low number count = omega arith

-- the message of a number by its place
pub numbered_in : (row : LogbookRow) (region : List ℕ) (xs : List PlaceEntry) (number : ℕ) → places_in row region ≡ Some xs
    → message_numbered number xs ≡ found_by number (message_in_place row region (number % (row.logged + 1)))
numbered_in row region xs number is =
    numbered_from (message_in_place row region) number (number % (row.logged + 1))
    (λ j entry here same. sym (number_in_place row region j entry here) ∙ ap (λ (n : ℕ). n % (row.logged + 1)) same)
    0 (row.logged + 1) xs is (omega arith) (omega (arith, place_low number row.logged))

pub has_number : (row : LogbookRow) (region : List ℕ) (xs : List PlaceEntry) (number : ℕ) → places_in row region ≡ Some xs
    → is_some (message_numbered number xs) ≡ is_numbered number (message_in_place row region (number % (row.logged + 1)))
has_number row region xs number is =
    ap (λ (o : Option (List ℕ)). is_some o) (numbered_in row region xs number is) ∙ some_found number (message_in_place row region (number % (row.logged + 1)))
