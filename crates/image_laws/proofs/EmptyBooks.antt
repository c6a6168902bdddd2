-- The region of an empty logbook stands for an empty logbook.
use Rattle.std.proofs.Common.{◌≡◌, ◌≢◌, ℕ, zero, suc, ◌+◌, ◌-◌, ◌*◌, ◌<◌, ◌≤◌, max, Bool, List, [], length, Option, Some, None, option_map, refl, sym, ◌∙◌, ap, arith, replicate}
use Rattle.std.specs.Prelude.{slice_index, if◌then◌else◌, ◌==◌, ◌%◌}
use Rattle.std.specs.List.{range_with_len}
use Rattle.apex_types.specs.declared.rows.LogbookRow.{LogbookRow}
use Rattle.apex_model.specs.Durable.{StoredLogbook}
use Rattle.apex_model.specs.Fields.{part, log_header_of, log_entry_of}
use Rattle.apex_model.specs.Image.{Slot, closed, numbered, newest, slot_at, blocks_at, all_answers, message_in_place, greatest, book_of_life, book_of_places, book_of_header, logbook_of_region, message_numbered}
use Rattle.apex_model.specs.Layout.{logbook_blocks}
use Rattle.image_laws.specs.EmptyImage.{IsEmptyLogbook}
use Rattle.image_laws.proofs.Zeros.{byte-part, length-part, part_zeros, slot_open, slot_closed, not_open, same_answers}

abbrev no_message : Option (ℕ × List ℕ)
no_message = None

greatest_of_none : (n : ℕ) → greatest 0 (replicate n no_message) ≡ 0
greatest_of_none zero = refl
greatest_of_none (suc n) = greatest_of_none n

-- a logbook whose life and cleared number are 0
book_of_none : (row : LogbookRow) (n : ℕ) → book_of_places row 0 (replicate n no_message) ≡ Some (record { life = 0; logged = [] })
book_of_none row n =
    let places = replicate n no_message in
    let count : 0 - max 0 (0 - row.logged) ≡ 0 = omega arith in
    ap (λ (life : ℕ). book_of_life life (max 0 (life - row.logged)) places) (greatest_of_none n)
    ∙ ap (λ (m : ℕ). option_map (λ (messages : List (List ℕ)). let b : StoredLogbook = record { life = 0; logged = messages } in b)
    (all_answers (λ (k : ℕ). message_numbered k places) (range_with_len (max 0 (0 - row.logged) + 1) m))) count

-- a logbook by its header, and by its header and places
abbrev by_places : LogbookRow → ℕ → Option (List (Option (ℕ × List ℕ))) → Option StoredLogbook
by_places row cleared o = elim o [ None ↦ None | Some places ↦ book_of_places row cleared places ]

abbrev by_header : LogbookRow → List ℕ → Option (ℕ × ℕ) → Option StoredLogbook
by_header row region o = elim o [
  | None ↦ None
  | Some header ↦ elim (all_answers (message_in_place row region) (range_with_len 0 (row.logged + 1))) [ None ↦ None | Some places ↦ book_of_places row header.1 places ]
]

abbrev by_slot : LogbookRow → List ℕ → Option ℕ → Option StoredLogbook
by_slot row region o = elim o [ None ↦ None | Some slot ↦ book_of_header row region (slot * 2) ]

-- what the bytes of an open place spell
abbrev by_entry : LogbookRow → ℕ → Option (ℕ × List ℕ) → Option (Option (ℕ × List ℕ))
by_entry row place o = elim o [ None ↦ None | Some entry ↦ if entry.0 % (row.logged + 1) == place then Some (Some entry) else None ]

zero_header : log_header_of (replicate 512 0) ≡ Some (0, 0)
zero_header = refl

module _ (row : LogbookRow) (region : List ℕ) where
  shut_place : (place : ℕ) → slice_index region (512 * (4 + 2 * place)) ≢ 165 → message_in_place row region place ≡ Some no_message
  shut_place place shut =
      ap (λ (b : Bool). if b then by_entry row place (log_entry_of row.message_size (blocks_at region (5 + 2 * place) 1)) else Some no_message) (not_open region (4 + 2 * place) shut)

module _ (row : LogbookRow) (first : ℕ) (image : List ℕ) (fits : first + 512 * logbook_blocks row ≤ length image) (empty : IsEmptyLogbook row first image) where
  abbrev region : List ℕ
  region = part image first (512 * logbook_blocks row)

  there : (k : ℕ) → k < 512 * logbook_blocks row → slice_index region k ≡ slice_index image (first + k)
  there k low = byte-part image first (512 * logbook_blocks row) k low

  first_slot : slot_at region 0 ≡ numbered 0
  first_slot = slot_open region 0 0 (there 0 (omega arith) ∙ ap (slice_index image) (omega arith) ∙ empty.opened) (there 512 (omega arith) ∙ empty.header (first + 512) (omega arith) (omega arith))

  second_slot : slot_at region 2 ≡ closed
  second_slot = slot_closed region 2 (λ opened. empty.other (sym (there 1024 (omega arith)) ∙ opened))

  header_zeros : blocks_at region 1 1 ≡ replicate 512 0
  header_zeros = part_zeros region 512 512 (omega (arith, length-part image first (512 * logbook_blocks row) fits))
      (λ k low high. there k (omega (arith, high)) ∙ empty.header (first + k) (omega (arith, low)) (omega (arith, high)))

  no_messages : all_answers (message_in_place row region) (range_with_len 0 (row.logged + 1)) ≡ Some (replicate (row.logged + 1) no_message)
  no_messages = same_answers (message_in_place row region) no_message 0 (row.logged + 1) (λ place low high.
      shut_place row region place (λ opened. empty.places place (omega (arith, high)) (ap (slice_index image) (omega arith) ∙ sym (there (512 * (4 + 2 * place)) (omega (arith, high))) ∙ opened)))

  -- its state
  pub empty_book : logbook_of_region row region ≡ Some (record { life = 0; logged = [] })
  unfolding logbook_of_region
  empty_book =
      ap (λ (s : Slot). by_slot row region (newest s (slot_at region 2))) first_slot
      ∙ ap (λ (s : Slot). by_slot row region (newest (numbered 0) s)) second_slot
      ∙ ap (λ (bytes : List ℕ). by_header row region (log_header_of bytes)) header_zeros
      ∙ ap (by_places row 0) no_messages
      ∙ book_of_none row (row.logged + 1)
