-- What a logbook's region has in its places.
use Rattle.std.specs.Prelude.{◌≡◌, ℕ, Bool, length, option_map, false, List, ◌+◌, ◌*◌, ◌%◌, ◌==◌, Option, Some, None, if◌then◌else◌}
use Rattle.std.specs.List.{range_with_len}
use Rattle.apex_types.specs.declared.rows.LogbookRow.{LogbookRow}
use Rattle.gate_slots.specs.Place.{Place}
use Rattle.apex_model.specs.Durable.{StoredLogbook}
use Rattle.apex_model.specs.Logbooks.{Message}
use Rattle.apex_model.specs.Fields.{part, log_entry_of, log_header_of}
use Rattle.apex_model.specs.Image.{all_answers, blocks_at, book_of_places, message_in_place, newest, slot_at}
use Rattle.apex_model.specs.Layout.{logbook_blocks}

-- what a place has: nothing, or a number and a message
abbrev pub PlaceEntry : Type 0
PlaceEntry = Option (ℕ × List ℕ)

-- the bytes of a logbook that begins at this byte
abbrev pub region_at : LogbookRow → ℕ → List ℕ → List ℕ
region_at row start image = part image start (512 * logbook_blocks row)

-- what each place of a region has, if all are good
abbrev pub places_in : LogbookRow → List ℕ → Option (List PlaceEntry)
places_in row region = all_answers (message_in_place row region) (range_with_len 0 (row.logged + 1))

-- what the bytes of an open place spell, if they are those of this place
abbrev pub entry_by_bytes : LogbookRow → ℕ → List ℕ → Option PlaceEntry
entry_by_bytes row place body = elim (log_entry_of row.message_size body) [ None ↦ None | Some entry ↦ if entry.0 % (row.logged + 1) == place then Some (Some entry) else None ]

-- whether a place has a message of this number
abbrev pub is_numbered : ℕ → Option PlaceEntry → Bool
is_numbered number None = false
is_numbered number (Some None) = false
is_numbered number (Some (Some entry)) = entry.0 == number

-- where the two headers of a logbook stand
abbrev pub headers_at : ℕ → Place
headers_at start = record { start = start; body = 1; tail = 0 }

-- the cleared number of the newest header of a region, if one is newest and spelled as a header
abbrev pub cleared_in : List ℕ → Option ℕ
cleared_in region = elim (newest (slot_at region 0) (slot_at region 2)) [ None ↦ None | Some slot ↦ option_map (λ header. header.1) (log_header_of (blocks_at region (slot * 2 + 1) 1)) ]

-- the logbook of these places whose messages up to a number were cleared
abbrev pub stored_above : LogbookRow → ℕ → Option (List PlaceEntry) → Option StoredLogbook
stored_above row cleared o = elim o [ None ↦ None | Some places ↦ book_of_places row cleared places ]

-- It has this life, and so many messages are logged.
abbrev pub HasCounts : LogbookRow → ℕ → Option (List PlaceEntry) → ℕ → ℕ → Type 0
HasCounts row cleared places life logged = (messages : List Message) × (stored_above row cleared places ≡ Some (record { life = life; logged = messages })) × (logged ≡ length messages)
