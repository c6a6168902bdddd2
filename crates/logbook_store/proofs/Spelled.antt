-- What a region spells, part by part.
use Rattle.std.proofs.Common.{◌≡◌, ◌⊎◌, inl, inr, ⊎_elim, ℕ, ◌+◌, ◌-◌, ◌*◌, ◌%◌, ◌<◌, max, Bool, true, false, List, length, Option, Some, None, option_map, refl, sym, ◌∙◌, ap, subst, arith, if◌then◌else◌}
use Rattle.std.specs.Prelude.{slice_get, nat_lt, ◌||◌, is_some, IfSome}
use Rattle.std.specs.List.{range_with_len}
use Rattle.apex_types.specs.declared.rows.LogbookRow.{LogbookRow}
use Rattle.apex_model.specs.Durable.{StoredLogbook}
use Rattle.apex_model.specs.Fields.{log_header_of}
use Rattle.apex_model.specs.Image.{Slot, closed, numbered, newest, follows, slot_at, blocks_at, all_answers, message_in_place, greatest, message_numbered, logbook_of_region}
use Rattle.rig_core.specs.Bytes.{part}
use Rattle.gate_slots.specs.Place.{gate_of, newest_slot}
use Rattle.gate_slots.proofs.Regions.{newest_in_region}
use Rattle.logbook_store.specs.Regions.{PlaceEntry, region_at, places_in, headers_at, cleared_in, stored_above, HasCounts}
use Rattle.logbook_store.proofs.Answers.{answer_at, answer_count}
use Rattle.logbook_store.proofs.Numbers.{found_entry}
use Rattle.logbook_store.proofs.Found.{numbered_in, region_byte, region_block}

-- A region by its cleared number and its places.
abbrev pub above : LogbookRow → Option (List PlaceEntry) → Option ℕ → Option StoredLogbook
above row places o = elim o [ None ↦ None | Some cleared ↦ stored_above row cleared places ]

abbrev by_header : LogbookRow → Option (List PlaceEntry) → Option (ℕ × ℕ) → Option StoredLogbook
by_header row places o = elim o [ None ↦ None | Some header ↦ stored_above row header.1 places ]

abbrev by_slot : LogbookRow → List ℕ → Option ℕ → Option StoredLogbook
by_slot row region o = elim o [ None ↦ None | Some slot ↦ by_header row (places_in row region) (log_header_of (blocks_at region (slot * 2 + 1) 1)) ]

abbrev cleared_by : List ℕ → Option ℕ → Option ℕ
cleared_by region o = elim o [ None ↦ None | Some slot ↦ option_map (λ header. header.1) (log_header_of (blocks_at region (slot * 2 + 1) 1)) ]

header_above : (row : LogbookRow) (places : Option (List PlaceEntry)) (o : Option (ℕ × ℕ)) → by_header row places o ≡ above row places (option_map (λ (header : ℕ × ℕ). header.1) o)
header_above row places None = refl
header_above row places (Some header) = refl

slot_above : (row : LogbookRow) (region : List ℕ) (slot : Option ℕ) → by_slot row region slot ≡ above row (places_in row region) (cleared_by region slot)
slot_above row region None = refl
slot_above row region (Some slot) = header_above row (places_in row region) (log_header_of (blocks_at region (slot * 2 + 1) 1))

pub region_above : (row : LogbookRow) (region : List ℕ) → logbook_of_region row region ≡ above row (places_in row region) (cleared_in region)
unfolding logbook_of_region
region_above row region = slot_above row region (newest (slot_at region 0) (slot_at region 2))

-- the oldest number is above the cleared one, and above those that were dropped
abbrev pub oldest_of : LogbookRow → ℕ → ℕ → ℕ
oldest_of row cleared life = max cleared (life - row.logged)

abbrev pub with_messages : ℕ → Option (List (List ℕ)) → Option StoredLogbook
with_messages life o = option_map (λ messages. let b : StoredLogbook = record { life = life; logged = messages } in b) o

abbrev pub messages_above : List PlaceEntry → ℕ → ℕ → Option (List (List ℕ))
messages_above places below count = all_answers (λ n. message_numbered n places) (range_with_len (below + 1) count)

-- what a good region spells
pub record Spells (row : LogbookRow) (region : List ℕ) (stored : StoredLogbook) : Type 0 where
  pub cleared : ℕ
  pub places : List PlaceEntry
  pub cleared_is : cleared_in region ≡ Some cleared
  pub places_are : places_in row region ≡ Some places
  pub life : greatest cleared places ≡ stored.life
  pub messages : messages_above places (oldest_of row cleared stored.life) (stored.life - oldest_of row cleared stored.life) ≡ Some stored.logged

life_with : (life : ℕ) (o : Option (List (List ℕ))) (stored : StoredLogbook) → with_messages life o ≡ Some stored → (life ≡ stored.life) × (o ≡ Some stored.logged)
life_with life None stored is = absurd cc
life_with life (Some messages) stored is =
    let same : (let b : StoredLogbook = record { life = life; logged = messages } in b) ≡ stored = cc in
    (ap (λ (b : StoredLogbook). b.life) same, ap (λ (b : StoredLogbook). Some b.logged) same)

spelled_above : (row : LogbookRow) (region : List ℕ) (stored : StoredLogbook) (cleared : Option ℕ) (places : Option (List PlaceEntry)) → cleared_in region ≡ cleared → places_in row region ≡ places
    → above row places cleared ≡ Some stored → Spells row region stored
spelled_above row region stored None places cleared_is places_are book = absurd cc
spelled_above row region stored (Some cleared) None cleared_is places_are book = absurd cc
spelled_above row region stored (Some cleared) (Some places) cleared_is places_are book =
    let life = greatest cleared places in
    let parts = life_with life (messages_above places (oldest_of row cleared life) (life - oldest_of row cleared life)) stored book in
    record {
      cleared = cleared;
      places = places;
      cleared_is = cleared_is;
      places_are = places_are;
      life = parts.0;
      messages = sym (ap (λ (m : ℕ). messages_above places (oldest_of row cleared m) (m - oldest_of row cleared m)) parts.0) ∙ parts.1;
    }

pub spelled : (row : LogbookRow) (region : List ℕ) (stored : StoredLogbook) → logbook_of_region row region ≡ Some stored → Spells row region stored
spelled row region stored is = spelled_above row region stored (cleared_in region) (places_in row region) refl refl (sym (region_above row region) ∙ is)

-- a logged message in its place
pub logged_entry : (row : LogbookRow) (region : List ℕ) (stored : StoredLogbook) → Spells row region stored → (i number : ℕ) → i < length stored.logged → number + length stored.logged ≡ stored.life + i + 1
    → (wanted : List ℕ) → slice_get stored.logged i ≡ Some wanted → (entry : ℕ × List ℕ) × (message_in_place row region (number % (row.logged + 1)) ≡ Some (Some entry)) × (entry.1 ≡ wanted)
logged_entry row region stored spells i number low at wanted is =
    let below = oldest_of row spells.cleared stored.life in
    let f : ℕ → Option (List ℕ) = λ n. message_numbered n spells.places in
    let count : length stored.logged ≡ stored.life - below = answer_count f (below + 1) (stored.life - below) stored.logged spells.messages in
    let same : below + 1 + i ≡ number = omega (arith, count, low, at) in
    let there : message_numbered number spells.places ≡ Some wanted =
    ap f (sym same) ∙ answer_at f (below + 1) (stored.life - below) stored.logged spells.messages i (omega (arith, low, count)) ∙ is in
    found_entry number (message_in_place row region (number % (row.logged + 1))) wanted (sym (numbered_in row region spells.places number spells.places_are) ∙ there)

-- Places that are read one after the other.

pub no_places : (row : LogbookRow) (cleared : ℕ) (places : Option (List PlaceEntry)) → None ≡ option_map (greatest cleared) places → stored_above row cleared places ≡ None
no_places row cleared None is = refl
no_places row cleared (Some places) is = absurd cc

not_some : (life : ℕ) (o : Option (List (List ℕ))) → false ≡ is_some o → with_messages life o ≡ None
not_some life None is = refl
not_some life (Some messages) is = absurd cc

pub no_messages : (row : LogbookRow) (cleared life below count : ℕ) (places : Option (List PlaceEntry)) → Some life ≡ option_map (greatest cleared) places → below ≡ oldest_of row cleared life → count ≡ life - below
    → ((found : List PlaceEntry) → places ≡ Some found → false ≡ is_some (messages_above found below count)) → stored_above row cleared places ≡ None
no_messages row cleared life below count None life_is below_is count_is all = refl
no_messages row cleared life below count (Some places) life_is below_is count_is all =
    let same : greatest cleared places ≡ life = cc in
    ap (λ (l : ℕ). with_messages l (messages_above places (oldest_of row cleared l) (l - oldest_of row cleared l))) same
    ∙ ap (λ (b : ℕ). with_messages life (messages_above places b (life - b))) (sym below_is)
    ∙ ap (λ (n : ℕ). with_messages life (messages_above places below n)) (sym count_is)
    ∙ not_some life (messages_above places below count) (all places refl)

is_with : (o : Option (List (List ℕ))) → true ≡ is_some o → (messages : List (List ℕ)) × (o ≡ Some messages)
is_with None is = absurd cc
is_with (Some messages) is = (messages, refl)

pub all_messages : (row : LogbookRow) (cleared life below count : ℕ) (places : Option (List PlaceEntry)) → Some life ≡ option_map (greatest cleared) places → below ≡ oldest_of row cleared life → count ≡ life - below
    → ((found : List PlaceEntry) → places ≡ Some found → true ≡ is_some (messages_above found below count)) → HasCounts row cleared places life count
all_messages row cleared life below count None life_is below_is count_is all = absurd cc
all_messages row cleared life below count (Some places) life_is below_is count_is all =
    let same : greatest cleared places ≡ life = cc in
    let found = is_with (messages_above places below count) (all places refl) in (
      found.0,
      ap (λ (l : ℕ). with_messages l (messages_above places (oldest_of row cleared l) (l - oldest_of row cleared l))) same
          ∙ ap (λ (b : ℕ). with_messages life (messages_above places b (life - b))) (sym below_is)
          ∙ ap (λ (n : ℕ). with_messages life (messages_above places below n)) (sym count_is)
          ∙ ap (with_messages life) found.1,
      sym (answer_count (λ n. message_numbered n places) (below + 1) count found.0 found.1),
    )

pub found_counts : (row : LogbookRow) (cleared : ℕ) (places : Option (List PlaceEntry)) (found : Option (ℕ × ℕ)) (counts : ℕ × ℕ) → found ≡ Some counts → IfSome found (λ c. HasCounts row cleared places c.0 c.1)
    → HasCounts row cleared places counts.0 counts.1
found_counts row cleared places found counts is has = subst (λ (o : Option (ℕ × ℕ)). IfSome o (λ c. HasCounts row cleared places c.0 c.1)) is has

-- The newest header is one of two.
one_if : (b : Bool) (k s : ℕ) → (if b then None else Some k) ≡ Some s → k ≡ s
one_if true k s is = absurd cc
one_if false k s is = cc

two_ifs : (a b c : Bool) (s : ℕ) → (if a then None else if b then Some 0 else if c then Some 1 else None) ≡ Some s → (s ≡ 0) ⊎ (s ≡ 1)
two_ifs true b c s is = absurd cc
two_ifs false true c s is = inl cc
two_ifs false false true s is = inr cc
two_ifs false false false s is = absurd cc

newest_low : (a b : Slot) (s : ℕ) → newest a b ≡ Some s → (s ≡ 0) ⊎ (s ≡ 1)
newest_low closed closed s is = absurd cc
newest_low (numbered m) closed s is = inl (sym (one_if (nat_lt 2 m) 0 s is))
newest_low closed (numbered n) s is = inr (sym (one_if (nat_lt 2 n) 1 s is))
newest_low (numbered m) (numbered n) s is = two_ifs (nat_lt 2 m || nat_lt 2 n) (follows m n) (follows n m) s is

module _ (row : LogbookRow) (start : ℕ) (image : List ℕ) where
  -- the newest header of a region is that of its place
  pub newest_header : newest (slot_at (region_at row start image) 0) (slot_at (region_at row start image) 2) ≡ newest_slot (headers_at start) image
  newest_header = newest_in_region (headers_at start) (omega arith) (region_at row start image) image (λ k low. region_byte row start image k (omega (arith, low)))

  gate_at : (slot : ℕ) → (slot ≡ 0) ⊎ (slot ≡ 1) → start + 512 * (slot * 2 + 1) ≡ gate_of (headers_at start) slot + 512
  gate_at slot (inl first) = ap (λ (s : ℕ). start + 512 * (s * 2 + 1)) first ∙ omega arith ∙ sym (ap (λ (s : ℕ). gate_of (headers_at start) s + 512) first)
  gate_at slot (inr second) = ap (λ (s : ℕ). start + 512 * (s * 2 + 1)) second ∙ omega arith ∙ sym (ap (λ (s : ℕ). gate_of (headers_at start) s + 512) second)

  -- and so is its body
  pub header_body : (slot : ℕ) → Some slot ≡ newest_slot (headers_at start) image → blocks_at (region_at row start image) (slot * 2 + 1) 1 ≡ part (gate_of (headers_at start) slot + 512) 512 image
  header_body slot is =
      let one = newest_low (slot_at (region_at row start image) 0) (slot_at (region_at row start image) 2) slot (newest_header ∙ sym is) in
      region_block row start image (slot * 2 + 1) (gate_of (headers_at start) slot + 512) (⊎_elim (λ first. omega (arith, first)) (λ second. omega (arith, second)) one) (gate_at slot one)

  pub no_header : None ≡ newest_slot (headers_at start) image → None ≡ cleared_in (region_at row start image)
  no_header is = sym (ap (cleared_by (region_at row start image)) (newest_header ∙ sym is))

  pub cleared_there : (slot : ℕ) (body : List ℕ) → Some slot ≡ newest_slot (headers_at start) image → body ≡ part (gate_of (headers_at start) slot + 512) 512 image
      → option_map (λ (header : ℕ × ℕ). header.1) (log_header_of body) ≡ cleared_in (region_at row start image)
  cleared_there slot body is read =
      ap (λ (b : List ℕ). option_map (λ (header : ℕ × ℕ). header.1) (log_header_of b)) (read ∙ sym (header_body slot is))
      ∙ sym (ap (cleared_by (region_at row start image)) (newest_header ∙ sym is))
