-- A region by the body of its newest header and its places, and once it was cleared.
use Rattle.std.proofs.Common.{◌≡◌, ℕ, zero, suc, ◌+◌, ◌-◌, ◌*◌, ◌<◌, ◌≤◌, Bool, true, false, ◌&&◌, List, [], ◌∷◌, length, Option, Some, None, option_map, refl, sym, ◌∙◌, ap, arith, if◌then◌else◌}
use Rattle.std.specs.Prelude.{slice_set, nat_le, drop, ◌==◌}
use Rattle.std.proofs.lemmas.Bool.Decides.{nat_tests}
use Rattle.std.specs.List.{range_with_len}
use Rattle.apex_types.specs.declared.rows.LogbookRow.{LogbookRow}
use Rattle.apex_model.specs.Durable.{StoredLogbook}
use Rattle.apex_model.specs.Fields.{log_header_of, is_padding, number_at}
use Rattle.apex_model.specs.Fields as fields
use Rattle.apex_model.specs.Image.{blocks_at, is_open, all_answers, message_in_place, greatest, logbook_of_region}
use Rattle.rig_core.specs.Bytes.{part, SameWithin}
use Rattle.rig_core.proofs.Put.{part_same}
use Rattle.gate_slots.specs.Place.{gate_of, newest_slot, newest_content}
use Rattle.logbook_store.specs.Regions.{PlaceEntry, region_at, places_in, headers_at, cleared_in}
use Rattle.logbook_store.proofs.Answers.{with_answers}
use Rattle.logbook_store.proofs.Greatest.{greatest_stays}
use Rattle.logbook_store.proofs.Found.{region_byte, region_block, in_place}
use Rattle.logbook_store.proofs.Spelled.{above, region_above, no_header, cleared_there, spelled, oldest_of, with_messages, messages_above}

-- the cleared number that a header's body spells
abbrev pub cleared_of : Option (List ℕ) → Option ℕ
cleared_of o = elim o [ None ↦ None | Some body ↦ option_map (λ (header : ℕ × ℕ). header.1) (log_header_of body) ]

module _ (row : LogbookRow) (start : ℕ) (image : List ℕ) where
  by_newest : (slot : Option ℕ) → slot ≡ newest_slot (headers_at start) image
      → cleared_in (region_at row start image) ≡ cleared_of (option_map (λ (s : ℕ). part (gate_of (headers_at start) s + 512) 512 image) slot)
  by_newest None is = sym (no_header row start image is)
  by_newest (Some slot) is = sym (cleared_there row start image slot (part (gate_of (headers_at start) slot + 512) 512 image) is refl)

  pub cleared_by_content : cleared_in (region_at row start image) ≡ cleared_of (newest_content (headers_at start) image)
  unfolding newest_content
  cleared_by_content = by_newest (newest_slot (headers_at start) image) refl

  pub region_by_content : logbook_of_region row (region_at row start image) ≡ above row (places_in row (region_at row start image)) (cleared_of (newest_content (headers_at start) image))
  region_by_content = region_above row (region_at row start image) ∙ ap (above row (places_in row (region_at row start image))) cleared_by_content

-- Places with the same answers.
pub same_all : {X : Type 0} (f g : ℕ → Option X) (from n : ℕ) → ((k : ℕ) → from ≤ k → k < from + n → f k ≡ g k) → all_answers f (range_with_len from n) ≡ all_answers g (range_with_len from n)
same_all f g from zero same = refl
same_all {X} f g from (suc n) same =
    ap (λ (o : Option X). with_answers o (all_answers f (range_with_len (from + 1) n))) (same from (omega arith) (omega arith))
    ∙ ap (with_answers (g from)) (same_all f g (from + 1) n (λ k low high. same k (omega (arith, low)) (omega (arith, high))))

-- Two images of which the second has the bytes of the first in a place.
module _ (row : LogbookRow) (start : ℕ) (a b : List ℕ) (long : length b ≡ length a) (place : ℕ) (low : place ≤ row.logged) where
  pub same_place : SameWithin (start + 2048 + 1024 * place) 1024 a b → message_in_place row (region_at row start b) place ≡ message_in_place row (region_at row start a) place
  same_place same =
      let gate = start + 2048 + 1024 * place in
      let opened : is_open (region_at row start b) (4 + 2 * place) ≡ is_open (region_at row start a) (4 + 2 * place) =
      ap (λ (n : ℕ). n == 165) (region_byte row start b (512 * (4 + 2 * place)) (omega (arith, low)) ∙ same.within (start + 512 * (4 + 2 * place)) (omega arith) (omega arith)
      ∙ sym (region_byte row start a (512 * (4 + 2 * place)) (omega (arith, low)))) in
      let body : blocks_at (region_at row start b) (5 + 2 * place) 1 ≡ blocks_at (region_at row start a) (5 + 2 * place) 1 =
      region_block row start b (5 + 2 * place) (gate + 512) (omega (arith, low)) (omega arith)
      ∙ part_same (gate + 512) 512 b a long (λ k from to. same.within k (omega (arith, from)) (omega (arith, to)))
      ∙ sym (region_block row start a (5 + 2 * place) (gate + 512) (omega (arith, low)) (omega arith)) in
      ap (λ (t : Bool). in_place (row.logged + 1) place t (fields.log_entry_of row.message_size (blocks_at (region_at row start b) (5 + 2 * place) 1))) opened
      ∙ ap (λ (l : List ℕ). in_place (row.logged + 1) place (is_open (region_at row start a) (4 + 2 * place)) (fields.log_entry_of row.message_size l)) body

-- the bytes behind the headers
abbrev pub SamePlaces : LogbookRow → ℕ → List ℕ → List ℕ → Type 0
SamePlaces row start a b = SameWithin (start + 2048) (1024 * (row.logged + 1)) a b

pub same_places : (row : LogbookRow) (start : ℕ) (a b : List ℕ) → length b ≡ length a → SamePlaces row start a b → places_in row (region_at row start b) ≡ places_in row (region_at row start a)
same_places row start a b long same =
    same_all (message_in_place row (region_at row start b)) (message_in_place row (region_at row start a)) 0 (row.logged + 1) (λ place low high.
    same_place row start a b long place (omega (arith, high)) (record { within = λ k from to. same.within k (omega (arith, from)) (omega (arith, to, high)) }))

-- the header with another sequence number
abbrev numbered_if : Bool → ℕ → ℕ → Option (ℕ × ℕ)
numbered_if test n cleared = if test then Some (n, cleared) else None

header_test : (x y m : ℕ) (before behind : Bool) (wanted : ℕ × ℕ) → m ≤ 2 → numbered_if (nat_le x 2 && before && behind) x y ≡ Some wanted → numbered_if (nat_le m 2 && before && behind) m y ≡ Some (m, wanted.1)
header_test x y m before behind wanted few is = by_tests (nat_le x 2) (nat_le m 2) before behind (is_le m few) is
  where
    is_le : (m : ℕ) → m ≤ 2 → nat_le m 2 ≡ true
    is_le m few = grind (arith, nat_tests)

    by_tests : (s t u v : Bool) → t ≡ true → numbered_if (s && u && v) x y ≡ Some wanted → numbered_if (t && u && v) m y ≡ Some (m, wanted.1)
    by_tests true true true true ok is = let pair : ℕ × ℕ = (x, y) in let same : pair ≡ wanted = cc in ap (λ (p : ℕ × ℕ). numbered_if true m p.1) same
    by_tests s false u v ok is = absurd cc
    by_tests false t u v ok is = absurd cc
    by_tests true t false v ok is = absurd cc
    by_tests true t true false ok is = absurd cc

pub header_numbered : (body : List ℕ) (m : ℕ) (wanted : ℕ × ℕ) → 0 < length body → m ≤ 2 → log_header_of body ≡ Some wanted → log_header_of (slice_set body 0 m) ≡ Some (m, wanted.1)
header_numbered [] m wanted some few is = absurd (omega (arith, some))
header_numbered (x ∷ rest) m wanted some few is =
    header_test x (number_at (x ∷ rest) 4 4) m (is_padding (fields.part (x ∷ rest) 1 3)) (is_padding (drop 8 (x ∷ rest))) wanted few is

-- Images that differ in the headers alone.
module _ (row : LogbookRow) (start : ℕ) (a b : List ℕ) (long : length b ≡ length a) (same : SamePlaces row start a b) where
  pub header_stays : (content : List ℕ) → newest_content (headers_at start) a ≡ Some content → newest_content (headers_at start) b ≡ Some content → logbook_of_region row (region_at row start b) ≡ logbook_of_region row (region_at row start a)
  header_stays content was is =
      region_by_content row start b ∙ ap (λ (o : Option (List PlaceEntry)). above row o (cleared_of (newest_content (headers_at start) b))) (same_places row start a b long same)
      ∙ ap (λ (o : Option (List ℕ)). above row (places_in row (region_at row start a)) (cleared_of o)) (is ∙ sym was) ∙ sym (region_by_content row start a)

  pub header_clears : (stored : StoredLogbook) → logbook_of_region row (region_at row start a) ≡ Some stored → (body : List ℕ) (n : ℕ) → log_header_of body ≡ Some (n, stored.life) → newest_content (headers_at start) b ≡ Some body
      → logbook_of_region row (region_at row start b) ≡ Some (record { life = stored.life; logged = [] })
  header_clears stored was body n spells is =
      let parts = spelled row (region_at row start a) stored was in
      let life : greatest stored.life parts.places ≡ stored.life = greatest_stays parts.cleared stored.life parts.places (omega (arith, parts.life)) in
      let none : stored.life - oldest_of row stored.life stored.life ≡ 0 = omega arith in
      region_by_content row start b
      ∙ ap (λ (o : Option (List PlaceEntry)). above row o (cleared_of (newest_content (headers_at start) b))) (same_places row start a b long same ∙ parts.places_are)
      ∙ ap (λ (o : Option (List ℕ)). above row (Some parts.places) (cleared_of o)) is
      ∙ ap (λ (o : Option (ℕ × ℕ)). above row (Some parts.places) (option_map (λ (header : ℕ × ℕ). header.1) o)) spells
      ∙ ap (λ (l : ℕ). with_messages l (messages_above parts.places (oldest_of row stored.life l) (l - oldest_of row stored.life l))) life
      ∙ ap (λ (k : ℕ). with_messages stored.life (messages_above parts.places (oldest_of row stored.life stored.life) k)) none

-- where the region is good, a header is newest
pub some_content : (row : LogbookRow) (start : ℕ) (image : List ℕ) (stored : StoredLogbook) → logbook_of_region row (region_at row start image) ≡ Some stored → (content : List ℕ) × (newest_content (headers_at start) image ≡ Some content)
some_content row start image stored is =
    let parts = spelled row (region_at row start image) stored is in
    by_content (newest_content (headers_at start) image) refl (sym (cleared_by_content row start image) ∙ parts.cleared_is)
  where
    by_content : (o : Option (List ℕ)) → newest_content (headers_at start) image ≡ o → {n : ℕ} → cleared_of o ≡ Some n → (content : List ℕ) × (newest_content (headers_at start) image ≡ Some content)
    by_content None is cleared = absurd cc
    by_content (Some content) is cleared = (content, is)
