-- A region while a message is moved into its next place.
use Rattle.std.proofs.Common.{◌≡◌, ◌⊎◌, inl, inr, ⊎_elim, ℕ, zero, suc, ◌+◌, ◌-◌, ◌%◌, ◌<◌, ◌≤◌, Bool, true, false, List, [], ◌∷◌, ◌++◌, length, drop, Option, Some, None, refl, sym, ◌∙◌, ap, arith, if◌then◌else◌}
use Rattle.std.specs.Prelude.{nat_lt, ◌==◌}
use Rattle.std.specs.List.{range_with_len}
use Rattle.std.proofs.lemmas.Bool.{cases_eq, cases_lt}
use Rattle.std.proofs.lemmas.Bool.Decides.{nat_tests}
use Rattle.apex_types.specs.declared.rows.LogbookRow.{LogbookRow}
use Rattle.apex_model.specs.Durable.{StoredLogbook}
use Rattle.apex_model.specs.Image.{all_answers, message_in_place, message_numbered, greatest, logbook_of_region}
use Rattle.apex_model.specs.Logbooks.{Logbook, Message, moved}
use Rattle.rig_core.specs.Bytes.{SameWithin}
use Rattle.gate_slots.proofs.Regions.{same_content}
use Rattle.logbook_store.specs.Regions.{PlaceEntry, region_at, places_in, headers_at, cleared_in}
use Rattle.logbook_store.specs.Books.{IsStored}
use Rattle.logbook_store.proofs.Answers.{with_answers, front, answer_at, answer_count}
use Rattle.logbook_store.proofs.Cleared.{cleared_by_content, cleared_of, same_all}
use Rattle.logbook_store.proofs.Entries.{some_at}
use Rattle.logbook_store.proofs.Found.{numbered_in, number_in_place, place_low}
use Rattle.logbook_store.proofs.Greatest.{greatest_from, greatest_above, greatest_one}
use Rattle.logbook_store.proofs.Numbers.{found_by}
use Rattle.logbook_store.proofs.Rounds.{other_place}
use Rattle.logbook_store.proofs.Spelled.{above, region_above, Spells, spelled, oldest_of, with_messages, messages_above}

-- Answers of a range.

pub all_some : {X : Type 0} (f : ℕ → Option X) (from n : ℕ) → ((k : ℕ) → from ≤ k → k < from + n → (x : X) × (f k ≡ Some x)) → (xs : List X) × (all_answers f (range_with_len from n) ≡ Some xs)
all_some f from zero each = ([], refl)
all_some {X} f from (suc n) each =
    let here = each from (omega arith) (omega arith) in
    let later = all_some f (from + 1) n (λ k low high. each k (omega (arith, low)) (omega (arith, high))) in
    (here.0 ∷ later.0, ap (λ (o : Option X). with_answers o (all_answers f (range_with_len (from + 1) n))) here.1 ∙ ap (with_answers (Some here.0)) later.1)

pub one_more : {X : Type 0} (f : ℕ → Option X) (from n : ℕ) (xs : List X) (x : X) → all_answers f (range_with_len from n) ≡ Some xs → f (from + n) ≡ Some x → all_answers f (range_with_len from (n + 1)) ≡ Some (xs ++ x ∷ [])
one_more {X} f from zero xs x is here =
    let nil : [] ≡ xs = cc in
    let one : f from ≡ Some x = ap f (omega arith) ∙ here in
    ap (λ (o : Option X). with_answers o (Some [])) one ∙ ap (λ (l : List X). Some (l ++ x ∷ [])) nil
one_more {X} f from (suc n) xs x is here =
    let parts = front (f from) (all_answers f (range_with_len (from + 1) n)) xs is in
    let at : from + 1 + n ≡ from + suc n = omega arith in
    let later = one_more f (from + 1) n parts.rest x parts.answers (ap f at ∙ here) in
    let more : suc n + 1 ≡ suc (n + 1) = omega arith in
    ap (λ (m : ℕ). all_answers f (range_with_len from m)) more
    ∙ ap (λ (o : Option X). with_answers o (all_answers f (range_with_len (from + 1) (n + 1)))) parts.answer
    ∙ ap (with_answers (Some parts.first)) later
    ∙ ap (λ (l : List X). Some (l ++ x ∷ [])) (sym parts.whole)

pub one_less : {X : Type 0} (f : ℕ → Option X) (from n : ℕ) (xs : List X) → 0 < n → all_answers f (range_with_len from n) ≡ Some xs → all_answers f (range_with_len (from + 1) (n - 1)) ≡ Some (drop 1 xs)
one_less f from zero xs some is = absurd (omega (arith, some))
one_less {X} f from (suc n) xs some is =
    let parts = front (f from) (all_answers f (range_with_len (from + 1) n)) xs is in
    let less : suc n - 1 ≡ n = omega arith in
    ap (λ (m : ℕ). all_answers f (range_with_len (from + 1) m)) less ∙ parts.answers ∙ ap (λ (l : List X). Some (drop 1 l)) (sym parts.whole)

same_headers : (start : ℕ) (row : LogbookRow) (a image : List ℕ) → length image ≡ length a → SameWithin start 2048 a image → cleared_in (region_at row start image) ≡ cleared_in (region_at row start a)
same_headers start row a image long same =
    cleared_by_content row start image
    ∙ ap cleared_of (same_content (headers_at start) (omega arith) a image (record { within = λ k low high. same.within k low (omega (arith, high)) }) long)
    ∙ sym (cleared_by_content row start a)

less_true : (m n : ℕ) → m < n → nat_lt m n ≡ true
less_true m n less = grind (arith, nat_tests)

less_false : (m n : ℕ) → n ≤ m → nat_lt m n ≡ false
less_false m n more = grind (arith, nat_tests)

abbrev pushed_if : List Message → Message → Bool → Option (List Message)
pushed_if messages message t = Some (if t then messages ++ message ∷ [] else drop 1 messages ++ message ∷ [])

abbrev moved_with : ℕ → Logbook → List Message → Logbook
moved_with limit b l = moved limit (record { life = b.life; logged = b.logged; in_progress = l })

abbrev as_stored : Logbook → Option StoredLogbook
as_stored c = Some (record { life = c.life; logged = c.logged })

test_same : (n : ℕ) (message : Message) → found_by n (Some (Some (n, message))) ≡ Some message
test_same n message = let same : (n == n) ≡ true = grind (arith, nat_tests) in ap (λ (t : Bool). if t then Some message else None) same

-- The region of an image, and another one that differs in the next place alone.
module _ (row : LogbookRow) (start : ℕ) (a image : List ℕ) (b : Logbook) (some : 1 ≤ row.logged) (long : length image ≡ length a) (was : IsStored row start b a) (same : SameWithin start 2048 a image) where
  abbrev pub next_place : ℕ
  next_place = (b.life + 1) % (row.logged + 1)

  abbrev old : ℕ → Option PlaceEntry
  old = message_in_place row (region_at row start a)

  abbrev new : ℕ → Option PlaceEntry
  new = message_in_place row (region_at row start image)

  abbrev stored : StoredLogbook
  stored = record { life = b.life; logged = b.logged }

  abbrev parts : Spells row (region_at row start a) stored
  parts = spelled row (region_at row start a) stored was

  abbrev below : ℕ
  below = oldest_of row parts.cleared b.life

  next_low : next_place < row.logged + 1
  next_low = place_low (b.life + 1) row.logged

  -- a logged number has another place
  kept_place : (n : ℕ) → n ≤ b.life → b.life < n + row.logged → n % (row.logged + 1) ≡ next_place → ⊥
  kept_place n low high is =
      let at : n + (b.life + 1 - n) ≡ b.life + 1 = omega (arith, low) in
      other_place n (b.life + 1 - n) (row.logged + 1) (omega (arith, low)) (omega (arith, low, high)) (is ∙ ap (λ (k : ℕ). k % (row.logged + 1)) (sym at))

  module _ (others : (place : ℕ) → place ≤ row.logged → (place ≡ next_place → ⊥) → new place ≡ old place) (found : PlaceEntry) (here : new next_place ≡ Some found) where
    each_place : (place : ℕ) → 0 ≤ place → place < 0 + (row.logged + 1) → (x : PlaceEntry) × (new place ≡ Some x)
    each_place place low high = ⊎_elim
        (λ next. (found, ap new next ∙ here))
        (λ other.
        let x = some_at parts.places place (omega (arith, high, answer_count old 0 (row.logged + 1) parts.places parts.places_are)) in
        (x.0, others place (omega (arith, high)) other ∙ ap old (omega arith) ∙ answer_at old 0 (row.logged + 1) parts.places parts.places_are place (omega (arith, high)) ∙ x.1))
        (cases_eq place next_place)

    abbrev places : List PlaceEntry
    places = (all_some new 0 (row.logged + 1) each_place).0

    places_are : places_in row (region_at row start image) ≡ Some places
    places_are = (all_some new 0 (row.logged + 1) each_place).1

    -- a logged number has the message that it had
    kept_message : (n : ℕ) → n ≤ b.life → b.life < n + row.logged → message_numbered n places ≡ message_numbered n parts.places
    kept_message n low high =
        numbered_in row (region_at row start image) places n places_are
        ∙ ap (found_by n) (others (n % (row.logged + 1)) (omega (arith, place_low n row.logged)) (kept_place n low high))
        ∙ sym (numbered_in row (region_at row start a) parts.places n parts.places_are)

    -- no less than the life
    life_kept : b.life ≤ greatest parts.cleared places
    life_kept = ⊎_elim
        (λ first. omega (arith, first, parts.life, greatest_from parts.cleared places))
        (λ one.
        let entry = one.1 in
        let number : entry.0 ≡ b.life = one.5 ∙ parts.life in
        let place : entry.0 % (row.logged + 1) ≡ one.0 = number_in_place row (region_at row start a) one.0 entry one.4 in
        let other : one.0 ≡ next_place → ⊥ = λ is. kept_place entry.0 (omega (arith, number)) (omega (arith, number, some)) (place ∙ is) in
        let there : new one.0 ≡ Some (Some entry) = others one.0 (omega (arith, one.3)) other ∙ one.4 in
        omega (arith, number, greatest_above new parts.cleared 0 (row.logged + 1) places places_are one.0 entry (omega arith) (omega (arith, one.3)) there))
        (greatest_one old parts.cleared 0 (row.logged + 1) parts.places parts.places_are)

    -- the greatest is no more than the life, or it is that of the next place
    life_or_next : (greatest parts.cleared places ≤ b.life) ⊎ ((entry : ℕ × List ℕ) × (found ≡ Some entry) × (entry.0 ≡ greatest parts.cleared places))
    life_or_next = ⊎_elim
        (λ first. inl (omega (arith, first, parts.life, greatest_from parts.cleared parts.places)))
        (λ one. ⊎_elim
        (λ next.
        let both : Some found ≡ Some (Some one.1) = sym here ∙ ap new (sym next) ∙ one.4 in
        let is : found ≡ Some one.1 = cc in
        inr (one.1, is, one.5))
        (λ other.
        let there : old one.0 ≡ Some (Some one.1) = sym (others one.0 (omega (arith, one.3)) other) ∙ one.4 in
        inl (omega (arith, one.5, parts.life, greatest_above old parts.cleared 0 (row.logged + 1) parts.places parts.places_are one.0 one.1 (omega arith) (omega (arith, one.3)) there)))
        (cases_eq one.0 next_place))
        (greatest_one new parts.cleared 0 (row.logged + 1) places places_are)

    by_parts : (life : ℕ) → greatest parts.cleared places ≡ life → logbook_of_region row (region_at row start image) ≡ with_messages life (messages_above places (oldest_of row parts.cleared life) (life - oldest_of row parts.cleared life))
    by_parts life is =
        region_above row (region_at row start image)
        ∙ ap (above row (places_in row (region_at row start image))) (same_headers start row a image long same ∙ parts.cleared_is)
        ∙ ap (λ (o : Option (List PlaceEntry)). above row o (Some parts.cleared)) places_are
        ∙ ap (λ (l : ℕ). with_messages l (messages_above places (oldest_of row parts.cleared l) (l - oldest_of row parts.cleared l))) is

  -- while the next place is closed
  pub not_moved : ((place : ℕ) → place ≤ row.logged → (place ≡ next_place → ⊥) → new place ≡ old place) → new next_place ≡ Some None → IsStored row start b image
  not_moved others shut =
      let none : PlaceEntry = None in
      let xs = places others none shut in
      let life : greatest parts.cleared xs ≡ b.life = ⊎_elim
      (λ few. omega (arith, few, life_kept others none shut))
      (λ next. absurd (let no : none ≡ Some next.0 = next.1 in cc))
      (life_or_next others none shut) in
      by_parts others none shut b.life life
      ∙ ap (with_messages b.life) (same_all (λ n. message_numbered n xs) (λ n. message_numbered n parts.places) (below + 1) (b.life - below)
      (λ n low high. kept_message others none shut n (omega (arith, low, high)) (omega (arith, low, high))))
      ∙ ap (with_messages b.life) parts.messages

  -- once it is open
  pub is_moved : ((place : ℕ) → place ≤ row.logged → (place ≡ next_place → ⊥) → new place ≡ old place) → (message : Message) (rest : List Message) → b.in_progress ≡ message ∷ rest → new next_place ≡ Some (Some (b.life + 1, message))
      → IsStored row start (moved row.logged b) image
  is_moved others message rest oldest opened =
      let entry : ℕ × List ℕ = (b.life + 1, message) in
      let found : PlaceEntry = Some entry in
      let xs = places others found opened in
      let are = places_are others found opened in
      let up = greatest_above new parts.cleared 0 (row.logged + 1) xs are next_place entry (omega arith) (omega (arith, next_low)) opened in
      let life : greatest parts.cleared xs ≡ b.life + 1 = ⊎_elim
      (λ few. absurd (omega (arith, few, up)))
      (λ next. let is : entry ≡ next.0 = (let both : found ≡ Some next.0 = next.1 in cc) in sym next.2 ∙ sym (ap (λ (e : ℕ × List ℕ). e.0) is))
      (life_or_next others found opened) in
      let top : below ≤ b.life = omega (arith, parts.life, greatest_from parts.cleared parts.places) in
      let f : ℕ → Option (List ℕ) = λ n. message_numbered n xs in
      let last : f (b.life + 1) ≡ Some message =
      numbered_in row (region_at row start image) xs (b.life + 1) are ∙ ap (found_by (b.life + 1)) opened ∙ test_same (b.life + 1) message in
      let kept : all_answers f (range_with_len (below + 1) (b.life - below)) ≡ Some b.logged =
      same_all f (λ n. message_numbered n parts.places) (below + 1) (b.life - below) (λ n low high. kept_message others found opened n (omega (arith, low, high)) (omega (arith, low, high))) ∙ parts.messages in
      let count : length b.logged ≡ b.life - below = answer_count f (below + 1) (b.life - below) b.logged kept in
      by_parts others found opened (b.life + 1) life
      ∙ ap (with_messages (b.life + 1)) (⊎_elim
      (λ less.
      let at : oldest_of row parts.cleared (b.life + 1) ≡ below = omega (arith, less, count) in
      let more : b.life + 1 - below ≡ b.life - below + 1 = omega (arith, top) in
      let end : below + 1 + (b.life - below) ≡ b.life + 1 = omega (arith, top) in
      ap (λ (k : ℕ). messages_above xs k (b.life + 1 - k)) at ∙ ap (messages_above xs below) more
      ∙ one_more f (below + 1) (b.life - below) b.logged message kept (ap f end ∙ last)
      ∙ sym (ap (pushed_if b.logged message) (less_true (length b.logged) row.logged less)))
      (λ full.
      let at : oldest_of row parts.cleared (b.life + 1) ≡ below + 1 = omega (arith, full, count) in
      let more : b.life + 1 - (below + 1) ≡ b.life - below - 1 + 1 = omega (arith, full, count, some) in
      let end : below + 1 + 1 + (b.life - below - 1) ≡ b.life + 1 = omega (arith, full, count, some) in
      ap (λ (k : ℕ). messages_above xs k (b.life + 1 - k)) at ∙ ap (messages_above xs (below + 1)) more
      ∙ one_more f (below + 1 + 1) (b.life - below - 1) (drop 1 b.logged) message (one_less f (below + 1) (b.life - below) b.logged (omega (arith, full, count, some)) kept) (ap f end ∙ last)
      ∙ sym (ap (pushed_if b.logged message) (less_false (length b.logged) row.logged full)))
      (cases_lt (length b.logged) row.logged))
      ∙ sym (ap (λ (l : List Message). as_stored (moved_with row.logged b l)) oldest)
