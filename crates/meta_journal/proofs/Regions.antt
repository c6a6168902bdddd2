-- What is said of a journal is told by its bytes, and is what the state of an image reads there.
use Rattle.std.proofs.Common.{◌≡◌, ℕ, zero, suc, ◌+◌, ◌-◌, ◌*◌, ◌<◌, ◌≤◌, true, false, not, List, [], ◌∷◌, length, drop, refl, sym, ◌∙◌, ap, arith, inl, inr, ext_get_or, length-drop}
use Rattle.std.proofs.lemmas.Bool.{cases_eq}
use Rattle.std.proofs.lemmas.Bool.Decides.{nat_tests}
use Rattle.std.proofs.lemmas.List.{get_or-drop, drop-drop}
use Rattle.apex_model.specs.Image.{leading_records, has_open_record, has_free_record}
use Rattle.rig_core.specs.Bytes.{byte, part, SameWithin}
use Rattle.rig_core.specs.Leaves.{SpeaksOf}
use Rattle.rig_core.proofs.Put.{byte-part, length-part, part_same}
use Rattle.meta_journal.specs.declared.Journal.{Journal}
use Rattle.meta_journal.specs.Journal.{first_of, Knows}
use Rattle.meta_journal.specs.Leading.{leading, records, gate_of, IsOpen, HasNoneOpen, Holds}
use Rattle.meta_journal.proofs.Records.{leading_open, leading_shut, leading_zero}

leading_as : (n first : ℕ) (a b : List ℕ) → length b ≡ length a → ((k : ℕ) → first ≤ k → k < first + 1024 * n → byte b k ≡ byte a k) → leading n first b ≡ leading n first a
leading_as zero first a b long same = leading_zero first b ∙ sym (leading_zero first a)
leading_as (suc n) first a b long same =
    let gate : byte b first ≡ byte a first = same first (omega arith) (omega arith) in
    elim (cases_eq (byte a first) 165) [
      | inl opened ↦
          leading_open n first b (gate ∙ opened)
          ∙ ap (λ (r : List ℕ). r ∷ leading n (first + 1024) b) (part_same (first + 512) 512 b a long (λ k low high. same k (omega (arith, low)) (omega (arith, high))))
          ∙ ap (λ (rs : List (List ℕ)). part (first + 512) 512 a ∷ rs) (leading_as n (first + 1024) a b long (λ k low high. same k (omega (arith, low)) (omega (arith, high))))
          ∙ sym (leading_open n first a opened)
      | inr shut ↦ leading_shut (suc n) first b (λ opened. shut (sym gate ∙ opened)) ∙ sym (leading_shut (suc n) first a shut)
    ]

pub same_records : (first : ℕ) (a b : List ℕ) → length b ≡ length a → SameWithin first 32768 a b → records first b ≡ records first a
same_records first a b long same = leading_as 32 first a b long (λ k low high. same.within k low (omega (arith, high)))

-- the leading records are told by the journal's bytes
pub records_speak : (first : ℕ) (bodies : List (List ℕ)) → SpeaksOf first 32768 (λ image. records first image ≡ bodies)
records_speak first bodies = record { told_by = λ a b long same is. same_records first a b long same ∙ is }

-- what a journal knows stays so while its bytes do
pub knows_speaks : (journal : Journal) → SpeaksOf (first_of journal) 32768 (Knows journal)
knows_speaks journal = record {
  told_by = λ a b long same knows. record {
    count = ap length (same_records (first_of journal) a b long same) ∙ knows.count;
    closed = λ r low less opened. knows.closed r low less (sym (same.within (gate_of (first_of journal) r) (omega arith) (omega (arith, less))) ∙ opened);
  };
}

-- a journal of zeros holds no record
pub holds_none : (first : ℕ) (image : List ℕ) → ((k : ℕ) → first ≤ k → k < first + 32768 → byte image k ≡ 0) → Holds first 0 image
holds_none first image zeros = record {
  count = ap length (leading_shut 32 first image (λ opened. let none = zeros first (omega arith) (omega arith) in omega (arith, none, opened)));
  closed = λ r low less opened. let none = zeros (gate_of first r) (omega arith) (omega (arith, less)) in omega (arith, none, opened);
}

-- The leading records as the state of an image reads them.
pub leading_is : (n first : ℕ) (journal image : List ℕ) → 1024 * n ≤ length journal → first + 1024 * n ≤ length image
    → ((k : ℕ) → k < 1024 * n → byte journal k ≡ byte image (first + k)) → leading n first image ≡ leading_records n journal
leading_is zero first journal image fits room same = leading_zero first image
leading_is (suc n) first journal image fits room same =
    let gate : byte journal 0 ≡ byte image first = same 0 (omega arith) ∙ ap (byte image) (omega arith) in
    let body : part 512 512 journal ≡ part (first + 512) 512 image =
    ext_get_or 0 (part 512 512 journal) (part (first + 512) 512 image) (length-part 512 512 journal (omega (arith, fits)) ∙ sym (length-part (first + 512) 512 image (omega (arith, room))))
    (λ k low. let within : k < 512 = omega (arith, low, length-part 512 512 journal (omega (arith, fits))) in
    byte-part 512 512 k journal within ∙ same (512 + k) (omega (arith, within)) ∙ ap (byte image) (omega arith) ∙ sym (byte-part (first + 512) 512 k image within)) in
    let rest : leading n (first + 1024) image ≡ leading_records n (drop 1024 journal) =
    leading_is n (first + 1024) (drop 1024 journal) image (omega (arith, fits, length-drop 1024 journal)) (omega (arith, room))
    (λ k low. get_or-drop 1024 journal k 0 ∙ same (1024 + k) (omega (arith, low)) ∙ ap (byte image) (omega arith)) in
    elim (cases_eq (byte journal 0) 165) [
      | inl opened ↦
          let there : leading_records (suc n) journal ≡ part 512 512 journal ∷ leading_records n (drop 1024 journal) = grind (arith, nat_tests) in
          leading_open n first image (sym gate ∙ opened) ∙ ap (λ (r : List ℕ). r ∷ leading n (first + 1024) image) (sym body)
          ∙ ap (λ (rs : List (List ℕ)). part 512 512 journal ∷ rs) rest ∙ sym there
      | inr shut ↦
          let there : leading_records (suc n) journal ≡ [] = grind (arith, nat_tests) in
          leading_shut (suc n) first image (λ opened. shut (gate ∙ opened)) ∙ sym there
    ]

pub records_in_region : (first : ℕ) (journal image : List ℕ) → 32768 ≤ length journal → first + 32768 ≤ length image
    → ((k : ℕ) → k < 32768 → byte journal k ≡ byte image (first + k)) → records first image ≡ leading_records 32 journal
records_in_region first journal image fits room same = leading_is 32 first journal image (omega (arith, fits)) (omega (arith, room)) (λ k low. same k (omega (arith, low)))

-- Whether a journal has room, as the state of an image reads it.
no_open_record : (n : ℕ) (journal : List ℕ) → ((r : ℕ) → r < n → byte journal (1024 * r) ≡ 165 → ⊥) → has_open_record n journal ≡ false
no_open_record zero journal none = refl
no_open_record (suc n) journal none =
    let here : byte journal 0 ≡ 165 → ⊥ = none 0 (omega arith) in
    let rest : has_open_record n (drop 1024 journal) ≡ false = no_open_record n (drop 1024 journal)
    (λ r less opened. none (r + 1) (omega (arith, less)) (ap (byte journal) (omega arith) ∙ sym (get_or-drop 1024 journal (1024 * r) 0) ∙ opened)) in
    grind (arith, nat_tests)

some_open_record : (n r : ℕ) (journal : List ℕ) → r < n → byte journal (1024 * r) ≡ 165 → has_open_record n journal ≡ true
some_open_record zero r journal less opened = absurd (omega (arith, less))
some_open_record (suc n) zero journal less opened =
    let here : byte journal 0 ≡ 165 = ap (byte journal) (omega arith) ∙ opened in
    grind (arith, nat_tests)
some_open_record (suc n) (suc r) journal less opened = elim (cases_eq (byte journal 0) 165) [
  | inl here ↦ grind (arith, nat_tests)
  | inr shut ↦
      let rest : has_open_record n (drop 1024 journal) ≡ true = some_open_record n r (drop 1024 journal) (omega (arith, less)) (get_or-drop 1024 journal (1024 * r) 0 ∙ ap (byte journal) (omega arith) ∙ opened) in
      grind (arith, nat_tests)
]

-- so many records are open in front, and the next is closed
pub record IsOpenUpTo (h : ℕ) (journal : List ℕ) : Type 0 where
  pub front : (r : ℕ) → r < h → byte journal (1024 * r) ≡ 165
  pub next : byte journal (1024 * h) ≡ 165 → ⊥

behind_first : (h : ℕ) (journal : List ℕ) → IsOpenUpTo (suc h) journal → IsOpenUpTo h (drop 1024 journal)
behind_first h journal up = record {
  front = λ r less. get_or-drop 1024 journal (1024 * r) 0 ∙ ap (byte journal) (omega arith) ∙ up.front (r + 1) (omega (arith, less));
  next = λ opened. up.next (ap (byte journal) (omega arith) ∙ sym (get_or-drop 1024 journal (1024 * h) 0) ∙ opened);
}

-- it is the test of what stands behind the first closed gate
pub free_is : (n h : ℕ) (journal : List ℕ) → h < n → IsOpenUpTo h journal → has_free_record n journal ≡ not (has_open_record (n - (h + 1)) (drop (1024 * (h + 1)) journal))
free_is zero h journal less up = absurd (omega (arith, less))
free_is (suc n) zero journal less up =
    let here : byte journal 0 ≡ 165 → ⊥ = λ opened. up.next (ap (byte journal) (omega arith) ∙ opened) in
    let is : has_free_record (suc n) journal ≡ not (has_open_record n (drop 1024 journal)) = grind (arith, nat_tests) in
    let count : n ≡ suc n - (0 + 1) = omega arith in
    is ∙ ap (λ (m : ℕ). not (has_open_record m (drop 1024 journal))) count
free_is (suc n) (suc h) journal less up =
    let here : byte journal 0 ≡ 165 = ap (byte journal) (omega arith) ∙ up.front 0 (omega arith) in
    let is : has_free_record (suc n) journal ≡ has_free_record n (drop 1024 journal) = grind (arith, nat_tests) in
    let count : n - (h + 1) ≡ suc n - (suc h + 1) = omega arith in
    is ∙ free_is n h (drop 1024 journal) (omega (arith, less)) (behind_first h journal up)
    ∙ ap (λ (m : ℕ). not (has_open_record m (drop (1024 * (h + 1)) (drop 1024 journal)))) count
    ∙ ap (λ (rest : List ℕ). not (has_open_record (suc n - (suc h + 1)) rest)) (drop-drop (1024 * (h + 1)) 1024 journal ∙ ap (λ (k : ℕ). drop k journal) (omega arith))

pub none_free : (n : ℕ) (journal : List ℕ) → ((r : ℕ) → r < n → byte journal (1024 * r) ≡ 165) → has_free_record n journal ≡ false
none_free zero journal all = refl
none_free (suc n) journal all =
    let here : byte journal 0 ≡ 165 = ap (byte journal) (omega arith) ∙ all 0 (omega arith) in
    let rest : has_free_record n (drop 1024 journal) ≡ false = none_free n (drop 1024 journal)
    (λ r less. get_or-drop 1024 journal (1024 * r) 0 ∙ ap (byte journal) (omega arith) ∙ all (r + 1) (omega (arith, less))) in
    grind (arith, nat_tests)

-- the gates of leading records are open
leading_front : (n first : ℕ) (image : List ℕ) (r : ℕ) → r < length (leading n first image) → byte image (first + 1024 * r) ≡ 165
leading_front zero first image r less = absurd (omega (arith, less, ap length (leading_zero first image)))
leading_front (suc n) first image zero less = elim (cases_eq (byte image first) 165) [
  | inl opened ↦ ap (byte image) (omega arith) ∙ opened
  | inr shut ↦ absurd (omega (arith, less, ap length (leading_shut (suc n) first image shut)))
]
leading_front (suc n) first image (suc r) less = elim (cases_eq (byte image first) 165) [
  | inl opened ↦ ap (byte image) (omega arith) ∙ leading_front n (first + 1024) image r (omega (arith, less, ap length (leading_open n first image opened)))
  | inr shut ↦ absurd (omega (arith, less, ap length (leading_shut (suc n) first image shut)))
]

module _ (first held : ℕ) (journal image : List ℕ) (same : (k : ℕ) → k < 32768 → byte journal k ≡ byte image (first + k)) (count : length (records first image) ≡ held) where
  front_open : (r : ℕ) → r < held → r < 32 → byte journal (1024 * r) ≡ 165
  front_open r less few = same (1024 * r) (omega (arith, few)) ∙ leading_front 32 first image r (omega (arith, less, count))

  up_to : held < 32 → (IsOpen (gate_of first held) image → ⊥) → IsOpenUpTo held journal
  up_to few shut = record {
    front = λ r less. front_open r less (omega (arith, less, few));
    next = λ opened. shut (sym (same (1024 * held) (omega (arith, few))) ∙ opened);
  }

  -- one more record fits where none is open behind those that are held
  pub free_where_room : held < 32 → HasNoneOpen first held image → has_free_record 32 journal ≡ true
  free_where_room few closed =
      free_is 32 held journal few (up_to few (λ opened. closed held (omega arith) few opened))
      ∙ ap not (no_open_record (32 - (held + 1)) (drop (1024 * (held + 1)) journal)
      (λ r less opened. closed (held + 1 + r) (omega arith) (omega (arith, less, few))
      (ap (byte image) (omega arith) ∙ sym (same (1024 * (held + 1) + 1024 * r) (omega (arith, less, few))) ∙ sym (get_or-drop (1024 * (held + 1)) journal (1024 * r) 0) ∙ opened)))

  -- none fits behind 32, or where one is open behind a closed one
  pub full_where_none : held ≡ 32 → has_free_record 32 journal ≡ false
  full_where_none full = none_free 32 journal (λ r less. front_open r (omega (arith, less, full)) less)

  pub full_where_stray : (r : ℕ) → held < r → r < 32 → IsOpen (gate_of first r) image → (IsOpen (gate_of first held) image → ⊥) → has_free_record 32 journal ≡ false
  full_where_stray r low less opened shut =
      free_is 32 held journal (omega (arith, low, less)) (up_to (omega (arith, low, less)) shut)
      ∙ ap not (some_open_record (32 - (held + 1)) (r - (held + 1)) (drop (1024 * (held + 1)) journal) (omega (arith, low, less))
      (get_or-drop (1024 * (held + 1)) journal (1024 * (r - (held + 1))) 0 ∙ ap (byte journal) (omega (arith, low)) ∙ same (1024 * r) (omega (arith, less)) ∙ opened))
