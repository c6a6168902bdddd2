-- Which of two slots is the newest, in images that differ from one another in the older.
use Rattle.std.proofs.Common.{◌≡◌, inl, inr, ℕ, zero, suc, Some, option_map, ◌+◌, ◌-◌, ◌%◌, ◌<◌, ◌≤◌, List, length, sym, ◌∙◌, ap, arith}
use Rattle.std.proofs.lemmas.Bool.{cases_eq}
use Rattle.rig_core.specs.Bytes.{byte, part}
use Rattle.rig_core.proofs.Put.{part_same}
use Rattle.std.proofs.lemmas.Bool.Decides.{nat_tests}
use Rattle.apex_model.specs.Image.{closed, numbered, newest}
use Rattle.gate_slots.specs.Place.{IsOpen, IsNewest, Place, gate_of, content_size, slot_in, newest_slot, newest_content}

module _ (gate other size : ℕ) (old new : List ℕ) (room : 512 < size) (long : length new ≡ length old)
    (same : (k : ℕ) → gate ≤ k → k < gate + size → byte new k ≡ byte old k) (newest : IsNewest gate other old) where
  same_gate : byte new gate ≡ byte old gate
  same_gate = same gate (omega arith) (omega (arith, room))

  same_number : byte new (gate + 512) ≡ byte old (gate + 512)
  same_number = same (gate + 512) (omega arith) (omega (arith, room))

  -- while the other gate is closed
  pub newest_beside_closed : (IsOpen other new → ⊥) → IsNewest gate other new
  newest_beside_closed shut = record {
    opened = same_gate ∙ newest.opened;
    number = omega (arith, same_number, newest.number);
    other_number = λ opened. absurd (shut opened);
    follows = λ opened. absurd (shut opened);
  }

  -- while the other slot has its number, and is open only where it was
  pub newest_beside_older : byte new (other + 512) ≡ byte old (other + 512) → IsOpen other old → IsNewest gate other new
  newest_beside_older number was = record {
    opened = same_gate ∙ newest.opened;
    number = omega (arith, same_number, newest.number);
    other_number = λ opened. omega (arith, number, newest.other_number was);
    follows = λ opened. same_number ∙ newest.follows was ∙ ap (λ (n : ℕ). (n + 1) % 3) (sym number);
  }

  pub content_stays : (n : ℕ) → 512 + n ≤ size → part (gate + 512) n new ≡ part (gate + 512) n old
  content_stays n fits = part_same (gate + 512) n new old long (λ k low high. same k (omega arith) (omega (arith, high, fits)))

  -- once the other slot is open with the next number
  pub newer_beside : IsOpen other new → byte new (other + 512) ≡ (byte old (gate + 512) + 1) % 3 → IsNewest other gate new
  newer_beside opened next = record {
    opened = opened;
    number = omega (arith, next);
    other_number = λ was. omega (arith, same_number, newest.number);
    follows = λ was. next ∙ ap (λ (n : ℕ). (n + 1) % 3) (sym same_number);
  }

-- The newest by numbers is the newest by gates.
slot_open : (gate : ℕ) (image : List ℕ) → IsOpen gate image → slot_in gate image ≡ numbered (byte image (gate + 512))
slot_open gate image opened = grind (arith, nat_tests)

slot_shut : (gate : ℕ) (image : List ℕ) → (IsOpen gate image → ⊥) → slot_in gate image ≡ closed
slot_shut gate image shut = grind (arith, nat_tests)

module _ (first second : ℕ) (image : List ℕ) where
  pub first_newest : IsNewest first second image → newest (slot_in first image) (slot_in second image) ≡ Some 0
  first_newest n = elim (cases_eq (byte image second) 165) [
    | inl opened ↦
        let small = n.number in let other = n.other_number opened in let next = n.follows opened in
        let is : newest (numbered (byte image (first + 512))) (numbered (byte image (second + 512))) ≡ Some 0 = grind (arith, nat_tests) in
        ap (λ f. newest f (slot_in second image)) (slot_open first image n.opened) ∙ ap (newest (numbered (byte image (first + 512)))) (slot_open second image opened) ∙ is
    | inr shut ↦
        let small = n.number in
        let is : newest (numbered (byte image (first + 512))) closed ≡ Some 0 = grind (arith, nat_tests) in
        ap (λ f. newest f (slot_in second image)) (slot_open first image n.opened) ∙ ap (newest (numbered (byte image (first + 512)))) (slot_shut second image shut) ∙ is
  ]

  pub second_newest : IsNewest second first image → newest (slot_in first image) (slot_in second image) ≡ Some 1
  second_newest n = elim (cases_eq (byte image first) 165) [
    | inl opened ↦
        let small = n.number in let other = n.other_number opened in let next = n.follows opened in
        let is : newest (numbered (byte image (first + 512))) (numbered (byte image (second + 512))) ≡ Some 1 = grind (arith, nat_tests) in
        ap (λ f. newest f (slot_in second image)) (slot_open first image opened) ∙ ap (newest (numbered (byte image (first + 512)))) (slot_open second image n.opened) ∙ is
    | inr shut ↦
        let small = n.number in
        let is : newest closed (numbered (byte image (second + 512))) ≡ Some 1 = grind (arith, nat_tests) in
        ap (λ f. newest f (slot_in second image)) (slot_shut first image shut) ∙ ap (newest closed) (slot_open second image n.opened) ∙ is
  ]

pub newest_when : (p : Place) (slot : ℕ) (image : List ℕ) → slot ≤ 1 → IsNewest (gate_of p slot) (gate_of p (1 - slot)) image → newest_slot p image ≡ Some slot
newest_when p zero image is n = first_newest (gate_of p 0) (gate_of p 1) image n
newest_when p (suc zero) image is n = second_newest (gate_of p 0) (gate_of p 1) image n
newest_when p (suc (suc k)) image is n = absurd (omega arith)

-- so its content counts
pub content_when : (p : Place) (slot : ℕ) (image : List ℕ) → slot ≤ 1 → IsNewest (gate_of p slot) (gate_of p (1 - slot)) image
    → newest_content p image ≡ Some (part (gate_of p slot + 512) (content_size p) image)
unfolding newest_content
content_when p slot image is n = ap (option_map (λ (s : ℕ). part (gate_of p s + 512) (content_size p) image)) (newest_when p slot image is n)
