-- What a cut leaves of each region in each phase of a move.
use Rattle.std.proofs.Common.{◌≡◌, ◌⊎◌, inl, inr, ⊎_elim, ℕ, ◌+◌, ◌*◌, ◌%◌, ◌<◌, ◌≤◌, Bool, true, false, List, [], ◌∷◌, length, Option, Some, None, refl, sym, ◌∙◌, ap, arith, if◌then◌else◌}
use Rattle.std.specs.Prelude.{◌==◌}
use Rattle.std.proofs.lemmas.Bool.{cases_eq, cases_lt}
use Rattle.std.proofs.lemmas.Bool.Decides.{nat_tests}
use Rattle.apex_model.specs.Fields.{log_entry_of}
use Rattle.apex_model.specs.Image.{message_in_place}
use Rattle.apex_model.specs.Layout.{logbook_blocks}
use Rattle.apex_model.specs.Logbooks.{Logbook, Message, moved}
use Rattle.rig_core.specs.Bytes.{byte, part, SameWithin}
use Rattle.rig_core.proofs.Put.{part_same}
use Rattle.logbook_store.specs.Regions.{PlaceEntry, region_at}
use Rattle.logbook_store.specs.Books.{row_of, start_of, IsStored, Stands}
use Rattle.logbook_store.specs.Moves.{IsMoving, OpenGate, NextBody, NextGate, IsWritten, next_gate_of}
use Rattle.logbook_store.specs.declared.book.Book.{Book}
use Rattle.logbook_store.proofs.Beside.{stored_same}
use Rattle.logbook_store.proofs.Cleared.{same_place}
use Rattle.logbook_store.proofs.Found.{place_shut, place_open, place_low, own_entry}
use Rattle.logbook_store.proofs.Gates.{gate_within}
use Rattle.logbook_store.proofs.Moved.{not_moved, is_moved}

not_equal : (m n : ℕ) → (m ≡ n → ⊥) → (m == n) ≡ false
not_equal m n differ = grind (arith, nat_tests)

equal : (m n : ℕ) → m ≡ n → (m == n) ≡ true
equal m n same = grind (arith, nat_tests)

own_same : (count place : ℕ) (o : Option (ℕ × List ℕ)) (entry : ℕ × List ℕ) → o ≡ Some entry → entry.0 % count ≡ place → own_entry count place o ≡ Some (Some entry)
own_same count place o entry is same =
    ap (own_entry count place) is ∙ ap (λ (t : Bool). let r : Option PlaceEntry = (if t then Some (Some entry) else None) in r) (equal (entry.0 % count) place same)

pub first_of : (messages : List Message) → 0 < length messages → (message : Message) × (rest : List Message) × (messages ≡ message ∷ rest)
first_of [] some = absurd (omega (arith, some))
first_of (message ∷ rest) some = (message, rest, refl)

-- One logbook that moves, and an image that differs from the view in its next place alone.
module _ (book : Book) (b : Logbook) (v image : List ℕ) (long : length image ≡ length v) (stands : Stands book v b)
    (same : (k : ℕ) → start_of book ≤ k → k < start_of book + 512 * logbook_blocks (row_of book) → (next_gate_of book ≤ k → k < next_gate_of book + 1024 → ⊥) → byte image k ≡ byte v k) where
  abbrev place : ℕ
  place = (b.life + 1) % (book.row.logged + 1)

  gate_is : book.start + 2048 + 1024 * place ≡ next_gate_of book
  gate_is = ap (λ (n : ℕ). book.start + 2048 + 1024 * ((n + 1) % (book.row.logged + 1))) (sym stands.life)

  place_fits : place < book.row.logged + 1
  place_fits = place_low (b.life + 1) book.row.logged

  headers : SameWithin book.start 2048 v image
  headers = record { within = λ k low high. same k low (omega (arith, high)) (λ from to. omega (arith, from, high, gate_is)) }

  others : (q : ℕ) → q ≤ book.row.logged → (q ≡ place → ⊥) → message_in_place book.row (region_at book.row book.start image) q ≡ message_in_place book.row (region_at book.row book.start v) q
  others q low differ = same_place book.row book.start v image long q low (record {
    within = λ k from to.
        same k (omega (arith, from)) (omega (arith, to, low)) (λ past before. ⊎_elim
        (λ less. omega (arith, less, to, past, gate_is))
        (λ more. omega (arith, more, differ, from, before, gate_is))
        (cases_lt q place));
  })

  -- behind a closed gate
  pub closed_stays : (byte image (next_gate_of book) ≡ 165 → ⊥) → IsStored book.row book.start b image
  closed_stays shut = not_moved book.row book.start v image b book.some long stands.region headers others
      (place_shut book.row book.start image place (next_gate_of book) (omega (arith, place_fits)) gate_is (not_equal (byte image (next_gate_of book)) 165 shut))

  -- behind an open one over the next message
  pub opened_moves : byte image (next_gate_of book) ≡ 165 → (message : Message) (rest : List Message) → b.in_progress ≡ message ∷ rest
      → log_entry_of book.row.message_size (part (next_gate_of book + 512) 512 image) ≡ Some (b.life + 1, message) → IsStored book.row book.start (moved book.row.logged b) image
  opened_moves opened message rest oldest spelled = is_moved book.row book.start v image b book.some long stands.region headers others message rest oldest
      (place_open book.row book.start image place (next_gate_of book) (omega (arith, place_fits)) gate_is (equal (byte image (next_gate_of book)) 165 opened)
      ∙ own_same (book.row.logged + 1) place (log_entry_of book.row.message_size (part (next_gate_of book + 512) 512 image)) (b.life + 1, message) spelled refl)

-- The three phases of one logbook, each from a view in which it is as before.
module _ (book : Book) (b : Logbook) (v image : List ℕ) (long : length image ≡ length v) (stands : Stands book v b) where
  abbrev Differs : (ℕ → Type 0) → Type 0
  Differs At = (k : ℕ) → start_of book ≤ k → k < start_of book + 512 * logbook_blocks (row_of book) → (At k → ⊥) → byte image k ≡ byte v k

  gate_in : next_gate_of book + 1024 ≤ start_of book + 512 * logbook_blocks (row_of book)
  gate_in = gate_within book

  gate_from : start_of book ≤ next_gate_of book
  gate_from = omega arith

  -- nothing differs
  pub unchanged : Differs (λ k. ⊥) → IsStored book.row book.start b image
  unchanged same = stored_same book.row book.start b v image long (record { within = λ k low high. same k low high (λ no. no) }) stands.region

  pub while_closing : Differs (OpenGate v book) → IsStored book.row book.start b image
  while_closing same = ⊎_elim
      (λ opened. ⊎_elim
      (λ was. stored_same book.row book.start b v image long (record {
        within = λ k low high. ⊎_elim
            (λ here. ap (byte image) here ∙ opened ∙ sym was ∙ ap (byte v) (sym here))
            (λ other. same k low high (λ inside. other inside.1))
            (cases_eq k (next_gate_of book));
      }) stands.region)
      (λ shut. let still : byte image (next_gate_of book) ≡ byte v (next_gate_of book) = same (next_gate_of book) gate_from (omega (arith, gate_in)) (λ inside. shut (ap (byte v) (sym inside.1 ∙ inside.1) ∙ inside.2)) in absurd (shut (sym still ∙ opened)))
      (cases_eq (byte v (next_gate_of book)) 165))
      (λ shut. closed_stays book b v image long stands (λ k low high out. same k low high (λ inside. out (omega (arith, inside.1)) (omega (arith, inside.1)))) shut)
      (cases_eq (byte image (next_gate_of book)) 165)

  pub while_writing : (byte v (next_gate_of book) ≡ 165 → ⊥) → Differs (NextBody book) → IsStored book.row book.start b image
  while_writing shut same =
      let still : byte image (next_gate_of book) ≡ byte v (next_gate_of book) = same (next_gate_of book) gate_from (omega (arith, gate_in)) (λ inside. omega (arith, inside.1)) in
      closed_stays book b v image long stands (λ k low high out. same k low high (λ inside. out (omega (arith, inside.1)) inside.2)) (λ opened. shut (sym still ∙ opened))

  pub while_opening : IsMoving book → IsWritten v book → Differs (NextGate book) → (IsStored book.row book.start b image) ⊎ (byte image (next_gate_of book) ≡ 165 × IsStored book.row book.start (moved book.row.logged b) image)
  while_opening moving written same =
      let near : (k : ℕ) → start_of book ≤ k → k < start_of book + 512 * logbook_blocks (row_of book) → (next_gate_of book ≤ k → k < next_gate_of book + 1024 → ⊥) → byte image k ≡ byte v k =
      λ k low high out. same k low high (λ inside. out (omega (arith, inside.1)) (omega (arith, inside.1))) in
      ⊎_elim
      (λ opened.
      let first = first_of book.in_progress moving in
      let body : part (next_gate_of book + 512) 512 image ≡ part (next_gate_of book + 512) 512 v =
      part_same (next_gate_of book + 512) 512 image v long (λ k low high. same k (omega (arith, low, gate_from)) (omega (arith, high, gate_in)) (λ inside. omega (arith, inside.1, low))) in
      let spelled : log_entry_of book.row.message_size (part (next_gate_of book + 512) 512 image) ≡ Some (b.life + 1, first.0) =
      ap (log_entry_of book.row.message_size) body ∙ written first.0 first.1 first.2 ∙ ap (λ (n : ℕ). let e : Option (ℕ × List ℕ) = Some (n + 1, first.0) in e) stands.life in
      inr (opened, opened_moves book b v image long stands near opened first.0 first.1 (sym stands.in_progress ∙ first.2) spelled))
      (λ shut. inl (closed_stays book b v image long stands near shut))
      (cases_eq (byte image (next_gate_of book)) 165)
