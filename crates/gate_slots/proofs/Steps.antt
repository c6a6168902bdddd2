-- A commit as three steps: the older gate is closed, its slot is filled, its gate is opened.
use Rattle.std.proofs.Common.{◌≡◌, ◌⊎◌, inl, inr, ⊎_elim, ℕ, ◌+◌, ◌-◌, ◌*◌, ◌%◌, ◌<◌, ◌≤◌, Bool, true, false, IsTrue, List, [], ◌∷◌, ◌++◌, Some, refl, length, set, length-append, length-set, sym, ◌∙◌, ap, subst, arith}
use Rattle.std.proofs.lemmas.List.{get_or_append_left, get_or-set_same}
use Rattle.rig_core.specs.Bytes.{byte, part, put, SameElsewhere}
use Rattle.rig_core.specs.Outside.{Outside, Sound}
use Rattle.rig_core.specs.Leaves.{Leaves, FromNow, LeavesElsewhere, IsSettled, IsAllSettled}
use Rattle.rig_core.proofs.Put.{put_within, put_elsewhere}
use Rattle.rig_core.proofs.Moments.{leaves_weaker, elsewhere_then, elsewhere_wider}
use Rattle.gate_slots.specs.declared.slots.Slots.{Slots}
use Rattle.gate_slots.specs.Slots.{IsOpen, IsNewest, Knows, Place, gate_of, slot_size, slots_size, content_size, place_of, newest_content}
use Rattle.gate_slots.proofs.Newest.{content_when}
use Rattle.gate_slots.proofs.Phases.{gates_apart, gate_from, gate_to, gate_back, closing_at, closing_long, IsShut, IsFilled, while_closing, closed_view, while_filling, filled_view, while_opening, new_when_open}

-- what a commit begins with
pub record Begins (V K : Type 0) (slots : Slots) (new : List ℕ) (o : Outside) : Type 0 where
  pub shown : V
  pub sound : Sound V K o
  pub room : 0 < slots.body_blocks
  pub fits : slots.start + slots_size (place_of slots) ≤ o.size
  pub settled : IsSettled slots.start (slots_size (place_of slots)) o
  pub knows : Knows slots o.view
  pub long : length new ≡ content_size (place_of slots)
  pub number : byte new 0 ≡ (slots.sequence + 1) % 3

abbrev pub older_of : Slots → ℕ
older_of slots = gate_of (place_of slots) (1 - slots.newest)

abbrev pub newest_of : Slots → ℕ
newest_of slots = gate_of (place_of slots) slots.newest

abbrev pub Shut : Slots → List ℕ → List ℕ → Type 0
Shut slots view image = IsShut (older_of slots) (newest_of slots) (slot_size (place_of slots)) view image

abbrev pub Filled : Slots → List ℕ → List ℕ → List ℕ → Type 0
Filled slots view new image = IsFilled (older_of slots) (newest_of slots) (slot_size (place_of slots)) view new image

-- the old content or the new one
abbrev pub OldOrNew : Slots → List ℕ → List ℕ → List ℕ → Type 0
OldOrNew slots content new image = (newest_content (place_of slots) image ≡ Some content) ⊎ (newest_content (place_of slots) image ≡ Some new)

-- the old content, or the new one with all around the slots as in the view
abbrev pub Switched : Slots → List ℕ → List ℕ → List ℕ → List ℕ → Type 0
Switched slots content new view image = (newest_content (place_of slots) image ≡ Some content)
    ⊎ ((newest_content (place_of slots) image ≡ Some new) × SameElsewhere (place_of slots).start (slots_size (place_of slots)) view image)

pub switched_is_either : (slots : Slots) (content new view image : List ℕ) → Switched slots content new view image → OldOrNew slots content new image
switched_is_either slots content new view image has = ⊎_elim (λ old. inl old) (λ switched. inr switched.0) has

-- from what `commit` requires
pub begin : (V K : Type 0) (slots : Slots) (body tail : List ℕ) (next : ℕ) (o : Outside) → V → Sound V K o → length body ≡ 512 * slots.body_blocks → 0 < slots.body_blocks → length tail ≡ 512 * slots.tail_blocks
    → slots.start + slots_size (place_of slots) ≤ o.size → IsSettled slots.start (slots_size (place_of slots)) o → Knows slots o.view → next ≡ (slots.sequence + 1) % 3
    → Begins V K slots (set body 0 next ++ tail) o
begin V K slots body tail next o shown sound body_long some tail_long fits settled knows is_next =
    let stays : length (set body 0 next) ≡ length body = length-set body 0 next in
    let some_byte : 0 < length body = omega (arith, body_long, some) in
    record {
      shown = shown;
      sound = sound;
      room = some;
      fits = fits;
      settled = settled;
      knows = knows;
      long = omega (arith, length-append (set body 0 next) tail, stays, body_long, tail_long);
      number = get_or_append_left (set body 0 next) tail 0 0 (omega (arith, stays, some_byte)) ∙ get_or-set_same body 0 next 0 some_byte ∙ is_next;
    }

-- The range of the first write is in the older slot.

pub closing_from : (opened : Bool) (gate : ℕ) → gate ≤ closing_at opened gate
closing_from true gate = omega arith
closing_from false gate = omega arith

pub closing_to : (opened : Bool) (gate : ℕ) → closing_at opened gate + closing_long opened ≤ gate + 1024
closing_to true gate = omega arith
closing_to false gate = omega arith

module _ (V K : Type 0) (slots : Slots) (new : List ℕ) (o : Outside) (begins : Begins V K slots new o) where
  abbrev p : Place
  p = place_of slots

  fills : slots.start + slots_size p ≤ length o.view
  fills = omega (arith, begins.fits, begins.sound.view_fills begins.shown)

  older_in : slots.start ≤ older_of slots
  older_in = gate_from p (1 - slots.newest) (omega arith)

  newest_in : slots.start ≤ newest_of slots
  newest_in = gate_from p slots.newest slots.is_slot

  older_to : older_of slots + slot_size p ≤ slots.start + slots_size p
  older_to = gate_to p (1 - slots.newest) (omega arith)

  newest_to : newest_of slots + slot_size p ≤ slots.start + slots_size p
  newest_to = gate_to p slots.newest slots.is_slot

  enough : 512 ≤ content_size p
  enough = omega (arith, begins.room)

  older_fits : older_of slots + slot_size p ≤ length o.view
  older_fits = omega (arith, older_to, fills)

  number_is : byte new 0 ≡ (byte o.view (newest_of slots + 512) + 1) % 3
  number_is = begins.number ∙ ap (λ (n : ℕ). (n + 1) % 3) begins.knows.sequence

  is_old : (content : List ℕ) → newest_content p o.view ≡ Some content → (image : List ℕ)
      → IsNewest (newest_of slots) (older_of slots) image × (part (newest_of slots + 512) (content_size p) image ≡ part (newest_of slots + 512) (content_size p) o.view)
      → newest_content p image ≡ Some content
  is_old content stands image has =
      content_when p slots.newest image slots.is_slot has.0 ∙ ap (λ (l : List ℕ). Some l) has.1 ∙ sym (content_when p slots.newest o.view slots.is_slot begins.knows.newest) ∙ stands

  is_new : (image : List ℕ) → IsNewest (older_of slots) (newest_of slots) image × (part (older_of slots + 512) (content_size p) image ≡ new) → newest_content p image ≡ Some new
  is_new image has =
      content_when p (1 - slots.newest) image (omega arith) (subst (λ other. IsNewest (older_of slots) other image) (sym (gate_back p slots.newest slots.is_slot)) has.0) ∙ ap (λ (l : List ℕ). Some l) has.1

  -- the older gate is closed, or the older body's first block is written
  pub closing : (content : List ℕ) (m : Outside) → newest_content p o.view ≡ Some content → LeavesElsewhere (closing_at slots.older_open (older_of slots)) (closing_long slots.older_open) o m
      → Leaves (Switched slots content new o.view) o m
  closing content m stands run = leaves_weaker (FromNow (closing_at slots.older_open (older_of slots)) (closing_long slots.older_open) o) (Switched slots content new o.view) o m
      (λ image from. let settled = begins.settled from.0 from.1 from.2 in
      let long : length from.0 ≡ length o.view = begins.sound.image_fills o.clock from.0 from.1 from.2 ∙ sym (begins.sound.view_fills begins.shown) in
      inl (is_old content stands image (while_closing (older_of slots) (newest_of slots) (content_size p) o.view new (gates_apart p slots.newest slots.is_slot) enough older_fits begins.knows.newest begins.long number_is
      slots.older_open from.0 image begins.knows.open_is begins.knows.open_only long
      (λ k low high. settled.within k (omega (arith, low, newest_in)) (omega (arith, high, newest_to)))
      (λ k low high. settled.within k (omega (arith, low, older_in)) (omega (arith, high, older_to)))
      from.3))) run

  pub shut_view : (view : List ℕ) → SameElsewhere (closing_at slots.older_open (older_of slots)) (closing_long slots.older_open) o.view view → (IsTrue slots.older_open → byte view (older_of slots) ≡ 0) → Shut slots o.view view
  shut_view view same zero_byte = closed_view (older_of slots) (newest_of slots) (content_size p) o.view new (gates_apart p slots.newest slots.is_slot) enough older_fits begins.knows.newest begins.long number_is
      slots.older_open view begins.knows.open_only same zero_byte

  -- the older slot is filled
  pub filling : (content : List ℕ) (m e : Outside) → newest_content p o.view ≡ Some content → Shut slots o.view m.view → IsAllSettled m → LeavesElsewhere (older_of slots + 512) (content_size p) m e → Leaves (Switched slots content new o.view) m e
  filling content m e stands shut settled run = leaves_weaker (FromNow (older_of slots + 512) (content_size p) m) (Switched slots content new o.view) m e
      (λ image from. let is_view : from.0 ≡ m.view = settled from.0 from.1 from.2 in
      inl (is_old content stands image (while_filling (older_of slots) (newest_of slots) (content_size p) o.view new (gates_apart p slots.newest slots.is_slot) enough older_fits begins.knows.newest begins.long number_is
      m.view image shut (subst (λ f. SameElsewhere (older_of slots + 512) (content_size p) f image) is_view from.3)))) run

  pub fill_view : (before view : List ℕ) → Shut slots o.view before → view ≡ put (older_of slots + 512) new before → Filled slots o.view new view
  fill_view before view shut is = filled_view (older_of slots) (newest_of slots) (content_size p) o.view new (gates_apart p slots.newest slots.is_slot) enough older_fits begins.knows.newest begins.long number_is before view shut is

  -- the first two steps write nothing around the slots
  pub around : (before view : List ℕ) → SameElsewhere (closing_at slots.older_open (older_of slots)) (closing_long slots.older_open) o.view before
      → SameElsewhere (older_of slots + 512) (content_size p) before view → SameElsewhere slots.start (slots_size p) o.view view
  around before view closed filled = elsewhere_then slots.start (slots_size p) o.view before view
      (elsewhere_wider (closing_at slots.older_open (older_of slots)) (closing_long slots.older_open) slots.start (slots_size p) o.view before
      (omega (arith, older_in, closing_from slots.older_open (older_of slots))) (omega (arith, older_to, enough, closing_to slots.older_open (older_of slots))) closed)
      (elsewhere_wider (older_of slots + 512) (content_size p) slots.start (slots_size p) before view (omega (arith, older_in)) (omega (arith, older_to)) filled)

  -- the older gate is opened
  pub opening : (content : List ℕ) (m e : Outside) → newest_content p o.view ≡ Some content → Filled slots o.view new m.view → SameElsewhere slots.start (slots_size p) o.view m.view
      → IsAllSettled m → LeavesElsewhere (older_of slots) 1 m e → Leaves (Switched slots content new o.view) m e
  opening content m e stands filled beside settled run = leaves_weaker (FromNow (older_of slots) 1 m) (Switched slots content new o.view) m e
      (λ image from. let is_view : from.0 ≡ m.view = settled from.0 from.1 from.2 in
      let same : SameElsewhere (older_of slots) 1 m.view image = subst (λ f. SameElsewhere (older_of slots) 1 f image) is_view from.3 in
      let wide : SameElsewhere slots.start (slots_size p) m.view image = elsewhere_wider (older_of slots) 1 slots.start (slots_size p) m.view image older_in (omega (arith, older_to)) same in
      ⊎_elim (λ has. inl (is_old content stands image has)) (λ has. inr (is_new image has, elsewhere_then slots.start (slots_size p) o.view m.view image beside wide))
      (while_opening (older_of slots) (newest_of slots) (content_size p) o.view new (gates_apart p slots.newest slots.is_slot) enough older_fits begins.knows.newest begins.long number_is
      m.view image filled same)) run

  -- and so does the view, where a step failed
  pub closing_shows : (content view : List ℕ) → newest_content p o.view ≡ Some content → SameElsewhere (closing_at slots.older_open (older_of slots)) (closing_long slots.older_open) o.view view → OldOrNew slots content new view
  closing_shows content view stands same =
      inl (is_old content stands view (while_closing (older_of slots) (newest_of slots) (content_size p) o.view new (gates_apart p slots.newest slots.is_slot) enough older_fits begins.knows.newest begins.long number_is
      slots.older_open o.view view begins.knows.open_is begins.knows.open_only refl (λ k low high. refl) (λ k low high. refl) same))

  pub filling_shows : (content before view : List ℕ) → newest_content p o.view ≡ Some content → Shut slots o.view before → SameElsewhere (older_of slots + 512) (content_size p) before view → OldOrNew slots content new view
  filling_shows content before view stands shut same =
      inl (is_old content stands view (while_filling (older_of slots) (newest_of slots) (content_size p) o.view new (gates_apart p slots.newest slots.is_slot) enough older_fits begins.knows.newest begins.long number_is before view shut same))

  pub opening_shows : (content before view : List ℕ) → newest_content p o.view ≡ Some content → Filled slots o.view new before → SameElsewhere (older_of slots) 1 before view → OldOrNew slots content new view
  opening_shows content before view stands filled same =
      ⊎_elim (λ has. inl (is_old content stands view has)) (λ has. inr (is_new view has))
      (while_opening (older_of slots) (newest_of slots) (content_size p) o.view new (gates_apart p slots.newest slots.is_slot) enough older_fits begins.knows.newest begins.long number_is before view filled same)

  pub opened_view : (before view : List ℕ) → Filled slots o.view new before → view ≡ put (older_of slots) (165 ∷ []) before
      → IsNewest (older_of slots) (newest_of slots) view × (part (older_of slots + 512) (content_size p) view ≡ new)
  opened_view before view filled is =
      let first : older_of slots - older_of slots ≡ 0 = omega arith in
      let fits : older_of slots + length {A = ℕ} (165 ∷ []) ≤ length before = omega (arith, older_fits, filled.shut.long) in
      new_when_open (older_of slots) (newest_of slots) (content_size p) o.view new (gates_apart p slots.newest slots.is_slot) enough older_fits begins.knows.newest begins.long number_is
      before view filled (subst (SameElsewhere (older_of slots) 1 before) (sym is) (put_elsewhere (older_of slots) (165 ∷ []) before fits))
      (ap (λ (i : List ℕ). byte i (older_of slots)) is ∙ put_within (older_of slots) (165 ∷ []) before fits (older_of slots) (omega arith) (omega arith) ∙ ap (byte (165 ∷ [])) first)

  pub committed : (view : List ℕ) → IsNewest (older_of slots) (newest_of slots) view × (part (older_of slots + 512) (content_size p) view ≡ new) → newest_content p view ≡ Some new
  committed view has = is_new view has

  pub number_after : (before view : List ℕ) → Filled slots o.view new before → view ≡ put (older_of slots) (165 ∷ []) before → byte view (older_of slots + 512) ≡ (slots.sequence + 1) % 3
  number_after before view filled is =
      let fits : older_of slots + length {A = ℕ} (165 ∷ []) ≤ length before = omega (arith, older_fits, filled.shut.long) in
      ap (λ (i : List ℕ). byte i (older_of slots + 512)) is ∙ (put_elsewhere (older_of slots) (165 ∷ []) before fits).above (older_of slots + 512) (omega arith) ∙ filled.number ∙ begins.number

  pub other_open : (before view : List ℕ) → Filled slots o.view new before → view ≡ put (older_of slots) (165 ∷ []) before → IsOpen (newest_of slots) view
  other_open before view filled is =
      let fits : older_of slots + length {A = ℕ} (165 ∷ []) ≤ length before = omega (arith, older_fits, filled.shut.long) in
      let same = put_elsewhere (older_of slots) (165 ∷ []) before fits in
      let still : byte (put (older_of slots) (165 ∷ []) before) (newest_of slots) ≡ byte before (newest_of slots) =
      ⊎_elim (λ h. same.above (newest_of slots) (omega (arith, h))) (λ h. same.below (newest_of slots) (omega (arith, h))) (gates_apart p slots.newest slots.is_slot) in
      ap (λ (i : List ℕ). byte i (newest_of slots)) is ∙ still ∙ filled.shut.same (newest_of slots) (omega arith) (omega arith) ∙ begins.knows.newest.opened
