-- Whether one more record has room, by what a journal found.
use Rattle.std.proofs.Common.{◌≡◌, ℕ, zero, suc, ◌+◌, ◌*◌, ◌<◌, ◌≤◌, ◌⊎◌, inl, inr, true, false, ◌&&◌, ◌==◌, List, [], ◌∷◌, length, refl, sym, ap, subst, ◌∙◌, Option, Some, None, slice_get, nat_lt, arith}
use Rattle.std.proofs.lemmas.Bool.{cases_eq}
use Rattle.std.proofs.lemmas.Bool.Decides.{nat_tests}
use Rattle.apex_types.specs.declared.rows.TreeRow.{TreeRow}
use Rattle.apex_model.specs.Image.{blocks_at, has_free_record, has_room_in_slot, has_journal_room}
use Rattle.apex_model.specs.Layout.{body_blocks, slot_blocks, tree_blocks}
use Rattle.rig_core.specs.Bytes.{byte, part}
use Rattle.rig_core.proofs.Put.{byte-part}
use Rattle.gate_slots.specs.Place.{newest_slot}
use Rattle.gate_slots.specs.Place as slots
use Rattle.meta_journal.specs.declared.Journal.{Journal}
use Rattle.meta_journal.specs.Journal.{first_of, held_of, room_of, FindsRoom}
use Rattle.meta_journal.specs.Leading.{records, gate_of, IsOpen, HasOpen, HasNoneOpen}
use Rattle.meta_journal.proofs.Records.{leading_next}
use Rattle.meta_journal.proofs.Regions.{free_where_room, full_where_none, full_where_stray}
use Rattle.tree_region.specs.Region.{region_at, slots_at, journal_of}
use Rattle.tree_region.proofs.Places.{newest-there, slot-low, journal-there, version-byte}

past-end : {A : Type 0} (xs : List A) (k : ℕ) → length xs ≤ k → slice_get xs k ≡ None
past-end [] zero le = refl
past-end [] (suc k) le = refl
past-end (x ∷ xs) zero le = absurd (omega (arith, le))
past-end (x ∷ xs) (suc k) le = past-end xs k (omega (arith, le))

some-left : (n : ℕ) → 0 < n → nat_lt 0 n ≡ true
some-left n h = grind (arith, nat_tests)

none-left : (n : ℕ) → n ≡ 0 → nat_lt 0 n ≡ false
none-left n h = grind (arith, nat_tests)

module _ (first held room : ℕ) (journal image : List ℕ) (same : (k : ℕ) → k < 32768 → byte journal k ≡ byte image (first + k)) (count : length (records first image) ≡ held) where
  -- the gate behind the records is closed
  shut : held < 32 → IsOpen (gate_of first held) image → ⊥
  shut less opened =
      let next = leading_next 32 first held image (omega (arith, count)) less opened in
      let none = past-end (records first image) held (omega (arith, count)) in
      let wrong : ◌≡◌ {A = Option (List ℕ)} None (Some (part (first + 1024 * held + 512) 512 image)) = sym none ∙ next in
      cc

  closed : held < 32 → HasNoneOpen first (held + 1) image → HasNoneOpen first held image
  closed few none r low less opened = elim (cases_eq r held) [
    | inl e ↦ shut few (subst (λ k. IsOpen (gate_of first k) image) e opened)
    | inr other ↦ none r (omega (arith, low, other)) less opened
  ]

  free-is : ((HasOpen first (held + 1) image × (room ≡ 0)) ⊎ (HasNoneOpen first (held + 1) image × (held + room ≡ 32))) → has_free_record 32 journal ≡ nat_lt 0 room
  free-is (inl stray) =
      full_where_stray first held journal image same count stray.0.0 (omega (arith, stray.0.1)) stray.0.2 stray.0.3 (shut (omega (arith, stray.0.1, stray.0.2)))
      ∙ sym (none-left room stray.1)
  free-is (inr none) = elim (cases_eq held 32) [
    | inl full ↦ full_where_none first held journal image same count full ∙ sym (none-left room (omega (arith, none.1, full)))
    | inr other ↦
        let few : held < 32 = omega (arith, none.1, other) in
        free_where_room first held journal image same count few (closed few none.0) ∙ sym (some-left room (omega (arith, none.1, few)))
  ]

module _ (row : TreeRow) (at : ℕ) (image : List ℕ) (fits : at + 512 * tree_blocks row ≤ length image) (slot : ℕ) (newest : newest_slot (slots_at row at) image ≡ Some slot) where
  -- as the definition says it
  pub room-there : (j : Journal) → first_of j ≡ journal_of row at slot → held_of j ≡ length (records (journal_of row at slot) image) → FindsRoom j image → (version : ℕ)
      → byte image (slots.gate_of (slots_at row at) slot + 513) ≡ version → has_journal_room row (region_at row at image) ≡ ((version == 2) && nat_lt 0 (room_of j))
  unfolding has_journal_room
  room-there j at_first held finds version is =
      let low = slot-low row at image fits slot newest in
      let first : ℕ = journal_of row at slot in
      let found : (HasOpen first (held_of j + 1) image × (room_of j ≡ 0)) ⊎ (HasNoneOpen first (held_of j + 1) image × (held_of j + room_of j ≡ 32))
      = subst (λ f. (HasOpen f (held_of j + 1) image × (room_of j ≡ 0)) ⊎ (HasNoneOpen f (held_of j + 1) image × (held_of j + room_of j ≡ 32))) at_first finds in
      ap (λ (o : Option ℕ). elim o [ None ↦ false | Some s ↦ has_room_in_slot row (region_at row at image) (s * slot_blocks row) ]) (newest-there row at image fits ∙ newest)
      ∙ ap (λ n. (n == 2) && has_free_record 32 (blocks_at (region_at row at image) (slot * slot_blocks row + 1 + body_blocks row) 64)) (version-byte row at image fits slot low ∙ is)
      ∙ ap (λ (js : List ℕ). (version == 2) && has_free_record 32 js) (journal-there row at image fits slot low)
      ∙ ap (λ b. (version == 2) && b) (free-is first (held_of j) (room_of j) (part first 32768 image) image (λ k less. byte-part first 32768 k image less) (sym held) found)
