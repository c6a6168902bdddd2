-- A region stays in step while a data block is written that isn't named.
use Rattle.std.proofs.Common.{◌≡◌, inl, inr, ⊎_elim, ℕ, zero, suc, ◌+◌, ◌-◌, ◌*◌, ◌<◌, ◌≤◌, List, [], length, refl, sym, ap, subst, ◌∙◌, Some, arith}
use Rattle.std.specs.Prelude.{slice_index_or}
use Rattle.std.proofs.lemmas.Bool.{cases_lt}
use Rattle.std.proofs.lemmas.Bool.Decides.{nat_tests}
use Rattle.std.proofs.lemmas.List.{places}
use Rattle.apex_types.specs.declared.rows.TreeRow.{TreeRow}
use Rattle.apex_model.specs.Image.{data_block, tree_of_region}
use Rattle.apex_model.specs.Layout.{slot_blocks, tree_blocks}
use Rattle.rig_core.specs.Bytes.{byte, part, SameElsewhere, SameWithin}
use Rattle.rig_core.specs.Leaves.{Leaves, LeavesElsewhere, FromNow}
use Rattle.rig_core.specs.Outside.{Outside, Sound, Now}
use Rattle.rig_core.proofs.Moments.{leaves_now, leaves_weaker}
use Rattle.rig_core.proofs.Put.{byte-part, part_same}
use Rattle.gate_slots.specs.Place.{Place, newest_slot, slots_size}
use Rattle.gate_slots.specs.Place.{gate_of as slot_gate}
use Rattle.gate_slots.proofs.Regions as slots
use Rattle.gate_slots.specs.Slots.{place_of}
use Rattle.meta_journal.specs.Journal as meta
use Rattle.meta_journal.specs.Leading.{records, gate_of}
use Rattle.meta_journal.proofs.Regions as journal
use Rattle.tree_region.specs.Region.{Spells, StandsFor, region_at, slots_at, body_of, journal_of}
use Rattle.tree_region.specs.declared.region.TreeRegion.{TreeRegion}
use Rattle.tree_region.proofs.JournalRoom.{room-there}
use Rattle.tree_region.proofs.Places.{slot-low, data-long}
use Rattle.tree_region.specs.InStep.{InStep, SameNamed, AreOthers, IsTree, data_at, block_place, slots_long}
use Rattle.tree_region.proofs.ChangePlaces.{some-body, data-part, record-start, newest-settled, body-settled, slot-high}
use Rattle.tree_region.proofs.Spelled.{over-same, tree-there}

-- ---- an image with the same slots and the same named blocks

module _ (row : TreeRow) (at : ℕ) (kept : TreeRegion) (a b : List ℕ) (long : length b ≡ length a) (fits : at + 512 * tree_blocks row ≤ length a) (same : SameWithin at (slots_long row) a b)
    (named : SameNamed kept.table.files.items (data_at row at a) (data_at row at b)) (place : place_of kept.slots ≡ slots_at row at) (stands : StandsFor row at a kept) where
  abbrev slot : ℕ
  slot = stands.newest

  low : slot ≤ 1
  low = slot-low row at a fits slot stands.is_newest

  fits-there : at + 512 * tree_blocks row ≤ length b
  fits-there = omega (arith, fits, long)

  newest-there : newest_slot (slots_at row at) b ≡ Some slot
  newest-there = newest-settled row at slot low a b long same ∙ stands.is_newest

  same-body : body_of row at slot b ≡ body_of row at slot a
  same-body = body-settled row at slot low a b long same

  within-slot : (k : ℕ) → slot_gate (slots_at row at) slot ≤ k → k < slot_gate (slots_at row at) slot + 512 * slot_blocks row → byte b k ≡ byte a k
  within-slot k from to = same.within k (omega (arith, from, record-start row at slot low)) (omega (arith, to, slot-high row at slot low a b long same))

  same-journal : SameWithin (journal_of row at slot) 32768 a b
  same-journal = record { within = λ k from to. within-slot k (omega (arith, from)) (omega (arith, to)) }

  kept-journal : SameWithin (meta.first_of kept.journal) 32768 a b
  kept-journal = subst (λ n. SameWithin n 32768 a b) (sym stands.first) same-journal

  same-recs : records (journal_of row at slot) b ≡ records (journal_of row at slot) a
  same-recs = journal.same_records (journal_of row at slot) a b long same-journal

  spells-there : Spells row (body_of row at slot b) (records (journal_of row at slot) b) kept.version kept.tree kept.table.files.items
  spells-there =
      subst (λ (bytes : List ℕ). Spells row bytes (records (journal_of row at slot) b) kept.version kept.tree kept.table.files.items) (sym same-body)
      (subst (λ (rs : List (List ℕ)). Spells row (body_of row at slot a) rs kept.version kept.tree kept.table.files.items) (sym same-recs) stands.spells)

  is-tree : IsTree row at (data_at row at b) kept.table.files.items kept.tree b
  is-tree = tree-there row at b fits-there slot newest-there kept.version kept.tree kept.table.files.items spells-there

  -- it stands for the same tree
  pub tree-same : tree_of_region row (region_at row at b) ≡ tree_of_region row (region_at row at a)
  tree-same = is-tree ∙ ap Some (over-same kept.table.files.items (data_at row at a) (data_at row at b) named kept.tree) ∙ sym stands.tree

  gate-same : (r : ℕ) → r < 32 → byte b (gate_of (meta.first_of kept.journal) r) ≡ byte a (gate_of (meta.first_of kept.journal) r)
  gate-same r few = kept-journal.within (gate_of (meta.first_of kept.journal) r) (omega arith) (omega (arith, few))

  whole-slots : SameWithin (slots_at row at).start (slots_size (slots_at row at)) a b
  whole-slots = record { within = λ k from to. same.within k from (omega (arith, to)) }

  abbrev Same : Place → Type 0
  Same p = SameWithin p.start (slots_size p) a b

  -- and what is kept stands for it
  pub stands-same : StandsFor row at b kept
  stands-same =
      let version_is : byte b (slot_gate (slots_at row at) slot + 513) ≡ kept.version = within-slot (slot_gate (slots_at row at) slot + 513) (omega arith) (omega (arith, some-body row)) ∙ stands.version in
      let held_is : meta.held_of kept.journal ≡ length (records (journal_of row at slot) b) = stands.held ∙ ap length (sym same-recs) in
      let finds : meta.FindsRoom kept.journal b =
      ⊎_elim (λ stray. inl ((stray.0.0, stray.0.1, stray.0.2, gate-same stray.0.0 stray.0.2 ∙ stray.0.3), stray.1))
      (λ none. inr (λ r from few opened. none.0 r from few (sym (gate-same r few) ∙ opened), none.1)) stands.room in
      record {
        tree = is-tree;
        newest = slot;
        is_newest = newest-there;
        spells = spells-there;
        slots = (slots.knows_speaks kept.slots (subst (λ (p : Place). 0 < p.body) (sym place) (some-body row))).told_by a b long (subst Same (sym place) whole-slots) stands.slots;
        version = version_is;
        first = stands.first;
        held = held_is;
        room = finds;
        known = λ some. (journal.knows_speaks kept.journal).told_by a b long kept-journal (stands.known some);
        has_room = room-there row at b fits-there slot newest-there kept.journal stands.first held_is finds kept.version version_is;
      }

-- ---- a write to another data block

past : (xs : List ℕ) (k : ℕ) → length xs ≤ k → byte xs k ≡ 0
past xs k high = grind (arith, places)

module _ (row : TreeRow) (at number : ℕ) (one : 1 ≤ number) (a b : List ℕ) (long : length b ≡ length a) (fits : at + 512 * tree_blocks row ≤ length a) (same : SameElsewhere (block_place row at number) 512 a b) where
  data-byte : (img : List ℕ) (k : ℕ) → k < 1024 * row.quota → byte (data_at row at img) k ≡ byte img (at + slots_long row + k)
  data-byte img k few = ap (λ (xs : List ℕ). byte xs k) (data-part row at img) ∙ byte-part (at + slots_long row) (1024 * row.quota) k img few

  long-a : length (data_at row at a) ≡ 1024 * row.quota
  long-a = data-long row at a fits

  long-b : length (data_at row at b) ≡ 1024 * row.quota
  long-b = data-long row at b (omega (arith, fits, long))

  byte-same : (m k : ℕ) → 1 ≤ m → (m ≡ number → ⊥) → 512 * (m - 1) ≤ k → k < 512 * (m - 1) + 512 → byte (data_at row at b) k ≡ byte (data_at row at a) k
  byte-same m k some other from to = elim (cases_lt k (1024 * row.quota)) [
    | inl few ↦ data-byte b k few ∙ (elim (cases_lt m number) [
      | inl less ↦ same.below (at + slots_long row + k) (omega (arith, less, to, some, one))
      | inr more ↦ same.above (at + slots_long row + k) (omega (arith, more, other, from, some, one))
    ]) ∙ sym (data-byte a k few)
    | inr many ↦ past (data_at row at b) k (omega (arith, long-b, many)) ∙ sym (past (data_at row at a) k (omega (arith, long-a, many)))
  ]

  pub block-same : (m : ℕ) → (m ≡ number → ⊥) → data_block (data_at row at b) m ≡ data_block (data_at row at a) m
  block-same zero other = refl
  block-same (suc m) other =
      let bytes : part (512 * (suc m - 1)) 512 (data_at row at b) ≡ part (512 * (suc m - 1)) 512 (data_at row at a)
      = part_same (512 * (suc m - 1)) 512 (data_at row at b) (data_at row at a) (long-b ∙ sym long-a) (λ k from to. byte-same (suc m) k (omega arith) other from to) in
      grind (arith, nat_tests)

  pub named-same : (numbers : List (List ℕ)) → AreOthers number numbers → SameNamed numbers (data_at row at a) (data_at row at b)
  named-same numbers others f k = block-same (slice_index_or (slice_index_or numbers f []) k 0) (others f k)

  pub slots-same : SameWithin at (slots_long row) a b
  slots-same = record { within = λ k from to. same.below k (omega (arith, to)) }

module _ (V K : Type 0) (row : TreeRow) (at number : ℕ) (one : 1 ≤ number) (kept : TreeRegion) (others : AreOthers number kept.table.files.items) (o e : Outside) (sound : Sound V K o) (sound_after : Sound V K e) (size : e.size ≡ o.size)
    (fits : at + 512 * tree_blocks row ≤ o.size) (step : InStep V row at o kept) (run : LeavesElsewhere (block_place row at number) 512 o e) (view : V → SameElsewhere (block_place row at number) 512 o.view e.view) where
  view-long : V → length e.view ≡ length o.view
  view-long shown = sound_after.view_fills shown ∙ size ∙ sym (sound.view_fills shown)

  view-fits : V → at + 512 * tree_blocks row ≤ length o.view
  view-fits shown = omega (arith, fits, sound.view_fills shown)

  there : V → StandsFor row at e.view kept
  there shown = stands-same row at kept o.view e.view (view-long shown) (view-fits shown) (slots-same row at number one o.view e.view (view-long shown) (view-fits shown) (view shown))
      (named-same row at number one o.view e.view (view-long shown) (view-fits shown) (view shown) kept.table.files.items others) step.within.place (step.stands shown)

  abbrev numbers : List (List ℕ)
  numbers = kept.table.files.items

  -- an image that a cut leaves
  record IsLike (image : List ℕ) : Type 0 where
    tree : tree_of_region row (region_at row at image) ≡ tree_of_region row (region_at row at o.view)
    blocks : SameNamed numbers (data_at row at o.view) (data_at row at image)
    shown : V

  like : (image : List ℕ) → FromNow (block_place row at number) 512 o image → IsLike image
  like image from =
      let shown = sound.shown o.clock from.0 from.1 from.2 in
      let from_long : length from.0 ≡ length o.view = sound.image_fills o.clock from.0 from.1 from.2 ∙ sym (sound.view_fills shown) in
      let from_fits : at + 512 * tree_blocks row ≤ length from.0 = omega (arith, fits, sound.image_fills o.clock from.0 from.1 from.2) in
      let long : length image ≡ length o.view = from.3.long ∙ from_long in
      let was = step.settled from.0 from.1 from.2 in
      let near = slots-same row at number one from.0 image from.3.long from_fits from.3 in
      let slots : SameWithin at (slots_long row) o.view image = record { within = λ k start end. near.within k start end ∙ was.within k start end } in
      let named : SameNamed numbers (data_at row at o.view) (data_at row at image)
      = λ f k. named-same row at number one from.0 image from.3.long from_fits from.3 numbers others f k ∙ step.named from.0 from.1 from.2 f k in
      record { tree = tree-same row at kept o.view image long (view-fits shown) slots named step.within.place (step.stands shown); blocks = named; shown = shown }

  -- at each moment the tree is the same
  pub moments : Leaves (λ image. tree_of_region row (region_at row at image) ≡ tree_of_region row (region_at row at o.view)) o e
  moments = leaves_weaker (FromNow (block_place row at number) 512 o) (λ image. tree_of_region row (region_at row at image) ≡ tree_of_region row (region_at row at o.view)) o e (λ image from. (like image from).tree) run

  like-now : (image told : List ℕ) → Now e image told → IsLike image
  like-now image told now = like image (leaves_now (FromNow (block_place row at number) 512 o) o e sound_after run image told now)

  view-same : V → IsLike e.view
  view-same shown = record {
    tree = tree-same row at kept o.view e.view (view-long shown) (view-fits shown) (slots-same row at number one o.view e.view (view-long shown) (view-fits shown) (view shown))
        (named-same row at number one o.view e.view (view-long shown) (view-fits shown) (view shown) numbers others) step.within.place (step.stands shown);
    blocks = named-same row at number one o.view e.view (view-long shown) (view-fits shown) (view shown) numbers others;
    shown = shown;
  }

  -- the region stays in step
  pub beside : InStep V row at e kept
  beside = record {
    within = step.within;
    limits = step.limits;
    numbers = step.numbers;
    good = step.good;
    stands = there;
    settled = λ image told now.
        let from = leaves_now (FromNow (block_place row at number) 512 o) o e sound_after run image told now in
        let shown = sound.shown o.clock from.0 from.1 from.2 in
        let was = step.settled from.0 from.1 from.2 in
        record { within = λ k start end. from.3.below k (omega (arith, end)) ∙ was.within k start end ∙ sym ((view shown).below k (omega (arith, end))) };
    named = λ image told now f k. let l = like-now image told now in l.blocks f k ∙ sym ((view-same l.shown).blocks f k);
    same_tree = λ image told now. let l = like-now image told now in l.tree ∙ sym (view-same l.shown).tree;
  }

-- ---- the same range by other names

pub run-at : (place n there m : ℕ) (o e : Outside) → place ≡ there → n ≡ m → LeavesElsewhere place n o e → LeavesElsewhere there m o e
run-at place n there m o e p q run = subst (λ k. LeavesElsewhere k m o e) p (subst (λ k. LeavesElsewhere place k o e) q run)

pub view-at : (place n there m : ℕ) (a b : List ℕ) → place ≡ there → n ≡ m → SameElsewhere place n a b → SameElsewhere there m a b
view-at place n there m a b p q same = subst (λ k. SameElsewhere k m a b) p (subst (λ k. SameElsewhere place k a b) q same)
