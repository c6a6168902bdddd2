-- A whole slot is committed: which tree each image stands for meanwhile, and that the region is in step afterwards.
use Rattle.std.proofs.Common.{◌≡◌, ◌⊎◌, inl, inr, ⊎_elim, ℕ, ◌+◌, ◌*◌, ◌%◌, ◌≤◌, List, [], ◌++◌, length, take, replicate, sym, ap, subst, ◌∙◌, Option, Some, arith}
use Rattle.std.specs.Prelude.{slice_index_or, slice_set}
use Rattle.std.proofs.lemmas.Bool.Decides.{nat_tests}
use Rattle.std.proofs.lemmas.List.{length-set}
use Rattle.apex_types.specs.declared.rows.TreeRow.{TreeRow}
use Rattle.apex_model.specs.Durable.{StoredFile}
use Rattle.apex_model.specs.Fields.{header_of}
use Rattle.apex_model.specs.Image.{data_block, tree_of_region}
use Rattle.apex_model.specs.Layout.{body_blocks, tree_blocks}
use Rattle.apex_model.specs.Trees.{Tree}
use Rattle.rig_core.specs.Bytes.{part, SameElsewhere}
use Rattle.rig_core.specs.Leaves.{Leaves, LeavesElsewhere, IsAllSettled}
use Rattle.rig_core.specs.Outside.{Outside, Sound}
use Rattle.rig_core.proofs.Regions.{settled_all}
use Rattle.gate_slots.proofs.Newest.{content_when}
use Rattle.gate_slots.specs.Place.{Place, gate_of, newest_slot, newest_content, content_size, slot_size, slots_size}
use Rattle.gate_slots.specs.Slots.{Knows, place_of, number_of}
use Rattle.gate_slots.specs.declared.slots.Slots.{Slots}
use Rattle.meta_journal.specs.declared.Journal.{Journal}
use Rattle.meta_journal.specs.Journal as meta
use Rattle.tree_region.proofs.Contents as contents
use Rattle.tree_region.proofs.Emptied.{emptied-held, emptied-finds, emptied-knows, emptied-version}
use Rattle.tree_region.specs.Contents.{with_empty_journal, HasNewSlot}
use Rattle.tree_region.specs.InStep.{InStep, IsTree, data_at, slots_long}
use Rattle.tree_region.specs.Ready.{IsReady}
use Rattle.tree_region.proofs.JournalRoom.{room-there}
use Rattle.tree_region.specs.Region.{Spells, StandsFor, tree_over, region_at, slots_at, journal_of}
use Rattle.tree_region.specs.declared.region.TreeRegion.{TreeRegion}

-- at each moment slots have their old content, or this one with the bytes around them that reads gave before
abbrev pub Switches : Type 0 → Outside → Outside → List ℕ → Place → Type 0
Switches V o e new p = (content : List ℕ) → V → newest_content p o.view ≡ Some content
    → Leaves (λ image. (newest_content p image ≡ Some content) ⊎ ((newest_content p image ≡ Some new) × SameElsewhere p.start (slots_size p) o.view image)) o e

-- and so does the view
abbrev pub ShowsEither : Type 0 → Outside → Outside → List ℕ → Place → Type 0
ShowsEither V o e new p = (content : List ℕ) → V → newest_content p o.view ≡ Some content → (newest_content p e.view ≡ Some content) ⊎ (newest_content p e.view ≡ Some new)

-- ---- the slots' bytes

gate-in : (p : Place) (slot : ℕ) → (p.start ≤ gate_of p slot) × (gate_of p slot + slot_size p ≤ p.start + slots_size p)
gate-in p slot = grind (arith, nat_tests)

journal-within : (row : TreeRow) (at slot : ℕ) → (at ≤ journal_of row at slot) × (journal_of row at slot + 32768 ≤ at + slots_long row)
journal-within row at slot = let inside = gate-in (slots_at row at) slot in (omega (arith, inside.0), omega (arith, inside.1))

-- ---- the call

module _ (V K : Type 0) (row : TreeRow) (at : ℕ) (kept : TreeRegion) (o e : Outside) (sound : Sound V K o) (sound_after : Sound V K e) (size : e.size ≡ o.size) (fits : at + 512 * tree_blocks row ≤ o.size) (ready : IsReady V row at o kept)
    (body written tail : List ℕ) (long : length body ≡ 512 * body_blocks row) (numbered : written ≡ slice_set body 0 ((number_of kept.slots + 1) % 3)) (zeros : tail ≡ replicate 32768 0)
    (spelled : (sequence : ℕ) → sequence ≤ 2 → Spells row (slice_set body 0 sequence) [] 2 kept.tree kept.table.files.items) where
  abbrev p : Place
  p = slots_at row at

  abbrev numbers : List (List ℕ)
  numbers = kept.table.files.items

  abbrev next : ℕ
  next = (number_of kept.slots + 1) % 3

  next-low : next ≤ 2
  next-low = omega arith

  long-written : length written ≡ 512 * body_blocks row
  long-written = ap length numbered ∙ length-set body 0 next ∙ long

  new-is : written ++ tail ≡ with_empty_journal written
  new-is = ap (λ (ts : List ℕ). written ++ ts) zeros

  spells : Spells row written [] 2 kept.tree numbers
  spells = subst (λ (b : List ℕ). Spells row b [] 2 kept.tree numbers) (sym numbered) (spelled next next-low)

  view-fits : V → at + 512 * tree_blocks row ≤ length o.view
  view-fits shown = omega (arith, fits, sound.view_fills shown)

  end-fits : V → at + 512 * tree_blocks row ≤ length e.view
  end-fits shown = omega (arith, fits, size, sound_after.view_fills shown)

  -- the newest slot's content before
  old : V → (content : List ℕ) × (newest_content p o.view ≡ Some content)
  old shown =
      let knows = ready.slots shown in
      let q = place_of kept.slots in
      (part (gate_of q kept.slots.newest + 512) (content_size q) o.view, ap (λ (r : Place). newest_content r o.view) (sym ready.within.place) ∙ content_when q kept.slots.newest o.view kept.slots.is_slot knows.newest)

  -- the tree before, or the one that is kept
  abbrev Trees : Tree StoredFile → List ℕ → Type 0
  Trees before image = (tree_of_region row (region_at row at image) ≡ Some before) ⊎ IsTree row at (data_at row at o.view) numbers kept.tree image

  -- at each moment
  pub moments : (before : Tree StoredFile) → V → tree_of_region row (region_at row at o.view) ≡ Some before → Switches V o e (written ++ tail) (place_of kept.slots)
      → LeavesElsewhere (place_of kept.slots).start (slots_size (place_of kept.slots)) o e → Leaves (Trees before) o e
  moments before shown is run where_ =
      let was = old shown in
      let here : Switches V o e (with_empty_journal written) p = subst (λ (new : List ℕ). Switches V o e new p) new-is (subst (Switches V o e (written ++ tail)) ready.within.place run) in
      contents.moments V K row at o e sound fits was.0 written long-written 2 kept.tree numbers spells before (λ image told now. ready.same_tree image told now ∙ is) ready.settled was.1
      (here was.0 shown was.1) (subst (λ (q : Place). LeavesElsewhere q.start (slots_size q) o e) ready.within.place where_)

  -- in the view
  pub view-tree : (before : Tree StoredFile) → V → tree_of_region row (region_at row at o.view) ≡ Some before → ShowsEither V o e (written ++ tail) (place_of kept.slots)
      → SameElsewhere (place_of kept.slots).start (slots_size (place_of kept.slots)) o.view e.view → Trees before e.view
  view-tree before shown is either where_ =
      let was = old shown in
      let here : ShowsEither V o e (with_empty_journal written) p = subst (λ (new : List ℕ). ShowsEither V o e new p) new-is (subst (ShowsEither V o e (written ++ tail)) ready.within.place either) in
      let same : SameElsewhere p.start (slots_size p) o.view e.view = subst (λ (q : Place). SameElsewhere q.start (slots_size q) o.view e.view) ready.within.place where_ in
      ⊎_elim
      (λ stays. inl (contents.same-tree row at o.view e.view (view-fits shown) (end-fits shown) (stays ∙ sym was.1) (contents.data-elsewhere row at o.view e.view same) ∙ is))
      (λ new. inr (contents.new-tree row at e.view (end-fits shown) written long-written new 2 kept.tree numbers spells
      ∙ ap (λ (blocks : List ℕ). Some (tree_over blocks kept.tree numbers)) (contents.data-elsewhere row at o.view e.view same)))
      (here was.0 shown was.1)

  -- from the end of the call on
  module _ (slots : Slots) (place : place_of slots ≡ place_of kept.slots) (committed : V → newest_content (place_of kept.slots) e.view ≡ Some (written ++ tail)) (known : V → Knows slots e.view) (all : IsAllSettled e)
      (header : (sequence : ℕ) → sequence ≤ 2 → header_of (take 64 (slice_set body 0 sequence)) ≡ Some (sequence, 2))
      (newest : ℕ) (newest_is : (image : List ℕ) → Knows slots image → newest_slot (place_of slots) image ≡ Some newest) (j : Journal) (first : meta.first_of j ≡ journal_of row at newest) (held : meta.held_of j ≡ 0) (room : meta.room_of j ≡ 32) where
    abbrev new : TreeRegion
    new = record { slots = slots; version = 2; journal = j; tree = kept.tree; table = kept.table }

    place-is : place_of slots ≡ p
    place-is = place ∙ ready.within.place

    content-is : V → newest_content p e.view ≡ Some (with_empty_journal written)
    content-is shown = ap (λ (q : Place). newest_content q e.view) (sym ready.within.place) ∙ committed shown ∙ ap Some new-is

    -- the slot that was written
    slot : V → HasNewSlot row at e.view written
    slot shown = contents.new-slot row at e.view (end-fits shown) written long-written (content-is shown)

    first-there : (shown : V) → meta.first_of j ≡ journal_of row at (slot shown).newest
    first-there shown =
        let found : ◌≡◌ {A = Option ℕ} (Some newest) (Some (slot shown).newest)
        = sym (newest_is e.view (known shown)) ∙ ap (λ (q : Place). newest_slot q e.view) place-is ∙ (slot shown).is_newest in
        let same : newest ≡ (slot shown).newest = cc in
        first ∙ ap (journal_of row at) same

    header-there : header_of (take 64 written) ≡ Some (next, 2)
    header-there = ap (λ (bytes : List ℕ). header_of (take 64 bytes)) numbered ∙ header next next-low

    stands-there : V → StandsFor row at e.view new
    unfolding slot
    stands-there shown =
        let s = slot shown in
        let held_is = emptied-held row at e.view written s j (first-there shown) held room in
        let finds = emptied-finds row at e.view written s j (first-there shown) held room in
        let version = emptied-version row at e.view written (end-fits shown) s next 2 header-there in
        record {
          tree = contents.new-tree row at e.view (end-fits shown) written long-written (content-is shown) 2 kept.tree numbers spells;
          newest = s.newest;
          is_newest = s.is_newest;
          spells = contents.new-spells row at e.view (end-fits shown) written long-written (content-is shown) 2 kept.tree numbers spells;
          slots = known shown;
          version = version;
          first = first-there shown;
          held = held_is;
          room = finds;
          known = λ some. emptied-knows row at e.view written s j (first-there shown) held room;
          has_room = room-there row at e.view (end-fits shown) s.newest s.is_newest j (first-there shown) held_is finds 2 version;
        }

    -- the region is in step
    pub in-step : InStep V row at e new
    in-step =
        let inside = journal-within row at newest in
        record {
          within = record { place = place-is; from = omega (arith, first, inside.0); to = omega (arith, first, inside.1); few = ready.within.few };
          limits = record { files = ready.limits.files; directories = ready.limits.directories; table = ready.limits.table; rooms = ready.limits.rooms };
          numbers = ready.numbers;
          good = ready.good;
          stands = stands-there;
          settled = settled_all at (slots_long row) e all;
          named = λ image told now f k. ap (λ (i : List ℕ). data_block (data_at row at i) (slice_index_or (slice_index_or numbers f []) k 0)) (all image told now);
          same_tree = λ image told now. ap (λ (i : List ℕ). tree_of_region row (region_at row at i)) (all image told now);
        }
