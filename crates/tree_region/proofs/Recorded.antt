-- One more record: which tree each image stands for meanwhile, and that the region is in step afterwards.
use Rattle.std.proofs.Common.{◌≡◌, ◌⊎◌, inl, inr, ⊎_elim, ℕ, ◌+◌, ◌*◌, ◌<◌, ◌≤◌, List, [], ◌∷◌, ◌++◌, length, refl, sym, ap, subst, ◌∙◌, Some, arith}
use Rattle.std.specs.Prelude.{slice_index_or}
use Rattle.apex_types.specs.declared.fields.RecordField.{RecordField}
use Rattle.apex_types.specs.declared.rows.TreeRow.{TreeRow}
use Rattle.apex_model.specs.Fields.{record_of}
use Rattle.apex_model.specs.Image.{data_block, tree_of_region}
use Rattle.apex_model.specs.Layout.{tree_blocks}
use Rattle.rig_core.specs.Bytes.{byte, SameElsewhere, SameWithin}
use Rattle.rig_core.specs.Leaves.{Leaves, LeavesElsewhere, FromNow, IsAllSettled}
use Rattle.rig_core.specs.Outside.{Outside, Sound}
use Rattle.rig_core.proofs.Moments.{leaves_weaker, leaves_both}
use Rattle.rig_core.proofs.Regions.{settled_all}
use Rattle.gate_slots.specs.Place.{Place, newest_slot}
use Rattle.gate_slots.specs.Place.{gate_of as slot_gate}
use Rattle.meta_journal.specs.declared.Journal.{Journal}
use Rattle.meta_journal.specs.Journal as meta
use Rattle.meta_journal.specs.Leading.{records, gate_of}
use Rattle.file_tree.specs.Entries.{TreeValue}
use Rattle.file_tree.specs.Records.{applied}
use Rattle.tree_region.specs.Region.{Spells, StandsFor, tree_over, region_at, slots_at, body_of, journal_of}
use Rattle.tree_region.specs.declared.region.TreeRegion.{TreeRegion}
use Rattle.tree_region.proofs.GoodNumbers.{good-kept}
use Rattle.tree_region.proofs.JournalRoom.{room-there}
use Rattle.tree_region.proofs.Places.{slot-low}
use Rattle.tree_region.specs.InStep.{InStep, SameNamed, IsTree, data_at, slots_long}
use Rattle.tree_region.proofs.Lengths.{applied-long}
use Rattle.tree_region.proofs.Stored.{applied-stored}
use Rattle.tree_region.proofs.ChangePlaces.{some-body, knows-same, record-low, gates-stay, numbers-stay, newest-stays, body-stays, data-stays, newest-settled, body-settled}
use Rattle.tree_region.proofs.Spelled.{over-same, spelled-more, tree-there}

-- an image of a cut, which has the old records or one more
module _ (row : TreeRow) (at slot held : ℕ) (low : slot ≤ 1) (few : held < 32) (view from img : List ℕ) (fits : at + 512 * tree_blocks row ≤ length view) (long : length from ≡ length view)
    (numbers : List (List ℕ)) (settled : SameWithin at (slots_long row) view from) (named : SameNamed numbers (data_at row at view) (data_at row at from))
    (newest : newest_slot (slots_at row at) view ≡ Some slot) (same : SameElsewhere (gate_of (journal_of row at slot) held) 1024 from img) where
  body-is : body_of row at slot img ≡ body_of row at slot view
  body-is = body-stays row at slot held low few from img same ∙ body-settled row at slot low view from long settled

  pub newest-is : newest_slot (slots_at row at) img ≡ Some slot
  newest-is = newest-stays row at slot held low few from img same ∙ newest-settled row at slot low view from long settled ∙ newest

  -- with these records it stands for the tree that they spell, over the blocks of the view
  pub stands-for : (recs : List (List ℕ)) (version : ℕ) (v : TreeValue) → records (journal_of row at slot) img ≡ recs → Spells row (body_of row at slot view) recs version v numbers → IsTree row at (data_at row at view) numbers v img
  stands-for recs version v is spells =
      let img_fits : at + 512 * tree_blocks row ≤ length img = omega (arith, fits, long, same.long) in
      tree-there row at img img_fits slot newest-is version v numbers
      (subst (λ (b : List ℕ). Spells row b (records (journal_of row at slot) img) version v numbers) (sym body-is)
      (subst (λ (rs : List (List ℕ)). Spells row (body_of row at slot view) rs version v numbers) (sym is) spells))
      ∙ ap (λ (blocks : List ℕ). Some (tree_over blocks v numbers)) (data-stays row at slot held low few from img same)
      ∙ ap Some (over-same numbers (data_at row at view) (data_at row at from) named v)

-- ---- the call

module _ (V K : Type 0) (row : TreeRow) (at : ℕ) (kept : TreeRegion) (o e : Outside) (sound : Sound V K o) (sound_after : Sound V K e) (step : InStep V row at o kept) (fits : at + 512 * tree_blocks row ≤ o.size) (size : e.size ≡ o.size)
    (room : 0 < meta.room_of kept.journal) (bytes : List ℕ) (change : RecordField) (version : kept.version ≡ 2) (spelled : record_of 2 bytes ≡ Some change) (after : TreeValue) (applies : applied kept.tree change ≡ Some after) where
  abbrev first : ℕ
  first = meta.first_of kept.journal

  abbrev held : ℕ
  held = meta.held_of kept.journal

  abbrev gate : ℕ
  gate = gate_of first held

  abbrev numbers : List (List ℕ)
  numbers = kept.table.files.items

  abbrev blocks : List ℕ
  blocks = data_at row at o.view

  -- the records of before, or with this one
  abbrev Either : List ℕ → Type 0
  Either img = (records first img ≡ records first o.view) ⊎ (records first img ≡ records first o.view ++ bytes ∷ [])

  -- the tree before, or after the change
  abbrev Trees : List ℕ → Type 0
  Trees img = IsTree row at blocks numbers kept.tree img ⊎ IsTree row at blocks numbers after img

  few : V → held < 32
  few shown = ⊎_elim (λ none. absurd (omega (arith, none.1, room))) (λ some. omega (arith, some.1, room)) (step.stands shown).room

  long : V → at + 512 * tree_blocks row ≤ length o.view
  long shown = omega (arith, fits, sound.view_fills shown)

  -- the newest slot
  abbrev slot : V → ℕ
  slot shown = (step.stands shown).newest

  low : (shown : V) → slot shown ≤ 1
  low shown = slot-low row at o.view (long shown) (slot shown) (step.stands shown).is_newest

  new-spells : (shown : V) → Spells row (body_of row at (slot shown) o.view) (records (journal_of row at (slot shown)) o.view ++ bytes ∷ []) kept.version after numbers
  new-spells shown =
      spelled-more row (body_of row at (slot shown) o.view) (records (journal_of row at (slot shown)) o.view) kept.version kept.tree after numbers bytes change
      (omega (arith, step.limits.files, step.within.few.0)) (omega (arith, step.limits.directories, step.within.few.1)) (subst (λ n. record_of n bytes ≡ Some change) (sym version) spelled) applies (step.stands shown).spells

  tree-of : V → (from img : List ℕ) → length from ≡ length o.view → SameWithin at (slots_long row) o.view from → SameNamed numbers blocks (data_at row at from) → SameElsewhere gate 1024 from img → Either img → Trees img
  tree-of shown from img from_long settled named same either =
      let was = step.stands shown in
      let there : SameElsewhere (gate_of (journal_of row at (slot shown)) held) 1024 from img = subst (λ n. SameElsewhere (gate_of n held) 1024 from img) was.first same in
      ⊎_elim
      (λ old. inl (stands-for row at (slot shown) held (low shown) (few shown) o.view from img (long shown) from_long numbers settled named was.is_newest there
      (records (journal_of row at (slot shown)) o.view) kept.version kept.tree (subst (λ n. records n img ≡ records n o.view) was.first old) (step.stands shown).spells))
      (λ more. inr (stands-for row at (slot shown) held (low shown) (few shown) o.view from img (long shown) from_long numbers settled named was.is_newest there
      (records (journal_of row at (slot shown)) o.view ++ bytes ∷ []) kept.version after (subst (λ n. records n img ≡ records n o.view ++ bytes ∷ []) was.first more) (new-spells shown)))
      either

  -- at each moment
  pub moments : V → Leaves Either o e → LeavesElsewhere gate 1024 o e → Leaves Trees o e
  moments shown run where_ = leaves_weaker (λ img. Either img × FromNow gate 1024 o img) Trees o e
      (λ img both. let from = both.1 in
      tree-of shown from.0 img (sound.image_fills o.clock from.0 from.1 from.2 ∙ sym (sound.view_fills shown)) (step.settled from.0 from.1 from.2) (step.named from.0 from.1 from.2) from.3 both.0)
      (leaves_both Either (FromNow gate 1024 o) o e run where_)

  -- in the view
  pub view-tree : V → SameElsewhere gate 1024 o.view e.view → Either e.view → Trees e.view
  view-tree shown same either = tree-of shown o.view e.view refl (record { within = λ k low high. refl }) (λ f k. refl) same either

  -- from the end of the call on
  module _ (j : Journal) (first_is : meta.first_of j ≡ first) (held_is : meta.held_of j ≡ held + 1) (room_is : meta.room_of j + 1 ≡ meta.room_of kept.journal)
      (appended : V → records first e.view ≡ records first o.view ++ bytes ∷ []) (known : V → meta.Knows j e.view) (all : IsAllSettled e) (where_ : V → SameElsewhere gate 1024 o.view e.view) where
    abbrev new : TreeRegion
    new = record { slots = kept.slots; version = kept.version; journal = j; tree = after; table = kept.table }

    first-there : (shown : V) → meta.first_of j ≡ journal_of row at (slot shown)
    first-there shown = first_is ∙ (step.stands shown).first

    there : (shown : V) → SameElsewhere (gate_of (journal_of row at (slot shown)) held) 1024 o.view e.view
    there shown = subst (λ n. SameElsewhere (gate_of n held) 1024 o.view e.view) (step.stands shown).first (where_ shown)

    newest-there : (shown : V) → newest_slot (slots_at row at) e.view ≡ Some (slot shown)
    newest-there shown = newest-stays row at (slot shown) held (low shown) (few shown) o.view e.view (there shown) ∙ (step.stands shown).is_newest

    same-body : (shown : V) → body_of row at (slot shown) e.view ≡ body_of row at (slot shown) o.view
    same-body shown = body-stays row at (slot shown) held (low shown) (few shown) o.view e.view (there shown)

    recs-there : (shown : V) → records (journal_of row at (slot shown)) e.view ≡ records (journal_of row at (slot shown)) o.view ++ bytes ∷ []
    recs-there shown = subst (λ n. records n e.view ≡ records n o.view ++ bytes ∷ []) (step.stands shown).first (appended shown)

    spells-there : (shown : V) → Spells row (body_of row at (slot shown) e.view) (records (journal_of row at (slot shown)) e.view) kept.version after numbers
    spells-there shown =
        subst (λ (b : List ℕ). Spells row b (records (journal_of row at (slot shown)) e.view) kept.version after numbers) (sym (same-body shown))
        (subst (λ (rs : List (List ℕ)). Spells row (body_of row at (slot shown) o.view) rs kept.version after numbers) (sym (recs-there shown)) (new-spells shown))

    stands-there : V → StandsFor row at e.view new
    stands-there shown =
        let was = step.stands shown in
        let fits_there : at + 512 * tree_blocks row ≤ length e.view = omega (arith, fits, size, sound_after.view_fills shown) in
        let knows = known shown in
        let version_is : byte e.view (slot_gate (slots_at row at) (slot shown) + 513) ≡ kept.version = (there shown).below (slot_gate (slots_at row at) (slot shown) + 513) (omega (arith, some-body row, record-low row at (slot shown) held (low shown))) ∙ was.version in
        let held_here : meta.held_of j ≡ length (records (journal_of row at (slot shown)) e.view) = sym knows.count ∙ (λ i. length (records (first-there shown i) e.view)) in
        let finds : meta.FindsRoom j e.view = inr (
          λ r from less opened. knows.closed r (omega (arith, from)) less opened,
          ⊎_elim (λ none. absurd (omega (arith, none.1, room))) (λ some. omega (arith, some.1, held_is, room_is)) was.room,
        ) in
        record {
          tree = tree-there row at e.view fits_there (slot shown) (newest-there shown) kept.version after numbers (spells-there shown);
          newest = slot shown;
          is_newest = newest-there shown;
          spells = spells-there shown;
          slots = knows-same kept.slots o.view e.view
              (subst (λ (p : Place). (s : ℕ) → byte e.view (slot_gate p s) ≡ byte o.view (slot_gate p s)) (sym step.within.place) (gates-stay row at (slot shown) held (low shown) (few shown) o.view e.view (there shown)))
              (subst (λ (p : Place). (s : ℕ) → byte e.view (slot_gate p s + 512) ≡ byte o.view (slot_gate p s + 512)) (sym step.within.place) (numbers-stay row at (slot shown) held (low shown) (few shown) o.view e.view (there shown)))
              was.slots;
          version = version_is;
          first = first-there shown;
          held = held_here;
          room = finds;
          known = λ some. knows;
          has_room = room-there row at e.view fits_there (slot shown) (newest-there shown) j (first-there shown) held_here finds kept.version version_is;
        }

    -- the region is in step
    pub in-step : InStep V row at e new
    in-step =
        let longs = applied-long kept.tree after change applies in
        record {
          within = record { place = step.within.place; from = omega (arith, first_is, step.within.from); to = omega (arith, first_is, step.within.to); few = step.within.few };
          limits = record { files = longs.files ∙ step.limits.files; directories = longs.directories ∙ step.limits.directories; table = step.limits.table; rooms = step.limits.rooms };
          numbers = step.numbers;
          good = good-kept row kept.tree after numbers (applied-stored kept.tree after change applies) step.good;
          stands = stands-there;
          settled = settled_all at (slots_long row) e all;
          named = λ image told now f k. ap (λ (i : List ℕ). data_block (data_at row at i) (slice_index_or (slice_index_or numbers f []) k 0)) (all image told now);
          same_tree = λ image told now. ap (λ (i : List ℕ). tree_of_region row (region_at row at i)) (all image told now);
        }
