-- Which tree a region stands for is told by the content of its newest slot and by its data blocks.
use Rattle.std.proofs.Common.{◌≡◌, ◌⊎◌, inl, inr, ⊎_elim, ℕ, ◌+◌, ◌*◌, ◌<◌, ◌≤◌, List, [], ◌++◌, length, take, drop, replicate, refl, sym, ap, subst, ◌∙◌, Option, Some, None, option_map, arith}
use Rattle.std.proofs.lemmas.List.{drop-drop, drop-take, take-take, places}
use Rattle.std.proofs.Math.Seq.{take-append_seam, drop-append_seam}
use Rattle.apex_types.specs.declared.rows.TreeRow.{TreeRow}
use Rattle.apex_model.specs.Durable.{StoredFile}
use Rattle.apex_model.specs.Image as image
use Rattle.apex_model.specs.Layout.{body_blocks, slot_blocks, tree_blocks}
use Rattle.apex_model.specs.Trees.{Tree}
use Rattle.rig_core.specs.Bytes.{byte, part, SameElsewhere, SameWithin}
use Rattle.rig_core.specs.Leaves.{Leaves, LeavesElsewhere, FromNow, IsSettled}
use Rattle.rig_core.specs.Outside.{Outside, Sound, AllNow}
use Rattle.rig_core.proofs.Moments.{leaves_weaker, leaves_both}
use Rattle.rig_core.proofs.Put.{byte-part}
use Rattle.gate_slots.specs.Place.{Place, gate_of, newest_slot, newest_content, content_size, slots_size}
use Rattle.gate_slots.proofs.Regions.{same_content}
use Rattle.meta_journal.specs.Leading.{records, HasNoneOpen}
use Rattle.meta_journal.proofs.Records.{leading_shut}
use Rattle.file_tree.specs.Entries.{TreeValue}
use Rattle.tree_region.specs.Region.{Spells, tree_over, region_at, slots_at, body_of, journal_of}
use Rattle.tree_region.proofs.Places.{slot-low, none-newest, some-newest, body-there, journal-there}
use Rattle.tree_region.specs.Contents.{tree_of_body, tree_of_content, tree_of_newest, with_empty_journal, HasNewSlot}
use Rattle.tree_region.specs.InStep.{IsTree, data_at, slots_long}
use Rattle.tree_region.proofs.ChangePlaces.{some-body, data-same}
use Rattle.tree_region.proofs.Spelled.{tree-there}

-- ---- the content of a slot

module _ (row : TreeRow) (at slot : ℕ) (img : List ℕ) where
  abbrev content : List ℕ
  content = part (gate_of (slots_at row at) slot + 512) (content_size (slots_at row at)) img

  pub content-body : take (512 * body_blocks row) content ≡ body_of row at slot img
  content-body = take-take (512 * body_blocks row) (content_size (slots_at row at)) (drop (gate_of (slots_at row at) slot + 512) img) (omega arith)

  pub content-journal : drop (512 * body_blocks row) content ≡ part (journal_of row at slot) 32768 img
  content-journal =
      let whole : content_size (slots_at row at) ≡ 512 * body_blocks row + 32768 = omega arith in
      ap (λ (n : ℕ). drop (512 * body_blocks row) (take n (drop (gate_of (slots_at row at) slot + 512) img))) whole
      ∙ drop-take (512 * body_blocks row) 32768 (drop (gate_of (slots_at row at) slot + 512) img)
      ∙ ap (take 32768) (drop-drop (512 * body_blocks row) (gate_of (slots_at row at) slot + 512) img)

-- ---- the tree of a region

module _ (row : TreeRow) (at : ℕ) (img : List ℕ) (fits : at + 512 * tree_blocks row ≤ length img) where
  tree-in-slot : (slot : ℕ) → slot ≤ 1 → image.tree_in_slot row (region_at row at img) (slot * slot_blocks row) ≡ tree_of_content row (content row at slot img) (data_at row at img)
  unfolding tree_of_content
  tree-in-slot slot low =
      (λ i. tree_of_body row (body-there row at img fits slot low i) (image.leading_records 32 (journal-there row at img fits slot low i)) (data_at row at img))
      ∙ (λ i. tree_of_body row (sym (content-body row at slot img) i) (image.leading_records 32 (sym (content-journal row at slot img) i)) (data_at row at img))

  tree-by-slot : (o : Option ℕ) → newest_slot (slots_at row at) img ≡ o → image.tree_of_region row (region_at row at img) ≡ tree_of_newest row (option_map (λ (slot : ℕ). content row at slot img) o) (data_at row at img)
  tree-by-slot None is = none-newest row at img fits is
  tree-by-slot (Some slot) is = some-newest row at img fits slot is ∙ tree-in-slot slot (slot-low row at img fits slot is)

  -- it is that of the newest slot's content, over the data blocks
  pub tree-of-region : image.tree_of_region row (region_at row at img) ≡ tree_of_newest row (newest_content (slots_at row at) img) (data_at row at img)
  unfolding newest_content
  tree-of-region = tree-by-slot (newest_slot (slots_at row at) img) refl

-- images with the same newest content and the same data blocks stand for the same tree
pub same-tree : (row : TreeRow) (at : ℕ) (a b : List ℕ) → at + 512 * tree_blocks row ≤ length a → at + 512 * tree_blocks row ≤ length b → newest_content (slots_at row at) b ≡ newest_content (slots_at row at) a → data_at row at b ≡ data_at row at a
    → image.tree_of_region row (region_at row at b) ≡ image.tree_of_region row (region_at row at a)
same-tree row at a b fits_a fits_b content_is data_is = tree-of-region row at b fits_b ∙ (λ i. tree_of_newest row (content_is i) (data_is i)) ∙ sym (tree-of-region row at a fits_a)

-- ---- a slot with an empty journal

mapped-some : (f : ℕ → List ℕ) (o : Option ℕ) (c : List ℕ) → option_map f o ≡ Some c → (s : ℕ) × (o ≡ Some s) × (f s ≡ c)
mapped-some f None c is = absurd (let w : ◌≡◌ {A = Option (List ℕ)} None (Some c) = is in cc)
mapped-some f (Some s) c is = (s, refl, (let w : ◌≡◌ {A = Option (List ℕ)} (Some (f s)) (Some c) = is in cc))

zero-at : (n k : ℕ) → byte (replicate n 0) k ≡ 0
zero-at n k = grind (arith, places)

front-of : (n : ℕ) (front back : List ℕ) → length front ≡ n → take n (front ++ back) ≡ front
front-of n front back long = ap (λ (k : ℕ). take k (front ++ back)) (sym long) ∙ take-append_seam front back

back-of : (n : ℕ) (front back : List ℕ) → length front ≡ n → drop n (front ++ back) ≡ back
back-of n front back long = ap (λ (k : ℕ). drop k (front ++ back)) (sym long) ∙ drop-append_seam front back

module _ (row : TreeRow) (at : ℕ) (img : List ℕ) (fits : at + 512 * tree_blocks row ≤ length img) (body : List ℕ) (long : length body ≡ 512 * body_blocks row) (newest : newest_content (slots_at row at) img ≡ Some (with_empty_journal body)) where
  newest-some : (s : ℕ) × (newest_slot (slots_at row at) img ≡ Some s) × (content row at s img ≡ with_empty_journal body)
  unfolding newest_content
  newest-some = mapped-some (λ (slot : ℕ). content row at slot img) (newest_slot (slots_at row at) img) (with_empty_journal body) newest

  abbrev slot : ℕ
  slot = newest-some.0

  journal-zero : (k : ℕ) → k < 32768 → byte img (journal_of row at slot + k) ≡ 0
  journal-zero k few =
      let zeros : part (journal_of row at slot) 32768 img ≡ replicate 32768 0
      = sym (content-journal row at slot img) ∙ ap (drop (512 * body_blocks row)) newest-some.2 ∙ back-of (512 * body_blocks row) body (replicate 32768 0) long in
      sym (byte-part (journal_of row at slot) 32768 k img few) ∙ ap (λ (bytes : List ℕ). byte bytes k) zeros ∙ zero-at 32768 k

  shut : HasNoneOpen (journal_of row at slot) 0 img
  shut r low few opened = let none = journal-zero (1024 * r) (omega (arith, few)) in omega (arith, none, opened)

  -- the slot itself
  pub new-slot : HasNewSlot row at img body
  new-slot = record {
    newest = slot;
    low = slot-low row at img fits slot newest-some.1;
    is_newest = newest-some.1;
    body_is = sym (content-body row at slot img) ∙ ap (take (512 * body_blocks row)) newest-some.2 ∙ front-of (512 * body_blocks row) body (replicate 32768 0) long;
    no_records = leading_shut 32 (journal_of row at slot) img (λ opened. shut 0 (omega arith) (omega arith) (ap (byte img) (omega arith) ∙ opened));
    none_open = shut;
  }

  -- what its body and its records spell
  pub new-spells : (version : ℕ) (v : TreeValue) (numbers : List (List ℕ)) → Spells row body [] version v numbers → Spells row (body_of row at new-slot.newest img) (records (journal_of row at new-slot.newest) img) version v numbers
  new-spells version v numbers spells =
      subst (λ (b : List ℕ). Spells row b (records (journal_of row at new-slot.newest) img) version v numbers) (sym new-slot.body_is)
      (subst (λ (rs : List (List ℕ)). Spells row body rs version v numbers) (sym new-slot.no_records) spells)

  -- the region stands for the tree that the body spells
  pub new-tree : (version : ℕ) (v : TreeValue) (numbers : List (List ℕ)) → Spells row body [] version v numbers → IsTree row at (data_at row at img) numbers v img
  new-tree version v numbers spells = tree-there row at img fits new-slot.newest new-slot.is_newest version v numbers (new-spells version v numbers spells)

-- ---- at each moment of a commit

-- outside the slots the data blocks stay
pub data-elsewhere : (row : TreeRow) (at : ℕ) (a b : List ℕ) → SameElsewhere at (slots_size (slots_at row at)) a b → data_at row at b ≡ data_at row at a
data-elsewhere row at a b same = data-same row at a b same.long (λ k far. same.above k (omega (arith, far)))

module _ (V K : Type 0) (row : TreeRow) (at : ℕ) (o e : Outside) (sound : Sound V K o) (fits : at + 512 * tree_blocks row ≤ o.size) (old body : List ℕ) (long : length body ≡ 512 * body_blocks row)
    (version : ℕ) (v : TreeValue) (numbers : List (List ℕ)) (spells : Spells row body [] version v numbers) (before : Tree StoredFile)
    (same_tree : AllNow (λ img. image.tree_of_region row (region_at row at img) ≡ Some before) o) (settled : IsSettled at (slots_long row) o) (was : newest_content (slots_at row at) o.view ≡ Some old) where
  abbrev p : Place
  p = slots_at row at

  abbrev Old : List ℕ → Type 0
  Old img = newest_content p img ≡ Some old

  abbrev New : List ℕ → Type 0
  New img = (newest_content p img ≡ Some (with_empty_journal body)) × SameElsewhere p.start (slots_size p) o.view img

  -- the tree before, or the one that the new body spells
  abbrev Trees : List ℕ → Type 0
  Trees img = (image.tree_of_region row (region_at row at img) ≡ Some before) ⊎ IsTree row at (data_at row at o.view) numbers v img

  old-tree : (img : List ℕ) → FromNow p.start (slots_size p) o img → Old img → image.tree_of_region row (region_at row at img) ≡ Some before
  old-tree img from is =
      let there : List ℕ = from.0 in
      let size : length there ≡ o.size = sound.image_fills o.clock there from.1 from.2 in
      let view : length there ≡ length o.view = size ∙ sym (sound.view_fills (sound.shown o.clock there from.1 from.2)) in
      let within = settled there from.1 from.2 in
      let slots : SameWithin p.start (slots_size p) o.view there = record { within = λ k low high. within.within k low (omega (arith, high)) } in
      let content_there : newest_content p there ≡ Some old = same_content p (some-body row) o.view there slots view ∙ was in
      same-tree row at there img (omega (arith, fits, size)) (omega (arith, fits, size, from.3.long)) (is ∙ sym content_there) (data-elsewhere row at there img from.3)
      ∙ same_tree there from.1 from.2

  tree-of-new : (img : List ℕ) → length img ≡ o.size → New img → IsTree row at (data_at row at o.view) numbers v img
  tree-of-new img size is =
      new-tree row at img (omega (arith, fits, size)) body long is.0 version v numbers spells
      ∙ ap (λ (blocks : List ℕ). Some (tree_over blocks v numbers)) (data-elsewhere row at o.view img is.1)

  pub moments : Leaves (λ img. Old img ⊎ New img) o e → LeavesElsewhere p.start (slots_size p) o e → Leaves Trees o e
  moments run where_ = leaves_weaker (λ img. (Old img ⊎ New img) × FromNow p.start (slots_size p) o img) Trees o e
      (λ img both. let from = both.1 in
      ⊎_elim (λ is. inl (old-tree img from is)) (λ is. inr (tree-of-new img (from.3.long ∙ sound.image_fills o.clock from.0 from.1 from.2) is)) both.0)
      (leaves_both (λ img. Old img ⊎ New img) (FromNow p.start (slots_size p) o) o e run where_)

  -- in a view
  pub view-tree : V → (img : List ℕ) → SameElsewhere p.start (slots_size p) o.view img → newest_content p img ≡ Some (with_empty_journal body) → IsTree row at (data_at row at o.view) numbers v img
  view-tree shown img same is = tree-of-new img (same.long ∙ sound.view_fills shown) (is, same)
