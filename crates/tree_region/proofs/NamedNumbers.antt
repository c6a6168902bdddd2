-- The numbers that the newest slot's files have after its records are among those of its body.
use Rattle.std.proofs.Common.{◌≡◌, ℕ, zero, suc, ◌+◌, ◌*◌, ◌≤◌, inl, inr, Bool, true, false, cond, List, [], ◌∷◌, length, take, drop, refl, ap, subst, ◌∙◌, Option, Some, None}
use Rattle.std.specs.Prelude.{Contains, option_map, flat_map}
use Rattle.std.specs.List.{range_with_len}
use Rattle.apex_types.specs.declared.fields.FileEntryField.{FileEntryField}
use Rattle.apex_types.specs.declared.fields.FileEntryField.TheVariants.{Unused, Used}
use Rattle.apex_types.specs.declared.rows.TreeRow.{TreeRow}
use Rattle.apex_model.specs.Durable.{StoredFile}
use Rattle.apex_model.specs.Fields.{header_of, entry_of_bytes}
use Rattle.apex_model.specs.Files.{blocks_of}
use Rattle.apex_model.specs.Image.{Entry, Entries, all_answers, directory_entry, entry_bytes, has_good_blocks, replayed}
use Rattle.apex_model.specs.Layout.{slot_blocks, tree_blocks}
use Rattle.block_quota.specs.Blocks.{is_used}
use Rattle.gate_slots.specs.Place.{newest_slot}
use Rattle.image_laws.specs.NamedBlocks.{listed_files, listed_of_fields, listed_of_body, numbers_of_entry, numbers_of, named_in_slot, named_blocks}
use Rattle.meta_journal.specs.Leading.{records}
use Rattle.file_tree.specs.Entries.{slot}
use Rattle.file_tree.proofs.ReadBodies.{mapped}
use Rattle.file_tree.proofs.Ways.{not_some}
use Rattle.tree_region.specs.Numbers.{AreUsed, numbers_in, rest_of}
use Rattle.tree_region.specs.Region.{region_at, slots_at, body_of, journal_of}
use Rattle.tree_region.proofs.Contained.{none-in, in-either, from-take, from-drop, any-in}
use Rattle.tree_region.proofs.Places.{newest-there, slot-low, body-there, records-there}
use Rattle.tree_region.proofs.Replaying.{none-replayed, all-replayed}

-- ---- the numbers of files

module _ (numbers : List ℕ) where
  -- the numbers of a listed file are among these
  abbrev AreAmong : ℕ → StoredFile → Type 0
  AreAmong f stored = (n : ℕ) → Contains (drop 1 stored.content) n → Contains numbers n

  abbrev AllAmong : List (Option Entry) → Type 0
  AllAmong files = (f : ℕ) (entry : Entry) → slot files f ≡ Some entry → AreAmong f entry.stored

  listed-among : (own : List ℕ) → ((n : ℕ) → Contains own n → Contains numbers n) → (fields : List FileEntryField) → AllAmong (listed_files own fields)
  listed-among own sub [] f entry h = absurd (not_some h)
  listed-among own sub (Unused ∷ fields) zero entry h = absurd (not_some h)
  listed-among own sub (Unused ∷ fields) (suc f) entry h = listed-among own sub fields f entry h
  listed-among own sub (Used name parent size changes ∷ fields) zero entry h =
      let first : Entry = record { name = name; parent = parent.0; stored = record { content = size ∷ take (blocks_of size) own; changes = changes } } in
      let same : first ≡ entry = cc in
      subst (λ (e : Entry). AreAmong 0 e.stored) same (λ n there. sub n (from-take (blocks_of size) own n there))
  listed-among own sub (Used name parent size changes ∷ fields) (suc f) entry h =
      listed-among (drop (blocks_of size) own) (λ n there. sub n (from-drop (blocks_of size) own n there)) fields f entry h

  -- and so are those of files, if each is
  files-among : (files : List (Option Entry)) → AllAmong files → (n : ℕ) → Contains (flat_map numbers_of_entry files) n → Contains numbers n
  files-among [] has n there = absurd (none-in n there)
  files-among (None ∷ files) has n there = files-among files (λ f. has (suc f)) n there
  files-among (Some entry ∷ files) has n there = elim (in-either (drop 1 entry.stored.content) (flat_map numbers_of_entry files) n there) [
    | inl a ↦ has 0 entry refl n a
    | inr b ↦ files-among files (λ f. has (suc f)) n b
  ]

-- ---- the body and its records

module _ (row : TreeRow) (body : List ℕ) where
  abbrev own-numbers : List ℕ
  own-numbers = numbers_in row body

  good-among : (fields : List FileEntryField) (b : Bool) (directories : Option (List (Option Entry))) (listed : Entries)
      → cond b (option_map (λ ds. record { files = listed_files own-numbers fields; directories = ds }) directories) None ≡ Some listed → AllAmong own-numbers listed.files
  good-among fields false directories listed h = absurd (let e : ◌≡◌ {A = Option Entries} None (Some listed) = h in cc)
  good-among fields true directories listed h =
      let m = mapped (λ (ds : List (Option Entry)). let e : Entries = record { files = listed_files own-numbers fields; directories = ds } in e) directories listed h in
      subst (λ (e : Entries). AllAmong own-numbers e.files) m.2 (listed-among own-numbers own-numbers (λ n there. there) fields)

  abbrev listed-behind : Option (List FileEntryField) → Option (List FileEntryField) → Option Entries
  listed-behind fields directories =
      elim fields [ None ↦ None | Some fs ↦ elim directories [ None ↦ None | Some ds ↦ listed_of_fields row own-numbers (rest_of row body) fs ds ] ]

  behind-among : (fields directories : Option (List FileEntryField)) (listed : Entries) → listed-behind fields directories ≡ Some listed → AllAmong own-numbers listed.files
  behind-among None directories listed h = absurd (let e : ◌≡◌ {A = Option Entries} None (Some listed) = h in cc)
  behind-among (Some fs) None listed h = absurd (let e : ◌≡◌ {A = Option Entries} None (Some listed) = h in cc)
  behind-among (Some fs) (Some ds) listed h = good-among fs (has_good_blocks row fs own-numbers (rest_of row body)) (all_answers directory_entry ds) listed h

  module _ (version : ℕ) (recs : List (List ℕ)) where
    body-among : (listed : Entries) → listed_of_body version row body ≡ Some listed → AllAmong own-numbers listed.files
    body-among listed h =
        behind-among (all_answers (λ k. entry_of_bytes version (entry_bytes body k)) (range_with_len 0 row.files))
        (all_answers (λ k. entry_of_bytes version (entry_bytes body k)) (range_with_len row.files row.directories)) listed h

    names-among : (n : ℕ) → Contains (numbers_of (replayed version recs (listed_of_body version row body))) n → Contains own-numbers n
    names-among n =
        (elim (listed_of_body version row body) as (λ o. listed_of_body version row body ≡ o → Contains (numbers_of (replayed version recs o)) n → Contains own-numbers n) [
          | None ↦ λ is there. absurd (none-in n (subst (λ (o : Option Entries). Contains (numbers_of o) n) (none-replayed version recs) there))
          | Some listed ↦ λ is there.
              (elim (replayed version recs (Some listed)) as (λ o. replayed version recs (Some listed) ≡ o → Contains (numbers_of o) n → Contains own-numbers n) [
                | None ↦ λ gone k. absurd (none-in n k)
                | Some after ↦ λ made k.
                    files-among own-numbers after.files
                    (all-replayed (AreAmong own-numbers) (λ k m wrong. absurd (none-in m wrong)) version recs listed after (body-among listed is) made) n k
              ]) refl there
        ]) refl

-- the numbers that a body and its records name
abbrev names-by : TreeRow → Option (ℕ × ℕ) → List ℕ → List (List ℕ) → List ℕ
names-by row header bytes rs = elim header [ None ↦ [] | Some h ↦ numbers_of (replayed h.1 rs (listed_of_body h.1 row bytes)) ]

-- ---- the region

module _ (row : TreeRow) (at : ℕ) (image : List ℕ) (fits : at + 512 * tree_blocks row ≤ length image) (slot : ℕ) (newest : newest_slot (slots_at row at) image ≡ Some slot) where
  abbrev body : List ℕ
  body = body_of row at slot image

  abbrev recs : List (List ℕ)
  recs = records (journal_of row at slot) image

  names-are : named_blocks row (region_at row at image) ≡ names-by row (header_of (take 64 body)) body recs
  unfolding named_blocks
  names-are =
      let low = slot-low row at image fits slot newest in
      ap (λ (o : Option ℕ). elim o [ None ↦ [] | Some s ↦ named_in_slot row (region_at row at image) (s * slot_blocks row) ]) (newest-there row at image fits ∙ newest)
      ∙ (λ i. names-by row (header_of (take 64 (body-there row at image fits slot low i))) (body-there row at image fits slot low i) (records-there row at image fits slot low i))

  by-header : (header : Option (ℕ × ℕ)) (n : ℕ) → Contains (names-by row header body recs) n → Contains (numbers_in row body) n
  by-header None n there = absurd (none-in n there)
  by-header (Some h) n there = names-among row body h.1 recs n there

  -- what the region names is among the numbers of its body
  pub named-in : (n : ℕ) → Contains (named_blocks row (region_at row at image)) n → Contains (numbers_in row body) n
  named-in n there = by-header (header_of (take 64 body)) n (subst (λ (ns : List ℕ). Contains ns n) names-are there)

  -- a named block is used
  pub named-used : (used : List Bool) → AreUsed row.quota (numbers_in row body) used → (n : ℕ) → Contains (named_blocks row (region_at row at image)) n → 1 ≤ n → n ≤ 2 * row.quota → is_used used n ≡ true
  named-used used are n there one few =
      are.named n one few ∙ any-in (numbers_in row body) n (named-in n there)
