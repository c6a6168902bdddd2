-- The tree of a region, by what was read of it.
use Rattle.std.proofs.Common.{◌≡◌, ℕ, ◌+◌, ◌*◌, ◌≤◌, List, length, take, refl, ap, ◌∙◌, Option, Some, None, arith}
use Rattle.apex_types.specs.declared.rows.TreeRow.{TreeRow}
use Rattle.apex_model.specs.Durable.{StoredFile}
use Rattle.apex_model.specs.Fields.{header_of}
use Rattle.apex_model.specs.Image.{Entries, tree_of_entries, entries_of_body, replayed, tree_of_region}
use Rattle.apex_model.specs.Layout.{tree_blocks}
use Rattle.apex_model.specs.Trees.{Tree}
use Rattle.rig_core.specs.Bytes.{byte}
use Rattle.gate_slots.specs.Place.{gate_of, newest_slot}
use Rattle.meta_journal.specs.Leading.{records}
use Rattle.file_tree.specs.Entries.{TreeValue}
use Rattle.tree_region.specs.Replay as replay
use Rattle.tree_region.specs.declared.body.SlotBody.{SlotBody}
use Rattle.tree_region.specs.Bodies.{if_tree, HasBody, IsBody}
use Rattle.tree_region.specs.Region.{tree_over, region_at, data_of, slots_at, body_of, journal_of}
use Rattle.tree_region.proofs.Overlaid.{tree-is}
use Rattle.tree_region.proofs.Places.{slot-low, some-newest, data-long, body-there, records-there, version-there}
use Rattle.tree_region.proofs.Replaying.{replayed-none, replayed-some}

module _ (version : ℕ) (recs : List (List ℕ)) where
  abbrev after_tree : Entries → Option (Tree StoredFile) → Option (Tree StoredFile)
  after_tree entries o = elim o [ None ↦ None | Some tree ↦ elim (replayed version recs (Some entries)) [ None ↦ None | Some after ↦ tree_of_entries after ] ]

  abbrev after_entries : Option Entries → Option (Tree StoredFile)
  after_entries o = elim o [ None ↦ None | Some entries ↦ after_tree entries (tree_of_entries entries) ]

  abbrev with_tree : Entries → Option (Tree StoredFile) → Option Entries
  with_tree entries o = elim o [ None ↦ None | Some tree ↦ Some entries ]

  none-after : (o : Option Entries) → if_tree o ≡ None → after_entries o ≡ None
  none-after None h = refl
  none-after (Some entries) h =
      (elim (tree_of_entries entries) as (λ o. with_tree entries o ≡ None → after_tree entries o ≡ None) [
        | None ↦ λ k. refl
        | Some tree ↦ λ k. absurd (let wrong : ◌≡◌ {A = Option Entries} (Some entries) None = k in cc)
      ]) h

module _ (row : TreeRow) (at : ℕ) (image : List ℕ) (fits : at + 512 * tree_blocks row ≤ length image) (slot : ℕ) (newest : newest_slot (slots_at row at) image ≡ Some slot) where
  abbrev blocks : List ℕ
  blocks = data_of row (region_at row at image)

  abbrev body : List ℕ
  body = body_of row at slot image

  abbrev recs : List (List ℕ)
  recs = records (journal_of row at slot) image

  abbrev tree-from : List ℕ → List (List ℕ) → Option (Tree StoredFile)
  tree-from bytes rs = elim (header_of (take 64 bytes)) [ None ↦ None | Some header ↦ after_entries header.1 rs (entries_of_body header.1 row bytes blocks) ]

  region-is : tree_of_region row (region_at row at image) ≡ tree-from body recs
  region-is =
      let low = slot-low row at image fits slot newest in
      some-newest row at image fits slot newest ∙ (λ i. tree-from (body-there row at image fits slot low i) (records-there row at image fits slot low i))

  abbrev entries-by : Option (ℕ × ℕ) → Option Entries
  entries-by o = elim o [ None ↦ None | Some header ↦ if_tree (entries_of_body header.1 row body blocks) ]

  abbrev tree-by : Option (ℕ × ℕ) → Option (Tree StoredFile)
  tree-by o = elim o [ None ↦ None | Some header ↦ after_entries header.1 recs (entries_of_body header.1 row body blocks) ]

  -- a bad body
  pub bad-body : IsBody row body None → tree_of_region row (region_at row at image) ≡ None
  bad-body bad =
      region-is
      ∙ (elim (header_of (take 64 body)) as (λ o. entries-by o ≡ None → tree-by o ≡ None) [
        | None ↦ λ h. refl
        | Some header ↦ λ h. none-after header.1 recs (entries_of_body header.1 row body blocks) h
      ]) (bad blocks (data-long row at image fits))

  module _ (kept : SlotBody) (is : IsBody row body (Some kept)) (files : length kept.tree.files ≡ row.files) (directories : length kept.tree.directories ≡ row.directories)
      (few_files : row.files ≤ 255) (few_directories : row.directories ≤ 255) where
    has : HasBody row body blocks kept
    has = is.0 blocks (data-long row at image fits)

    after-is : tree-from body recs ≡ elim (replayed kept.version recs (Some has.entries)) [ None ↦ None | Some after ↦ tree_of_entries after ]
    after-is =
        ap tree-by has.header
        ∙ ap (after_entries kept.version recs) has.spelled
        ∙ ap (after_tree kept.version recs has.entries) has.read.made

    -- a record that is not spelled or does not apply
    pub bad-records : replay.replayed kept.version (Some kept.tree) recs ≡ None → tree_of_region row (region_at row at image) ≡ None
    bad-records none =
        region-is ∙ after-is
        ∙ ap (λ (o : Option Entries). elim o [ None ↦ None | Some after ↦ tree_of_entries after ])
        (replayed-none blocks kept.table.files.items kept.version recs has.entries kept.tree has.read (omega (arith, files, few_files)) (omega (arith, directories, few_directories)) none)

    -- the tree of the names after all records
    pub good-tree : (w : TreeValue) → replay.replayed kept.version (Some kept.tree) recs ≡ Some w
        → tree_of_region row (region_at row at image) ≡ Some (tree_over blocks w kept.table.files.items)
    good-tree w some =
        let after = replayed-some blocks kept.table.files.items kept.version recs has.entries kept.tree has.read (omega (arith, files, few_files)) (omega (arith, directories, few_directories)) w some in
        region-is ∙ after-is
        ∙ ap (λ (o : Option Entries). elim o [ None ↦ None | Some after ↦ tree_of_entries after ]) after.1
        ∙ tree-is blocks w kept.table.files.items after.0 after.2

  -- the version of the slot
  pub good-version : (kept : SlotBody) → IsBody row body (Some kept) → byte image (gate_of (slots_at row at) slot + 513) ≡ kept.version
  good-version kept is =
      let has = is.0 blocks (data-long row at image fits) in
      version-there row at image fits slot (slot-low row at image fits slot newest) has.sequence kept.version has.header
