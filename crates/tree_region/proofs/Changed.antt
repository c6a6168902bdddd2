-- A change of names in what is kept, before it becomes the region's content.
use Rattle.std.proofs.Common.{◌≡◌, ℕ, ◌+◌, ◌<◌, ◌≤◌, ◌∙◌, Some, arith}
use Rattle.apex_types.specs.declared.fields.RecordField.{RecordField}
use Rattle.apex_types.specs.declared.rows.TreeRow.{TreeRow}
use Rattle.file_tree.specs.Entries.{TreeValue}
use Rattle.file_tree.specs.Records.{applied}
use Rattle.tree_region.proofs.Lengths.{applied-long}
use Rattle.tree_region.proofs.Stored.{applied-stored}
use Rattle.meta_journal.specs.Journal as meta
use Rattle.meta_journal.specs.Leading.{gate_of}
use Rattle.rig_core.specs.Leaves.{LeavesElsewhere}
use Rattle.rig_core.specs.Outside.{Outside}
use Rattle.rig_core.proofs.Moments.{leaves_elsewhere_wider}
use Rattle.tree_region.specs.InStep.{InStep, slots_long}
use Rattle.tree_region.specs.Ready.{IsReady}
use Rattle.tree_region.proofs.GoodNumbers.{good-kept}
use Rattle.tree_region.specs.Region.{IsWithin}
use Rattle.tree_region.specs.declared.region.TreeRegion.{TreeRegion}

module _ (V : Type 0) (row : TreeRow) (at : ℕ) (kept : TreeRegion) (o : Outside) (step : InStep V row at o kept) (change : RecordField) (after : TreeValue) (applies : applied kept.tree change ≡ Some after) where
  -- what is kept with the tree after the change may become the region's content
  pub ready-applied : IsReady V row at o (record { slots = kept.slots; version = kept.version; journal = kept.journal; tree = after; table = kept.table })
  ready-applied =
      let longs = applied-long kept.tree after change applies in
      record {
        within = record { place = step.within.place; from = step.within.from; to = step.within.to; few = step.within.few };
        limits = record { files = longs.files ∙ step.limits.files; directories = longs.directories ∙ step.limits.directories; table = step.limits.table; rooms = step.limits.rooms };
        numbers = step.numbers;
        good = good-kept row kept.tree after kept.table.files.items (applied-stored kept.tree after change applies) step.good;
        slots = λ shown. (step.stands shown).slots;
        settled = step.settled;
        same_tree = step.same_tree;
      }

-- a record's blocks are in the slots
module _ (row : TreeRow) (at : ℕ) (kept : TreeRegion) (within : IsWithin row at kept) (room : 0 < meta.room_of kept.journal) where
  abbrev gate : ℕ
  gate = gate_of (meta.first_of kept.journal) (meta.held_of kept.journal)

  gate-low : at ≤ gate
  gate-low = omega (arith, within.from)

  gate-high : gate + 1024 ≤ at + slots_long row
  gate-high = omega (arith, within.to, room, kept.journal.few)

  pub wider-leaves : (o e : Outside) → LeavesElsewhere gate 1024 o e → LeavesElsewhere at (slots_long row) o e
  wider-leaves o e run = leaves_elsewhere_wider gate 1024 at (slots_long row) o e gate-low gate-high run
