-- What is kept of a slot with an empty journal: no record is held, and there is room for 32.
use Rattle.std.proofs.Common.{◌≡◌, inr, ℕ, ◌+◌, ◌*◌, ◌≤◌, List, length, take, sym, ap, subst, ◌∙◌, Some, arith}
use Rattle.apex_types.specs.declared.rows.TreeRow.{TreeRow}
use Rattle.apex_model.specs.Fields.{header_of}
use Rattle.apex_model.specs.Layout.{tree_blocks}
use Rattle.rig_core.specs.Bytes.{byte}
use Rattle.gate_slots.specs.Place.{gate_of}
use Rattle.meta_journal.specs.declared.Journal.{Journal}
use Rattle.meta_journal.specs.Journal as meta
use Rattle.meta_journal.specs.Leading.{records, HasNoneOpen}
use Rattle.tree_region.specs.Region.{slots_at, journal_of}
use Rattle.tree_region.proofs.Places.{version-there}
use Rattle.tree_region.specs.Contents.{HasNewSlot}

module _ (row : TreeRow) (at : ℕ) (img body : List ℕ) (slot : HasNewSlot row at img body) (j : Journal) (first : meta.first_of j ≡ journal_of row at slot.newest) (held : meta.held_of j ≡ 0) (room : meta.room_of j ≡ 32) where
  none-open : HasNoneOpen (meta.first_of j) 0 img
  none-open = subst (λ n. HasNoneOpen n 0 img) (sym first) slot.none_open

  pub emptied-held : meta.held_of j ≡ length (records (journal_of row at slot.newest) img)
  emptied-held = held ∙ sym (ap length slot.no_records)

  pub emptied-finds : meta.FindsRoom j img
  emptied-finds = inr (λ r from few opened. none-open r (omega arith) few opened, omega (arith, held, room))

  pub emptied-knows : meta.Knows j img
  emptied-knows = record {
    count = (λ i. length (records (first i) img)) ∙ sym emptied-held;
    closed = λ r from few opened. none-open r (omega arith) few opened;
  }

-- the version that the slot's body has
pub emptied-version : (row : TreeRow) (at : ℕ) (img body : List ℕ) → at + 512 * tree_blocks row ≤ length img → (slot : HasNewSlot row at img body) → (sequence version : ℕ) → header_of (take 64 body) ≡ Some (sequence, version)
    → byte img (gate_of (slots_at row at) slot.newest + 513) ≡ version
emptied-version row at img body fits slot sequence version header =
    version-there row at img fits slot.newest slot.low sequence version (ap (λ (bytes : List ℕ). header_of (take 64 bytes)) slot.body_is ∙ header)
