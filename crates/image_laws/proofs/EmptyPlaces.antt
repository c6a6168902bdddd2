-- Empty regions by zeros, and while their bytes stay.
use Rattle.std.proofs.Common.{◌≡◌, ℕ, ◌+◌, ◌*◌, ◌<◌, ◌≤◌, List, sym, ◌∙◌, arith}
use Rattle.std.specs.Prelude.{slice_index}
use Rattle.apex_types.specs.declared.rows.LogbookRow.{LogbookRow}
use Rattle.apex_types.specs.declared.rows.TreeRow.{TreeRow}
use Rattle.apex_model.specs.Layout.{body_blocks, slot_blocks, logbook_blocks}
use Rattle.image_laws.specs.EmptyImage.{IsOpenAt, IsClosedAt, AreZeros, IsEmptyTree, IsEmptyLogbook}

-- a gate of a byte that is zero
pub zero_closed : (gate : ℕ) (image : List ℕ) → slice_index image gate ≡ 0 → IsClosedAt gate image
zero_closed gate image zero opened = omega (arith, zero, opened)

-- the slots are zeros but for the gate of slot 0 and its version
pub tree_of_zeros : (row : TreeRow) (first : ℕ) (image : List ℕ) → IsOpenAt first image → slice_index image (first + 513) ≡ 2
    → AreZeros (first + 1) (first + 513) image → AreZeros (first + 514) (first + 512 * (2 * slot_blocks row)) image → IsEmptyTree row first image
tree_of_zeros row first image opened version front back = record {
  opened = opened;
  sequence = front (first + 512) (omega arith) (omega arith);
  version = version;
  body = λ k low high. back k low (omega (arith, high));
  journal = λ r low. zero_closed (first + 512 * (1 + body_blocks row) + 1024 * r) image (back (first + 512 * (1 + body_blocks row) + 1024 * r) (omega arith) (omega (arith, low)));
  other = zero_closed (first + 512 * slot_blocks row) image (back (first + 512 * slot_blocks row) (omega arith) (omega arith));
}

-- the region is zeros but for the gate of header 0
pub logbook_of_zeros : (row : LogbookRow) (first : ℕ) (image : List ℕ) → IsOpenAt first image → AreZeros (first + 1) (first + 512 * logbook_blocks row) image → IsEmptyLogbook row first image
logbook_of_zeros row first image opened zeros = record {
  opened = opened;
  header = λ k low high. zeros k (omega (arith, low)) (omega (arith, high));
  other = zero_closed (first + 1024) image (zeros (first + 1024) (omega arith) (omega arith));
  places = λ place low. zero_closed (first + 512 * (4 + 2 * place)) image (zeros (first + 512 * (4 + 2 * place)) (omega arith) (omega (arith, low)));
}

-- a tree stays empty while the bytes of its slots do
pub empty_tree_stays : (row : TreeRow) (first : ℕ) (old new : List ℕ) → ((k : ℕ) → first ≤ k → k < first + 512 * (2 * slot_blocks row) → slice_index new k ≡ slice_index old k)
    → IsEmptyTree row first old → IsEmptyTree row first new
empty_tree_stays row first old new same empty = record {
  opened = same first (omega arith) (omega arith) ∙ empty.opened;
  sequence = same (first + 512) (omega arith) (omega arith) ∙ empty.sequence;
  version = same (first + 513) (omega arith) (omega arith) ∙ empty.version;
  body = λ k low high. same k (omega (arith, low)) (omega (arith, high)) ∙ empty.body k low high;
  journal = λ r low opened. empty.journal r low (sym (same (first + 512 * (1 + body_blocks row) + 1024 * r) (omega arith) (omega (arith, low))) ∙ opened);
  other = λ opened. empty.other (sym (same (first + 512 * slot_blocks row) (omega arith) (omega arith)) ∙ opened);
}

-- a logbook stays empty while its bytes do
pub empty_logbook_stays : (row : LogbookRow) (first : ℕ) (old new : List ℕ) → ((k : ℕ) → first ≤ k → k < first + 512 * logbook_blocks row → slice_index new k ≡ slice_index old k)
    → IsEmptyLogbook row first old → IsEmptyLogbook row first new
empty_logbook_stays row first old new same empty = record {
  opened = same first (omega arith) (omega arith) ∙ empty.opened;
  header = λ k low high. same k (omega (arith, low)) (omega (arith, high)) ∙ empty.header k low high;
  other = λ opened. empty.other (sym (same (first + 1024) (omega arith) (omega arith)) ∙ opened);
  places = λ place low opened. empty.places place low (sym (same (first + 512 * (4 + 2 * place)) (omega arith) (omega (arith, low))) ∙ opened);
}
