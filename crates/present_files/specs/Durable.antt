-- What of a region that is kept stays while blocks of its files are written back.
use Rattle.std.specs.Prelude.{◌≡◌, ℕ, length}
use Rattle.apex_model.specs.Image.{tree_of_region}
use Rattle.apex_types.specs.declared.rows.TreeRow.{TreeRow}
use Rattle.rig_core.specs.Leaves.{Leaves}
use Rattle.rig_core.specs.Outside.{Outside}
use Rattle.tree_region.specs.Region.{region_at}
use Rattle.tree_region.specs.declared.region.TreeRegion.{TreeRegion}

-- All that is durable stays as it is known: the names with sizes and change counts, the block numbers, and which slot is newest with its
-- journal. Only the marks of used blocks may change, and there are as many.
pub record KeepsDurable (old new : TreeRegion) : Type 0 where
  pub slots : new.slots ≡ old.slots
  pub version : new.version ≡ old.version
  pub journal : new.journal ≡ old.journal
  pub tree : new.tree ≡ old.tree
  pub files : new.table.files ≡ old.table.files
  pub marks : length new.table.used ≡ length old.table.used

-- at every moment since old, each image that a cut may leave stands for the tree that reads gave then
abbrev pub KeepsTree : TreeRow → ℕ → Outside → Outside → Type 0
KeepsTree row at old new = Leaves (λ image. tree_of_region row (region_at row at image) ≡ tree_of_region row (region_at row at old.view)) old new
