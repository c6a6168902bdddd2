-- When what is kept of a tree's region may become its content.
use Rattle.std.specs.Prelude.{◌≡◌, ℕ}
use Rattle.apex_types.specs.declared.rows.TreeRow.{TreeRow}
use Rattle.apex_model.specs.Image.{tree_of_region}
use Rattle.rig_core.specs.Leaves.{IsSettled}
use Rattle.rig_core.specs.Outside.{Outside, AllNow}
use Rattle.gate_slots.specs.Slots.{Knows}
use Rattle.tree_region.specs.GoodNumbers.{HasGoodNumbers}
use Rattle.tree_region.specs.InStep.{slots_long}
use Rattle.tree_region.specs.Numbers.{HasNumbers}
use Rattle.tree_region.specs.Region.{HasLimits, IsWithin, region_at}
use Rattle.tree_region.specs.declared.region.TreeRegion.{TreeRegion}

-- What is kept may become the content of its region: it is known which slot is newest, whatever is pending leaves the region standing for the same tree, and the block
-- numbers of its files are good ones, those of used blocks.
pub record IsReady (tells_view : Type 0) (row : TreeRow) (at : ℕ) (o : Outside) (kept : TreeRegion) : Type 0 where
  pub within : IsWithin row at kept
  pub limits : HasLimits row kept
  pub numbers : HasNumbers row kept.table
  pub good : HasGoodNumbers row kept.tree kept.table.files.items
  pub slots : tells_view → Knows kept.slots o.view
  pub settled : IsSettled at (slots_long row) o
  pub same_tree : AllNow (λ image. tree_of_region row (region_at row at image) ≡ tree_of_region row (region_at row at o.view)) o
