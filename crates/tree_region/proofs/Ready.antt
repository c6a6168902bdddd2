-- A region that is in step may become what is kept of it.
use Rattle.std.proofs.Common.{ℕ}
use Rattle.apex_types.specs.declared.rows.TreeRow.{TreeRow}
use Rattle.rig_core.specs.Outside.{Outside}
use Rattle.tree_region.specs.InStep.{InStep}
use Rattle.tree_region.specs.Ready.{IsReady}
use Rattle.tree_region.specs.declared.region.TreeRegion.{TreeRegion}

pub ready : (V : Type 0) (row : TreeRow) (at : ℕ) (o : Outside) (kept : TreeRegion) → InStep V row at o kept → IsReady V row at o kept
ready V row at o kept step = record {
  within = step.within;
  limits = step.limits;
  numbers = step.numbers;
  good = step.good;
  slots = λ shown. (step.stands shown).slots;
  settled = step.settled;
  same_tree = step.same_tree;
}
