-- Why parts of an image aren't mounted.
use Rattle.std.specs.Prelude.{◌≡◌, ℕ, ◌+◌, List, Some, None, Err, slice_get}
use Rattle.apex_types.specs.Rows.{Rows}
use Rattle.apex_types.specs.declared.rows.TreeRow.{TreeRow}
use Rattle.apex_model.specs.Image.{states_from, tree_of_region, tree_region}
use Rattle.logbook_store.specs.declared.errors.LogError.{LogError}
use Rattle.logbook_store.specs.declared.errors.LogError.TheVariants as log
use Rattle.recover_scan.specs.declared.errors.MountError.{MountError}
use Rattle.recover_scan.specs.declared.errors.MountError.TheVariants.{TooSmall, NotFormatted, OtherTable, BadTree, BadLogbook, Device, Memory}
use Rattle.rig_core.specs.Causes.{Rose}
use Rattle.rig_core.specs.Outside.{Outside}
use Rattle.tree_region.specs.declared.stop.MountStop.{MountStop}
use Rattle.tree_region.specs.declared.stop.MountStop.TheVariants as stop

-- why a tree isn't mounted, as a reason for the image; a tree's number counts from 1
abbrev pub tree_error : ℕ → MountStop → MountError
tree_error tree stop.Bad = BadTree tree
tree_error tree stop.Device = Device
tree_error tree stop.Memory = Memory

-- why the logbooks aren't
abbrev pub log_error : LogError → MountError
log_error (log.Bad logbook) = BadLogbook logbook
log_error log.Device = Device
log_error log.Memory = Memory

-- This is the number of a tree, counted from 1, whose region stands for none, where the rig tells its view.
pub record IsBadTree (tells_view : Type 0) (table : Rows) (k : ℕ) (image : List ℕ) (tree : ℕ) : Type 0 where
  pub number : tree ≡ k + 1
  pub row : TreeRow
  pub there : slice_get table.trees k ≡ Some row
  pub none : tells_view → tree_of_region row (tree_region table image k row) ≡ None

-- The tree of this number isn't mounted: it is bad, or a read failed, or no memory was left.
abbrev pub IsNoTree : Type 0 → Rows → ℕ → Outside → Outside → MountError → Type 0
IsNoTree tells_view table k o e (TooSmall wanted) = ⊥
IsNoTree tells_view table k o e NotFormatted = ⊥
IsNoTree tells_view table k o e (OtherTable place) = ⊥
IsNoTree tells_view table k o e (BadTree tree) = IsBadTree tells_view table k o.view tree
IsNoTree tells_view table k o e (BadLogbook logbook) = ⊥
IsNoTree tells_view table k o e Device = Rose o.read_faults e.read_faults
IsNoTree tells_view table k o e Memory = Unit {0}

-- The trees of a table aren't: this one is the first whose region stands for none; or a read failed, or no memory was left.
abbrev pub AreNoTrees : Type 0 → Rows → Outside → Outside → MountError → Type 0
AreNoTrees tells_view table o e (TooSmall wanted) = ⊥
AreNoTrees tells_view table o e NotFormatted = ⊥
AreNoTrees tells_view table o e (OtherTable place) = ⊥
AreNoTrees tells_view table o e (BadTree tree) = tells_view → states_from (λ k row. tree_of_region row (tree_region table o.view k row)) 0 table.trees ≡ Err tree
AreNoTrees tells_view table o e (BadLogbook logbook) = ⊥
AreNoTrees tells_view table o e Device = Rose o.read_faults e.read_faults
AreNoTrees tells_view table o e Memory = Unit {0}
