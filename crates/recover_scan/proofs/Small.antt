-- That a device is too small is told of its size alone.
use Rattle.std.proofs.Common.{◌≡◌, ℕ}
use Rattle.apex_types.specs.Rows.{Rows}
use Rattle.recover_scan.specs.Mount.{IsFaultOrMemory, IsSmallFor}
use Rattle.recover_scan.specs.declared.errors.MountError.{MountError}
use Rattle.recover_scan.specs.declared.errors.MountError.TheVariants.{TooSmall, NotFormatted, OtherTable, BadTree, BadLogbook, Device, Memory}

module _ (table : Rows) (size : ℕ) where
  -- other reasons
  pub closed_is_other : IsSmallFor table size NotFormatted
  closed_is_other wanted is = absurd cc

  pub table_is_other : (place : ℕ) → IsSmallFor table size (OtherTable place)
  table_is_other place wanted is = absurd cc

  pub tree_is_other : (tree : ℕ) → IsSmallFor table size (BadTree tree)
  tree_is_other tree wanted is = absurd cc

  pub logbook_is_other : (logbook : ℕ) → IsSmallFor table size (BadLogbook logbook)
  logbook_is_other logbook wanted is = absurd cc

  pub device_is_other : IsSmallFor table size Device
  device_is_other wanted is = absurd cc

  pub memory_is_other : IsSmallFor table size Memory
  memory_is_other wanted is = absurd cc

  pub fault_is_other : (error : MountError) → IsFaultOrMemory error → IsSmallFor table size error
  fault_is_other (TooSmall wanted) fault = absurd fault
  fault_is_other NotFormatted fault = closed_is_other
  fault_is_other (OtherTable place) fault = table_is_other place
  fault_is_other (BadTree tree) fault = tree_is_other tree
  fault_is_other (BadLogbook logbook) fault = logbook_is_other logbook
  fault_is_other Device fault = device_is_other
  fault_is_other Memory fault = memory_is_other
