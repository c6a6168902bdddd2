use Rattle.std.proofs.Common.{◌≡◌, ℕ, ◌*◌, ◌<◌, ◌≤◌, Some, slice_get}
use Rattle.apex_types.specs.declared.rows.LogbookRow.{LogbookRow}
use Rattle.apex_model.specs.Layout.{logbook_blocks}
use Rattle.recover_scan.proofs.runs.longest_of_logbooks.Given as goal

-- it is long enough for the logbooks so far
abbrev pub invariant-loop-logbook : goal.invariant-loop-logbook
invariant-loop-logbook l = record {
  least : l.least ≤ l.longest;
  logbooks : (logbook : ℕ) (row : LogbookRow) → logbook < l.logbook → slice_get l.table.logbooks logbook ≡ Some row → 512 * logbook_blocks row ≤ l.longest;
}
