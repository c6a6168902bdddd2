use Rattle.std.proofs.Common.{◌≡◌, ◌+◌, drop}
use Rattle.std.specs.Prelude.{sum_by}
use Rattle.apex_model.specs.Layout.{logbook_blocks}
use Rattle.config_table.proofs.room.left_by_logbooks.Given as goal

abbrev pub invariant-loop-logbook : goal.invariant-loop-logbook
invariant-loop-logbook l = sum_by logbook_blocks l.logbooks + l.left ≡ sum_by logbook_blocks (drop l.logbook-index l.logbooks) + l.blocks
