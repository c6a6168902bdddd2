use Rattle.std.proofs.Common.{length}
use Rattle.config_table.proofs.repeats.+all_differ.Given as goal

abbrev pub decreases-all_differ : goal.decreases-all_differ
decreases-all_differ g l = length l.rows.now
