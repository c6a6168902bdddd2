use Rattle.std.proofs.Common.{length}
use Rattle.tree_region.proofs.Taken.{never-full}
use Rattle.tree_region.proofs.taking.take_free.Goals as goal

pub unreachable-requires : goal.unreachable-requires
unreachable-requires c = never-full c.mark_anew.new.table.used (length c.take.new.self) c.mark_anew.ensures.long c.mark_anew.ensures.few c.in-None.ensures.number
