use Rattle.std.proofs.Common.{arith}
use Rattle.service_parts.proofs.TreeLimits.{few_trees}
use Rattle.service_parts.proofs.places.place_of_read_path.Goals as goal

-- there are few trees, so that the number of one is small
pub overflow_cast-result : goal.overflow_cast-result
overflow_cast-result c = omega (arith, few_trees c.args.table.now c.requires, c.in-Some.ensures.within)
