use Rattle.std.proofs.Common.{sym}
use Rattle.present_files.proofs.HeldBlocks.{others-written}
use Rattle.present_files.proofs.holding.put_held.Goals as goal

pub returns-clause-others : goal.returns-clause-others
returns-clause-others c = others-written c.args.pool.now c.args.file c.args.k c.in-Some.node (sym c.in-Some.ensures.found) c.put_over.new.into
