use Rattle.std.proofs.Common.{arith}
use Rattle.tree_region.proofs.MarkedTables.{marked-none, marked-some, marked-twice, marked-more, marked-end}
use Rattle.tree_region.proofs.used.used_blocks.Goals as goal

pub returns-then-not-mark_number : goal.returns-then-not-mark_number
returns-then-not-mark_number c =
    marked-none c.args.quota c.args.numbers.now c.requires
    (marked-twice c.args.quota c.args.numbers.now c.loop-k.k c.loop-k.used c.loop-k.invariant (search arith) c.if-not-mark_number.ensures.next)

pub loop-k-preserved : goal.loop-k-preserved
loop-k-preserved c =
    marked-more c.args.quota c.args.numbers.now c.loop-k.k c.loop-k.used c.loop-k.invariant c.mark_number.new.used (search arith) c.if-not-mark_number.ensures.long c.if-not-mark_number.ensures.next

pub returns : goal.returns
returns c =
    marked-some c.args.quota c.args.numbers.now c.requires c.loop-k.used
    (marked-end c.args.quota c.args.numbers.now c.loop-k.k c.loop-k.used c.loop-k.invariant (search arith))
