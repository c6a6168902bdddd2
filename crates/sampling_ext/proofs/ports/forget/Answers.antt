use Rattle.sampling_ext.proofs.Marks.{forgotten_more}
use Rattle.sampling_ext.proofs.ports.forget.Goals as goal

pub loop-k-preserved : goal.loop-k-preserved
loop-k-preserved c =
    forgotten_more c.args.p.0 c.loop-k.k c.args.list.now c.loop-k.created c.args.created.now c.at.result.now _ c.mark_without.result c.loop-k.invariant c.loop-k-test.true c.at.ensures
    c.mark_without.ensures
