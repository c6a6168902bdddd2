use Rattle.std.proofs.Common.{Bool, false, refl}
use Rattle.sampling_ext.proofs.Lists.{mapped_more}
use Rattle.sampling_ext.proofs.channel.take_back.Goals as goal

pub loop-mark-preserved : goal.loop-mark-preserved
loop-mark-preserved c = mapped_more (λ (mark : Bool). false) c.loop-mark.marks _ c.loop-mark.mark-index false false c.loop-mark.invariant c.loop-mark-test.true refl
