use Rattle.std.proofs.Common.{refl, arith}
use Rattle.logbook_services.proofs.Lists.{taken_at}
use Rattle.logbook_services.proofs.Marks.{forgotten_more}
use Rattle.logbook_services.proofs.made.forget.Goals as goal

pub loop-k-preserved : goal.loop-k-preserved
loop-k-preserved c =
    let at = taken_at c.args.rows.now c.args.rows.now c.loop-k.k c.index-rows-k.result refl (omega (arith, c.loop-k-test.true, c.requires)) c.index-rows-k.is in
    forgotten_more c.args.p.0 c.loop-k.k c.args.rows.now c.loop-k.marks c.args.marks.now c.index-rows-k.result _ c.mark_without.result c.loop-k.invariant c.loop-k-test.true at c.mark_without.ensures
