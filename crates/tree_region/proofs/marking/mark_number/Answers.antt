use Rattle.std.proofs.Common.{arith, subst, sym}
use Rattle.tree_region.specs.Marking.{IsNumberMarked}
use Rattle.tree_region.proofs.Marked.{number-marked, zero-marked}
use Rattle.tree_region.proofs.marking.mark_number.Goals as goal

pub returns-then-number-eq0 : goal.returns-then-number-eq0
returns-then-number-eq0 c = subst (λ n. IsNumberMarked n c.args.used.now c.args.used.now) (sym c.if-number-eq0.true) (zero-marked c.args.used.now)

pub returns : goal.returns
returns c =
    number-marked c.args.number c.args.used.now c.mark.new.self (omega arith) c.requires c.mark.result c.mark.ensures.used c.mark.ensures.same c.mark.ensures.free
    c.mark.ensures.marked
