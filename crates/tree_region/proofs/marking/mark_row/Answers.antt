use Rattle.std.proofs.Common.{arith, ◌≡◌, length, subst}
use Rattle.tree_region.specs.Marking.{IsNumberMarked, IsRowMarked}
use Rattle.tree_region.proofs.Marked.{row-more, row-none}
use Rattle.tree_region.proofs.marking.mark_row.Goals as goal

pub loop-k-init : goal.loop-k-init
loop-k-init c = row-none c.args.row.now c.args.used.now

pub mark_number-requires : goal.mark_number-requires
mark_number-requires c =
    let bound = c.requires c.loop-k.k in
    let long = c.loop-k.invariant.keeps.long in
    let is = c.at.ensures in
    omega arith

pub loop-k-preserved : goal.loop-k-preserved
loop-k-preserved c =
    row-more c.args.row.now c.loop-k.k c.args.used.now c.loop-k.used c.mark_number.new.used c.loop-k.invariant
    (subst (λ n. IsNumberMarked n c.loop-k.used c.mark_number.new.used) c.at.ensures c.mark_number.ensures)

pub returns : goal.returns
returns c = let all : c.loop-k.k ≡ length c.args.row.now = omega arith in subst (λ n. IsRowMarked c.args.row.now n c.args.used.now c.loop-k.used) all c.loop-k.invariant
