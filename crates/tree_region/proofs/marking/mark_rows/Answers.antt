use Rattle.std.proofs.Common.{arith, ℕ, ◌≡◌, ◌≤◌, List, [], length, get_or, subst, sym}
use Rattle.std.proofs.lemmas.List.{get_or_read}
use Rattle.tree_region.specs.Marking.{AreRowsMarked}
use Rattle.tree_region.specs.OwnedRows.{number_at}
use Rattle.tree_region.proofs.Marked.{rows-more, rows-none}
use Rattle.tree_region.proofs.marking.mark_rows.Goals as goal

pub loop-f-init : goal.loop-f-init
loop-f-init c = rows-none c.args.rows.now c.args.used.now

pub mark_row-requires : goal.mark_row-requires
mark_row-requires c =
    let here = get_or_read c.args.rows.now c.loop-f.f c.index-rows-f.result c.loop-f-test.true c.index-rows-f.is [] in
    λ k. subst (λ (row : List ℕ). get_or row k 0 ≤ length c.loop-f.used) (sym here)
    (subst (λ n. number_at c.args.rows.now c.loop-f.f k ≤ n) (sym c.loop-f.invariant.keeps.long) (c.requires c.loop-f.f k))

pub loop-f-preserved : goal.loop-f-preserved
loop-f-preserved c =
    rows-more c.args.rows.now c.loop-f.f c.index-rows-f.result c.args.used.now c.loop-f.used c.mark_row.new.used
    (get_or_read c.args.rows.now c.loop-f.f c.index-rows-f.result c.loop-f-test.true c.index-rows-f.is []) c.loop-f.invariant c.mark_row.ensures

pub returns : goal.returns
returns c = let all : c.loop-f.f ≡ length c.args.rows.now = omega arith in subst (λ n. AreRowsMarked c.args.rows.now n c.args.used.now c.loop-f.used) all c.loop-f.invariant
