use Rattle.std.proofs.Common.{◌≡◌, ℕ, subst, ◌∙◌, arith}
use Rattle.present_files.specs.Dropped.{AreDropped}
use Rattle.present_files.proofs.GivenUp.{drop-then}
use Rattle.present_files.proofs.resizing.drop_blocks.Goals as goal

pub loop-k-preserved : goal.loop-k-preserved
loop-k-preserved c = record {
  dropped = drop-then c.args.present.now.numbers.items c.loop-k.present.numbers.items c.drop_block.new.present.numbers.items c.args.present.now.pool c.loop-k.present.pool c.drop_block.new.present.pool c.args.file c.args.from c.loop-k.k
      (omega arith) c.loop-k.invariant.dropped c.drop_block.ensures.dropped;
  sizes = c.drop_block.ensures.sizes ∙ c.loop-k.invariant.sizes;
  present = c.drop_block.ensures.present;
  free = omega (arith, c.loop-k.invariant.free, c.drop_block.ensures.free);
}

pub returns-clause-dropped : goal.returns-clause-dropped
returns-clause-dropped c =
    let same : c.loop-k.k ≡ c.args.to = search arith in
    subst (λ (n : ℕ). AreDropped c.args.file c.args.from n c.args.present.now.numbers.items c.loop-k.present.numbers.items c.args.present.now.pool c.loop-k.present.pool) same c.loop-k.invariant.dropped
