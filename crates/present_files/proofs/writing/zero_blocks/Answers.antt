use Rattle.std.proofs.Common.{◌≤◌, ◌∙◌, arith}
use Rattle.present_files.proofs.HeldBlocks.{held-next, more-next}
use Rattle.present_files.proofs.writing.zero_blocks.Goals as goal

pub loop-k-preserved : goal.loop-k-preserved
loop-k-preserved c =
    let before = c.loop-k.invariant in
    let old = c.loop-k.present in
    let new = c.zero_buffer.new.present in
    let k = c.loop-k.k in
    let first : c.args.from ≤ k = search arith in
    record {
      held = held-next old.pool new.pool c.args.file c.args.from k before.held c.zero_buffer.ensures.others c.zero_buffer.ensures.held;
      absent = λ j low high. c.zero_buffer.ensures.others.nodes c.args.file j (λ _ e. omega (arith, low, e)) ∙ before.absent j (omega (arith, low)) high;
      more = more-next c.args.present.now.pool old.pool new.pool c.args.file k before.more c.zero_buffer.ensures.others c.zero_buffer.ensures.held;
      same = λ blocks h j. c.zero_buffer.ensures.same blocks h j ∙ before.same blocks h j;
      present = c.zero_buffer.ensures.present;
      sizes = c.zero_buffer.ensures.sizes ∙ before.sizes;
      numbers = c.zero_buffer.ensures.numbers ∙ before.numbers;
      buffers = c.zero_buffer.ensures.buffers ∙ before.buffers;
      free = omega (arith, before.free, c.zero_buffer.ensures.free, first);
    }

pub returns-clause-held : goal.returns-clause-held
returns-clause-held c = λ j low high.
    let over : c.args.to ≤ c.loop-k.k = search arith in
    c.loop-k.invariant.held j low (omega (arith, over, high))
