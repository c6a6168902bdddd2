use Rattle.std.proofs.Common.{◌≡◌, ◌+◌, ℕ, List, replicate, Option, None, subst, sym, ap, ◌∙◌, arith}
use Rattle.block_pool.specs.declared.buffers.Block.{Block}
use Rattle.block_pool.specs.Lists.{all_in_first}
use Rattle.block_pool.specs.Buffers.{AreBuffers}
use Rattle.block_pool.proofs.Fresh.{AreBuffers-all_free}
use Rattle.block_pool.proofs.pool.Pool.new.Goals as goal

pub invariant_of-result : goal.invariant_of-result
invariant_of-result c =
    let all : c.loop.counter ≡ c.args.buffers = omega arith in
    let lists_are : c.in_ok-lists.lists ≡ all_in_first c.args.buffers (c.args.files + 1) =
    c.in_ok-lists.ensures.fresh ∙ ap (λ (k : ℕ). all_in_first c.args.buffers (k + 1)) c.from.ensures in
    let blocks_are = c.loop.invariant.0 ∙ ap (λ (n : ℕ). replicate {A = Option Block} n None) all in
    let contents_are = c.loop.invariant.1 ∙ ap (λ (n : ℕ). replicate n (replicate 512 0)) all in
    subst (λ (lists : List (List ℕ)). AreBuffers (record { lists = lists; blocks = c.loop.blocks.items; contents = c.loop.contents.items })) (sym lists_are)
    (subst (λ (blocks : List (Option Block)).
    AreBuffers (record { lists = all_in_first c.args.buffers (c.args.files + 1); blocks = blocks; contents = c.loop.contents.items })) (sym blocks_are)
    (subst (λ (contents : List (List ℕ)).
    AreBuffers (record { lists = all_in_first c.args.buffers (c.args.files + 1); blocks = replicate c.args.buffers None; contents = contents })) (sym contents_are)
    (AreBuffers-all_free c.args.buffers c.args.files (omega (arith, c.ranges.buffers)))))
