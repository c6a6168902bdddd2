use Rattle.std.proofs.Common.{◌≡◌, ◌+◌, List, ℕ, length, set, Option, Some, subst, sym, ap, ◌∙◌, arith}
use Rattle.std.specs.Prelude.{position}
use Rattle.block_pool.specs.declared.buffers.Block.{Block}
use Rattle.block_pool.specs.Lists.{moved}
use Rattle.block_pool.specs.Buffers.{Buffers, AreBuffers, holds_block}
use Rattle.block_pool.proofs.Held.{AreBuffers-taken}
use Rattle.block_pool.proofs.pool.Pool.take.Goals as goal

pub invariant_of-self : goal.invariant_of-self
invariant_of-self c =
    let before : Buffers = record { lists = c.self.inside.lists; blocks = c.self.inside.blocks.items; contents = c.self.inside.contents.items } in
    let same = ap (λ (b : Buffers). length b.lists) c.self.view_is in
    let blocks_same : before.blocks ≡ c.args.self.now.blocks = ap (λ (b : Buffers). b.blocks) c.self.view_is in
    let none = ap (λ (blocks : List (Option Block)). position (holds_block c.args.file c.args.index) blocks) blocks_same ∙ c.requires.absent in
    let lists_are : c.move_to.new.self ≡ moved c.in_ok-node.node (c.args.file.0 + 1) c.self.inside.lists =
    c.move_to.ensures.moved ∙ ap (λ (k : ℕ). moved c.in_ok-node.node (k + 1) c.self.inside.lists) c.from.ensures in
    subst (λ (lists : List (List ℕ)).
    AreBuffers (record {
      lists = lists;
      blocks = set c.self.inside.blocks.items c.in_ok-node.node (Some (record { file = c.args.file; index = c.args.index }));
      contents = c.self.inside.contents.items;
    }))
    (sym lists_are)
    (AreBuffers-taken before c.in_ok-node.node c.args.file c.args.index c.self.invariant c.in_ok-node.ensures.within (omega (arith, same, c.requires.file_within)) none)
