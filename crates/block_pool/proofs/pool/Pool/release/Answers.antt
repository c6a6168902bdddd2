use Rattle.std.proofs.Common.{List, ℕ, set, subst, sym, ap, None, arith}
use Rattle.block_pool.specs.Lists.{node_count}
use Rattle.block_pool.specs.Buffers.{Buffers, AreBuffers}
use Rattle.block_pool.proofs.Held.{AreBuffers-released}
use Rattle.block_pool.proofs.pool.Pool.release.Goals as goal

pub invariant_of-self : goal.invariant_of-self
invariant_of-self c =
    let before : Buffers = record { lists = c.self.inside.lists; blocks = c.self.inside.blocks.items; contents = c.self.inside.contents.items } in
    let same = ap (λ (b : Buffers). node_count b.lists) c.self.view_is in
    subst (λ (lists : List (List ℕ)). AreBuffers (record { lists = lists; blocks = set c.self.inside.blocks.items c.args.node None; contents = c.self.inside.contents.items }))
    (sym c.move_to.ensures.moved) (AreBuffers-released before c.args.node c.self.invariant (omega (arith, same, c.requires)))
