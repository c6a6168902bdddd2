use Rattle.std.proofs.Common.{List, Option, length, count_by, ap, ◌∙◌}
use Rattle.std.specs.Prelude.{is_none}
use Rattle.block_pool.specs.declared.buffers.Block.{Block}
use Rattle.block_pool.specs.Lists.{list_at}
use Rattle.block_pool.specs.Buffers.{Buffers}
use Rattle.block_pool.proofs.Free.{free_number}
use Rattle.block_pool.proofs.pool.Pool.free_count.Goals as goal

pub returns : goal.returns
returns c =
    let before : Buffers = record { lists = c.self.inside.lists; blocks = c.self.inside.blocks.items; contents = c.self.inside.contents.items } in
    c.count_free.ensures.count ∙ ap (λ (blocks : List (Option Block)). count_by is_none blocks) c.deref.ensures.value
    ∙ free_number before c.self.invariant ∙ ap (λ (b : Buffers). length (list_at b.lists 0)) c.self.view_is
