use Rattle.std.proofs.Common.{◌≡◌, ◌+◌, List, ℕ, map, length, Option, subst, sym, ap, ◌∙◌, arith}
use Rattle.std.specs.Vec.{with_items}
use Rattle.std.proofs.lemmas.List.{with_items_is}
use Rattle.block_pool.specs.declared.buffers.Block.{Block}
use Rattle.block_pool.specs.Lists.{moved_all}
use Rattle.block_pool.specs.Buffers.{Buffers, AreBuffers, without_file}
use Rattle.block_pool.proofs.Held.{AreBuffers-moved_all}
use Rattle.block_pool.proofs.pool.Pool.release_file.Goals as goal

pub invariant_of-self : goal.invariant_of-self
invariant_of-self c =
    let before : Buffers = record { lists = c.self.inside.lists; blocks = c.self.inside.blocks.items; contents = c.self.inside.contents.items } in
    let same = ap (λ (b : Buffers). length b.lists) c.self.view_is in
    let lists_are : c.move_all.new.self ≡ moved_all (c.args.file.0 + 1) 0 c.self.inside.lists =
    c.move_all.ensures.moved ∙ ap (λ (k : ℕ). moved_all (k + 1) 0 c.self.inside.lists) c.from.ensures in
    let blocks_are : (with_items c.self.inside.blocks c.forget_file.new.blocks).items ≡ map (without_file c.args.file) c.self.inside.blocks.items =
    with_items_is c.self.inside.blocks c.forget_file.new.blocks (search arith)
    ∙ c.forget_file.ensures ∙ ap (λ (xs : List (Option Block)). map (without_file c.args.file) xs) c.deref_mut.ensures.value in
    subst (λ (lists : List (List ℕ)).
    AreBuffers (record { lists = lists; blocks = (with_items c.self.inside.blocks c.forget_file.new.blocks).items; contents = c.self.inside.contents.items }))
    (sym lists_are)
    (subst (λ (blocks : List (Option Block)).
    AreBuffers (record { lists = moved_all (c.args.file.0 + 1) 0 c.self.inside.lists; blocks = blocks; contents = c.self.inside.contents.items }))
    (sym blocks_are) (AreBuffers-moved_all before c.self.invariant c.args.file (omega (arith, same, c.requires))))
