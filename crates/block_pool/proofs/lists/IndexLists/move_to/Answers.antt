use Rattle.std.proofs.Common.{List, ℕ, subst, sym, ◌∙◌, arith}
use Rattle.std.specs.Vec.{with_items}
use Rattle.std.proofs.lemmas.List.{with_items_is}
use Rattle.block_pool.specs.Lists.{moved}
use Rattle.block_pool.specs.Links.{IsLinked}
use Rattle.block_pool.proofs.Walks.{IsLinked-same, IsRead, IsRead-linked}
use Rattle.block_pool.proofs.lists.IndexLists.move_to.Goals as goal

-- the lists before
before : (c : goal.After-self-2-1) → IsLinked c.self.inside.nodes c.self.inside.lists c.self.inside.next.items c.self.inside.previous.items c.args.self.now
before c = subst (λ (lists : List (List ℕ)). IsLinked c.self.inside.nodes c.self.inside.lists c.self.inside.next.items c.self.inside.previous.items lists) c.self.view_is c.self.invariant

-- and after the move
after : (c : goal.After-self-2-1) → IsRead c.self.inside.nodes c.self.inside.lists (with_items c.self.inside.next c.move_node.new.next).items
    (with_items c.self.inside.previous c.move_node.new.previous).items (moved c.args.node c.args.list c.args.self.now)
after c =
    IsRead-linked c.self.inside.nodes c.self.inside.lists (with_items c.self.inside.next c.move_node.new.next).items
    (with_items c.self.inside.previous c.move_node.new.previous).items (moved c.args.node c.args.list c.args.self.now)
    (IsLinked-same c.self.inside.nodes c.self.inside.lists c.move_node.new.next (with_items c.self.inside.next c.move_node.new.next).items
    c.move_node.new.previous (with_items c.self.inside.previous c.move_node.new.previous).items (moved c.args.node c.args.list c.args.self.now)
    (with_items_is c.self.inside.next c.move_node.new.next (search arith))
    (with_items_is c.self.inside.previous c.move_node.new.previous (search arith))
    (c.move_node.ensures c.self.inside.lists c.args.self.now
    (IsLinked-same c.self.inside.nodes c.self.inside.lists c.self.inside.next.items c.deref_mut.result.now c.self.inside.previous.items c.deref_mut-2.result.now
    c.args.self.now c.deref_mut.ensures.value c.deref_mut-2.ensures.value (before c))
    (let count = (before c).lists_length in omega (arith, count))))

pub invariant_of-self : goal.invariant_of-self
invariant_of-self c = (after c).linked

pub returns-clause-moved : goal.returns-clause-moved
returns-clause-moved c = (after c).read

pub returns-clause-each_once : goal.returns-clause-each_once
returns-clause-each_once c = (after c).once

pub returns-clause-nodes : goal.returns-clause-nodes
returns-clause-nodes c = (after c).node_number ∙ sym (before c).all_nodes

pub returns-clause-lists : goal.returns-clause-lists
returns-clause-lists c = (after c).list_number ∙ sym (before c).lists_length
