use Rattle.std.proofs.Common.{◌≡◌, ◌+◌, map, ap, ◌∙◌, arith}
use Rattle.std.specs.List.{range_with_len}
use Rattle.block_pool.specs.Lists.{all_in_first}
use Rattle.block_pool.specs.Links.{first_next, first_previous}
use Rattle.block_pool.proofs.Made.{IsLinked-first, links_more}
use Rattle.block_pool.proofs.Walks.{IsRead, IsRead-linked}
use Rattle.block_pool.proofs.lists.IndexLists.new.Goals as goal

made : (c : goal.After-loop-k) → IsRead c.args.nodes c.args.lists c.loop-k.next.items c.loop-k.previous.items (all_in_first c.args.nodes c.args.lists)
made c =
    let all : c.loop-k.k ≡ c.args.nodes + c.args.lists = omega (arith, c.in-Some.ensures) in
    IsRead-linked c.args.nodes c.args.lists c.loop-k.next.items c.loop-k.previous.items (all_in_first c.args.nodes c.args.lists)
    (IsLinked-first c.args.nodes c.args.lists c.loop-k.next.items c.loop-k.previous.items c.requires (omega (arith, c.in-Some.ensures))
    (c.loop-k.invariant.0 ∙ ap (λ k. map (first_next c.args.nodes) (range_with_len 0 k)) all)
    (c.loop-k.invariant.1 ∙ ap (λ k. map (first_previous c.args.nodes) (range_with_len 0 k)) all))

pub invariant_of-result : goal.invariant_of-result
invariant_of-result c = (made c).linked

pub returns-clause-fresh : goal.returns-clause-fresh
returns-clause-fresh c = (made c).read

pub returns-clause-nodes : goal.returns-clause-nodes
returns-clause-nodes c = (made c).node_number

pub returns-clause-lists : goal.returns-clause-lists
returns-clause-lists c = (made c).list_number

pub loop-k-preserved : goal.loop-k-preserved
loop-k-preserved c = (
  links_more (first_next c.args.nodes) c.loop-k.next.items c.push_link.new.links.items c.loop-k.k c.place_behind.result c.loop-k.invariant.0
      c.in_ok-push_link.ensures c.place_behind.ensures,
  links_more (first_previous c.args.nodes) c.loop-k.previous.items c.push_link-in-loop-k.new.links.items c.loop-k.k c.place_before.result c.loop-k.invariant.1
      c.in_ok-push_link-2.ensures c.place_before.ensures,
)

pub returns-clause-each_once : goal.returns-clause-each_once
returns-clause-each_once c = (made c).once
