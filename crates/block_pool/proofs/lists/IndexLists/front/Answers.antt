use Rattle.std.proofs.Common.{◌+◌, ◌≤◌, List, ℕ, subst, arith}
use Rattle.std.proofs.lemmas.List.{get_or_read}
use Rattle.block_pool.specs.Lists.{list_at}
use Rattle.block_pool.specs.Links.{IsLinked, link}
use Rattle.block_pool.proofs.Walks.{first_of-path}
use Rattle.block_pool.proofs.Moves.{list_below}
use Rattle.block_pool.proofs.lists.IndexLists.front.Goals as goal

pub returns-else-first-self-clause-first : goal.returns-else-first-self-clause-first
returns-else-first-self-clause-first c =
    let linked : IsLinked c.self.inside.nodes c.self.inside.lists c.self.inside.next.items c.self.inside.previous.items c.args.self.now =
    subst (λ (lists : List (List ℕ)). IsLinked c.self.inside.nodes c.self.inside.lists c.self.inside.next.items c.self.inside.previous.items lists) c.self.view_is c.self.invariant in
    let count = linked.lists_length in
    let whole = linked.links_length in
    let read = get_or_read c.self.inside.next.items (c.self.inside.nodes + c.args.list) c.index-first.result.now (omega (arith, count, whole)) c.index-first.ensures 0 in
    let past : c.self.inside.nodes ≤ link c.self.inside.next.items (c.self.inside.nodes + c.args.list) = omega (arith, read) in
    first_of-path c.self.inside.next.items c.self.inside.nodes (c.self.inside.nodes + c.args.list) (list_at c.args.self.now c.args.list) (c.self.inside.nodes + c.args.list)
    (linked.rings c.args.list (omega (arith, count)))
    (list_below c.self.inside.nodes c.self.inside.lists c.self.inside.next.items c.self.inside.previous.items c.args.self.now linked c.args.list (omega (arith, count)))
    past
