use Rattle.block_pool.proofs.Moves.{IsLinked-moved}
use Rattle.block_pool.proofs.links.move_node.Goals as goal

pub returns : goal.returns
returns c count lists linked within =
    IsLinked-moved c.args.nodes count c.args.next.now c.args.previous.now lists linked c.args.node c.args.list c.requires.node_within within
    c.take_out.new.next c.take_out.new.previous c.put_before.new.next c.put_before.new.previous
    c.take_out.ensures.next c.take_out.ensures.previous c.put_before.ensures.next c.take_out.ensures.paired c.put_before.ensures.paired
