use Rattle.block_pool.proofs.Moves.{IsLinked-emptied}
use Rattle.block_pool.proofs.links.move_list.Goals as goal

pub returns : goal.returns
returns c count lists linked from_within to_within =
    IsLinked-emptied c.args.nodes count c.args.next.now c.args.previous.now lists linked c.args.from c.args.to c.requires.other from_within to_within
    c.put_before.new.next c.put_before.new.previous c.take_out.new.next c.take_out.new.previous
    c.put_before.ensures.next c.take_out.ensures.next c.put_before.ensures.paired c.take_out.ensures.paired
