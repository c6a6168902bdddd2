use Rattle.sampling_ext.proofs.Numbers.{destination_more}
use Rattle.sampling_ext.proofs.port.PortList.push_ends.Goals as goal

pub loop-d-preserved : goal.loop-d-preserved
loop-d-preserved c =
    destination_more c.args.channel c.loop-d.d c.args.row.now.destinations c.at.result.now c.loop-d.self c.push-in-loop-d.new.self _ c.new-in-loop-d.result c.at.ensures
    c.loop-d.invariant c.in_ok-push-2.ensures c.new-in-loop-d.ensures
