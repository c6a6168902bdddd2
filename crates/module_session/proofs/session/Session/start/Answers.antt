use Rattle.std.proofs.Common.{ap, length, arith}
use Rattle.script_model.proofs.Accepted.{accepted_ready}
use Rattle.module_session.proofs.Starting.{AreFirst, start_ready, start_stands}
use Rattle.module_session.proofs.session.Session.start.Goals as goal

pub overflow_cast-partitions : goal.overflow_cast-partitions
overflow_cast-partitions g c =
    let few = (accepted_ready c.args.table c.requires.accepted).few in
    let same = ap length c.partitions-partitions.ensures in
    omega (arith, few, same)

pub returns-clause-ready : goal.returns-clause-ready
returns-clause-ready g c =
    let table = c.args.table in
    let n = length c.partitions-partitions.result.now in
    let handles = c.in_ok-handles.handles in
    let made = c.in_ok-made.made in
    let held = c.in_ok-ports.ports in
    let partitions = c.in_ok-partitions.partitions in
    let parts : AreFirst table handles made held partitions n = record {
      closed = c.in_ok-handles.ensures;
      none = c.in_ok-made.ensures;
      unused = c.in_ok-ports.ensures.unused;
      serving = c.in_ok-ports.ensures.valid 0;
      begun = c.in_ok-partitions.ensures;
      many = ap length c.partitions-partitions.ensures;
    } in
    start_ready g.R.Rig.tells_view (g.R.Rig.state c.args.rig.now) table c.requires.accepted c.args.store c.requires.mounted handles made held partitions n parts

pub returns-clause-world : goal.returns-clause-world
returns-clause-world g c =
    let table = c.args.table in
    let n = length c.partitions-partitions.result.now in
    let handles = c.in_ok-handles.handles in
    let made = c.in_ok-made.made in
    let held = c.in_ok-ports.ports in
    let partitions = c.in_ok-partitions.partitions in
    let parts : AreFirst table handles made held partitions n = record {
      closed = c.in_ok-handles.ensures;
      none = c.in_ok-made.ensures;
      unused = c.in_ok-ports.ensures.unused;
      serving = c.in_ok-ports.ensures.valid 0;
      begun = c.in_ok-partitions.ensures;
      many = ap length c.partitions-partitions.ensures;
    } in
    start_stands g.R.Rig.tells_view (g.R.Rig.state c.args.rig.now) table c.requires.accepted c.args.store c.requires.mounted handles made held partitions n parts
