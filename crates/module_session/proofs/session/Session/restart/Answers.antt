use Rattle.module_session.proofs.Restarted.{AreRestarted, session_restarted}
use Rattle.module_session.proofs.session.Session.restart.Goals as goal

pub returns : goal.returns
returns g c =
    let V = g.R.Rig.tells_view in
    let o = g.R.Rig.state c.args.rig.now in
    let old = c.args.self.now in
    let handles = c.close_all.new.self in
    let made = c.restart.new.self in
    let held = c.restart-2.new.self in
    let partitions = c.set.new.self in
    let marks = c.restart.ensures in
    let ports = c.restart-2.ensures in
    let parts : AreRestarted V o old c.requires.ready c.args.p.0 c.args.mode handles made held partitions = record {
      closed = c.close_all.ensures;
      marks = marks.marks;
      of_table = marks.of_table old.logs;
      logbooks = marks.valid old.logs;
      state = ports.state old.table;
      serving = ports.valid old.table old.time;
      put = c.set.ensures;
    } in
    session_restarted V o old c.requires.ready c.args.p.0 c.args.mode handles made held partitions parts
