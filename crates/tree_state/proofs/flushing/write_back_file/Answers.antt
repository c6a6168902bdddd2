use Rattle.std.proofs.Common.{◌+◌, ◌<◌, arith}
use Rattle.tree_state.proofs.FlushSteps.{free-within}
use Rattle.tree_state.proofs.flushing.write_back_file.Goals as goal

pub returns-clause-none : goal.returns-clause-none
returns-clause-none g c =
    let done = c.in_ok-write_some.ensures in
    let most = free-within g.R.Rig.tells_view c.args.row.now c.args.at (g.R.Rig.state c.write_some.new.rig) c.write_some.new.state c.write_some.ensures.writes.state in
    let few : c.in_ok-write_some.field-0 < c.from-most.result + 1 = omega (arith, done.count, most, c.from-most.ensures) in
    done.none few
