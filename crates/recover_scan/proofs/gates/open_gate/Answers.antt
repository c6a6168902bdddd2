use Rattle.std.proofs.Common.{arith}
use Rattle.recover_scan.proofs.Gate.{opening_leaves, opened_view, opened_parts}
use Rattle.recover_scan.proofs.gates.open_gate.Goals as goal

pub returns-in_err-gate_set-clause-opening : goal.returns-in_err-gate_set-clause-opening
returns-in_err-gate_set-clause-opening g c table fits parts =
    opening_leaves g.R.Rig.tells_view g.R.Rig.keeps_cuts table (g.R.Rig.state c.args.rig.now) (g.R.Rig.state c.gate_set.new.rig) (g.met.R.Rig.sound c.args.rig.now) fits c.requires.settled parts c.gate_set.ensures.cuts

pub returns-clause-opening : goal.returns-clause-opening
returns-clause-opening g c table fits parts =
    opening_leaves g.R.Rig.tells_view g.R.Rig.keeps_cuts table (g.R.Rig.state c.args.rig.now) (g.R.Rig.state c.gate_set.new.rig) (g.met.R.Rig.sound c.args.rig.now) fits c.requires.settled parts c.gate_set.ensures.cuts

pub returns-clause-opened : goal.returns-clause-opened
returns-clause-opened g c table fits parts tells =
    opened_view table (g.R.Rig.state c.args.rig.now).view (g.R.Rig.state c.gate_set.new.rig).view
    (omega (arith, fits, (g.met.R.Rig.sound c.args.rig.now).view_fills tells)) (parts tells) (c.in_ok-gate_set.ensures.written tells)

pub returns-clause-whole : goal.returns-clause-whole
returns-clause-whole g c tells table parts =
    opened_parts table (g.R.Rig.state c.args.rig.now).view (g.R.Rig.state c.gate_set.new.rig).view
    (omega (arith, c.requires.some, (g.met.R.Rig.sound c.args.rig.now).view_fills tells)) parts (c.in_ok-gate_set.ensures.written tells)
