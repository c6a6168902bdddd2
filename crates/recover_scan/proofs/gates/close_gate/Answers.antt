use Rattle.std.proofs.Common.{arith}
use Rattle.std.proofs.lemmas.Bool.Decides.{nat_tests}
use Rattle.recover_scan.proofs.Gate.{closing_leaves, read_changes, read_and_set}
use Rattle.recover_scan.proofs.gates.close_gate.Goals as goal

pub returns-in_ok-gate_set-clause-closing : goal.returns-in_ok-gate_set-clause-closing
returns-in_ok-gate_set-clause-closing g c =
    closing_leaves g.R.Rig.tells_view g.R.Rig.keeps_cuts (g.R.Rig.state c.args.rig.now) (g.R.Rig.state c.gate_read.new.rig) (g.R.Rig.state c.gate_set.new.rig)
    (g.met.R.Rig.sound c.args.rig.now) (g.met.R.Rig.sound c.gate_read.new.rig) c.gate_read.ensures.reads c.requires.settled
    (λ tells. let is = c.in_ok-open.ensures.open tells in let opened = c.if-open.true in grind (arith, nat_tests)) c.gate_set.ensures.cuts

pub returns-in_err-open-clause-changes : goal.returns-in_err-open-clause-changes
returns-in_err-open-clause-changes g c = read_changes g.R.Rig.tells_view g.R.Rig.keeps_cuts (g.R.Rig.state c.args.rig.now) (g.R.Rig.state c.gate_read.new.rig) (g.met.R.Rig.sound c.args.rig.now) c.gate_read.ensures.reads

pub returns-in_err-gate_set-clause-changes : goal.returns-in_err-gate_set-clause-changes
returns-in_err-gate_set-clause-changes g c =
    read_and_set g.R.Rig.tells_view g.R.Rig.keeps_cuts (g.R.Rig.state c.args.rig.now) (g.R.Rig.state c.gate_read.new.rig) (g.R.Rig.state c.gate_set.new.rig)
    (g.met.R.Rig.sound c.args.rig.now) (g.met.R.Rig.sound c.gate_read.new.rig) c.gate_read.ensures.reads c.gate_set.ensures.later c.gate_set.ensures.cuts c.gate_set.ensures.elsewhere

pub returns-in_ok-gate_set-clause-changes : goal.returns-in_ok-gate_set-clause-changes
returns-in_ok-gate_set-clause-changes g c =
    read_and_set g.R.Rig.tells_view g.R.Rig.keeps_cuts (g.R.Rig.state c.args.rig.now) (g.R.Rig.state c.gate_read.new.rig) (g.R.Rig.state c.gate_set.new.rig)
    (g.met.R.Rig.sound c.args.rig.now) (g.met.R.Rig.sound c.gate_read.new.rig) c.gate_read.ensures.reads c.gate_set.ensures.later c.gate_set.ensures.cuts c.gate_set.ensures.elsewhere
