use Rattle.logbook_services.specs.Steps.{most_writes}
use Rattle.logbook_services.proofs.Served.{served-serving}
use Rattle.logbook_services.proofs.calls.logbook_call.Goals as goal

-- a call keeps the logbooks valid
pub returns-clause-valid : goal.returns-clause-valid
returns-clause-valid g c =
    served-serving g.R.Rig.tells_view (most_writes c.args.call.now) c.args.table.now c.args.p.0 c.args.mode c.args.call.now c.args.logs.now c.args.made.now c.step.new.logs c.step.new.made (g.R.Rig.state c.args.rig.now) (g.R.Rig.state c.step.new.rig) _
    c.requires.accepted c.requires.valid c.step.ensures
