use Rattle.std.proofs.Common.{Bool, sym, ◌∙◌, ap}
use Rattle.apex_types.specs.declared.codes.ReturnCode.TheVariants.{InvalidMode}
use Rattle.apex_model.specs.Logbooks.{logbook_service}
use Rattle.apex_model.specs.Outcomes.{refuse_if_with}
use Rattle.logbook_services.specs.Steps.{most_writes}
use Rattle.logbook_services.proofs.Served.{answered-served, refused-answered}
use Rattle.logbook_services.proofs.calls.step.Goals as goal

pub returns-then-is_idle : goal.returns-then-is_idle
returns-then-is_idle g c =
    answered-served g.R.Rig.tells_view g.R.Rig.keeps_cuts (most_writes c.args.call.now) c.args.table.now _ c.args.logs.now c.args.made.now c.args.logs.now c.args.made.now (g.R.Rig.state c.args.rig.now) c.refused.result
    (g.met.R.Rig.sound c.args.rig.now) c.requires.settled
    (refused-answered c.args.table.now _ c.args.logs.now c.args.made.now c.refused.result InvalidMode
    (λ image system stands. ap (λ (b : Bool). refuse_if_with b InvalidMode (logbook_service c.args.table.now system c.args.p.0 c.args.mode c.args.call.now)) (sym c.is_idle.ensures ∙ c.if-is_idle.true))
    c.refused.ensures)
