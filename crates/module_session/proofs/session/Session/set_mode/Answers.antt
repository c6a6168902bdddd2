use Rattle.std.proofs.Common.{sym, ◌∙◌}
use Rattle.module_session.proofs.Entered.{idle_stays, normal_again, normal_entered}
use Rattle.module_session.proofs.Restarted.{restart_taken}
use Rattle.module_session.proofs.session.Session.set_mode.Goals as goal

pub returns-then-not-is_normal : goal.returns-then-not-is_normal
returns-then-not-is_normal g c =
    restart_taken g.R.Rig.tells_view g.R.Rig.keeps_cuts (g.R.Rig.state c.args.rig.now) (g.met.R.Rig.sound c.args.rig.now) c.args.self.now c.restart.new.self c.requires.ready c.args.p c.args.mode
    (sym c.is_normal.ensures ∙ c.if-not-is_normal.true) c.restart.ensures c.success.result c.success.ensures

pub returns-in-Normal : goal.returns-in-Normal
returns-in-Normal g c =
    normal_again g.R.Rig.tells_view g.R.Rig.keeps_cuts (g.R.Rig.state c.args.rig.now) (g.met.R.Rig.sound c.args.rig.now) c.args.self.now c.requires.ready c.args.p c.args.mode c.mode.result
    (sym c.is_normal.ensures ∙ c.if-not-is_normal.false) c.mode.ensures c.in-Normal.is c.refused.result c.refused.ensures

pub returns-in-Idle : goal.returns-in-Idle
returns-in-Idle g c =
    idle_stays g.R.Rig.tells_view g.R.Rig.keeps_cuts (g.R.Rig.state c.args.rig.now) (g.met.R.Rig.sound c.args.rig.now) c.args.self.now c.requires.ready c.args.p c.args.mode c.mode.result
    (sym c.is_normal.ensures ∙ c.if-not-is_normal.false) c.mode.ensures c.in-Idle.is c.refused-in-Idle.result c.refused-in-Idle.ensures

pub returns-in-ColdStart : goal.returns-in-ColdStart
returns-in-ColdStart g c =
    normal_entered g.R.Rig.tells_view g.R.Rig.keeps_cuts (g.R.Rig.state c.args.rig.now) (g.met.R.Rig.sound c.args.rig.now) c.args.self.now c.requires.ready c.args.p c.args.mode c.mode.result
    (sym c.is_normal.ensures ∙ c.if-not-is_normal.false) c.mode.ensures c.in-ColdStart.is c.context-context.result c.set.new.self c.success-in-ColdStart.result c.context-context.ensures c.set.ensures c.success-in-ColdStart.ensures
