use Rattle.module_session.proofs.Entered.{context_taken}
use Rattle.module_session.proofs.session.Session.set_context.Goals as goal

pub returns : goal.returns
returns g c =
    context_taken g.R.Rig.tells_view g.R.Rig.keeps_cuts (g.R.Rig.state c.args.rig.now) (g.met.R.Rig.sound c.args.rig.now) c.args.self.now c.requires.ready c.args.p c.args.context
    c.mode-mode.result c.set.new.self c.success.result c.mode-mode.ensures c.set.ensures c.success.ensures
