use Rattle.module_session.proofs.Sampled.{sampling_taken}
use Rattle.module_session.proofs.session.Session.sampling.Goals as goal

pub returns : goal.returns
returns g c =
    let done = c.sampling_call.ensures in
    sampling_taken g.R.Rig.tells_view g.R.Rig.keeps_cuts (g.R.Rig.state c.args.rig.now) (g.met.R.Rig.sound c.args.rig.now) c.args.self.now c.requires.ready c.args.p c.args.call.now
    c.mode-mode.result c.mode-mode.ensures c.sampling_call.new.ports c.sampling_call.result done.reply done.state done.valid done.tellable
