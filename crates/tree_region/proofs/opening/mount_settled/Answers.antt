use Rattle.tree_region.proofs.Opened.{opened}
use Rattle.tree_region.proofs.opening.mount_settled.Goals as goal

pub returns-in-Ok-clause-in_step : goal.returns-in-Ok-clause-in_step
returns-in-Ok-clause-in_step g c =
    opened g.R.Rig.tells_view g.R.Rig.keeps_cuts c.args.row.now c.args.at (g.R.Rig.state c.args.rig.now) (g.R.Rig.state c.mount.new.rig) (g.met.R.Rig.sound c.mount.new.rig) c.mount.ensures.reads c.requires.settled
    c.in-Ok.kept c.in-Ok.ensures.within c.in-Ok.ensures.limits c.in-Ok.ensures.numbers c.in-Ok.ensures.good (λ tells. c.in-Ok.ensures.stands tells)
