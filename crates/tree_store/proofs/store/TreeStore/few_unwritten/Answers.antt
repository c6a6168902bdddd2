use Rattle.tree_store.proofs.Unwritten.{few-unwritten}
use Rattle.tree_store.proofs.store.TreeStore.few_unwritten.Goals as goal

pub returns : goal.returns
returns g c tells v holds tree is =
    few-unwritten g.R.Rig.tells_view g.R.Rig.keeps_cuts (g.R.Rig.state c.args.rig.now) (g.met.R.Rig.sound c.args.rig.now) c.args.self.now c.requires.stored tells c.stand.ensures v holds tree is
