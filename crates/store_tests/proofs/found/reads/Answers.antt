use Rattle.tree_store.proofs.Frames.{stored_reads}
use Rattle.store_tests.proofs.found.reads.Goals as goal

pub returns-clause-stored : goal.returns-clause-stored
returns-clause-stored g c =
    stored_reads g.R.Rig.tells_view g.R.Rig.keeps_cuts (g.R.Rig.state c.args.rig.now) (g.R.Rig.state c.read.new.rig)
    (g.met.R.Rig.sound c.args.rig.now) (g.met.R.Rig.sound c.read.new.rig) c.args.store.now c.requires.stored c.read.ensures.reads
