use Rattle.tree_region.proofs.Changed.{ready-applied}
use Rattle.tree_region.proofs.changing.commit_change.Goals as goal

pub commit_slot-requires-clause-ready : goal.commit_slot-requires-clause-ready
commit_slot-requires-clause-ready g c =
    ready-applied g.R.Rig.tells_view c.args.row.now c.args.at c.args.kept.now (g.R.Rig.state c.args.rig.now) c.requires.in_step c.args.change.now c.apply.new.self c.if-not-apply.ensures
