use Rattle.tree_region.proofs.Changed.{wider-leaves}
use Rattle.tree_region.proofs.changing.change_names.Goals as goal

pub returns-then-has_room-clause-outside : goal.returns-then-has_room-clause-outside
returns-then-has_room-clause-outside g c =
    wider-leaves c.args.row.now c.args.at c.args.kept.now c.requires.in_step.within (c.has_room.ensures.0 c.if-has_room.true).1 (g.R.Rig.state c.args.rig.now) (g.R.Rig.state c.record_change.new.rig) c.record_change.ensures.outside
