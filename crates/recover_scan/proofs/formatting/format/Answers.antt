use Rattle.recover_scan.proofs.Rest.{keeps_rest, keeps_rest_shown}
use Rattle.recover_scan.proofs.formatting.format.Goals as goal

pub returns-in_default-write_image-clause-rest : goal.returns-in_default-write_image-clause-rest
returns-in_default-write_image-clause-rest g c = keeps_rest g.R.Rig.tells_view c.args.table.now (g.R.Rig.state c.args.rig.now) (g.R.Rig.state c.write_image.new.rig) c.requires.settled c.write_image.ensures.spares

pub returns-clause-rest : goal.returns-clause-rest
returns-clause-rest g c = keeps_rest g.R.Rig.tells_view c.args.table.now (g.R.Rig.state c.args.rig.now) (g.R.Rig.state c.write_image.new.rig) c.requires.settled c.write_image.ensures.spares

pub returns-in_default-write_image-clause-rest_shown : goal.returns-in_default-write_image-clause-rest_shown
returns-in_default-write_image-clause-rest_shown g c = keeps_rest_shown g.R.Rig.tells_view c.args.table.now (g.R.Rig.state c.args.rig.now) (g.R.Rig.state c.write_image.new.rig) c.write_image.ensures.spares
