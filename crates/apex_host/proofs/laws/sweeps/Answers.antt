use Rattle.apex_host.proofs.EndLaws.{sweeps}
use Rattle.apex_host.proofs.laws.sweeps.Goals as goal

pub returns : goal.returns
returns g c = sweeps g.R.Rig.tells_text g.R.Rig.tells_view
