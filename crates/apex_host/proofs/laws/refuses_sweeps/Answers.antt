use Rattle.apex_host.proofs.EndLaws.{refuses-sweeps}
use Rattle.apex_host.proofs.laws.refuses_sweeps.Goals as goal

pub returns : goal.returns
returns g c = refuses-sweeps g.R.Rig.tells_text g.R.Rig.tells_view
