use Rattle.apex_host.proofs.EndLaws.{tells-usage}
use Rattle.apex_host.proofs.laws.tells_usage.Goals as goal

pub returns : goal.returns
returns g c = tells-usage g.R.Rig.tells_text g.R.Rig.tells_view
