use Rattle.apex_host.proofs.EndLaws.{refuses-partitions}
use Rattle.apex_host.proofs.laws.refuses_partitions.Goals as goal

pub returns : goal.returns
returns g c = refuses-partitions g.R.Rig.tells_text g.R.Rig.tells_view
