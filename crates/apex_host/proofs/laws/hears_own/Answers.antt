use Rattle.apex_host.proofs.EndLaws.{hears-own}
use Rattle.apex_host.proofs.laws.hears_own.Goals as goal

pub returns : goal.returns
returns g c = λ v name p before after status rows lines stored ends quiet reads named script sound image. hears-own g.R.Rig.tells_text g.R.Rig.tells_view v before after status rows stored quiet reads sound image lines name p ends named script
