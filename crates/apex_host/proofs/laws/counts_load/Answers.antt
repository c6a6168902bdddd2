use Rattle.apex_host.proofs.EndLaws.{counts-load}
use Rattle.apex_host.proofs.laws.counts_load.Goals as goal

pub returns : goal.returns
returns g c = λ v seed count before after status rows stored ends quiet reads sound image. counts-load g.R.Rig.tells_text g.R.Rig.tells_view v before after status rows stored quiet reads sound image seed count ends
