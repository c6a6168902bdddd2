use Rattle.apex_host.proofs.EndLaws.{finds-good}
use Rattle.apex_host.proofs.laws.finds_good.Goals as goal

pub returns : goal.returns
returns g c = λ v before after status rows stored ends quiet reads sound image. finds-good g.R.Rig.tells_text g.R.Rig.tells_view v before after status rows stored quiet reads sound image ends
