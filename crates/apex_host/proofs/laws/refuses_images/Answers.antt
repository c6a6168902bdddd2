use Rattle.apex_host.proofs.EndLaws.{refuses-images}
use Rattle.apex_host.proofs.laws.refuses_images.Goals as goal

pub returns : goal.returns
returns g c = λ v command before after status rows r. refuses-images g.R.Rig.tells_text g.R.Rig.tells_view v before after status rows command r
