use Rattle.apex_host.proofs.EndLaws.{moments}
use Rattle.apex_host.proofs.laws.formats_at_every_moment.Goals as goal

pub returns : goal.returns
returns g c = λ before after status bytes script rows accepted leaves. moments bytes rows accepted leaves
