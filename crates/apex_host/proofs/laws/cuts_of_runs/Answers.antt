use Rattle.apex_host.proofs.EndLaws.{run-pairs}
use Rattle.apex_host.proofs.laws.cuts_of_runs.Goals as goal

pub returns : goal.returns
returns g c = λ t v before after status table script rows lines stored accepted read image leaves. run-pairs t v table script rows lines stored accepted read image leaves
