use Rattle.apex_host.proofs.EntryLaws.{run-entries}
use Rattle.apex_host.proofs.laws.keeps_logged_entries.Goals as goal

pub returns : goal.returns
returns g c = λ t v before after status table script rows lines stored accepted read image leaves. run-entries c.step_keeps_valid.ensures t v table script rows lines stored accepted read image leaves
