use Rattle.model_laws.proofs.Isolation.{replies-depend}
use Rattle.model_laws.proofs.replies_depend_on_upstream.Goals as goal

pub returns : goal.returns
returns c = replies-depend c.logbook_call_keeps_valid.ensures c.tick_keeps_valid.ensures
