use Rattle.model_laws.proofs.RunText.{text-tells_run}
use Rattle.model_laws.proofs.text_tells_run.Goals as goal

pub returns : goal.returns
returns c = text-tells_run c.logbook_call_keeps_valid.ensures c.tick_keeps_valid.ensures
