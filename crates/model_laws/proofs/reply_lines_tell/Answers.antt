use Rattle.model_laws.proofs.RunText.{replies-tell}
use Rattle.model_laws.proofs.reply_lines_tell.Goals as goal

pub returns : goal.returns
returns c = replies-tell c.logbook_call_keeps_valid.ensures c.tick_keeps_valid.ensures
