use Rattle.model_laws.proofs.ReplyLines.{no-reply_ends}
use Rattle.model_laws.proofs.no_reply_ends_run.Goals as goal

pub returns : goal.returns
returns _ = no-reply_ends
