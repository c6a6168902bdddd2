use Rattle.model_laws.proofs.ReplyLines.{replies-no_feed}
use Rattle.model_laws.proofs.replies_have_no_feed.Goals as goal

pub returns : goal.returns
returns _ = replies-no_feed
