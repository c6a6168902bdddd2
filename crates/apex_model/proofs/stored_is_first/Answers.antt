use Rattle.apex_model.proofs.Firsts.{first-loaded}
use Rattle.apex_model.proofs.stored_is_first.Goals as goal

pub returns : goal.returns
returns _ = first-loaded
