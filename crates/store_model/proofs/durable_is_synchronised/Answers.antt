use Rattle.store_model.proofs.Firsts.{durable-first}
use Rattle.store_model.proofs.durable_is_synchronised.Goals as goal

pub returns : goal.returns
returns _ = durable-first
