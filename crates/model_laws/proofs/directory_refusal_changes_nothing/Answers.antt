use Rattle.model_laws.proofs.Refusals.{directory_refusal}
use Rattle.model_laws.proofs.directory_refusal_changes_nothing.Goals as goal

pub returns : goal.returns
returns _ = directory_refusal
