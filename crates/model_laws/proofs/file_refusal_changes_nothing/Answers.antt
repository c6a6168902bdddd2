use Rattle.model_laws.proofs.Refusals.{file_refusal}
use Rattle.model_laws.proofs.file_refusal_changes_nothing.Goals as goal

pub returns : goal.returns
returns _ = file_refusal
