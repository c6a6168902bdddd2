use Rattle.model_laws.proofs.PlainSteps.{steps-answer}
use Rattle.model_laws.proofs.steps_answer_plainly.Goals as goal

pub returns : goal.returns
returns _ = steps-answer
