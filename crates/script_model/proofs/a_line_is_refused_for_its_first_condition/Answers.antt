use Rattle.script_model.proofs.FirstFaults.{finds_line}
use Rattle.script_model.proofs.a_line_is_refused_for_its_first_condition.Goals as goal

pub returns : goal.returns
returns c = finds_line
