use Rattle.apex_model.proofs.Firsts.{first_tree_cut}
use Rattle.apex_model.proofs.first_is_a_cut.Goals as goal

pub returns : goal.returns
returns _ = first_tree_cut
