use Rattle.store_model.proofs.Firsts.{first_tree_cut}
use Rattle.store_model.proofs.synchronised_is_a_cut.Goals as goal

pub returns : goal.returns
returns _ = first_tree_cut
