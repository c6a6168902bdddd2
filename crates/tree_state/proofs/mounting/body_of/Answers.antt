use Rattle.tree_state.proofs.mounting.body_of.Goals as goal

pub returns-clause-stored : goal.returns-clause-stored
returns-clause-stored c = c.stand.ensures.stored
