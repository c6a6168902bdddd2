use Rattle.script_model.proofs.Deeds.{spells_one}
use Rattle.script_model.proofs.a_text_spells_one_line.Goals as goal

pub returns : goal.returns
returns c = λ rows text d e h p q. spells_one rows h text d e p q
