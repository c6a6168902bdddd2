use Rattle.script_model.proofs.Deeds.{read_spells, spelled_read}
use Rattle.script_model.proofs.a_text_is_read_as_it_spells.Goals as goal

pub returns : goal.returns
returns c = λ rows text d h. (λ e. read_spells rows h text d e, λ s. spelled_read rows h text d s)
