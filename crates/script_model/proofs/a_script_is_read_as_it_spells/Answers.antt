use Rattle.script_model.proofs.Scripts.{script_spells, spelled_script}
use Rattle.script_model.proofs.a_script_is_read_as_it_spells.Goals as goal

pub returns : goal.returns
returns c = λ rows bytes lines h. (λ e. script_spells rows h bytes lines e, λ s. spelled_script rows h bytes lines s)
