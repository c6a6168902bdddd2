use Rattle.script_model.proofs.Lines.{script_of_table}
use Rattle.script_model.proofs.a_script_spells_lines_of_the_table.Goals as goal

pub returns : goal.returns
returns c = script_of_table
