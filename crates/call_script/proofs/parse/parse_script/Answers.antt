use Rattle.call_script.proofs.Scripts.{is_spelled, is_read, is_refused, is_all, is_of_table}
use Rattle.call_script.proofs.parse.parse_script.Goals as goal

pub returns-clause-spelled : goal.returns-clause-spelled
returns-clause-spelled c = is_spelled c.args.table.now c.requires.names c.args.bytes.now c.read_script.result c.read_script.ensures

pub returns-clause-read : goal.returns-clause-read
returns-clause-read c = is_read c.args.table.now c.args.bytes.now c.read_script.result c.read_script.ensures

pub returns-clause-refused : goal.returns-clause-refused
returns-clause-refused c = is_refused c.args.table.now c.args.bytes.now c.read_script.result c.read_script.ensures

pub returns-clause-all : goal.returns-clause-all
returns-clause-all c = λ lines s. is_all c.args.table.now c.requires.names c.args.bytes.now lines s c.read_script.result c.read_script.ensures

pub returns-clause-of_table : goal.returns-clause-of_table
returns-clause-of_table c = is_of_table c.args.table.now c.requires.names c.args.bytes.now c.read_script.result c.read_script.ensures
