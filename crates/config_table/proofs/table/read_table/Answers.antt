use Rattle.config_table.proofs.Accepting.{is_accepted, is_ready}
use Rattle.config_table.proofs.table.read_table.Goals as goal

pub returns-clause-accepted : goal.returns-clause-accepted
returns-clause-accepted c = is_accepted c.args.bytes.now c.read_text.result c.read_text.ensures

pub returns-clause-ready : goal.returns-clause-ready
returns-clause-ready c = is_ready c.args.bytes.now c.read_text.result c.read_text.ensures
