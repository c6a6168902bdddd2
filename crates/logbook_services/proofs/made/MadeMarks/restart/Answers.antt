use Rattle.logbook_services.proofs.Kept.{forgotten-of_table, forgotten-serving}
use Rattle.logbook_services.proofs.made.MadeMarks.restart.Goals as goal

pub returns-clause-of_table : goal.returns-clause-of_table
returns-clause-of_table c = forgotten-of_table c.args.table.now c.args.p.0 c.args.self.now c.forget_made.new.self c.forget_made.ensures c.requires

pub returns-clause-valid : goal.returns-clause-valid
returns-clause-valid c = forgotten-serving c.args.table.now c.args.p.0 c.args.self.now c.forget_made.new.self c.forget_made.ensures c.requires
