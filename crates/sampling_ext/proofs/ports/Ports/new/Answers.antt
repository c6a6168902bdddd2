use Rattle.sampling_ext.proofs.Kept.{new-stands, new-serving}
use Rattle.sampling_ext.proofs.ports.Ports.new.Goals as goal

pub returns-clause-unused : goal.returns-clause-unused
returns-clause-unused c = new-stands c.args.table.now _ c.len.result c.in_ok-list.ensures c.in_ok-channels.ensures c.len.ensures c.in_ok-created.ensures

pub returns-clause-valid : goal.returns-clause-valid
returns-clause-valid c = new-serving c.args.table.now _ (new-stands c.args.table.now _ c.len.result c.in_ok-list.ensures c.in_ok-channels.ensures c.len.ensures c.in_ok-created.ensures)
