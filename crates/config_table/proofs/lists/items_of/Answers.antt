use Rattle.std.proofs.Common.{map}
use Rattle.toml.specs.View.{view}
use Rattle.config_table.proofs.Loop.{elements-items}
use Rattle.config_table.proofs.lists.items_of.Goals as goal

pub returns : goal.returns
returns g c = rw (elements-items (map view c.args.list.now)) c.items_from.ensures
