use Rattle.std.proofs.Common.{◌≡◌, [], map, drop, Ok}
use Rattle.toml.specs.View.{view}
use Rattle.table_model.specs.Reading.{read_each}
use Rattle.config_table.specs.Gives.{so_far}
use Rattle.config_table.proofs.lists.items_from.Given as goal

abbrev pub invariant-loop-value : goal.invariant-loop-value
invariant-loop-value g l =
    read_each g.T.Item.reading (so_far l.items.items l.error) (map view (drop l.value-index l.list)) ≡ read_each g.T.Item.reading (Ok []) (map view l.list)
