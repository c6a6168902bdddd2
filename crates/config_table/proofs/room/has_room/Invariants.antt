use Rattle.std.proofs.Common.{◌≡◌, ◌+◌, drop}
use Rattle.std.specs.Prelude.{sum_by, filter, ◌==◌}
use Rattle.config_table.proofs.room.has_room.Given as goal

abbrev pub invariant-loop-tree : goal.invariant-loop-tree
invariant-loop-tree l =
    sum_by (λ row. row.quota) (filter (λ row. row.volume == l.volume) l.trees) + l.left ≡ sum_by (λ row. row.quota) (filter (λ row. row.volume == l.volume) (drop l.tree-index l.trees)) + l.blocks
