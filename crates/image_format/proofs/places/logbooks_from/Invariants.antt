use Rattle.std.proofs.Common.{◌≡◌, ◌+◌, ◌≤◌, ◌++◌, drop, length, sum_by}
use Rattle.apex_model.specs.Layout.{logbook_blocks}
use Rattle.image_format.specs.Places.{starts_from}
use Rattle.image_format.proofs.places.logbooks_from.Given as goal

abbrev pub invariant-loop-row : goal.invariant-loop-row
invariant-loop-row l =
    (length l.places.items ≡ l.row-index)
    × (l.places.items ++ starts_from logbook_blocks l.end (drop l.row-index l.rows) ≡ starts_from logbook_blocks l.start l.rows)
    × (l.end + sum_by logbook_blocks (drop l.row-index l.rows) ≤ 131072)
