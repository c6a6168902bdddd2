use Rattle.std.proofs.Common.{◌≡◌, ◌++◌, drop, flat_map}
use Rattle.config_table.proofs.bytes.put_each.Given as goal

abbrev pub invariant-loop-row : goal.invariant-loop-row
invariant-loop-row g l = l.bytes ++ flat_map g.T.Canonical.bytes_of (drop l.row-index l.rows) ≡ l.initial.bytes ++ flat_map g.T.Canonical.bytes_of l.rows
