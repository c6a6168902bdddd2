use Rattle.std.proofs.Common.{◌≡◌, ◌-◌, ◌≤◌}
use Rattle.std.specs.Prelude.{is_some}
use Rattle.file_tree.specs.Table.{way}
use Rattle.file_tree.proofs.places.has_way.Given as goal

-- so far the directory is in use where the one that is looked at is, with so many names less
abbrev pub invariant-loop : goal.invariant-loop
invariant-loop l = (is_some (way l.directories 5 l.fn.directory.0) ≡ is_some (way l.directories (5 - l.counter) l.at.0)) × (l.counter ≤ 5)
