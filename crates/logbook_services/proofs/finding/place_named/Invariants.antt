use Rattle.std.proofs.Common.{◌≡◌, ◌≤◌}
use Rattle.logbook_services.specs.Places.{named_in}
use Rattle.logbook_services.proofs.Numbers.{named_from}
use Rattle.logbook_services.proofs.finding.place_named.Given as goal

-- the place is that among the rest, counted on
abbrev pub invariant-loop-row : goal.invariant-loop-row
invariant-loop-row l = record { rest : named_in l.rows l.p.0 l.name ≡ named_from l.rows l.p.0 l.name l.place l.row-index; few : l.place ≤ l.row-index }
