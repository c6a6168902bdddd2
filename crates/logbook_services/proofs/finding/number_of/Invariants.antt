use Rattle.std.proofs.Common.{◌≡◌, drop}
use Rattle.std.specs.Prelude.{◌==◌, slice_get}
use Rattle.apex_model.specs.Tables.{numbers_from}
use Rattle.logbook_services.proofs.finding.number_of.Given as goal

-- the number is that of a nearer place among the rest
abbrev pub invariant-loop-k : goal.invariant-loop-k
invariant-loop-k l = slice_get (numbers_from (λ row. row.partition.0 == l.p.0) 0 l.rows) l.place ≡ slice_get (numbers_from (λ row. row.partition.0 == l.p.0) l.k (drop l.k l.rows)) l.before
