use Rattle.std.proofs.Common.{◌≡◌, drop}
use Rattle.std.specs.Prelude.{◌==◌, slice_get}
use Rattle.apex_model.specs.Tables.{numbers_from}
use Rattle.sampling_ext.proofs.port.PortList.number_of.Given as goal

-- the number is that of a nearer place among the rest
abbrev pub invariant-loop-k : goal.invariant-loop-k
invariant-loop-k l = slice_get (numbers_from (λ port. port.partition == l.p.0) 0 l.self) l.place ≡ slice_get (numbers_from (λ port. port.partition == l.p.0) l.k (drop l.k l.self)) l.before
