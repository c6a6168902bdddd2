use Rattle.std.specs.Io.KnownBytes.{Keeps}
use Rattle.system_adapters.proofs.reading.read_once.Given as goal

-- an interrupted read takes nothing
abbrev pub invariant-loop : goal.invariant-loop
invariant-loop g l = Keeps (g.F.Read.remaining l.initial.reader) (g.F.Read.remaining l.reader)
