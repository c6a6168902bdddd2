use Rattle.std.proofs.Common.{◌≡◌, ◌≤◌}
use Rattle.sampling_ext.specs.Places.{named_in}
use Rattle.sampling_ext.proofs.Numbers.{named_from}
use Rattle.sampling_ext.proofs.port.PortList.place_named.Given as goal

-- the place is that among the rest, counted on
abbrev pub invariant-loop-port : goal.invariant-loop-port
invariant-loop-port l = record { rest : named_in l.self l.p.0 l.name ≡ named_from l.self l.p.0 l.name l.place l.port-index; few : l.place ≤ l.port-index }
