use Rattle.std.proofs.Common.{◌≡◌, take}
use Rattle.test_fixtures.proofs.failing.Given as goal

-- the calls so far are listed
abbrev pub invariant-loop-kind : goal.invariant-loop-kind
invariant-loop-kind l = l.list ≡ take l.kind-index l.calls
