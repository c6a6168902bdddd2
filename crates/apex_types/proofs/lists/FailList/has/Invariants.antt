use Rattle.std.proofs.Common.{◌≡◌, ℕ, ◌<◌, get_or}
use Rattle.apex_types.proofs.lists.FailList.has.Given as goal

abbrev pub invariant-loop-call : goal.invariant-loop-call
invariant-loop-call l = (k : ℕ) → k < l.call-index → get_or l.call-items k (l.kind, l.number) ≡ (l.kind, l.number) → ⊥
