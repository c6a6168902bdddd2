use Rattle.std.proofs.Common.{arith}
use Rattle.tree_state.proofs.mounting.state_of.Goals as goal

pub returns-clause-fresh : goal.returns-clause-fresh
returns-clause-fresh c = record {
  present = c.in_ok-present.ensures;
  charges = c.in_ok-charges.ensures;
  within = omega (arith, c.total.ensures.within, c.in_ok-charges.ensures.quota);
  body = c.in_ok-body.ensures.long;
  tail = c.in_ok-tail.ensures;
  stored = c.in_ok-body.ensures.stored;
}
