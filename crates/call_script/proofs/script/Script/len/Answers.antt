use Rattle.std.proofs.Common.{arith}
use Rattle.call_script.proofs.Numbers.{numbered-few}
use Rattle.call_script.proofs.script.Script.len.Goals as goal

pub overflow_cast-result : goal.overflow_cast-result
overflow_cast-result c =
    let few = numbered-few c.self.inside.content.items c.self.invariant in
    omega (arith, few, c.len.ensures)

pub returns-clause-few : goal.returns-clause-few
returns-clause-few c = rw (← c.self.view_is) (numbered-few c.self.inside.content.items c.self.invariant)
