use Rattle.std.proofs.Common.{◌<◌, length}
use Rattle.call_script.proofs.Numbers.{found-numbered}
use Rattle.call_script.proofs.script.Script.line.Goals as goal

pub returns-clause-from_one : goal.returns-clause-from_one
returns-clause-from_one c =
    let below : c.args.k < length c.self.inside.content.items = rw (← c.self.view_is) at c.requires in
    (found-numbered c.self.inside.content.items c.args.k c.index.result.now c.self.invariant below c.index.ensures).0

pub returns-clause-few : goal.returns-clause-few
returns-clause-few c =
    let below : c.args.k < length c.self.inside.content.items = rw (← c.self.view_is) at c.requires in
    (found-numbered c.self.inside.content.items c.args.k c.index.result.now c.self.invariant below c.index.ensures).1
