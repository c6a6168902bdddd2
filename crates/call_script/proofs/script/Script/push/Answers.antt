use Rattle.std.proofs.Common.{◌≡◌, ◌<◌, ◌∷◌, [], ◌++◌, rules, is_ok}
use Rattle.script_model.specs.Numbering.{last_number}
use Rattle.call_script.proofs.Numbers.{numbered-after, last_number-pushed}
use Rattle.call_script.proofs.script.Script.push.Goals as goal

pub invariant_of-self : goal.invariant_of-self
invariant_of-self c =
    let above : last_number c.self.inside.content.items < c.args.line.number = rw (← c.self.view_is) at c.requires.above in
    numbered-after (is_ok c.push.result) c.self.inside.content.items c.push.new.self.items c.args.line c.push.ensures.items c.self.invariant above c.requires.few

pub invariant_of-self-2 : goal.invariant_of-self-2
invariant_of-self-2 c =
    let above : last_number c.self.inside.content.items < c.args.line.number = rw (← c.self.view_is) at c.requires.above in
    numbered-after (is_ok c.push.result) c.self.inside.content.items c.push.new.self.items c.args.line c.push.ensures.items c.self.invariant above c.requires.few

pub returns-clause-last : goal.returns-clause-last
returns-clause-last c =
    let pushed : c.push.new.self.items ≡ c.self.inside.content.items ++ c.args.line ∷ [] = search rules in
    rw pushed (last_number-pushed c.self.inside.content.items c.args.line)
