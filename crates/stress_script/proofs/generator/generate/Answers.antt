use Rattle.std.proofs.Common.{◌≡◌, ◌+◌, ◌++◌, ◌∷◌, [], sym, subst, rules, arith}
use Rattle.std.specs.List.{AllByRecursion}
use Rattle.apex_model.specs.Lines.{IsLineOf}
use Rattle.stress_script.proofs.Lines.{begins, goes-on, is-done}
use Rattle.stress_script.proofs.OfTable.{generated-of}
use Rattle.stress_script.proofs.generator.generate.Goals as goal

pub loop-before-init : goal.loop-before-init
loop-before-init c = record {
  drawn = begins c.args.table.now c.new-script.result c.args.seed c.args.lines c.new-draws.result c.new-script.ensures c.new-draws.ensures;
  last = search (rules, c.new-script.ensures);
}

pub loop-before-preserved : goal.loop-before-preserved
loop-before-preserved c =
    let pushed : c.push.new.self ≡ c.loop-before.script ++ record { number = c.loop-before.before + 1; deed = c.in_ok-deed.deed } ∷ [] = search (rules, c.in_ok-push.ensures.ok) in
    record {
      drawn = rw pushed (goes-on c.args.table.now c.loop-before.script c.loop-before.before c.args.lines c.loop-before.draws c.draw_deed.new.draws c.in_ok-deed.deed _ (omega (arith, c.loop-before-test.true)) c.in_ok-deed.ensures c.loop-before.invariant.drawn);
      last = search (rules, c.in_ok-push.ensures.last);
    }

pub returns-clause-drawn : goal.returns-clause-drawn
returns-clause-drawn c = is-done c.args.table.now c.loop-before.script c.loop-before.before c.args.lines c.loop-before.draws _ (omega (arith, c.loop-before-test.false)) c.loop-before.invariant.drawn

pub returns-clause-of_table : goal.returns-clause-of_table
returns-clause-of_table c =
    subst (AllByRecursion (IsLineOf c.args.table.now)) (sym (returns-clause-drawn c)) (generated-of c.args.table.now c.args.seed c.args.lines c.requires.accepted c.requires.few)
