use Rattle.std.proofs.Common.{◌==◌, rules}
use Rattle.script_run.proofs.Rounds.{one_more}
use Rattle.script_run.proofs.upstream.Marks.of_one.Goals as goal

pub loop-q-preserved : goal.loop-q-preserved
loop-q-preserved c = (one_more (λ q. q == c.args.p.0) c.loop-q.q _ _ _ c.loop-q.invariant.0 c.push.ensures.items (search rules), search rules, search rules)
