use Rattle.std.proofs.lemmas.Result.{IfOk-weaker}
use Rattle.stress_script.specs.Generator.{draw_kind}
use Rattle.stress_script.proofs.kinds.draw_kind.Goals as goal

pub returns-in-8 : goal.returns-in-8
unfolding draw_kind
returns-in-8 c = IfOk-weaker c.create_logbook.result _ _ (λ deed h. rw c.in-8.is (h c.args.draws.now)) c.create_logbook.ensures
