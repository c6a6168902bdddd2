use Rattle.std.proofs.Common.{rules}
use Rattle.std.proofs.lemmas.Iterator.{YieldsList-from_slice}
use Rattle.std.proofs.lemmas.Iterator.Search.{any_from_yields_List}
use Rattle.apex_model.specs.Isolation.{carries}
use Rattle.script_run.proofs.upstream.carries_any.Goals as goal

pub returns : goal.returns
returns c = any_from_yields_List (carries c.args.q.0 c.args.p.0) _ _ _ c.any.ensures.ran (YieldsList-from_slice c.args.table.now.channels (cc)) (λ x b q k. search (rules, k))
