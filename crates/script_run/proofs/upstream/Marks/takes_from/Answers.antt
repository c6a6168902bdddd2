use Rattle.std.proofs.Common.{rules, ◌&&◌, length, arith}
use Rattle.std.proofs.lemmas.Iterator.{YieldsList-from_range}
use Rattle.std.proofs.lemmas.Iterator.Search.{any_from_yields_List}
use Rattle.apex_model.specs.Isolation.{is_marked, feeds}
use Rattle.script_run.proofs.upstream.Marks.takes_from.Goals as goal

pub returns : goal.returns
returns c = any_from_yields_List (λ member. is_marked c.args.self.now member && feeds c.args.table.now c.args.q.0 member) _ _ _ c.any.ensures.ran (YieldsList-from_range 0 (length c.args.table.now.partitions) (length c.args.table.now.partitions) (cc) (omega arith)) (λ x b q k. search (rules, k))
