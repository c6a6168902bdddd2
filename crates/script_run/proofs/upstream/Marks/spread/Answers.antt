use Rattle.std.proofs.Common.{◌||◌, ◌&&◌, rules}
use Rattle.std.specs.List.{list_any}
use Rattle.apex_model.specs.Isolation.{is_marked, feeds, partition_numbers}
use Rattle.script_run.proofs.Rounds.{one_more}
use Rattle.script_run.proofs.upstream.Marks.spread.Goals as goal

pub loop-q-preserved : goal.loop-q-preserved
loop-q-preserved c = (
  one_more (λ q. is_marked c.args.self.now q || list_any (λ member. is_marked c.args.self.now member && feeds c.args.table.now q member) (partition_numbers c.args.table.now))
      c.loop-q.q _ _ _ c.loop-q.invariant.0 c.push.ensures.items c.reaches.ensures,
  search rules,
  search rules,
)
