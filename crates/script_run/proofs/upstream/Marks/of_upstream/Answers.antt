use Rattle.std.proofs.Common.{◌==◌, map}
use Rattle.apex_model.specs.Isolation.{partition_numbers}
use Rattle.script_run.proofs.Rounds.{round_more}
use Rattle.script_run.proofs.upstream.Marks.of_upstream.Goals as goal

pub loop-preserved : goal.loop-preserved
loop-preserved c = round_more c.loop.counter c.args.table.now (map (λ q. q == c.args.p.0) (partition_numbers c.args.table.now)) _ _ c.loop.invariant c.spread-marks.ensures
