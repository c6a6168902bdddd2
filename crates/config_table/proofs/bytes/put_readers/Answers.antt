use Rattle.config_table.specs.Counted.{reader_bytes}
use Rattle.config_table.proofs.Appending.{appended}
use Rattle.config_table.proofs.bytes.put_readers.Goals as goal

pub loop-k-preserved : goal.loop-k-preserved
loop-k-preserved c =
    appended reader_bytes c.args.readers.now c.loop-k.k c.at.result.now c.loop-k.bytes c.push-in-loop-k.new.self _ c.at.ensures c.in_ok-push-2.ensures.ok c.loop-k.invariant
