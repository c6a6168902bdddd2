use Rattle.std.proofs.Common.{arith}
use Rattle.image_format.proofs.Regions.{logbook_start-next}
use Rattle.recover_scan.proofs.runs.logbook_length.Goals as goal

pub returns : goal.returns
returns c table row is found =
    omega (arith, c.saturating_sub.ensures, c.logbook_start-end.ensures table is, c.logbook_start.ensures table is, logbook_start-next table c.args.logbook row found)
