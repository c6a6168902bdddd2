use Rattle.std.proofs.Common.{◌∙◌, arith}
use Rattle.logbook_tests.proofs.Known.{count_from}
use Rattle.logbook_tests.proofs.cuts.found_on.Goals as goal

pub found_in-requires-clause-logbook : goal.found_in-requires-clause-logbook
found_in-requires-clause-logbook g c =
    let long = count_from c.in_ok-table.table c.in-Ok.logs c.in-Ok.ensures.sites ∙ c.in_ok-table.ensures.three in
    omega (arith, long)

pub found_in-requires-2-clause-logbook : goal.found_in-requires-2-clause-logbook
found_in-requires-2-clause-logbook g c =
    let long = count_from c.in_ok-table.table c.in-Ok.logs c.in-Ok.ensures.sites ∙ c.in_ok-table.ensures.three in
    omega (arith, long)

pub found_in-requires-3-clause-logbook : goal.found_in-requires-3-clause-logbook
found_in-requires-3-clause-logbook g c =
    let long = count_from c.in_ok-table.table c.in-Ok.logs c.in-Ok.ensures.sites ∙ c.in_ok-table.ensures.three in
    omega (arith, long)
