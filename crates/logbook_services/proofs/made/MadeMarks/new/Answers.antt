use Rattle.std.proofs.Common.{List, false, length, replicate, ◌∙◌, ap}
use Rattle.apex_types.specs.declared.rows.LogbookRow.{LogbookRow}
use Rattle.logbook_services.proofs.Lists.{map_const}
use Rattle.logbook_services.proofs.made.MadeMarks.new.Goals as goal

pub returns : goal.returns
returns c = c.in_ok-content.ensures ∙ ap (λ (rows : List LogbookRow). replicate (length rows) false) c.logbooks.ensures ∙ map_const false c.args.table.now.logbooks
