use Rattle.std.proofs.Common.{List, sym, ◌∙◌, ap}
use Rattle.apex_types.specs.declared.rows.LogbookRow.{LogbookRow}
use Rattle.logbook_services.specs.Places.{numbered_in, named_in}
use Rattle.logbook_services.proofs.Leading.{named-at}
use Rattle.logbook_services.proofs.finding.named.Goals as goal

pub returns-clause-some : goal.returns-clause-some
returns-clause-some c =
    named-at c.args.table.now c.args.p.0 c.args.name.now c.in_ok-place.place c.in_ok-k.k
    (sym c.in_ok-place.was ∙ c.place_named.ensures.value ∙ ap (λ (rows : List LogbookRow). named_in rows c.args.p.0 c.args.name.now) c.logbooks.ensures)
    (sym c.in_ok-k.was ∙ c.number_of.ensures.value ∙ ap (λ (rows : List LogbookRow). numbered_in rows c.args.p.0 c.in_ok-place.place) c.logbooks-2.ensures)
