use Rattle.std.proofs.Common.{◌≡◌, ◌-◌, List, true, false, Some, sym, ◌∙◌, ap, arith}
use Rattle.std.specs.Prelude.{◌==◌, slice_get, slice_index_or}
use Rattle.std.proofs.lemmas.Bool.Decides.{nat_tests}
use Rattle.apex_types.specs.declared.rows.LogbookRow.{LogbookRow}
use Rattle.logbook_services.specs.Places.{numbered_in}
use Rattle.logbook_services.proofs.Leading.{leads}
use Rattle.logbook_services.proofs.Lists.{looked_up}
use Rattle.logbook_services.proofs.finding.on_book.Goals as goal

pub returns-clause-some : goal.returns-clause-some
returns-clause-some c =
    let some : (c.args.id == 0) ≡ false = grind (arith, nat_tests) in
    let number : Some c.in_ok-k.k ≡ numbered_in c.args.table.now.logbooks c.args.p.0 (c.args.id - 1) =
    sym c.in_ok-k.was ∙ c.number_of.ensures.value ∙ ap (λ (rows : List LogbookRow). numbered_in rows c.args.p.0 (c.args.id - 1)) c.logbooks.ensures in
    let made : slice_index_or c.args.made.now c.in_ok-k.k false ≡ true = sym c.is_made.ensures ∙ c.if-not-is_made.false in
    let at : slice_get c.args.table.now.logbooks c.in_ok-k.k ≡ Some c.in_ok-row.row.now =
    ap (λ (rows : List LogbookRow). slice_get rows c.in_ok-k.k) (sym c.logbooks-2.ensures) ∙ looked_up c.logbooks-2.result.now c.in_ok-k.k c.in_ok-row.row.now c.in_ok-row.ensures.lookup.0 c.in_ok-row.ensures.lookup.1 in
    leads c.args.table.now c.args.made.now c.args.p.0 c.args.id c.in_ok-k.k some number c.in_ok-row.row.now made at
