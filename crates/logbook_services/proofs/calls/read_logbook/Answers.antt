use Rattle.std.proofs.Common.{◌≡◌, ◌+◌, ◌<◌, true, false, refl, sym, ◌∙◌, ap, subst, arith}
use Rattle.std.specs.Prelude.{◌==◌, Ok, Err}
use Rattle.std.proofs.lemmas.Bool.Decides.{nat_tests}
use Rattle.std.proofs.lemmas.Grind.{common_steps}
use Rattle.apex_types.specs.declared.codes.ReturnCode.TheVariants.{InvalidParam, NotAvailable}
use Rattle.apex_model.specs.Logbooks.{LogbookSystem, LogbookOutcome}
use Rattle.apex_model.specs.Outcomes.{reply_of}
use Rattle.apex_types.specs.declared.replies.Values.TheVariants.{Entry}
use Rattle.logbook_services.specs.Standing.{Stands}
use Rattle.logbook_services.proofs.Rows.{within_logs}
use Rattle.logbook_services.proofs.Served.{refused-answered, answered-served, read-served, tellable-success}
use Rattle.logbook_services.proofs.Services.{read-none, read-zero, read-past, read-same, read-entry}
use Rattle.logbook_services.proofs.calls.read_logbook.Goals as goal

pub returns-in_default : goal.returns-in_default
returns-in_default g c =
    answered-served g.R.Rig.tells_view g.R.Rig.keeps_cuts 0 c.args.table.now _ c.args.logs.now c.args.made.now c.args.logs.now c.args.made.now (g.R.Rig.state c.args.rig.now) c.refused.result
    (g.met.R.Rig.sound c.args.rig.now) c.requires.settled
    (refused-answered c.args.table.now _ c.args.logs.now c.args.made.now c.refused.result InvalidParam
    (λ image system stands. read-none c.args.table.now c.args.made.now c.args.p.0 c.args.id system stands.marks c.args.number c.in_default.ensures.none) c.refused.ensures)

pub returns-then-number-eq0 : goal.returns-then-number-eq0
returns-then-number-eq0 g c =
    let none : (c.args.number == 0) ≡ true = grind (arith, nat_tests) in
    answered-served g.R.Rig.tells_view g.R.Rig.keeps_cuts 0 c.args.table.now _ c.args.logs.now c.args.made.now c.args.logs.now c.args.made.now (g.R.Rig.state c.args.rig.now) c.refused-then-number-eq0.result
    (g.met.R.Rig.sound c.args.rig.now) c.requires.settled
    (refused-answered c.args.table.now _ c.args.logs.now c.args.made.now c.refused-then-number-eq0.result InvalidParam
    (λ image system stands. read-zero c.args.table.now c.args.made.now c.args.p.0 c.args.id system stands.marks c.in-Some.k c.in-Some._row.now c.in-Some.ensures.some c.args.number none) c.refused-then-number-eq0.ensures)

pub counts-counts-requires : goal.counts-counts-requires
counts-counts-requires g c = within_logs c.args.table.now c.args.logs.now c.in-Some.k c.in-Some._row.now c.requires.of_table.sites c.in-Some.ensures.some.row_is

pub returns-then-from : goal.returns-then-from
returns-then-from g c =
    let some : (c.args.number == 0) ≡ false = grind (arith, nat_tests) in
    let past : c.counts-counts.result.progress + c.counts-counts.result.logged < c.args.number = grind (arith, common_steps) in
    answered-served g.R.Rig.tells_view g.R.Rig.keeps_cuts 0 c.args.table.now _ c.args.logs.now c.args.made.now c.args.logs.now c.args.made.now (g.R.Rig.state c.args.rig.now) c.refused-then-from.result
    (g.met.R.Rig.sound c.args.rig.now) c.requires.settled
    (refused-answered c.args.table.now _ c.args.logs.now c.args.made.now c.refused-then-from.result NotAvailable
    (λ image system stands. read-past c.args.table.now c.args.made.now c.args.p.0 c.args.id system stands.marks c.in-Some.k c.in-Some._row.now c.in-Some.ensures.some c.args.number c.counts-counts.result
    (c.counts-counts.ensures.told image system.books stands.stored) some past) c.refused-then-from.ensures)

pub entry-requires-clause-logbook : goal.entry-requires-clause-logbook
entry-requires-clause-logbook g c = within_logs c.args.table.now c.args.logs.now c.in-Some.k c.in-Some._row.now c.requires.of_table.sites c.in-Some.ensures.some.row_is

pub returns-in-Err : goal.returns-in-Err
returns-in-Err g c =
    let some : (c.args.number == 0) ≡ false = grind (arith, nat_tests) in
    let o = g.R.Rig.state c.args.rig.now in
    let P : LogbookSystem → Type 0 = λ s. Stands c.args.table.now c.args.logs.now c.args.made.now o.view s in
    read-served g.R.Rig.tells_view g.R.Rig.keeps_cuts 0 c.args.table.now _ c.args.logs.now c.args.made.now c.args.logs.now c.args.made.now o (g.R.Rig.state c.entry.new.rig)
    (g.met.R.Rig.sound c.args.rig.now) (g.met.R.Rig.sound c.entry.new.rig) c.entry.ensures.reads c.requires.settled (Err c.in-Err.fault)
    (λ system tells stands. tt)
    (λ system tells stands. subst P (sym (read-same c.args.table.now c.args.made.now c.args.p.0 c.args.id system stands.marks c.in-Some.k c.in-Some._row.now c.in-Some.ensures.some c.args.number some)) stands)
    refl refl tt c.in-Err.ensures.cause

pub returns-in-Ok : goal.returns-in-Ok
returns-in-Ok g c =
    let some : (c.args.number == 0) ≡ false = grind (arith, nat_tests) in
    let o = g.R.Rig.state c.args.rig.now in
    let P : LogbookSystem → Type 0 = λ s. Stands c.args.table.now c.args.logs.now c.args.made.now o.view s in
    read-served g.R.Rig.tells_view g.R.Rig.keeps_cuts 0 c.args.table.now _ c.args.logs.now c.args.made.now c.args.logs.now c.args.made.now o (g.R.Rig.state c.entry.new.rig)
    (g.met.R.Rig.sound c.args.rig.now) (g.met.R.Rig.sound c.entry.new.rig) c.entry.ensures.reads c.requires.settled (Ok c.success.result)
    (λ system tells stands.
    c.success.ensures ∙ sym (ap (λ (out : LogbookOutcome). reply_of out) (read-entry c.args.table.now c.args.made.now c.args.p.0 c.args.id system stands.marks c.in-Some.k c.in-Some._row.now c.in-Some.ensures.some c.args.number
    (Entry c.in-Ok.state c.in-Ok.bytes) some (c.in-Ok.ensures.entry system.books tells stands.stored))))
    (λ system tells stands. subst P (sym (read-same c.args.table.now c.args.made.now c.args.p.0 c.args.id system stands.marks c.in-Some.k c.in-Some._row.now c.in-Some.ensures.some c.args.number some)) stands)
    refl refl (tellable-success c.success.result (Entry c.in-Ok.state c.in-Ok.bytes) c.success.ensures) tt
