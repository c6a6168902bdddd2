use Rattle.std.specs.Prelude.{Ok, Err}
use Rattle.apex_types.specs.declared.codes.ReturnCode.TheVariants.{InvalidParam}
use Rattle.logbook_services.proofs.Rows.{within_logs}
use Rattle.logbook_services.proofs.Served.{refused-answered, answered-served, clear-served}
use Rattle.logbook_services.proofs.Services.{clear-none, clear-at}
use Rattle.logbook_services.proofs.calls.clear_logbook.Goals as goal

pub returns-in_default : goal.returns-in_default
returns-in_default g c =
    answered-served g.R.Rig.tells_view g.R.Rig.keeps_cuts 3 c.args.table.now _ c.args.logs.now c.args.made.now c.args.logs.now c.args.made.now (g.R.Rig.state c.args.rig.now) c.refused.result
    (g.met.R.Rig.sound c.args.rig.now) c.requires.settled
    (refused-answered c.args.table.now _ c.args.logs.now c.args.made.now c.refused.result InvalidParam
    (λ image system stands. clear-none c.args.table.now c.args.made.now c.args.p.0 c.args.id system stands.marks c.in_default.ensures.none) c.refused.ensures)

pub clear-requires-clause-logbook : goal.clear-requires-clause-logbook
clear-requires-clause-logbook g c = within_logs c.args.table.now c.args.logs.now c.in-Some.k c.in-Some._row.now c.requires.of_table.sites c.in-Some.ensures.some.row_is

pub returns-in-Err : goal.returns-in-Err
returns-in-Err g c =
    clear-served g.R.Rig.tells_view c.args.table.now _ c.args.logs.now c.args.made.now c.clear.new.self c.in-Some.k (g.R.Rig.state c.args.rig.now) (g.R.Rig.state c.clear.new.rig) (Err c.in-Err.fault)
    (λ system is. clear-at c.args.table.now c.args.made.now c.args.p.0 c.args.id system is c.in-Some.k c.in-Some._row.now c.in-Some.ensures.some)
    tt c.in-Err.ensures.any_moment c.in-Err.ensures.shown c.in-Err.ensures.outside c.in-Err.ensures.outside_view (λ logbooks tells stand. tt) tt c.in-Err.ensures.sites c.in-Err.ensures.later c.in-Err.ensures.made c.in-Err.ensures.cause

pub returns-in-Ok : goal.returns-in-Ok
returns-in-Ok g c =
    clear-served g.R.Rig.tells_view c.args.table.now _ c.args.logs.now c.args.made.now c.clear.new.self c.in-Some.k (g.R.Rig.state c.args.rig.now) (g.R.Rig.state c.clear.new.rig) (Ok c.success.result)
    (λ system is. clear-at c.args.table.now c.args.made.now c.args.p.0 c.args.id system is c.in-Some.k c.in-Some._row.now c.in-Some.ensures.some)
    c.success.ensures c.in-Ok.ensures.any_moment c.in-Ok.ensures.shown c.in-Ok.ensures.outside c.in-Ok.ensures.outside_view c.in-Ok.ensures.cleared c.in-Ok.ensures.settled c.in-Ok.ensures.sites c.in-Ok.ensures.later c.in-Ok.ensures.made tt
