use Rattle.std.proofs.Common.{◌∙◌, ap, subst}
use Rattle.std.specs.Prelude.{Err, Result, length}
use Rattle.apex_types.specs.Rows.{Rows}
use Rattle.recover_scan.proofs.Changes.{later_then}
use Rattle.script_run.specs.Reached.{Reached, Halts, StopsTelling, LeavesRunPairs}
use Rattle.script_run.specs.declared.lines.LineStop.{LineStop}
use Rattle.apex_host.specs.declared.command.Command.TheVariants.{Run}
use Rattle.apex_host.proofs.Carried.{ends-ran, ends-halted, ends-telling, ran-leaves, fault-leaves_run, cut-leaves_run}
use Rattle.apex_host.proofs.Disks.{reads-tell, tells-none}
use Rattle.apex_host.proofs.Endings.{no-table, no-script, no-image}
use Rattle.apex_host.proofs.StopLaws.{no-table-undone, no-script-undone, no-image-undone}
use Rattle.apex_host.proofs.running.execute.Goals as goal

pub returns-in-Err-clause-stopped : goal.returns-in-Err-clause-stopped
returns-in-Err-clause-stopped g c = no-table (g.R.Rig.state c.args.rig.now) Run c.in-Err.ensures.stopped

pub returns-in-Err-clause-unwritten : goal.returns-in-Err-clause-unwritten
returns-in-Err-clause-unwritten g c = (no-table-undone c.in-Err.ensures.stopped, tells-none g.R.Rig.tells_view (g.R.Rig.state c.args.rig.now))

pub returns-in-Err-accepted_script-clause-stopped : goal.returns-in-Err-accepted_script-clause-stopped
returns-in-Err-accepted_script-clause-stopped g c = no-script (g.R.Rig.state c.args.rig.now) Run c.in-Ok.rows c.in-Ok.ensures.gave tt c.in-Ok.ensures.good c.in-Err-accepted_script.ensures.stopped

pub returns-in-Err-accepted_script-clause-unwritten : goal.returns-in-Err-accepted_script-clause-unwritten
returns-in-Err-accepted_script-clause-unwritten g c = (no-script-undone c.in-Err-accepted_script.ensures.stopped, tells-none g.R.Rig.tells_view (g.R.Rig.state c.args.rig.now))

pub returns-in-Err-opened_session-clause-stopped : goal.returns-in-Err-opened_session-clause-stopped
returns-in-Err-opened_session-clause-stopped g c =
    no-image (g.R.Rig.state c.args.rig.now) (g.R.Rig.state c.opened_session.new.rig) c.in-Ok.ensures.good c.in-Ok-accepted_script.ensures.good Run c.in-Ok.rows c.in-Ok.ensures.gave (tt, (c.in-Ok-accepted_script.lines, c.in-Ok-accepted_script.ensures.gave))
    c.opened_session.ensures.reads.told c.in-Err-opened_session.ensures.stopped

pub returns-in-Err-opened_session-clause-unwritten : goal.returns-in-Err-opened_session-clause-unwritten
returns-in-Err-opened_session-clause-unwritten g c =
    (no-image-undone c.in-Err-opened_session.ensures.stopped, reads-tell g.R.Rig.tells_view (g.R.Rig.state c.args.rig.now) (g.R.Rig.state c.opened_session.new.rig) c.opened_session.ensures.reads)

pub returns-in-Ok-carry_out-clause-ends : goal.returns-in-Ok-carry_out-clause-ends
returns-in-Ok-carry_out-clause-ends g c =
    let V = g.R.Rig.tells_view in
    let T = g.R.Rig.tells_text in
    let o = g.R.Rig.state c.args.rig.now in
    let m = g.R.Rig.state c.opened_session.new.rig in
    let e = g.R.Rig.state c.carry_out.new.rig in
    let lines = c.in-Ok-accepted_script.lines in
    let first = c.in-Ok-opened_session.session in
    let P : Rows → Type 0 = λ r. Reached T V r lines (length lines) first m c.carry_out.new.session e in
    ends-ran c.in-Ok.rows lines o m e c.opened_session.ensures.reads first c.in-Ok-opened_session.ensures.starts
    c.in-Ok.ensures.good c.in-Ok-accepted_script.ensures.good c.in-Ok.ensures.gave c.in-Ok-accepted_script.ensures.gave (subst P c.in-Ok-opened_session.ensures.table c.in-Ok-carry_out.ensures.ran)

pub returns-in-Ok-carry_out-clause-disk : goal.returns-in-Ok-carry_out-clause-disk
returns-in-Ok-carry_out-clause-disk g c =
    let V = g.R.Rig.tells_view in
    let T = g.R.Rig.tells_text in
    let o = g.R.Rig.state c.args.rig.now in
    let m = g.R.Rig.state c.opened_session.new.rig in
    let e = g.R.Rig.state c.carry_out.new.rig in
    let lines = c.in-Ok-accepted_script.lines in
    let first = c.in-Ok-opened_session.session in
    let L : Rows → Type 0 = λ r. LeavesRunPairs T V r lines first m e in
    let P : Rows → Type 0 = λ r. Reached T V r lines (length lines) first m c.carry_out.new.session e in
    ran-leaves c.in-Ok.rows lines o m e c.opened_session.ensures.reads first c.in-Ok-opened_session.ensures.starts
    c.in-Ok.ensures.gave.spelled c.in-Ok-accepted_script.ensures.gave.spelled (subst L c.in-Ok-opened_session.ensures.table c.carry_out.ensures.pairs) (g.met.R.Rig.sound c.carry_out.new.rig) (subst P c.in-Ok-opened_session.ensures.table c.in-Ok-carry_out.ensures.ran)

pub returns-in-Ok-carry_out-clause-later : goal.returns-in-Ok-carry_out-clause-later
returns-in-Ok-carry_out-clause-later g c = later_then (g.R.Rig.state c.args.rig.now) (g.R.Rig.state c.opened_session.new.rig) (g.R.Rig.state c.carry_out.new.rig) c.opened_session.ensures.reads.later c.carry_out.ensures.later

pub returns-in-Err-Device-clause-ends : goal.returns-in-Err-Device-clause-ends
returns-in-Err-Device-clause-ends g c =
    let V = g.R.Rig.tells_view in
    let T = g.R.Rig.tells_text in
    let o = g.R.Rig.state c.args.rig.now in
    let m = g.R.Rig.state c.opened_session.new.rig in
    let e = g.R.Rig.state c.carry_out.new.rig in
    let lines = c.in-Ok-accepted_script.lines in
    let first = c.in-Ok-opened_session.session in
    let P : Rows → Type 0 = λ r. Halts T V r lines first m e in
    let E : LineStop → Result (Unit {0}) LineStop = λ x. Err x in
    ends-halted c.in-Ok.rows lines o m e c.opened_session.ensures.reads first c.in-Ok-opened_session.ensures.starts
    c.in-Ok.ensures.good c.in-Ok-accepted_script.ensures.good c.in-Ok.ensures.gave c.in-Ok-accepted_script.ensures.gave (subst P c.in-Ok-opened_session.ensures.table (c.carry_out.ensures.halted (c.in-Err-Device.is ∙ ap E c.in-Err-Device.field-0-is)))

pub returns-in-Err-Device-clause-disk : goal.returns-in-Err-Device-clause-disk
returns-in-Err-Device-clause-disk g c =
    let V = g.R.Rig.tells_view in
    let T = g.R.Rig.tells_text in
    let o = g.R.Rig.state c.args.rig.now in
    let m = g.R.Rig.state c.opened_session.new.rig in
    let e = g.R.Rig.state c.carry_out.new.rig in
    let lines = c.in-Ok-accepted_script.lines in
    let first = c.in-Ok-opened_session.session in
    let L : Rows → Type 0 = λ r. LeavesRunPairs T V r lines first m e in
    fault-leaves_run c.in-Ok.rows lines o m e c.opened_session.ensures.reads first c.in-Ok-opened_session.ensures.starts
    c.in-Ok.ensures.gave.spelled c.in-Ok-accepted_script.ensures.gave.spelled (subst L c.in-Ok-opened_session.ensures.table c.carry_out.ensures.pairs)

pub returns-in-Err-Device-clause-later : goal.returns-in-Err-Device-clause-later
returns-in-Err-Device-clause-later g c = later_then (g.R.Rig.state c.args.rig.now) (g.R.Rig.state c.opened_session.new.rig) (g.R.Rig.state c.carry_out.new.rig) c.opened_session.ensures.reads.later c.carry_out.ensures.later

pub returns-clause-ends : goal.returns-clause-ends
returns-clause-ends g c =
    let V = g.R.Rig.tells_view in
    let T = g.R.Rig.tells_text in
    let o = g.R.Rig.state c.args.rig.now in
    let m = g.R.Rig.state c.opened_session.new.rig in
    let e = g.R.Rig.state c.carry_out.new.rig in
    let lines = c.in-Ok-accepted_script.lines in
    let first = c.in-Ok-opened_session.session in
    let P : Rows → Type 0 = λ r. StopsTelling T V r lines first m e in
    let E : LineStop → Result (Unit {0}) LineStop = λ x. Err x in
    ends-telling c.in-Ok.rows lines o m e c.opened_session.ensures.reads first c.in-Ok-opened_session.ensures.starts
    c.in-Ok.ensures.good c.in-Ok-accepted_script.ensures.good c.in-Ok.ensures.gave c.in-Ok-accepted_script.ensures.gave (subst P c.in-Ok-opened_session.ensures.table (c.carry_out.ensures.stopped (c.in-Err-Tell.is ∙ ap E c.in-Err-Tell.field-0-is)))

pub returns-clause-disk : goal.returns-clause-disk
returns-clause-disk g c =
    let V = g.R.Rig.tells_view in
    let T = g.R.Rig.tells_text in
    let o = g.R.Rig.state c.args.rig.now in
    let m = g.R.Rig.state c.opened_session.new.rig in
    let e = g.R.Rig.state c.carry_out.new.rig in
    let lines = c.in-Ok-accepted_script.lines in
    let first = c.in-Ok-opened_session.session in
    let L : Rows → Type 0 = λ r. LeavesRunPairs T V r lines first m e in
    cut-leaves_run c.in-Ok.rows lines o m e c.opened_session.ensures.reads first c.in-Ok-opened_session.ensures.starts
    c.in-Ok.ensures.gave.spelled c.in-Ok-accepted_script.ensures.gave.spelled (subst L c.in-Ok-opened_session.ensures.table c.carry_out.ensures.pairs)
