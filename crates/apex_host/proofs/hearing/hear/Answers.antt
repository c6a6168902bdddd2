use Rattle.std.proofs.Common.{◌∙◌, Some, List, ap, sym, inr}
use Rattle.std.specs.Prelude.{Err, Result}
use Rattle.std.specs.List.{AllByRecursion}
use Rattle.apex_types.specs.Rows.{Rows}
use Rattle.apex_types.specs.declared.calls.Line.{Line}
use Rattle.apex_model.specs.Lines.{IsLineOf}
use Rattle.script_model.specs.Reading.{partition_at}
use Rattle.script_run.specs.Chosen.{is_hearer, Served, HaltsHeard, StopsHearing, LeavesOwnPairs}
use Rattle.script_run.specs.declared.lines.LineStop.{LineStop}
use Rattle.script_run.proofs.OwnRuns.{own-of-table}
use Rattle.apex_host.specs.declared.command.Command.TheVariants.{Only}
use Rattle.apex_host.proofs.Disks.{reads-tell}
use Rattle.apex_host.proofs.Endings.{no-table, no-script, no-image, no-partition}
use Rattle.apex_host.proofs.Heard.{Opened, of-own, reads-script, ends-heard, ends-halted, ends-telling, heard-leaves, fault-leaves_own, cut-leaves_own}
use Rattle.apex_host.proofs.StopLaws.{no-image-undone}
use Rattle.apex_host.proofs.hearing.hear.Goals as goal

pub returns-in-Err-clause-stopped : goal.returns-in-Err-clause-stopped
returns-in-Err-clause-stopped g c = no-table (g.R.Rig.state c.args.rig.now) (Only c.args.name.now) c.in-Err.ensures.stopped

pub returns-in_default-clause-stopped : goal.returns-in_default-clause-stopped
returns-in_default-clause-stopped g c =
    no-partition (g.R.Rig.state c.args.rig.now) c.args.name.now c.in-Ok.rows c.in-Ok.ensures.gave c.in-Ok.ensures.good (sym (c.in_default.ensures.value ∙ ap (partition_at c.in-Ok.rows) c.bytes.ensures.value)) c.unknown_partition.ensures

pub returns-in-Err-accepted_script-clause-stopped : goal.returns-in-Err-accepted_script-clause-stopped
returns-in-Err-accepted_script-clause-stopped g c =
    no-script (g.R.Rig.state c.args.rig.now) (Only c.args.name.now) c.in-Ok.rows c.in-Ok.ensures.gave (c.in-Some.p.0, sym (c.in-Some.ensures.value ∙ ap (partition_at c.in-Ok.rows) c.bytes.ensures.value)) c.in-Ok.ensures.good c.in-Err-accepted_script.ensures.stopped

pub returns-in-Err-accepted_script-clause-script_unread : goal.returns-in-Err-accepted_script-clause-script_unread
returns-in-Err-accepted_script-clause-script_unread g c = inr (reads-script c.in-Ok.rows c.args.name.now c.in-Some.p.0 c.in-Ok.ensures.gave (sym (c.in-Some.ensures.value ∙ ap (partition_at c.in-Ok.rows) c.bytes.ensures.value)) c.in-Ok.ensures.good)

pub returns-in-Err-opened_session-clause-stopped : goal.returns-in-Err-opened_session-clause-stopped
returns-in-Err-opened_session-clause-stopped g c =
    no-image (g.R.Rig.state c.args.rig.now) (g.R.Rig.state c.opened_session.new.rig) c.in-Ok.ensures.good c.in-Ok-accepted_script.ensures.good (Only c.args.name.now) c.in-Ok.rows c.in-Ok.ensures.gave
    ((c.in-Some.p.0, sym (c.in-Some.ensures.value ∙ ap (partition_at c.in-Ok.rows) c.bytes.ensures.value)), (c.in-Ok-accepted_script.lines, c.in-Ok-accepted_script.ensures.gave)) c.opened_session.ensures.reads.told c.in-Err-opened_session.ensures.stopped

pub returns-in-Err-opened_session-clause-script_unread : goal.returns-in-Err-opened_session-clause-script_unread
returns-in-Err-opened_session-clause-script_unread g c = inr (reads-script c.in-Ok.rows c.args.name.now c.in-Some.p.0 c.in-Ok.ensures.gave (sym (c.in-Some.ensures.value ∙ ap (partition_at c.in-Ok.rows) c.bytes.ensures.value)) c.in-Ok.ensures.good)

pub returns-in-Err-opened_session-clause-unwritten : goal.returns-in-Err-opened_session-clause-unwritten
returns-in-Err-opened_session-clause-unwritten g c =
    (no-image-undone c.in-Err-opened_session.ensures.stopped, reads-tell g.R.Rig.tells_view (g.R.Rig.state c.args.rig.now) (g.R.Rig.state c.opened_session.new.rig) c.opened_session.ensures.reads)

pub carry_out_heard-requires-clause-of_table : goal.carry_out_heard-requires-clause-of_table
carry_out_heard-requires-clause-of_table g c =
    let P : Rows → List Line → Type 0 = λ r ls. AllByRecursion (IsLineOf r) ls in
    of-own P (sym c.in-Ok-opened_session.ensures.table) (sym c.own_script-lines.ensures)
    (own-of-table c.in-Ok.rows c.in-Some.p.0 c.in-Ok-accepted_script.lines c.in-Ok-accepted_script.ensures.of_table)

pub returns-in-Ok-carry_out_heard-clause-ends : goal.returns-in-Ok-carry_out_heard-clause-ends
returns-in-Ok-carry_out_heard-clause-ends g c =
    let V = g.R.Rig.tells_view in
    let T = g.R.Rig.tells_text in
    let o = g.R.Rig.state c.args.rig.now in
    let m = g.R.Rig.state c.opened_session.new.rig in
    let e = g.R.Rig.state c.carry_out_heard.new.rig in
    let rows = c.in-Ok.rows in
    let name = c.args.name.now in
    let p = c.in-Some.p in
    let lines = c.in-Ok-accepted_script.lines in
    let first = c.in-Ok-opened_session.session in
    let opened : Opened V rows name p lines o m first = record {
      accepted = c.in-Ok.ensures.gave.accepted;
      named = sym (c.in-Some.ensures.value ∙ ap (partition_at c.in-Ok.rows) c.bytes.ensures.value);
      are = c.in-Ok-accepted_script.ensures.of_table;
      reads = c.opened_session.ensures.reads;
      starts = c.in-Ok-opened_session.ensures.starts;
    } in
    let P : Rows → List Line → Type 0 = λ r ls. Served T V r ls (is_hearer (Some p)) first m c.carry_out_heard.new.session e in
    ends-heard c.replies_depend_on_upstream.ensures rows name p lines o m e first opened
    (g.T.Source.left c.args.table.now) (g.T.Source.left c.accepted_table.new.source) (g.S.Source.left c.args.script.now) (g.S.Source.left c.accepted_script.new.source)
    (g.T.Source.faults c.args.table.now) (g.T.Source.faults c.accepted_table.new.source) (g.S.Source.faults c.args.script.now) (g.S.Source.faults c.accepted_script.new.source)
    c.in-Ok.ensures.gave c.in-Ok-accepted_script.ensures.gave c.in-Ok.ensures.good c.in-Ok-accepted_script.ensures.good
    (of-own P c.in-Ok-opened_session.ensures.table c.own_script-lines.ensures (c.in-Ok-carry_out_heard.ensures.ran))

pub returns-in-Ok-carry_out_heard-clause-script_unread : goal.returns-in-Ok-carry_out_heard-clause-script_unread
returns-in-Ok-carry_out_heard-clause-script_unread g c = inr (reads-script c.in-Ok.rows c.args.name.now c.in-Some.p.0 c.in-Ok.ensures.gave (sym (c.in-Some.ensures.value ∙ ap (partition_at c.in-Ok.rows) c.bytes.ensures.value)) c.in-Ok.ensures.good)

pub returns-in-Ok-carry_out_heard-clause-disk : goal.returns-in-Ok-carry_out_heard-clause-disk
returns-in-Ok-carry_out_heard-clause-disk g c =
    let V = g.R.Rig.tells_view in
    let T = g.R.Rig.tells_text in
    let o = g.R.Rig.state c.args.rig.now in
    let m = g.R.Rig.state c.opened_session.new.rig in
    let e = g.R.Rig.state c.carry_out_heard.new.rig in
    let rows = c.in-Ok.rows in
    let name = c.args.name.now in
    let p = c.in-Some.p in
    let lines = c.in-Ok-accepted_script.lines in
    let first = c.in-Ok-opened_session.session in
    let opened : Opened V rows name p lines o m first = record {
      accepted = c.in-Ok.ensures.gave.accepted;
      named = sym (c.in-Some.ensures.value ∙ ap (partition_at c.in-Ok.rows) c.bytes.ensures.value);
      are = c.in-Ok-accepted_script.ensures.of_table;
      reads = c.opened_session.ensures.reads;
      starts = c.in-Ok-opened_session.ensures.starts;
    } in
    let P : Rows → List Line → Type 0 = λ r ls. Served T V r ls (is_hearer (Some p)) first m c.carry_out_heard.new.session e in
    let L : Rows → List Line → Type 0 = λ r ls. LeavesOwnPairs T V r ls (is_hearer (Some p)) first m e in
    heard-leaves c.replies_depend_on_upstream.ensures rows name p lines o m e first opened (of-own L c.in-Ok-opened_session.ensures.table c.own_script-lines.ensures c.carry_out_heard.ensures.pairs)
    c.in-Ok.ensures.gave.spelled c.in-Ok-accepted_script.ensures.gave.spelled (g.met.R.Rig.sound c.carry_out_heard.new.rig) (of-own P c.in-Ok-opened_session.ensures.table c.own_script-lines.ensures c.in-Ok-carry_out_heard.ensures.ran)

pub returns-in-Err-Device-clause-ends : goal.returns-in-Err-Device-clause-ends
returns-in-Err-Device-clause-ends g c =
    let V = g.R.Rig.tells_view in
    let T = g.R.Rig.tells_text in
    let o = g.R.Rig.state c.args.rig.now in
    let m = g.R.Rig.state c.opened_session.new.rig in
    let e = g.R.Rig.state c.carry_out_heard.new.rig in
    let rows = c.in-Ok.rows in
    let name = c.args.name.now in
    let p = c.in-Some.p in
    let lines = c.in-Ok-accepted_script.lines in
    let first = c.in-Ok-opened_session.session in
    let opened : Opened V rows name p lines o m first = record {
      accepted = c.in-Ok.ensures.gave.accepted;
      named = sym (c.in-Some.ensures.value ∙ ap (partition_at c.in-Ok.rows) c.bytes.ensures.value);
      are = c.in-Ok-accepted_script.ensures.of_table;
      reads = c.opened_session.ensures.reads;
      starts = c.in-Ok-opened_session.ensures.starts;
    } in
    let P : Rows → List Line → Type 0 = λ r ls. HaltsHeard T V r ls (is_hearer (Some p)) first m e in
    let E : LineStop → Result (Unit {0}) LineStop = λ x. Err x in
    ends-halted c.replies_depend_on_upstream.ensures rows name p lines o m e first opened
    (g.T.Source.left c.args.table.now) (g.T.Source.left c.accepted_table.new.source) (g.S.Source.left c.args.script.now) (g.S.Source.left c.accepted_script.new.source)
    (g.T.Source.faults c.args.table.now) (g.T.Source.faults c.accepted_table.new.source) (g.S.Source.faults c.args.script.now) (g.S.Source.faults c.accepted_script.new.source)
    c.in-Ok.ensures.gave c.in-Ok-accepted_script.ensures.gave c.in-Ok.ensures.good c.in-Ok-accepted_script.ensures.good
    (of-own P c.in-Ok-opened_session.ensures.table c.own_script-lines.ensures (c.carry_out_heard.ensures.halted (c.in-Err-Device.is ∙ ap E c.in-Err-Device.field-0-is)))

pub returns-in-Err-Device-clause-script_unread : goal.returns-in-Err-Device-clause-script_unread
returns-in-Err-Device-clause-script_unread g c = inr (reads-script c.in-Ok.rows c.args.name.now c.in-Some.p.0 c.in-Ok.ensures.gave (sym (c.in-Some.ensures.value ∙ ap (partition_at c.in-Ok.rows) c.bytes.ensures.value)) c.in-Ok.ensures.good)

pub returns-in-Err-Device-clause-disk : goal.returns-in-Err-Device-clause-disk
returns-in-Err-Device-clause-disk g c =
    let V = g.R.Rig.tells_view in
    let T = g.R.Rig.tells_text in
    let o = g.R.Rig.state c.args.rig.now in
    let m = g.R.Rig.state c.opened_session.new.rig in
    let e = g.R.Rig.state c.carry_out_heard.new.rig in
    let rows = c.in-Ok.rows in
    let name = c.args.name.now in
    let p = c.in-Some.p in
    let lines = c.in-Ok-accepted_script.lines in
    let first = c.in-Ok-opened_session.session in
    let opened : Opened V rows name p lines o m first = record {
      accepted = c.in-Ok.ensures.gave.accepted;
      named = sym (c.in-Some.ensures.value ∙ ap (partition_at c.in-Ok.rows) c.bytes.ensures.value);
      are = c.in-Ok-accepted_script.ensures.of_table;
      reads = c.opened_session.ensures.reads;
      starts = c.in-Ok-opened_session.ensures.starts;
    } in
    let P : Rows → List Line → Type 0 = λ r ls. HaltsHeard T V r ls (is_hearer (Some p)) first m e in
    let E : LineStop → Result (Unit {0}) LineStop = λ x. Err x in
    let L : Rows → List Line → Type 0 = λ r ls. LeavesOwnPairs T V r ls (is_hearer (Some p)) first m e in
    fault-leaves_own c.replies_depend_on_upstream.ensures rows name p lines o m e first opened (of-own L c.in-Ok-opened_session.ensures.table c.own_script-lines.ensures c.carry_out_heard.ensures.pairs)
    c.in-Ok.ensures.gave.spelled c.in-Ok-accepted_script.ensures.gave.spelled

pub returns-clause-ends : goal.returns-clause-ends
returns-clause-ends g c =
    let V = g.R.Rig.tells_view in
    let T = g.R.Rig.tells_text in
    let o = g.R.Rig.state c.args.rig.now in
    let m = g.R.Rig.state c.opened_session.new.rig in
    let e = g.R.Rig.state c.carry_out_heard.new.rig in
    let rows = c.in-Ok.rows in
    let name = c.args.name.now in
    let p = c.in-Some.p in
    let lines = c.in-Ok-accepted_script.lines in
    let first = c.in-Ok-opened_session.session in
    let opened : Opened V rows name p lines o m first = record {
      accepted = c.in-Ok.ensures.gave.accepted;
      named = sym (c.in-Some.ensures.value ∙ ap (partition_at c.in-Ok.rows) c.bytes.ensures.value);
      are = c.in-Ok-accepted_script.ensures.of_table;
      reads = c.opened_session.ensures.reads;
      starts = c.in-Ok-opened_session.ensures.starts;
    } in
    let P : Rows → List Line → Type 0 = λ r ls. StopsHearing T V r ls (is_hearer (Some p)) first m e in
    let E : LineStop → Result (Unit {0}) LineStop = λ x. Err x in
    ends-telling c.replies_depend_on_upstream.ensures rows name p lines o m e first opened
    (g.T.Source.left c.args.table.now) (g.T.Source.left c.accepted_table.new.source) (g.S.Source.left c.args.script.now) (g.S.Source.left c.accepted_script.new.source)
    (g.T.Source.faults c.args.table.now) (g.T.Source.faults c.accepted_table.new.source) (g.S.Source.faults c.args.script.now) (g.S.Source.faults c.accepted_script.new.source)
    c.in-Ok.ensures.gave c.in-Ok-accepted_script.ensures.gave c.in-Ok.ensures.good c.in-Ok-accepted_script.ensures.good
    (of-own P c.in-Ok-opened_session.ensures.table c.own_script-lines.ensures (c.carry_out_heard.ensures.stopped (c.in-Err-Tell.is ∙ ap E c.in-Err-Tell.field-0-is)))

pub returns-clause-script_unread : goal.returns-clause-script_unread
returns-clause-script_unread g c = inr (reads-script c.in-Ok.rows c.args.name.now c.in-Some.p.0 c.in-Ok.ensures.gave (sym (c.in-Some.ensures.value ∙ ap (partition_at c.in-Ok.rows) c.bytes.ensures.value)) c.in-Ok.ensures.good)

pub returns-clause-disk : goal.returns-clause-disk
returns-clause-disk g c =
    let V = g.R.Rig.tells_view in
    let T = g.R.Rig.tells_text in
    let o = g.R.Rig.state c.args.rig.now in
    let m = g.R.Rig.state c.opened_session.new.rig in
    let e = g.R.Rig.state c.carry_out_heard.new.rig in
    let rows = c.in-Ok.rows in
    let name = c.args.name.now in
    let p = c.in-Some.p in
    let lines = c.in-Ok-accepted_script.lines in
    let first = c.in-Ok-opened_session.session in
    let opened : Opened V rows name p lines o m first = record {
      accepted = c.in-Ok.ensures.gave.accepted;
      named = sym (c.in-Some.ensures.value ∙ ap (partition_at c.in-Ok.rows) c.bytes.ensures.value);
      are = c.in-Ok-accepted_script.ensures.of_table;
      reads = c.opened_session.ensures.reads;
      starts = c.in-Ok-opened_session.ensures.starts;
    } in
    let P : Rows → List Line → Type 0 = λ r ls. StopsHearing T V r ls (is_hearer (Some p)) first m e in
    let E : LineStop → Result (Unit {0}) LineStop = λ x. Err x in
    let L : Rows → List Line → Type 0 = λ r ls. LeavesOwnPairs T V r ls (is_hearer (Some p)) first m e in
    cut-leaves_own c.replies_depend_on_upstream.ensures rows name p lines o m e first opened (of-own L c.in-Ok-opened_session.ensures.table c.own_script-lines.ensures c.carry_out_heard.ensures.pairs)
    c.in-Ok.ensures.gave.spelled c.in-Ok-accepted_script.ensures.gave.spelled
