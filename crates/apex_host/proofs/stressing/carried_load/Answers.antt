use Rattle.std.proofs.Common.{◌∙◌, Some, None, List, inl, inr, ap, refl, sym, subst}
use Rattle.std.specs.List.{AllByRecursion}
use Rattle.apex_types.specs.Rows.{Rows}
use Rattle.apex_types.specs.declared.calls.Line.{Line}
use Rattle.apex_model.specs.Lines.{IsLineOf}
use Rattle.recover_scan.proofs.Changes.{later_then}
use Rattle.script_run.specs.Chosen.{is_hearer, Served, HaltsAt, LeavesOwnPairs}
use Rattle.script_run.specs.Tally.{IsTallyOf}
use Rattle.apex_host.specs.Endings.{seen}
use Rattle.apex_host.specs.Stops.{Owes}
use Rattle.apex_host.specs.declared.command.Command.TheVariants.{Stress}
use Rattle.apex_host.specs.declared.stops.Stop.{Stop}
use Rattle.apex_host.proofs.Disks.{tells-none, reads-tell}
use Rattle.apex_host.proofs.Endings.{no-table, no-image, owes-memory, owes-load, owes-load_fault}
use Rattle.apex_host.proofs.Loads.{of-load, halts-load, good-start, tallied, cause-since, load-begins, load-completes}
use Rattle.apex_host.proofs.StopLaws.{no-table-undone, no-image-undone}
use Rattle.apex_host.proofs.stressing.carried_load.Goals as goal

pub returns-in-Err-clause-stopped : goal.returns-in-Err-clause-stopped
returns-in-Err-clause-stopped g c = λ script faults. no-table (g.R.Rig.state c.args.rig.now) (Stress c.args.seed c.args.count) c.in-Err.ensures.stopped

pub returns-in-Err-clause-failed : goal.returns-in-Err-clause-failed
returns-in-Err-clause-failed g c = inl (no-table-undone c.in-Err.ensures.stopped, tells-none g.R.Rig.tells_view (g.R.Rig.state c.args.rig.now))

pub returns-in-Err-generate-clause-stopped : goal.returns-in-Err-generate-clause-stopped
returns-in-Err-generate-clause-stopped g c = λ script faults.
    owes-memory (g.R.Rig.state c.args.rig.now) (g.R.Rig.state c.args.rig.now) c.in-Ok.ensures.good refl (Stress c.args.seed c.args.count) c.memory.result c.memory.ensures refl

pub returns-in-Err-generate-clause-failed : goal.returns-in-Err-generate-clause-failed
returns-in-Err-generate-clause-failed g c =
    inl ((λ done. let w = sym (ap (λ (s : Stop). s.status) c.memory.ensures) ∙ done in cc), tells-none g.R.Rig.tells_view (g.R.Rig.state c.args.rig.now))

pub returns-in-Err-opened_session-clause-stopped : goal.returns-in-Err-opened_session-clause-stopped
returns-in-Err-opened_session-clause-stopped g c = λ script faults.
    no-image (g.R.Rig.state c.args.rig.now) (g.R.Rig.state c.opened_session.new.rig) c.in-Ok.ensures.good refl (Stress c.args.seed c.args.count) c.in-Ok.rows c.in-Ok.ensures.gave tt c.opened_session.ensures.reads.told c.in-Err-opened_session.ensures.stopped

pub returns-in-Err-opened_session-clause-failed : goal.returns-in-Err-opened_session-clause-failed
returns-in-Err-opened_session-clause-failed g c =
    inl (no-image-undone c.in-Err-opened_session.ensures.stopped, reads-tell g.R.Rig.tells_view (g.R.Rig.state c.args.rig.now) (g.R.Rig.state c.opened_session.new.rig) c.opened_session.ensures.reads)

pub carry_out_for-requires-clause-of_table : goal.carry_out_for-requires-clause-of_table
carry_out_for-requires-clause-of_table g c =
    let P : Rows → Type 0 = λ r. AllByRecursion (IsLineOf r) c.in-Ok-generate.lines in
    subst P (sym c.in-Ok-opened_session.ensures.table) c.in-Ok-generate.ensures.of_table

pub returns-in-Ok-carry_out_for-clause-made : goal.returns-in-Ok-carry_out_for-clause-made
returns-in-Ok-carry_out_for-clause-made g c = λ script faults.
    let V = g.R.Rig.tells_view in
    let o = g.R.Rig.state c.args.rig.now in
    let m = g.R.Rig.state c.opened_session.new.rig in
    let e = g.R.Rig.state c.carry_out_for.new.rig in
    let first = c.in-Ok-opened_session.session in
    let tally = c.in-Ok-carry_out_for.tally in
    let reads = c.opened_session.ensures.reads in
    let P : Rows → List Line → Type 0 = λ r ls. IsTallyOf V r ls first m tally in
    owes-load o e c.in-Ok.ensures.good refl c.args.seed c.args.count c.in-Ok.rows c.in-Ok.ensures.gave (c.carry_out_for.ensures.silent refl ∙ reads.told) tally
    (tallied c.in-Ok.rows c.args.seed c.args.count o m e reads first c.in-Ok-opened_session.ensures.starts tally
    (of-load P c.in-Ok-opened_session.ensures.table c.in-Ok-generate.ensures.drawn c.in-Ok-carry_out_for.ensures.tallied))

pub returns-in-Ok-carry_out_for-clause-completed : goal.returns-in-Ok-carry_out_for-clause-completed
returns-in-Ok-carry_out_for-clause-completed g c =
    let V = g.R.Rig.tells_view in
    let T = g.R.Rig.tells_text in
    let o = g.R.Rig.state c.args.rig.now in
    let m = g.R.Rig.state c.opened_session.new.rig in
    let e = g.R.Rig.state c.carry_out_for.new.rig in
    let first = c.in-Ok-opened_session.session in
    let L : Rows → List Line → Type 0 = λ r ls. LeavesOwnPairs T V r ls (is_hearer None) first m e in
    let P : Rows → List Line → Type 0 = λ r ls. Served T V r ls (is_hearer None) first m c.carry_out_for.new.session e in
    let table = c.in-Ok-opened_session.ensures.table in
    let drawn = c.in-Ok-generate.ensures.drawn in
    load-completes c.in-Ok.rows c.args.seed c.args.count o m e c.opened_session.ensures.reads first c.in-Ok-opened_session.ensures.starts (of-load L table drawn c.carry_out_for.ensures.pairs)
    c.in-Ok.ensures.gave.spelled (g.met.R.Rig.sound c.carry_out_for.new.rig) (of-load P table drawn c.in-Ok-carry_out_for.ensures.ran)

pub returns-in-Ok-carry_out_for-clause-later : goal.returns-in-Ok-carry_out_for-clause-later
returns-in-Ok-carry_out_for-clause-later g c = later_then (g.R.Rig.state c.args.rig.now) (g.R.Rig.state c.opened_session.new.rig) (g.R.Rig.state c.carry_out_for.new.rig) c.opened_session.ensures.reads.later c.carry_out_for.ensures.later

pub returns-clause-stopped : goal.returns-clause-stopped
returns-clause-stopped g c = λ script faults.
    let V = g.R.Rig.tells_view in
    let T = g.R.Rig.tells_text in
    let o = g.R.Rig.state c.args.rig.now in
    let m = g.R.Rig.state c.opened_session.new.rig in
    let e = g.R.Rig.state c.carry_out_for.new.rig in
    let rows = c.in-Ok.rows in
    let first = c.in-Ok-opened_session.session in
    let reads = c.opened_session.ensures.reads in
    let starts = c.in-Ok-opened_session.ensures.starts in
    let P : Stop → Type 0 = λ s. Owes T V (Some (Stress c.args.seed c.args.count)) (seen (g.T.Source.left c.args.table.now) (g.T.Source.faults c.args.table.now) script faults o)
    (seen (g.T.Source.left c.accepted_table.new.source) (g.T.Source.faults c.accepted_table.new.source) script faults e) s in
    let H : Rows → List Line → Type 0 = λ r ls. HaltsAt T V r ls (is_hearer None) first m e (halts-load c.in-Err-carry_out_for.field-0 c.in-Err-carry_out_for.is (c.carry_out_for.ensures.untold refl) c.carry_out_for.ensures.halted).0 in
    let halts = of-load H c.in-Ok-opened_session.ensures.table c.in-Ok-generate.ensures.drawn (halts-load c.in-Err-carry_out_for.field-0 c.in-Err-carry_out_for.is (c.carry_out_for.ensures.untold refl) c.carry_out_for.ensures.halted).1 in
    subst P (sym c.stress_fault.ensures) (owes-load_fault o e c.in-Ok.ensures.good refl c.args.seed c.args.count rows c.in-Ok.ensures.gave (c.carry_out_for.ensures.silent refl ∙ reads.told)
    (good-start rows c.args.seed c.args.count o m e reads first starts) (cause-since rows c.args.seed c.args.count o m e reads first starts halts.fails))

pub returns-clause-failed : goal.returns-clause-failed
returns-clause-failed g c =
    let V = g.R.Rig.tells_view in
    let T = g.R.Rig.tells_text in
    let o = g.R.Rig.state c.args.rig.now in
    let m = g.R.Rig.state c.opened_session.new.rig in
    let e = g.R.Rig.state c.carry_out_for.new.rig in
    let first = c.in-Ok-opened_session.session in
    let L : Rows → List Line → Type 0 = λ r ls. LeavesOwnPairs T V r ls (is_hearer None) first m e in
    inr (
      ap (λ (s : Stop). s.status) c.stress_fault.ensures,
      load-begins c.in-Ok.rows c.args.seed c.args.count o m e c.opened_session.ensures.reads first c.in-Ok-opened_session.ensures.starts
          (of-load L c.in-Ok-opened_session.ensures.table c.in-Ok-generate.ensures.drawn c.carry_out_for.ensures.pairs) c.in-Ok.ensures.gave.spelled,
    )

pub returns-clause-later : goal.returns-clause-later
returns-clause-later g c = later_then (g.R.Rig.state c.args.rig.now) (g.R.Rig.state c.opened_session.new.rig) (g.R.Rig.state c.carry_out_for.new.rig) c.opened_session.ensures.reads.later c.carry_out_for.ensures.later
