use Rattle.std.proofs.Common.{◌-◌, ◌*◌, ◌≤◌, arith}
use Rattle.apex_model.specs.Layout.{layout_blocks}
use Rattle.rig_core.proofs.Moments.{leaves_then}
use Rattle.recover_scan.specs.Format.{OldOrFormatted}
use Rattle.recover_scan.proofs.Phases.{first_phase, second_phase, third_phase, is_formatted, when_empty}
use Rattle.recover_scan.proofs.Rest.{gate_written, spares_changes, spares_then, keeps_rest_shown}
use Rattle.recover_scan.proofs.formatting.write_image.Goals as goal

pub returns-in_err-close_gate-clause-any_moment : goal.returns-in_err-close_gate-clause-any_moment
returns-in_err-close_gate-clause-any_moment g c =
    let closing = first_phase g.R.Rig.tells_view g.R.Rig.keeps_cuts c.args.table.now c.requires.accepted (g.R.Rig.state c.args.rig.now).view (g.R.Rig.state c.args.rig.now) (g.R.Rig.state c.close_gate.new.rig) (g.met.R.Rig.sound c.close_gate.new.rig) (omega (arith, c.requires.fits, c.close_gate.ensures.later.size)) c.close_gate.ensures.closing in
    closing

pub returns-in_err-write_metadata-clause-any_moment : goal.returns-in_err-write_metadata-clause-any_moment
returns-in_err-write_metadata-clause-any_moment g c =
    let closing = first_phase g.R.Rig.tells_view g.R.Rig.keeps_cuts c.args.table.now c.requires.accepted (g.R.Rig.state c.args.rig.now).view (g.R.Rig.state c.args.rig.now) (g.R.Rig.state c.close_gate.new.rig) (g.met.R.Rig.sound c.close_gate.new.rig) (omega (arith, c.requires.fits, c.close_gate.ensures.later.size)) c.close_gate.ensures.closing in
    let writing = leaves_then (OldOrFormatted c.args.table.now (g.R.Rig.state c.args.rig.now).view) (g.R.Rig.state c.args.rig.now) (g.R.Rig.state c.close_gate.new.rig) (g.R.Rig.state c.write_metadata.new.rig) closing
    (second_phase g.R.Rig.tells_view g.R.Rig.keeps_cuts c.args.table.now c.requires.accepted (g.R.Rig.state c.args.rig.now).view (512 * (layout_blocks c.args.table.now - 1)) (g.R.Rig.state c.close_gate.new.rig) (g.R.Rig.state c.write_metadata.new.rig) (g.met.R.Rig.sound c.close_gate.new.rig) (g.met.R.Rig.sound c.write_metadata.new.rig) (omega (arith, c.requires.fits, c.close_gate.ensures.later.size, c.write_metadata.ensures.changes.later.size))
    c.in_ok-close_gate.ensures.settled c.in_ok-close_gate.ensures.closed c.write_metadata.ensures.changes) in
    writing

pub returns-in_err-open_gate-clause-any_moment : goal.returns-in_err-open_gate-clause-any_moment
returns-in_err-open_gate-clause-any_moment g c =
    let closing = first_phase g.R.Rig.tells_view g.R.Rig.keeps_cuts c.args.table.now c.requires.accepted (g.R.Rig.state c.args.rig.now).view (g.R.Rig.state c.args.rig.now) (g.R.Rig.state c.close_gate.new.rig) (g.met.R.Rig.sound c.close_gate.new.rig) (omega (arith, c.requires.fits, c.close_gate.ensures.later.size)) c.close_gate.ensures.closing in
    let writing = leaves_then (OldOrFormatted c.args.table.now (g.R.Rig.state c.args.rig.now).view) (g.R.Rig.state c.args.rig.now) (g.R.Rig.state c.close_gate.new.rig) (g.R.Rig.state c.write_metadata.new.rig) closing
    (second_phase g.R.Rig.tells_view g.R.Rig.keeps_cuts c.args.table.now c.requires.accepted (g.R.Rig.state c.args.rig.now).view (512 * (layout_blocks c.args.table.now - 1)) (g.R.Rig.state c.close_gate.new.rig) (g.R.Rig.state c.write_metadata.new.rig) (g.met.R.Rig.sound c.close_gate.new.rig) (g.met.R.Rig.sound c.write_metadata.new.rig) (omega (arith, c.requires.fits, c.close_gate.ensures.later.size, c.write_metadata.ensures.changes.later.size))
    c.in_ok-close_gate.ensures.settled c.in_ok-close_gate.ensures.closed c.write_metadata.ensures.changes) in
    let size : 512 * layout_blocks c.args.table.now ≤ (g.R.Rig.state c.write_metadata.new.rig).size = omega (arith, c.requires.fits, c.close_gate.ensures.later.size, c.write_metadata.ensures.changes.later.size) in
    leaves_then (OldOrFormatted c.args.table.now (g.R.Rig.state c.args.rig.now).view) (g.R.Rig.state c.args.rig.now) (g.R.Rig.state c.write_metadata.new.rig) (g.R.Rig.state c.open_gate.new.rig) writing
    (third_phase g.R.Rig.tells_view g.R.Rig.keeps_cuts c.args.table.now c.requires.accepted (g.R.Rig.state c.args.rig.now).view (g.R.Rig.state c.write_metadata.new.rig) (g.R.Rig.state c.open_gate.new.rig) (g.met.R.Rig.sound c.open_gate.new.rig) (omega (arith, size, c.open_gate.ensures.later.size)) (c.open_gate.ensures.opening c.args.table.now size c.in_ok-write_metadata.ensures.written))

pub returns-clause-any_moment : goal.returns-clause-any_moment
returns-clause-any_moment g c =
    let closing = first_phase g.R.Rig.tells_view g.R.Rig.keeps_cuts c.args.table.now c.requires.accepted (g.R.Rig.state c.args.rig.now).view (g.R.Rig.state c.args.rig.now) (g.R.Rig.state c.close_gate.new.rig) (g.met.R.Rig.sound c.close_gate.new.rig) (omega (arith, c.requires.fits, c.close_gate.ensures.later.size)) c.close_gate.ensures.closing in
    let writing = leaves_then (OldOrFormatted c.args.table.now (g.R.Rig.state c.args.rig.now).view) (g.R.Rig.state c.args.rig.now) (g.R.Rig.state c.close_gate.new.rig) (g.R.Rig.state c.write_metadata.new.rig) closing
    (second_phase g.R.Rig.tells_view g.R.Rig.keeps_cuts c.args.table.now c.requires.accepted (g.R.Rig.state c.args.rig.now).view (512 * (layout_blocks c.args.table.now - 1)) (g.R.Rig.state c.close_gate.new.rig) (g.R.Rig.state c.write_metadata.new.rig) (g.met.R.Rig.sound c.close_gate.new.rig) (g.met.R.Rig.sound c.write_metadata.new.rig) (omega (arith, c.requires.fits, c.close_gate.ensures.later.size, c.write_metadata.ensures.changes.later.size))
    c.in_ok-close_gate.ensures.settled c.in_ok-close_gate.ensures.closed c.write_metadata.ensures.changes) in
    let size : 512 * layout_blocks c.args.table.now ≤ (g.R.Rig.state c.write_metadata.new.rig).size = omega (arith, c.requires.fits, c.close_gate.ensures.later.size, c.write_metadata.ensures.changes.later.size) in
    leaves_then (OldOrFormatted c.args.table.now (g.R.Rig.state c.args.rig.now).view) (g.R.Rig.state c.args.rig.now) (g.R.Rig.state c.write_metadata.new.rig) (g.R.Rig.state c.open_gate.new.rig) writing
    (third_phase g.R.Rig.tells_view g.R.Rig.keeps_cuts c.args.table.now c.requires.accepted (g.R.Rig.state c.args.rig.now).view (g.R.Rig.state c.write_metadata.new.rig) (g.R.Rig.state c.open_gate.new.rig) (g.met.R.Rig.sound c.open_gate.new.rig) (omega (arith, size, c.open_gate.ensures.later.size)) (c.open_gate.ensures.opening c.args.table.now size c.in_ok-write_metadata.ensures.written))

pub returns-clause-formatted : goal.returns-clause-formatted
returns-clause-formatted g c =
    let size : 512 * layout_blocks c.args.table.now ≤ (g.R.Rig.state c.write_metadata.new.rig).size = omega (arith, c.requires.fits, c.close_gate.ensures.later.size, c.write_metadata.ensures.changes.later.size) in
    is_formatted g.R.Rig.tells_view g.R.Rig.keeps_cuts c.args.table.now c.requires.accepted (g.R.Rig.state c.args.rig.now).view (g.R.Rig.state c.open_gate.new.rig) (g.met.R.Rig.sound c.open_gate.new.rig) c.in_ok-open_gate.ensures.settled (c.in_ok-open_gate.ensures.opened c.args.table.now size c.in_ok-write_metadata.ensures.written)

pub returns-clause-shown : goal.returns-clause-shown
returns-clause-shown g c tells =
    let size : 512 * layout_blocks c.args.table.now ≤ (g.R.Rig.state c.write_metadata.new.rig).size = omega (arith, c.requires.fits, c.close_gate.ensures.later.size, c.write_metadata.ensures.changes.later.size) in
    when_empty g.R.Rig.tells_view g.R.Rig.keeps_cuts c.args.table.now c.requires.accepted (g.R.Rig.state c.args.rig.now).view (g.R.Rig.state c.open_gate.new.rig).view (c.in_ok-open_gate.ensures.opened c.args.table.now size c.in_ok-write_metadata.ensures.written tells)

pub returns-in_err-close_gate-clause-spares : goal.returns-in_err-close_gate-clause-spares
returns-in_err-close_gate-clause-spares g c =
    let closing = spares_changes g.R.Rig.tells_view c.args.table.now 0 1 (g.R.Rig.state c.args.rig.now) (g.R.Rig.state c.close_gate.new.rig) (gate_written c.args.table.now) c.close_gate.ensures.changes in
    closing

pub returns-in_err-write_metadata-clause-spares : goal.returns-in_err-write_metadata-clause-spares
returns-in_err-write_metadata-clause-spares g c =
    let closing = spares_changes g.R.Rig.tells_view c.args.table.now 0 1 (g.R.Rig.state c.args.rig.now) (g.R.Rig.state c.close_gate.new.rig) (gate_written c.args.table.now) c.close_gate.ensures.changes in
    let writing = spares_then g.R.Rig.tells_view g.R.Rig.keeps_cuts c.args.table.now (g.R.Rig.state c.args.rig.now) (g.R.Rig.state c.close_gate.new.rig) (g.R.Rig.state c.write_metadata.new.rig) (g.met.R.Rig.sound c.close_gate.new.rig) closing c.write_metadata.ensures.spares in
    writing

pub returns-in_err-open_gate-clause-spares : goal.returns-in_err-open_gate-clause-spares
returns-in_err-open_gate-clause-spares g c =
    let closing = spares_changes g.R.Rig.tells_view c.args.table.now 0 1 (g.R.Rig.state c.args.rig.now) (g.R.Rig.state c.close_gate.new.rig) (gate_written c.args.table.now) c.close_gate.ensures.changes in
    let writing = spares_then g.R.Rig.tells_view g.R.Rig.keeps_cuts c.args.table.now (g.R.Rig.state c.args.rig.now) (g.R.Rig.state c.close_gate.new.rig) (g.R.Rig.state c.write_metadata.new.rig) (g.met.R.Rig.sound c.close_gate.new.rig) closing c.write_metadata.ensures.spares in
    spares_then g.R.Rig.tells_view g.R.Rig.keeps_cuts c.args.table.now (g.R.Rig.state c.args.rig.now) (g.R.Rig.state c.write_metadata.new.rig) (g.R.Rig.state c.open_gate.new.rig) (g.met.R.Rig.sound c.write_metadata.new.rig) writing (spares_changes g.R.Rig.tells_view c.args.table.now 0 1 (g.R.Rig.state c.write_metadata.new.rig) (g.R.Rig.state c.open_gate.new.rig) (gate_written c.args.table.now) c.open_gate.ensures.changes)

pub returns-clause-spares : goal.returns-clause-spares
returns-clause-spares g c =
    let closing = spares_changes g.R.Rig.tells_view c.args.table.now 0 1 (g.R.Rig.state c.args.rig.now) (g.R.Rig.state c.close_gate.new.rig) (gate_written c.args.table.now) c.close_gate.ensures.changes in
    let writing = spares_then g.R.Rig.tells_view g.R.Rig.keeps_cuts c.args.table.now (g.R.Rig.state c.args.rig.now) (g.R.Rig.state c.close_gate.new.rig) (g.R.Rig.state c.write_metadata.new.rig) (g.met.R.Rig.sound c.close_gate.new.rig) closing c.write_metadata.ensures.spares in
    spares_then g.R.Rig.tells_view g.R.Rig.keeps_cuts c.args.table.now (g.R.Rig.state c.args.rig.now) (g.R.Rig.state c.write_metadata.new.rig) (g.R.Rig.state c.open_gate.new.rig) (g.met.R.Rig.sound c.write_metadata.new.rig) writing (spares_changes g.R.Rig.tells_view c.args.table.now 0 1 (g.R.Rig.state c.write_metadata.new.rig) (g.R.Rig.state c.open_gate.new.rig) (gate_written c.args.table.now) c.open_gate.ensures.changes)

pub returns-clause-whole : goal.returns-clause-whole
returns-clause-whole g c tells =
    let parts = c.in_ok-open_gate.ensures.whole tells c.args.table.now (c.in_ok-write_metadata.ensures.written tells) in
    let closing = spares_changes g.R.Rig.tells_view c.args.table.now 0 1 (g.R.Rig.state c.args.rig.now) (g.R.Rig.state c.close_gate.new.rig) (gate_written c.args.table.now) c.close_gate.ensures.changes in
    let writing = spares_then g.R.Rig.tells_view g.R.Rig.keeps_cuts c.args.table.now (g.R.Rig.state c.args.rig.now) (g.R.Rig.state c.close_gate.new.rig) (g.R.Rig.state c.write_metadata.new.rig) (g.met.R.Rig.sound c.close_gate.new.rig) closing c.write_metadata.ensures.spares in
    let run = spares_then g.R.Rig.tells_view g.R.Rig.keeps_cuts c.args.table.now (g.R.Rig.state c.args.rig.now) (g.R.Rig.state c.write_metadata.new.rig) (g.R.Rig.state c.open_gate.new.rig) (g.met.R.Rig.sound c.write_metadata.new.rig) writing (spares_changes g.R.Rig.tells_view c.args.table.now 0 1 (g.R.Rig.state c.write_metadata.new.rig) (g.R.Rig.state c.open_gate.new.rig) (gate_written c.args.table.now) c.open_gate.ensures.changes) in
    record { opened = parts.0; parts = parts.1; rest = keeps_rest_shown g.R.Rig.tells_view c.args.table.now (g.R.Rig.state c.args.rig.now) (g.R.Rig.state c.open_gate.new.rig) run tells }
