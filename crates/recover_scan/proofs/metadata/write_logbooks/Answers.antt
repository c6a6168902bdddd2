use Rattle.std.proofs.Common.{◌≡◌, ◌*◌, ◌<◌, ◌≤◌, ◌∙◌, length, take, ap, arith}
use Rattle.std.proofs.lemmas.Option.{slice_get_within}
use Rattle.apex_model.specs.Layout.{logbook_blocks, logbook_start}
use Rattle.recover_scan.proofs.Ordered.{row_at, length-front, logbook_fits, logbook_changes, logbook_empties}
use Rattle.recover_scan.proofs.Rest.{logbook_spares}
use Rattle.recover_scan.proofs.metadata.write_logbooks.Goals as goal

pub slice_bounds-run-end : goal.slice_bounds-run-end
slice_bounds-run-end g c =
    let rows = c.args.table.now.logbooks in
    let low : c.loop-logbook.logbook < length rows = omega (arith, c.loop-logbook-test.true, ap length c.logbooks.ensures) in
    let there = row_at rows c.loop-logbook.logbook low in
    let long : c.logbook_length.result ≡ 512 * logbook_blocks there.0 = c.logbook_length.ensures c.args.table.now there.0 c.requires.places there.1 in
    let room : 512 * logbook_blocks there.0 ≤ length c.args.buffer.now = c.requires.room c.loop-logbook.logbook there.0 there.1 in
    omega (arith, long, room)

pub slice_bounds-run-end-in-loop-logbook : goal.slice_bounds-run-end-in-loop-logbook
slice_bounds-run-end-in-loop-logbook g c =
    let rows = c.args.table.now.logbooks in
    let low : c.loop-logbook.logbook < length rows = omega (arith, c.loop-logbook-test.true, ap length c.logbooks.ensures) in
    let there = row_at rows c.loop-logbook.logbook low in
    let long : c.logbook_length.result ≡ 512 * logbook_blocks there.0 = c.logbook_length.ensures c.args.table.now there.0 c.requires.places there.1 in
    let room : 512 * logbook_blocks there.0 ≤ length c.args.buffer.now = c.requires.room c.loop-logbook.logbook there.0 there.1 in
    let front : length (take c.logbook_length.result c.loop-logbook.buffer) ≡ c.logbook_length.result = length-front c.logbook_length.result c.loop-logbook.buffer (omega (arith, long, room)) in
    omega (arith, front)

pub write_logbook-requires-clause-room : goal.write_logbook-requires-clause-room
write_logbook-requires-clause-room g c =
    let rows = c.args.table.now.logbooks in
    let low : c.loop-logbook.logbook < length rows = omega (arith, c.loop-logbook-test.true, ap length c.logbooks.ensures) in
    let there = row_at rows c.loop-logbook.logbook low in
    let long : c.logbook_length.result ≡ 512 * logbook_blocks there.0 = c.logbook_length.ensures c.args.table.now there.0 c.requires.places there.1 in
    let room : 512 * logbook_blocks there.0 ≤ length c.args.buffer.now = c.requires.room c.loop-logbook.logbook there.0 there.1 in
    let front : length (take c.logbook_length.result c.loop-logbook.buffer) ≡ c.logbook_length.result = length-front c.logbook_length.result c.loop-logbook.buffer (omega (arith, long, room)) in
    omega (arith, front, long)

pub write_logbook-requires-clause-fits : goal.write_logbook-requires-clause-fits
write_logbook-requires-clause-fits g c =
    let rows = c.args.table.now.logbooks in
    let low : c.loop-logbook.logbook < length rows = omega (arith, c.loop-logbook-test.true, ap length c.logbooks.ensures) in
    let there = row_at rows c.loop-logbook.logbook low in
    let long : c.logbook_length.result ≡ 512 * logbook_blocks there.0 = c.logbook_length.ensures c.args.table.now there.0 c.requires.places there.1 in
    let room : 512 * logbook_blocks there.0 ≤ length c.args.buffer.now = c.requires.room c.loop-logbook.logbook there.0 there.1 in
    let front : length (take c.logbook_length.result c.loop-logbook.buffer) ≡ c.logbook_length.result = length-front c.logbook_length.result c.loop-logbook.buffer (omega (arith, long, room)) in
    let at : c.logbook_start.result ≡ 512 * logbook_start c.args.table.now c.loop-logbook.logbook = c.logbook_start.ensures c.args.table.now c.requires.places in
    omega (arith, front, long, at, c.loop-logbook.invariant.changes.later.size, logbook_fits c.args.table.now c.loop-logbook.logbook there.0 (g.R.Rig.state c.args.rig.now).size there.1 c.requires.fits)

pub returns-in_err-write_logbook-clause-changes : goal.returns-in_err-write_logbook-clause-changes
returns-in_err-write_logbook-clause-changes g c =
    let rows = c.args.table.now.logbooks in
    let low : c.loop-logbook.logbook < length rows = omega (arith, c.loop-logbook-test.true, ap length c.logbooks.ensures) in
    let there = row_at rows c.loop-logbook.logbook low in
    let long : c.logbook_length.result ≡ 512 * logbook_blocks there.0 = c.logbook_length.ensures c.args.table.now there.0 c.requires.places there.1 in
    let room : 512 * logbook_blocks there.0 ≤ length c.args.buffer.now = c.requires.room c.loop-logbook.logbook there.0 there.1 in
    let front : length (take c.logbook_length.result c.loop-logbook.buffer) ≡ c.logbook_length.result = length-front c.logbook_length.result c.loop-logbook.buffer (omega (arith, long, room)) in
    let at : c.logbook_start.result ≡ 512 * logbook_start c.args.table.now c.loop-logbook.logbook = c.logbook_start.ensures c.args.table.now c.requires.places in
    logbook_changes g.R.Rig.tells_view g.R.Rig.keeps_cuts c.args.table.now c.loop-logbook.logbook c.logbook_start.result (length (take c.logbook_length.result c.loop-logbook.buffer)) there.0 (g.R.Rig.state c.args.rig.now) (g.R.Rig.state c.loop-logbook.rig) (g.R.Rig.state c.write_logbook.new.rig)
    (g.met.R.Rig.sound c.loop-logbook.rig) there.1 at (front ∙ long) c.loop-logbook.invariant.changes c.write_logbook.ensures.changes

pub returns-in_err-write_logbook-clause-spares : goal.returns-in_err-write_logbook-clause-spares
returns-in_err-write_logbook-clause-spares g c =
    let rows = c.args.table.now.logbooks in
    let low : c.loop-logbook.logbook < length rows = omega (arith, c.loop-logbook-test.true, ap length c.logbooks.ensures) in
    let there = row_at rows c.loop-logbook.logbook low in
    let long : c.logbook_length.result ≡ 512 * logbook_blocks there.0 = c.logbook_length.ensures c.args.table.now there.0 c.requires.places there.1 in
    let room : 512 * logbook_blocks there.0 ≤ length c.args.buffer.now = c.requires.room c.loop-logbook.logbook there.0 there.1 in
    let front : length (take c.logbook_length.result c.loop-logbook.buffer) ≡ c.logbook_length.result = length-front c.logbook_length.result c.loop-logbook.buffer (omega (arith, long, room)) in
    let at : c.logbook_start.result ≡ 512 * logbook_start c.args.table.now c.loop-logbook.logbook = c.logbook_start.ensures c.args.table.now c.requires.places in
    logbook_spares g.R.Rig.tells_view g.R.Rig.keeps_cuts c.args.table.now c.loop-logbook.logbook c.logbook_start.result (length (take c.logbook_length.result c.loop-logbook.buffer)) there.0 (g.R.Rig.state c.args.rig.now) (g.R.Rig.state c.loop-logbook.rig) (g.R.Rig.state c.write_logbook.new.rig)
    (g.met.R.Rig.sound c.loop-logbook.rig) there.1 at (front ∙ long) c.loop-logbook.invariant.spares c.write_logbook.ensures.changes

pub loop-logbook-preserved : goal.loop-logbook-preserved
loop-logbook-preserved g c =
    let rows = c.args.table.now.logbooks in
    let low : c.loop-logbook.logbook < length rows = omega (arith, c.loop-logbook-test.true, ap length c.logbooks.ensures) in
    let there = row_at rows c.loop-logbook.logbook low in
    let long : c.logbook_length.result ≡ 512 * logbook_blocks there.0 = c.logbook_length.ensures c.args.table.now there.0 c.requires.places there.1 in
    let room : 512 * logbook_blocks there.0 ≤ length c.args.buffer.now = c.requires.room c.loop-logbook.logbook there.0 there.1 in
    let front : length (take c.logbook_length.result c.loop-logbook.buffer) ≡ c.logbook_length.result = length-front c.logbook_length.result c.loop-logbook.buffer (omega (arith, long, room)) in
    let at : c.logbook_start.result ≡ 512 * logbook_start c.args.table.now c.loop-logbook.logbook = c.logbook_start.ensures c.args.table.now c.requires.places in
    record {
      changes = logbook_changes g.R.Rig.tells_view g.R.Rig.keeps_cuts c.args.table.now c.loop-logbook.logbook c.logbook_start.result (length (take c.logbook_length.result c.loop-logbook.buffer)) there.0 (g.R.Rig.state c.args.rig.now) (g.R.Rig.state c.loop-logbook.rig) (g.R.Rig.state c.write_logbook.new.rig)
          (g.met.R.Rig.sound c.loop-logbook.rig) there.1 at (front ∙ long) c.loop-logbook.invariant.changes c.write_logbook.ensures.changes;
      spares = logbook_spares g.R.Rig.tells_view g.R.Rig.keeps_cuts c.args.table.now c.loop-logbook.logbook c.logbook_start.result (length (take c.logbook_length.result c.loop-logbook.buffer)) there.0 (g.R.Rig.state c.args.rig.now) (g.R.Rig.state c.loop-logbook.rig) (g.R.Rig.state c.write_logbook.new.rig)
          (g.met.R.Rig.sound c.loop-logbook.rig) there.1 at (front ∙ long) c.loop-logbook.invariant.spares c.write_logbook.ensures.changes;
      made = record {
        writes = omega (arith, c.loop-logbook.invariant.made.writes, c.write_logbook.ensures.made.writes);
        syncs = omega (arith, c.loop-logbook.invariant.made.syncs, c.write_logbook.ensures.made.syncs);
        tells = omega (arith, c.loop-logbook.invariant.made.tells, c.write_logbook.ensures.made.tells);
      };
      empty = logbook_empties g.R.Rig.tells_view c.args.table.now c.loop-logbook.logbook c.logbook_start.result (length (take c.logbook_length.result c.loop-logbook.buffer)) there.0 (g.R.Rig.state c.loop-logbook.rig) (g.R.Rig.state c.write_logbook.new.rig) there.1 at
          c.loop-logbook.invariant.empty c.write_logbook.ensures.changes (λ tells. c.in_ok-write_logbook.ensures.written there.0 (front ∙ long) tells);
    }

pub returns-clause-written : goal.returns-clause-written
returns-clause-written g c tells logbook row found =
    c.loop-logbook.invariant.empty tells logbook row (omega (arith, c.loop-logbook-test.false, ap length c.logbooks.ensures, slice_get_within c.args.table.now.logbooks logbook row found)) found
