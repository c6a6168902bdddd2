use Rattle.std.proofs.Common.{◌≡◌, ◌+◌, ◌-◌, ◌*◌, ◌≤◌, length, sym, ◌∙◌, arith}
use Rattle.rig_core.specs.Bytes.{part}
use Rattle.rig_core.specs.Leaves.{LeavesElsewhere}
use Rattle.rig_core.proofs.Moments.{elsewhere_torn}
use Rattle.rig_core.proofs.Put.{part-put}
use Rattle.tree_region.specs.InStep.{block_place}
use Rattle.tree_region.proofs.Beside.{moments, beside, run-at, view-at}
use Rattle.tree_region.proofs.writing.write_block.Goals as goal

pub returns-in_err-write-clause-any_moment : goal.returns-in_err-write-clause-any_moment
returns-in_err-write-clause-any_moment g c =
    let row = c.args.row.now in
    let o = g.R.Rig.state c.args.rig.now in
    let e = g.R.Rig.state c.write.new.self in
    let place : c.data_start.result + 512 * (c.from.result - 1) ≡ block_place row c.args.at c.args.number = (λ i. c.data_start.ensures i + 512 * (c.from.ensures i - 1)) in
    let run : LeavesElsewhere (block_place row c.args.at c.args.number) 512 o e = run-at _ _ _ _ o e place c.requires.long
    (elsewhere_torn (c.data_start.result + 512 * (c.from.result - 1)) (length c.args.bytes.now) o e (g.met.R.Rig.sound c.args.rig.now) c.write.ensures.later.clock c.write.ensures.told c.write.ensures.cuts) in
    moments g.R.Rig.tells_view g.R.Rig.keeps_cuts row c.args.at c.args.number c.requires.first c.args.kept.now c.requires.unnamed o e (g.met.R.Rig.sound c.args.rig.now) (g.met.R.Rig.sound c.write.new.self)
    c.write.ensures.later.size c.requires.fits c.requires.in_step run (λ tells. view-at _ _ _ _ o.view e.view place c.requires.long (c.write.ensures.elsewhere tells))

pub returns-in_err-write-clause-in_step : goal.returns-in_err-write-clause-in_step
returns-in_err-write-clause-in_step g c =
    let row = c.args.row.now in
    let o = g.R.Rig.state c.args.rig.now in
    let e = g.R.Rig.state c.write.new.self in
    let place : c.data_start.result + 512 * (c.from.result - 1) ≡ block_place row c.args.at c.args.number = (λ i. c.data_start.ensures i + 512 * (c.from.ensures i - 1)) in
    let run : LeavesElsewhere (block_place row c.args.at c.args.number) 512 o e = run-at _ _ _ _ o e place c.requires.long
    (elsewhere_torn (c.data_start.result + 512 * (c.from.result - 1)) (length c.args.bytes.now) o e (g.met.R.Rig.sound c.args.rig.now) c.write.ensures.later.clock c.write.ensures.told c.write.ensures.cuts) in
    beside g.R.Rig.tells_view g.R.Rig.keeps_cuts row c.args.at c.args.number c.requires.first c.args.kept.now c.requires.unnamed o e (g.met.R.Rig.sound c.args.rig.now) (g.met.R.Rig.sound c.write.new.self)
    c.write.ensures.later.size c.requires.fits c.requires.in_step run (λ tells. view-at _ _ _ _ o.view e.view place c.requires.long (c.write.ensures.elsewhere tells))

pub returns-in_err-write-clause-outside : goal.returns-in_err-write-clause-outside
returns-in_err-write-clause-outside g c =
    let row = c.args.row.now in
    let o = g.R.Rig.state c.args.rig.now in
    let e = g.R.Rig.state c.write.new.self in
    let place : c.data_start.result + 512 * (c.from.result - 1) ≡ block_place row c.args.at c.args.number = (λ i. c.data_start.ensures i + 512 * (c.from.ensures i - 1)) in
    let run : LeavesElsewhere (block_place row c.args.at c.args.number) 512 o e = run-at _ _ _ _ o e place c.requires.long
    (elsewhere_torn (c.data_start.result + 512 * (c.from.result - 1)) (length c.args.bytes.now) o e (g.met.R.Rig.sound c.args.rig.now) c.write.ensures.later.clock c.write.ensures.told c.write.ensures.cuts) in
    run

pub returns-clause-any_moment : goal.returns-clause-any_moment
returns-clause-any_moment g c =
    let row = c.args.row.now in
    let o = g.R.Rig.state c.args.rig.now in
    let e = g.R.Rig.state c.write.new.self in
    let place : c.data_start.result + 512 * (c.from.result - 1) ≡ block_place row c.args.at c.args.number = (λ i. c.data_start.ensures i + 512 * (c.from.ensures i - 1)) in
    let run : LeavesElsewhere (block_place row c.args.at c.args.number) 512 o e = run-at _ _ _ _ o e place c.requires.long
    (elsewhere_torn (c.data_start.result + 512 * (c.from.result - 1)) (length c.args.bytes.now) o e (g.met.R.Rig.sound c.args.rig.now) c.write.ensures.later.clock c.write.ensures.told c.write.ensures.cuts) in
    moments g.R.Rig.tells_view g.R.Rig.keeps_cuts row c.args.at c.args.number c.requires.first c.args.kept.now c.requires.unnamed o e (g.met.R.Rig.sound c.args.rig.now) (g.met.R.Rig.sound c.write.new.self)
    c.write.ensures.later.size c.requires.fits c.requires.in_step run (λ tells. view-at _ _ _ _ o.view e.view place c.requires.long (c.write.ensures.elsewhere tells))

pub returns-clause-in_step : goal.returns-clause-in_step
returns-clause-in_step g c =
    let row = c.args.row.now in
    let o = g.R.Rig.state c.args.rig.now in
    let e = g.R.Rig.state c.write.new.self in
    let place : c.data_start.result + 512 * (c.from.result - 1) ≡ block_place row c.args.at c.args.number = (λ i. c.data_start.ensures i + 512 * (c.from.ensures i - 1)) in
    let run : LeavesElsewhere (block_place row c.args.at c.args.number) 512 o e = run-at _ _ _ _ o e place c.requires.long
    (elsewhere_torn (c.data_start.result + 512 * (c.from.result - 1)) (length c.args.bytes.now) o e (g.met.R.Rig.sound c.args.rig.now) c.write.ensures.later.clock c.write.ensures.told c.write.ensures.cuts) in
    beside g.R.Rig.tells_view g.R.Rig.keeps_cuts row c.args.at c.args.number c.requires.first c.args.kept.now c.requires.unnamed o e (g.met.R.Rig.sound c.args.rig.now) (g.met.R.Rig.sound c.write.new.self)
    c.write.ensures.later.size c.requires.fits c.requires.in_step run (λ tells. view-at _ _ _ _ o.view e.view place c.requires.long (c.write.ensures.elsewhere tells))

pub returns-clause-outside : goal.returns-clause-outside
returns-clause-outside g c =
    let row = c.args.row.now in
    let o = g.R.Rig.state c.args.rig.now in
    let e = g.R.Rig.state c.write.new.self in
    let place : c.data_start.result + 512 * (c.from.result - 1) ≡ block_place row c.args.at c.args.number = (λ i. c.data_start.ensures i + 512 * (c.from.ensures i - 1)) in
    let run : LeavesElsewhere (block_place row c.args.at c.args.number) 512 o e = run-at _ _ _ _ o e place c.requires.long
    (elsewhere_torn (c.data_start.result + 512 * (c.from.result - 1)) (length c.args.bytes.now) o e (g.met.R.Rig.sound c.args.rig.now) c.write.ensures.later.clock c.write.ensures.told c.write.ensures.cuts) in
    run

pub returns-clause-written : goal.returns-clause-written
returns-clause-written g c = λ tells.
    let row = c.args.row.now in
    let o = g.R.Rig.state c.args.rig.now in
    let e = g.R.Rig.state c.write.new.self in
    let place : c.data_start.result + 512 * (c.from.result - 1) ≡ block_place row c.args.at c.args.number = (λ i. c.data_start.ensures i + 512 * (c.from.ensures i - 1)) in
    let fits : c.data_start.result + 512 * (c.from.result - 1) + length c.args.bytes.now ≤ length o.view = omega (arith, place, c.requires.long, c.requires.fits, c.requires.first, c.requires.last, (g.met.R.Rig.sound c.args.rig.now).view_fills tells) in
    (λ i. part (sym place i) (sym c.requires.long i) (c.in_ok-write.ensures.written tells i)) ∙ part-put (c.data_start.result + 512 * (c.from.result - 1)) c.args.bytes.now o.view fits
