use Rattle.std.proofs.Common.{subst, sym}
use Rattle.file_tree.specs.Entries.{TreeValue}
use Rattle.tree_region.specs.declared.region.TreeRegion.{TreeRegion}
use Rattle.tree_region.specs.InStep.{InStep}
use Rattle.tree_region.proofs.Recorded.{moments, view-tree, in-step}
use Rattle.tree_region.proofs.recording.record_change.Goals as goal

pub returns-in_err-append-clause-any_moment : goal.returns-in_err-append-clause-any_moment
returns-in_err-append-clause-any_moment g c = λ after applies tells.
    let o = g.R.Rig.state c.args.rig.now in
    let e = g.R.Rig.state c.append.new.rig in
    moments g.R.Rig.tells_view g.R.Rig.keeps_cuts c.args.row.now c.args.at c.args.kept.now o e (g.met.R.Rig.sound c.args.rig.now) (g.met.R.Rig.sound c.append.new.rig) c.requires.in_step c.requires.fits
    c.append.ensures.later.size c.requires.room.1 c.put_record.new.b c.args.change.now c.requires.room.0 c.put_record.ensures after applies tells (c.append.ensures.any_moment tells) c.append.ensures.outside

pub returns-in_err-append-clause-shown : goal.returns-in_err-append-clause-shown
returns-in_err-append-clause-shown g c = λ after applies tells.
    let o = g.R.Rig.state c.args.rig.now in
    let e = g.R.Rig.state c.append.new.rig in
    view-tree g.R.Rig.tells_view g.R.Rig.keeps_cuts c.args.row.now c.args.at c.args.kept.now o e (g.met.R.Rig.sound c.args.rig.now) (g.met.R.Rig.sound c.append.new.rig) c.requires.in_step c.requires.fits
    c.append.ensures.later.size c.requires.room.1 c.put_record.new.b c.args.change.now c.requires.room.0 c.put_record.ensures after applies tells (c.append.ensures.outside_view tells) (c.append.ensures.shown tells)

pub returns-clause-any_moment : goal.returns-clause-any_moment
returns-clause-any_moment g c = λ after applies tells.
    let o = g.R.Rig.state c.args.rig.now in
    let e = g.R.Rig.state c.append.new.rig in
    moments g.R.Rig.tells_view g.R.Rig.keeps_cuts c.args.row.now c.args.at c.args.kept.now o e (g.met.R.Rig.sound c.args.rig.now) (g.met.R.Rig.sound c.append.new.rig) c.requires.in_step c.requires.fits
    c.append.ensures.later.size c.requires.room.1 c.put_record.new.b c.args.change.now c.requires.room.0 c.put_record.ensures after applies tells (c.append.ensures.any_moment tells) c.append.ensures.outside

pub returns-clause-shown : goal.returns-clause-shown
returns-clause-shown g c = λ after applies tells.
    let o = g.R.Rig.state c.args.rig.now in
    let e = g.R.Rig.state c.append.new.rig in
    view-tree g.R.Rig.tells_view g.R.Rig.keeps_cuts c.args.row.now c.args.at c.args.kept.now o e (g.met.R.Rig.sound c.args.rig.now) (g.met.R.Rig.sound c.append.new.rig) c.requires.in_step c.requires.fits
    c.append.ensures.later.size c.requires.room.1 c.put_record.new.b c.args.change.now c.requires.room.0 c.put_record.ensures after applies tells (c.append.ensures.outside_view tells) (c.append.ensures.shown tells)

pub returns-clause-in_step : goal.returns-clause-in_step
returns-clause-in_step g c =
    let o = g.R.Rig.state c.args.rig.now in
    let e = g.R.Rig.state c.append.new.rig in
    let applies = c.if-not-apply.ensures in
    let ensured = c.in_ok-append.ensures in
    in-step g.R.Rig.tells_view g.R.Rig.keeps_cuts c.args.row.now c.args.at c.args.kept.now o e (g.met.R.Rig.sound c.args.rig.now) (g.met.R.Rig.sound c.append.new.rig) c.requires.in_step c.requires.fits
    ensured.later.size c.requires.room.1 c.put_record.new.b c.args.change.now c.requires.room.0 c.put_record.ensures c.apply.new.self applies
    c.append.new.self ensured.first ensured.held.0 ensured.held.1 (λ tells. ensured.appended tells) (λ tells. ensured.known tells) ensured.settled (λ tells. ensured.outside_view tells)

pub returns-then-not-apply-clause-in_step : goal.returns-then-not-apply-clause-in_step
returns-then-not-apply-clause-in_step g c =
    let kept = c.args.kept.now in
    let with_tree : TreeValue → TreeRegion = λ v. record { slots = kept.slots; version = kept.version; journal = kept.journal; tree = v; table = kept.table } in
    subst (λ (v : TreeValue). InStep g.R.Rig.tells_view c.args.row.now c.args.at (g.R.Rig.state c.args.rig.now) (with_tree v)) (sym c.if-not-apply.ensures.1) c.requires.in_step
