use Rattle.std.proofs.Common.{◌≡◌, ◌+◌, refl, arith}
use Rattle.apex_model.specs.Files.{blocks_of}
use Rattle.present_files.specs.Present.{changes_of}
use Rattle.tree_state.proofs.ContentStates.{as-many, fewer-resized, in-row, raised-charges, state-changed, state-kept}
use Rattle.tree_state.proofs.resizing.resize_held.Goals as goal

pub returns-in_err-resized-clause-state : goal.returns-in_err-resized-clause-state
returns-in_err-resized-clause-state g c =
    let s = c.args.state.now in
    let now = c.resize-resized.new.present in
    let done = c.resize-resized.ensures in
    let same = c.in_err-resized.ensures.unchanged in
    state-kept g.R.Rig.tells_view g.R.Rig.keeps_cuts c.args.row.now c.args.at (g.R.Rig.state c.args.rig.now) (g.R.Rig.state c.resize-resized.new.rig) (g.met.R.Rig.sound c.resize-resized.new.rig) done.reads s c.requires.state now s.charges
    done.present (as-many s.present.pool now.pool c.stand.ensures c.stand-2.ensures done.buffers) same.sizes same.numbers refl

pub returns-clause-state : goal.returns-clause-state
returns-clause-state g c =
    let s = c.args.state.now in
    let now = c.resize-resized.new.present in
    let done = c.resize-resized.ensures in
    let f = c.args.file in
    let file = in-row g.R.Rig.tells_view g.R.Rig.keeps_cuts c.args.row.now c.args.at (g.R.Rig.state c.args.rig.now) (g.R.Rig.state c.resize-resized.new.rig) (g.met.R.Rig.sound c.resize-resized.new.rig) done.reads s c.requires.state f.0 c.requires.in_use in
    let blocks : c.div_ceil.result ≡ blocks_of c.args.size = omega (arith, c.div_ceil.ensures) in
    state-changed g.R.Rig.tells_view g.R.Rig.keeps_cuts c.args.row.now c.args.at (g.R.Rig.state c.args.rig.now) (g.R.Rig.state c.resize-resized.new.rig) (g.met.R.Rig.sound c.resize-resized.new.rig) done.reads s c.requires.state now
    c.raise.new.self done.present (as-many s.present.pool now.pool c.stand.ensures c.stand-2.ensures done.buffers)
    (fewer-resized c.args.row.now s.present now f c.args.size (changes_of s.present f + 1) file done.present (c.requires.state.present.sizes_length) c.in_ok-resized.ensures.sizes done.kept done.other_numbers)
    f.0 c.args.size (changes_of s.present f + 1) c.requires.in_use c.requires.may.room c.in_ok-resized.ensures.sizes
    (raised-charges s.charges c.raise.new.self f.0 c.div_ceil.result c.args.size c.raise.result c.raise.ensures.room c.raise.ensures.raised blocks c.requires.may.room)
