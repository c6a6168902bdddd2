use Rattle.std.proofs.Common.{◌≡◌, ◌+◌, ◌∙◌, inl, refl, sym, ap, arith}
use Rattle.std.specs.Prelude.{slice_set}
use Rattle.apex_model.specs.Files.{blocks_of}
use Rattle.tree_region.specs.OwnedRows.{number_at}
use Rattle.present_files.specs.Present.{changes_of}
use Rattle.tree_state.proofs.ContentStates.{as-many, raised-charges, state-changed, state-kept}
use Rattle.tree_state.proofs.writing.write_held.Goals as goal

pub returns-in_err-written-clause-state : goal.returns-in_err-written-clause-state
returns-in_err-written-clause-state g c =
    let s = c.args.state.now in
    let now = c.write-written.new.present in
    let done = c.write-written.ensures in
    let same = c.in_err-written.ensures.unchanged in
    state-kept g.R.Rig.tells_view g.R.Rig.keeps_cuts c.args.row.now c.args.at (g.R.Rig.state c.args.rig.now) (g.R.Rig.state c.write-written.new.rig) (g.met.R.Rig.sound c.write-written.new.rig) done.reads s c.requires.state now s.charges
    done.present (as-many s.present.pool now.pool c.stand.ensures c.stand-2.ensures done.buffers) same.sizes same.numbers refl

pub returns-clause-state : goal.returns-clause-state
returns-clause-state g c =
    let s = c.args.state.now in
    let now = c.write-written.new.present in
    let done = c.write-written.ensures in
    let f = c.args.file in
    let blocks : c.div_ceil.result ≡ blocks_of c.args.size = omega (arith, c.div_ceil.ensures) in
    let sizes = c.in_ok-written.ensures.sizes ∙ ap (λ n. slice_set s.present.sizes.items f.0 (record { size = n; changes = changes_of s.present f + 1 })) (sym c.requires.size) in
    state-changed g.R.Rig.tells_view g.R.Rig.keeps_cuts c.args.row.now c.args.at (g.R.Rig.state c.args.rig.now) (g.R.Rig.state c.write-written.new.rig) (g.met.R.Rig.sound c.write-written.new.rig) done.reads s c.requires.state now
    c.raise.new.self done.present (as-many s.present.pool now.pool c.stand.ensures c.stand-2.ensures done.buffers) (λ h k. inl (ap (λ (rows : _). number_at rows.items h k) done.numbers))
    f.0 c.args.size (changes_of s.present f + 1) c.requires.in_use c.requires.may.room sizes
    (raised-charges s.charges c.raise.new.self f.0 c.div_ceil.result c.args.size c.raise.result c.raise.ensures.room c.raise.ensures.raised blocks c.requires.may.room)
