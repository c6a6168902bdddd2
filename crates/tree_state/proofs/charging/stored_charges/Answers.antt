use Rattle.std.proofs.Common.{◌≡◌, ℕ, ap, arith}
use Rattle.apex_model.specs.Files.{blocks_of}
use Rattle.tree_region.specs.GoodNumbers.{size_blocks}
use Rattle.tree_state.proofs.MountCharges.{never-refused}
use Rattle.tree_state.proofs.charging.stored_charges.Goals as goal

pub unreachable-requires : goal.unreachable-requires
unreachable-requires c =
    let blocks : c.div_ceil.result ≡ size_blocks c.args.kept.now.tree c.loop-place.place = omega (arith, c.div_ceil.ensures, ap (λ (p : ℕ × ℕ). blocks_of p.0) c.stored-size.ensures.value) in
    never-refused c.args.row.now c.args.kept.now.tree c.args.kept.now.table.files.items c.requires.good c.requires.table c.loop-place.place (omega (arith, c.loop-place-test.true)) c.loop-place.charges c.loop-place.invariant
    c.div_ceil.result c.raise.result blocks c.raise.ensures.room c.if-not-raise.true
