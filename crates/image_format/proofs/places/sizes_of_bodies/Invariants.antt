use Rattle.std.proofs.Common.{◌≡◌, ◌++◌, drop, length, map}
use Rattle.apex_model.specs.Layout.{body_blocks}
use Rattle.image_format.proofs.places.sizes_of_bodies.Given as goal

abbrev pub invariant-loop-row : goal.invariant-loop-row
invariant-loop-row l = (length l.sizes.items ≡ l.row-index) × (l.sizes.items ++ map body_blocks (drop l.row-index l.rows) ≡ map body_blocks l.rows)
