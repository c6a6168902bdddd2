use Rattle.std.proofs.Common.{◌≡◌}
use Rattle.std.specs.Prelude.{map}
use Rattle.std.specs.List.{range_with_len}
use Rattle.apex_model.specs.Image.{block_number}
use Rattle.tree_region.proofs.fields.read_numbers.Given as goal

-- the first numbers were read
abbrev pub invariant-loop-k : goal.invariant-loop-k
invariant-loop-k l = l.numbers.items ≡ map (block_number l.body l.entries) (range_with_len 0 l.k)
