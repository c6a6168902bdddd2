use Rattle.std.proofs.Common.{◌≡◌, Some}
use Rattle.tree_region.specs.Numbers.{fields_in}
use Rattle.tree_region.proofs.fields.read_fields.Given as goal

-- the first entries were read
abbrev pub invariant-loop-k : goal.invariant-loop-k
invariant-loop-k l = fields_in l.version l.body l.k ≡ Some l.fields.items
