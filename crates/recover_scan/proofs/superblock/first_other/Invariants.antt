use Rattle.std.proofs.Common.{◌≡◌, drop}
use Rattle.apex_model.specs.Image.{first_difference}
use Rattle.recover_scan.proofs.superblock.first_other.Given as goal

abbrev pub invariant-loop-k : goal.invariant-loop-k
invariant-loop-k l = first_difference l.k (drop l.k l.wanted) (drop l.k l.bytes) ≡ first_difference 0 l.wanted l.bytes
