use Rattle.std.proofs.Common.{◌≡◌, ◌+◌, ◌++◌, length, take}
use Rattle.tree_region.specs.Words.{words}
use Rattle.tree_region.proofs.listing.put_file.Given as goal

-- the first numbers were written
abbrev pub invariant-loop-k : goal.invariant-loop-k
invariant-loop-k l = record {
  long : length l.bytes ≡ length l.initial.bytes;
  spelled : words (l.first + l.k) l.bytes ≡ words l.first l.initial.bytes ++ take l.k l.numbers;
}
