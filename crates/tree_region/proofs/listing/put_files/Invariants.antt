use Rattle.std.proofs.Common.{◌≡◌, length}
use Rattle.tree_region.specs.Words.{words}
use Rattle.tree_region.proofs.FileNumbers.{IsListed}
use Rattle.tree_region.proofs.listing.put_files.Given as goal

-- the numbers of the first files were written
abbrev pub invariant-loop-k : goal.invariant-loop-k
invariant-loop-k l = record {
  long : length l.bytes ≡ length l.initial.bytes;
  listed : IsListed l.tree l.files l.k l.written (words l.written l.bytes);
}
