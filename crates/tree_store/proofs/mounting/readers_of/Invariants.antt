use Rattle.std.proofs.Common.{◌≡◌, ◌≤◌, length, take}
use Rattle.tree_store.proofs.mounting.readers_of.Given as goal

abbrev pub invariant-loop-k : goal.invariant-loop-k
invariant-loop-k l = record {
  copied : l.readers ≡ take l.k l.row.readers;
  end : l.k-end ≡ length l.row.readers;
  few : length l.row.readers ≤ 15;
}
