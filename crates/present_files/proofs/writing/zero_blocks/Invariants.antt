use Rattle.std.proofs.Common.{◌≡◌, ◌+◌, ◌-◌, ◌<◌, ◌≤◌, ℕ, List, None}
use Rattle.apex_types.specs.declared.numbers.FileNode.{FileNode}
use Rattle.block_pool.specs.Buffers.{node_of}
use Rattle.present_files.specs.Nodes.{AreHeld, HoldsMore}
use Rattle.present_files.specs.Present.{buffer_count, IsPresent, free_buffers, present_block}
use Rattle.present_files.proofs.writing.zero_blocks.Given as goal

-- the blocks so far have buffers, and those behind them have none
abbrev pub invariant-loop-k : goal.invariant-loop-k
invariant-loop-k l = record {
  held : AreHeld l.present.pool l.file l.from l.k;
  absent : (j : ℕ) → l.k ≤ j → j < l.to → node_of l.present.pool l.file j ≡ None;
  more : HoldsMore l.initial.present.pool l.present.pool;
  same : (blocks : List ℕ) (h : FileNode) (j : ℕ) → present_block blocks l.present h j ≡ present_block blocks l.initial.present h j;
  present : IsPresent l.row l.present;
  sizes : l.present.sizes ≡ l.initial.present.sizes;
  numbers : l.present.numbers ≡ l.initial.present.numbers;
  buffers : buffer_count l.present ≡ buffer_count l.initial.present;
  free : free_buffers l.initial.present ≤ free_buffers l.present + (l.k - l.from);
}
