use Rattle.std.proofs.Common.{◌≡◌, ◌≢◌, ◌+◌, ◌-◌, ◌*◌, ◌≤◌, ℕ, List, length, take}
use Rattle.apex_types.specs.declared.numbers.FileNode.{FileNode}
use Rattle.apex_model.specs.Layout.{tree_blocks}
use Rattle.rig_core.specs.Bytes.{put}
use Rattle.tree_region.specs.InStep.{data_at}
use Rattle.present_files.specs.Present.{buffer_count, IsPresent, room_bytes}
use Rattle.present_files.proofs.writing.put_blocks.Given as goal

-- the bytes in the blocks so far were written
abbrev pub invariant-loop-k : goal.invariant-loop-k
invariant-loop-k l = record {
  room : (at : ℕ) (image : List ℕ) → at + 512 * tree_blocks l.row ≤ length image
      → room_bytes (data_at l.row at image) l.present l.file ≡ put l.from (take (512 * l.k - l.from) l.bytes) (room_bytes (data_at l.row at image) l.initial.present l.file);
  others : (blocks : List ℕ) (h : FileNode) → h.0 ≢ l.file.0 → room_bytes blocks l.present h ≡ room_bytes blocks l.initial.present h;
  nodes : l.present.pool.blocks ≡ l.initial.present.pool.blocks;
  lists : l.present.pool.lists ≡ l.initial.present.pool.lists;
  present : IsPresent l.row l.present;
  buffers : buffer_count l.present ≡ buffer_count l.initial.present;
  sizes : l.present.sizes ≡ l.initial.present.sizes;
  numbers : l.present.numbers ≡ l.initial.present.numbers;
}
