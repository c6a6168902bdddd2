-- Buffers of blocks: the free ones in list 0, and those of file f in list f + 1.
use Rattle.std.specs.Prelude.{ℕ, ◌≡◌, ◌+◌, ◌^◌, ◌<◌, ◌++◌, ◌==◌, ◌&&◌, Bool, false, if◌then◌else◌, List, map, length, take, drop, replicate, Option, Some, None, IsSome, position, slice_set, slice_index_or}
use Rattle.std.specs.List.{AllByRecursion}
use Rattle.apex_types.specs.declared.numbers.FileNode.{FileNode}
use Rattle.block_pool.specs.declared.buffers.Block.{Block}
use Rattle.block_pool.specs.Lists.{list_at, node_count, HoldsEachOnce, all_in_first, moved, moved_all}

-- the nodes in their lists, the block that each node holds, if any, and the bytes of each
pub record Buffers : Type 0 where
  pub lists : List (List ℕ)
  pub blocks : List (Option Block)
  pub contents : List (List ℕ)

-- the block that a node holds
abbrev pub block_at : List (Option Block) → ℕ → Option Block
block_at blocks node = slice_index_or blocks node None

-- whether a node holds this block
abbrev pub holds_block : FileNode → ℕ → Option Block → Bool
holds_block file index None = false
holds_block file index (Some block) = (block.file.0 == file.0) && (block.index == index)

-- the node that holds a block
abbrev pub node_of : Buffers → FileNode → ℕ → Option ℕ
node_of b file index = position (holds_block file index) b.blocks

-- the list in which the node with a block stands
abbrev pub list_of_block : Option Block → ℕ
list_of_block None = 0
list_of_block (Some block) = block.file.0 + 1

-- a node's block, where it isn't of this file
abbrev pub without_file : FileNode → Option Block → Option Block
without_file file None = None
without_file file (Some block) = if block.file.0 == file.0 then None else Some block

-- bytes that were written over as many
abbrev pub written_over : List ℕ → List ℕ → List ℕ
written_over old new = take (length old) (new ++ drop (length new) old)

-- each node stands in one list, that of its block's file or the free one, has 512 bytes, and no block stands twice
pub record AreBuffers (b : Buffers) : Type 0 where
  pub each_once : HoldsEachOnce b.lists
  pub one_list : 0 < length b.lists
  pub fits : node_count b.lists < 2 ^ 32
  pub blocks_length : length b.blocks ≡ node_count b.lists
  pub contents_length : length b.contents ≡ node_count b.lists
  pub in_list : (i : ℕ) → i < length b.lists → AllByRecursion (λ node. list_of_block (block_at b.blocks node) ≡ i) (list_at b.lists i)
  pub no_block_twice : (j k : ℕ) → j < length b.blocks → k < length b.blocks → IsSome (block_at b.blocks j)
      → block_at b.blocks j ≡ block_at b.blocks k → j ≡ k
  pub full_size : AllByRecursion (λ bytes. length bytes ≡ 512) b.contents

-- all buffers free, with bytes of zero
abbrev pub all_free : ℕ → ℕ → Buffers
all_free buffers files = record {
  lists = all_in_first buffers (files + 1);
  blocks = replicate buffers None;
  contents = replicate buffers (replicate 512 0);
}

-- a node holds this block, and stands behind the others of its file
abbrev pub with_taken : Buffers → ℕ → FileNode → ℕ → Buffers
with_taken b node file index = record {
  lists = moved node (file.0 + 1) b.lists;
  blocks = slice_set b.blocks node (Some (record { file = file; index = index }));
  contents = b.contents;
}

-- a node is free, and stands behind the others that are
abbrev pub with_released : Buffers → ℕ → Buffers
with_released b node = record { lists = moved node 0 b.lists; blocks = slice_set b.blocks node None; contents = b.contents }

-- all nodes of a file are free
abbrev pub with_file_released : Buffers → FileNode → Buffers
with_file_released b file = record {
  lists = moved_all (file.0 + 1) 0 b.lists;
  blocks = map (without_file file) b.blocks;
  contents = b.contents;
}

-- bytes were written over those of a node
abbrev pub with_bytes : Buffers → ℕ → List ℕ → Buffers
with_bytes b node bytes = record {
  lists = b.lists;
  blocks = b.blocks;
  contents = slice_set b.contents node (written_over (slice_index_or b.contents node (replicate 512 0)) bytes);
}
