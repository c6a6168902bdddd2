-- What the nodes of a pool hold, block by block.
use Rattle.std.specs.Prelude.{ℕ, ◌≡◌, ◌<◌, ◌≤◌, List, length, replicate, Option, Some, None, IsSome, slice_index_or}
use Rattle.apex_types.specs.declared.numbers.FileNode.{FileNode}
use Rattle.block_pool.specs.Buffers.{Buffers, node_of}
use Rattle.block_pool.specs.Lists.{list_at}

-- the bytes of a node, or those that are stored where there is no node
abbrev pub bytes_of : Buffers → List ℕ → Option ℕ → List ℕ
bytes_of b stored None = stored
bytes_of b stored (Some node) = slice_index_or b.contents node (replicate 512 0)

-- the bytes of the node that holds a block, or those that are stored where none does
abbrev pub held_or : Buffers → List ℕ → FileNode → ℕ → List ℕ
held_or b stored f k = bytes_of b stored (node_of b f k)

-- how many buffers are free
abbrev pub free_in : Buffers → ℕ
free_in b = length (list_at b.lists 0)

-- block (g, j) isn't block (f, k)
abbrev pub IsOther : FileNode → ℕ → FileNode → ℕ → Type 0
IsOther f k g j = g.0 ≡ f.0 → j ≡ k → ⊥

-- The other blocks have the nodes and the bytes that they had.
pub record OthersStay (f : FileNode) (k : ℕ) (old new : Buffers) : Type 0 where
  pub nodes : (g : FileNode) (j : ℕ) → IsOther f k g j → node_of new g j ≡ node_of old g j
  pub bytes : (stored : List ℕ) (g : FileNode) (j : ℕ) → IsOther f k g j → held_or new stored g j ≡ held_or old stored g j
  -- there is a list for each file as before, and there are as many buffers
  pub lists : length new.lists ≡ length old.lists
  pub count : length new.contents ≡ length old.contents

-- Each block has the node and the bytes that it had, and as many buffers are free.
pub record AllStay (old new : Buffers) : Type 0 where
  pub nodes : (g : FileNode) (j : ℕ) → node_of new g j ≡ node_of old g j
  pub bytes : (stored : List ℕ) (g : FileNode) (j : ℕ) → held_or new stored g j ≡ held_or old stored g j
  -- there is a list for each file as before, and there are as many buffers
  pub lists : length new.lists ≡ length old.lists
  pub count : length new.contents ≡ length old.contents
  pub free : free_in new ≡ free_in old

-- each block that had a node has one
abbrev pub HoldsMore : Buffers → Buffers → Type 0
HoldsMore old new = (g : FileNode) (j : ℕ) → IsSome (node_of old g j) → IsSome (node_of new g j)

-- nodes hold the blocks of a file from one up to another
abbrev pub AreHeld : Buffers → FileNode → ℕ → ℕ → Type 0
AreHeld b f from to = (k : ℕ) → from ≤ k → k < to → IsSome (node_of b f k)
