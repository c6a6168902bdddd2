-- Blocks of a file that are given up.
use Rattle.std.specs.Prelude.{ℕ, ◌≡◌, ◌<◌, ◌≤◌, List, length, None}
use Rattle.apex_types.specs.declared.numbers.FileNode.{FileNode}
use Rattle.block_pool.specs.Buffers.{Buffers, node_of}
use Rattle.present_files.specs.Nodes.{held_or}
use Rattle.present_files.specs.Present.{number_in, row_length}
use Rattle.present_files.specs.declared.present.Present.{Present}

-- block (g, j) is none of the blocks of file f from one up to another
abbrev pub IsBeside : FileNode → ℕ → ℕ → FileNode → ℕ → Type 0
IsBeside f from to g j = g.0 ≡ f.0 → from ≤ j → j < to → ⊥

-- The blocks of a file from one up to another are zeros that no buffer holds, and all other blocks are as before.
pub record AreDropped (f : FileNode) (from to : ℕ) (numbers new_numbers : List (List ℕ)) (b new : Buffers) : Type 0 where
  pub zeros : (k : ℕ) → from ≤ k → k < to → number_in new_numbers f.0 k ≡ 0
  pub gone : (k : ℕ) → from ≤ k → k < to → node_of new f k ≡ None
  pub numbers_stay : (g : FileNode) (j : ℕ) → IsBeside f from to g j → number_in new_numbers g.0 j ≡ number_in numbers g.0 j
  pub nodes_stay : (g : FileNode) (j : ℕ) → IsBeside f from to g j → node_of new g j ≡ node_of b g j
  pub bytes_stay : (stored : List ℕ) (g : FileNode) (j : ℕ) → IsBeside f from to g j → held_or new stored g j ≡ held_or b stored g j
  -- there are as many rows, lists and buffers as before, and each row is as long
  pub files : length new_numbers ≡ length numbers
  pub rows : (g : ℕ) → row_length new_numbers g ≡ row_length numbers g
  pub lists : length new.lists ≡ length b.lists
  pub count : length new.contents ≡ length b.contents

abbrev pub DropsBlocks : FileNode → ℕ → ℕ → Present → Present → Type 0
DropsBlocks f from to old new = AreDropped f from to old.numbers.items new.numbers.items old.pool new.pool
