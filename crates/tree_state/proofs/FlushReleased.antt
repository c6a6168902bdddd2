-- The first buffer of a file: which block it holds, and what is held once it is free.
use Rattle.std.proofs.Common.{◌≡◌, ℕ, ◌+◌, ◌<◌, ◌≤◌, List, length, replicate, Some, None, refl, sym, ap, ◌∙◌, subst, arith}
use Rattle.std.specs.Prelude.{IsSome, option_map, slice_index_or}
use Rattle.apex_types.specs.declared.numbers.FileNode.{FileNode}
use Rattle.apex_types.specs.declared.rows.TreeRow.{TreeRow}
use Rattle.apex_model.specs.Files.{blocks_of}
use Rattle.block_pool.specs.Buffers.{Buffers, AreBuffers, block_at, node_of, with_released}
use Rattle.block_pool.specs.Lists.{first_of, list_at, node_count}
use Rattle.present_files.specs.Nodes.{OthersStay, bytes_of, free_in, held_or}
use Rattle.present_files.specs.Present.{free_buffers, size_in}
use Rattle.present_files.proofs.HeldBlocks.{gone-released, others-released}
use Rattle.rig_core.specs.Outside.{Outside}
use Rattle.tree_state.specs.State.{IsState}
use Rattle.tree_state.specs.declared.state.TreeState.{TreeState}
use Rattle.tree_state.proofs.Fronts.{front-freed, front-node, front-room, shorter-freed}

-- A buffer that is the first of a file holds this block of it.
pub record IsFront (row : TreeRow) (s : TreeState) (f : FileNode) (k node : ℕ) : Type 0 where
  pub node_is : node_of s.present.pool f k ≡ Some node
  pub low : k < blocks_of (size_in s.present.sizes.items f.0)
  pub lists : f.0 + 1 < length s.present.pool.lists
  -- so not all buffers are free
  pub room : free_buffers s.present + 1 ≤ row.dirty

pub front : (V : Type 0) (row : TreeRow) (at : ℕ) (o : Outside) (s : TreeState) (f : FileNode) (k node : ℕ) → IsState V row at o s → f.0 < row.files → AreBuffers s.present.pool
    → first_of (list_at s.present.pool.lists (f.0 + 1)) ≡ Some node → node < node_count s.present.pool.lists → Some k ≡ option_map (λ block. block.index) (block_at s.present.pool.blocks node) → IsFront row s f k node
front V row at o s f k node is file are first within index =
    let b = s.present.pool in
    let lists : f.0 + 1 < length b.lists = omega (arith, file, is.present.lists) in
    let node_is = front-node b are f node lists within first k (sym index) in
    let room = front-room b are f node lists within first in
    record { node_is = node_is; low = (is.present.held f k (subst IsSome (sym node_is) refl)).1; lists = lists; room = omega (arith, room, is.buffers) }

-- the block that a node holds has the node's bytes, whatever is stored
pub held-same : (b : Buffers) (f : FileNode) (k node : ℕ) → node_of b f k ≡ Some node → (x y : List ℕ) → held_or b x f k ≡ held_or b y f k
held-same b f k node is x y = ap (bytes_of b x) is ∙ sym (ap (bytes_of b y) is)

module _ (b c : Buffers) (are : AreBuffers b) (f : FileNode) (k node : ℕ) (is : node_of b f k ≡ Some node) (released : c ≡ with_released b node) where
  -- once the node is free, the block has the bytes that are stored
  pub released-here : (x y : List ℕ) → x ≡ slice_index_or b.contents node (replicate 512 0) → held_or c x f k ≡ held_or b y f k
  released-here x y same =
      let gone : node_of c f k ≡ None = ap (λ (p : Buffers). node_of p f k) released ∙ gone-released b f k node is are in
      ap (bytes_of c x) gone ∙ same ∙ sym (ap (bytes_of b y) is)

  -- and other blocks are as they were
  pub released-others : OthersStay f k b c
  released-others = subst (λ (p : Buffers). OthersStay f k b p) (sym released) (others-released b f k node is)

  -- no file has more buffers
  pub released-fewer : (g : ℕ) → length (list_at c.lists (g + 1)) ≤ length (list_at b.lists (g + 1))
  released-fewer g = subst (λ (p : Buffers). length (list_at p.lists (g + 1)) ≤ length (list_at b.lists (g + 1))) (sym released) (shorter-freed node b.lists g)

-- and one more is free
pub released-freed : (b c : Buffers) → AreBuffers b → (f : FileNode) (node : ℕ) → f.0 + 1 < length b.lists → node < node_count b.lists → first_of (list_at b.lists (f.0 + 1)) ≡ Some node → c ≡ with_released b node
    → free_in c ≡ free_in b + 1
released-freed b c are f node lists within first released = ap free_in released ∙ front-freed b are f node lists within first
