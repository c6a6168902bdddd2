-- What stays where no content changes.
use Rattle.std.specs.Prelude.{ℕ, ◌≡◌, List}
use Rattle.apex_types.specs.declared.numbers.FileNode.{FileNode}
use Rattle.present_files.specs.Present.{content_of, present_block}
use Rattle.present_files.specs.declared.present.Present.{Present}

-- The sizes, change counts and block numbers are as before. So is each block and each content over these data blocks, where the rig
-- tells what reads give.
pub record KeepsContents (tells_view : Type 0) (blocks : List ℕ) (old new : Present) : Type 0 where
  pub sizes : new.sizes ≡ old.sizes
  pub numbers : new.numbers ≡ old.numbers
  pub each_block : tells_view → (g : FileNode) (j : ℕ) → present_block blocks new g j ≡ present_block blocks old g j
  pub contents : tells_view → (g : FileNode) → content_of blocks new g ≡ content_of blocks old g
