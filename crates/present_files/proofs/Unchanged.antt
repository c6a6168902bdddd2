-- Contents that stay as they are.
use Rattle.std.proofs.Common.{◌≡◌, ℕ, List, take, refl, ◌∙◌}
use Rattle.std.specs.Prelude.{Result, Ok, Err, OnErr}
use Rattle.apex_types.specs.declared.numbers.FileNode.{FileNode}
use Rattle.apex_model.specs.Image.{data_block}
use Rattle.present_files.specs.Kept.{KeepsContents}
use Rattle.present_files.specs.Nodes.{AllStay, held_or}
use Rattle.present_files.specs.Present.{block_in, number_in, present_block, room_bytes, room_in, row_length, size_in}
use Rattle.present_files.specs.declared.present.Present.{Present}
use Rattle.present_files.proofs.Joined.{joined-alike, joined_from}

-- what holds at any error
pub on_err : {T E : Type 0} (r : Result T E) (P : Type 0) → P → OnErr r P
on_err (Ok x) P p = tt
on_err (Err e) P p = p

-- all blocks of a file, where each is as before
pub rooms-same : (blocks : List ℕ) (old new : Present) → new.numbers ≡ old.numbers → (f : FileNode) → ((j : ℕ) → present_block blocks new f j ≡ present_block blocks old f j)
    → room_bytes blocks new f ≡ room_bytes blocks old f
unfolding room_in
rooms-same blocks old new numbers f same =
    (λ i. joined_from (block_in blocks new.numbers.items new.pool f) 0 (row_length (numbers i).items f.0))
    ∙ joined-alike (block_in blocks old.numbers.items old.pool f) (block_in blocks new.numbers.items new.pool f) 0 (row_length old.numbers.items f.0) (λ j _ _. same j)

module _ (V : Type 0) (blocks : List ℕ) where
  -- where each block is as before
  pub keeps-blocks : (old new : Present) → new.sizes ≡ old.sizes → new.numbers ≡ old.numbers → (V → (g : FileNode) (j : ℕ) → present_block blocks new g j ≡ present_block blocks old g j)
      → KeepsContents V blocks old new
  keeps-blocks old new sizes numbers same = record {
    sizes = sizes;
    numbers = numbers;
    each_block = same;
    contents = λ v g. let room = rooms-same blocks old new numbers g (same v g) in (λ i. take (size_in (sizes i).items g.0) (room i));
  }

  -- where all nodes stay
  pub keeps-all : (old new : Present) → new.sizes ≡ old.sizes → new.numbers ≡ old.numbers → AllStay old.pool new.pool → KeepsContents V blocks old new
  keeps-all old new sizes numbers stay =
      keeps-blocks old new sizes numbers (λ _ g j.
      (λ i. held_or new.pool (data_block blocks (number_in (numbers i).items g.0 j)) g j)
      ∙ stay.bytes (data_block blocks (number_in old.numbers.items g.0 j)) g j)

  pub keeps-none : (p : Present) → KeepsContents V blocks p p
  keeps-none p = record { sizes = refl; numbers = refl; each_block = λ v g j. refl; contents = λ v g. refl }

  pub keeps-then : (a b c : Present) → KeepsContents V blocks a b → KeepsContents V blocks b c → KeepsContents V blocks a c
  keeps-then a b c one two = record {
    sizes = two.sizes ∙ one.sizes;
    numbers = two.numbers ∙ one.numbers;
    each_block = λ v g j. two.each_block v g j ∙ one.each_block v g j;
    contents = λ v g. two.contents v g ∙ one.contents v g;
  }
