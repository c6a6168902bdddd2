use Rattle.std.proofs.Common.{◌≡◌, ◌≤◌, arith}
use Rattle.apex_model.specs.Files.{blocks_of}
use Rattle.present_files.specs.Present.{size_in}
use Rattle.present_files.specs.declared.present.PresentSize.{PresentSize}
use Rattle.present_files.proofs.GivenUp.{gone-behind, zeros-behind}
use Rattle.present_files.proofs.Sizes.{present-sized, size-read}
use Rattle.present_files.proofs.resizing.release_file.Goals as goal

pub returns-clause-present : goal.returns-clause-present
returns-clause-present c =
    let row = c.args.row.now in
    let old = c.args.present.now in
    let now = c.drop_blocks.new.present in
    let f = c.args.file.0 in
    let are = c.drop_blocks.ensures.present in
    let known : PresentSize = record { size = 0; changes = 0 } in
    let size : c.index.result.now.size ≡ size_in old.sizes.items f = size-read old.sizes.items f c.index.result.now (omega (arith, c.requires.file, c.requires.present.sizes_length)) c.index.ensures in
    let same : size_in now.sizes.items f ≡ size_in old.sizes.items f = (λ i. size_in (c.drop_blocks.ensures.sizes i).items f) in
    let last : blocks_of (size_in now.sizes.items f) ≤ c.div_ceil.result = omega (arith, size, same, c.div_ceil.ensures) in
    present-sized row now.sizes.items now.numbers.items now.pool c.args.file known are c.requires.file (omega arith) (omega arith)
    (λ k low. zeros-behind row now.sizes.items old.numbers.items now.numbers.items old.pool now.pool c.args.file 0 c.div_ceil.result are c.drop_blocks.ensures.dropped c.requires.file last k (omega arith))
    (λ k low. gone-behind row now.sizes.items old.numbers.items now.numbers.items old.pool now.pool c.args.file 0 c.div_ceil.result are c.drop_blocks.ensures.dropped c.requires.file last k (omega arith))
