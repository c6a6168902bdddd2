use Rattle.std.proofs.Common.{◌≡◌, arith}
use Rattle.present_files.specs.Present.{size_in}
use Rattle.present_files.proofs.GivenUp.{gone-behind}
use Rattle.present_files.proofs.Sizes.{size-read}
use Rattle.present_files.proofs.resizing.shrink.Goals as goal

pub set_size-requires-clause-buffers : goal.set_size-requires-clause-buffers
set_size-requires-clause-buffers c = λ k low.
    let old = c.args.present.now in
    let now = c.drop_blocks.new.present in
    let f = c.args.file.0 in
    let size : c.index.result.now.size ≡ size_in old.sizes.items f = size-read old.sizes.items f c.index.result.now (omega (arith, c.requires.file, c.requires.present.sizes_length)) c.index.ensures in
    let same : size_in now.sizes.items f ≡ size_in old.sizes.items f = (λ i. size_in (c.drop_blocks.ensures.sizes i).items f) in
    gone-behind c.args.row.now now.sizes.items old.numbers.items now.numbers.items old.pool now.pool c.args.file c.div_ceil.result c.div_ceil-2.result c.drop_blocks.ensures.present c.drop_blocks.ensures.dropped c.requires.file
    (omega (arith, size, same, c.div_ceil-2.ensures)) k (omega (arith, low, c.div_ceil.ensures))
