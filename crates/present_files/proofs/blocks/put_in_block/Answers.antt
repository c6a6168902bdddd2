use Rattle.std.proofs.Common.{◌<◌, arith}
use Rattle.apex_model.specs.Files.{blocks_of}
use Rattle.apex_model.specs.Image.{data_block}
use Rattle.tree_region.specs.InStep.{data_at}
use Rattle.present_files.specs.Present.{number_in, row_length, size_in}
use Rattle.present_files.proofs.Rooms.{present-held, room-other, room-put}
use Rattle.present_files.proofs.blocks.put_in_block.Goals as goal

pub returns-clause-room : goal.returns-clause-room
returns-clause-room c = λ at image fits.
    let row = c.args.row.now in
    let are = c.requires.present in
    let f = c.args.file.0 in
    let numbers = c.args.present.now.numbers.items in
    let block : c.args.k < blocks_of (size_in c.args.present.now.sizes.items f) = (are.held c.args.file c.args.k c.requires.held).1 in
    let low : c.args.k < row_length numbers f = omega (arith, block, are.fits f c.requires.file, are.rooms f c.requires.file) in
    room-put row at image fits numbers are.within c.args.present.now.pool c.put_held.new.pool c.put_held.ensures.sound c.args.file c.args.k c.args.from c.args.bytes.now c.put_held.ensures.others low c.requires.long
    (c.put_held.ensures.bytes (data_block (data_at row at image) (number_in numbers f c.args.k)))

pub returns-clause-others : goal.returns-clause-others
returns-clause-others c = λ blocks h differs.
    room-other blocks c.args.present.now.numbers.items c.args.present.now.pool c.put_held.new.pool c.args.file h c.args.k c.put_held.ensures.others differs

pub returns-clause-present : goal.returns-clause-present
returns-clause-present c =
    present-held c.args.row.now c.args.present.now.sizes.items c.args.present.now.numbers.items c.args.present.now.pool c.put_held.new.pool c.args.file c.args.k c.requires.present c.put_held.ensures.others c.requires.file
    (c.requires.present.held c.args.file c.args.k c.requires.held).1
