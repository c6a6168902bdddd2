use Rattle.std.proofs.Common.{sym, ap, ◌∙◌}
use Rattle.apex_model.specs.Image.{data_block}
use Rattle.present_files.specs.Nodes.{bytes_of}
use Rattle.present_files.specs.Present.{number_in}
use Rattle.present_files.proofs.Rooms.{block-same, present-held}
use Rattle.present_files.proofs.blocks.zero_buffer.Goals as goal

pub returns-clause-same : goal.returns-clause-same
returns-clause-same c = λ blocks.
    let numbers = c.args.present.now.numbers.items in
    let pool = c.args.present.now.pool in
    let stored = data_block blocks (number_in numbers c.args.file.0 c.args.k) in
    block-same blocks numbers pool c.hold_zeros.new.pool c.args.file c.args.k c.hold_zeros.ensures.others
    (c.hold_zeros.ensures.bytes stored ∙ sym (ap (bytes_of pool stored) c.requires.absent ∙ ap (data_block blocks) c.requires.number))

pub returns-clause-present : goal.returns-clause-present
returns-clause-present c =
    present-held c.args.row.now c.args.present.now.sizes.items c.args.present.now.numbers.items c.args.present.now.pool c.hold_zeros.new.pool c.args.file c.args.k c.requires.present c.hold_zeros.ensures.others c.requires.file c.requires.block
