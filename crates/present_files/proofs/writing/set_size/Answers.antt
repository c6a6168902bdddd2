use Rattle.std.proofs.Common.{◌+◌}
use Rattle.present_files.specs.declared.present.PresentSize.{PresentSize}
use Rattle.present_files.proofs.Sizes.{present-sized}
use Rattle.present_files.proofs.writing.set_size.Goals as goal

pub returns-clause-present : goal.returns-clause-present
returns-clause-present c =
    let known : PresentSize = record { size = c.args.size; changes = c.index_mut-known.result.now.changes + 1 } in
    present-sized c.args.row.now c.args.present.now.sizes.items c.args.present.now.numbers.items c.args.present.now.pool c.args.file known c.requires.present c.requires.file c.requires.blocks c.requires.short c.requires.numbers c.requires.buffers
