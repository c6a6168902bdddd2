use Rattle.std.proofs.Common.{◌+◌, ◌<◌, ◌≤◌, length, arith}
use Rattle.rig_core.specs.MemRig.{mem_state}
use Rattle.logbook_store.specs.Books.{row_of, life_of, progress_of}
use Rattle.logbook_store.specs.declared.book.Book.{Book}
use Rattle.logbook_tests.proofs.Known.{counted, if_some, small_at}
use Rattle.logbook_tests.proofs.moves.Device.add.Goals as goal

pub add-requires-clause-size : goal.add-requires-clause-size
add-requires-clause-size c = if_some (λ (book : Book). length c.args.bytes.now ≤ (row_of book).message_size) c.self.inside.logs c.args.logbook (λ book at.
    let small = small_at c.self.inside.logs c.self.invariant.1 c.args.logbook book at in
    omega (arith, c.if-bytes-gt16.false, small.0))

pub add-requires-clause-room : goal.add-requires-clause-room
add-requires-clause-room c = if_some (λ (book : Book). length (progress_of book) < (row_of book).in_progress) c.self.inside.logs c.args.logbook (λ book at.
    let small = small_at c.self.inside.logs c.self.invariant.1 c.args.logbook book at in
    let known = counted c.self.inside.logs (mem_state c.self.inside.rig).view c.self.invariant.4 c.self.invariant.5 c.args.logbook c.counts-counts.result c.counts-counts.ensures.told book at in
    omega (arith, c.if-counts-ge2.false, small.1, known.progress))

pub add-requires-clause-life : goal.add-requires-clause-life
add-requires-clause-life c = if_some (λ (book : Book). life_of book + length (progress_of book) < 4294967295) c.self.inside.logs c.args.logbook (λ book at.
    let known = counted c.self.inside.logs (mem_state c.self.inside.rig).view c.self.invariant.4 c.self.invariant.5 c.args.logbook c.counts-counts.result c.counts-counts.ensures.told book at in
    omega (arith, c.if-counts-ge2.false, c.if-counts-gt1000.false, known.life, known.progress))
