use Rattle.std.proofs.Common.{◌<◌, ◌≤◌, length, arith}
use Rattle.rig_core.specs.MemRig.{mem_state}
use Rattle.logbook_store.specs.Books.{row_of, progress_of}
use Rattle.logbook_store.specs.declared.book.Book.{Book}
use Rattle.logbook_tests.proofs.Known.{counted, if_some, small_at}
use Rattle.logbook_tests.proofs.moves.Device.replace_newest.Goals as goal

pub replace_newest-requires-clause-size : goal.replace_newest-requires-clause-size
replace_newest-requires-clause-size c = if_some (λ (book : Book). length c.args.bytes.now ≤ (row_of book).message_size) c.self.inside.logs c.args.logbook (λ book at.
    let small = small_at c.self.inside.logs c.self.invariant.1 c.args.logbook book at in
    omega (arith, c.if-bytes-gt16.false, small.0))

pub replace_newest-requires-clause-progress : goal.replace_newest-requires-clause-progress
replace_newest-requires-clause-progress c = if_some (λ (book : Book). 0 < length (progress_of book)) c.self.inside.logs c.args.logbook (λ book at.
    let known = counted c.self.inside.logs (mem_state c.self.inside.rig).view c.self.invariant.4 c.self.invariant.5 c.args.logbook c.counts.result c.counts.ensures.told book at in
    omega (arith, c.if-counts-eq0.false, known.progress))
