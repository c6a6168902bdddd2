use Rattle.std.proofs.Common.{◌+◌, ◌≤◌, length, arith}
use Rattle.rig_core.specs.MemRig.{mem_state}
use Rattle.logbook_store.specs.Books.{logged_of, progress_of}
use Rattle.logbook_store.specs.declared.book.Book.{Book}
use Rattle.logbook_tests.proofs.Known.{counted, if_some}
use Rattle.logbook_tests.proofs.moves.Device.entry.Goals as goal

pub entry-requires-clause-last : goal.entry-requires-clause-last
entry-requires-clause-last c = if_some (λ (book : Book). c.args.number ≤ length (progress_of book) + logged_of book) c.self.inside.logs c.args.logbook (λ book at.
    let known = counted c.self.inside.logs (mem_state c.self.inside.rig).view c.self.invariant.4 c.self.invariant.5 c.args.logbook c.counts-counts.result c.counts-counts.ensures.told book at in
    omega (arith, c.if-number-counts.false, known.logged, known.progress))
