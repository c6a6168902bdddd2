use Rattle.logbook_store.proofs.Joined.{MovedBefore}
use Rattle.logbook_store.proofs.logs.take_all_moved.Given as goal

-- the logbooks before this one have moved
abbrev pub invariant-loop-k : goal.invariant-loop-k
invariant-loop-k l = MovedBefore l.k l.initial.books l.books
