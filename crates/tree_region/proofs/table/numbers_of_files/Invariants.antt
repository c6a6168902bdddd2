use Rattle.tree_region.proofs.Tables.{IsTabled}
use Rattle.tree_region.proofs.table.numbers_of_files.Given as goal

-- the first files have their numbers
abbrev pub invariant-loop-k : goal.invariant-loop-k
invariant-loop-k l = IsTabled l.room l.fields l.numbers l.k l.at l.files.items
