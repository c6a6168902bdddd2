-- Block numbers of files beside the sizes of their durable contents.
use Rattle.std.specs.Prelude.{◌≡◌, ℕ, ◌≤◌, List}
use Rattle.file_tree.specs.Entries.{TreeValue}
use Rattle.tree_region.specs.OwnedRows.{number_at}
use Rattle.tree_region.specs.GoodNumbers.{size_blocks}

-- behind the durable size of each file all its durable numbers are 0
abbrev pub AreZeroBehind : TreeValue → List (List ℕ) → Type 0
AreZeroBehind v durable = (f k : ℕ) → size_blocks v f ≤ k → number_at durable f k ≡ 0
