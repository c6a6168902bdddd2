-- Marks of used blocks, one number after the other.
use Rattle.std.specs.Prelude.{ℕ, ◌==◌, Bool, true, List, [], ◌∷◌, if◌then◌else◌, Option, Some, None}
use Rattle.block_quota.specs.Blocks.{is_used, with_mark}

-- the marks with that of one more number; none where its block is used already. Number 0 has no block
abbrev pub marked_next : List Bool → ℕ → Option (List Bool)
marked_next used n = if n == 0 then Some used else if is_used used n then None else Some (with_mark used n true)

-- the marks with those of all numbers; none where a block is named twice
unfoldable pub marked_all : List Bool → List ℕ → Option (List Bool)
marked_all used [] = Some used
marked_all used (n ∷ numbers) = elim (marked_next used n) [ None ↦ None | Some more ↦ marked_all more numbers ]
