-- Numbers of four bytes, one behind the other.
use Rattle.std.specs.Prelude.{ℕ, ◌*◌, List, map}
use Rattle.std.specs.List.{range_with_len}
use Rattle.apex_model.specs.Fields.{number_at}

-- the number that four bytes spell, by its place
abbrev pub word : List ℕ → ℕ → ℕ
word bytes k = number_at bytes (4 * k) 4

-- the first so many numbers
unfoldable pub words : ℕ → List ℕ → List ℕ
words count bytes = map (word bytes) (range_with_len 0 count)
