-- Keys of the lists inside a row.
use Rattle.std.specs.Prelude.{ℕ, List, codes}

abbrev pub readers_key : List ℕ
readers_key = codes "readers"

abbrev pub destinations_key : List ℕ
destinations_key = codes "destinations"
