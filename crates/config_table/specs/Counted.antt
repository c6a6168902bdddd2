-- A list behind its number of items, as one byte holds it.
use Rattle.std.specs.Prelude.{ℕ, List, [], ◌∷◌, ◌%◌, length, flat_map}
use Rattle.apex_types.specs.declared.numbers.PartitionId.{PartitionId}

abbrev pub reader_bytes : PartitionId → List ℕ
reader_bytes reader = reader.0 ∷ []

abbrev pub counted_bytes : {A : Type 0} → (A → List ℕ) → List A → List ℕ
counted_bytes f xs = (length xs % 256) ∷ flat_map f xs
