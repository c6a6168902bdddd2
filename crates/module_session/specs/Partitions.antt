-- The partitions' modes and contexts, by number.
use Rattle.std.specs.Prelude.{ℕ, List, slice_index_or}
use Rattle.apex_model.specs.World.{Partition, started}

-- that of a number; where there is none, as a partition is started
abbrev pub partition_at : List Partition → ℕ → Partition
partition_at partitions p = slice_index_or partitions p started
