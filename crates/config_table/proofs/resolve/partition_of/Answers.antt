use Rattle.std.proofs.Common.{ℕ, ap}
use Rattle.std.specs.Option.{option_map}
use Rattle.apex_types.specs.declared.numbers.PartitionId.{PartitionId}
use Rattle.config_table.proofs.resolve.partition_of.Goals as goal

pub returns-in-Some : goal.returns-in-Some
returns-in-Some c = let make : ℕ → PartitionId = λ place. record { 0 = place } in ap (option_map make) (rw c.bytes.ensures.value at c.in-Some.ensures.value)

pub returns-in-None : goal.returns-in-None
returns-in-None c = let make : ℕ → PartitionId = λ place. record { 0 = place } in ap (option_map make) (rw c.bytes.ensures.value at c.in-None.ensures.value)
