use Rattle.std.proofs.Common.{◌≡◌, ◌++◌, drop, flat_map}
use Rattle.config_table.specs.Counted.{reader_bytes}
use Rattle.config_table.proofs.bytes.put_readers.Given as goal

abbrev pub invariant-loop-k : goal.invariant-loop-k
invariant-loop-k l = l.bytes ++ flat_map reader_bytes (drop l.k l.readers) ≡ l.initial.bytes ++ flat_map reader_bytes l.readers
