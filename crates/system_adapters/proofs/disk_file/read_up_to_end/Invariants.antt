use Rattle.std.specs.Prelude.{◌≡◌, ◌≤◌, length}
use Rattle.system_adapters.proofs.disk_file.read_up_to_end.Given as goal

-- the count is within the buffer, whose length stays
abbrev pub invariant-loop : goal.invariant-loop
invariant-loop g l = (l.count ≤ length l.into) × (length l.into ≡ length l.initial.into)
