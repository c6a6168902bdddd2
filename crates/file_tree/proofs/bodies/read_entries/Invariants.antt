use Rattle.std.proofs.Common.{◌≡◌, ◌<◌, ◌+◌, ℕ, length, Some}
use Rattle.std.specs.Prelude.{option_map}
use Rattle.apex_model.specs.Fields.{entry_of_bytes}
use Rattle.apex_model.specs.Image.{entry_bytes}
use Rattle.file_tree.specs.Bodies.{entry_by}
use Rattle.file_tree.specs.Entries.{slot}
use Rattle.file_tree.specs.Table.{HasName}
use Rattle.file_tree.specs.Images.{named_entry}
use Rattle.file_tree.proofs.bodies.read_entries.Given as goal

-- the first entries were read
abbrev pub invariant-loop-k : goal.invariant-loop-k
invariant-loop-k l =
    (length l.entries ≡ length l.initial.entries)
    × ((j : ℕ) → j < l.k → option_map (option_map named_entry) (entry_by l.kind (entry_of_bytes l.version (entry_bytes l.body (l.start + j)))) ≡ Some (slot l.entries j))
    × ((j : ℕ) → j < l.k → HasName (slot l.entries j))
