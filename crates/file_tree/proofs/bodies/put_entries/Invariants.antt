use Rattle.std.proofs.Common.{◌≡◌, ◌<◌, ◌+◌, ◌*◌, ℕ, length, take, drop, Some}
use Rattle.std.specs.Prelude.{option_map}
use Rattle.apex_model.specs.Fields.{entry_of_bytes}
use Rattle.apex_model.specs.Image.{entry_bytes}
use Rattle.file_tree.specs.Bodies.{entry_by}
use Rattle.file_tree.specs.Checks.{kept}
use Rattle.file_tree.specs.Entries.{slot}
use Rattle.file_tree.specs.Images.{named_entry}
use Rattle.file_tree.proofs.bodies.put_entries.Given as goal

-- the first entries were written, and nothing else
abbrev pub invariant-loop-k : goal.invariant-loop-k
invariant-loop-k l = record {
  long : length l.body ≡ length l.initial.body;
  entries : (j : ℕ) → j < l.k → option_map (option_map named_entry) (entry_by l.kind (entry_of_bytes 2 (entry_bytes l.body (l.start + j)))) ≡ Some (kept l.kind (slot l.entries j));
  front : take (64 + 128 * l.start) l.body ≡ take (64 + 128 * l.start) l.initial.body;
  behind : drop (64 + 128 * (l.start + l.k)) l.body ≡ drop (64 + 128 * (l.start + l.k)) l.initial.body;
}
