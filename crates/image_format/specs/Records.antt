-- Which records a journal spells.
use Rattle.std.specs.Prelude.{ℕ, Bool, List, ◌&&◌, ◌||◌, ◌==◌, Option, Some, None}
use Rattle.apex_types.specs.declared.fields.RecordField.{RecordField}

-- kinds 1, 2 and 5 have a name, and kinds 3 and 4 have none, and no parent
abbrev pub has_kind : ℕ → ℕ → Option (List ℕ) → Bool
has_kind kind parent None = ((kind == 3) || (kind == 4)) && (parent == 0)
has_kind kind parent (Some name) = (kind == 1) || (kind == 2) || (kind == 5)

abbrev pub is_record : RecordField → Bool
is_record change = has_kind change.kind change.parent.0 change.name
