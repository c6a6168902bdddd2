-- The names of a tree after the records of a journal.
use Rattle.std.specs.Prelude.{◌≡◌, ◌⊎◌, ℕ, Bool, true, false, List, [], ◌∷◌, Option, Some, None}
use Rattle.apex_types.specs.declared.fields.RecordField.{RecordField}
use Rattle.apex_model.specs.Fields.{record_of}
use Rattle.file_tree.specs.Entries.{TreeValue, stored_of}
use Rattle.file_tree.specs.Records.{applied}

-- the names after a record, if there is one and it applies
abbrev pub after_record : TreeValue → Option RecordField → Option TreeValue
after_record v None = None
after_record v (Some change) = applied v change

-- the names after records in a slot of a version, one after the other, if each is spelled and applies in its turn
unfoldable pub replayed : ℕ → Option TreeValue → List (List ℕ) → Option TreeValue
replayed version tree [] = tree
replayed version None (bytes ∷ records) = None
replayed version (Some v) (bytes ∷ records) = replayed version (after_record v (record_of version bytes)) records

-- all were replayed, and the tree is the one after them; or one was not
abbrev pub IsReplayed : Option TreeValue → TreeValue → Bool → Type 0
IsReplayed after v true = after ≡ Some v
IsReplayed after v false = after ≡ None

-- of each file is stored what was stored of it, or nothing
abbrev pub KeepsStored : TreeValue → TreeValue → Type 0
KeepsStored v w = (f : ℕ) → (stored_of w f ≡ stored_of v f) ⊎ (stored_of w f ≡ (0, 0))
