-- What a change of names makes of the entries of files, and leaves of them.
use Rattle.std.specs.Prelude.{◌≡◌, ℕ, [], None}
use Rattle.apex_model.specs.Durable.{StoredFile}
use Rattle.file_tree.specs.Entries.{TreeValue, slot, stored_of}

-- a file that was never written
abbrev pub empty_file : StoredFile
empty_file = record { content = []; changes = 0 }

-- Of each entry the same is stored, and each that is unused afterwards was so before.
pub record KeepsEntries (v w : TreeValue) : Type 0 where
  pub stored : (f : ℕ) → stored_of w f ≡ stored_of v f
  pub unused : (f : ℕ) → slot w.files f ≡ None → slot v.files f ≡ None
