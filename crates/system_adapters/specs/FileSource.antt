-- A file as a source: what is left of it, and how often it has failed.
use Rattle.std.specs.Prelude.{◌≡◌, ℕ, List, Option, None, option_and_then}
use Rattle.system_adapters.specs.declared.file_source.FileSource.{FileSource}

-- the bytes that are left, where the file's reader tells them
abbrev pub left_of : {F : Type 0} → (F → Option (List ℕ)) → FileSource F → Option (List ℕ)
left_of remaining s = option_and_then remaining s.file

-- how often it has failed, up to the count's last value
abbrev pub faults_of : {F : Type 0} → FileSource F → ℕ
faults_of s = s.faults

-- the file could not be opened
abbrev pub IsAbsent : {F : Type 0} → FileSource F → Type 0
IsAbsent s = s.file ≡ None
