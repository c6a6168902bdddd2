-- Standard input as a source: what is left of it, and how often it has failed.
use Rattle.std.specs.Prelude.{ℕ, List, Option}
use Rattle.system_adapters.specs.declared.input_source.InputSource.{InputSource}

-- the bytes that are left, where the reader tells them
abbrev pub left_of : {F : Type 0} → (F → Option (List ℕ)) → InputSource F → Option (List ℕ)
left_of remaining s = remaining s.reader

-- how often it has failed, up to the count's last value
abbrev pub faults_of : {F : Type 0} → InputSource F → ℕ
faults_of s = s.faults
