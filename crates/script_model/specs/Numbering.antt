-- The numbers of a script's lines.
use Rattle.std.specs.Prelude.{ℕ, Bool, true, ◌&&◌, nat_le, nat_lt, List, [], ◌∷◌, IsTrue}
use Rattle.apex_types.specs.declared.calls.Line.{Line}

-- the number of the last line, or this one where there is none
abbrev pub last_from : ℕ → List Line → ℕ
last_from n [] = n
last_from n (line ∷ lines) = last_from line.number lines

-- the number of a script's last line, or 0 where it has none
abbrev pub last_number : List Line → ℕ
last_number lines = last_from 0 lines

-- whether the numbers rise from above this one, to 20,000 at most
abbrev pub rise_above : ℕ → List Line → Bool
rise_above n [] = true
rise_above n (line ∷ lines) = nat_lt n line.number && (nat_le line.number 20000 && rise_above line.number lines)

-- the numbers of a script's lines rise, and lie from 1 to 20,000
abbrev pub AreNumbered : List Line → Type 0
AreNumbered lines = IsTrue (rise_above 0 lines)
