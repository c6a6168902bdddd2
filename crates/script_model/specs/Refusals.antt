-- How the refusal of a script is told.
use Rattle.std.specs.Prelude.{ℕ, List, [], ◌∷◌, ◌==◌, if◌then◌else◌, codes, decimal}
use Rattle.apex_model.specs.Run.{line_of}
use Rattle.script_model.specs.Script.{Refusal}

-- the name of the error with this number
abbrev pub refusal_name : ℕ → List ℕ
refusal_name n =
    if n == 1 then codes "TooLong"
    else if n == 2 then codes "NotAscii"
    else if n == 3 then codes "UnknownPartition"
    else if n == 4 then codes "UnknownCall"
    else if n == 5 then codes "WrongArguments"
    else if n == 6 then codes "BadNumber"
    else if n == 7 then codes "BadData"
    else codes "OutOfMemory"

-- the words that name the line at fault, if the error is of one line
abbrev pub refused_place : ℕ → List (List ℕ)
refused_place line = if line == 0 then [] else codes "line" ∷ decimal line ∷ []

-- the line that tells a refusal: its number and its name, and the line at fault
abbrev pub refusal_line : Refusal → List ℕ
refusal_line refusal = line_of (codes "script" ∷ codes "refused" ∷ decimal refusal.number ∷ refusal_name refusal.number ∷ refused_place refusal.line)
