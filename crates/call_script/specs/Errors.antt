-- The number, the name and the line with which a refused script is told.
use Rattle.std.specs.Prelude.{ℕ, List, codes, Option, Some, None, unwrap_or}
use Rattle.script_model.specs.Script.{Refusal}
use Rattle.call_script.specs.declared.errors.ScriptError.{ScriptError}
use Rattle.call_script.specs.declared.errors.ScriptError.TheVariants as errors

-- the number of an error, in the order in which errors count
abbrev pub number_of_error : ScriptError → ℕ
number_of_error errors.TooLong = 1
number_of_error (errors.NotAscii line) = 2
number_of_error (errors.UnknownPartition line) = 3
number_of_error (errors.UnknownCall line) = 4
number_of_error (errors.WrongArguments line) = 5
number_of_error (errors.BadNumber line) = 6
number_of_error (errors.BadData line) = 7
number_of_error errors.OutOfMemory = 8

-- the name of an error
abbrev pub name_of_error : ScriptError → List ℕ
name_of_error errors.TooLong = codes "TooLong"
name_of_error (errors.NotAscii line) = codes "NotAscii"
name_of_error (errors.UnknownPartition line) = codes "UnknownPartition"
name_of_error (errors.UnknownCall line) = codes "UnknownCall"
name_of_error (errors.WrongArguments line) = codes "WrongArguments"
name_of_error (errors.BadNumber line) = codes "BadNumber"
name_of_error (errors.BadData line) = codes "BadData"
name_of_error errors.OutOfMemory = codes "OutOfMemory"

-- the line that is refused, if the error is of one line
abbrev pub line_of_error : ScriptError → Option ℕ
line_of_error errors.TooLong = None
line_of_error (errors.NotAscii line) = Some line
line_of_error (errors.UnknownPartition line) = Some line
line_of_error (errors.UnknownCall line) = Some line
line_of_error (errors.WrongArguments line) = Some line
line_of_error (errors.BadNumber line) = Some line
line_of_error (errors.BadData line) = Some line
line_of_error errors.OutOfMemory = None

-- the refusal that an error stands for
abbrev pub refusal_of : ScriptError → Refusal
refusal_of error = record { number = number_of_error error; line = unwrap_or (line_of_error error) 0 }
