-- What a reader of the code answers, beside the reading of its definition.
use Rattle.std.specs.Prelude.{◌≡◌, ℕ, Result, Ok, Err}
use Rattle.script_model.specs.Script.{Refusal}
use Rattle.call_script.specs.declared.errors.ScriptError.{ScriptError}
use Rattle.call_script.specs.declared.errors.ScriptError.TheVariants as errors
use Rattle.script_model.specs.declared.faults.LineFault.{LineFault}
use Rattle.script_model.specs.declared.faults.LineFault.TheVariants.{OutOfMemory, NotAscii, UnknownPartition, UnknownCall, WrongArguments, BadNumber, BadData}

-- the fault is the one that reading gives, unless memory ran out
abbrev pub Fails : {Y : Type 0} → LineFault → Result Y LineFault → Type 0
Fails OutOfMemory read = Unit {0}
Fails NotAscii read = read ≡ Err NotAscii
Fails UnknownPartition read = read ≡ Err UnknownPartition
Fails UnknownCall read = read ≡ Err UnknownCall
Fails WrongArguments read = read ≡ Err WrongArguments
Fails BadNumber read = read ≡ Err BadNumber
Fails BadData read = read ≡ Err BadData

-- what a function returned, seen by view, is what reading gives, unless memory ran out
abbrev pub Gives : {X Y : Type 0} → (X → Y) → Result X LineFault → Result Y LineFault → Type 0
Gives view (Ok x) read = read ≡ Ok (view x)
Gives view (Err e) read = Fails e read

-- the error of a fault in a line
abbrev pub error_at : LineFault → ℕ → ScriptError
error_at OutOfMemory line = errors.OutOfMemory
error_at NotAscii line = errors.NotAscii line
error_at UnknownPartition line = errors.UnknownPartition line
error_at UnknownCall line = errors.UnknownCall line
error_at WrongArguments line = errors.WrongArguments line
error_at BadNumber line = errors.BadNumber line
error_at BadData line = errors.BadData line

-- the number and the line of a refusal
abbrev refused : {Y : Type 0} → Result Y Refusal → ℕ → ℕ → Type 0
refused read number line = read ≡ Err (record { number = number; line = line })

-- the error is the one that reading gives, unless memory ran out
abbrev pub Refuses : {Y : Type 0} → ScriptError → Result Y Refusal → Type 0
Refuses errors.TooLong read = refused read 1 0
Refuses (errors.NotAscii line) read = refused read 2 line
Refuses (errors.UnknownPartition line) read = refused read 3 line
Refuses (errors.UnknownCall line) read = refused read 4 line
Refuses (errors.WrongArguments line) read = refused read 5 line
Refuses (errors.BadNumber line) read = refused read 6 line
Refuses (errors.BadData line) read = refused read 7 line
Refuses errors.OutOfMemory read = Unit {0}

abbrev pub GivesAtLine : {X Y : Type 0} → (X → Y) → Result X ScriptError → Result Y Refusal → Type 0
GivesAtLine view (Ok x) read = read ≡ Ok (view x)
GivesAtLine view (Err e) read = Refuses e read
