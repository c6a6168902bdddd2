-- What an answer of the reader says of the script.
use Rattle.std.proofs.Common.{◌≡◌, ℕ, List, Result, Ok, Err, refl, ap, inl, inr, ◌⊎◌}
use Rattle.std.specs.Prelude.{IfOk, IfErr}
use Rattle.std.specs.List.{AllByRecursion}
use Rattle.apex_types.specs.Rows.{Rows}
use Rattle.apex_types.specs.declared.calls.Line.{Line}
use Rattle.apex_model.specs.Lines.{IsLineOf}
use Rattle.script_model.specs.Spelling.{HasNames}
use Rattle.script_model.specs.Script.{Refusal, script_of, SpellsScript}
use Rattle.script_model.proofs.Scripts.{script_spells, spelled_script}
use Rattle.script_model.proofs.Lines.{script_of_table}
use Rattle.call_script.specs.declared.errors.ScriptError.{ScriptError}
use Rattle.call_script.specs.declared.errors.ScriptError.TheVariants as errors
use Rattle.call_script.specs.Errors.{refusal_of}
use Rattle.call_script.specs.Gives.{Refuses, GivesAtLine}

-- what was read, the script spells
pub is_spelled : (rows : Rows) → HasNames rows → (bytes : List ℕ) (r : Result (List Line) ScriptError) → GivesAtLine (λ s. s) r (script_of rows bytes) → IfOk r (λ s. SpellsScript rows bytes s)
is_spelled rows h bytes (Ok lines) g = script_spells rows h bytes lines g
is_spelled rows h bytes (Err e) g = tt

pub is_read : (rows : Rows) (bytes : List ℕ) (r : Result (List Line) ScriptError) → GivesAtLine (λ s. s) r (script_of rows bytes) → IfOk r (λ s. script_of rows bytes ≡ Ok s)
is_read rows bytes (Ok lines) g = g
is_read rows bytes (Err e) g = tt

refused : (read : Result (List Line) Refusal) (e : ScriptError) → Refuses e read → (e ≡ errors.OutOfMemory) ⊎ (read ≡ Err (refusal_of e))
refused read errors.TooLong h = inr h
refused read (errors.NotAscii line) h = inr h
refused read (errors.UnknownPartition line) h = inr h
refused read (errors.UnknownCall line) h = inr h
refused read (errors.WrongArguments line) h = inr h
refused read (errors.BadNumber line) h = inr h
refused read (errors.BadData line) h = inr h
refused read errors.OutOfMemory h = inl refl

-- an error is the refusal of the script, unless memory ran out
pub is_refused : (rows : Rows) (bytes : List ℕ) (r : Result (List Line) ScriptError) → GivesAtLine (λ s. s) r (script_of rows bytes) → IfErr r (λ e. (e ≡ errors.OutOfMemory) ⊎ (script_of rows bytes ≡ Err (refusal_of e)))
is_refused rows bytes (Ok lines) g = tt
is_refused rows bytes (Err e) g = refused (script_of rows bytes) e g

not_refused : (read : Result (List Line) Refusal) (lines : List Line) (e : ScriptError) → read ≡ Ok lines → (e ≡ errors.OutOfMemory) ⊎ (read ≡ Err (refusal_of e)) → e ≡ errors.OutOfMemory
not_refused read lines e ok (inl memory) = memory
not_refused read lines e ok (inr err) = absurd cc

answered : (r : Result (List Line) ScriptError) (read : Result (List Line) Refusal) (lines : List Line) → read ≡ Ok lines → GivesAtLine (λ s. s) r read → (r ≡ Ok lines) ⊎ (r ≡ Err errors.OutOfMemory)
answered (Ok found) read lines ok g = let same : found ≡ lines = cc in inl (ap (λ (ls : List Line). Ok ls) same)
answered (Err e) read lines ok g = let memory = not_refused read lines e ok (refused read e g) in inr (ap (λ (d : ScriptError). Err d) memory)

-- what the script spells is read, unless memory ran out
pub is_all : (rows : Rows) → HasNames rows → (bytes : List ℕ) (lines : List Line) → SpellsScript rows bytes lines → (r : Result (List Line) ScriptError) → GivesAtLine (λ s. s) r (script_of rows bytes)
    → (r ≡ Ok lines) ⊎ (r ≡ Err errors.OutOfMemory)
is_all rows h bytes lines s r g = answered r (script_of rows bytes) lines (spelled_script rows h bytes lines s) g

-- the lines that were read are lines of the table
pub is_of_table : (rows : Rows) → HasNames rows → (bytes : List ℕ) (r : Result (List Line) ScriptError) → GivesAtLine (λ s. s) r (script_of rows bytes) → IfOk r (λ s. AllByRecursion (IsLineOf rows) s)
is_of_table rows h bytes (Ok lines) g = script_of_table rows bytes lines (script_spells rows h bytes lines g)
is_of_table rows h bytes (Err e) g = tt
