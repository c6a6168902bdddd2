-- What a reader of the code answers, beside what its definition says.
use Rattle.std.specs.Prelude.{◌≡◌, List, Option, Some, None, Result, Ok, Err}
use Rattle.table_model.specs.Reading.{lesser}
use Rattle.table_model.specs.declared.errors.TableError.{TableError}
use Rattle.table_model.specs.declared.errors.TableError.TheVariants.{TooLong, NotToml, UnknownKey, MissingKey, WrongKind, BadName, OutOfRange, Repeated, UnknownName, VolumeOverfull, ImageTooLarge, OutOfMemory}

-- the error is the one that reading gives, unless memory ran out
abbrev pub Fails : {Y : Type 0} → TableError → Result Y TableError → Type 0
Fails OutOfMemory read = Unit {0}
Fails TooLong read = read ≡ Err TooLong
Fails NotToml read = read ≡ Err NotToml
Fails UnknownKey read = read ≡ Err UnknownKey
Fails MissingKey read = read ≡ Err MissingKey
Fails WrongKind read = read ≡ Err WrongKind
Fails BadName read = read ≡ Err BadName
Fails OutOfRange read = read ≡ Err OutOfRange
Fails Repeated read = read ≡ Err Repeated
Fails UnknownName read = read ≡ Err UnknownName
Fails VolumeOverfull read = read ≡ Err VolumeOverfull
Fails ImageTooLarge read = read ≡ Err ImageTooLarge

-- what a function returned, seen by view, is what reading gives, unless memory ran out
abbrev pub Gives : {X Y : Type 0} → (X → Y) → Result X TableError → Result Y TableError → Type 0
Gives view (Ok x) read = read ≡ Ok (view x)
Gives view (Err e) read = Fails e read

-- the least refusal so far, with one more
abbrev pub also : Option TableError → TableError → TableError
also None f = f
also (Some e) f = lesser e f

-- the rows so far, or the least refusal
abbrev pub so_far : {R : Type 0} → List R → Option TableError → Result (List R) TableError
so_far rows None = Ok rows
so_far rows (Some e) = Err e
