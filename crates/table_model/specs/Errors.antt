-- How a refusal is named, and which of two refusals counts.
use Rattle.std.specs.Prelude.{ℕ, Bool, ◌==◌, List, codes}
use Rattle.table_model.specs.declared.errors.TableError.{TableError}
use Rattle.table_model.specs.declared.errors.TableError.TheVariants.{TooLong, NotToml, UnknownKey, MissingKey, WrongKind, BadName, OutOfRange, Repeated, UnknownName, VolumeOverfull, ImageTooLarge, OutOfMemory}

-- the number of each refusal
abbrev pub error_number : TableError → ℕ
error_number TooLong = 1
error_number NotToml = 2
error_number UnknownKey = 3
error_number MissingKey = 4
error_number WrongKind = 5
error_number BadName = 6
error_number OutOfRange = 7
error_number Repeated = 8
error_number UnknownName = 9
error_number VolumeOverfull = 10
error_number ImageTooLarge = 11
error_number OutOfMemory = 12

-- the name of each refusal
abbrev pub error_name : TableError → List ℕ
error_name TooLong = codes "TooLong"
error_name NotToml = codes "NotToml"
error_name UnknownKey = codes "UnknownKey"
error_name MissingKey = codes "MissingKey"
error_name WrongKind = codes "WrongKind"
error_name BadName = codes "BadName"
error_name OutOfRange = codes "OutOfRange"
error_name Repeated = codes "Repeated"
error_name UnknownName = codes "UnknownName"
error_name VolumeOverfull = codes "VolumeOverfull"
error_name ImageTooLarge = codes "ImageTooLarge"
error_name OutOfMemory = codes "OutOfMemory"

-- the order in which refusals count: out of memory comes first, since then no more is known of the text
abbrev pub order : TableError → ℕ
order OutOfMemory = 0
order e = error_number e

-- whether two refusals are the same
abbrev pub is_error : TableError → TableError → Bool
is_error e f = order e == order f
