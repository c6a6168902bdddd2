-- Which calls of files change names.
use Rattle.std.specs.Prelude.{Bool, true, false}
use Rattle.apex_types.specs.declared.calls.FileCall.{FileCall}
use Rattle.apex_types.specs.declared.calls.FileCall.TheVariants.{OpenNewFile, RemoveFile, RenameFile}

-- whether a call makes a file, removes one or gives one another name
abbrev pub is_naming : FileCall → Bool
is_naming (OpenNewFile path) = true
is_naming (RemoveFile path) = true
is_naming (RenameFile old new) = true
is_naming _ = false
