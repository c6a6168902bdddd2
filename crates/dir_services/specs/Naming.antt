-- Which calls of directories change names.
use Rattle.std.specs.Prelude.{Bool, true, false}
use Rattle.apex_types.specs.declared.calls.DirCall.{DirCall}
use Rattle.apex_types.specs.declared.calls.DirCall.TheVariants.{MakeDirectory, RemoveDirectory}

-- whether a call makes a directory or removes one
abbrev pub is_naming : DirCall → Bool
is_naming (MakeDirectory path) = true
is_naming (RemoveDirectory path) = true
is_naming _ = false
