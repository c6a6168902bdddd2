-- Which lines change names, and how often a line did.
use Rattle.std.specs.Prelude.{ℕ, Bool, true, false, ◌&&◌, if◌then◌else◌, Option, Some, None}
use Rattle.apex_types.specs.declared.calls.Call.{Call}
use Rattle.apex_types.specs.declared.calls.Call.TheVariants as call
use Rattle.apex_types.specs.declared.calls.Deed.{Deed}
use Rattle.apex_types.specs.declared.calls.Deed.TheVariants as deed
use Rattle.apex_types.specs.declared.codes.ReturnCode.{ReturnCode}
use Rattle.apex_types.specs.declared.codes.ReturnCode.TheVariants.{NoError}
use Rattle.apex_types.specs.declared.replies.Reply.{Reply}
use Rattle.file_services.specs.Naming as files
use Rattle.dir_services.specs.Naming as directories

-- whether a call makes, removes or renames a file or a directory
abbrev pub is_naming : Call → Bool
is_naming (call.File c) = files.is_naming c
is_naming (call.Directory c) = directories.is_naming c
is_naming _ = false

abbrev pub changes_names : Deed → Bool
changes_names (deed.Tick n) = false
changes_names (deed.Partition p c) = is_naming c

abbrev pub is_no_error : ReturnCode → Bool
is_no_error NoError = true
is_no_error _ = false

-- whether a reply tells that a call was carried out
abbrev pub is_done : Option Reply → Bool
is_done None = false
is_done (Some reply) = is_no_error reply.code

-- how often a line with this reply changed names: once, or not
abbrev pub name_change : Deed → Option Reply → ℕ
name_change d reply = if changes_names d && is_done reply then 1 else 0
