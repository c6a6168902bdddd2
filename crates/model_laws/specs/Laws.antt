-- What is proved of the definitions: a call of files or directories keeps trees and handles valid, and a refused call of files or directories keeps them as they are.
use Rattle.std.specs.Prelude.{◌≡◌, ◌≢◌, ℕ, Bool}
use Rattle.apex_types.specs.Rows.{Rows}
use Rattle.apex_types.specs.declared.calls.DirCall.{DirCall}
use Rattle.apex_types.specs.declared.calls.FileCall.{FileCall}
use Rattle.apex_types.specs.declared.codes.ReturnCode.TheVariants.{NoError}
use Rattle.apex_model.specs.Accepted.{IsAccepted}
use Rattle.apex_model.specs.DirectoryStep.{directory_step}
use Rattle.apex_model.specs.FileStep.{file_step}
use Rattle.apex_model.specs.FileSystem.{FileSystem}
use Rattle.apex_model.specs.Outcomes.{reply_of, state_after}
use Rattle.apex_model.specs.Validity.{IsValidFileSystem}

-- a file call whose reply is not NO_ERROR leaves the trees and the handles as they were
abbrev pub FileRefusalChangesNothing : Type 0
FileRefusalChangesNothing = (table : Rows) (fs : FileSystem) (p : ℕ) (ready : Bool) (c : FileCall) → (reply_of (file_step table fs p ready c)).code ≢ NoError
    → state_after fs (file_step table fs p ready c) ≡ fs

-- and so a directory call
abbrev pub DirectoryRefusalChangesNothing : Type 0
DirectoryRefusalChangesNothing = (table : Rows) (fs : FileSystem) (p : ℕ) (ready : Bool) (c : DirCall) → (reply_of (directory_step table fs p ready c)).code ≢ NoError
    → state_after fs (directory_step table fs p ready c) ≡ fs

-- a file call keeps trees and handles valid
abbrev pub FileCallKeepsValid : Type 0
FileCallKeepsValid = (table : Rows) (fs : FileSystem) (p : ℕ) (ready : Bool) (c : FileCall)
    → IsAccepted table → IsValidFileSystem table fs → IsValidFileSystem table (state_after fs (file_step table fs p ready c))

-- a directory call keeps trees and handles valid
abbrev pub DirectoryCallKeepsValid : Type 0
DirectoryCallKeepsValid = (table : Rows) (fs : FileSystem) (p : ℕ) (ready : Bool) (c : DirCall) → IsAccepted table → IsValidFileSystem table fs
    → IsValidFileSystem table (state_after fs (directory_step table fs p ready c))
