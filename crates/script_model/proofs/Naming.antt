-- A call without its arguments.
use Rattle.apex_types.specs.declared.calls.FileCall.{FileCall}
use Rattle.apex_types.specs.declared.calls.FileCall.TheVariants as file
use Rattle.apex_types.specs.declared.calls.DirCall.{DirCall}
use Rattle.apex_types.specs.declared.calls.DirCall.TheVariants as directory
use Rattle.apex_types.specs.declared.calls.LogbookCall.{LogbookCall}
use Rattle.apex_types.specs.declared.calls.LogbookCall.TheVariants as logbook
use Rattle.apex_types.specs.declared.calls.SamplingCall.{SamplingCall}
use Rattle.apex_types.specs.declared.calls.SamplingCall.TheVariants as sampling
use Rattle.script_model.specs.declared.verbs.FileVerb.{FileVerb}
use Rattle.script_model.specs.declared.verbs.FileVerb.TheVariants as file_verb
use Rattle.script_model.specs.declared.verbs.DirectoryVerb.{DirectoryVerb}
use Rattle.script_model.specs.declared.verbs.DirectoryVerb.TheVariants as directory_verb
use Rattle.script_model.specs.declared.verbs.LogbookVerb.{LogbookVerb}
use Rattle.script_model.specs.declared.verbs.LogbookVerb.TheVariants as logbook_verb
use Rattle.script_model.specs.declared.verbs.SamplingVerb.{SamplingVerb}
use Rattle.script_model.specs.declared.verbs.SamplingVerb.TheVariants as sampling_verb

abbrev pub file_verb_of : FileCall → FileVerb
file_verb_of (file.OpenNewFile path) = file_verb.OpenNewFile
file_verb_of (file.OpenFile path mode) = file_verb.OpenFile
file_verb_of (file.CloseFile id) = file_verb.CloseFile
file_verb_of (file.ReadFile id len) = file_verb.ReadFile
file_verb_of (file.WriteFile id bs) = file_verb.WriteFile
file_verb_of (file.SeekFile id by whence) = file_verb.SeekFile
file_verb_of (file.ResizeFile id size) = file_verb.ResizeFile
file_verb_of (file.SyncFile id) = file_verb.SyncFile
file_verb_of (file.RemoveFile path) = file_verb.RemoveFile
file_verb_of (file.RenameFile old new) = file_verb.RenameFile
file_verb_of (file.GetFileStatus id) = file_verb.GetFileStatus
file_verb_of (file.GetVolumeStatus path) = file_verb.GetVolumeStatus

abbrev pub directory_verb_of : DirCall → DirectoryVerb
directory_verb_of (directory.OpenDirectory path) = directory_verb.OpenDirectory
directory_verb_of (directory.CloseDirectory id) = directory_verb.CloseDirectory
directory_verb_of (directory.ReadDirectory id) = directory_verb.ReadDirectory
directory_verb_of (directory.RewindDirectory id) = directory_verb.RewindDirectory
directory_verb_of (directory.MakeDirectory path) = directory_verb.MakeDirectory
directory_verb_of (directory.RemoveDirectory path) = directory_verb.RemoveDirectory
directory_verb_of (directory.SyncDirectory id) = directory_verb.SyncDirectory

abbrev pub logbook_verb_of : LogbookCall → LogbookVerb
logbook_verb_of (logbook.Create name) = logbook_verb.Create
logbook_verb_of (logbook.Write id bs) = logbook_verb.Write
logbook_verb_of (logbook.Overwrite id bs) = logbook_verb.Overwrite
logbook_verb_of (logbook.Read id count) = logbook_verb.Read
logbook_verb_of (logbook.Clear id) = logbook_verb.Clear
logbook_verb_of (logbook.GetId name) = logbook_verb.GetId
logbook_verb_of (logbook.GetStatus id) = logbook_verb.GetStatus

abbrev pub sampling_verb_of : SamplingCall → SamplingVerb
sampling_verb_of (sampling.Create name) = sampling_verb.Create
sampling_verb_of (sampling.Write id bs) = sampling_verb.Write
sampling_verb_of (sampling.ReadUpdated id) = sampling_verb.ReadUpdated
sampling_verb_of (sampling.CurrentStatus id) = sampling_verb.CurrentStatus
sampling_verb_of (sampling.ReadConditional id time) = sampling_verb.ReadConditional
