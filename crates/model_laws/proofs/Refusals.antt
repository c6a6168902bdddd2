-- A refused call changes nothing.
use Rattle.apex_model.specs.DirectoryStep.{directory_step}
use Rattle.apex_model.specs.FileStep.{file_step}
use Rattle.apex_model.proofs.FailedReads.{unchanged}
use Rattle.model_laws.specs.Laws.{FileRefusalChangesNothing, DirectoryRefusalChangesNothing}

pub file_refusal : FileRefusalChangesNothing
file_refusal table fs p ready c = unchanged fs (file_step table fs p ready c)

pub directory_refusal : DirectoryRefusalChangesNothing
directory_refusal table fs p ready c = unchanged fs (directory_step table fs p ready c)
