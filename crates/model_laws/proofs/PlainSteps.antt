-- The answers of a valid world are plain.
use Rattle.std.proofs.Common.{◌≡◌, ◌≢◌, ℕ, true, false, not, refl, sym, ap, ◌∙◌, Option, Some}
use Rattle.apex_types.specs.Rows.{Rows}
use Rattle.apex_types.specs.declared.calls.Call.{Call}
use Rattle.apex_types.specs.declared.calls.Call.TheVariants as call
use Rattle.apex_types.specs.declared.calls.Mode.{Mode}
use Rattle.apex_types.specs.declared.calls.Mode.TheVariants as mode
use Rattle.apex_types.specs.declared.codes.Errno.{Errno}
use Rattle.apex_types.specs.declared.codes.Errno.TheVariants.{Eperm, Eio}
use Rattle.apex_model.specs.Logbooks.{is_idle}
use Rattle.apex_model.specs.Validity.{IsValidFileSystem}
use Rattle.apex_model.specs.World.{World, Partition, partition_in, is_ready, with_files, with_logbooks, with_ports, enter_normal, set_mode, call_step}
use Rattle.model_laws.specs.ReplyLines.{StepsAnswerPlainly}
use Rattle.model_laws.specs.RunText.{tells_eio}
use Rattle.model_laws.proofs.PlainOutcomes.{IsPlainOutcome, plain-accepted, plain-refuse_with, plain-if, plain-if_with, plain-map}
use Rattle.model_laws.proofs.PlainFiles.{file_service-plain}
use Rattle.model_laws.proofs.PlainDirectories.{directory_service-plain}
use Rattle.model_laws.proofs.PlainLogbooks.{logbook_service-plain}
use Rattle.model_laws.proofs.PlainPorts.{sampling_service-plain}

enter_normal-plain : (w : World) (p : ℕ) (partition : Partition) (m : Mode) → IsPlainOutcome (enter_normal w p partition m)
enter_normal-plain w p partition mode.Normal = plain-refuse_with _
enter_normal-plain w p partition mode.Idle = plain-refuse_with _
enter_normal-plain w p partition mode.ColdStart = plain-accepted _ _ tt
enter_normal-plain w p partition mode.WarmStart = plain-accepted _ _ tt

set_mode-plain : (table : Rows) (w : World) (p : ℕ) (m : Mode) → IsPlainOutcome (set_mode table w p m)
set_mode-plain table w p mode.Normal = enter_normal-plain w p (partition_in w p) (partition_in w p).mode
set_mode-plain table w p mode.Idle = plain-accepted _ _ tt
set_mode-plain table w p mode.ColdStart = plain-accepted _ _ tt
set_mode-plain table w p mode.WarmStart = plain-accepted _ _ tt

pub call_step-plain : (table : Rows) (w : World) (p : ℕ) (c : Call) → IsValidFileSystem table w.files → IsPlainOutcome (call_step table w p c)
call_step-plain table w p (call.File c) v = plain-map (with_files w) _ (plain-if (not (is_ready (partition_in w p))) Eperm _ refl (file_service-plain table w.files p c))
call_step-plain table w p (call.Directory c) v = plain-map (with_files w) _ (plain-if (not (is_ready (partition_in w p))) Eperm _ refl (directory_service-plain table w.files p v c))
call_step-plain table w p (call.Logbook c) v = plain-map (with_logbooks w) _ (plain-if_with (is_idle (partition_in w p).mode) _ _ (logbook_service-plain table w.logbooks p (partition_in w p).mode c))
call_step-plain table w p (call.Sampling c) v = plain-map (with_ports w) _ (plain-if_with (is_idle (partition_in w p).mode) _ _ (sampling_service-plain table w.ports w.time p (partition_in w p).mode c))
call_step-plain table w p (call.SetMode m) v = set_mode-plain table w p m
call_step-plain table w p (call.SetContext context) v = plain-accepted _ _ tt

-- no errno is EIO where the test does not hold
pub not-eio : (o : Option Errno) → tells_eio o ≡ false → o ≢ Some Eio
not-eio o h e = let wrong : true ≡ false = ap tells_eio (sym e) ∙ h in cc

pub steps-answer : StepsAnswerPlainly
steps-answer table w p c v = let a = call_step-plain table w p c v.files in record { no_failure = not-eio _ a.errno; names = a.names }
