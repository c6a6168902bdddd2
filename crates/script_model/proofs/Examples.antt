-- Worked lines, by computation: calls and directives that are read, and refused.
use Rattle.std.specs.Prelude.{◌≡◌, ℕ, [], ◌∷◌, Ok, Err, codes, refl}
use Rattle.apex_types.specs.declared.calls.Call.TheVariants.{Logbook, Sampling, SetMode, SetContext}
use Rattle.apex_types.specs.declared.calls.Context.TheVariants.{Handler}
use Rattle.apex_types.specs.declared.calls.LogbookCall.TheVariants as logbook
use Rattle.apex_types.specs.declared.calls.Mode.TheVariants.{ColdStart}
use Rattle.apex_types.specs.declared.calls.SamplingCall.TheVariants as sampling
use Rattle.hex.specs.Hex.{decode_pairs}
use Rattle.script_model.specs.declared.faults.LineFault.TheVariants.{UnknownCall, WrongArguments, BadNumber, BadData}
use Rattle.script_model.specs.Reading.{words_of, number_of, verb_at, call_at, arguments_at, logbook_arguments, sampling_arguments}

-- what the examples compute with
unfoldable everything : ℕ
unfolding call_at verb_at arguments_at logbook_arguments sampling_arguments number_of decode_pairs
everything = 0

logbook_read : call_at (words_of (codes "READ_LOGBOOK 2 0")) ≡ Ok (Logbook (logbook.Read 2 0))
unfolding everything
logbook_read = refl

message_written : call_at (words_of (codes "WRITE_SAMPLING_MESSAGE 1 c0")) ≡ Ok (Sampling (sampling.Write 1 (192 ∷ [])))
unfolding everything
message_written = refl

mode_set : call_at (words_of (codes "MODE COLD_START")) ≡ Ok (SetMode ColdStart)
unfolding everything
mode_set = refl

context_set : call_at (words_of (codes "CONTEXT HANDLER")) ≡ Ok (SetContext Handler)
unfolding everything
context_set = refl

mode_in_small_letters : call_at (words_of (codes "MODE idle")) ≡ Err WrongArguments
unfolding everything
mode_in_small_letters = refl

half_a_byte : call_at (words_of (codes "WRITE_LOGBOOK 1 0")) ≡ Err BadData
unfolding everything
half_a_byte = refl

zero_before_digits : call_at (words_of (codes "CLEAR_LOGBOOK 01")) ≡ Err BadNumber
unfolding everything
zero_before_digits = refl

no_such_call : call_at (words_of (codes "READ")) ≡ Err UnknownCall
unfolding everything
no_such_call = refl
