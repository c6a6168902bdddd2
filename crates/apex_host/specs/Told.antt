-- What the host tells.
use Rattle.std.specs.Prelude.{◌≡◌, ◌≢◌, ◌⊎◌, ℕ, List, [], ◌∷◌, ◌++◌, length, Option, Some, None, codes, decimal}
use Rattle.apex_types.specs.Rows.{Rows}
use Rattle.apex_types.specs.declared.calls.Line.{Line}
use Rattle.apex_model.specs.Isolation.{replies_of}
use Rattle.apex_model.specs.Image.{Refusal, too_small, not_formatted, other_table, bad_tree, bad_logbook}
use Rattle.apex_model.specs.Durable.{Durable, start}
use Rattle.apex_model.specs.Run.{replies_to, text_of, line_of}
use Rattle.apex_model.specs.World.{World}
use Rattle.rig_core.specs.Causes.{Rose}
use Rattle.rig_core.specs.Outside.{Outside, IsToldPart}
use Rattle.table_model.specs.Errors.{error_number, error_name}
use Rattle.table_model.specs.declared.errors.TableError.{TableError}
use Rattle.stress_script.specs.Generator.{generated}
use Rattle.script_run.specs.Tally.{tally_of}
use Rattle.script_run.specs.declared.tally.Tally.{Tally}
use Rattle.power_sweep.specs.declared.sweeping.Swept.{Swept}
use Rattle.apex_host.specs.declared.status.Status.{Status}
use Rattle.apex_host.specs.declared.status.Status.TheVariants.{ReplyFault}

-- the reply lines of a script that is carried out in a world, where the reads of some lines failed
abbrev pub run_text : Rows → List ℕ → World → List Line → List ℕ
run_text table failed w lines = text_of (replies_to table failed w lines)

-- those of them that are a partition's, where no read failed
abbrev pub own_text : Rows → ℕ → World → List Line → List ℕ
own_text table p w lines = text_of (replies_of p (replies_to table [] w lines))

-- the line that tells that an image of so many blocks was made
abbrev pub formatted_line : ℕ → List ℕ
formatted_line blocks = line_of (codes "formatted" ∷ decimal blocks ∷ codes "blocks" ∷ [])

-- the line that tells that the image of a table is good
abbrev pub good_line : Rows → List ℕ
good_line table = line_of (codes "image" ∷ codes "good" ∷ codes "trees" ∷ decimal (length table.trees)
    ∷ codes "logbooks" ∷ decimal (length table.logbooks) ∷ [])

-- the tally of the replies to so many lines that are drawn from a seed, from a stored state on, where
-- no read failed
abbrev pub load_tally : Rows → ℕ → ℕ → Durable → Tally
load_tally table seed count stored =
    tally_of (replies_to table [] (start table stored) (generated table seed count))

-- the line that tells how many lines a load had, how many replies, how many of each code, and how many
-- bytes of data they held
abbrev pub stressed_line : ℕ → Tally → List ℕ
stressed_line count tally = line_of (codes "stress" ∷ codes "lines" ∷ decimal count
    ∷ codes "replies" ∷ decimal tally.replies
    ∷ codes "NO_ERROR" ∷ decimal tally.no_error
    ∷ codes "NO_ACTION" ∷ decimal tally.no_action
    ∷ codes "NOT_AVAILABLE" ∷ decimal tally.not_available
    ∷ codes "INVALID_PARAM" ∷ decimal tally.invalid_param
    ∷ codes "INVALID_CONFIG" ∷ decimal tally.invalid_config
    ∷ codes "INVALID_MODE" ∷ decimal tally.invalid_mode
    ∷ codes "bytes" ∷ decimal tally.data_bytes ∷ [])

-- the line that tells what a sweep counted: the calls of the device, the images that cuts left, those
-- that mounted, and the files in them
abbrev pub swept_line : Swept → List ℕ
swept_line counts = line_of (codes "sweep" ∷ codes "calls" ∷ decimal counts.calls
    ∷ codes "images" ∷ decimal counts.images ∷ codes "mounted" ∷ decimal counts.mounted
    ∷ codes "files" ∷ decimal counts.files ∷ [])

-- ---- the lines that tell why a command was not carried out

-- the words that there are
abbrev pub usage_line : List ℕ
usage_line = codes "usage: format, run, only PARTITION, check, stress SEED LINES, sweep" ++ 10 ∷ []

-- the table is refused, with the number and the name of its error
abbrev pub table_refused_line : TableError → List ℕ
table_refused_line e =
    line_of (codes "table" ∷ codes "refused" ∷ decimal (error_number e) ∷ error_name e ∷ [])

-- reading the table's source failed
abbrev pub table_fault_line : List ℕ
table_fault_line = codes "source fault table" ++ 10 ∷ []

-- reading the script's source failed
abbrev pub script_fault_line : List ℕ
script_fault_line = codes "source fault script" ++ 10 ∷ []

-- no partition of the table has the name that the command is for
abbrev pub unknown_partition_line : List ℕ
unknown_partition_line = codes "command refused UnknownPartition" ++ 10 ∷ []

-- the table's image or the script is too large for a sweep
abbrev pub too_large_line : List ℕ
too_large_line = codes "command refused SweepTooLarge" ++ 10 ∷ []

-- the word of a value, if there is one
abbrev pub value_words : Option ℕ → List (List ℕ)
value_words None = []
value_words (Some n) = decimal n ∷ []

-- the number, the name and the value with which an image is refused
abbrev pub image_words : Refusal → List (List ℕ)
image_words (too_small wanted) = decimal 1 ∷ codes "TooSmall" ∷ value_words (Some wanted)
image_words not_formatted = decimal 2 ∷ codes "NotFormatted" ∷ value_words None
image_words (other_table place) = decimal 3 ∷ codes "OtherTable" ∷ value_words (Some place)
image_words (bad_tree tree) = decimal 4 ∷ codes "BadTree" ∷ value_words (Some tree)
image_words (bad_logbook logbook) = decimal 5 ∷ codes "BadLogbook" ∷ value_words (Some logbook)

-- the image is refused, for a number of bytes that is wanted, a place at which the table's bytes
-- differ, or the number of a tree or a logbook that is bad
abbrev pub image_refused_line : Refusal → List ℕ
image_refused_line refusal = line_of (codes "image" ∷ codes "refused" ∷ image_words refusal)

-- a read of the device failed when the image was opened
abbrev pub mount_fault_line : List ℕ
mount_fault_line = codes "device fault mount" ++ 10 ∷ []

-- the device failed in a line of a load
abbrev pub stress_fault_line : List ℕ
stress_fault_line = codes "device fault stress" ++ 10 ∷ []

-- a call of the device failed when it was formatted
abbrev pub format_fault_line : List ℕ
format_fault_line = codes "device fault format" ++ 10 ∷ []

-- ---- telling that fails

-- Telling a text failed after a part of it. There was something to tell, and the count of such
-- faults rose.
pub record IsCutShort (tells_text : Type 0) (text old now : List ℕ) (faults faults_now : ℕ)
    : Type 0 where
  pub something : text ≢ []
  pub rose : Rose faults faults_now
  pub part : tells_text → IsToldPart text old now

-- so it is with the text of a rig
abbrev pub TellsPart : Type 0 → List ℕ → Outside → Outside → Type 0
TellsPart tells_text text old new =
    IsCutShort tells_text text old.told new.told old.tell_faults new.tell_faults

-- The line is told and the result is the status, or telling it failed after a part of it.
abbrev pub IsTold : Type 0 → List ℕ → Status → Outside → Outside → Status → Type 0
IsTold tells_text line status old new result =
    ((result ≡ status) × (tells_text → new.told ≡ old.told ++ line))
    ⊎ ((result ≡ ReplyFault) × TellsPart tells_text line old new)
