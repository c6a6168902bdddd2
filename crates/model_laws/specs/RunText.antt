-- What the text of a run's replies tells: which reads failed, and how many replies there are.
use Rattle.std.specs.Prelude.{◌≡◌, ℕ, Bool, true, false, List, ◌++◌, map, filter, length, Option, Some}
use Rattle.std.specs.List.{AllByRecursion}
use Rattle.apex_types.specs.Rows.{Rows}
use Rattle.apex_types.specs.declared.calls.Line.{Line}
use Rattle.apex_types.specs.declared.codes.Errno.{Errno}
use Rattle.apex_types.specs.declared.codes.Errno.TheVariants.{Eio}
use Rattle.apex_model.specs.Accepted.{IsAccepted}
use Rattle.apex_model.specs.Lines.{IsLineOf}
use Rattle.apex_model.specs.Run.{Told, text_of, replies_to}
use Rattle.apex_model.specs.Texts.{Text}
use Rattle.apex_model.specs.ToldText.{number_of_line, is_failed_line, is_fault_line, reply_text, failed_in, replies_in, HasNoFeed}
use Rattle.apex_model.specs.Validity.{IsValid}
use Rattle.apex_model.specs.World.{World}

-- whether an answer has the errno of a failed read
abbrev pub tells_eio : Option Errno → Bool
tells_eio (Some Eio) = true
tells_eio _ = false

-- whether a reply is that of a failed read
abbrev pub is_failure : Told → Bool
is_failure told = tells_eio told.reply.errno

-- the numbers of the lines whose reply is one
abbrev pub failures_of : List Told → List ℕ
failures_of replies = map (λ told. told.number) (filter is_failure replies)

-- the line of a reply without its line feed
abbrev pub told_text : Told → Text
told_text told = reply_text told.number told.reply

-- A reply's line tells its number and whether the read failed, and is not taken for the end of a run.
pub record ReplyLineTells (told : Told) : Type 0 where
  pub no_feed : HasNoFeed (told_text told)
  pub number_is : number_of_line (told_text told) ≡ told.number
  pub failed : is_failed_line (told_text told) ≡ is_failure told
  pub not_ended : is_fault_line (told_text told) ≡ false

-- so does each line of a run from a valid world
abbrev pub ReplyLinesTell : Type 0
ReplyLinesTell = (table : Rows) (failed : List ℕ) (w : World) (lines : List Line)
    → IsAccepted table → IsValid table w → AllByRecursion (IsLineOf table) lines
    → AllByRecursion ReplyLineTells (replies_to table failed w lines)

-- A text tells in which lines the reads of these replies failed, and how many replies there are.
pub record TextTells (replies : List Told) (told : Text) : Type 0 where
  pub failures : failed_in told ≡ failures_of replies
  pub count : replies_in told ≡ length replies

-- so does the text of a run from a valid world, also with a part of a line after it
abbrev pub TextTellsRun : Type 0
TextTellsRun = (table : Rows) (failed : List ℕ) (w : World) (lines : List Line)
    → IsAccepted table → IsValid table w → AllByRecursion (IsLineOf table) lines
    → (part : Text) → HasNoFeed part
    → TextTells (replies_to table failed w lines) (text_of (replies_to table failed w lines) ++ part)
