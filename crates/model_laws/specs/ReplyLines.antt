-- What the lines of replies say, and what they are not taken for.
use Rattle.std.specs.Prelude.{◌≡◌, ◌≢◌, ℕ, false, Some, IsTrue, ⊤}
use Rattle.apex_types.specs.Naming.{is_name}
use Rattle.apex_types.specs.Rows.{Rows}
use Rattle.apex_types.specs.declared.calls.Call.{Call}
use Rattle.apex_types.specs.declared.codes.Errno.TheVariants.{Eio}
use Rattle.apex_types.specs.declared.replies.Reply.{Reply}
use Rattle.apex_types.specs.declared.replies.Values.{Values}
use Rattle.apex_types.specs.declared.replies.Values.TheVariants.{FileEntry, DirectoryEntry}
use Rattle.apex_model.specs.Outcomes.{reply_of}
use Rattle.apex_model.specs.ToldText.{is_failed_line, is_fault_line, reply_text, HasNoFeed}
use Rattle.apex_model.specs.Validity.{IsValid}
use Rattle.apex_model.specs.World.{World, call_step}

-- the names among a reply's values are spelled as names, so they have no space and no line feed
abbrev pub HasNames : Values → Type 0
HasNames (FileEntry name size) = IsTrue (is_name name)
HasNames (DirectoryEntry name) = IsTrue (is_name name)
HasNames _ = ⊤

-- A reply's line is one line, and neither that of a failed read nor the one that ends a run.
pub record IsPlain (number : ℕ) (reply : Reply) : Type 0 where
  pub no_feed : HasNoFeed (reply_text number reply)
  pub not_failed : is_failed_line (reply_text number reply) ≡ false
  pub not_ended : is_fault_line (reply_text number reply) ≡ false

-- a reply's line is one line
abbrev pub RepliesHaveNoFeed : Type 0
RepliesHaveNoFeed = (number : ℕ) (reply : Reply)
    → HasNames reply.values → HasNoFeed (reply_text number reply)

-- no reply's line is taken for the one that ends a run
abbrev pub NoReplyEndsRun : Type 0
NoReplyEndsRun = (number : ℕ) (reply : Reply)
    → HasNames reply.values → is_fault_line (reply_text number reply) ≡ false

-- no reply's line but that of an EIO is taken for that of a failed read
abbrev pub OtherLinesArePlain : Type 0
OtherLinesArePlain = (number : ℕ) (reply : Reply)
    → HasNames reply.values → reply.errno ≢ Some Eio → IsPlain number reply

-- A reply is not that of a failed read, and the names in it are names.
pub record AnswersPlainly (reply : Reply) : Type 0 where
  pub no_failure : reply.errno ≢ Some Eio
  pub names : HasNames reply.values

-- so is each call's in a valid world, where its read does not fail
abbrev pub StepsAnswerPlainly : Type 0
StepsAnswerPlainly = (table : Rows) (w : World) (p : ℕ) (c : Call)
    → IsValid table w → AnswersPlainly (reply_of (call_step table w p c))
