-- One line of a script in which no read may fail, and of which the reply is told or not.
use Rattle.std.specs.Prelude.{◌≡◌, ◌&&◌, ℕ, Bool, false, List, [], if◌then◌else◌, Option, Some, None}
use Rattle.apex_types.specs.Rows.{Rows}
use Rattle.apex_types.specs.declared.calls.Line.{Line}
use Rattle.apex_types.specs.declared.replies.Reply.{Reply}
use Rattle.apex_model.specs.FailedReads.{world_after_line}
use Rattle.apex_model.specs.Moments.{is_told}
use Rattle.apex_model.specs.World.{World}
use Rattle.model_laws.specs.RunText.{tells_eio}
use Rattle.module_session.specs.Sessions.{StandsFor, reads_in, reply_in}
use Rattle.module_session.specs.declared.session.Session.{Session}
use Rattle.rig_core.specs.Outside.{Outside}
use Rattle.script_run.specs.Told.{told_line}

-- what is told of a line's reply, where the replies to these partitions are told
abbrev pub heard_text : (ℕ → Bool) → Line → Option Reply → List ℕ
heard_text tellers line reply =
    if is_told tellers line then told_line line.number reply else []

-- whether a reply has the errno of a failed read
abbrev pub has_eio : Option Reply → Bool
has_eio None = false
has_eio (Some reply) = tells_eio reply.errno

-- whether this is the reply to a line whose read failed
abbrev pub is_unread : Line → Option Reply → Bool
is_unread line reply = reads_in line.deed && has_eio reply

-- The line was carried out, and no read failed in it.
pub record IsPlainlyDone (tells_view : Type 0) (table : Rows) (line : Line) (old new : Session)
    (o e : Outside) (reply : Option Reply) : Type 0 where
  pub reply_is : (w : World) → StandsFor tells_view o old w → tells_view
      → reply ≡ reply_in table [] w line
  pub stands : (w : World) → StandsFor tells_view o old w
      → StandsFor tells_view e new (world_after_line table [] w line)
