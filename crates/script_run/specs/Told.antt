-- The lines that are told while a script is carried out.
use Rattle.std.specs.Prelude.{◌≡◌, ℕ, List, [], Option, Some, None}
use Rattle.apex_types.specs.declared.replies.Reply.{Reply}
use Rattle.apex_model.specs.Run.{reply_line}
use Rattle.rig_core.specs.Outside.{Outside, Later, IsToldPart, Speaks}

-- the line that tells a reply, or nothing for a tick
abbrev pub told_line : ℕ → Option Reply → List ℕ
told_line number None = []
told_line number (Some reply) = reply_line number reply

-- A text was told, or a part of it. Reads give what they gave, and a cut leaves an image that it
-- might have left before, with a part of the text told.
pub record TellsText (tells_text tells_view : Type 0) (text : List ℕ) (o e : Outside) : Type 0 where
  pub later : Later o e
  pub view : tells_view → e.view ≡ o.view
  pub cuts : Speaks text o e
  pub part : tells_text → IsToldPart text o.told e.told
