-- What a cut leaves of an image beside the text told while a script is carried out.
use Rattle.std.specs.Prelude.{◌≡◌, ℕ, Bool, true, List, ◌++◌, take, drop, count_by}
use Rattle.apex_types.specs.Rows.{Rows}
use Rattle.apex_types.specs.declared.calls.Line.{Line}
use Rattle.apex_model.specs.Durable.{Durable}
use Rattle.apex_model.specs.Moments.{is_told, IsCutBefore}
use Rattle.apex_model.specs.Run.{world_after_all}
use Rattle.apex_model.specs.ToldText.{IsLeftByText}
use Rattle.apex_model.specs.World.{World}
use Rattle.image_layout.specs.Ready.{Stores}

-- all replies are told
abbrev pub every_teller : ℕ → Bool
every_teller p = true

-- how many of some lines have a reply
abbrev pub reply_count : List Line → ℕ
reply_count lines = count_by (is_told every_teller) lines

-- what a cut may leave during the line at place k, or at the end, where the reads of these lines
-- failed
abbrev pub IsLeftAt : Rows → World → List Line → ℕ → List ℕ → Durable → Type 0
IsLeftAt table w lines k failed durable =
    IsCutBefore table (world_after_all table failed w (take k lines)) (drop k lines) durable

-- The image stands for a state that the text told since a run of these lines began allows.
pub record IsPair (table : Rows) (w : World) (lines : List Line) (before image told : List ℕ)
    : Type 0 where
  pub more : List ℕ
  pub told_is : told ≡ before ++ more
  pub stores : Stores table (IsLeftByText table w lines every_teller more) image
