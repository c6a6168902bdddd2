-- Logged entries of logbooks that stay over a loss of power, by the text told until then.
use Rattle.std.specs.Prelude.{◌≡◌, ℕ, ◌+◌, ◌≤◌, true, List, ◌++◌, length, take, drop, slice_get, Some}
use Rattle.apex_types.specs.Rows.{Rows}
use Rattle.apex_types.specs.declared.calls.Line.{Line}
use Rattle.apex_types.specs.declared.rows.LogbookRow.{LogbookRow}
use Rattle.apex_model.specs.Durable.{Durable, start}
use Rattle.apex_model.specs.Logbooks.{Message, book_in}
use Rattle.apex_model.specs.LoggedEntries.{message_in, stored_in, stored_message, Lasts}
use Rattle.apex_model.specs.Moments.{is_told}
use Rattle.apex_model.specs.Run.{world_after_all}
use Rattle.apex_model.specs.ToldText.{failed_in, replies_in}
use Rattle.apex_model.specs.World.{World}
use Rattle.rig_core.specs.Leaves.{LeavesPairs}
use Rattle.rig_core.specs.Outside.{Outside}
use Rattle.image_layout.specs.Ready.{Stores}
use Rattle.script_run.specs.Pairs.{every_teller, reply_count}

-- the world after so many of a run's lines, where the reads failed that this text tells
abbrev pub world_at : Rows → List Line → Durable → List ℕ → ℕ → World
world_at rows lines stored told n =
    world_after_all rows (failed_in told) (start rows stored) (take n lines)

-- The line at a place has a reply, and this text tells so many replies that it is among them.
pub record IsAnswered (lines : List Line) (text : List ℕ) (i : ℕ) : Type 0 where
  pub line : Line
  pub at : slice_get lines i ≡ Some line
  pub replies : is_told every_teller line ≡ true
  pub told : reply_count (take (i + 1) lines) ≤ replies_in text

-- In the lines behind that place, as far as they may have been carried out when this text was told,
-- and in the one in progress, a logbook was not cleared and its life stayed below a bound.
abbrev pub LastsBehind : Rows → List Line → Durable → List ℕ → ℕ → ℕ → ℕ → Type 0
LastsBehind rows lines stored text i k bound =
    (done : ℕ) → done ≤ length lines → reply_count (take done lines) ≡ replies_in text
    → Lasts rows (failed_in text) k bound (world_at rows lines stored text (i + 1))
    (drop (i + 1) (take done lines) ++ take 1 (drop done lines))

-- An image that a cut leaves beside a told text has each entry that was logged when a told line was
-- carried out, with its bytes, unless its logbook was cleared or newer entries dropped it. Entries
-- are told apart by their numbers, which count over the whole life of a logbook.
abbrev pub KeepsEntries : Rows → List Line → Durable → List ℕ → List ℕ → List ℕ → Type 0
KeepsEntries rows lines stored before image told =
    (text : List ℕ) → told ≡ before ++ text
    → (i k number : ℕ) (row : LogbookRow) (message : Message)
    → IsAnswered lines text i → slice_get rows.logbooks k ≡ Some row
    → message_in (book_in (world_at rows lines stored text (i + 1)).logbooks k) number
    ≡ Some message
    → LastsBehind rows lines stored text i k (number + row.logged)
    → Stores rows (λ durable. stored_message (stored_in durable k) number ≡ Some message) image

-- so it is at every moment of a run
abbrev pub LeavesEntries : Rows → List Line → Durable → Outside → Outside → Type 0
LeavesEntries rows lines stored old new = LeavesPairs (KeepsEntries rows lines stored old.told) old new
