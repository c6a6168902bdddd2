-- What a partition's own lines have to do with all lines of a script.
use Rattle.std.specs.Prelude.{◌≡◌, ℕ, List, take, slice_get, Some}
use Rattle.std.specs.List.{AllByRecursion}
use Rattle.apex_types.specs.Rows.{Rows}
use Rattle.apex_types.specs.declared.calls.Line.{Line}
use Rattle.apex_model.specs.Accepted.{IsAccepted}
use Rattle.apex_model.specs.Durable.{Durable, start}
use Rattle.apex_model.specs.Isolation.{own_lines, replies_of}
use Rattle.apex_model.specs.Lines.{IsLineOf}
use Rattle.apex_model.specs.Run.{Told, replies_to}
use Rattle.apex_model.specs.Validity.{IsValid}

-- the replies that a partition gets to some lines from a stored state on, where the reads of the
-- failed lines failed
abbrev pub replies_from : Rows → List ℕ → Durable → ℕ → List Line → List Told
replies_from table failed durable p lines =
    replies_of p (replies_to table failed (start table durable) lines)

-- A partition's own line of number k, counted from 0: it stands at this place of the script, and
-- the own lines before it are those of what stands before it there.
pub record StandsAt (table : Rows) (p : ℕ) (lines : List Line) (k : ℕ) (line : Line) : Type 0 where
  pub place : ℕ
  pub at : slice_get lines place ≡ Some line
  pub before : take k (own_lines table p lines) ≡ own_lines table p (take place lines)

-- a partition's own lines all are its own
abbrev pub OwnLinesAreOwn : Type 0
OwnLinesAreOwn = (table : Rows) (p : ℕ) (lines : List Line)
    → own_lines table p (own_lines table p lines) ≡ own_lines table p lines

-- they are lines of the table where all lines are
abbrev pub OwnLinesAreOfTable : Type 0
OwnLinesAreOfTable = (table : Rows) (p : ℕ) (lines : List Line)
    → AllByRecursion (IsLineOf table) lines → AllByRecursion (IsLineOf table) (own_lines table p lines)

-- each of them stands in the script, and in the same order
abbrev pub OwnLinesStand : Type 0
OwnLinesStand = (table : Rows) (p : ℕ) (lines : List Line) (k : ℕ) (line : Line)
    → slice_get (own_lines table p lines) k ≡ Some line → StandsAt table p lines k line

-- whichever reads fail, a partition gets the same replies with its own lines alone as with all
-- lines
abbrev pub OwnLinesSuffice : Type 0
OwnLinesSuffice = (table : Rows) (failed : List ℕ) (durable : Durable) (p : ℕ) (lines : List Line)
    → IsAccepted table → IsValid table (start table durable) → AllByRecursion (IsLineOf table) lines
    → replies_from table failed durable p (own_lines table p lines)
    ≡ replies_from table failed durable p lines

-- and so before each of its own lines
abbrev pub OwnLinesSufficeBefore : Type 0
OwnLinesSufficeBefore = (table : Rows) (failed : List ℕ) (durable : Durable) (p : ℕ)
    (lines : List Line) (k : ℕ) (line : Line)
    → IsAccepted table → IsValid table (start table durable) → AllByRecursion (IsLineOf table) lines
    → (stands : StandsAt table p lines k line)
    → replies_from table failed durable p (take k (own_lines table p lines))
    ≡ replies_from table failed durable p (take stands.place lines)
