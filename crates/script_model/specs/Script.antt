-- A script: its lines, and their meaning in order.
use Rattle.std.specs.Prelude.{◌≡◌, ◌≤◌, ℕ, suc, ◌-◌, ◌==◌, nat_lt, MatchBool, ◌||◌, Bool, true, if◌then◌else◌, List, [], ◌∷◌, ◌++◌, length, take, map, slice_index, Option, Some, None, option_to_list, Result, Ok, Err}
use Rattle.std.specs.List.{slice_split}
use Rattle.apex_types.specs.Rows.{Rows}
use Rattle.script_model.specs.declared.faults.LineFault.{LineFault}
use Rattle.apex_types.specs.declared.calls.Deed.{Deed}
use Rattle.apex_types.specs.declared.calls.Line.{Line}
use Rattle.script_model.specs.Spelling.{Spells}
use Rattle.script_model.specs.Reading.{◌>>=◌, rank, deed_at}

-- the bytes without b at their end
abbrev pub without_last : ℕ → List ℕ → List ℕ
without_last b bytes = if slice_index bytes (length bytes - 1) == b then take (length bytes - 1) bytes else bytes

-- the texts between line feeds, where a last one ends the last line and begins none
abbrev pub line_parts : List ℕ → List (List ℕ)
line_parts bytes = if length bytes == 0 then [] else slice_split (λ b. b == 10) (without_last 10 bytes)

-- the lines, each without one carriage return at its end
abbrev pub script_lines : List ℕ → List (List ℕ)
script_lines bytes = map (without_last 13) (line_parts bytes)

-- what is refused: the number of the first error that counts, and its line
pub record Refusal : Type 0 where
  pub number : ℕ
  pub line : ℕ

abbrev pub at_line : ℕ → Result Deed LineFault → Result (Option Line) Refusal
at_line n (Ok deed) = Ok (Some (record { number = n; deed = deed }))
at_line n (Err fault) = Err (record { number = rank fault; line = n })

-- an empty line, or one that begins with #
abbrev pub is_skipped : List ℕ → Bool
is_skipped [] = true
is_skipped (b ∷ text) = b == 35

abbrev pub line_at : Rows → ℕ → List ℕ → Result (Option Line) Refusal
line_at rows n text = if is_skipped text then Ok None else at_line n (deed_at rows text)

-- the lines from number n on
unfoldable pub lines_from : Rows → ℕ → List (List ℕ) → Result (List Line) Refusal
lines_from rows n [] = Ok []
lines_from rows n (text ∷ texts) = line_at rows n text >>= λ line. lines_from rows (suc n) texts >>= λ lines. Ok (option_to_list line ++ lines)

-- the lines of a script with their numbers, or the first error
abbrev pub script_of : Rows → List ℕ → Result (List Line) Refusal
script_of rows bytes =
    if nat_lt 1048576 (length bytes) || nat_lt 20000 (length (line_parts bytes)) then Err (record { number = 1; line = 0 })
    else lines_from rows 1 (script_lines bytes)

-- ---- the same from lines to texts

-- The texts from number n on spell the lines: each text that isn't skipped spells its line, which has its number.
abbrev pub SpellFrom : Rows → ℕ → List (List ℕ) → List Line → Type 0
SpellFrom rows n [] lines = lines ≡ []
SpellFrom rows n (text ∷ texts) lines =
    MatchBool (is_skipped text) (SpellFrom rows (suc n) texts lines)
    ((first : Line) × (rest : List Line) × (lines ≡ first ∷ rest) × (first.number ≡ n) × Spells rows text first.deed × SpellFrom rows (suc n) texts rest)

-- at most 1,048,576 bytes and 20,000 lines
pub record IsShort (bytes : List ℕ) : Type 0 where
  pub few_bytes : length bytes ≤ 1048576
  pub few_lines : length (line_parts bytes) ≤ 20000

-- the script spells these lines
pub record SpellsScript (rows : Rows) (bytes : List ℕ) (lines : List Line) : Type 0 where
  pub short : IsShort bytes
  pub each : SpellFrom rows 1 (script_lines bytes) lines
