-- The words of a command.
use Rattle.std.specs.Prelude.{ℕ, List, [], ◌∷◌, Option, Some, None, nat_le, codes, bytes_eq, if◌then◌else◌}
use Rattle.apex_types.specs.Naming.{is_table_name}
use Rattle.script_model.specs.Reading.{number_of}
use Rattle.apex_host.specs.declared.command.Command.{Command}
use Rattle.apex_host.specs.declared.command.Command.TheVariants.{Format, Run, Only, Check, Stress, Sweep}

-- the command that one word is
abbrev pub command_of_word : List ℕ → Option Command
command_of_word word =
    if bytes_eq word (codes "format") then Some Format
    else if bytes_eq word (codes "run") then Some Run
    else if bytes_eq word (codes "check") then Some Check
    else if bytes_eq word (codes "sweep") then Some Sweep
    else None

-- the command that a word and a name of a partition are
abbrev pub command_of_name : List ℕ → List ℕ → Option Command
command_of_name word name =
    if bytes_eq word (codes "only") then (if is_table_name name then Some (Only name) else None)
    else None

-- a load of at most 20,000 lines from a seed, where both are numbers
abbrev pub load_of : Option ℕ → Option ℕ → Option Command
load_of (Some seed) (Some count) = if nat_le count 20000 then Some (Stress seed count) else None
load_of _ _ = None

-- the command that a word, a seed and a count of lines are
abbrev pub command_of_load : List ℕ → List ℕ → List ℕ → Option Command
command_of_load word seed count =
    if bytes_eq word (codes "stress") then load_of (number_of seed) (number_of count) else None

-- the command that the words are
abbrev pub command_of_words : List (List ℕ) → Option Command
command_of_words [] = None
command_of_words (word ∷ []) = command_of_word word
command_of_words (word ∷ name ∷ []) = command_of_name word name
command_of_words (word ∷ seed ∷ count ∷ []) = command_of_load word seed count
command_of_words (word ∷ seed ∷ count ∷ next ∷ words) = None
