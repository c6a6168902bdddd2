-- Which conditions of refusal hold of a line of a script: for each number, whether it holds.
use Rattle.std.specs.Prelude.{◌≡◌, ◌<◌, ℕ, Bool, true, false, not, ◌&&◌, ◌||◌, ◌==◌, nat_le, if◌then◌else◌, List, [], ◌∷◌, map, codes, bytes_eq, Option, Some, None, Result, Ok, Err, is_some, is_ok}
use Rattle.std.specs.List.{list_any, list_all}
use Rattle.hex.specs.Hex.{decode_of}
use Rattle.apex_types.specs.Rows.{Rows}
use Rattle.script_model.specs.declared.faults.LineFault.{LineFault}
use Rattle.script_model.specs.declared.verbs.FileVerb.{FileVerb}
use Rattle.script_model.specs.declared.verbs.FileVerb.TheVariants as file_verb
use Rattle.script_model.specs.declared.verbs.DirectoryVerb.{DirectoryVerb}
use Rattle.script_model.specs.declared.verbs.DirectoryVerb.TheVariants as directory_verb
use Rattle.script_model.specs.declared.verbs.LogbookVerb.{LogbookVerb}
use Rattle.script_model.specs.declared.verbs.LogbookVerb.TheVariants as logbook_verb
use Rattle.script_model.specs.declared.verbs.SamplingVerb.{SamplingVerb}
use Rattle.script_model.specs.declared.verbs.SamplingVerb.TheVariants as sampling_verb
use Rattle.script_model.specs.declared.verbs.Verb.{Verb}
use Rattle.script_model.specs.declared.verbs.Verb.TheVariants as verbs
use Rattle.script_model.specs.Reading.{rank, number_of, offset_of, verb_at, partition_at, words_of, is_printable, open_modes, whences, modes, contexts}

-- ---- the arguments of each call

-- What may stand in an argument's place.
pub data Kind : Type 0 where
  path : Kind
  number : Kind
  ticks : Kind
  offset : Kind
  data_bytes : Kind
  keyword : List (List ℕ) → Kind

-- the words of a list of words and meanings
abbrev pub words_in : {A : Type 0} → List (List ℕ × A) → List (List ℕ)
words_in entries = map (λ e. e.0) entries

abbrev pub file_kinds : FileVerb → List Kind
file_kinds file_verb.OpenNewFile = path ∷ []
file_kinds file_verb.OpenFile = path ∷ keyword (words_in open_modes) ∷ []
file_kinds file_verb.CloseFile = number ∷ []
file_kinds file_verb.ReadFile = number ∷ number ∷ []
file_kinds file_verb.WriteFile = number ∷ data_bytes ∷ []
file_kinds file_verb.SeekFile = number ∷ offset ∷ keyword (words_in whences) ∷ []
file_kinds file_verb.ResizeFile = number ∷ number ∷ []
file_kinds file_verb.SyncFile = number ∷ []
file_kinds file_verb.RemoveFile = path ∷ []
file_kinds file_verb.RenameFile = path ∷ path ∷ []
file_kinds file_verb.GetFileStatus = number ∷ []
file_kinds file_verb.GetVolumeStatus = path ∷ []

abbrev pub directory_kinds : DirectoryVerb → List Kind
directory_kinds directory_verb.OpenDirectory = path ∷ []
directory_kinds directory_verb.CloseDirectory = number ∷ []
directory_kinds directory_verb.ReadDirectory = number ∷ []
directory_kinds directory_verb.RewindDirectory = number ∷ []
directory_kinds directory_verb.MakeDirectory = path ∷ []
directory_kinds directory_verb.RemoveDirectory = path ∷ []
directory_kinds directory_verb.SyncDirectory = number ∷ []

abbrev pub logbook_kinds : LogbookVerb → List Kind
logbook_kinds logbook_verb.Create = path ∷ []
logbook_kinds logbook_verb.Write = number ∷ data_bytes ∷ []
logbook_kinds logbook_verb.Overwrite = number ∷ data_bytes ∷ []
logbook_kinds logbook_verb.Read = number ∷ number ∷ []
logbook_kinds logbook_verb.Clear = number ∷ []
logbook_kinds logbook_verb.GetId = path ∷ []
logbook_kinds logbook_verb.GetStatus = number ∷ []

abbrev pub sampling_kinds : SamplingVerb → List Kind
sampling_kinds sampling_verb.Create = path ∷ []
sampling_kinds sampling_verb.Write = number ∷ data_bytes ∷ []
sampling_kinds sampling_verb.ReadUpdated = number ∷ []
sampling_kinds sampling_verb.CurrentStatus = number ∷ []
sampling_kinds sampling_verb.ReadConditional = number ∷ number ∷ []

abbrev pub kinds_of : Verb → List Kind
kinds_of (verbs.File verb) = file_kinds verb
kinds_of (verbs.Directory verb) = directory_kinds verb
kinds_of (verbs.Logbook verb) = logbook_kinds verb
kinds_of (verbs.Sampling verb) = sampling_kinds verb
kinds_of verbs.Mode = keyword (words_in modes) ∷ []
kinds_of verbs.Context = keyword (words_in contexts) ∷ []

-- ---- at one word

-- the number is of 1 to 100,000
abbrev pub is_ticks : Option ℕ → Bool
is_ticks None = false
is_ticks (Some n) = nat_le 1 n && nat_le n 100000

-- a dot, or pairs of hexadecimal digits
abbrev pub is_data : List ℕ → Bool
is_data w = bytes_eq w (codes ".") || is_ok (decode_of w)

-- 5: the keyword isn't one of these; 6: the number or the offset isn't spelled so; 7: the data isn't
abbrev pub kind_fails : ℕ → Kind → List ℕ → Bool
kind_fails n path w = false
kind_fails n number w = (n == 6) && not (is_some (number_of w))
kind_fails n ticks w = (n == 6) && not (is_ticks (number_of w))
kind_fails n offset w = (n == 6) && not (is_some (offset_of w))
kind_fails n data_bytes w = (n == 7) && not (is_data w)
kind_fails n (keyword words) w = (n == 5) && not (list_any (λ k. bytes_eq w k) words)

-- 5: the word is empty
abbrev pub word_fails : ℕ → Kind → List ℕ → Bool
word_fails n kind [] = n == 5
word_fails n kind (b ∷ w) = kind_fails n kind (b ∷ w)

-- ---- in a line

-- 5: another number of words
abbrev pub words_fail : ℕ → List Kind → List (List ℕ) → Bool
words_fail n [] [] = false
words_fail n [] (w ∷ ws) = n == 5
words_fail n (kind ∷ kinds) [] = n == 5
words_fail n (kind ∷ kinds) (w ∷ ws) = word_fails n kind w || words_fail n kinds ws

-- 4: the second word is missing, or no call or directive
abbrev pub verb_fails : ℕ → Option Verb → List (List ℕ) → Bool
verb_fails n None ws = n == 4
verb_fails n (Some verb) ws = words_fail n (kinds_of verb) ws

abbrev pub call_fails : ℕ → List (List ℕ) → Bool
call_fails n [] = n == 4
call_fails n (w ∷ ws) = verb_fails n (verb_at w) ws

-- 3: the first word is neither TICK nor a partition
abbrev pub words_of_line_fail : Rows → ℕ → List (List ℕ) → Bool
words_of_line_fail rows n [] = n == 3
words_of_line_fail rows n (w ∷ ws) =
    if bytes_eq w (codes "TICK") then words_fail n (ticks ∷ []) ws
    else (((n == 3) && not (is_some (partition_at rows w))) || call_fails n ws)

-- 2: a byte that isn't printable ASCII
unfoldable pub line_fails : Rows → ℕ → List ℕ → Bool
line_fails rows n text = ((n == 2) && not (list_all is_printable text)) || words_of_line_fail rows n (words_of text)

-- ---- the first condition

-- a part is read where no condition holds of it, and refused for the first that does; none below lowest ever holds
pub record FirstFault {A : Type 0} (lowest : ℕ) (read : Result A LineFault) (fails : ℕ → Bool) : Type 0 where
  pub low : (m : ℕ) → m < lowest → fails m ≡ false
  pub ok : (x : A) → read ≡ Ok x → (n : ℕ) → fails n ≡ false
  pub err : (e : LineFault) → read ≡ Err e → (fails (rank e) ≡ true) × ((m : ℕ) → m < rank e → fails m ≡ false)
