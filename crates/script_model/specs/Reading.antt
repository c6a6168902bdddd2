-- Reading the words of a line, with the first fault.
use Rattle.std.specs.Prelude.{ℕ, ◌^◌, ℤ, pos, neg_ℤ, Bool, not, ◌&&◌, nat_le, nat_lt, ◌==◌, if◌then◌else◌, List, [], ◌∷◌, length, slice_index, codes, bytes_eq, Option, Some, None, Result, Ok, Err, position, option_map}
use Rattle.std.specs.List.{list_all, slice_split}
use Rattle.std.specs.Char.{is_ascii_digit}
use Rattle.std.specs.Str.Parse.{digits_value}
use Rattle.hex.specs.Hex.{decode_of}
use Rattle.hex.specs.declared.error.FromHexError.{FromHexError}
use Rattle.apex_types.specs.Rows.{Rows}
use Rattle.script_model.specs.declared.faults.LineFault.{LineFault}
use Rattle.script_model.specs.declared.faults.LineFault.TheVariants.{OutOfMemory, NotAscii, UnknownPartition, UnknownCall, WrongArguments, BadNumber, BadData}
use Rattle.apex_types.specs.declared.calls.OpenMode.{OpenMode}
use Rattle.apex_types.specs.declared.calls.OpenMode.TheVariants.{ReadOnly, ReadWrite}
use Rattle.apex_types.specs.declared.calls.Whence.{Whence}
use Rattle.apex_types.specs.declared.calls.Whence.TheVariants.{Set, Cur, End}
use Rattle.apex_types.specs.declared.calls.Mode.{Mode}
use Rattle.apex_types.specs.declared.calls.Mode.TheVariants.{Idle, ColdStart, WarmStart, Normal}
use Rattle.apex_types.specs.declared.calls.Context.{Context}
use Rattle.apex_types.specs.declared.calls.Context.TheVariants.{Ordinary, Handler, Locked}
use Rattle.apex_types.specs.declared.calls.FileCall.{FileCall}
use Rattle.apex_types.specs.declared.calls.FileCall.TheVariants as file
use Rattle.script_model.specs.declared.verbs.FileVerb.{FileVerb}
use Rattle.script_model.specs.declared.verbs.FileVerb.TheVariants as file_verb
use Rattle.apex_types.specs.declared.calls.DirCall.{DirCall}
use Rattle.apex_types.specs.declared.calls.DirCall.TheVariants as directory
use Rattle.script_model.specs.declared.verbs.DirectoryVerb.{DirectoryVerb}
use Rattle.script_model.specs.declared.verbs.DirectoryVerb.TheVariants as directory_verb
use Rattle.apex_types.specs.declared.calls.LogbookCall.{LogbookCall}
use Rattle.apex_types.specs.declared.calls.LogbookCall.TheVariants as logbook
use Rattle.script_model.specs.declared.verbs.LogbookVerb.{LogbookVerb}
use Rattle.script_model.specs.declared.verbs.LogbookVerb.TheVariants as logbook_verb
use Rattle.apex_types.specs.declared.calls.SamplingCall.{SamplingCall}
use Rattle.apex_types.specs.declared.calls.SamplingCall.TheVariants as sampling
use Rattle.script_model.specs.declared.verbs.SamplingVerb.{SamplingVerb}
use Rattle.script_model.specs.declared.verbs.SamplingVerb.TheVariants as sampling_verb
use Rattle.script_model.specs.declared.verbs.Verb.{Verb}
use Rattle.script_model.specs.declared.verbs.Verb.TheVariants as verbs
use Rattle.apex_types.specs.declared.calls.Call.{Call}
use Rattle.apex_types.specs.declared.calls.Call.TheVariants.{File, Directory, Logbook, Sampling, SetMode, SetContext}
use Rattle.apex_types.specs.declared.calls.Deed.{Deed}
use Rattle.apex_types.specs.declared.calls.Deed.TheVariants.{Tick, Partition}

infixl 10 ◌>>=◌
abbrev pub ◌>>=◌ : {A B E : Type 0} → Result A E → (A → Result B E) → Result B E
(Ok x) >>= f = f x
(Err e) >>= f = Err e

-- ---- one word

-- an empty word is a wrong argument, whatever was to stand there
abbrev pub filled : {A : Type 0} → List ℕ → Result A LineFault → Result A LineFault
filled [] read = Err WrongArguments
filled (b ∷ bs) read = read

abbrev pub word_at : List ℕ → Result (List ℕ) LineFault
word_at w = filled w (Ok w)

-- no zero before other digits
abbrev pub has_leading_zero : List ℕ → Bool
has_leading_zero w = (slice_index w 0 == 48) && not (length w == 1)

-- `0`, or one to ten digits without a leading zero, at most 4,294,967,295
unfoldable pub number_of : List ℕ → Option ℕ
number_of w =
    if length w == 0 then None
    else if nat_lt 10 (length w) then None
    else if not (list_all is_ascii_digit w) then None
    else if has_leading_zero w then None
    else if nat_lt (digits_value 10 w) (2 ^ 32) then Some (digits_value 10 w)
    else None

abbrev pub or_fault : {A : Type 0} → LineFault → Option A → Result A LineFault
or_fault fault None = Err fault
or_fault fault (Some x) = Ok x

abbrev pub number_at : List ℕ → Result ℕ LineFault
number_at w = filled w (or_fault BadNumber (number_of w))

-- the number after a minus sign, which isn't 0
abbrev pub negated : Option ℕ → Option ℤ
negated None = None
negated (Some n) = if n == 0 then None else Some (neg_ℤ (pos n))

abbrev pub positive : Option ℕ → Option ℤ
positive None = None
positive (Some n) = Some (pos n)

abbrev pub offset_of : List ℕ → Option ℤ
offset_of [] = None
offset_of (b ∷ w) = if b == 45 then negated (number_of w) else positive (number_of (b ∷ w))

abbrev pub offset_at : List ℕ → Result ℤ LineFault
offset_at w = filled w (or_fault BadNumber (offset_of w))

abbrev pub data_or_fault : Result (List ℕ) FromHexError → Result (List ℕ) LineFault
data_or_fault (Ok bytes) = Ok bytes
data_or_fault (Err e) = Err BadData

abbrev pub data_at : List ℕ → Result (List ℕ) LineFault
data_at w = filled w (if bytes_eq w (codes ".") then Ok [] else data_or_fault (decode_of w))

-- what a word stands for in a list of words and meanings
abbrev pub find_word : {A : Type 0} → List (List ℕ × A) → List ℕ → Option A
find_word [] w = None
find_word (e ∷ es) w = if bytes_eq w e.0 then Some e.1 else find_word es w

abbrev pub open_modes : List (List ℕ × OpenMode)
open_modes = (codes "READ_ONLY", ReadOnly) ∷ (codes "READ_WRITE", ReadWrite) ∷ []

abbrev pub whences : List (List ℕ × Whence)
whences = (codes "SEEK_SET", Set) ∷ (codes "SEEK_CUR", Cur) ∷ (codes "SEEK_END", End) ∷ []

abbrev pub modes : List (List ℕ × Mode)
modes = (codes "IDLE", Idle) ∷ (codes "COLD_START", ColdStart) ∷ (codes "WARM_START", WarmStart) ∷ (codes "NORMAL", Normal) ∷ []

abbrev pub open_mode_at : List ℕ → Result OpenMode LineFault
open_mode_at w = or_fault WrongArguments (find_word open_modes w)

abbrev pub whence_at : List ℕ → Result Whence LineFault
whence_at w = or_fault WrongArguments (find_word whences w)

abbrev pub mode_at : List ℕ → Result Mode LineFault
mode_at w = or_fault WrongArguments (find_word modes w)

abbrev pub contexts : List (List ℕ × Context)
contexts = (codes "ORDINARY", Ordinary) ∷ (codes "HANDLER", Handler) ∷ (codes "LOCKED", Locked) ∷ []

abbrev pub context_at : List ℕ → Result Context LineFault
context_at w = or_fault WrongArguments (find_word contexts w)

-- ---- the words of a call

abbrev pub rank : LineFault → ℕ
rank OutOfMemory = 0
rank NotAscii = 2
rank UnknownPartition = 3
rank UnknownCall = 4
rank WrongArguments = 5
rank BadNumber = 6
rank BadData = 7

-- of two faults the one that is listed first
abbrev pub earlier : LineFault → LineFault → LineFault
earlier f g = if nat_le (rank f) (rank g) then f else g

-- two words read, or the first of their faults
abbrev pub both : {A B : Type 0} → Result A LineFault → Result B LineFault → Result (A × B) LineFault
both (Ok a) (Ok b) = Ok (a, b)
both (Ok a) (Err g) = Err g
both (Err f) (Ok b) = Err f
both (Err f) (Err g) = Err (earlier f g)

-- just one word, just two, just three
abbrev pub only_one : List (List ℕ) → Result (List ℕ) LineFault
only_one [] = Err WrongArguments
only_one (a ∷ []) = Ok a
only_one (a ∷ b ∷ more) = Err WrongArguments

abbrev pub only_two : List (List ℕ) → Result (List ℕ × List ℕ) LineFault
only_two [] = Err WrongArguments
only_two (a ∷ []) = Err WrongArguments
only_two (a ∷ b ∷ []) = Ok (a, b)
only_two (a ∷ b ∷ c ∷ more) = Err WrongArguments

abbrev pub only_three : List (List ℕ) → Result (List ℕ × List ℕ × List ℕ) LineFault
only_three [] = Err WrongArguments
only_three (a ∷ []) = Err WrongArguments
only_three (a ∷ b ∷ []) = Err WrongArguments
only_three (a ∷ b ∷ c ∷ []) = Ok (a, b, c)
only_three (a ∷ b ∷ c ∷ d ∷ more) = Err WrongArguments

-- one word read, two and three
abbrev pub one_word : {A : Type 0} → (List ℕ → Result A LineFault) → List (List ℕ) → Result A LineFault
one_word read ws = only_one ws >>= read

abbrev pub two_words : {A B : Type 0} → (List ℕ → Result A LineFault) → (List ℕ → Result B LineFault) → List (List ℕ) → Result (A × B) LineFault
two_words read_a read_b ws = only_two ws >>= λ w. both (read_a w.0) (read_b w.1)

abbrev pub three_words : {A B C : Type 0} → (List ℕ → Result A LineFault) → (List ℕ → Result B LineFault) → (List ℕ → Result C LineFault) → List (List ℕ) → Result ((A × B) × C) LineFault
three_words read_a read_b read_c ws = only_three ws >>= λ w. both (both (read_a w.0) (read_b w.1)) (read_c w.2)

-- a form of one word, of two and of three, and what is made of them
abbrev pub one : {A C : Type 0} → (List ℕ → Result A LineFault) → (A → C) → List (List ℕ) → Result C LineFault
one read make ws = one_word read ws >>= λ x. Ok (make x)

abbrev pub two : {A B C : Type 0} → (List ℕ → Result A LineFault) → (List ℕ → Result B LineFault) → (A → B → C) → List (List ℕ) → Result C LineFault
two read_a read_b make ws = two_words read_a read_b ws >>= λ x. Ok (make x.0 x.1)

abbrev pub three : {A B C D : Type 0} → (List ℕ → Result A LineFault) → (List ℕ → Result B LineFault) → (List ℕ → Result C LineFault) → (A → B → C → D) → List (List ℕ) → Result D LineFault
three read_a read_b read_c make ws = three_words read_a read_b read_c ws >>= λ x. Ok (make x.0.0 x.0.1 x.1)

-- the words of the calls, and their arguments
abbrev pub file_verbs : List (List ℕ × FileVerb)
file_verbs =
    (codes "OPEN_NEW_FILE", file_verb.OpenNewFile)
    ∷ (codes "OPEN_FILE", file_verb.OpenFile)
    ∷ (codes "CLOSE_FILE", file_verb.CloseFile)
    ∷ (codes "READ_FILE", file_verb.ReadFile)
    ∷ (codes "WRITE_FILE", file_verb.WriteFile)
    ∷ (codes "SEEK_FILE", file_verb.SeekFile)
    ∷ (codes "RESIZE_FILE", file_verb.ResizeFile)
    ∷ (codes "SYNC_FILE", file_verb.SyncFile)
    ∷ (codes "REMOVE_FILE", file_verb.RemoveFile)
    ∷ (codes "RENAME_FILE", file_verb.RenameFile)
    ∷ (codes "GET_FILE_STATUS", file_verb.GetFileStatus)
    ∷ (codes "GET_VOLUME_STATUS", file_verb.GetVolumeStatus)
    ∷ []

unfoldable pub file_arguments : FileVerb → List (List ℕ) → Result FileCall LineFault
file_arguments file_verb.OpenNewFile = one word_at (λ path. file.OpenNewFile path)
file_arguments file_verb.OpenFile = two word_at open_mode_at (λ path mode. file.OpenFile path mode)
file_arguments file_verb.CloseFile = one number_at (λ id. file.CloseFile id)
file_arguments file_verb.ReadFile = two number_at number_at (λ id len. file.ReadFile id len)
file_arguments file_verb.WriteFile = two number_at data_at (λ id bs. file.WriteFile id bs)
file_arguments file_verb.SeekFile = three number_at offset_at whence_at (λ id by whence. file.SeekFile id by whence)
file_arguments file_verb.ResizeFile = two number_at number_at (λ id size. file.ResizeFile id size)
file_arguments file_verb.SyncFile = one number_at (λ id. file.SyncFile id)
file_arguments file_verb.RemoveFile = one word_at (λ path. file.RemoveFile path)
file_arguments file_verb.RenameFile = two word_at word_at (λ old new. file.RenameFile old new)
file_arguments file_verb.GetFileStatus = one number_at (λ id. file.GetFileStatus id)
file_arguments file_verb.GetVolumeStatus = one word_at (λ path. file.GetVolumeStatus path)

abbrev pub directory_verbs : List (List ℕ × DirectoryVerb)
directory_verbs =
    (codes "OPEN_DIRECTORY", directory_verb.OpenDirectory)
    ∷ (codes "CLOSE_DIRECTORY", directory_verb.CloseDirectory)
    ∷ (codes "READ_DIRECTORY", directory_verb.ReadDirectory)
    ∷ (codes "REWIND_DIRECTORY", directory_verb.RewindDirectory)
    ∷ (codes "MAKE_DIRECTORY", directory_verb.MakeDirectory)
    ∷ (codes "REMOVE_DIRECTORY", directory_verb.RemoveDirectory)
    ∷ (codes "SYNC_DIRECTORY", directory_verb.SyncDirectory)
    ∷ []

unfoldable pub directory_arguments : DirectoryVerb → List (List ℕ) → Result DirCall LineFault
directory_arguments directory_verb.OpenDirectory = one word_at (λ path. directory.OpenDirectory path)
directory_arguments directory_verb.CloseDirectory = one number_at (λ id. directory.CloseDirectory id)
directory_arguments directory_verb.ReadDirectory = one number_at (λ id. directory.ReadDirectory id)
directory_arguments directory_verb.RewindDirectory = one number_at (λ id. directory.RewindDirectory id)
directory_arguments directory_verb.MakeDirectory = one word_at (λ path. directory.MakeDirectory path)
directory_arguments directory_verb.RemoveDirectory = one word_at (λ path. directory.RemoveDirectory path)
directory_arguments directory_verb.SyncDirectory = one number_at (λ id. directory.SyncDirectory id)

abbrev pub logbook_verbs : List (List ℕ × LogbookVerb)
logbook_verbs =
    (codes "CREATE_LOGBOOK", logbook_verb.Create)
    ∷ (codes "WRITE_LOGBOOK", logbook_verb.Write)
    ∷ (codes "OVERWRITE_LOGBOOK", logbook_verb.Overwrite)
    ∷ (codes "READ_LOGBOOK", logbook_verb.Read)
    ∷ (codes "CLEAR_LOGBOOK", logbook_verb.Clear)
    ∷ (codes "GET_LOGBOOK_ID", logbook_verb.GetId)
    ∷ (codes "GET_LOGBOOK_STATUS", logbook_verb.GetStatus)
    ∷ []

unfoldable pub logbook_arguments : LogbookVerb → List (List ℕ) → Result LogbookCall LineFault
logbook_arguments logbook_verb.Create = one word_at (λ name. logbook.Create name)
logbook_arguments logbook_verb.Write = two number_at data_at (λ id bs. logbook.Write id bs)
logbook_arguments logbook_verb.Overwrite = two number_at data_at (λ id bs. logbook.Overwrite id bs)
logbook_arguments logbook_verb.Read = two number_at number_at (λ id count. logbook.Read id count)
logbook_arguments logbook_verb.Clear = one number_at (λ id. logbook.Clear id)
logbook_arguments logbook_verb.GetId = one word_at (λ name. logbook.GetId name)
logbook_arguments logbook_verb.GetStatus = one number_at (λ id. logbook.GetStatus id)

abbrev pub sampling_verbs : List (List ℕ × SamplingVerb)
sampling_verbs =
    (codes "CREATE_SAMPLING_PORT", sampling_verb.Create)
    ∷ (codes "WRITE_SAMPLING_MESSAGE", sampling_verb.Write)
    ∷ (codes "READ_UPDATED_SAMPLING_MESSAGE", sampling_verb.ReadUpdated)
    ∷ (codes "GET_SAMPLING_PORT_CURRENT_STATUS", sampling_verb.CurrentStatus)
    ∷ (codes "READ_SAMPLING_MESSAGE_CONDITIONAL", sampling_verb.ReadConditional)
    ∷ []

unfoldable pub sampling_arguments : SamplingVerb → List (List ℕ) → Result SamplingCall LineFault
sampling_arguments sampling_verb.Create = one word_at (λ name. sampling.Create name)
sampling_arguments sampling_verb.Write = two number_at data_at (λ id bs. sampling.Write id bs)
sampling_arguments sampling_verb.ReadUpdated = one number_at (λ id. sampling.ReadUpdated id)
sampling_arguments sampling_verb.CurrentStatus = one number_at (λ id. sampling.CurrentStatus id)
sampling_arguments sampling_verb.ReadConditional = two number_at number_at (λ id time. sampling.ReadConditional id time)

abbrev pub directive_verbs : List (List ℕ × Verb)
directive_verbs = (codes "MODE", verbs.Mode) ∷ (codes "CONTEXT", verbs.Context) ∷ []

abbrev pub or_else : {A : Type 0} → Option A → Option A → Option A
or_else (Some x) o = Some x
or_else None o = o

-- the call or directive of a word
unfoldable pub verb_at : List ℕ → Option Verb
verb_at w =
    or_else (option_map verbs.File (find_word file_verbs w))
    (or_else (option_map verbs.Directory (find_word directory_verbs w))
    (or_else (option_map verbs.Logbook (find_word logbook_verbs w))
    (or_else (option_map verbs.Sampling (find_word sampling_verbs w)) (find_word directive_verbs w))))

-- the arguments of each
unfoldable pub arguments_at : Verb → List (List ℕ) → Result Call LineFault
arguments_at (verbs.File verb) ws = file_arguments verb ws >>= λ call. Ok (File call)
arguments_at (verbs.Directory verb) ws = directory_arguments verb ws >>= λ call. Ok (Directory call)
arguments_at (verbs.Logbook verb) ws = logbook_arguments verb ws >>= λ call. Ok (Logbook call)
arguments_at (verbs.Sampling verb) ws = sampling_arguments verb ws >>= λ call. Ok (Sampling call)
arguments_at verbs.Mode ws = one mode_at SetMode ws
arguments_at verbs.Context ws = one context_at SetContext ws

-- a call or directive by its words: its own word, and its arguments
unfoldable pub call_at : List (List ℕ) → Result Call LineFault
call_at [] = Err UnknownCall
call_at (w ∷ ws) = or_fault UnknownCall (verb_at w) >>= λ verb. arguments_at verb ws

-- ---- a line

-- a number of ticks, from 1 to 100,000
abbrev pub ticks_at : List ℕ → Result ℕ LineFault
ticks_at w = number_at w >>= λ n. if nat_le 1 n && nat_le n 100000 then Ok n else Err BadNumber

abbrev pub partition_at : Rows → List ℕ → Option ℕ
partition_at rows w = position (λ row. bytes_eq row.name w) rows.partitions

unfoldable pub deed_from_words : Rows → List (List ℕ) → Result Deed LineFault
deed_from_words rows [] = Err UnknownPartition
deed_from_words rows (w ∷ ws) =
    if bytes_eq w (codes "TICK") then one ticks_at Tick ws
    else (or_fault UnknownPartition (partition_at rows w) >>= λ p. call_at ws >>= λ call. Ok (Partition (record { 0 = p }) call))

abbrev pub words_of : List ℕ → List (List ℕ)
words_of text = slice_split (λ b. b == 32) text

abbrev pub is_printable : ℕ → Bool
is_printable b = nat_le 32 b && nat_le b 126

unfoldable pub deed_at : Rows → List ℕ → Result Deed LineFault
deed_at rows text = if list_all is_printable text then deed_from_words rows (words_of text) else Err NotAscii
