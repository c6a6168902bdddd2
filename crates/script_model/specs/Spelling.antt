-- How the lines of a script are written down: from a call to its text.
use Rattle.std.specs.Prelude.{◌≡◌, ℕ, suc, ◌+◌, ◌^◌, ◌<◌, ◌≤◌, ℤ, pos, negsuc, Bool, true, ◌&&◌, nat_le, nat_lt, if◌then◌else◌, List, [], ◌∷◌, length, map, slice_index_or, codes, decimal}
use Rattle.std.specs.List.{AllByRecursion, join_with_byte, list_all}
use Rattle.hex.specs.Hex.{IsBytes, encode_lower}
use Rattle.apex_types.specs.Rows.{Rows}
use Rattle.apex_types.specs.declared.calls.OpenMode.{OpenMode}
use Rattle.apex_types.specs.declared.calls.OpenMode.TheVariants.{ReadOnly, ReadWrite}
use Rattle.apex_types.specs.declared.calls.Whence.{Whence}
use Rattle.apex_types.specs.declared.calls.Whence.TheVariants.{Set, Cur, End}
use Rattle.apex_types.specs.declared.calls.Mode.{Mode}
use Rattle.apex_types.specs.declared.calls.Mode.TheVariants.{Idle, ColdStart, WarmStart, Normal}
use Rattle.apex_types.specs.declared.calls.Context.{Context}
use Rattle.apex_types.specs.declared.calls.Context.TheVariants.{Ordinary, Handler, Locked}
use Rattle.apex_types.specs.declared.calls.FileCall.{FileCall}
use Rattle.apex_types.specs.declared.calls.FileCall.TheVariants as file
use Rattle.apex_types.specs.declared.calls.DirCall.{DirCall}
use Rattle.apex_types.specs.declared.calls.DirCall.TheVariants as directory
use Rattle.apex_types.specs.declared.calls.LogbookCall.{LogbookCall}
use Rattle.apex_types.specs.declared.calls.LogbookCall.TheVariants as logbook
use Rattle.apex_types.specs.declared.calls.SamplingCall.{SamplingCall}
use Rattle.apex_types.specs.declared.calls.SamplingCall.TheVariants as sampling
use Rattle.apex_types.specs.declared.calls.Call.{Call}
use Rattle.apex_types.specs.declared.calls.Call.TheVariants.{File, Directory, Logbook, Sampling, SetMode, SetContext}
use Rattle.apex_types.specs.declared.calls.Deed.{Deed}
use Rattle.apex_types.specs.declared.calls.Deed.TheVariants.{Tick, Partition}

-- ---- the words of a line

-- What one word of a line says: a word that is fixed, a path or a name, a number, an offset, or some data.
pub data Field : Type 0 where
  keyword : List ℕ → Field
  word : List ℕ → Field
  number : ℕ → Field
  offset : ℤ → Field
  bytes : List ℕ → Field

-- a capital hexadecimal digit made small
abbrev pub small_digit : ℕ → ℕ
small_digit b = if nat_le 65 b && nat_le b 70 then b + 32 else b

-- some data in small hexadecimal digits, two for each byte, or a dot where there is none
abbrev pub data_text : List ℕ → List ℕ
data_text [] = 46 ∷ []
data_text (b ∷ bs) = encode_lower (b ∷ bs)

-- Whether a word says this. Each has one spelling, but for data, whose digits may be small or capital.
abbrev pub IsSpelled : Field → List ℕ → Type 0
IsSpelled (keyword w) text = text ≡ w
IsSpelled (word w) text = text ≡ w
IsSpelled (number n) text = (n < 2 ^ 32) × (text ≡ decimal n)
IsSpelled (offset (pos n)) text = (n < 2 ^ 32) × (text ≡ decimal n)
IsSpelled (offset (negsuc n)) text = (suc n < 2 ^ 32) × (text ≡ 45 ∷ decimal (suc n))
IsSpelled (bytes bs) text = IsBytes bs × (map small_digit text ≡ data_text bs)

abbrev pub AreSpelled : List Field → List (List ℕ) → Type 0
AreSpelled [] [] = Unit {0}
AreSpelled [] (w ∷ ws) = ⊥
AreSpelled (f ∷ fs) [] = ⊥
AreSpelled (f ∷ fs) (w ∷ ws) = IsSpelled f w × AreSpelled fs ws

-- printable ASCII, without the space
abbrev pub is_word_byte : ℕ → Bool
is_word_byte b = nat_lt 32 b && nat_le b 126

-- a word of a line: one such byte or more
pub record IsWord (w : List ℕ) : Type 0 where
  pub nonempty : 0 < length w
  pub printable : list_all is_word_byte w ≡ true

-- ---- what each call says

abbrev pub open_mode_word : OpenMode → List ℕ
open_mode_word ReadOnly = codes "READ_ONLY"
open_mode_word ReadWrite = codes "READ_WRITE"

abbrev pub whence_word : Whence → List ℕ
whence_word Set = codes "SEEK_SET"
whence_word Cur = codes "SEEK_CUR"
whence_word End = codes "SEEK_END"

abbrev pub mode_word : Mode → List ℕ
mode_word Idle = codes "IDLE"
mode_word ColdStart = codes "COLD_START"
mode_word WarmStart = codes "WARM_START"
mode_word Normal = codes "NORMAL"

abbrev pub context_word : Context → List ℕ
context_word Ordinary = codes "ORDINARY"
context_word Handler = codes "HANDLER"
context_word Locked = codes "LOCKED"

abbrev pub file_fields : FileCall → List Field
file_fields (file.OpenNewFile path) = keyword (codes "OPEN_NEW_FILE") ∷ word path ∷ []
file_fields (file.OpenFile path mode) = keyword (codes "OPEN_FILE") ∷ word path ∷ keyword (open_mode_word mode) ∷ []
file_fields (file.CloseFile id) = keyword (codes "CLOSE_FILE") ∷ number id ∷ []
file_fields (file.ReadFile id len) = keyword (codes "READ_FILE") ∷ number id ∷ number len ∷ []
file_fields (file.WriteFile id bs) = keyword (codes "WRITE_FILE") ∷ number id ∷ bytes bs ∷ []
file_fields (file.SeekFile id by whence) = keyword (codes "SEEK_FILE") ∷ number id ∷ offset by ∷ keyword (whence_word whence) ∷ []
file_fields (file.ResizeFile id size) = keyword (codes "RESIZE_FILE") ∷ number id ∷ number size ∷ []
file_fields (file.SyncFile id) = keyword (codes "SYNC_FILE") ∷ number id ∷ []
file_fields (file.RemoveFile path) = keyword (codes "REMOVE_FILE") ∷ word path ∷ []
file_fields (file.RenameFile old new) = keyword (codes "RENAME_FILE") ∷ word old ∷ word new ∷ []
file_fields (file.GetFileStatus id) = keyword (codes "GET_FILE_STATUS") ∷ number id ∷ []
file_fields (file.GetVolumeStatus path) = keyword (codes "GET_VOLUME_STATUS") ∷ word path ∷ []

abbrev pub directory_fields : DirCall → List Field
directory_fields (directory.OpenDirectory path) = keyword (codes "OPEN_DIRECTORY") ∷ word path ∷ []
directory_fields (directory.CloseDirectory id) = keyword (codes "CLOSE_DIRECTORY") ∷ number id ∷ []
directory_fields (directory.ReadDirectory id) = keyword (codes "READ_DIRECTORY") ∷ number id ∷ []
directory_fields (directory.RewindDirectory id) = keyword (codes "REWIND_DIRECTORY") ∷ number id ∷ []
directory_fields (directory.MakeDirectory path) = keyword (codes "MAKE_DIRECTORY") ∷ word path ∷ []
directory_fields (directory.RemoveDirectory path) = keyword (codes "REMOVE_DIRECTORY") ∷ word path ∷ []
directory_fields (directory.SyncDirectory id) = keyword (codes "SYNC_DIRECTORY") ∷ number id ∷ []

abbrev pub logbook_fields : LogbookCall → List Field
logbook_fields (logbook.Create name) = keyword (codes "CREATE_LOGBOOK") ∷ word name ∷ []
logbook_fields (logbook.Write id bs) = keyword (codes "WRITE_LOGBOOK") ∷ number id ∷ bytes bs ∷ []
logbook_fields (logbook.Overwrite id bs) = keyword (codes "OVERWRITE_LOGBOOK") ∷ number id ∷ bytes bs ∷ []
logbook_fields (logbook.Read id count) = keyword (codes "READ_LOGBOOK") ∷ number id ∷ number count ∷ []
logbook_fields (logbook.Clear id) = keyword (codes "CLEAR_LOGBOOK") ∷ number id ∷ []
logbook_fields (logbook.GetId name) = keyword (codes "GET_LOGBOOK_ID") ∷ word name ∷ []
logbook_fields (logbook.GetStatus id) = keyword (codes "GET_LOGBOOK_STATUS") ∷ number id ∷ []

abbrev pub sampling_fields : SamplingCall → List Field
sampling_fields (sampling.Create name) = keyword (codes "CREATE_SAMPLING_PORT") ∷ word name ∷ []
sampling_fields (sampling.Write id bs) = keyword (codes "WRITE_SAMPLING_MESSAGE") ∷ number id ∷ bytes bs ∷ []
sampling_fields (sampling.ReadUpdated id) = keyword (codes "READ_UPDATED_SAMPLING_MESSAGE") ∷ number id ∷ []
sampling_fields (sampling.CurrentStatus id) = keyword (codes "GET_SAMPLING_PORT_CURRENT_STATUS") ∷ number id ∷ []
sampling_fields (sampling.ReadConditional id time) = keyword (codes "READ_SAMPLING_MESSAGE_CONDITIONAL") ∷ number id ∷ number time ∷ []

abbrev pub call_fields : Call → List Field
call_fields (File call) = file_fields call
call_fields (Directory call) = directory_fields call
call_fields (Logbook call) = logbook_fields call
call_fields (Sampling call) = sampling_fields call
call_fields (SetMode mode) = keyword (codes "MODE") ∷ keyword (mode_word mode) ∷ []
call_fields (SetContext context) = keyword (codes "CONTEXT") ∷ keyword (context_word context) ∷ []

-- the name of a partition
abbrev pub partition_name : Rows → ℕ → List ℕ
partition_name rows p = slice_index_or (map (λ row. row.name) rows.partitions) p []

abbrev pub deed_fields : Rows → Deed → List Field
deed_fields rows (Tick n) = keyword (codes "TICK") ∷ number n ∷ []
deed_fields rows (Partition p call) = keyword (partition_name rows p.0) ∷ call_fields call

-- a tick of 1 to 100,000, or a call or directive of a partition of the table
abbrev pub IsDeed : Rows → Deed → Type 0
IsDeed rows (Tick n) = (1 ≤ n) × (n ≤ 100000)
IsDeed rows (Partition p call) = p.0 < length rows.partitions

-- The text says this: its words say the parts one after the other, with single spaces between them.
pub record Spells (rows : Rows) (text : List ℕ) (deed : Deed) : Type 0 where
  pub words : List (List ℕ)
  pub joined : text ≡ join_with_byte 32 words
  pub each : AllByRecursion IsWord words
  pub fields : AreSpelled (deed_fields rows deed) words
  pub of_table : IsDeed rows deed

-- ---- the partitions of a table that was accepted

-- The names of the partitions are words, none is TICK, and they differ.
pub record HasNames (rows : Rows) : Type 0 where
  pub words : (p : ℕ) → p < length rows.partitions → IsWord (partition_name rows p)
  pub ticks : (p : ℕ) → p < length rows.partitions → partition_name rows p ≡ codes "TICK" → ⊥
  pub differ : (p q : ℕ) → p < length rows.partitions → q < length rows.partitions → partition_name rows p ≡ partition_name rows q → p ≡ q

-- what a script needs of its table
pub record IsReady (rows : Rows) : Type 0 where
  pub names : HasNames rows
  pub few : length rows.partitions ≤ 16
