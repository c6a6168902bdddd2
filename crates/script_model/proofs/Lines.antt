-- The lines that a script spells are lines of the table.
use Rattle.std.proofs.Common.{◌≡◌, ℕ, suc, ◌+◌, ◌≤◌, List, [], ◌∷◌, length, arith, rules, codes, inl, inr}
use Rattle.std.proofs.lemmas.Bool.{cases_Bool}
use Rattle.std.proofs.lemmas.List.{length-map}
use Rattle.std.specs.List.{AllByRecursion}
use Rattle.hex.specs.Hex.{IsBytes}
use Rattle.apex_types.specs.Rows.{Rows}
use Rattle.apex_types.specs.declared.calls.Call.{Call}
use Rattle.apex_types.specs.declared.calls.Call.TheVariants.{File, Directory, Logbook, Sampling, SetMode, SetContext}
use Rattle.apex_types.specs.declared.calls.FileCall.{FileCall}
use Rattle.apex_types.specs.declared.calls.FileCall.TheVariants as file
use Rattle.apex_types.specs.declared.calls.LogbookCall.{LogbookCall}
use Rattle.apex_types.specs.declared.calls.LogbookCall.TheVariants as logbook
use Rattle.apex_types.specs.declared.calls.SamplingCall.{SamplingCall}
use Rattle.apex_types.specs.declared.calls.SamplingCall.TheVariants as sampling
use Rattle.apex_types.specs.declared.calls.Deed.{Deed}
use Rattle.apex_types.specs.declared.calls.Deed.TheVariants.{Tick, Partition}
use Rattle.apex_types.specs.declared.calls.Line.{Line}
use Rattle.apex_model.specs.Lines.{FileCallHasBytes, LogbookCallHasBytes, SamplingCallHasBytes, CallHasBytes, IsDeedOf, IsLineOf}
use Rattle.apex_model.specs.Validity.{AreBytes}
use Rattle.script_model.specs.Spelling.{keyword, number, bytes, AreSpelled, partition_name, file_fields, logbook_fields, sampling_fields, call_fields, Spells}
use Rattle.script_model.specs.Script.{is_skipped, line_parts, script_lines, SpellFrom, SpellsScript}

-- each byte is below 256
pub bytes_small : (bs : List ℕ) → IsBytes bs → AreBytes bs
bytes_small [] h = tt
bytes_small (b ∷ bs) h = (h 0, bytes_small bs (λ i. h (suc i)))

-- the data in the third place of a line's words
third_bytes : (name : List ℕ) (id : ℕ) (bs : List ℕ) (ws : List (List ℕ)) → AreSpelled (keyword name ∷ number id ∷ bytes bs ∷ []) ws → AreBytes bs
third_bytes name id bs [] s = absurd s
third_bytes name id bs (a ∷ []) s = absurd s.1
third_bytes name id bs (a ∷ b ∷ []) s = absurd s.1.1
third_bytes name id bs (a ∷ b ∷ c ∷ ws) s = bytes_small bs s.1.1.0.0

file_bytes : (c : FileCall) (ws : List (List ℕ)) → AreSpelled (file_fields c) ws → FileCallHasBytes c
file_bytes (file.WriteFile id bs) ws s = third_bytes (codes "WRITE_FILE") id bs ws s
file_bytes (file.OpenNewFile path) ws s = tt
file_bytes (file.OpenFile path mode) ws s = tt
file_bytes (file.CloseFile id) ws s = tt
file_bytes (file.ReadFile id len) ws s = tt
file_bytes (file.SeekFile id by whence) ws s = tt
file_bytes (file.ResizeFile id size) ws s = tt
file_bytes (file.SyncFile id) ws s = tt
file_bytes (file.RemoveFile path) ws s = tt
file_bytes (file.RenameFile old new) ws s = tt
file_bytes (file.GetFileStatus id) ws s = tt
file_bytes (file.GetVolumeStatus path) ws s = tt

logbook_bytes : (c : LogbookCall) (ws : List (List ℕ)) → AreSpelled (logbook_fields c) ws → LogbookCallHasBytes c
logbook_bytes (logbook.Create name) ws s = tt
logbook_bytes (logbook.Write id bs) ws s = third_bytes (codes "WRITE_LOGBOOK") id bs ws s
logbook_bytes (logbook.Overwrite id bs) ws s = third_bytes (codes "OVERWRITE_LOGBOOK") id bs ws s
logbook_bytes (logbook.Read id count) ws s = tt
logbook_bytes (logbook.Clear id) ws s = tt
logbook_bytes (logbook.GetId name) ws s = tt
logbook_bytes (logbook.GetStatus id) ws s = tt

sampling_bytes : (c : SamplingCall) (ws : List (List ℕ)) → AreSpelled (sampling_fields c) ws → SamplingCallHasBytes c
sampling_bytes (sampling.Create name) ws s = tt
sampling_bytes (sampling.Write id bs) ws s = third_bytes (codes "WRITE_SAMPLING_MESSAGE") id bs ws s
sampling_bytes (sampling.ReadUpdated id) ws s = tt
sampling_bytes (sampling.CurrentStatus id) ws s = tt
sampling_bytes (sampling.ReadConditional id time) ws s = tt

call_bytes : (c : Call) (ws : List (List ℕ)) → AreSpelled (call_fields c) ws → CallHasBytes c
call_bytes (File c) ws s = file_bytes c ws s
call_bytes (Directory c) ws s = tt
call_bytes (Logbook c) ws s = logbook_bytes c ws s
call_bytes (Sampling c) ws s = sampling_bytes c ws s
call_bytes (SetMode mode) ws s = tt
call_bytes (SetContext context) ws s = tt

partition_bytes : (name : List ℕ) (c : Call) (ws : List (List ℕ)) → AreSpelled (keyword name ∷ call_fields c) ws → CallHasBytes c
partition_bytes name c [] s = absurd s
partition_bytes name c (w ∷ ws) s = call_bytes c ws s.1

-- what a text spells is a tick or a call of the table
deed_of_table : (rows : Rows) (text : List ℕ) (d : Deed) → Spells rows text d → IsDeedOf rows d
deed_of_table rows text (Tick n) s = s.of_table
deed_of_table rows text (Partition p c) s = (s.of_table, partition_bytes (partition_name rows p.0) c s.words s.fields)

line_of_table : (rows : Rows) (n : ℕ) (text : List ℕ) (line : Line) → 1 ≤ n → n ≤ 20000 → line.number ≡ n → Spells rows text line.deed → IsLineOf rows line
line_of_table rows n text line low high same s = record { numbered = omega (arith, same); few = omega (arith, same); deed = deed_of_table rows text line.deed s }

all_of_table : (rows : Rows) (first : Line) (rest lines : List Line) → lines ≡ first ∷ rest → IsLineOf rows first → AllByRecursion (IsLineOf rows) rest → AllByRecursion (IsLineOf rows) lines
all_of_table rows first rest lines e h t = rw e (h, t)

spelled_of_table : (rows : Rows) (n : ℕ) (texts : List (List ℕ)) (lines : List Line) → 1 ≤ n → n + length texts ≤ 20001 → SpellFrom rows n texts lines → AllByRecursion (IsLineOf rows) lines
spelled_of_table rows n [] lines low few s = rw s tt
spelled_of_table rows n (text ∷ texts) lines low few s =
    elim (cases_Bool (is_skipped text)) [
      | inl skipped ↦
          let t : SpellFrom rows (suc n) texts lines = rw skipped at s in
          spelled_of_table rows (suc n) texts lines (omega arith) (omega arith) t
      | inr read ↦
          let t : (first : Line) × (rest : List Line) × (lines ≡ first ∷ rest) × (first.number ≡ n) × Spells rows text first.deed × SpellFrom rows (suc n) texts rest = rw read at s in
          all_of_table rows t.0 t.1 lines t.2 (line_of_table rows n text t.0 low (omega arith) t.3 t.4) (spelled_of_table rows (suc n) texts t.1 (omega arith) (omega arith) t.5)
    ]

length_lines : (script : List ℕ) → length (script_lines script) ≡ length (line_parts script)
length_lines script = search (rules, length-map)

pub script_of_table : (rows : Rows) (script : List ℕ) (lines : List Line) → SpellsScript rows script lines → AllByRecursion (IsLineOf rows) lines
script_of_table rows script lines s =
    let len = length_lines script in
    let few = s.short.few_lines in
    spelled_of_table rows 1 (script_lines script) lines (omega arith) (omega (arith, len, few)) s.each
