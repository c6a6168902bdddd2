-- A line keeps a world valid, and so does a cut during it.
use Rattle.std.proofs.Common.{◌≡◌, ℕ, suc, inl, inr, Bool, List, [], ◌∷◌, refl, sym, ap, subst, ◌∙◌, Some, length, arith}
use Rattle.std.specs.Prelude.{slice_set, slice_index_or}
use Rattle.std.proofs.lemmas.List.{length-set}
use Rattle.apex_types.specs.Rows.{Rows}
use Rattle.apex_types.specs.declared.calls.Call.{Call}
use Rattle.apex_types.specs.declared.calls.Call.TheVariants as call
use Rattle.apex_types.specs.declared.calls.Deed.{Deed}
use Rattle.apex_types.specs.declared.calls.Deed.TheVariants as deed
use Rattle.apex_types.specs.declared.calls.Line.{Line}
use Rattle.apex_types.specs.declared.calls.Mode.{Mode}
use Rattle.apex_types.specs.declared.calls.Mode.TheVariants.{Idle, ColdStart, WarmStart, Normal}
use Rattle.apex_model.specs.Accepted.{IsAccepted}
use Rattle.apex_model.specs.Channels.{sampling_step}
use Rattle.apex_model.specs.DirectoryStep.{directory_step}
use Rattle.apex_model.specs.FailedReads.{world_after_line}
use Rattle.apex_model.specs.FileStep.{file_step}
use Rattle.apex_model.specs.Handles.{Handles, OpenedFile, OpenedDirectory, no_handles, handle_at}
use Rattle.apex_model.specs.Laws.{LogbookStepKeepsValid, TickKeepsValid, StepKeepsValid, CutBetweenKeepsValid, CutKeepsValid}
use Rattle.apex_model.specs.Outcomes.{state_after}
use Rattle.apex_model.specs.Tables.{ports}
use Rattle.apex_model.specs.Validity.{HasAllSlots, IsValid}
use Rattle.apex_model.specs.World.{Partition, World, partition_in, is_ready, marks_without, restarted, with_partition, enter_normal, set_mode, with_files, with_ports, call_step, world_after}
use Rattle.apex_model.proofs.FailedReads.{line_stays_or_steps}
use Rattle.apex_model.proofs.Keeps.{state_after-map}
use Rattle.apex_model.proofs.ValidFiles.{index-set}
use Rattle.model_laws.proofs.DirectoryCalls.{directory_call-valid}
use Rattle.model_laws.proofs.FileCalls.{file_call-valid}
use Rattle.model_laws.proofs.Handles.{all-set, no_file, no_directory}
use Rattle.model_laws.proofs.SamplingCalls.{sampling_step-valid}

-- ---- directives

pub marks-length : {R : Type 0} (owner : R → ℕ) (p : ℕ) (rows : List R) (marks : List Bool) → length marks ≡ length rows → length (marks_without owner p rows marks) ≡ length rows
marks-length owner p [] marks h = refl
marks-length owner p (row ∷ rows) [] h = absurd (omega arith)
marks-length owner p (row ∷ rows) (mark ∷ marks) h = ap suc (marks-length owner p rows marks (omega arith))

file-before : (handles : List Handles) (p q id : ℕ) (h : OpenedFile) → handle_at (slice_index_or (slice_set handles p no_handles) q no_handles).files id ≡ Some h
    → handle_at (slice_index_or handles q no_handles).files id ≡ Some h
file-before handles p q id h e = elim (index-set handles p q no_handles no_handles) [
  | inl is ↦ absurd (no_file id h (sym (ap (λ (hs : Handles). handle_at hs.files id) is.0) ∙ e))
  | inr same ↦ sym (ap (λ (hs : Handles). handle_at hs.files id) same) ∙ e
]

directory-before : (handles : List Handles) (p q id : ℕ) (h : OpenedDirectory) → handle_at (slice_index_or (slice_set handles p no_handles) q no_handles).directories id ≡ Some h
    → handle_at (slice_index_or handles q no_handles).directories id ≡ Some h
directory-before handles p q id h e = elim (index-set handles p q no_handles no_handles) [
  | inl is ↦ absurd (no_directory id h (sym (ap (λ (hs : Handles). handle_at hs.directories id) is.0) ∙ e))
  | inr same ↦ sym (ap (λ (hs : Handles). handle_at hs.directories id) same) ∙ e
]

module _ (table : Rows) (w : World) (v : IsValid table w) where
  restarted-valid : (p : ℕ) (mode : Mode) → IsValid table (restarted table w p mode)
  restarted-valid p mode = record {
    files = record {
      trees = v.files.trees;
      partitions = length-set w.files.handles p no_handles ∙ v.files.partitions;
      slots = all-set HasAllSlots w.files.handles p no_handles v.files.slots (record { files = refl; directories = refl });
      files = λ q id h e. v.files.files q id h (file-before w.files.handles p q id h e);
      directories = λ q id h e. v.files.directories q id h (directory-before w.files.handles p q id h e);
      one_writer = λ q a b h k e f. v.files.one_writer q a b h k (file-before w.files.handles p q a h e) (file-before w.files.handles p q b k f);
    };
    logbooks = record { books = v.logbooks.books; created = marks-length (λ row. row.partition.0) p table.logbooks w.logbooks.created v.logbooks.created };
    ports = record { channels = v.ports.channels; created = marks-length (λ port. port.partition) p (ports table) w.ports.created v.ports.created };
    partitions = length-set w.partitions p _ ∙ v.partitions;
  }

  with_partition-valid : (p : ℕ) (partition : Partition) → IsValid table (with_partition w p partition)
  with_partition-valid p partition = record { files = v.files; logbooks = v.logbooks; ports = v.ports; partitions = length-set w.partitions p partition ∙ v.partitions }

  enter-valid : (p : ℕ) (partition : Partition) (mode : Mode) → IsValid table (state_after w (enter_normal w p partition mode))
  enter-valid p partition Normal = v
  enter-valid p partition Idle = v
  enter-valid p partition ColdStart = with_partition-valid p _
  enter-valid p partition WarmStart = with_partition-valid p _

  set_mode-valid : (p : ℕ) (mode : Mode) → IsValid table (state_after w (set_mode table w p mode))
  set_mode-valid p Normal = enter-valid p (partition_in w p) (partition_in w p).mode
  set_mode-valid p Idle = restarted-valid p Idle
  set_mode-valid p ColdStart = restarted-valid p ColdStart
  set_mode-valid p WarmStart = restarted-valid p WarmStart

-- ---- lines

-- a call or a directive keeps a world valid, where a logbook call does
pub call-valid : LogbookStepKeepsValid → (table : Rows) (w : World) (p : ℕ) (c : Call) → IsAccepted table → IsValid table w → IsValid table (state_after w (call_step table w p c))
call-valid books table w p (call.File c) good v =
    let P : World → Type 0 = λ u. IsValid table u in
    subst P (sym (state_after-map (with_files w) w.files (file_step table w.files p (is_ready (partition_in w p)) c)))
    (record { files = file_call-valid table w.files p (is_ready (partition_in w p)) c good v.files; logbooks = v.logbooks; ports = v.ports; partitions = v.partitions })
call-valid books table w p (call.Directory c) good v =
    let P : World → Type 0 = λ u. IsValid table u in
    subst P (sym (state_after-map (with_files w) w.files (directory_step table w.files p (is_ready (partition_in w p)) c)))
    (record { files = directory_call-valid table w.files p (is_ready (partition_in w p)) c good v.files; logbooks = v.logbooks; ports = v.ports; partitions = v.partitions })
call-valid books table w p (call.Logbook c) good v = books table w p c good v
call-valid books table w p (call.Sampling c) good v =
    let P : World → Type 0 = λ u. IsValid table u in
    subst P (sym (state_after-map (with_ports w) w.ports (sampling_step table w.ports w.time p (partition_in w p).mode c)))
    (record { files = v.files; logbooks = v.logbooks; ports = sampling_step-valid table w.time w.ports v.ports p (partition_in w p).mode c; partitions = v.partitions })
call-valid books table w p (call.SetMode mode) good v = set_mode-valid table w v p mode
call-valid books table w p (call.SetContext context) good v = with_partition-valid table w v p _

pub deed-valid : LogbookStepKeepsValid → TickKeepsValid → (table : Rows) (w : World) (d : Deed) → IsAccepted table → IsValid table w → IsValid table (world_after table w d)
deed-valid books ticks table w (deed.Tick n) good v = ticks table w n good v
deed-valid books ticks table w (deed.Partition p c) good v = call-valid books table w p.0 c good v

-- and so does a line, also where its read fails
pub line-valid : LogbookStepKeepsValid → TickKeepsValid → (table : Rows) (failed : List ℕ) (w : World) (line : Line) → IsAccepted table → IsValid table w
    → IsValid table (world_after_line table failed w line)
line-valid books ticks table failed w line good v =
    let P : World → Type 0 = λ u. IsValid table u in
    elim (line_stays_or_steps table failed w line) [
      | inl same ↦ subst P (sym same) v
      | inr stepped ↦ subst P (sym stepped) (deed-valid books ticks table w line.deed good v)
    ]

pub step-valid : LogbookStepKeepsValid → TickKeepsValid → StepKeepsValid
step-valid books ticks = deed-valid books ticks

pub cut-valid : CutBetweenKeepsValid → StepKeepsValid → CutKeepsValid
cut-valid between step table w d durable good v cut = between table w (world_after table w d) durable v (step table w d good v) cut
