-- A call of logbooks, as a call that was taken up.
use Rattle.std.proofs.Common.{◌≡◌, ◌⊎◌, inl, inr, ⊎_elim, ℕ, ◌≤◌, Bool, List, refl, sym, ap, subst, ◌∙◌, arith}
use Rattle.std.specs.Prelude.{Err, IfOk, Ok, OnErr, OnOk, Result}
use Rattle.apex_types.specs.declared.calls.Call.TheVariants as call
use Rattle.apex_types.specs.declared.calls.Deed.TheVariants as deed
use Rattle.apex_types.specs.declared.calls.LogbookCall.{LogbookCall}
use Rattle.apex_types.specs.declared.calls.LogbookCall.TheVariants.{Create, Write, Overwrite, Read, Clear, GetId, GetStatus}
use Rattle.apex_types.specs.declared.calls.Mode.{Mode}
use Rattle.apex_types.specs.declared.numbers.PartitionId.{PartitionId}
use Rattle.apex_types.specs.declared.replies.Reply.{Reply}
use Rattle.apex_model.specs.Durable.{IsCutBetween, IsCutDuring}
use Rattle.apex_model.specs.Logbooks.{Logbook, LogbookSystem, LogbookOutcome, logbook_step}
use Rattle.apex_model.specs.Outcomes.{Outcome, reply_of, state_after, map_state}
use Rattle.apex_model.specs.World.{Partition, World, call_step, with_logbooks}
use Rattle.apex_model.proofs.Keeps.{state_after-map}
use Rattle.rig_core.specs.Causes.{Rose}
use Rattle.rig_core.specs.Outside.{MakesAtMost, Outside, Sound}
use Rattle.rig_core.specs.Runs.{Shows}
use Rattle.rig_core.specs.declared.source.DeviceFault.{DeviceFault}
use Rattle.logbook_store.specs.Logs.{AreSettled, sites_of as log_sites_of}
use Rattle.logbook_store.specs.declared.book.Book.{Book}
use Rattle.logbook_services.specs.Standing.{IsOfTable, IsServing, Stands}
use Rattle.logbook_services.specs.Steps.{most_writes}
use Rattle.logbook_services.proofs.Counts.{books_count_after}
use Rattle.service_parts.specs.Told.{IsTellable}
use Rattle.image_layout.specs.Ready.{Stores}
use Rattle.module_session.specs.Calls.{IsCallTaken, IsReplied}
use Rattle.module_session.specs.Partitions.{partition_at}
use Rattle.module_session.specs.Sessions.{IsReady, StandsFor}
use Rattle.module_session.specs.declared.session.Session.{Session}
use Rattle.module_session.proofs.LogChanges.{ChangesLogs, logs_files, logs_in_step, logs_moments, logs_runs}
use Rattle.module_session.proofs.Replies.{reply_of-map}

-- a clear makes few writes, and no other call makes any
few_writes : (c : LogbookCall) → most_writes c ≤ 3
few_writes (Create name) = omega arith
few_writes (Write id bytes) = omega arith
few_writes (Overwrite id bytes) = omega arith
few_writes (Read id number) = omega arith
few_writes (Clear id) = omega arith
few_writes (GetId name) = omega arith
few_writes (GetStatus id) = omega arith

pub few_calls : (c : LogbookCall) (o e : Outside) → MakesAtMost (most_writes c) (most_writes c) 0 o e → MakesAtMost 96 3 0 o e
few_calls c o e made = let few = few_writes c in record { writes = omega (arith, made.writes, few); syncs = omega (arith, made.syncs, few); tells = made.tells }

-- with other logbooks and marks
abbrev with_logs : Session → List Book → List Bool → Session
with_logs old logs made = record {
  table = old.table;
  trees = old.trees;
  handles = old.handles;
  logs = logs;
  made = made;
  ports = old.ports;
  partitions = old.partitions;
  time = old.time;
  failed = old.failed;
}

-- the logbooks of a session with its marks, as the calls see them
abbrev pub system_of : Session → List Logbook → LogbookSystem
system_of old logbooks = record { books = logbooks; created = old.made }

-- what a call makes of the logbooks
abbrev pub books_after : Session → ℕ → Mode → LogbookCall → List Logbook → List Logbook
books_after old p mode c logbooks = (state_after (system_of old logbooks) (logbook_step old.table (system_of old logbooks) p mode c)).books

module _ (V K : Type 0) (o e : Outside) (sound : Sound V K o) (sound_after : Sound V K e) (old : Session) (logs : List Book) (made : List Bool) (ready : IsReady V o old)
    (p : PartitionId) (mode : Mode) (c : LogbookCall) (is : mode ≡ (partition_at old.partitions p.0).mode) (changes : ChangesLogs V (books_after old p.0 mode c) old.logs logs o e) where
  abbrev next : Session
  next = with_logs old logs made

  abbrev step : LogbookSystem → LogbookOutcome
  step system = logbook_step old.table system p.0 mode c

  of_world : (w : World) → StandsFor V o old w → call_step old.table w p.0 (call.Logbook c) ≡ map_state (with_logbooks w) (step w.logbooks)
  of_world w stands = ap (λ (m : Mode). map_state (with_logbooks w) (logbook_step old.table w.logbooks p.0 m c))
      (sym (is ∙ ap (λ (partitions : List Partition). (partition_at partitions p.0).mode) stands.partitions))

  step_reply : (w : World) → StandsFor V o old w → reply_of (call_step old.table w p.0 (call.Logbook c)) ≡ reply_of (step w.logbooks)
  step_reply w stands = ap (λ (o : Outcome World). reply_of o) (of_world w stands) ∙ reply_of-map (with_logbooks w) (step w.logbooks)

  step_world : (w : World) → StandsFor V o old w → state_after w (call_step old.table w p.0 (call.Logbook c)) ≡ with_logbooks w (state_after w.logbooks (step w.logbooks))
  step_world w stands = ap (λ (o : Outcome World). state_after w o) (of_world w stands) ∙ state_after-map (with_logbooks w) w.logbooks (step w.logbooks)

  -- where the rig tells its view, the marks are those of the world
  system_is : (w : World) → StandsFor V o old w → V → system_of old w.logbooks.books ≡ w.logbooks
  system_is w stands tells = ap (λ (marks : List Bool). record { books = w.logbooks.books; created = marks }) (stands.created tells)

  moments : (w : World) → StandsFor V o old w → Shows V (Stores old.table (IsCutDuring old.table w (deed.Partition p (call.Logbook c)))) o e
  moments w stands =
      subst (λ (after : World). Shows V (Stores old.table (IsCutBetween w after)) o e) (sym (step_world w stands))
      (logs_moments V K o e sound sound_after old logs (books_after old p.0 mode c) ready changes w (with_logbooks w (state_after w.logbooks (step w.logbooks))) stands refl
      (λ tells. ap (λ (system : LogbookSystem). (state_after system (step system)).books) (sym (system_is w stands tells)))
      (λ tells. books_count_after old.table (system_of old w.logbooks.books) p.0 mode c))

  -- the session is in step again
  next_ready : AreSettled (log_sites_of logs) e → IsOfTable old.table logs made → (V → IsServing old.table logs made e.view) → IsReady V e next
  next_ready settled of_table valid = record {
    alive = ready.alive;
    accepted = ready.accepted;
    in_step = logs_in_step V K o e sound sound_after old logs (books_after old p.0 mode c) ready changes settled;
    of_table = ready.of_table;
    files = (ready.files.0, logs_files V K o e sound sound_after old logs (books_after old p.0 mode c) ready changes ready.files.0 ready.files.1, ready.files.2);
    marks = of_table.long;
    logbooks = valid;
    ports = ready.ports;
    partitions = ready.partitions;
  }

  next_stands : (w : World) → StandsFor V o old w → (V → Stands old.table logs made e.view (state_after w.logbooks (step w.logbooks)))
      → StandsFor V e next (with_logbooks w (state_after w.logbooks (step w.logbooks)))
  next_stands w stands stand = record {
    parts = record {
      files = logs_files V K o e sound sound_after old logs (books_after old p.0 mode c) ready changes w.files stands.parts.files;
      logbooks = λ tells. (stand tells).stored;
    };
    created = λ tells. (stand tells).marks;
    ports = stands.ports;
    partitions = stands.partitions;
    time = stands.time;
  }

  stands_before : (w : World) → StandsFor V o old w → V → Stands old.table old.logs old.made o.view w.logbooks
  stands_before w stands tells = record { stored = stands.parts.logbooks tells; marks = stands.created tells }

  -- what the call says of each system of logbooks
  abbrev Replies : Result Reply DeviceFault → Type 0
  Replies result = (system : LogbookSystem) → V → Stands old.table old.logs old.made o.view system → IfOk result (λ told. told ≡ reply_of (step system))

  abbrev Comes : Result Reply DeviceFault → Type 0
  Comes result = (system : LogbookSystem) → V → Stands old.table old.logs old.made o.view system → OnOk result (Stands old.table logs made e.view (state_after system (step system)))

  replied : (told : Reply) → Replies (Ok told) → Comes (Ok told) → IsReplied V p.0 (call.Logbook c) old next o e told
  replied told reply state w stands = (
    λ tells. reply w.logbooks tells (stands_before w stands tells) ∙ sym (step_reply w stands),
    subst (λ (after : World). StandsFor V e next after) (sym (step_world w stands)) (next_stands w stands (λ tells. state w.logbooks tells (stands_before w stands tells))),
  )

  pub logbook_taken : (result : Result Reply DeviceFault) → Replies result → Comes result → OnOk result (AreSettled (log_sites_of logs) e) → IsOfTable old.table logs made
      → (V → OnOk result (IsServing old.table logs made e.view)) → OnErr result (Rose o.read_faults e.read_faults ⊎ Rose o.write_faults e.write_faults) → IfOk result IsTellable
      → IsCallTaken V p (call.Logbook c) old next o e result
  logbook_taken (Ok told) reply state settled of_table valid cause tellable = record {
    table = refl;
    time = refl;
    ready = next_ready settled of_table valid;
    told = inl (replied told reply state);
    moments = moments;
    runs = logs_runs V K o e sound sound_after old logs (books_after old p.0 mode c) ready changes;
    cause = tt;
    tellable = tellable;
  }
  logbook_taken (Err fault) reply state settled of_table valid cause tellable = record {
    table = refl;
    time = refl;
    ready = tt;
    told = tt;
    moments = moments;
    runs = logs_runs V K o e sound sound_after old logs (books_after old p.0 mode c) ready changes;
    cause = ⊎_elim (λ read. inr (tt, read)) (λ written. inl written) cause;
    tellable = tt;
  }
