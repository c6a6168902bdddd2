-- A partition that starts again: its handles are closed, and what it created is forgotten.
use Rattle.std.proofs.Common.{◌≡◌, inl, inr, ℕ, Bool, false, List, refl, sym, ◌∙◌, ap, subst, Some}
use Rattle.std.specs.Prelude.{Ok, length, slice_index_or, slice_set}
use Rattle.std.proofs.lemmas.List.{length-set}
use Rattle.apex_types.specs.Rows.{Rows}
use Rattle.apex_types.specs.declared.calls.Call.TheVariants as call
use Rattle.apex_types.specs.declared.calls.Context.TheVariants.{Ordinary}
use Rattle.apex_types.specs.declared.calls.Mode.{Mode}
use Rattle.apex_types.specs.declared.calls.Mode.TheVariants.{Idle, ColdStart, WarmStart, Normal}
use Rattle.apex_types.specs.declared.numbers.PartitionId.{PartitionId}
use Rattle.apex_types.specs.declared.replies.Reply.{Reply}
use Rattle.apex_types.specs.declared.replies.Values.TheVariants.{Empty}
use Rattle.apex_model.specs.Channels.{PortSystem}
use Rattle.apex_model.specs.FileSystem.{FileSystem}
use Rattle.apex_model.specs.Handles.{Handles, OpenedDirectory, OpenedFile, handle_at, no_handles}
use Rattle.apex_model.specs.Logbooks.{is_normal}
use Rattle.apex_model.specs.Outcomes.{Outcome, accepted, success}
use Rattle.apex_model.specs.Validity.{HasAllSlots, IsValidFileSystem}
use Rattle.apex_model.specs.World.{Partition, World, restarted, set_mode}
use Rattle.apex_model.proofs.ValidFiles.{index-set}
use Rattle.model_laws.proofs.Handles.{all-set, no_directory, no_file}
use Rattle.open_handles.specs.NodeHandles.{AllHandles, none_open}
use Rattle.rig_core.specs.Outside.{Outside, Sound}
use Rattle.store_model.proofs.Systems.{all_closed-stands}
use Rattle.tree_store.specs.Serving.{StandOver}
use Rattle.logbook_services.specs.Standing as books
use Rattle.sampling_ext.specs.Standing.{PortsValue}
use Rattle.sampling_ext.specs.Standing as ports
use Rattle.module_session.specs.Calls.{IsCallTaken, IsRestarted}
use Rattle.module_session.specs.Sessions.{IsReady, StandsFor}
use Rattle.module_session.specs.declared.session.Session.{Session}
use Rattle.module_session.proofs.Still.{IsStill, still_taken}

-- ---- handles

file_before : (handles : List Handles) (p q id : ℕ) (h : OpenedFile) → handle_at (slice_index_or (slice_set handles p no_handles) q no_handles).files id ≡ Some h
    → handle_at (slice_index_or handles q no_handles).files id ≡ Some h
file_before handles p q id h e = elim (index-set handles p q no_handles no_handles) [
  | inl is ↦ absurd (no_file id h (sym (ap (λ (hs : Handles). handle_at hs.files id) is.0) ∙ e))
  | inr same ↦ sym (ap (λ (hs : Handles). handle_at hs.files id) same) ∙ e
]

directory_before : (handles : List Handles) (p q id : ℕ) (h : OpenedDirectory) → handle_at (slice_index_or (slice_set handles p no_handles) q no_handles).directories id ≡ Some h
    → handle_at (slice_index_or handles q no_handles).directories id ≡ Some h
directory_before handles p q id h e = elim (index-set handles p q no_handles no_handles) [
  | inl is ↦ absurd (no_directory id h (sym (ap (λ (hs : Handles). handle_at hs.directories id) is.0) ∙ e))
  | inr same ↦ sym (ap (λ (hs : Handles). handle_at hs.directories id) same) ∙ e
]

-- a partition's handles are closed
abbrev all_closed : FileSystem → ℕ → FileSystem
all_closed fs p = record { trees = fs.trees; handles = slice_set fs.handles p no_handles }

closed_valid : (table : Rows) (fs : FileSystem) (p : ℕ) → IsValidFileSystem table fs → IsValidFileSystem table (all_closed fs p)
closed_valid table fs p valid = record {
  trees = valid.trees;
  partitions = length-set fs.handles p no_handles ∙ valid.partitions;
  slots = all-set HasAllSlots fs.handles p no_handles valid.slots (record { files = refl; directories = refl });
  files = λ q id h e. valid.files q id h (file_before fs.handles p q id h e);
  directories = λ q id h e. valid.directories q id h (directory_before fs.handles p q id h e);
  one_writer = λ q a b h k e f. valid.one_writer q a b h k (file_before fs.handles p q a h e) (file_before fs.handles p q b k f);
}

-- ---- the session

module _ (V : Type 0) (o : Outside) (old : Session) (ready : IsReady V o old) (p : ℕ) (mode : Mode) (handles : AllHandles) (made : List Bool) (held : PortsValue) (partitions : List Partition) where
  abbrev next : Session
  next = record {
    table = old.table;
    trees = old.trees;
    handles = handles;
    logs = old.logs;
    made = made;
    ports = held;
    partitions = partitions;
    time = old.time;
    failed = old.failed;
  }

  -- what the parts say of the partition that starts again
  pub record AreRestarted : Type 0 where
    pub closed : handles ≡ slice_set old.handles p none_open
    pub marks : made ≡ books.marks_forgotten old.table p old.made
    pub of_table : books.IsOfTable old.table old.logs old.made → books.IsOfTable old.table old.logs made
    pub logbooks : (image : List ℕ) → books.IsServing old.table old.logs old.made image → books.IsServing old.table old.logs made image
    pub state : (system : PortSystem) → ports.Stands old.table old.ports system → ports.Stands old.table held (ports.forgotten old.table p system)
    pub serving : ports.IsServing old.table old.time old.ports → ports.IsServing old.table old.time held
    pub put : partitions ≡ slice_set old.partitions p (record { mode = mode; context = Ordinary })

  module _ (parts : AreRestarted) where
    closed_stand : (fs : FileSystem) → StandOver V o old.trees old.handles fs → StandOver V o old.trees handles (all_closed fs p)
    closed_stand fs over =
        subst (λ (hs : AllHandles). StandOver V o old.trees hs (all_closed fs p)) (sym parts.closed) (over.0, over.1, all_closed-stands over.0 old.handles fs over.2 p)

    restarted_ready : IsReady V o next
    restarted_ready = record {
      alive = ready.alive;
      accepted = ready.accepted;
      in_step = ready.in_step;
      of_table = record {
        sites = ready.of_table.sites;
        partitions = ap (λ (hs : AllHandles). length hs) parts.closed ∙ length-set old.handles p none_open ∙ ready.of_table.partitions;
      };
      files = (all_closed ready.files.0 p, closed_stand ready.files.0 ready.files.1, closed_valid old.table ready.files.0 p ready.files.2);
      marks = (parts.of_table (record { sites = ready.in_step.log_sites; long = ready.marks })).long;
      logbooks = λ tells. parts.logbooks o.view (ready.logbooks tells);
      ports = parts.serving ready.ports;
      partitions = ap (λ (all : List Partition). length all) parts.put ∙ length-set old.partitions p _ ∙ ready.partitions;
    }

    restarted_stands : (w : World) → StandsFor V o old w → StandsFor V o next (restarted old.table w p mode)
    restarted_stands w stands = record {
      parts = record { files = closed_stand w.files stands.parts.files; logbooks = stands.parts.logbooks };
      created = λ tells. parts.marks ∙ ap (λ (marks : List Bool). books.marks_forgotten old.table p marks) (stands.created tells);
      ports = parts.state w.ports stands.ports;
      partitions = parts.put ∙ ap (λ (all : List Partition). slice_set all p (record { mode = mode; context = Ordinary })) stands.partitions;
      time = stands.time;
    }

    pub session_restarted : IsRestarted V p mode old next o
    session_restarted = record { table = refl; time = refl; ready = restarted_ready; stands = restarted_stands }

-- ---- MODE

-- each mode but NORMAL is a restart
restart_step : (table : Rows) (w : World) (p : ℕ) (mode : Mode) → is_normal mode ≡ false → set_mode table w p mode ≡ accepted (restarted table w p mode) Empty
restart_step table w p Normal other = absurd cc
restart_step table w p Idle other = refl
restart_step table w p ColdStart other = refl
restart_step table w p WarmStart other = refl

pub restart_taken : (V K : Type 0) (o : Outside) → Sound V K o → (old new : Session) → IsReady V o old → (p : PartitionId) (mode : Mode) → is_normal mode ≡ false → IsRestarted V p.0 mode old new o
    → (told : Reply) → told ≡ success Empty → IsCallTaken V p (call.SetMode mode) old new o o (Ok told)
restart_taken V K o sound old new ready p mode other done told told_is =
    subst (λ (reply : Reply). IsCallTaken V p (call.SetMode mode) old new o o (Ok reply)) (sym told_is)
    (still_taken V K o sound old new ready p (call.SetMode mode) (success Empty) done.table done.time done.ready (λ held. absurd held)
    (λ w stands. subst (λ (outcome : Outcome World). IsStill V o new w outcome (success Empty)) (sym (restart_step old.table w p.0 mode other))
    (record { reply = refl; stands = done.stands w stands; trees = refl; books = refl })))
