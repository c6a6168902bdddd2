-- A call of files or directories, as a call that was taken up.
use Rattle.std.proofs.Common.{◌≡◌, inl, inr, ⊎_elim, ℕ, ◌*◌, Bool, true, false, List, length, map, refl, sym, ap, subst, ◌∙◌, arith}
use Rattle.std.specs.Prelude.{Err, Ok, OnOk, Result}
use Rattle.apex_types.specs.declared.calls.Call.{Call}
use Rattle.apex_types.specs.declared.calls.Call.TheVariants as call
use Rattle.apex_types.specs.declared.calls.Deed.TheVariants as deed
use Rattle.apex_types.specs.declared.calls.DirCall.{DirCall}
use Rattle.apex_types.specs.declared.calls.FileCall.{FileCall}
use Rattle.apex_types.specs.declared.numbers.PartitionId.{PartitionId}
use Rattle.apex_types.specs.declared.replies.Reply.{Reply}
use Rattle.apex_model.specs.DirectoryStep.{directory_step}
use Rattle.apex_model.specs.Durable.{IsCutBetween, IsCutDuring}
use Rattle.apex_model.specs.FailedReads.{reads_content, reads_file}
use Rattle.apex_model.specs.FileStep.{file_step}
use Rattle.apex_model.specs.FileSystem.{FileSystem}
use Rattle.apex_model.specs.Layout.{layout_blocks}
use Rattle.apex_model.specs.Outcomes.{Outcome, reply_of, state_after, map_state}
use Rattle.apex_model.specs.World.{Partition, World, call_step, is_ready, with_files}
use Rattle.apex_model.proofs.Keeps.{state_after-map}
use Rattle.open_handles.specs.NodeHandles.{AllHandles}
use Rattle.rig_core.specs.Causes.{Rose}
use Rattle.rig_core.specs.Outside.{Outside, Sound}
use Rattle.rig_core.specs.Runs.{Runs, Shows}
use Rattle.rig_core.specs.Windows.{AreWithin}
use Rattle.rig_core.specs.declared.source.DeviceFault.{DeviceFault}
use Rattle.store_model.specs.Betweens.{TreeSite}
use Rattle.tree_store.specs.Serving.{AreOfTable, AreServing, AreStored, IsAnswered, IsUnread as IsUnreadOver, StandOver, sites_of, window_of}
use Rattle.tree_store.specs.declared.store.TreeStore.{TreeStore}
use Rattle.service_parts.specs.Serving.{IsServed, ReadsFailed}
use Rattle.image_layout.specs.Ready.{Stores}
use Rattle.image_layout.proofs.After.{books_after_trees, in_step_after_trees}
use Rattle.image_layout.proofs.Following.{trees_in_image}
use Rattle.image_layout.proofs.Moments.{tree_call_moments}
use Rattle.module_session.specs.Calls.{IsCallTaken, IsReplied, IsUnread}
use Rattle.module_session.specs.Partitions.{partition_at}
use Rattle.module_session.specs.Sessions.{IsReady, StandsFor}
use Rattle.module_session.specs.declared.session.Session.{Session}
use Rattle.module_session.proofs.Replies.{reply_of-map}
use Rattle.module_session.proofs.TreeCounts.{directory_step-counts, file_step-counts}

-- only a call that reads a content has a read that fails
reads_of : (b : Bool) (o e : Outside) → ReadsFailed b o e → (b ≡ true) × Rose o.read_faults e.read_faults
reads_of true o e reads = (refl, reads)
reads_of false o e reads = absurd reads

-- with more writes than were made
more_writes : (V : Type 0) (at n : ℕ) (o e : Outside) → Runs V at n 52 3 o e → Runs V at n 96 3 o e
more_writes V at n o e run = record {
  outside = run.outside;
  outside_view = run.outside_view;
  later = run.later;
  made = let made = run.made in record { writes = omega (arith, made.writes); syncs = made.syncs; tells = made.tells };
}

-- with other trees and handles
abbrev with_parts : Session → List TreeStore → AllHandles → Session
with_parts old trees handles = record {
  table = old.table;
  trees = trees;
  handles = handles;
  logs = old.logs;
  made = old.made;
  ports = old.ports;
  partitions = old.partitions;
  time = old.time;
  failed = old.failed;
}

-- a step on trees and handles, as one of the whole world
module _ (V K : Type 0) (o e : Outside) (sound : Sound V K o) (sound_after : Sound V K e) (old : Session) (trees : List TreeStore) (handles : AllHandles) (ready : IsReady V o old)
    (p : PartitionId) (c : Call) (step : FileSystem → Outcome FileSystem) (of_world : (w : World) → StandsFor V o old w → call_step old.table w p.0 c ≡ map_state (with_files w) (step w.files))
    (counts : (fs : FileSystem) → length (state_after fs (step fs)).trees ≡ length fs.trees) (result : Result Reply DeviceFault)
    (served : IsServed V step (ReadsFailed (reads_file c) o e) 52 3 old.trees trees old.handles handles o e result) where
  abbrev next : Session
  next = with_parts old trees handles

  step_reply : (w : World) → StandsFor V o old w → reply_of (call_step old.table w p.0 c) ≡ reply_of (step w.files)
  step_reply w stands = ap (λ (o : Outcome World). reply_of o) (of_world w stands) ∙ reply_of-map (with_files w) (step w.files)

  step_world : (w : World) → StandsFor V o old w → state_after w (call_step old.table w p.0 c) ≡ with_files w (state_after w.files (step w.files))
  step_world w stands = ap (λ (o : Outcome World). state_after w o) (of_world w stands) ∙ state_after-map (with_files w) w.files (step w.files)

  moments : (w : World) → StandsFor V o old w → Shows V (Stores old.table (IsCutDuring old.table w (deed.Partition p c))) o e
  moments w stands =
      subst (λ (after : World). Shows V (Stores old.table (IsCutBetween w after)) o e) (sym (step_world w stands))
      (tree_call_moments V K o e sound old.table old.trees old.handles old.logs w (with_files w (state_after w.files (step w.files))) ready.in_step stands.parts 52 3 refl
      (counts w.files) (served.moments w.files stands.parts.files) served.runs)

  runs : Runs V 0 (512 * layout_blocks old.table) 96 3 o e
  runs =
      let within : AreWithin 0 (512 * layout_blocks old.table) (map window_of (sites_of old.trees)) = subst (λ (l : List TreeSite). AreWithin 0 (512 * layout_blocks old.table) (map window_of l)) (sym ready.in_step.tree_sites) (trees_in_image old.table) in
      more_writes V 0 (512 * layout_blocks old.table) o e (served.runs 0 (512 * layout_blocks old.table) within)

  -- the session is in step again
  next_ready : AreStored V e trees → AreServing V e old.table trees handles → AreOfTable old.table trees handles → IsReady V e next
  next_ready stored serving of_table = record {
    alive = ready.alive;
    accepted = ready.accepted;
    in_step = in_step_after_trees V K o e sound sound_after old.table old.trees old.logs 52 3 ready.in_step served.runs trees served.sites stored;
    of_table = of_table;
    files = serving;
    marks = ready.marks;
    logbooks = λ tells.
        let books = ready.logbooks tells in
        let stands = books.1 in (
          books.0,
          record {
            stored = books_after_trees V K o e sound sound_after old.table old.trees old.logs 52 3 ready.in_step served.runs tells books.0.books stands.stored;
            marks = stands.marks;
          },
          books.2,
        );
    ports = ready.ports;
    partitions = ready.partitions;
  }

  -- it stands for a world with the trees and handles that those stand for now
  next_stands : (w : World) (fs : FileSystem) → StandsFor V o old w → StandOver V e trees handles fs → StandsFor V e next (with_files w fs)
  next_stands w fs stands over = record {
    parts = record {
      files = over;
      logbooks = λ tells. books_after_trees V K o e sound sound_after old.table old.trees old.logs 52 3 ready.in_step served.runs tells w.logbooks.books (stands.parts.logbooks tells);
    };
    created = stands.created;
    ports = stands.ports;
    partitions = stands.partitions;
    time = stands.time;
  }

  answered : (told : Reply) → IsAnswered V step old.trees trees old.handles handles o e told → IsReplied V p.0 c old next o e told
  answered told answer w stands =
      let here = answer w.files stands.parts.files in (
        λ tells. here.0 tells ∙ sym (step_reply w stands),
        subst (λ (after : World). StandsFor V e next after) (sym (step_world w stands)) (next_stands w (state_after w.files (step w.files)) stands here.1),
      )

  unread : (told : Reply) → IsUnreadOver V (ReadsFailed (reads_file c) o e) step old.trees trees old.handles handles o e told → IsUnread V p.0 c old next o e told
  unread told failure =
      let read = reads_of (reads_file c) o e failure.cause in
      record {
        told_is = failure.told_is;
        reads = read.0;
        cause = read.1;
        unchanged = λ w stands.
            let here = failure.unchanged w.files stands.parts.files in
            let accepting = here.0 in (
              (with_files w accepting.0, accepting.1, of_world w stands ∙ ap (map_state (with_files w)) accepting.2),
              next_stands w w.files stands here.1,
            );
      }

-- the same at each of its ends
module _ (V K : Type 0) (o e : Outside) (sound : Sound V K o) (sound_after : Sound V K e) (old : Session) (trees : List TreeStore) (handles : AllHandles) (ready : IsReady V o old)
    (p : PartitionId) (c : Call) (step : FileSystem → Outcome FileSystem) (of_world : (w : World) → StandsFor V o old w → call_step old.table w p.0 c ≡ map_state (with_files w) (step w.files))
    (counts : (fs : FileSystem) → length (state_after fs (step fs)).trees ≡ length fs.trees) where
  step_taken : (result : Result Reply DeviceFault) → IsServed V step (ReadsFailed (reads_file c) o e) 52 3 old.trees trees old.handles handles o e result
      → OnOk result (AreServing V e old.table trees handles) → AreOfTable old.table trees handles → IsCallTaken V p c old (with_parts old trees handles) o e result
  step_taken (Ok told) served serving of_table = record {
    table = refl;
    time = refl;
    ready = next_ready V K o e sound sound_after old trees handles ready p c step of_world counts (Ok told) served served.stored serving of_table;
    told = ⊎_elim (λ answer. inl (answered V K o e sound sound_after old trees handles ready p c step of_world counts (Ok told) served told answer))
        (λ failure. inr (unread V K o e sound sound_after old trees handles ready p c step of_world counts (Ok told) served told failure)) served.told;
    moments = moments V K o e sound sound_after old trees handles ready p c step of_world counts (Ok told) served;
    runs = runs V K o e sound sound_after old trees handles ready p c step of_world counts (Ok told) served;
    cause = tt;
    tellable = served.tellable;
  }
  step_taken (Err fault) served serving of_table = record {
    table = refl;
    time = refl;
    ready = tt;
    told = tt;
    moments = moments V K o e sound sound_after old trees handles ready p c step of_world counts (Err fault) served;
    runs = runs V K o e sound sound_after old trees handles ready p c step of_world counts (Err fault) served;
    cause = inl served.cause;
    tellable = tt;
  }

-- ---- the calls

-- what a partition is ready for in the session it is ready for in each world that this stands for
ready_in : (V : Type 0) (o : Outside) (old : Session) (p : ℕ) (ready : Bool) → ready ≡ is_ready (partition_at old.partitions p) → (w : World) → StandsFor V o old w → is_ready (partition_at w.partitions p) ≡ ready
ready_in V o old p ready is w stands = sym (is ∙ ap (λ (partitions : List Partition). is_ready (partition_at partitions p)) stands.partitions)

module _ (V K : Type 0) (o e : Outside) (sound : Sound V K o) (sound_after : Sound V K e) (old : Session) (trees : List TreeStore) (handles : AllHandles) (in_step : IsReady V o old)
    (p : PartitionId) (ready : Bool) (is : ready ≡ is_ready (partition_at old.partitions p.0)) (result : Result Reply DeviceFault) where
  pub file_taken : (c : FileCall) → IsServed V (λ fs. file_step old.table fs p.0 ready c) (ReadsFailed (reads_content c) o e) 52 3 old.trees trees old.handles handles o e result
      → OnOk result (AreServing V e old.table trees handles) → AreOfTable old.table trees handles → IsCallTaken V p (call.File c) old (with_parts old trees handles) o e result
  file_taken c served serving of_table = step_taken V K o e sound sound_after old trees handles in_step p (call.File c) (λ fs. file_step old.table fs p.0 ready c)
      (λ w stands. ap (λ (b : Bool). map_state (with_files w) (file_step old.table w.files p.0 b c)) (ready_in V o old p.0 ready is w stands))
      (λ fs. file_step-counts old.table fs p.0 ready c) result served serving of_table

  pub directory_taken : (c : DirCall) → IsServed V (λ fs. directory_step old.table fs p.0 ready c) (ReadsFailed false o e) 52 3 old.trees trees old.handles handles o e result
      → OnOk result (AreServing V e old.table trees handles) → AreOfTable old.table trees handles → IsCallTaken V p (call.Directory c) old (with_parts old trees handles) o e result
  directory_taken c served serving of_table = step_taken V K o e sound sound_after old trees handles in_step p (call.Directory c) (λ fs. directory_step old.table fs p.0 ready c)
      (λ w stands. ap (λ (b : Bool). map_state (with_files w) (directory_step old.table w.files p.0 b c)) (ready_in V o old p.0 ready is w stands))
      (λ fs. directory_step-counts old.table fs p.0 ready c) result served serving of_table
