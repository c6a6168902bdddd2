-- A call of sampling ports.
use Rattle.std.proofs.Common.{◌≡◌, refl, sym, ◌∙◌, ap, subst}
use Rattle.std.specs.Prelude.{List, Ok}
use Rattle.apex_types.specs.declared.calls.Call.TheVariants as call
use Rattle.apex_types.specs.declared.calls.Mode.{Mode}
use Rattle.apex_types.specs.declared.calls.SamplingCall.{SamplingCall}
use Rattle.apex_types.specs.declared.numbers.PartitionId.{PartitionId}
use Rattle.apex_types.specs.declared.replies.Reply.{Reply}
use Rattle.apex_model.specs.Channels.{PortSystem, PortOutcome, sampling_step}
use Rattle.apex_model.specs.Outcomes.{map_state, reply_of, state_after}
use Rattle.apex_model.specs.World.{Partition, World, partition_in, with_ports}
use Rattle.apex_model.proofs.Keeps.{state_after-map}
use Rattle.rig_core.specs.Outside.{Outside, Sound}
use Rattle.service_parts.specs.Told.{IsTellable}
use Rattle.sampling_ext.specs.Standing.{IsServing, PortsValue, Stands}
use Rattle.module_session.specs.Calls.{IsCallTaken}
use Rattle.module_session.specs.Partitions.{partition_at}
use Rattle.module_session.specs.Sessions.{IsReady, StandsFor}
use Rattle.module_session.specs.declared.session.Session.{Session}
use Rattle.module_session.proofs.Replies.{reply_of-map}
use Rattle.module_session.proofs.Still.{IsStill, still_taken}

-- a session with other ports
abbrev pub with_other_ports : Session → PortsValue → Session
with_other_ports old ports = record {
  table = old.table;
  trees = old.trees;
  handles = old.handles;
  logs = old.logs;
  made = old.made;
  ports = ports;
  partitions = old.partitions;
  time = old.time;
  failed = old.failed;
}

module _ (V K : Type 0) (o : Outside) (sound : Sound V K o) (old : Session) (ready : IsReady V o old) (p : PartitionId) (c : SamplingCall)
    (mode : Mode) (mode_is : mode ≡ (partition_at old.partitions p.0).mode) (ports : PortsValue) (told : Reply) where
  abbrev next : Session
  next = with_other_ports old ports

  -- the step of some ports, in the partition's mode and at the session's time
  abbrev step : PortSystem → PortOutcome
  step system = sampling_step old.table system old.time p.0 mode c

  sampled_ready : IsServing old.table old.time ports → IsReady V o next
  sampled_ready serving = record {
    alive = ready.alive;
    accepted = ready.accepted;
    in_step = ready.in_step;
    of_table = ready.of_table;
    files = ready.files;
    marks = ready.marks;
    logbooks = ready.logbooks;
    ports = serving;
    partitions = ready.partitions;
  }

  sampled_stands : (w : World) (system : PortSystem) → StandsFor V o old w → Stands old.table ports system → StandsFor V o next (with_ports w system)
  sampled_stands w system stands held = record {
    parts = record { files = stands.parts.files; logbooks = stands.parts.logbooks };
    created = stands.created;
    ports = held;
    partitions = stands.partitions;
    time = stands.time;
  }

  -- it is that of the world
  step_is : (w : World) → StandsFor V o old w → step w.ports ≡ sampling_step old.table w.ports w.time p.0 (partition_in w p.0).mode c
  step_is w stands =
      let own : mode ≡ (partition_in w p.0).mode = mode_is ∙ ap (λ (partitions : List Partition). (partition_at partitions p.0).mode) stands.partitions in
      λ i. sampling_step old.table w.ports (stands.time i) p.0 (own i) c

  module _ (reply : (system : PortSystem) → Stands old.table old.ports system → told ≡ reply_of (step system))
      (state : (system : PortSystem) → Stands old.table old.ports system → Stands old.table ports (state_after system (step system))) where
    sampled_still : (w : World) → StandsFor V o old w → IsStill V o next w (map_state (with_ports w) (step w.ports)) told
    sampled_still w stands =
        let outcome = step w.ports in
        let whole : state_after w (map_state (with_ports w) outcome) ≡ with_ports w (state_after w.ports outcome) = state_after-map (with_ports w) w.ports outcome in
        record {
          reply = reply w.ports stands.ports ∙ sym (reply_of-map (with_ports w) outcome);
          stands = subst (λ (after : World). StandsFor V o next after) (sym whole) (sampled_stands w (state_after w.ports outcome) stands (state w.ports stands.ports));
          trees = ap (λ (after : World). after.files.trees) whole;
          books = ap (λ (after : World). after.logbooks.books) whole;
        }

    pub sampling_taken : IsServing old.table old.time ports → IsTellable told → IsCallTaken V p (call.Sampling c) old next o o (Ok told)
    sampling_taken serving tellable = still_taken V K o sound old next ready p (call.Sampling c) told refl refl (sampled_ready serving) tellable
        (λ w stands. subst (λ (outcome : PortOutcome). IsStill V o next w (map_state (with_ports w) outcome) told) (step_is w stands) (sampled_still w stands))
