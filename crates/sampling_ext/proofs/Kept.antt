-- Ports stay those of their table, and valid.
use Rattle.std.proofs.Common.{◌≡◌, ℕ, ◌≤◌, Bool, false, List, [], ◌∷◌, Option, Some, None, arith, length, map, sym, ◌∙◌, ap, subst, replicate}
use Rattle.std.specs.List.{AllZip}
use Rattle.std.proofs.lemmas.Slice.Zip.{AllZip-long}
use Rattle.apex_types.specs.Rows.{Rows}
use Rattle.apex_types.specs.declared.calls.Mode.{Mode}
use Rattle.apex_types.specs.declared.calls.SamplingCall.{SamplingCall}
use Rattle.apex_types.specs.declared.codes.ReturnCode.TheVariants.{InvalidMode}
use Rattle.apex_types.specs.declared.replies.Reply.{Reply}
use Rattle.apex_types.specs.declared.rows.ChannelRow.{ChannelRow}
use Rattle.apex_model.specs.Channels.{Sample, Channel, PortSystem, sampling_service}
use Rattle.apex_model.specs.Durable.{unused_channel}
use Rattle.apex_model.specs.Logbooks.{is_idle}
use Rattle.apex_model.specs.Outcomes.{state_after, refuse_if_with}
use Rattle.apex_model.specs.Tables.{Port, ports}
use Rattle.apex_model.specs.Validity.{IsValidMessage, IsValidChannel, IsValidPorts}
use Rattle.apex_model.proofs.Cuts.{length-map}
use Rattle.apex_model.specs.World.{marks_without}
use Rattle.model_laws.proofs.SamplingCalls.{sampling_step-valid}
use Rattle.model_laws.proofs.Steps.{marks-length}
use Rattle.sampling_ext.specs.Standing.{PortsValue, Stands, IsServing, IsOfTable, unused_ports, forgotten}
use Rattle.sampling_ext.specs.Steps.{IsServed}
use Rattle.sampling_ext.proofs.Lists.{map_const}

pub serving-of_table : (table : Rows) (now : ℕ) (held : PortsValue) → IsServing table now held → IsOfTable table held
serving-of_table table now held serving = record {
  listed = serving.1.listed;
  channels = ap (λ (s : PortSystem). length s.channels) serving.1.kept ∙ AllZip-long (IsValidChannel now) table.channels serving.0.channels serving.2.channels;
}

service-valid : (table : Rows) (now : ℕ) (system : PortSystem) (p : ℕ) (mode : Mode) (call : SamplingCall) → is_idle mode ≡ false → IsValidPorts table now system
    → IsValidPorts table now (state_after system (sampling_service table system now p mode call))
service-valid table now system p mode call e v =
    let P : Bool → Type 0 = λ b. IsValidPorts table now (state_after system (refuse_if_with b InvalidMode (sampling_service table system now p mode call))) in
    subst P e (sampling_step-valid table now system v p mode call)

-- a call that is served keeps the ports valid
pub served-serving : (table : Rows) (now : ℕ) (old new : PortsValue) (told : Reply) (p : ℕ) (mode : Mode) (call : SamplingCall) → is_idle mode ≡ false
    → IsServing table now old → IsServed (sampling_service table old.system now p mode call) old new told → IsServing table now new
served-serving table now old new told p mode call e serving served =
    let P : PortSystem → Type 0 = λ s. IsValidPorts table now s in (
      state_after old.system (sampling_service table old.system now p mode call),
      record { listed = ap (λ (h : PortsValue). h.ports) served.state ∙ serving.1.listed; kept = ap (λ (h : PortsValue). h.system) served.state },
      service-valid table now old.system p mode call e (subst P (sym serving.1.kept) serving.2),
    )

abbrev system_with : List Channel → List Bool → PortSystem
system_with channels created = record { channels = channels; created = created }

-- new ports are those of the table, unused
pub new-stands : (table : Rows) (held : PortsValue) (n : ℕ) → held.ports ≡ ports table → held.system.channels ≡ map unused_channel table.channels → n ≡ length held.ports
    → held.system.created ≡ replicate n false → Stands table held (unused_ports table)
new-stands table held n listed channels long created = record {
  listed = listed;
  kept =
      ap (λ (cs : List Channel). system_with cs held.system.created) channels
      ∙ ap (λ (ms : List Bool). system_with (map unused_channel table.channels) ms)
      (created ∙ ap (λ (m : ℕ). replicate m false) long ∙ map_const false held.ports ∙ ap (λ (ps : List Port). map (λ port. false) ps) listed);
}

unused-channels : (now : ℕ) (rows : List ChannelRow) → AllZip (IsValidChannel now) rows (map unused_channel rows)
unused-channels now [] = tt
unused-channels now (row ∷ rows) = (record { message = tt; marks = length-map (λ destination. false) row.destinations }, unused-channels now rows)

-- unused ports are valid at any time
pub new-serving : (table : Rows) (held : PortsValue) → Stands table held (unused_ports table) → (now : ℕ) → IsServing table now held
new-serving table held stands now = (unused_ports table, stands, record { channels = unused-channels now table.channels; created = length-map (λ port. false) (ports table) })

-- a restart forgets a partition's marks alone
pub forgotten-stands : (p : ℕ) (old new : PortsValue) → new.ports ≡ old.ports → new.system.channels ≡ old.system.channels
    → new.system.created ≡ marks_without (λ port. port.partition) p old.ports old.system.created
    → (table : Rows) (system : PortSystem) → Stands table old system → Stands table new (forgotten table p system)
forgotten-stands p old new ports_same channels_same created table system stands = record {
  listed = ports_same ∙ stands.listed;
  kept =
      ap (λ (cs : List Channel). system_with cs new.system.created) (channels_same ∙ ap (λ (s : PortSystem). s.channels) stands.kept)
      ∙ ap (λ (ms : List Bool). system_with system.channels ms)
      (created ∙ ap (λ (ps : List Port). marks_without (λ port. port.partition) p ps old.system.created) stands.listed
      ∙ ap (λ (s : PortSystem). marks_without (λ (port : Port). port.partition) p (ports table) s.created) stands.kept);
}

-- and so they are after a partition's restart
pub forgotten-serving : (table : Rows) (now : ℕ) (p : ℕ) (old new : PortsValue) → ((system : PortSystem) → Stands table old system → Stands table new (forgotten table p system))
    → IsServing table now old → IsServing table now new
forgotten-serving table now p old new stands serving = (
  forgotten table p serving.0,
  stands serving.0 serving.1,
  record {
    channels = serving.2.channels;
    created = marks-length (λ port. port.partition) p (ports table) serving.0.created serving.2.created;
  },
)

later-message : (now later : ℕ) (row : ChannelRow) (sample : Option Sample) → now ≤ later → IsValidMessage row now sample → IsValidMessage row later sample
later-message now later row None h v = tt
later-message now later row (Some sample) h v = record { message = v.message; time = let t = v.time in omega arith }

later-channels : (now later : ℕ) (rows : List ChannelRow) (channels : List Channel) → now ≤ later → AllZip (IsValidChannel now) rows channels → AllZip (IsValidChannel later) rows channels
later-channels now later [] [] h z = tt
later-channels now later [] (c ∷ channels) h z = absurd z
later-channels now later (row ∷ rows) [] h z = absurd z
later-channels now later (row ∷ rows) (c ∷ channels) h z =
    (record { message = later-message now later row c.sample h z.0.message; marks = z.0.marks }, later-channels now later rows channels h z.1)

-- and at every later time
pub later-serving : (table : Rows) (now later : ℕ) (held : PortsValue) → now ≤ later → IsServing table now held → IsServing table later held
later-serving table now later held h serving = (serving.0, serving.1, record { channels = later-channels now later table.channels serving.0.channels h serving.2.channels; created = serving.2.created })
