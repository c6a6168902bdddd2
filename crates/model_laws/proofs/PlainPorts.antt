-- The answers to calls of sampling ports are plain.
use Rattle.std.proofs.Common.{ℕ, not, List, refl, Option, Some, None, length}
use Rattle.std.specs.Prelude.{◌==◌, nat_le, nat_lt, slice_get}
use Rattle.apex_types.specs.Rows.{Rows}
use Rattle.apex_types.specs.declared.calls.SamplingCall.{SamplingCall}
use Rattle.apex_types.specs.declared.calls.SamplingCall.TheVariants.{Create, Write, ReadUpdated, CurrentStatus, ReadConditional}
use Rattle.apex_types.specs.declared.calls.Mode.{Mode}
use Rattle.apex_types.specs.declared.codes.ReturnCode.TheVariants as code
use Rattle.apex_types.specs.declared.rows.ChannelRow.{ChannelRow}
use Rattle.apex_types.specs.declared.replies.Values.TheVariants as values
use Rattle.apex_types.specs.declared.replies.Updated.TheVariants.{EmptyPort}
use Rattle.apex_model.specs.Channels.{PortSystem, PortOutcome, Sample, granted, is_made, port_number, port_named, on_port, on_sample, channel_in, write_at_end, destination_status, create_port, write_sampling_message, read_updated, read_conditional, current_status, sampling_service}
use Rattle.apex_model.specs.Logbooks.{is_normal}
use Rattle.apex_model.specs.Outcomes.{refused, accepted, bare_refusal, refuse_with}
use Rattle.apex_model.specs.Tables.{Port, End, source_end, destination_end, ports, ports_of}
use Rattle.model_laws.proofs.PlainOutcomes.{IsPlainOutcome, plain-accepted, plain-refuse_with, plain-if_with, plain-choice}

plain-granted : {A : Type 0} (o : Option A) (none : PortOutcome) (rest : A → PortOutcome) → IsPlainOutcome none → ((a : A) → IsPlainOutcome (rest a)) → IsPlainOutcome (granted o none rest)
plain-granted None none rest h k = h
plain-granted (Some a) none rest h k = k a

module _ (table : Rows) (system : PortSystem) (now p : ℕ) where
  plain-port : (id : ℕ) (rest : Port → ChannelRow → PortOutcome) → ((port : Port) (row : ChannelRow) → IsPlainOutcome (rest port row)) → IsPlainOutcome (on_port table system p id rest)
  plain-port id rest h = plain-granted (port_number table p id) _ _ (plain-refuse_with _) (λ k. plain-if_with (not (is_made system k)) _ _
      (plain-granted (slice_get (ports table) k) _ _ (plain-refuse_with _) (λ port. plain-granted (slice_get table.channels port.channel) _ _ (plain-refuse_with _) (h port))))

  abbrev sample_at : Port → (ℕ → Sample → PortOutcome) → End → PortOutcome
  sample_at port rest end = elim end [
    | source_end ↦ refuse_with code.InvalidMode
    | destination_end d ↦ granted (channel_in system port.channel).sample (refused (bare_refusal code.NoAction (values.State EmptyPort))) (rest d)
  ]

  sample_at-plain : (port : Port) (rest : ℕ → Sample → PortOutcome) (end : End) → ((d : ℕ) (sample : Sample) → IsPlainOutcome (rest d sample)) → IsPlainOutcome (sample_at port rest end)
  sample_at-plain port rest source_end h = plain-refuse_with _
  sample_at-plain port rest (destination_end d) h = plain-granted (channel_in system port.channel).sample _ _ (record { errno = refl; names = tt }) (h d)

  plain-sample : (port : Port) (rest : ℕ → Sample → PortOutcome) → ((d : ℕ) (sample : Sample) → IsPlainOutcome (rest d sample)) → IsPlainOutcome (on_sample system port rest)
  plain-sample port rest h = sample_at-plain port rest port.end h

  create_port-plain : (m : Mode) (name : List ℕ) → IsPlainOutcome (create_port table system p m name)
  unfolding create_port
  create_port-plain m name = plain-if_with (is_normal m) _ _ (plain-granted (port_named table p name) _ _ (plain-refuse_with _) (λ place. plain-granted (slice_get (ports_of table p) place) _ _ (plain-refuse_with _) (λ k.
      plain-if_with (is_made system k) _ _ (plain-accepted _ _ tt))))

  write_at_end-plain : (channel : ℕ) (row : ChannelRow) (bytes : List ℕ) (end : End) → IsPlainOutcome (write_at_end system now channel row bytes end)
  write_at_end-plain channel row bytes (destination_end d) = plain-refuse_with _
  write_at_end-plain channel row bytes source_end = plain-if_with (length bytes == 0) _ _ (plain-if_with (nat_lt row.size (length bytes)) _ _ (plain-accepted _ _ tt))

  write_sampling_message-plain : (id : ℕ) (bytes : List ℕ) → IsPlainOutcome (write_sampling_message table system now p id bytes)
  unfolding write_sampling_message
  write_sampling_message-plain id bytes = plain-port id _ (λ port row. write_at_end-plain port.channel row bytes port.end)

  read_updated-plain : (id : ℕ) → IsPlainOutcome (read_updated table system now p id)
  unfolding read_updated
  read_updated-plain id = plain-port id _ (λ port row. plain-sample port _ (λ d sample. plain-accepted _ _ tt))

  read_conditional-plain : (id time : ℕ) → IsPlainOutcome (read_conditional table system now p id time)
  unfolding read_conditional
  read_conditional-plain id time = plain-port id _ (λ port row. plain-sample port _ (λ d sample. plain-choice (nat_le sample.time time) _ _ (record { errno = refl; names = tt }) (plain-accepted _ _ tt)))

  destination_status-plain : (channel : ℕ) (row : ChannelRow) (d : ℕ) (o : Option Sample) → IsPlainOutcome (destination_status system now channel row d o)
  destination_status-plain channel row d None = plain-accepted _ _ tt
  destination_status-plain channel row d (Some sample) = plain-accepted _ _ tt

  abbrev status_at : Port → ChannelRow → End → PortOutcome
  status_at port row end = elim end [
    | source_end ↦ accepted system (values.SourceStatus row.size row.refresh)
    | destination_end d ↦ destination_status system now port.channel row d (channel_in system port.channel).sample
  ]

  status_at-plain : (port : Port) (row : ChannelRow) (end : End) → IsPlainOutcome (status_at port row end)
  status_at-plain port row source_end = plain-accepted _ _ tt
  status_at-plain port row (destination_end d) = destination_status-plain port.channel row d (channel_in system port.channel).sample

  current_status-plain : (id : ℕ) → IsPlainOutcome (current_status table system now p id)
  unfolding current_status
  current_status-plain id = plain-port id _ (λ port row. status_at-plain port row port.end)

  pub sampling_service-plain : (m : Mode) (c : SamplingCall) → IsPlainOutcome (sampling_service table system now p m c)
  sampling_service-plain m (Create name) = create_port-plain m name
  sampling_service-plain m (Write id bytes) = write_sampling_message-plain id bytes
  sampling_service-plain m (ReadUpdated id) = read_updated-plain id
  sampling_service-plain m (CurrentStatus id) = current_status-plain id
  sampling_service-plain m (ReadConditional id time) = read_conditional-plain id time
