-- A sampling call keeps ports and channels valid.
use Rattle.std.proofs.Common.{◌≡◌, ◌≢◌, ℕ, true, false, not, List, refl, ◌∙◌, Option, Some, None, length, arith}
use Rattle.std.specs.Prelude.{◌==◌, nat_le, nat_lt, slice_get, if◌then◌else◌}
use Rattle.std.proofs.lemmas.List.{length-set}
use Rattle.apex_types.specs.Rows.{Rows}
use Rattle.apex_types.specs.declared.calls.Mode.{Mode}
use Rattle.apex_types.specs.declared.calls.SamplingCall.{SamplingCall}
use Rattle.apex_types.specs.declared.calls.SamplingCall.TheVariants.{Create, Write, ReadUpdated, CurrentStatus, ReadConditional}
use Rattle.apex_types.specs.declared.codes.ReturnCode.TheVariants.{NoAction, InvalidParam, InvalidConfig, InvalidMode}
use Rattle.apex_types.specs.declared.replies.Updated.TheVariants.{EmptyPort}
use Rattle.apex_types.specs.declared.replies.Values.TheVariants.{SourceStatus, State}
use Rattle.apex_types.specs.declared.rows.ChannelRow.{ChannelRow}
use Rattle.apex_model.specs.Channels.{Sample, Channel, PortSystem, PortOutcome, empty_channel, channel_in, with_channel, granted, is_made, port_number, port_named, on_port, create_port, sampled, write_at_end, write_sampling_message, updated_at, consumed_at, read_sample, on_sample, read_updated, read_conditional, destination_status, current_status, sampling_service, sampling_step}
use Rattle.apex_model.specs.Logbooks.{is_normal, is_idle}
use Rattle.apex_model.specs.Outcomes.{state_after, accepted, refused, bare_refusal, refuse_with}
use Rattle.apex_model.specs.Tables.{Port, End, source_end, destination_end, ports, ports_of}
use Rattle.apex_model.specs.Validity.{IsValidChannel, IsValidPorts}
use Rattle.apex_model.proofs.Cuts.{length-map}
use Rattle.apex_model.proofs.Keeps.{keeps-if_with, lt-false, eq-false, zip-get, zip-set}

module _ (table : Rows) (now : ℕ) (old : PortSystem) (v : IsValidPorts table now old) where
  keeps-granted : {A : Type 0} (o : Option A) (refusal : PortOutcome) (rest : A → PortOutcome) → IsValidPorts table now (state_after old refusal)
      → ((a : A) → o ≡ Some a → IsValidPorts table now (state_after old (rest a))) → IsValidPorts table now (state_after old (granted o refusal rest))
  keeps-granted None refusal rest p h = p
  keeps-granted (Some a) refusal rest p h = h a refl

  keeps-on_port : (p id : ℕ) (rest : Port → ChannelRow → PortOutcome)
      → ((port : Port) (row : ChannelRow) → slice_get table.channels port.channel ≡ Some row → IsValidPorts table now (state_after old (rest port row)))
      → IsValidPorts table now (state_after old (on_port table old p id rest))
  keeps-on_port p id rest h = keeps-granted (port_number table p id) (refuse_with InvalidParam) _ v (λ k _.
      keeps-if_with (IsValidPorts table now) old (not (is_made old k)) InvalidParam _ v (λ _.
      keeps-granted (slice_get (ports table) k) (refuse_with InvalidParam) _ v (λ port _.
      keeps-granted (slice_get table.channels port.channel) (refuse_with InvalidParam) _ v (λ row e. h port row e))))

  channel_valid : (k : ℕ) (row : ChannelRow) → slice_get table.channels k ≡ Some row → IsValidChannel now row (channel_in old k)
  channel_valid k row e = zip-get (IsValidChannel now) table.channels old.channels k row empty_channel v.channels e

  with_channel-valid : (k : ℕ) (row : ChannelRow) (channel : Channel) → slice_get table.channels k ≡ Some row → IsValidChannel now row channel → IsValidPorts table now (with_channel old k channel)
  with_channel-valid k row channel e c = record { channels = zip-set (IsValidChannel now) table.channels old.channels k row channel v.channels e c; created = v.created }

  -- CREATE_SAMPLING_PORT
  create-valid : (p : ℕ) (mode : Mode) (name : List ℕ) → IsValidPorts table now (state_after old (create_port table old p mode name))
  unfolding create_port
  create-valid p mode name = keeps-if_with (IsValidPorts table now) old (is_normal mode) InvalidMode _ v (λ _.
      keeps-granted (port_named table p name) (refuse_with InvalidConfig) _ v (λ place _.
      keeps-granted (slice_get (ports_of table p) place) (refuse_with InvalidConfig) _ v (λ k _.
      keeps-if_with (IsValidPorts table now) old (is_made old k) NoAction _ v (λ _.
      record { channels = v.channels; created = length-set old.created k true ∙ v.created }))))

  -- WRITE_SAMPLING_MESSAGE
  at-end : (k : ℕ) (row : ChannelRow) (bytes : List ℕ) (end : End) → slice_get table.channels k ≡ Some row → IsValidPorts table now (state_after old (write_at_end old now k row bytes end))
  at-end k row bytes (destination_end d) e = v
  at-end k row bytes source_end e =
      keeps-if_with (IsValidPorts table now) old (length bytes == 0) InvalidParam _ v (λ some.
      keeps-if_with (IsValidPorts table now) old (nat_lt row.size (length bytes)) InvalidConfig _ v (λ fits.
      with_channel-valid k row (sampled (channel_in old k) now bytes) e (record {
        message = record {
          message = record {
            some = let n : length bytes ≢ 0 = eq-false (length bytes) 0 some in omega arith;
            fits = lt-false row.size (length bytes) fits;
          };
          time = omega arith;
        };
        marks = length-map (λ mark. false) (channel_in old k).consumed ∙ (channel_valid k row e).marks;
      })))

  write-valid : (p id : ℕ) (bytes : List ℕ) → IsValidPorts table now (state_after old (write_sampling_message table old now p id bytes))
  unfolding write_sampling_message
  write-valid p id bytes = keeps-on_port p id _ (λ port row e. at-end port.channel row bytes port.end e)

  -- READ_UPDATED_SAMPLING_MESSAGE and READ_SAMPLING_MESSAGE_CONDITIONAL
  read-valid : (k : ℕ) (row : ChannelRow) (d : ℕ) (sample : Sample) → slice_get table.channels k ≡ Some row → IsValidPorts table now (state_after old (read_sample old now k row d sample))
  read-valid k row d sample e =
      let is = channel_valid k row e in
      with_channel-valid k row (consumed_at (channel_in old k) d) e (record { message = is.message; marks = length-set (channel_in old k).consumed d true ∙ is.marks })

  keeps-on_sample : (port : Port) (rest : ℕ → Sample → PortOutcome) → ((d : ℕ) (sample : Sample) → IsValidPorts table now (state_after old (rest d sample)))
      → IsValidPorts table now (state_after old (on_sample old port rest))
  keeps-on_sample port rest h =
      elim port.end as (λ end. IsValidPorts table now (state_after old (elim end [
        | source_end ↦ refuse_with InvalidMode
        | destination_end d ↦ granted (channel_in old port.channel).sample (refused (bare_refusal NoAction (State EmptyPort))) (rest d)
      ]))) [
        | source_end ↦ v
        | destination_end d ↦ keeps-granted (channel_in old port.channel).sample (refused (bare_refusal NoAction (State EmptyPort))) (rest d) v (λ sample _. h d sample)
      ]

  read_updated-valid : (p id : ℕ) → IsValidPorts table now (state_after old (read_updated table old now p id))
  unfolding read_updated
  read_updated-valid p id = keeps-on_port p id _ (λ port row e. keeps-on_sample port _ (λ d sample. read-valid port.channel row d sample e))

  read_conditional-valid : (p id time : ℕ) → IsValidPorts table now (state_after old (read_conditional table old now p id time))
  unfolding read_conditional
  read_conditional-valid p id time = keeps-on_port p id _ (λ port row e. keeps-on_sample port _ (λ d sample.
      elim (nat_le sample.time time) as (λ b. IsValidPorts table now (state_after old (if b
      then refused (bare_refusal NoAction (State (updated_at (channel_in old port.channel) d)))
      else read_sample old now port.channel row d sample))) [
        | true ↦ v
        | false ↦ read-valid port.channel row d sample e
      ]))

  -- GET_SAMPLING_PORT_CURRENT_STATUS
  at-destination : (k : ℕ) (row : ChannelRow) (d : ℕ) (o : Option Sample) → IsValidPorts table now (state_after old (destination_status old now k row d o))
  at-destination k row d None = v
  at-destination k row d (Some sample) = v

  current_status-valid : (p id : ℕ) → IsValidPorts table now (state_after old (current_status table old now p id))
  unfolding current_status
  current_status-valid p id = keeps-on_port p id _ (λ port row e. by-end port row port.end)
    where
      by-end : (port : Port) (row : ChannelRow) (end : End) → IsValidPorts table now (state_after old (elim end [
        | source_end ↦ accepted old (SourceStatus row.size row.refresh)
        | destination_end d ↦ destination_status old now port.channel row d (channel_in old port.channel).sample
      ]))
      by-end port row source_end = v
      by-end port row (destination_end d) = at-destination port.channel row d (channel_in old port.channel).sample

  sampling_service-valid : (p : ℕ) (mode : Mode) (c : SamplingCall) → IsValidPorts table now (state_after old (sampling_service table old now p mode c))
  sampling_service-valid p mode (Create name) = create-valid p mode name
  sampling_service-valid p mode (Write id message) = write-valid p id message
  sampling_service-valid p mode (ReadUpdated id) = read_updated-valid p id
  sampling_service-valid p mode (CurrentStatus id) = current_status-valid p id
  sampling_service-valid p mode (ReadConditional id time) = read_conditional-valid p id time

  -- a sampling call keeps ports and channels valid
  pub sampling_step-valid : (p : ℕ) (mode : Mode) (c : SamplingCall) → IsValidPorts table now (state_after old (sampling_step table old now p mode c))
  sampling_step-valid p mode c = keeps-if_with (IsValidPorts table now) old (is_idle mode) InvalidMode _ v (λ _. sampling_service-valid p mode c)
