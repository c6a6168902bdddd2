-- What a sampling call comes to, where the ports are those of the table.
use Rattle.std.specs.Prelude.{◌≡◌, ℕ, Some, slice_get}
use Rattle.apex_types.specs.Rows.{Rows}
use Rattle.apex_types.specs.declared.codes.ReturnCode.TheVariants.{InvalidParam}
use Rattle.apex_types.specs.declared.replies.Reply.{Reply}
use Rattle.apex_types.specs.declared.rows.ChannelRow.{ChannelRow}
use Rattle.apex_model.specs.Channels.{Sample, PortSystem, PortOutcome, channel_in, on_port, on_sample}
use Rattle.apex_model.specs.Outcomes.{reply_of, state_after, refused, refuse_with}
use Rattle.apex_model.specs.Tables.{Port, End}
use Rattle.service_parts.specs.Told.{IsTellable}
use Rattle.sampling_ext.specs.Standing.{PortsValue}

-- this is the reply of the outcome, and the channels and marks are those after it
pub record IsServed (outcome : PortOutcome) (old new : PortsValue) (told : Reply) : Type 0 where
  pub reply : told ≡ reply_of outcome
  pub state : new ≡ record { ports = old.ports; system = state_after old.system outcome }
  pub tellable : IsTellable told

-- a partition's id leads to a created port: to this end of this channel
pub record LeadsTo (table : Rows) (system : PortSystem) (p id channel : ℕ) (end : End) (row : ChannelRow) : Type 0 where
  pub port : Port
  pub channel_is : port.channel ≡ channel
  pub end_is : port.end ≡ end
  pub row_is : slice_get table.channels channel ≡ Some row
  pub goes_on : (rest : Port → ChannelRow → PortOutcome) → on_port table system p id rest ≡ rest port row

-- it leads to none
abbrev pub LeadsToNone : Rows → PortSystem → ℕ → ℕ → Type 0
LeadsToNone table system p id = (rest : Port → ChannelRow → PortOutcome) → on_port table system p id rest ≡ refuse_with InvalidParam

-- an end of a channel is this destination, and the channel's message was written at this time
pub record HasMessage (system : PortSystem) (channel : ℕ) (end : End) (d time : ℕ) : Type 0 where
  pub sample : Sample
  pub held : (channel_in system channel).sample ≡ Some sample
  pub time_is : sample.time ≡ time
  pub goes_on : (port : Port) → port.channel ≡ channel → port.end ≡ end → (rest : ℕ → Sample → PortOutcome) → on_sample system port rest ≡ rest d sample

-- no message can be read at it, for which this is the reply
pub record HasNoMessage (system : PortSystem) (channel : ℕ) (end : End) (told : Reply) : Type 0 where
  pub refused_so : (port : Port) → port.channel ≡ channel → port.end ≡ end → (rest : ℕ → Sample → PortOutcome) → on_sample system port rest ≡ refused told
  pub tellable : IsTellable told
