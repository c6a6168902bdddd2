-- What a call on a port comes to, by where the port's id leads.
use Rattle.std.proofs.Common.{◌≡◌, ℕ, ◌-◌, Bool, true, false, not, List, sym, ◌∙◌, ap, Option, Some, None, length, get_or, if◌then◌else◌}
use Rattle.std.specs.Prelude.{◌==◌, slice_get, nat_le, nat_lt}
use Rattle.apex_types.specs.Rows.{Rows}
use Rattle.apex_types.specs.declared.codes.ReturnCode.TheVariants.{NoAction, InvalidParam}
use Rattle.apex_types.specs.declared.replies.Reply.{Reply}
use Rattle.apex_types.specs.declared.replies.Values.TheVariants.{SourceStatus, State}
use Rattle.apex_types.specs.declared.rows.ChannelRow.{ChannelRow}
use Rattle.apex_model.specs.Channels.{Sample, PortSystem, PortOutcome, channel_in, granted, is_made, port_number, write_at_end, write_sampling_message, updated_at, read_sample, on_sample, read_updated, read_conditional, destination_status, current_status}
use Rattle.apex_model.specs.Outcomes.{accepted, refused, bare_refusal, refuse_with, refuse_if_with}
use Rattle.apex_model.specs.Tables.{Port, End, source_end, destination_end, ports, ports_of}
use Rattle.sampling_ext.specs.Steps.{LeadsTo, LeadsToNone, HasMessage, HasNoMessage}
use Rattle.sampling_ext.specs.Places.{numbered_in}
use Rattle.sampling_ext.proofs.Lists.{looked_up}

-- what is left after each test
abbrev with_row : Rows → (Port → ChannelRow → PortOutcome) → Port → PortOutcome
with_row table rest port = granted (slice_get table.channels port.channel) (refuse_with InvalidParam) (rest port)

abbrev with_port : Rows → (Port → ChannelRow → PortOutcome) → ℕ → PortOutcome
with_port table rest k = granted (slice_get (ports table) k) (refuse_with InvalidParam) (with_row table rest)

abbrev with_made : Rows → PortSystem → (Port → ChannelRow → PortOutcome) → ℕ → PortOutcome
with_made table system rest k = refuse_if_with (not (is_made system k)) InvalidParam (with_port table rest k)

number-of : (table : Rows) (list : List Port) (p id k : ℕ) → list ≡ ports table → (id == 0) ≡ false → Some k ≡ numbered_in list p (id - 1) → port_number table p id ≡ Some k
number-of table list p id k of_table some e =
    ap (λ (b : Bool). if b then None else slice_get (ports_of table p) (id - 1)) some ∙ sym (e ∙ ap (λ (xs : List Port). numbered_in xs p (id - 1)) of_table)

-- the row that was looked up
pub row-of : (table : Rows) (rows : List ChannelRow) (k channel : ℕ) (row : ChannelRow) → rows ≡ table.channels → k ≡ channel → true ≡ nat_lt k (length rows) → row ≡ get_or rows k row
    → slice_get table.channels channel ≡ Some row
row-of table rows k channel row rows_are is inside here = ap (slice_get table.channels) (sym is) ∙ ap (λ (xs : List ChannelRow). slice_get xs k) (sym rows_are) ∙ looked_up rows k row inside here

-- an id leads to a created port
pub leads : (table : Rows) (system : PortSystem) (list : List Port) (p id k : ℕ) (port : Port) (row : ChannelRow) (channel : ℕ) (end : End) → list ≡ ports table → (id == 0) ≡ false
    → Some k ≡ numbered_in list p (id - 1) → is_made system k ≡ true → slice_get list k ≡ Some port → slice_get table.channels port.channel ≡ Some row
    → port.channel ≡ channel → port.end ≡ end → LeadsTo table system p id channel end row
leads table system list p id k port row channel end of_table some number made at in_row channel_is end_is = record {
  port = port;
  channel_is = channel_is;
  end_is = end_is;
  row_is = ap (slice_get table.channels) (sym channel_is) ∙ in_row;
  goes_on = λ rest.
      ap (λ (o : Option ℕ). granted o (refuse_with InvalidParam) (with_made table system rest)) (number-of table list p id k of_table some number)
      ∙ ap (λ (b : Bool). refuse_if_with (not b) InvalidParam (with_port table rest k)) made
      ∙ ap (λ (o : Option Port). granted o (refuse_with InvalidParam) (with_row table rest)) (sym (ap (λ (xs : List Port). slice_get xs k) of_table) ∙ at)
      ∙ ap (λ (o : Option ChannelRow). granted o (refuse_with InvalidParam) (rest port)) in_row;
}

-- an end's status
abbrev status_at : PortSystem → ℕ → ℕ → ChannelRow → End → PortOutcome
status_at system now channel row end = elim end [
  | source_end ↦ accepted system (SourceStatus row.size row.refresh)
  | destination_end d ↦ destination_status system now channel row d (channel_in system channel).sample
]

abbrev unless_old : PortSystem → ℕ → ℕ → ChannelRow → ℕ → Sample → Bool → PortOutcome
unless_old system now channel row d sample old =
    if old then refused (bare_refusal NoAction (State (updated_at (channel_in system channel) d))) else read_sample system now channel row d sample

module _ (table : Rows) (system : PortSystem) (now p id : ℕ) where
  pub write-none : (bytes : List ℕ) → LeadsToNone table system p id → write_sampling_message table system now p id bytes ≡ refuse_with InvalidParam
  unfolding write_sampling_message
  write-none bytes none = none (λ port row. write_at_end system now port.channel row bytes port.end)

  pub updated-none : LeadsToNone table system p id → read_updated table system now p id ≡ refuse_with InvalidParam
  unfolding read_updated
  updated-none none = none (λ port row. on_sample system port (λ d sample. read_sample system now port.channel row d sample))

  pub conditional-none : (since : ℕ) → LeadsToNone table system p id → read_conditional table system now p id since ≡ refuse_with InvalidParam
  unfolding read_conditional
  conditional-none since none = none (λ port row. on_sample system port (λ d sample. unless_old system now port.channel row d sample (nat_le sample.time since)))

  pub status-none : LeadsToNone table system p id → current_status table system now p id ≡ refuse_with InvalidParam
  unfolding current_status
  status-none none = none (λ port row. status_at system now port.channel row port.end)

  module _ (channel : ℕ) (end : End) (row : ChannelRow) (to : LeadsTo table system p id channel end row) where
    pub write-to : (bytes : List ℕ) → write_sampling_message table system now p id bytes ≡ write_at_end system now channel row bytes end
    unfolding write_sampling_message
    write-to bytes =
        to.goes_on (λ port row. write_at_end system now port.channel row bytes port.end)
        ∙ ap (λ (k : ℕ). write_at_end system now k row bytes to.port.end) to.channel_is
        ∙ ap (λ (e : End). write_at_end system now channel row bytes e) to.end_is

    pub status-to : current_status table system now p id ≡ status_at system now channel row end
    unfolding current_status
    status-to =
        to.goes_on (λ port row. status_at system now port.channel row port.end)
        ∙ ap (λ (k : ℕ). status_at system now k row to.port.end) to.channel_is
        ∙ ap (λ (e : End). status_at system now channel row e) to.end_is

    pub status-at-source : end ≡ source_end → current_status table system now p id ≡ accepted system (SourceStatus row.size row.refresh)
    status-at-source is = status-to ∙ ap (λ (e : End). status_at system now channel row e) is

    pub status-at-destination : (d : ℕ) → end ≡ destination_end d → current_status table system now p id ≡ destination_status system now channel row d (channel_in system channel).sample
    status-at-destination d is = status-to ∙ ap (λ (e : End). status_at system now channel row e) is

    pub updated-empty : (told : Reply) → HasNoMessage system channel end told → read_updated table system now p id ≡ refused told
    unfolding read_updated
    updated-empty told empty =
        to.goes_on (λ port row. on_sample system port (λ d sample. read_sample system now port.channel row d sample))
        ∙ empty.refused_so to.port to.channel_is to.end_is (λ d sample. read_sample system now to.port.channel row d sample)

    pub conditional-empty : (since : ℕ) (told : Reply) → HasNoMessage system channel end told → read_conditional table system now p id since ≡ refused told
    unfolding read_conditional
    conditional-empty since told empty =
        to.goes_on (λ port row. on_sample system port (λ d sample. unless_old system now port.channel row d sample (nat_le sample.time since)))
        ∙ empty.refused_so to.port to.channel_is to.end_is (λ d sample. unless_old system now to.port.channel row d sample (nat_le sample.time since))

    module _ (d time : ℕ) (has : HasMessage system channel end d time) where
      pub updated-read : read_updated table system now p id ≡ read_sample system now channel row d has.sample
      unfolding read_updated
      updated-read =
          to.goes_on (λ port row. on_sample system port (λ d sample. read_sample system now port.channel row d sample))
          ∙ has.goes_on to.port to.channel_is to.end_is (λ d sample. read_sample system now to.port.channel row d sample)
          ∙ ap (λ (k : ℕ). read_sample system now k row d has.sample) to.channel_is

      conditional-by : (since : ℕ) (old : Bool) → nat_le time since ≡ old → read_conditional table system now p id since ≡ unless_old system now channel row d has.sample old
      unfolding read_conditional
      conditional-by since old e =
          to.goes_on (λ port row. on_sample system port (λ d sample. unless_old system now port.channel row d sample (nat_le sample.time since)))
          ∙ has.goes_on to.port to.channel_is to.end_is (λ d sample. unless_old system now to.port.channel row d sample (nat_le sample.time since))
          ∙ ap (λ (k : ℕ). unless_old system now k row d has.sample (nat_le has.sample.time since)) to.channel_is
          ∙ ap (λ (b : Bool). unless_old system now channel row d has.sample b) (ap (λ (t : ℕ). nat_le t since) has.time_is ∙ e)

      pub conditional-old : (since : ℕ) → nat_le time since ≡ true → read_conditional table system now p id since ≡ refused (bare_refusal NoAction (State (updated_at (channel_in system channel) d)))
      conditional-old since e = conditional-by since true e

      pub conditional-read : (since : ℕ) → nat_le time since ≡ false → read_conditional table system now p id since ≡ read_sample system now channel row d has.sample
      conditional-read since e = conditional-by since false e
