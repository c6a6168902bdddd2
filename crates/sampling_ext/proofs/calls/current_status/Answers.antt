use Rattle.std.proofs.Common.{refl, sym, ◌∙◌, ap}
use Rattle.apex_types.specs.declared.codes.ReturnCode.TheVariants.{InvalidParam}
use Rattle.apex_types.specs.declared.replies.Values.TheVariants.{Empty, SourceStatus}
use Rattle.apex_model.specs.Channels.{Channel, destination_status}
use Rattle.sampling_ext.specs.declared.port.ChannelEnd.{ChannelEnd}
use Rattle.sampling_ext.specs.Ends.{end_of}
use Rattle.sampling_ext.proofs.Leading.{status-none, status-at-source, status-at-destination}
use Rattle.sampling_ext.proofs.Served.{refused-served, accepted-served}
use Rattle.sampling_ext.proofs.calls.current_status.Goals as goal

pub returns-in_default : goal.returns-in_default
returns-in_default c =
    refused-served _ c.args.ports.now c.refused.result InvalidParam Empty
    (status-none c.args.table.now c.args.ports.now.system c.args.now c.args.p.0 c.args.id c.in_default.ensures.none) c.refused.ensures

pub returns-in-Source : goal.returns-in-Source
returns-in-Source c =
    accepted-served _ c.args.ports.now c.args.ports.now c.success.result c.args.ports.now.system (SourceStatus _ _)
    (status-at-source c.args.table.now c.args.ports.now.system c.args.now c.args.p.0 c.args.id c.in-Some.place.channel _ c.in-Some.row.now c.in-Some.ensures.some
    (ap (λ (e : ChannelEnd). end_of e) c.in-Source.is))
    refl refl c.success.ensures

pub returns-in-Destination : goal.returns-in-Destination
returns-in-Destination c =
    let system = c.args.ports.now.system in
    accepted-served _ c.args.ports.now c.args.ports.now c.success-in-Destination.result system c.destination_status.result
    (status-at-destination c.args.table.now system c.args.now c.args.p.0 c.args.id c.in-Some.place.channel _ c.in-Some.row.now c.in-Some.ensures.some c.in-Destination.d
    (ap (λ (e : ChannelEnd). end_of e) c.in-Destination.is)
    ∙ ap (λ (channel : Channel). destination_status system c.args.now c.in-Some.place.channel c.in-Some.row.now c.in-Destination.d channel.sample) (sym c.channel-channel.ensures)
    ∙ c.destination_status.ensures system c.in-Some.place.channel c.channel-channel.ensures)
    refl refl c.success-in-Destination.ensures
