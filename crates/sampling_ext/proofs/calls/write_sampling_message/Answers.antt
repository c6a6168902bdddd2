use Rattle.apex_types.specs.declared.codes.ReturnCode.TheVariants.{InvalidParam}
use Rattle.apex_types.specs.declared.replies.Values.TheVariants.{Empty}
use Rattle.sampling_ext.proofs.Leading.{write-none, write-to}
use Rattle.sampling_ext.proofs.Limits.{size_limit}
use Rattle.sampling_ext.proofs.Served.{refused-served, served-as}
use Rattle.sampling_ext.proofs.calls.write_sampling_message.Goals as goal

pub returns-in_default : goal.returns-in_default
returns-in_default c =
    refused-served _ c.args.ports.now c.refused.result InvalidParam Empty
    (write-none c.args.table.now c.args.ports.now.system c.args.now c.args.p.0 c.args.id c.args.bytes.now c.in_default.ensures.none) c.refused.ensures

pub write_at_end-requires-clause-size : goal.write_at_end-requires-clause-size
write_at_end-requires-clause-size c = size_limit c.args.table.now c.in-Some.place.channel c.in-Some.row.now c.requires.accepted c.in-Some.ensures.some.row_is

pub returns : goal.returns
returns c =
    served-as _ _ c.args.ports.now c.write_at_end.new.ports c.write_at_end.result
    (write-to c.args.table.now c.args.ports.now.system c.args.now c.args.p.0 c.args.id c.in-Some.place.channel _ c.in-Some.row.now c.in-Some.ensures.some c.args.bytes.now)
    c.write_at_end.ensures
