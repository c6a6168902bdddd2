use Rattle.apex_types.specs.declared.codes.ReturnCode.TheVariants.{InvalidParam}
use Rattle.apex_types.specs.declared.replies.Values.TheVariants.{Empty}
use Rattle.sampling_ext.proofs.Leading.{updated-none, updated-empty, updated-read}
use Rattle.sampling_ext.proofs.Served.{refused-served, refusal-served, served-as}
use Rattle.sampling_ext.proofs.calls.read_updated.Goals as goal

pub returns-in_default : goal.returns-in_default
returns-in_default c =
    refused-served _ c.args.ports.now c.refused.result InvalidParam Empty
    (updated-none c.args.table.now c.args.ports.now.system c.args.now c.args.p.0 c.args.id c.in_default.ensures.none) c.refused.ensures

pub returns-in-Err : goal.returns-in-Err
returns-in-Err c =
    refusal-served _ c.args.ports.now c.in-Err.reply
    (updated-empty c.args.table.now c.args.ports.now.system c.args.now c.args.p.0 c.args.id c.in-Some.place.channel _ c.in-Some.row.now c.in-Some.ensures.some c.in-Err.reply c.in-Err.ensures)
    c.in-Err.ensures.tellable

pub returns-in-Ok : goal.returns-in-Ok
returns-in-Ok c =
    let has = c.in-Ok.ensures in
    served-as _ _ c.args.ports.now c.read_sample.new.ports c.read_sample.result
    (updated-read c.args.table.now c.args.ports.now.system c.args.now c.args.p.0 c.args.id c.in-Some.place.channel _ c.in-Some.row.now c.in-Some.ensures.some c.in-Ok.d c.in-Ok.time has)
    (c.read_sample.ensures has.sample has.held has.time_is)
