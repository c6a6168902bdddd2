use Rattle.std.proofs.Common.{◌≡◌, true, false, ◌∙◌, ap, arith}
use Rattle.std.specs.Prelude.{nat_le}
use Rattle.std.proofs.lemmas.Bool.Decides.{nat_tests}
use Rattle.apex_types.specs.declared.codes.ReturnCode.TheVariants.{InvalidParam, NoAction}
use Rattle.apex_types.specs.declared.replies.Updated.{Updated}
use Rattle.apex_types.specs.declared.replies.Values.TheVariants.{Empty, State}
use Rattle.apex_model.specs.Channels.{Channel, updated_at}
use Rattle.apex_model.specs.Outcomes.{bare_refusal}
use Rattle.sampling_ext.proofs.Leading.{conditional-none, conditional-empty, conditional-old, conditional-read}
use Rattle.sampling_ext.proofs.Served.{refused-served, refusal-served, served-as}
use Rattle.sampling_ext.proofs.calls.read_conditional.Goals as goal

pub returns-in_default : goal.returns-in_default
returns-in_default c =
    refused-served _ c.args.ports.now c.refused.result InvalidParam Empty
    (conditional-none c.args.table.now c.args.ports.now.system c.args.now c.args.p.0 c.args.id c.args.since c.in_default.ensures.none) c.refused.ensures

pub returns-in-Err : goal.returns-in-Err
returns-in-Err c =
    refusal-served _ c.args.ports.now c.in-Err.reply
    (conditional-empty c.args.table.now c.args.ports.now.system c.args.now c.args.p.0 c.args.id c.in-Some.place.channel _ c.in-Some.row.now c.in-Some.ensures.some c.args.since c.in-Err.reply c.in-Err.ensures)
    c.in-Err.ensures.tellable

pub returns-then-time-since : goal.returns-then-time-since
returns-then-time-since c =
    let old : nat_le c.in-Ok.found.1 c.args.since ≡ true = grind (arith, nat_tests) in
    refused-served _ c.args.ports.now c.refused_with.result NoAction (State _)
    (conditional-old c.args.table.now c.args.ports.now.system c.args.now c.args.p.0 c.args.id c.in-Some.place.channel _ c.in-Some.row.now c.in-Some.ensures.some c.in-Ok.found.0 c.in-Ok.found.1 c.in-Ok.ensures c.args.since old)
    (c.refused_with.ensures ∙ ap (λ (u : Updated). bare_refusal NoAction (State u)) (c.updated-updated.ensures ∙ ap (λ (channel : Channel). updated_at channel c.in-Ok.found.0) c.channel.ensures))

pub returns : goal.returns
returns c =
    let has = c.in-Ok.ensures in
    let late : nat_le c.in-Ok.found.1 c.args.since ≡ false = grind (arith, nat_tests) in
    served-as _ _ c.args.ports.now c.read_sample.new.ports c.read_sample.result
    (conditional-read c.args.table.now c.args.ports.now.system c.args.now c.args.p.0 c.args.id c.in-Some.place.channel _ c.in-Some.row.now c.in-Some.ensures.some c.in-Ok.found.0 c.in-Ok.found.1 has c.args.since late)
    (c.read_sample.ensures has.sample has.held has.time_is)
