use Rattle.std.proofs.Common.{sym, ◌∙◌, arith}
use Rattle.apex_types.specs.declared.codes.ReturnCode.TheVariants.{InvalidMode, InvalidConfig, NoAction}
use Rattle.apex_types.specs.declared.replies.Values.TheVariants.{Empty, Number}
use Rattle.sampling_ext.proofs.Creating.{create-normal, create-unknown, create-nowhere, create-again, create-new}
use Rattle.sampling_ext.proofs.Served.{refused-served, accepted-served}
use Rattle.sampling_ext.proofs.calls.create_port.Goals as goal

pub returns-then-is_normal : goal.returns-then-is_normal
returns-then-is_normal c = λ table of_table.
    refused-served _ c.args.ports.now c.refused.result InvalidMode Empty
    (create-normal table c.args.ports.now.system c.args.ports.now.ports of_table.listed c.args.p.0 c.args.mode c.args.name.now (sym c.is_normal.ensures ∙ c.if-is_normal.true))
    c.refused.ensures

pub returns-in_default : goal.returns-in_default
returns-in_default c = λ table of_table.
    refused-served _ c.args.ports.now c.refused-in_default.result InvalidConfig Empty
    (create-unknown table c.args.ports.now.system c.args.ports.now.ports of_table.listed c.args.p.0 c.args.mode c.args.name.now (sym c.is_normal.ensures ∙ c.if-is_normal.false)
    (sym c.in_default.is ∙ c.place_named.ensures.value))
    c.refused-in_default.ensures

pub returns-in_default-number_of : goal.returns-in_default-number_of
returns-in_default-number_of c = λ table of_table.
    refused-served _ c.args.ports.now c.refused-in_default-number_of.result InvalidConfig Empty
    (create-nowhere table c.args.ports.now.system c.args.ports.now.ports of_table.listed c.args.p.0 c.args.mode c.args.name.now c.in-Some.place
    (sym c.is_normal.ensures ∙ c.if-is_normal.false) (sym c.in-Some.is ∙ c.place_named.ensures.value) (sym c.in_default-number_of.is ∙ c.number_of.ensures.value))
    c.refused-in_default-number_of.ensures

pub returns-then-is_created : goal.returns-then-is_created
returns-then-is_created c = λ table of_table.
    refused-served _ c.args.ports.now c.refused-then-is_created.result NoAction Empty
    (create-again table c.args.ports.now.system c.args.ports.now.ports of_table.listed c.args.p.0 c.args.mode c.args.name.now c.in-Some.place c.in-Some-number_of.k
    (sym c.is_normal.ensures ∙ c.if-is_normal.false) (sym c.in-Some.is ∙ c.place_named.ensures.value) (sym c.in-Some-number_of.is ∙ c.number_of.ensures.value) (sym c.is_created.ensures ∙ c.if-is_created.true))
    c.refused-then-is_created.ensures

pub overflow_cast-place : goal.overflow_cast-place
overflow_cast-place c =
    let few = c.requires in
    let within = c.in-Some.ensures.within in
    omega arith

pub overflow_add-place : goal.overflow_add-place
overflow_add-place c =
    let few = c.requires in
    let within = c.in-Some.ensures.within in
    omega arith

pub returns : goal.returns
returns c = λ table of_table.
    accepted-served _ c.args.ports.now c.mark_created.new.self c.success.result _ (Number _)
    (create-new table c.args.ports.now.system c.args.ports.now.ports of_table.listed c.args.p.0 c.args.mode c.args.name.now c.in-Some.place c.in-Some-number_of.k
    (sym c.is_normal.ensures ∙ c.if-is_normal.false) (sym c.in-Some.is ∙ c.place_named.ensures.value) (sym c.in-Some-number_of.is ∙ c.number_of.ensures.value) (sym c.is_created.ensures ∙ c.if-is_created.false))
    c.mark_created.ensures.ports c.mark_created.ensures.system c.success.ensures
