use Rattle.std.proofs.Common.{◌+◌, Bool, List, true, false, length, refl, sym, ◌∙◌, ap}
use Rattle.std.specs.Prelude.{slice_set, slice_index_or}
use Rattle.std.proofs.lemmas.List.{length-set}
use Rattle.apex_types.specs.declared.codes.ReturnCode.TheVariants.{InvalidMode, InvalidConfig, NoAction}
use Rattle.apex_types.specs.declared.replies.Values.TheVariants.{Number}
use Rattle.apex_model.specs.Logbooks.{LogbookSystem}
use Rattle.logbook_services.proofs.Served.{refused-answered, accepted-answered}
use Rattle.logbook_services.proofs.Services.{create-normal, create-unknown, create-again, create-new}
use Rattle.logbook_services.proofs.calls.create_logbook.Goals as goal

pub returns-then-is_normal : goal.returns-then-is_normal
returns-then-is_normal c = λ logs.
    refused-answered c.args.table.now _ logs c.args.made.now c.refused.result InvalidMode
    (λ image system stands. create-normal c.args.table.now c.args.p.0 c.args.name.now system c.args.mode (sym c.is_normal.ensures ∙ c.if-is_normal.true)) c.refused.ensures

pub returns-in_default : goal.returns-in_default
returns-in_default c = λ logs.
    refused-answered c.args.table.now _ logs c.args.made.now c.refused-in_default.result InvalidConfig
    (λ image system stands. create-unknown c.args.table.now c.args.p.0 c.args.name.now system c.args.mode (sym c.is_normal.ensures ∙ c.if-is_normal.false) c.in_default.ensures.none)
    c.refused-in_default.ensures

pub returns-then-is_made : goal.returns-then-is_made
returns-then-is_made c = λ logs.
    refused-answered c.args.table.now _ logs c.args.made.now c.refused-then-is_made.result NoAction
    (λ image system stands. create-again c.args.table.now c.args.p.0 c.args.name.now system c.args.mode c.in-Some.place c.in-Some.k (sym c.is_normal.ensures ∙ c.if-is_normal.false) c.in-Some.ensures.some
    (ap (λ (marks : List Bool). slice_index_or marks c.in-Some.k false) (sym stands.marks) ∙ sym c.is_made.ensures ∙ c.if-is_made.true))
    c.refused-then-is_made.ensures

pub returns : goal.returns
returns c = λ logs.
    let after : LogbookSystem → LogbookSystem = λ system. record { books = system.books; created = slice_set system.created c.in-Some.k true } in
    accepted-answered c.args.table.now _ logs c.args.made.now logs c.make.new.self c.success.result after (Number (c.in-Some.place + 1))
    (λ image system stands. create-new c.args.table.now c.args.p.0 c.args.name.now system c.args.mode c.in-Some.place c.in-Some.k (sym c.is_normal.ensures ∙ c.if-is_normal.false) c.in-Some.ensures.some
    (ap (λ (marks : List Bool). slice_index_or marks c.in-Some.k false) (sym stands.marks) ∙ sym c.is_made.ensures ∙ c.if-is_made.false))
    (λ image system stands. record { stored = stands.stored; marks = c.make.ensures ∙ ap (λ (marks : List Bool). slice_set marks c.in-Some.k true) stands.marks })
    refl (ap length c.make.ensures ∙ length-set c.args.made.now c.in-Some.k true) c.success.ensures
