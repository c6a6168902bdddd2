use Rattle.std.proofs.Common.{◌+◌, Bool, List, false, refl, sym, ◌∙◌, ap}
use Rattle.std.specs.Prelude.{slice_index_or}
use Rattle.apex_types.specs.declared.codes.ReturnCode.TheVariants.{InvalidConfig}
use Rattle.apex_types.specs.declared.replies.Values.TheVariants.{Number}
use Rattle.apex_model.specs.Logbooks.{LogbookSystem}
use Rattle.logbook_services.proofs.Served.{refused-answered, accepted-answered}
use Rattle.logbook_services.proofs.Services.{id-unknown, id-unmade, id-made}
use Rattle.logbook_services.proofs.calls.get_logbook_id.Goals as goal

pub returns-in_default : goal.returns-in_default
returns-in_default c = λ logs.
    refused-answered c.args.table.now _ logs c.args.made.now c.refused.result InvalidConfig
    (λ image system stands. id-unknown c.args.table.now c.args.p.0 c.args.name.now system c.in_default.ensures.none) c.refused.ensures

pub returns-then-not-is_made : goal.returns-then-not-is_made
returns-then-not-is_made c = λ logs.
    refused-answered c.args.table.now _ logs c.args.made.now c.refused-then-not-is_made.result InvalidConfig
    (λ image system stands. id-unmade c.args.table.now c.args.p.0 c.args.name.now system c.in-Some.place c.in-Some.k c.in-Some.ensures.some
    (ap (λ (marks : List Bool). slice_index_or marks c.in-Some.k false) (sym stands.marks) ∙ sym c.is_made.ensures ∙ c.if-not-is_made.true))
    c.refused-then-not-is_made.ensures

pub returns : goal.returns
returns c = λ logs.
    let after : LogbookSystem → LogbookSystem = λ system. system in
    accepted-answered c.args.table.now _ logs c.args.made.now logs c.args.made.now c.success.result after (Number (c.in-Some.place + 1))
    (λ image system stands. id-made c.args.table.now c.args.p.0 c.args.name.now system c.in-Some.place c.in-Some.k c.in-Some.ensures.some
    (ap (λ (marks : List Bool). slice_index_or marks c.in-Some.k false) (sym stands.marks) ∙ sym c.is_made.ensures ∙ c.if-not-is_made.false))
    (λ image system stands. stands) refl refl c.success.ensures
