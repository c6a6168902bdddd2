use Rattle.std.proofs.Common.{ℕ, refl, ◌∙◌, ap}
use Rattle.apex_types.specs.declared.codes.ReturnCode.TheVariants.{InvalidParam}
use Rattle.apex_types.specs.declared.replies.Values.TheVariants.{LogbookStatus}
use Rattle.apex_model.specs.Logbooks.{LogbookSystem}
use Rattle.apex_model.specs.Outcomes.{success}
use Rattle.logbook_services.proofs.Rows.{within_logs}
use Rattle.logbook_services.proofs.Served.{refused-answered, accepted-answered}
use Rattle.logbook_services.proofs.Services.{status-none, status-at}
use Rattle.logbook_services.proofs.calls.get_logbook_status.Goals as goal

pub returns-in_default : goal.returns-in_default
returns-in_default c =
    refused-answered c.args.table.now _ c.args.logs.now c.args.made.now c.refused.result InvalidParam
    (λ image system stands. status-none c.args.table.now c.args.made.now c.args.p.0 c.args.id system stands.marks c.in_default.ensures.none) c.refused.ensures

pub counts-counts-requires : goal.counts-counts-requires
counts-counts-requires c = within_logs c.args.table.now c.args.logs.now c.in-Some.k c.in-Some.row.now c.requires.of_table.sites c.in-Some.ensures.some.row_is

pub returns : goal.returns
returns c =
    let row = c.in-Some.row.now in
    let counts = c.counts-counts.result in
    let after : LogbookSystem → LogbookSystem = λ system. system in
    accepted-answered c.args.table.now _ c.args.logs.now c.args.made.now c.args.logs.now c.args.made.now c.success.result after (LogbookStatus row.message_size row.logged row.in_progress counts.logged counts.progress)
    (λ image system stands. status-at c.args.table.now c.args.made.now c.args.p.0 c.args.id system stands.marks c.in-Some.k row c.in-Some.ensures.some counts (c.counts-counts.ensures.told image system.books stands.stored))
    (λ image system stands. stands) refl refl
    (c.success.ensures
    ∙ ap (λ (n : ℕ). success (LogbookStatus n c.from-2.result c.from-3.result counts.logged counts.progress)) c.from.ensures
    ∙ ap (λ (n : ℕ). success (LogbookStatus row.message_size n c.from-3.result counts.logged counts.progress)) c.from-2.ensures
    ∙ ap (λ (n : ℕ). success (LogbookStatus row.message_size row.logged n counts.logged counts.progress)) c.from-3.ensures)
