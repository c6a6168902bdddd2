use Rattle.std.proofs.Common.{None, refl, sym, ◌∙◌}
use Rattle.apex_types.specs.declared.replies.Values.TheVariants.{Empty}
use Rattle.apex_types.specs.declared.codes.Errno.TheVariants.{Ebadf}
use Rattle.apex_model.specs.FileStep.{close_file as close_step}
use Rattle.apex_model.specs.Handles.{handle_at}
use Rattle.apex_model.specs.Outcomes.{success, refusal}
use Rattle.open_handles.specs.NodeHandles.{handles_of, with_file_slot}
use Rattle.service_parts.proofs.Served.{some-there, none-there, served-as}
use Rattle.file_services.proofs.ClosingLaws.{close-bad_id, close-done}
use Rattle.file_services.proofs.closing.close_file.Goals as goal

pub returns-then-close_file : goal.returns-then-close_file
returns-then-close_file c = λ stores.
    let there = some-there (handle_at (handles_of c.args.handles.now c.args.p.0).files c.args.id) (sym c.close_file.ensures.open ∙ c.if-close_file.true) in
    served-as (λ fs. close_step fs c.args.p.0 c.args.id) stores c.args.handles.now stores (with_file_slot c.args.handles.now c.args.p.0 c.args.id None) (success Empty)
    stores c.close_file.new.self c.success.result refl c.if-close_file.ensures.closed c.success.ensures
    (close-done stores c.args.handles.now c.args.p.0 c.args.id there.0 there.1)

pub returns-else-close_file : goal.returns-else-close_file
returns-else-close_file c = λ stores.
    let none = none-there (handle_at (handles_of c.args.handles.now c.args.p.0).files c.args.id) (sym c.close_file.ensures.open ∙ c.if-close_file.false) in
    served-as (λ fs. close_step fs c.args.p.0 c.args.id) stores c.args.handles.now stores c.args.handles.now (refusal Ebadf)
    stores c.close_file.new.self c.refusal.result refl c.if-close_file.ensures.kept c.refusal.ensures
    (close-bad_id stores c.args.handles.now c.args.p.0 c.args.id none)
