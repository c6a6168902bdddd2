use Rattle.std.proofs.Common.{Some, None, refl, sym, ◌∙◌}
use Rattle.apex_types.specs.declared.replies.Values.TheVariants.{Empty}
use Rattle.apex_types.specs.declared.codes.Errno.TheVariants.{Ebadf, Estale}
use Rattle.apex_model.specs.DirectoryStep.{rewind_directory as rewind_step}
use Rattle.apex_model.specs.Outcomes.{success, refusal}
use Rattle.open_handles.specs.NodeHandles.{with_directory_slot}
use Rattle.service_parts.proofs.Served.{served-as}
use Rattle.dir_services.proofs.ListingLaws.{rewind-bad_id, rewind-stale, rewind-done, last-set}
use Rattle.dir_services.proofs.listing.rewind_directory.Goals as goal

pub returns-in_default : goal.returns-in_default
returns-in_default c = λ stores.
    served-as (λ fs. rewind_step fs c.args.p.0 c.args.id) stores c.args.handles.now stores c.args.handles.now (refusal Ebadf) stores c.args.handles.now c.refusal.result refl refl c.refusal.ensures
    (rewind-bad_id stores c.args.handles.now c.args.p.0 c.args.id (sym c.directory.ensures ∙ c.in_default.is))

pub returns-in_default-directory : goal.returns-in_default-directory
returns-in_default-directory c = λ stores.
    served-as (λ fs. rewind_step fs c.args.p.0 c.args.id) stores c.args.handles.now stores c.args.handles.now (refusal Estale)
    stores c.args.handles.now c.refusal-in_default-directory.result refl refl c.refusal-in_default-directory.ensures
    (rewind-stale stores c.args.handles.now c.args.p.0 c.args.id c.in-Some.handle (sym c.directory.ensures ∙ c.in-Some.is) c.in_default-directory.is)

pub returns : goal.returns
returns c = λ stores.
    let at = sym c.directory.ensures ∙ c.in-Some.is in
    served-as (λ fs. rewind_step fs c.args.p.0 c.args.id) stores c.args.handles.now stores (with_directory_slot c.args.handles.now c.args.p.0 c.args.id (Some (record c.in-Some.handle { last = None }))) (success Empty)
    stores c.set_last.new.self c.success.result refl (last-set c.args.handles.now c.set_last.new.self c.args.p.0 c.args.id c.in-Some.handle None None at refl c.set_last.ensures) c.success.ensures
    (rewind-done stores c.args.handles.now c.args.p.0 c.args.id c.in-Some.handle at c.in-Some-directory.field-0 c.in-Some-directory.is)
