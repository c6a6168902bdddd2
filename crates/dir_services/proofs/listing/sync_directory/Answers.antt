use Rattle.std.proofs.Common.{refl, sym, ◌∙◌}
use Rattle.apex_types.specs.declared.replies.Values.TheVariants.{Empty}
use Rattle.apex_types.specs.declared.codes.Errno.TheVariants.{Ebadf, Estale}
use Rattle.apex_model.specs.DirectoryStep.{sync_directory as sync_step}
use Rattle.apex_model.specs.Outcomes.{success, refusal}
use Rattle.service_parts.proofs.Served.{served-as}
use Rattle.dir_services.proofs.ListingLaws.{sync-bad_id, sync-stale, sync-done}
use Rattle.dir_services.proofs.listing.sync_directory.Goals as goal

pub returns-in_default : goal.returns-in_default
returns-in_default c = λ stores.
    served-as (λ fs. sync_step fs c.args.p.0 c.args.id) stores c.args.handles.now stores c.args.handles.now (refusal Ebadf) stores c.args.handles.now c.refusal.result refl refl c.refusal.ensures
    (sync-bad_id stores c.args.handles.now c.args.p.0 c.args.id (sym c.directory.ensures ∙ c.in_default.is))

pub returns-in_default-directory : goal.returns-in_default-directory
returns-in_default-directory c = λ stores.
    served-as (λ fs. sync_step fs c.args.p.0 c.args.id) stores c.args.handles.now stores c.args.handles.now (refusal Estale)
    stores c.args.handles.now c.refusal-in_default-directory.result refl refl c.refusal-in_default-directory.ensures
    (sync-stale stores c.args.handles.now c.args.p.0 c.args.id c.in-Some.handle (sym c.directory.ensures ∙ c.in-Some.is) c.in_default-directory.is)

pub returns : goal.returns
returns c = λ stores.
    served-as (λ fs. sync_step fs c.args.p.0 c.args.id) stores c.args.handles.now stores c.args.handles.now (success Empty) stores c.args.handles.now c.success.result refl refl c.success.ensures
    (sync-done stores c.args.handles.now c.args.p.0 c.args.id c.in-Some.handle (sym c.directory.ensures ∙ c.in-Some.is) c.in-Some-directory.field-0 c.in-Some-directory.is)
