use Rattle.std.proofs.Common.{Some, refl, sym, ◌∙◌}
use Rattle.apex_types.specs.declared.replies.Values.TheVariants.{Number}
use Rattle.apex_types.specs.declared.codes.Errno.TheVariants.{Emfile}
use Rattle.apex_model.specs.DirectoryStep.{open_directory_at}
use Rattle.apex_model.specs.Outcomes.{success, refusal}
use Rattle.apex_model.specs.Trees.{directory}
use Rattle.open_handles.specs.NodeHandles.{with_directory_slot}
use Rattle.open_handles.specs.Nodes.{opened_directory}
use Rattle.service_parts.proofs.Served.{served-as}
use Rattle.dir_services.proofs.OpeningLaws.{open-full, open-done}
use Rattle.dir_services.proofs.opening.open_found.Goals as goal

pub returns-in-None : goal.returns-in-None
returns-in-None c = λ stores names at.
    served-as (λ fs. open_directory_at fs c.args.p.0 (record { tree = c.args.tree; names = names }) (Some directory)) stores c.args.handles.now stores c.args.handles.now (refusal Emfile)
    stores c.open_directory.new.self c.refusal.result refl c.in-None.ensures.full c.refusal.ensures
    (open-full stores c.args.handles.now c.args.p.0 c.args.tree names (sym c.open_directory.ensures.number ∙ c.in-None.is))

pub returns-in-Some : goal.returns-in-Some
returns-in-Some c = λ stores names at.
    served-as (λ fs. open_directory_at fs c.args.p.0 (record { tree = c.args.tree; names = names }) (Some directory)) stores c.args.handles.now
    stores (with_directory_slot c.args.handles.now c.args.p.0 c.in-Some.id (Some (opened_directory c.args.tree c.args.found))) (success (Number c.in-Some.id))
    stores c.open_directory.new.self c.success.result refl c.in-Some.ensures.opened c.success.ensures
    (open-done stores c.args.handles.now c.args.p.0 c.args.tree names c.args.found c.in-Some.id at (sym c.open_directory.ensures.number ∙ c.in-Some.is))
