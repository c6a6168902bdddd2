use Rattle.std.proofs.Common.{Some, refl, sym, ◌∙◌}
use Rattle.apex_types.specs.declared.codes.Errno.TheVariants.{Ebusy, Emfile}
use Rattle.apex_types.specs.declared.replies.Values.TheVariants.{Number}
use Rattle.apex_model.specs.Outcomes.{success, refusal}
use Rattle.open_handles.specs.NodeHandles.{with_file_slot}
use Rattle.open_handles.specs.Nodes as nodes
use Rattle.service_parts.proofs.Served.{served-as}
use Rattle.file_services.proofs.OpeningLaws.{open_step, open-busy, open-full, open-done}
use Rattle.file_services.proofs.naming.open_found.Goals as goal

pub returns-then-is_busy : goal.returns-then-is_busy
returns-then-is_busy c = λ stores names within path.
    served-as (open_step c.args.p.0 c.args.mode c.args.tree names) stores c.args.handles.now stores c.args.handles.now (refusal Ebusy)
    stores c.args.handles.now c.refusal.result refl refl c.refusal.ensures
    (open-busy stores c.args.handles.now c.args.p.0 c.args.mode c.args.tree names within c.args.file path (sym c.is_busy.ensures ∙ c.if-is_busy.true))

pub returns-in-None : goal.returns-in-None
returns-in-None c = λ stores names within path.
    served-as (open_step c.args.p.0 c.args.mode c.args.tree names) stores c.args.handles.now stores c.args.handles.now (refusal Emfile)
    stores c.open_file.new.self c.refusal-in-None.result refl c.in-None.ensures.full c.refusal-in-None.ensures
    (open-full stores c.args.handles.now c.args.p.0 c.args.mode c.args.tree names within c.args.file path (sym c.is_busy.ensures ∙ c.if-is_busy.false) (sym c.in-None.ensures.number))

pub returns-in-Some : goal.returns-in-Some
returns-in-Some c = λ stores names within path.
    served-as (open_step c.args.p.0 c.args.mode c.args.tree names) stores c.args.handles.now stores
    (with_file_slot c.args.handles.now c.args.p.0 c.in-Some.id (Some (nodes.opened_file c.args.tree c.args.file c.args.mode))) (success (Number c.in-Some.id))
    stores c.open_file.new.self c.success.result refl c.in-Some.ensures.opened c.success.ensures
    (open-done stores c.args.handles.now c.args.p.0 c.args.mode c.args.tree names within c.args.file path c.in-Some.id (sym c.is_busy.ensures ∙ c.if-is_busy.false) (sym c.in-Some.ensures.number))
