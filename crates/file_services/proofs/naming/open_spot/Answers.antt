use Rattle.std.proofs.Common.{refl, subst}
use Rattle.apex_types.specs.declared.codes.Errno.TheVariants.{Enoent, Eisdir}
use Rattle.apex_types.specs.declared.fields.Spot.{Spot}
use Rattle.apex_model.specs.Outcomes.{refusal}
use Rattle.file_tree.specs.Entries.{IsSpotAt}
use Rattle.store_model.specs.Systems.{store_at}
use Rattle.service_parts.proofs.Served.{served-as}
use Rattle.file_services.proofs.OpeningLaws.{open_step, open-nothing, open-directory}
use Rattle.file_services.proofs.naming.open_spot.Goals as goal

pub returns-in-Free : goal.returns-in-Free
returns-in-Free c = λ stores names within found.
    let P : Spot → Type 0 = λ spot. IsSpotAt (store_at stores c.args.tree).tree names spot in
    served-as (open_step c.args.p.0 c.args.mode c.args.tree names) stores c.args.handles.now stores c.args.handles.now (refusal Enoent)
    stores c.args.handles.now c.refusal.result refl refl c.refusal.ensures
    (open-nothing stores c.args.handles.now c.args.p.0 c.args.mode c.args.tree names within c.in-Free.parent (subst P c.in-Free.is found))

pub returns-in-Directory : goal.returns-in-Directory
returns-in-Directory c = λ stores names within found.
    let P : Spot → Type 0 = λ spot. IsSpotAt (store_at stores c.args.tree).tree names spot in
    served-as (open_step c.args.p.0 c.args.mode c.args.tree names) stores c.args.handles.now stores c.args.handles.now (refusal Eisdir)
    stores c.args.handles.now c.refusal-in-Directory.result refl refl c.refusal-in-Directory.ensures
    (open-directory stores c.args.handles.now c.args.p.0 c.args.mode c.args.tree names within c.in-Directory.parent c.in-Directory.node c.in-Directory.name (subst P c.in-Directory.is found))

pub returns-in-File : goal.returns-in-File
returns-in-File c = λ stores names within found.
    let P : Spot → Type 0 = λ spot. IsSpotAt (store_at stores c.args.tree).tree names spot in
    c.open_found.ensures stores names within (subst P c.in-File.is found).2
