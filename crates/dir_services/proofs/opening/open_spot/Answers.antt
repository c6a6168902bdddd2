use Rattle.std.proofs.Common.{◌≡◌, [], Some, refl, sym, ap}
use Rattle.apex_types.specs.declared.codes.Errno.TheVariants.{Enoent, Enotdir}
use Rattle.apex_model.specs.DirectoryStep.{open_directory_at}
use Rattle.apex_model.specs.FileSystem.{tree_in}
use Rattle.apex_model.specs.Outcomes.{refusal}
use Rattle.apex_model.specs.Trees.{standing_at}
use Rattle.service_parts.proofs.Served.{served-as}
use Rattle.dir_services.proofs.OpeningLaws.{open-nothing, open-file, open-directory, open-root}
use Rattle.dir_services.proofs.PathLaws.{directory-path, root-path}
use Rattle.dir_services.proofs.opening.open_spot.Goals as goal

pub returns-in-Free : goal.returns-in-Free
returns-in-Free c = λ stores names low at.
    served-as (λ fs. open_directory_at fs c.args.p.0 (record { tree = c.args.tree; names = names }) (standing_at (tree_in fs c.args.tree) names)) stores c.args.handles.now
    stores c.args.handles.now (refusal Enoent) stores c.args.handles.now c.refusal.result refl refl c.refusal.ensures
    (open-nothing stores c.args.handles.now c.args.p.0 c.args.tree names low c.args.spot at c.in-Free.parent c.in-Free.is)

pub returns-in-File : goal.returns-in-File
returns-in-File c = λ stores names low at.
    served-as (λ fs. open_directory_at fs c.args.p.0 (record { tree = c.args.tree; names = names }) (standing_at (tree_in fs c.args.tree) names)) stores c.args.handles.now
    stores c.args.handles.now (refusal Enotdir) stores c.args.handles.now c.refusal-in-File.result refl refl c.refusal-in-File.ensures
    (open-file stores c.args.handles.now c.args.p.0 c.args.tree names low c.args.spot at c.in-File.parent c.in-File.node c.in-File.name c.in-File.is)

pub returns-in-Root : goal.returns-in-Root
returns-in-Root c = λ stores names low at.
    let root : [] ≡ names = sym (root-path stores c.args.handles.now c.args.tree names low c.args.spot at c.in-Root.is) in
    open-root stores c.args.handles.now c.args.p.0 c.args.tree names low c.args.spot at c.open_found.new.handles c.open_found.result
    (c.open_found.ensures stores names (ap Some root)) c.in-Root.is

pub returns-in-Directory : goal.returns-in-Directory
returns-in-Directory c = λ stores names low at.
    open-directory stores c.args.handles.now c.args.p.0 c.args.tree names low c.args.spot at c.open_found-in-Directory.new.handles c.open_found-in-Directory.result
    (c.open_found-in-Directory.ensures stores names (directory-path stores c.args.handles.now c.args.tree names low c.args.spot at c.in-Directory.parent c.in-Directory.node c.in-Directory.name c.in-Directory.is))
    c.in-Directory.parent c.in-Directory.node c.in-Directory.name c.in-Directory.is
