use Rattle.std.proofs.Common.{sym, ◌∙◌, subst}
use Rattle.apex_types.specs.declared.fields.Spot.{Spot}
use Rattle.apex_model.specs.DirectoryStep.{remove_directory_at}
use Rattle.apex_model.specs.FileSystem.{tree_in}
use Rattle.apex_model.specs.Trees.{standing_at}
use Rattle.file_tree.specs.Entries.{TreeValue, IsSpotAt}
use Rattle.tree_store.specs.Stored.{names_of}
use Rattle.service_parts.specs.Places.{model_place}
use Rattle.service_parts.proofs.Closing.{served_step, served_still}
use Rattle.service_parts.proofs.Held.{all_outlined, at_value, there}
use Rattle.service_parts.proofs.Served.{served-told, step-served}
use Rattle.dir_services.proofs.PathLaws.{directory-path, within_stores}
use Rattle.dir_services.proofs.RemovingLaws.{below_root, remove-nothing, remove-file, remove-root, remove-busy, remove-directory, found-below}
use Rattle.dir_services.proofs.removing.remove_spot.Goals as goal

pub returns-in-Free-clause-served : goal.returns-in-Free-clause-served
returns-in-Free-clause-served g c =
    let V = g.R.Rig.tells_view in
    let o = g.R.Rig.state c.args.rig.now in
    let trees = c.args.trees.now in
    let handles = c.args.handles.now in
    let place = model_place c.args.place in
    served_still V g.R.Rig.keeps_cuts o (g.met.R.Rig.sound c.args.rig.now) (λ fs. remove_directory_at fs c.args.p.0 place (standing_at (tree_in fs place.tree) place.names)) ⊥ trees handles c.requires.serving handles c.refusal.result
    (λ stores hold.
    let all = all_outlined V o trees stores hold in
    let found = at_value trees stores all (λ (v : TreeValue). IsSpotAt v place.names c.args.spot) place.tree c.requires.within c.requires.found in
    served-told c.refusal.ensures (remove-nothing stores handles c.args.p.0 place (within_stores trees stores all place.tree c.requires.within) c.args.spot found c.in-Free.parent c.in-Free.is))

pub returns-in-File-clause-served : goal.returns-in-File-clause-served
returns-in-File-clause-served g c =
    let V = g.R.Rig.tells_view in
    let o = g.R.Rig.state c.args.rig.now in
    let trees = c.args.trees.now in
    let handles = c.args.handles.now in
    let place = model_place c.args.place in
    served_still V g.R.Rig.keeps_cuts o (g.met.R.Rig.sound c.args.rig.now) (λ fs. remove_directory_at fs c.args.p.0 place (standing_at (tree_in fs place.tree) place.names)) ⊥ trees handles c.requires.serving handles c.refusal-in-File.result
    (λ stores hold.
    let all = all_outlined V o trees stores hold in
    let found = at_value trees stores all (λ (v : TreeValue). IsSpotAt v place.names c.args.spot) place.tree c.requires.within c.requires.found in
    served-told c.refusal-in-File.ensures
    (remove-file stores handles c.args.p.0 place (within_stores trees stores all place.tree c.requires.within) c.args.spot found c.in-File.parent c.in-File.node c.in-File.name c.in-File.is))

pub returns-in-Root-clause-served : goal.returns-in-Root-clause-served
returns-in-Root-clause-served g c =
    let V = g.R.Rig.tells_view in
    let o = g.R.Rig.state c.args.rig.now in
    let trees = c.args.trees.now in
    let handles = c.args.handles.now in
    let place = model_place c.args.place in
    served_still V g.R.Rig.keeps_cuts o (g.met.R.Rig.sound c.args.rig.now) (λ fs. remove_directory_at fs c.args.p.0 place (standing_at (tree_in fs place.tree) place.names)) ⊥ trees handles c.requires.serving handles c.refusal-in-Root.result
    (λ stores hold.
    let all = all_outlined V o trees stores hold in
    let found = at_value trees stores all (λ (v : TreeValue). IsSpotAt v place.names c.args.spot) place.tree c.requires.within c.requires.found in
    served-told c.refusal-in-Root.ensures (remove-root stores handles c.args.p.0 place (within_stores trees stores all place.tree c.requires.within) c.args.spot found c.in-Root.is))

pub returns-then-holds_directory-clause-served : goal.returns-then-holds_directory-clause-served
returns-then-holds_directory-clause-served g c =
    let V = g.R.Rig.tells_view in
    let o = g.R.Rig.state c.args.rig.now in
    let trees = c.args.trees.now in
    let handles = c.args.handles.now in
    let place = model_place c.args.place in
    let p = c.args.p.0 in
    let node = c.in-Directory.node in
    served_still V g.R.Rig.keeps_cuts o (g.met.R.Rig.sound c.args.rig.now) (λ fs. remove_directory_at fs p place (standing_at (tree_in fs place.tree) place.names)) ⊥ trees handles c.requires.serving handles c.refusal-then-holds_directory.result
    (λ stores hold.
    let all = all_outlined V o trees stores hold in
    let low = within_stores trees stores all place.tree c.requires.within in
    let found = at_value trees stores all (λ (v : TreeValue). IsSpotAt v place.names c.args.spot) place.tree c.requires.within c.requires.found in
    let below = found-below stores handles p place low c.args.spot found c.in-Directory.parent node c.in-Directory.name c.in-Directory.is in
    let path = directory-path stores handles place.tree place.names low c.args.spot found c.in-Directory.parent node c.in-Directory.name c.in-Directory.is in
    served-told c.refusal-then-holds_directory.ensures
    (step-served _ stores handles _ stores handles _ (remove-directory stores handles p place low c.args.spot found c.in-Directory.parent node c.in-Directory.name c.in-Directory.is)
    (remove-busy stores handles p place low node below path (sym c.holds_directory.ensures ∙ c.if-holds_directory.true))))

-- the entry of what was found
pub remove_closed-requires-clause-stands : goal.remove_closed-requires-clause-stands
remove_closed-requires-clause-stands g c = λ store at.
    let P : Spot → Type 0 = λ end. IsSpotAt (names_of store) c.args.place.path.names end in
    let found = subst P c.in-Directory.is (c.requires.found store at) in
    found.2

pub remove_closed-requires-clause-below_root : goal.remove_closed-requires-clause-below_root
remove_closed-requires-clause-below_root g c =
    let tree = there c.args.trees.now c.args.place.tree c.requires.within in
    let P : Spot → Type 0 = λ end. IsSpotAt (names_of tree.0) c.args.place.path.names end in
    let found = subst P c.in-Directory.is (c.requires.found tree.0 tree.1) in
    below_root (names_of tree.0) c.in-Directory.node.0 _ c.in-Directory.name c.args.place.path.names found.2 found.1

pub returns-clause-served : goal.returns-clause-served
returns-clause-served g c =
    let V = g.R.Rig.tells_view in
    let o = g.R.Rig.state c.args.rig.now in
    let trees = c.args.trees.now in
    let handles = c.args.handles.now in
    let place = model_place c.args.place in
    served_step (λ fs over.
    let all = all_outlined V o trees over.0 over.1 in
    let found = at_value trees over.0 all (λ (v : TreeValue). IsSpotAt v place.names c.args.spot) place.tree c.requires.within c.requires.found in
    remove-directory over.0 handles c.args.p.0 place (within_stores trees over.0 all place.tree c.requires.within) c.args.spot found c.in-Directory.parent c.in-Directory.node c.in-Directory.name c.in-Directory.is fs over.2)
    c.remove_closed.ensures.served
