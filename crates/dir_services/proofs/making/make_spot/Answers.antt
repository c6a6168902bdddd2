use Rattle.std.proofs.Common.{subst}
use Rattle.apex_types.specs.declared.fields.Spot.{Spot}
use Rattle.file_tree.specs.Entries.{TreeValue, IsSpotAt}
use Rattle.tree_store.specs.Stored.{names_of}
use Rattle.service_parts.specs.Places.{model_place}
use Rattle.service_parts.proofs.Closing.{served_still}
use Rattle.service_parts.proofs.Held.{all_outlined, at_value}
use Rattle.service_parts.proofs.Served.{served-told}
use Rattle.dir_services.specs.Steps.{make_at}
use Rattle.dir_services.proofs.MakingLaws.{make-root, make-directory, make-file}
use Rattle.dir_services.proofs.PathLaws.{within_stores}
use Rattle.dir_services.proofs.making.make_spot.Goals as goal

pub make_in-requires-clause-free : goal.make_in-requires-clause-free
make_in-requires-clause-free g c = λ store at. subst (λ (spot : Spot). IsSpotAt (names_of store) c.args.place.path.names spot) c.in-Free.is (c.requires.found store at)

pub returns-in-Root-clause-served : goal.returns-in-Root-clause-served
returns-in-Root-clause-served g c = λ table handles of ready.
    let V = g.R.Rig.tells_view in
    let o = g.R.Rig.state c.args.rig.now in
    let trees = c.args.trees.now in
    let place = model_place c.args.place in
    served_still V g.R.Rig.keeps_cuts o (g.met.R.Rig.sound c.args.rig.now) (λ fs. make_at table fs place) ⊥ trees handles ready handles c.refusal.result
    (λ stores hold.
    let all = all_outlined V o trees stores hold in
    let found = at_value trees stores all (λ (v : TreeValue). IsSpotAt v place.names c.args.spot) place.tree c.requires.within c.requires.found in
    served-told c.refusal.ensures (make-root table stores handles place (within_stores trees stores all place.tree c.requires.within) c.args.spot found c.in-Root.is))

pub returns-in-Directory-clause-served : goal.returns-in-Directory-clause-served
returns-in-Directory-clause-served g c = λ table handles of ready.
    let V = g.R.Rig.tells_view in
    let o = g.R.Rig.state c.args.rig.now in
    let trees = c.args.trees.now in
    let place = model_place c.args.place in
    served_still V g.R.Rig.keeps_cuts o (g.met.R.Rig.sound c.args.rig.now) (λ fs. make_at table fs place) ⊥ trees handles ready handles c.refusal-in-Directory.result
    (λ stores hold.
    let all = all_outlined V o trees stores hold in
    let found = at_value trees stores all (λ (v : TreeValue). IsSpotAt v place.names c.args.spot) place.tree c.requires.within c.requires.found in
    served-told c.refusal-in-Directory.ensures
    (make-directory table stores handles place (within_stores trees stores all place.tree c.requires.within) c.args.spot found c.in-Directory.parent c.in-Directory.node c.in-Directory.name c.in-Directory.is))

pub returns-in-File-clause-served : goal.returns-in-File-clause-served
returns-in-File-clause-served g c = λ table handles of ready.
    let V = g.R.Rig.tells_view in
    let o = g.R.Rig.state c.args.rig.now in
    let trees = c.args.trees.now in
    let place = model_place c.args.place in
    served_still V g.R.Rig.keeps_cuts o (g.met.R.Rig.sound c.args.rig.now) (λ fs. make_at table fs place) ⊥ trees handles ready handles c.refusal-in-File.result
    (λ stores hold.
    let all = all_outlined V o trees stores hold in
    let found = at_value trees stores all (λ (v : TreeValue). IsSpotAt v place.names c.args.spot) place.tree c.requires.within c.requires.found in
    served-told c.refusal-in-File.ensures
    (make-file table stores handles place (within_stores trees stores all place.tree c.requires.within) c.args.spot found c.in-File.parent c.in-File.node c.in-File.name c.in-File.is))
