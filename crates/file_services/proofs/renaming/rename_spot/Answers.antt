use Rattle.std.proofs.Common.{◌≡◌, ◌<◌, Some, None, sym, subst, ap, ◌∙◌, false, length, arith}
use Rattle.apex_types.specs.declared.fields.Spot.{Spot}
use Rattle.apex_model.specs.Trees.{walk}
use Rattle.file_tree.specs.Entries.{TreeValue, IsSpotAt}
use Rattle.store_model.specs.Systems.{store_at}
use Rattle.tree_store.specs.Stored.{names_of}
use Rattle.service_parts.specs.Serving.{ReadsFailed}
use Rattle.service_parts.proofs.Closing.{served_still}
use Rattle.service_parts.proofs.Held.{all_outlined, at_value, stores_long, tree_of}
use Rattle.service_parts.proofs.Served.{served-told}
use Rattle.file_services.proofs.RenamingLaws.{rename_step, rename-nothing, rename-root, rename-directory, rename-obstacle}
use Rattle.file_services.proofs.renaming.rename_spot.Goals as goal

pub returns-in-Free-clause-served : goal.returns-in-Free-clause-served
returns-in-Free-clause-served g c =
    let V = g.R.Rig.tells_view in
    let K = g.R.Rig.keeps_cuts in
    let o = g.R.Rig.state c.args.rig.now in
    let trees = c.args.trees.now in
    let handles = c.args.handles.now in
    served_still V K o (g.met.R.Rig.sound c.args.rig.now) (rename_step c.args.p.0 c.args.target.tree c.args.from.now c.args.target.path.names) (ReadsFailed false o o) trees handles c.requires.serving handles c.refusal.result
    (λ stores hold. let low = stores_long trees stores (all_outlined V o trees stores hold) in
    let within : c.args.target.tree < length stores = omega (arith, low, c.requires.within) in
    let found = (at_value trees stores (all_outlined V o trees stores hold) (λ (v : TreeValue). IsSpotAt v c.args.from.now c.args.spot) c.args.target.tree c.requires.within c.requires.found) in
    let P : Spot → Type 0 = λ spot. IsSpotAt (store_at stores c.args.target.tree).tree c.args.from.now spot in
    served-told c.refusal.ensures (rename-nothing stores handles c.args.p.0 c.args.target.tree c.args.from.now c.args.target.path.names within c.in-Free.parent (subst P c.in-Free.is found)))

pub returns-in-Root-clause-served : goal.returns-in-Root-clause-served
returns-in-Root-clause-served g c =
    let V = g.R.Rig.tells_view in
    let K = g.R.Rig.keeps_cuts in
    let o = g.R.Rig.state c.args.rig.now in
    let trees = c.args.trees.now in
    let handles = c.args.handles.now in
    served_still V K o (g.met.R.Rig.sound c.args.rig.now) (rename_step c.args.p.0 c.args.target.tree c.args.from.now c.args.target.path.names) (ReadsFailed false o o) trees handles c.requires.serving handles c.refusal-in-Root.result
    (λ stores hold. let low = stores_long trees stores (all_outlined V o trees stores hold) in
    let within : c.args.target.tree < length stores = omega (arith, low, c.requires.within) in
    let found = (at_value trees stores (all_outlined V o trees stores hold) (λ (v : TreeValue). IsSpotAt v c.args.from.now c.args.spot) c.args.target.tree c.requires.within c.requires.found) in
    let P : Spot → Type 0 = λ spot. IsSpotAt (store_at stores c.args.target.tree).tree c.args.from.now spot in
    served-told c.refusal-in-Root.ensures (rename-root stores handles c.args.p.0 c.args.target.tree c.args.from.now c.args.target.path.names within (subst P c.in-Root.is found)))

pub returns-in-Directory-clause-served : goal.returns-in-Directory-clause-served
returns-in-Directory-clause-served g c =
    let V = g.R.Rig.tells_view in
    let K = g.R.Rig.keeps_cuts in
    let o = g.R.Rig.state c.args.rig.now in
    let trees = c.args.trees.now in
    let handles = c.args.handles.now in
    served_still V K o (g.met.R.Rig.sound c.args.rig.now) (rename_step c.args.p.0 c.args.target.tree c.args.from.now c.args.target.path.names) (ReadsFailed false o o) trees handles c.requires.serving handles c.refusal-in-Directory.result
    (λ stores hold. let low = stores_long trees stores (all_outlined V o trees stores hold) in
    let within : c.args.target.tree < length stores = omega (arith, low, c.requires.within) in
    let found = (at_value trees stores (all_outlined V o trees stores hold) (λ (v : TreeValue). IsSpotAt v c.args.from.now c.args.spot) c.args.target.tree c.requires.within c.requires.found) in
    let P : Spot → Type 0 = λ spot. IsSpotAt (store_at stores c.args.target.tree).tree c.args.from.now spot in
    served-told c.refusal-in-Directory.ensures (rename-directory stores handles c.args.p.0 c.args.target.tree c.args.from.now c.args.target.path.names within c.in-Directory.parent c.in-Directory.node c.in-Directory.name (subst P c.in-Directory.is found)))

pub rename_to-requires-clause-way : goal.rename_to-requires-clause-way
rename_to-requires-clause-way g c = λ store at. subst (λ (v : TreeValue). walk v.nodes c.args.target.path.names ≡ None) (c.tree.ensures store at) c.in-Ok.ensures.obstacle

pub rename_to-requires-clause-reached : goal.rename_to-requires-clause-reached
rename_to-requires-clause-reached g c = λ store at. subst (λ (v : TreeValue). IsSpotAt v c.args.target.path.names c.in-Ok.spot) (c.tree.ensures store at) c.in-Ok.ensures.spot

pub rename_to-requires-clause-found : goal.rename_to-requires-clause-found
rename_to-requires-clause-found g c = λ store at. (subst (λ (spot : Spot). IsSpotAt (names_of store) c.args.from.now spot) c.in-File.is (c.requires.found store at)).2

pub returns-in-Err-clause-served : goal.returns-in-Err-clause-served
returns-in-Err-clause-served g c =
    let V = g.R.Rig.tells_view in
    let K = g.R.Rig.keeps_cuts in
    let o = g.R.Rig.state c.args.rig.now in
    let trees = c.args.trees.now in
    let handles = c.args.handles.now in
    served_still V K o (g.met.R.Rig.sound c.args.rig.now) (rename_step c.args.p.0 c.args.target.tree c.args.from.now c.args.target.path.names) (ReadsFailed false o o) trees handles c.requires.serving handles c.refusal-in-Err.result
    (λ stores hold. let low = stores_long trees stores (all_outlined V o trees stores hold) in
    let within : c.args.target.tree < length stores = omega (arith, low, c.requires.within) in
    let found = (at_value trees stores (all_outlined V o trees stores hold) (λ (v : TreeValue). IsSpotAt v c.args.from.now c.args.spot) c.args.target.tree c.requires.within c.requires.found) in
    let P : Spot → Type 0 = λ spot. IsSpotAt (store_at stores c.args.target.tree).tree c.args.from.now spot in
    let way : walk (store_at stores c.args.target.tree).tree.nodes c.args.target.path.names ≡ Some c.in-Err.errno
    = ap (λ (v : TreeValue). walk v.nodes c.args.target.path.names) (sym (tree_of trees stores (all_outlined V o trees stores hold) c.args.target.tree c.requires.within c.tree.result.now c.tree.ensures)) ∙ c.in-Err.ensures.obstacle in
    served-told c.refusal-in-Err.ensures (rename-obstacle stores handles c.args.p.0 c.args.target.tree c.args.from.now c.args.target.path.names within c.in-File.node (subst P c.in-File.is found).2 c.in-Err.errno way))
