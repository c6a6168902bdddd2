use Rattle.std.proofs.Common.{◌≡◌, ◌<◌, ℕ, Some, None, ap, sym, subst, ◌∙◌, length, false, arith}
use Rattle.apex_model.specs.FileStep.{rename_file}
use Rattle.apex_model.specs.Trees.{walk}
use Rattle.file_tree.specs.Entries.{TreeValue, IsSpotAt}
use Rattle.store_model.specs.Systems.{store_at}
use Rattle.tree_store.specs.Calls.{AtTree}
use Rattle.tree_store.specs.Stored.{names_of}
use Rattle.service_parts.specs.Places.{model_place}
use Rattle.service_parts.specs.Serving.{ReadsFailed}
use Rattle.service_parts.proofs.Closing.{served_step, served_still}
use Rattle.service_parts.proofs.Held.{all_outlined, stores_long, tree_of, trees_long}
use Rattle.service_parts.proofs.Served.{served-told}
use Rattle.file_services.proofs.RenamingLaws.{rename-err, rename-target_err, rename-elsewhere, rename-way, rename-within}
use Rattle.file_services.proofs.renaming.rename_file.Goals as goal

pub returns-in-Err-clause-served : goal.returns-in-Err-clause-served
returns-in-Err-clause-served g c =
    let V = g.R.Rig.tells_view in
    let K = g.R.Rig.keeps_cuts in
    let o = g.R.Rig.state c.args.rig.now in
    let trees = c.args.trees.now in
    let handles = c.args.handles.now in
    served_still V K o (g.met.R.Rig.sound c.args.rig.now) (λ fs. rename_file c.args.table.now fs c.args.p.0 c.args.from.now c.args.to.now) (ReadsFailed false o o) trees handles c.requires.serving handles c.refusal.result
    (λ stores hold. served-told c.refusal.ensures (rename-err c.args.table.now stores handles c.args.p.0 c.args.from.now c.args.to.now c.in-Err.errno c.in-Err.ensures.place))

pub returns-in-Err-place_of-clause-served : goal.returns-in-Err-place_of-clause-served
returns-in-Err-place_of-clause-served g c =
    let V = g.R.Rig.tells_view in
    let K = g.R.Rig.keeps_cuts in
    let o = g.R.Rig.state c.args.rig.now in
    let trees = c.args.trees.now in
    let handles = c.args.handles.now in
    served_still V K o (g.met.R.Rig.sound c.args.rig.now) (λ fs. rename_file c.args.table.now fs c.args.p.0 c.args.from.now c.args.to.now) (ReadsFailed false o o) trees handles c.requires.serving handles c.refusal-in-Err-place_of.result
    (λ stores hold. served-told c.refusal-in-Err-place_of.ensures (rename-target_err c.args.table.now stores handles c.args.p.0 c.args.from.now c.args.to.now (model_place c.in-Ok.place) c.in-Ok.ensures.place c.in-Err-place_of.errno c.in-Err-place_of.ensures.place))

pub returns-then-source-target-clause-served : goal.returns-then-source-target-clause-served
returns-then-source-target-clause-served g c =
    let V = g.R.Rig.tells_view in
    let K = g.R.Rig.keeps_cuts in
    let o = g.R.Rig.state c.args.rig.now in
    let trees = c.args.trees.now in
    let handles = c.args.handles.now in
    served_still V K o (g.met.R.Rig.sound c.args.rig.now) (λ fs. rename_file c.args.table.now fs c.args.p.0 c.args.from.now c.args.to.now) (ReadsFailed false o o) trees handles c.requires.serving handles c.refusal-then-source-target.result
    (λ stores hold. let apart : c.in-Ok.place.tree ≡ c.in-Ok-place_of.place.tree → ⊥ = λ same. omega arith in
    served-told c.refusal-then-source-target.ensures (rename-elsewhere c.args.table.now stores handles c.args.p.0 c.args.from.now c.args.to.now (model_place c.in-Ok.place) c.in-Ok.ensures.place (model_place c.in-Ok-place_of.place) c.in-Ok-place_of.ensures.place apart))

pub tree-requires : goal.tree-requires
tree-requires g c = let low = trees_long c.args.table.now c.args.trees.now c.args.handles.now c.requires.of_table in omega (arith, low, c.in-Ok.ensures.within)

pub rename_spot-requires-clause-within : goal.rename_spot-requires-clause-within
rename_spot-requires-clause-within g c = let low = trees_long c.args.table.now c.args.trees.now c.args.handles.now c.requires.of_table in omega (arith, low, c.in-Ok-place_of.ensures.within)

pub rename_spot-requires-clause-found : goal.rename_spot-requires-clause-found
rename_spot-requires-clause-found g c =
    let same : c.in-Ok.place.tree ≡ c.in-Ok-place_of.place.tree = omega arith in
    subst (λ (t : ℕ). AtTree c.args.trees.now t (λ store. IsSpotAt (names_of store) c.in-Ok.place.path.names c.in-Ok-walk.spot)) same
    (λ store at. subst (λ (v : TreeValue). IsSpotAt v c.in-Ok.place.path.names c.in-Ok-walk.spot) (c.tree.ensures store at) c.in-Ok-walk.ensures.spot)

pub returns-in-Err-walk-clause-served : goal.returns-in-Err-walk-clause-served
returns-in-Err-walk-clause-served g c =
    let V = g.R.Rig.tells_view in
    let K = g.R.Rig.keeps_cuts in
    let o = g.R.Rig.state c.args.rig.now in
    let trees = c.args.trees.now in
    let handles = c.args.handles.now in
    served_still V K o (g.met.R.Rig.sound c.args.rig.now) (λ fs. rename_file c.args.table.now fs c.args.p.0 c.args.from.now c.args.to.now) (ReadsFailed false o o) trees handles c.requires.serving handles c.refusal-in-Err-walk.result
    (λ stores hold. let low = trees_long c.args.table.now trees handles c.requires.of_table in
    let at : c.in-Ok.place.tree < length trees = omega (arith, low, c.in-Ok.ensures.within) in
    let long = stores_long trees stores (all_outlined V o trees stores hold) in
    let within : c.in-Ok.place.tree < length stores = omega (arith, at, long) in
    let same : c.in-Ok.place.tree ≡ c.in-Ok-place_of.place.tree = omega arith in
    let way : walk (store_at stores c.in-Ok.place.tree).tree.nodes c.in-Ok.place.path.names ≡ Some c.in-Err-walk.errno
    = ap (λ (v : TreeValue). walk v.nodes c.in-Ok.place.path.names) (sym (tree_of trees stores (all_outlined V o trees stores hold) c.in-Ok.place.tree at c.tree.result.now c.tree.ensures)) ∙ c.in-Err-walk.ensures.obstacle in
    served-told c.refusal-in-Err-walk.ensures (rename-way c.args.table.now stores handles c.args.p.0 c.args.from.now c.args.to.now (model_place c.in-Ok.place) c.in-Ok.ensures.place (model_place c.in-Ok-place_of.place) c.in-Ok-place_of.ensures.place same within c.in-Err-walk.errno way))

pub returns-in-Ok-walk-clause-served : goal.returns-in-Ok-walk-clause-served
returns-in-Ok-walk-clause-served g c =
    let V = g.R.Rig.tells_view in
    let K = g.R.Rig.keeps_cuts in
    let o = g.R.Rig.state c.args.rig.now in
    let trees = c.args.trees.now in
    let handles = c.args.handles.now in
    served_step (λ fs over.
    let stores = over.0 in
    let hold = over.1 in
    let low = trees_long c.args.table.now trees handles c.requires.of_table in
    let at : c.in-Ok.place.tree < length trees = omega (arith, low, c.in-Ok.ensures.within) in
    let long = stores_long trees stores (all_outlined V o trees stores hold) in
    let within : c.in-Ok.place.tree < length stores = omega (arith, at, long) in
    let same : c.in-Ok.place.tree ≡ c.in-Ok-place_of.place.tree = omega arith in
    let way : walk (store_at stores c.in-Ok.place.tree).tree.nodes c.in-Ok.place.path.names ≡ None
    = ap (λ (v : TreeValue). walk v.nodes c.in-Ok.place.path.names) (sym (tree_of trees stores (all_outlined V o trees stores hold) c.in-Ok.place.tree at c.tree.result.now c.tree.ensures)) ∙ c.in-Ok-walk.ensures.obstacle in
    rename-within c.args.table.now stores handles c.args.p.0 c.args.from.now c.args.to.now (model_place c.in-Ok.place) c.in-Ok.ensures.place (model_place c.in-Ok-place_of.place) c.in-Ok-place_of.ensures.place same within way fs over.2) c.rename_spot.ensures.served
