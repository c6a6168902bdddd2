use Rattle.std.proofs.Common.{◌<◌, sym, subst, ◌∙◌, false, length, arith}
use Rattle.apex_types.specs.declared.fields.Spot.{Spot}
use Rattle.file_tree.specs.Entries.{TreeValue, IsSpotAt}
use Rattle.store_model.specs.Systems.{store_at}
use Rattle.tree_store.specs.Stored.{names_of}
use Rattle.service_parts.specs.Serving.{ReadsFailed}
use Rattle.service_parts.proofs.Closing.{served_still}
use Rattle.service_parts.proofs.Held.{all_outlined, at_value, stores_long}
use Rattle.service_parts.proofs.Served.{served-told}
use Rattle.file_services.proofs.RemovingLaws.{remove_step, remove-nothing, remove-root, remove-directory, remove-busy}
use Rattle.file_services.proofs.removing.remove_spot.Goals as goal

pub returns-in-Free-clause-served : goal.returns-in-Free-clause-served
returns-in-Free-clause-served g c =
    let V = g.R.Rig.tells_view in
    let K = g.R.Rig.keeps_cuts in
    let o = g.R.Rig.state c.args.rig.now in
    let trees = c.args.trees.now in
    let handles = c.args.handles.now in
    served_still V K o (g.met.R.Rig.sound c.args.rig.now) (remove_step c.args.p.0 c.args.place.tree c.args.place.path.names) (ReadsFailed false o o) trees handles c.requires.serving handles c.refusal.result
    (λ stores hold. let low = stores_long trees stores (all_outlined V o trees stores hold) in
    let within : c.args.place.tree < length stores = omega (arith, low, c.requires.within) in
    let found = at_value trees stores (all_outlined V o trees stores hold) (λ (v : TreeValue). IsSpotAt v c.args.place.path.names c.args.spot) c.args.place.tree c.requires.within c.requires.found in
    let P : Spot → Type 0 = λ spot. IsSpotAt (store_at stores c.args.place.tree).tree c.args.place.path.names spot in
    served-told c.refusal.ensures (remove-nothing stores handles c.args.p.0 c.args.place.tree c.args.place.path.names within c.in-Free.parent (subst P c.in-Free.is found)))

pub returns-in-Root-clause-served : goal.returns-in-Root-clause-served
returns-in-Root-clause-served g c =
    let V = g.R.Rig.tells_view in
    let K = g.R.Rig.keeps_cuts in
    let o = g.R.Rig.state c.args.rig.now in
    let trees = c.args.trees.now in
    let handles = c.args.handles.now in
    served_still V K o (g.met.R.Rig.sound c.args.rig.now) (remove_step c.args.p.0 c.args.place.tree c.args.place.path.names) (ReadsFailed false o o) trees handles c.requires.serving handles c.refusal-in-Root.result
    (λ stores hold. let low = stores_long trees stores (all_outlined V o trees stores hold) in
    let within : c.args.place.tree < length stores = omega (arith, low, c.requires.within) in
    let found = at_value trees stores (all_outlined V o trees stores hold) (λ (v : TreeValue). IsSpotAt v c.args.place.path.names c.args.spot) c.args.place.tree c.requires.within c.requires.found in
    let P : Spot → Type 0 = λ spot. IsSpotAt (store_at stores c.args.place.tree).tree c.args.place.path.names spot in
    served-told c.refusal-in-Root.ensures (remove-root stores handles c.args.p.0 c.args.place.tree c.args.place.path.names within (subst P c.in-Root.is found)))

pub returns-in-Directory-clause-served : goal.returns-in-Directory-clause-served
returns-in-Directory-clause-served g c =
    let V = g.R.Rig.tells_view in
    let K = g.R.Rig.keeps_cuts in
    let o = g.R.Rig.state c.args.rig.now in
    let trees = c.args.trees.now in
    let handles = c.args.handles.now in
    served_still V K o (g.met.R.Rig.sound c.args.rig.now) (remove_step c.args.p.0 c.args.place.tree c.args.place.path.names) (ReadsFailed false o o) trees handles c.requires.serving handles c.refusal-in-Directory.result
    (λ stores hold. let low = stores_long trees stores (all_outlined V o trees stores hold) in
    let within : c.args.place.tree < length stores = omega (arith, low, c.requires.within) in
    let found = at_value trees stores (all_outlined V o trees stores hold) (λ (v : TreeValue). IsSpotAt v c.args.place.path.names c.args.spot) c.args.place.tree c.requires.within c.requires.found in
    let P : Spot → Type 0 = λ spot. IsSpotAt (store_at stores c.args.place.tree).tree c.args.place.path.names spot in
    served-told c.refusal-in-Directory.ensures (remove-directory stores handles c.args.p.0 c.args.place.tree c.args.place.path.names within c.in-Directory.parent c.in-Directory.node c.in-Directory.name (subst P c.in-Directory.is found)))

pub returns-then-holds_file-clause-served : goal.returns-then-holds_file-clause-served
returns-then-holds_file-clause-served g c =
    let V = g.R.Rig.tells_view in
    let K = g.R.Rig.keeps_cuts in
    let o = g.R.Rig.state c.args.rig.now in
    let trees = c.args.trees.now in
    let handles = c.args.handles.now in
    served_still V K o (g.met.R.Rig.sound c.args.rig.now) (remove_step c.args.p.0 c.args.place.tree c.args.place.path.names) (ReadsFailed false o o) trees handles c.requires.serving handles c.refusal-then-holds_file.result
    (λ stores hold. let low = stores_long trees stores (all_outlined V o trees stores hold) in
    let within : c.args.place.tree < length stores = omega (arith, low, c.requires.within) in
    let found = at_value trees stores (all_outlined V o trees stores hold) (λ (v : TreeValue). IsSpotAt v c.args.place.path.names c.args.spot) c.args.place.tree c.requires.within c.requires.found in
    let P : Spot → Type 0 = λ spot. IsSpotAt (store_at stores c.args.place.tree).tree c.args.place.path.names spot in
    served-told c.refusal-then-holds_file.ensures (remove-busy stores handles c.args.p.0 c.args.place.tree c.args.place.path.names within c.in-File.node (subst P c.in-File.is found).2 (sym c.holds_file.ensures ∙ c.if-holds_file.true)))

pub remove_closed-requires-clause-found : goal.remove_closed-requires-clause-found
remove_closed-requires-clause-found g c = λ store at. (subst (λ (spot : Spot). IsSpotAt (names_of store) c.args.place.path.names spot) c.in-File.is (c.requires.found store at)).2
