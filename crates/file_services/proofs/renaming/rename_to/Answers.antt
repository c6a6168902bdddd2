use Rattle.std.proofs.Common.{◌≡◌, ◌<◌, Some, None, sym, subst, ◌∙◌, false, length, arith}
use Rattle.apex_types.specs.declared.fields.Spot.{Spot}
use Rattle.apex_model.specs.Trees.{walk}
use Rattle.file_tree.specs.Entries.{TreeValue, IsSpotAt, slot}
use Rattle.store_model.specs.Systems.{store_at}
use Rattle.tree_store.specs.Stored.{names_of}
use Rattle.service_parts.specs.Serving.{ReadsFailed}
use Rattle.service_parts.proofs.Closing.{served_still}
use Rattle.service_parts.proofs.Held.{all_outlined, at_value, stores_long}
use Rattle.service_parts.proofs.Served.{served-told}
use Rattle.file_services.proofs.RenamingLaws.{rename_step, rename-busy, rename-to_root, rename-to_directory, rename-to_file}
use Rattle.file_services.proofs.renaming.rename_to.Goals as goal

pub returns-then-holds_file-clause-served : goal.returns-then-holds_file-clause-served
returns-then-holds_file-clause-served g c =
    let V = g.R.Rig.tells_view in
    let K = g.R.Rig.keeps_cuts in
    let o = g.R.Rig.state c.args.rig.now in
    let trees = c.args.trees.now in
    let handles = c.args.handles.now in
    served_still V K o (g.met.R.Rig.sound c.args.rig.now) (rename_step c.args.p.0 c.args.target.tree c.args.from.now c.args.target.path.names) (ReadsFailed false o o) trees handles c.requires.serving handles c.refusal.result
    (λ stores hold. let low = stores_long trees stores (all_outlined V o trees stores hold) in
    let within : c.args.target.tree < length stores = omega (arith, low, c.requires.within) in
    served-told c.refusal.ensures (rename-busy stores handles c.args.p.0 c.args.target.tree c.args.from.now c.args.target.path.names within c.args.file (at_value trees stores (all_outlined V o trees stores hold) (λ (v : TreeValue). slot v.files c.args.file.0 ≡ Some c.args.from.now) c.args.target.tree c.requires.within c.requires.found) (at_value trees stores (all_outlined V o trees stores hold) (λ (v : TreeValue). walk v.nodes c.args.target.path.names ≡ None) c.args.target.tree c.requires.within c.requires.way) (sym c.holds_file.ensures ∙ c.if-holds_file.true)))

pub rename_closed-requires-clause-free : goal.rename_closed-requires-clause-free
rename_closed-requires-clause-free g c = λ store at. subst (λ (spot : Spot). IsSpotAt (names_of store) c.args.target.path.names spot) c.in-Free.is (c.requires.reached store at)

pub returns-in-Root-clause-served : goal.returns-in-Root-clause-served
returns-in-Root-clause-served g c =
    let V = g.R.Rig.tells_view in
    let K = g.R.Rig.keeps_cuts in
    let o = g.R.Rig.state c.args.rig.now in
    let trees = c.args.trees.now in
    let handles = c.args.handles.now in
    served_still V K o (g.met.R.Rig.sound c.args.rig.now) (rename_step c.args.p.0 c.args.target.tree c.args.from.now c.args.target.path.names) (ReadsFailed false o o) trees handles c.requires.serving handles c.refusal-in-Root.result
    (λ stores hold. let low = stores_long trees stores (all_outlined V o trees stores hold) in
    let within : c.args.target.tree < length stores = omega (arith, low, c.requires.within) in
    let found = (at_value trees stores (all_outlined V o trees stores hold) (λ (v : TreeValue). IsSpotAt v c.args.target.path.names c.args.spot) c.args.target.tree c.requires.within c.requires.reached) in
    let P : Spot → Type 0 = λ spot. IsSpotAt (store_at stores c.args.target.tree).tree c.args.target.path.names spot in
    served-told c.refusal-in-Root.ensures (rename-to_root stores handles c.args.p.0 c.args.target.tree c.args.from.now c.args.target.path.names within c.args.file (at_value trees stores (all_outlined V o trees stores hold) (λ (v : TreeValue). slot v.files c.args.file.0 ≡ Some c.args.from.now) c.args.target.tree c.requires.within c.requires.found) (subst P c.in-Root.is found) (at_value trees stores (all_outlined V o trees stores hold) (λ (v : TreeValue). walk v.nodes c.args.target.path.names ≡ None) c.args.target.tree c.requires.within c.requires.way) (sym c.holds_file.ensures ∙ c.if-holds_file.false)))

pub returns-in-Directory-clause-served : goal.returns-in-Directory-clause-served
returns-in-Directory-clause-served g c =
    let V = g.R.Rig.tells_view in
    let K = g.R.Rig.keeps_cuts in
    let o = g.R.Rig.state c.args.rig.now in
    let trees = c.args.trees.now in
    let handles = c.args.handles.now in
    served_still V K o (g.met.R.Rig.sound c.args.rig.now) (rename_step c.args.p.0 c.args.target.tree c.args.from.now c.args.target.path.names) (ReadsFailed false o o) trees handles c.requires.serving handles c.refusal-in-Directory.result
    (λ stores hold. let low = stores_long trees stores (all_outlined V o trees stores hold) in
    let within : c.args.target.tree < length stores = omega (arith, low, c.requires.within) in
    let found = (at_value trees stores (all_outlined V o trees stores hold) (λ (v : TreeValue). IsSpotAt v c.args.target.path.names c.args.spot) c.args.target.tree c.requires.within c.requires.reached) in
    let P : Spot → Type 0 = λ spot. IsSpotAt (store_at stores c.args.target.tree).tree c.args.target.path.names spot in
    served-told c.refusal-in-Directory.ensures (rename-to_directory stores handles c.args.p.0 c.args.target.tree c.args.from.now c.args.target.path.names within c.args.file (at_value trees stores (all_outlined V o trees stores hold) (λ (v : TreeValue). slot v.files c.args.file.0 ≡ Some c.args.from.now) c.args.target.tree c.requires.within c.requires.found) c.in-Directory.parent c.in-Directory.node c.in-Directory.name (subst P c.in-Directory.is found) (at_value trees stores (all_outlined V o trees stores hold) (λ (v : TreeValue). walk v.nodes c.args.target.path.names ≡ None) c.args.target.tree c.requires.within c.requires.way) (sym c.holds_file.ensures ∙ c.if-holds_file.false)))

pub returns-in-File-clause-served : goal.returns-in-File-clause-served
returns-in-File-clause-served g c =
    let V = g.R.Rig.tells_view in
    let K = g.R.Rig.keeps_cuts in
    let o = g.R.Rig.state c.args.rig.now in
    let trees = c.args.trees.now in
    let handles = c.args.handles.now in
    served_still V K o (g.met.R.Rig.sound c.args.rig.now) (rename_step c.args.p.0 c.args.target.tree c.args.from.now c.args.target.path.names) (ReadsFailed false o o) trees handles c.requires.serving handles c.refusal-in-File.result
    (λ stores hold. let low = stores_long trees stores (all_outlined V o trees stores hold) in
    let within : c.args.target.tree < length stores = omega (arith, low, c.requires.within) in
    let found = (at_value trees stores (all_outlined V o trees stores hold) (λ (v : TreeValue). IsSpotAt v c.args.target.path.names c.args.spot) c.args.target.tree c.requires.within c.requires.reached) in
    let P : Spot → Type 0 = λ spot. IsSpotAt (store_at stores c.args.target.tree).tree c.args.target.path.names spot in
    served-told c.refusal-in-File.ensures (rename-to_file stores handles c.args.p.0 c.args.target.tree c.args.from.now c.args.target.path.names within c.args.file (at_value trees stores (all_outlined V o trees stores hold) (λ (v : TreeValue). slot v.files c.args.file.0 ≡ Some c.args.from.now) c.args.target.tree c.requires.within c.requires.found) c.in-File.parent c.in-File.node c.in-File.name (subst P c.in-File.is found) (at_value trees stores (all_outlined V o trees stores hold) (λ (v : TreeValue). walk v.nodes c.args.target.path.names ≡ None) c.args.target.tree c.requires.within c.requires.way) (sym c.holds_file.ensures ∙ c.if-holds_file.false)))
