use Rattle.std.proofs.Common.{◌≡◌, List, ap, ◌∙◌, length, arith}
use Rattle.std.specs.Prelude.{slice_set}
use Rattle.apex_types.specs.declared.codes.Errno.{Errno}
use Rattle.apex_types.specs.declared.numbers.DirNode.{DirNode}
use Rattle.apex_types.specs.declared.replies.Values.TheVariants.{Empty}
use Rattle.apex_model.specs.Outcomes.{success, refusal}
use Rattle.apex_model.specs.Trees.{Name, standing_at}
use Rattle.file_tree.proofs.Changes.{is_some}
use Rattle.store_model.specs.Stores.{StoreValue}
use Rattle.store_model.specs.Systems.{store_at}
use Rattle.tree_store.specs.Answers.{directory_refusal, made_directory}
use Rattle.tree_store.specs.Serving.{AllHold}
use Rattle.tree_store.specs.Stored.{names_of}
use Rattle.service_parts.specs.Places.{model_place}
use Rattle.service_parts.proofs.Closing.{acts_few, at_device, at_refused, passes_word, served_acts, served_fault, served_refused}
use Rattle.service_parts.proofs.Held.{ready_at, there}
use Rattle.service_parts.proofs.Served.{served-told}
use Rattle.dir_services.specs.Steps.{make_at}
use Rattle.dir_services.proofs.MakingLaws.{make-serves, make-refuses}
use Rattle.dir_services.proofs.PathLaws.{names-some, path-whole}
use Rattle.dir_services.proofs.making.make_in.Goals as goal

pub last_name-name-requires : goal.last_name-name-requires
last_name-name-requires g c =
    let tree = there c.args.trees.now c.args.place.tree c.requires.within in
    names-some (names_of tree.0) c.args.place.path.names (c.requires.free tree.0 tree.1).1

pub make_dir-requires-clause-ready : goal.make_dir-requires-clause-ready
make_dir-requires-clause-ready g c =
    ready_at g.R.Rig.tells_view (g.R.Rig.state c.args.rig.now) c.args.trees.now c.requires.serving.0 c.requires.serving.1 c.args.place.tree c.requires.within

pub make_dir-requires-clause-in_use : goal.make_dir-requires-clause-in_use
make_dir-requires-clause-in_use g c = λ store at. is_some (c.requires.free store at).0

pub make_dir-requires-clause-few : goal.make_dir-requires-clause-few
make_dir-requires-clause-few g c = λ store at.
    let whole = path-whole (names_of store) c.args.parent c.args.place.path.names c.last_name-name.result (c.requires.free store at) c.last_name-name.ensures.last in
    let long = ap (λ (path : List Name). length path) whole in
    omega (arith, long, c.last_name-name.ensures.few)

pub make_dir-requires-clause-free : goal.make_dir-requires-clause-free
make_dir-requires-clause-free g c = λ store at.
    ap (standing_at (names_of store).nodes) (path-whole (names_of store) c.args.parent c.args.place.path.names c.last_name-name.result (c.requires.free store at) c.last_name-name.ensures.last)
    ∙ (c.requires.free store at).1

pub returns-in-Ok-clause-served : goal.returns-in-Ok-clause-served
returns-in-Ok-clause-served g c = λ table handles of ready.
    let V = g.R.Rig.tells_view in
    let K = g.R.Rig.keeps_cuts in
    let o = g.R.Rig.state c.args.rig.now in
    let e = g.R.Rig.state c.make_dir.new.rig in
    let trees = c.args.trees.now in
    let place = model_place c.args.place in
    let name = c.last_name-name.result in
    let word : StoreValue → StoreValue = λ v. made_directory v c.args.parent.0 name in
    let serves = λ (stores : List StoreValue) (hold : AllHold V o trees stores).
    make-serves V o table trees handles of ready.stored place c.requires.within c.args.parent c.requires.free name c.last_name-name.ensures.last c.last_name-name.ensures.few stores hold (c.in-Ok.ensures.answer stores hold).0 in
    served_acts V K o e (g.met.R.Rig.sound c.args.rig.now) (g.met.R.Rig.sound c.make_dir.new.rig) (λ fs. make_at table fs place) ⊥ trees handles ready c.make_dir.new.self
    (acts_few V 4 3 o e trees c.make_dir.new.self (omega arith) (omega arith) c.make_dir.ensures.acts)
    (passes_word V o e (λ fs. make_at table fs place) trees handles place.tree c.requires.within word c.make_dir.ensures.moments (λ stores hold. (handles, success Empty, serves stores hold)))
    handles c.success.result c.in-Ok.ensures.stored
    (λ stores hold. (slice_set stores place.tree (word (store_at stores place.tree)), (c.in-Ok.ensures.answer stores hold).1, served-told c.success.ensures (serves stores hold)))

pub returns-in-Err-Refused-clause-served : goal.returns-in-Err-Refused-clause-served
returns-in-Err-Refused-clause-served g c = λ table handles of ready.
    let V = g.R.Rig.tells_view in
    let K = g.R.Rig.keeps_cuts in
    let o = g.R.Rig.state c.args.rig.now in
    let e = g.R.Rig.state c.make_dir.new.rig in
    let trees = c.args.trees.now in
    let place = model_place c.args.place in
    let name = c.last_name-name.result in
    let refused = at_refused DirNode V place.tree directory_refusal (λ v. made_directory v c.args.parent.0 name) (c.make_dir.new.rig ≡ c.args.rig.now) ⊥ o e trees c.make_dir.new.self
    c.in-Err-Refused.field-0 c.in-Err-Refused.ensures.answer c.in-Err-Refused.errno c.in-Err-Refused.field-0-is in
    let over = ready.serving.1 in
    let kept = refused over.0 over.1 in
    served_refused V K g.R.Rig.state c.args.rig.now c.make_dir.new.rig (g.met.R.Rig.sound c.args.rig.now) (λ fs. make_at table fs place) ⊥ trees c.make_dir.new.self handles ready c.refusal.result kept.1.0 kept.1.1
    (λ stores hold. served-told (c.refusal.ensures ∙ ap (λ (e : Errno). refusal e) c.in-Err-Refused.errno-is)
    (make-refuses V o table trees handles of ready.stored place c.requires.within c.args.parent c.requires.free name c.last_name-name.ensures.last c.last_name-name.ensures.few stores hold c.in-Err-Refused.errno (refused stores hold).0))

pub returns-in-Err-Device-clause-served : goal.returns-in-Err-Device-clause-served
returns-in-Err-Device-clause-served g c = λ table handles of ready.
    let V = g.R.Rig.tells_view in
    let K = g.R.Rig.keeps_cuts in
    let o = g.R.Rig.state c.args.rig.now in
    let e = g.R.Rig.state c.make_dir.new.rig in
    let trees = c.args.trees.now in
    let place = model_place c.args.place in
    let name = c.last_name-name.result in
    let word : StoreValue → StoreValue = λ v. made_directory v c.args.parent.0 name in
    let device = at_device DirNode V place.tree directory_refusal word (c.make_dir.new.rig ≡ c.args.rig.now) ⊥ o e trees c.make_dir.new.self
    c.in-Err-Device.field-0 c.in-Err-Device.ensures.answer c.in-Err-Device.field-0-is in
    let over = ready.serving.1 in
    served_fault V K o e (g.met.R.Rig.sound c.args.rig.now) (g.met.R.Rig.sound c.make_dir.new.rig) (λ fs. make_at table fs place) ⊥ trees handles ready c.make_dir.new.self
    (acts_few V 4 3 o e trees c.make_dir.new.self (omega arith) (omega arith) c.make_dir.ensures.acts)
    (passes_word V o e (λ fs. make_at table fs place) trees handles place.tree c.requires.within word c.make_dir.ensures.moments
    (λ stores hold. (
      handles,
      success Empty,
      make-serves V o table trees handles of ready.stored place c.requires.within c.args.parent c.requires.free name c.last_name-name.ensures.last c.last_name-name.ensures.few stores hold (device stores hold).0,
    )))
    _ (device over.0 over.1).1
