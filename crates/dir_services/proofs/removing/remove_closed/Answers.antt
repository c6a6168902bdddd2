use Rattle.std.proofs.Common.{◌≡◌, List, Some, ap, ◌∙◌, refl, arith}
use Rattle.std.specs.Prelude.{map, slice_set}
use Rattle.apex_types.specs.declared.codes.Errno.{Errno}
use Rattle.apex_types.specs.declared.replies.Values.TheVariants.{Empty}
use Rattle.apex_model.specs.DirectoryStep.{remove_directory_at}
use Rattle.apex_model.specs.Outcomes.{success, refusal}
use Rattle.apex_model.specs.Trees.{directory}
use Rattle.file_tree.proofs.Changes.{is_some}
use Rattle.open_handles.specs.NodeHandles.{with_directory_gone}
use Rattle.store_model.specs.Stores.{StoreValue}
use Rattle.store_model.specs.Systems.{store_at}
use Rattle.tree_store.specs.Answers.{removal_refusal, removed_directory}
use Rattle.tree_store.specs.Serving.{AllHold}
use Rattle.service_parts.specs.Places.{model_place}
use Rattle.service_parts.proofs.Closing.{acts_few, at_device, at_refused, passes_word, served_acts, served_fault, served_refused}
use Rattle.service_parts.proofs.Held.{ready_at}
use Rattle.service_parts.proofs.Served.{served-new, served-told}
use Rattle.dir_services.proofs.RemovingLaws.{remove-serves, remove-refuses}
use Rattle.dir_services.proofs.removing.remove_closed.Goals as goal

pub remove_dir-requires-clause-ready : goal.remove_dir-requires-clause-ready
remove_dir-requires-clause-ready g c =
    ready_at g.R.Rig.tells_view (g.R.Rig.state c.args.rig.now) c.args.trees.now c.args.handles.now c.requires.serving c.args.place.tree c.requires.within

pub remove_dir-requires-clause-in_use : goal.remove_dir-requires-clause-in_use
remove_dir-requires-clause-in_use g c = λ store at. is_some (c.requires.stands store at)

pub returns-in-Ok-clause-served : goal.returns-in-Ok-clause-served
returns-in-Ok-clause-served g c =
    let V = g.R.Rig.tells_view in
    let K = g.R.Rig.keeps_cuts in
    let o = g.R.Rig.state c.args.rig.now in
    let e = g.R.Rig.state c.remove_dir.new.rig in
    let trees = c.args.trees.now in
    let handles = c.args.handles.now in
    let place = model_place c.args.place in
    let gone = map (with_directory_gone place.tree c.args.found) handles in
    let word : StoreValue → StoreValue = λ v. removed_directory v c.args.found.0 in
    let serves = λ (stores : List StoreValue) (hold : AllHold V o trees stores).
    remove-serves V o trees handles c.args.p.0 place c.requires.within c.args.found c.requires.below_root c.requires.stands c.requires.closed stores hold (c.in-Ok.ensures.answer stores hold).0 in
    served_acts V K o e (g.met.R.Rig.sound c.args.rig.now) (g.met.R.Rig.sound c.remove_dir.new.rig) (λ fs. remove_directory_at fs c.args.p.0 place (Some directory)) ⊥ trees handles c.requires.serving c.remove_dir.new.self
    (acts_few V 4 3 o e trees c.remove_dir.new.self (omega arith) (omega arith) c.remove_dir.ensures.acts)
    (passes_word V o e (λ fs. remove_directory_at fs c.args.p.0 place (Some directory)) trees handles place.tree c.requires.within word c.remove_dir.ensures.moments (λ stores hold. (gone, success Empty, serves stores hold)))
    c.directory_gone.new.self c.success.result c.in-Ok.ensures.stored
    (λ stores hold. (slice_set stores place.tree (word (store_at stores place.tree)), (c.in-Ok.ensures.answer stores hold).1, served-new refl c.directory_gone.ensures c.success.ensures (serves stores hold)))

pub returns-in-Err-Refused-clause-served : goal.returns-in-Err-Refused-clause-served
returns-in-Err-Refused-clause-served g c =
    let V = g.R.Rig.tells_view in
    let K = g.R.Rig.keeps_cuts in
    let o = g.R.Rig.state c.args.rig.now in
    let e = g.R.Rig.state c.remove_dir.new.rig in
    let trees = c.args.trees.now in
    let handles = c.args.handles.now in
    let place = model_place c.args.place in
    let refused = at_refused Unit V place.tree (λ v. removal_refusal v c.args.found.0) (λ v. removed_directory v c.args.found.0) (c.remove_dir.new.rig ≡ c.args.rig.now) ⊥ o e trees c.remove_dir.new.self
    c.in-Err-Refused.field-0 c.in-Err-Refused.ensures.answer c.in-Err-Refused.errno c.in-Err-Refused.field-0-is in
    let over = c.requires.serving.serving.1 in
    let kept = refused over.0 over.1 in
    served_refused V K g.R.Rig.state c.args.rig.now c.remove_dir.new.rig (g.met.R.Rig.sound c.args.rig.now) (λ fs. remove_directory_at fs c.args.p.0 place (Some directory)) ⊥ trees c.remove_dir.new.self handles c.requires.serving
    c.refusal.result kept.1.0 kept.1.1
    (λ stores hold. served-told (c.refusal.ensures ∙ ap (λ (e : Errno). refusal e) c.in-Err-Refused.errno-is)
    (remove-refuses V o trees handles c.args.p.0 place c.requires.within c.args.found c.requires.below_root c.requires.stands c.requires.closed stores hold c.in-Err-Refused.errno (refused stores hold).0))

pub returns-in-Err-Device-clause-served : goal.returns-in-Err-Device-clause-served
returns-in-Err-Device-clause-served g c =
    let V = g.R.Rig.tells_view in
    let K = g.R.Rig.keeps_cuts in
    let o = g.R.Rig.state c.args.rig.now in
    let e = g.R.Rig.state c.remove_dir.new.rig in
    let trees = c.args.trees.now in
    let handles = c.args.handles.now in
    let place = model_place c.args.place in
    let gone = map (with_directory_gone place.tree c.args.found) handles in
    let word : StoreValue → StoreValue = λ v. removed_directory v c.args.found.0 in
    let device = at_device Unit V place.tree (λ v. removal_refusal v c.args.found.0) word (c.remove_dir.new.rig ≡ c.args.rig.now) ⊥ o e trees c.remove_dir.new.self
    c.in-Err-Device.field-0 c.in-Err-Device.ensures.answer c.in-Err-Device.field-0-is in
    let over = c.requires.serving.serving.1 in
    served_fault V K o e (g.met.R.Rig.sound c.args.rig.now) (g.met.R.Rig.sound c.remove_dir.new.rig) (λ fs. remove_directory_at fs c.args.p.0 place (Some directory)) ⊥ trees handles c.requires.serving c.remove_dir.new.self
    (acts_few V 4 3 o e trees c.remove_dir.new.self (omega arith) (omega arith) c.remove_dir.ensures.acts)
    (passes_word V o e (λ fs. remove_directory_at fs c.args.p.0 place (Some directory)) trees handles place.tree c.requires.within word c.remove_dir.ensures.moments
    (λ stores hold. (
      gone,
      success Empty,
      remove-serves V o trees handles c.args.p.0 place c.requires.within c.args.found c.requires.below_root c.requires.stands c.requires.closed stores hold (device stores hold).0,
    )))
    _ (device over.0 over.1).1
