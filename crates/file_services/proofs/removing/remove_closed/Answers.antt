use Rattle.std.proofs.Common.{◌≡◌, ◌<◌, List, Some, false, refl, ap, length, map, arith}
use Rattle.std.specs.Prelude.{is_some, slice_set}
use Rattle.apex_types.specs.declared.replies.Values.TheVariants.{Empty}
use Rattle.apex_model.specs.Outcomes.{success}
use Rattle.file_tree.specs.Entries.{TreeValue, slot}
use Rattle.open_handles.specs.NodeHandles.{with_file_gone}
use Rattle.store_model.specs.Stores.{StoreValue}
use Rattle.store_model.specs.Systems.{store_at}
use Rattle.tree_store.specs.Answers.{removed_file}
use Rattle.tree_store.specs.Serving.{AllHold}
use Rattle.service_parts.specs.Serving.{ReadsFailed, Serves}
use Rattle.service_parts.proofs.Closing.{acts_few, passes_word, served_acts, served_fault}
use Rattle.service_parts.proofs.Held.{all_outlined, at_value, ready_at, stores_long}
use Rattle.service_parts.proofs.Served.{served-new}
use Rattle.file_services.proofs.RemovingLaws.{remove_step, remove-done, removed-is}
use Rattle.file_services.proofs.removing.remove_closed.Goals as goal

pub remove_file-requires-clause-ready : goal.remove_file-requires-clause-ready
remove_file-requires-clause-ready g c =
    let V = g.R.Rig.tells_view in
    let K = g.R.Rig.keeps_cuts in
    let o = g.R.Rig.state c.args.rig.now in
    let trees = c.args.trees.now in
    let handles = c.args.handles.now in
    ready_at V o trees handles c.requires.serving c.args.place.tree c.requires.within

pub remove_file-requires-clause-in_use : goal.remove_file-requires-clause-in_use
remove_file-requires-clause-in_use g c = λ store at. ap is_some (c.requires.found store at)

pub returns-in-Ok-clause-served : goal.returns-in-Ok-clause-served
returns-in-Ok-clause-served g c =
    let V = g.R.Rig.tells_view in
    let K = g.R.Rig.keeps_cuts in
    let o = g.R.Rig.state c.args.rig.now in
    let trees = c.args.trees.now in
    let handles = c.args.handles.now in
    let e = g.R.Rig.state c.remove_file.new.rig in
    let ready = c.requires.serving in
    let k = c.args.place.tree in
    let f = c.args.file in
    let word : StoreValue → StoreValue = λ v. removed_file v f.0 in
    let serves : (stores : List StoreValue) → AllHold V o trees stores → Serves (remove_step c.args.p.0 c.args.place.tree c.args.place.path.names) stores handles (slice_set stores k (word (store_at stores k))) (map (with_file_gone k f) handles) (success Empty)
    = λ stores hold.
    let low = stores_long trees stores (all_outlined V o trees stores hold) in
    let within : c.args.place.tree < length stores = omega (arith, low, c.requires.within) in
    let at = at_value trees stores (all_outlined V o trees stores hold) (λ (v : TreeValue). slot v.files f.0 ≡ Some c.args.place.path.names) k c.requires.within c.requires.found in
    remove-done stores handles c.args.p.0 c.args.place.tree c.args.place.path.names within f at (word (store_at stores k)) c.requires.closed (removed-is (store_at stores k) f.0 c.args.place.path.names at) in
    served_acts V K o e (g.met.R.Rig.sound c.args.rig.now) (g.met.R.Rig.sound c.remove_file.new.rig) (remove_step c.args.p.0 c.args.place.tree c.args.place.path.names) (ReadsFailed false o e) trees handles ready
    c.remove_file.new.self (acts_few V 4 3 o e trees c.remove_file.new.self (omega arith) (omega arith) c.remove_file.ensures.acts)
    (passes_word V o e (remove_step c.args.p.0 c.args.place.tree c.args.place.path.names) trees handles k c.requires.within word c.remove_file.ensures.moments (λ stores hold. (map (with_file_gone k f) handles, success Empty, serves stores hold)))
    c.file_gone.new.self c.success.result c.in-Ok.ensures.stored
    (λ stores hold. (slice_set stores k (word (store_at stores k)), c.in-Ok.ensures.done stores hold, served-new refl c.file_gone.ensures c.success.ensures (serves stores hold)))

pub returns-in-Err-clause-served : goal.returns-in-Err-clause-served
returns-in-Err-clause-served g c =
    let V = g.R.Rig.tells_view in
    let K = g.R.Rig.keeps_cuts in
    let o = g.R.Rig.state c.args.rig.now in
    let trees = c.args.trees.now in
    let handles = c.args.handles.now in
    let e = g.R.Rig.state c.remove_file.new.rig in
    let ready = c.requires.serving in
    let k = c.args.place.tree in
    let f = c.args.file in
    let word : StoreValue → StoreValue = λ v. removed_file v f.0 in
    let serves : (stores : List StoreValue) → AllHold V o trees stores → Serves (remove_step c.args.p.0 c.args.place.tree c.args.place.path.names) stores handles (slice_set stores k (word (store_at stores k))) (map (with_file_gone k f) handles) (success Empty)
    = λ stores hold.
    let low = stores_long trees stores (all_outlined V o trees stores hold) in
    let within : c.args.place.tree < length stores = omega (arith, low, c.requires.within) in
    let at = at_value trees stores (all_outlined V o trees stores hold) (λ (v : TreeValue). slot v.files f.0 ≡ Some c.args.place.path.names) k c.requires.within c.requires.found in
    remove-done stores handles c.args.p.0 c.args.place.tree c.args.place.path.names within f at (word (store_at stores k)) c.requires.closed (removed-is (store_at stores k) f.0 c.args.place.path.names at) in
    let over = ready.serving.1 in
    served_fault V K o e (g.met.R.Rig.sound c.args.rig.now) (g.met.R.Rig.sound c.remove_file.new.rig) (remove_step c.args.p.0 c.args.place.tree c.args.place.path.names) (ReadsFailed false o e) trees handles ready
    c.remove_file.new.self (acts_few V 4 3 o e trees c.remove_file.new.self (omega arith) (omega arith) c.remove_file.ensures.acts)
    (passes_word V o e (remove_step c.args.p.0 c.args.place.tree c.args.place.path.names) trees handles k c.requires.within word c.remove_file.ensures.moments (λ stores hold. (map (with_file_gone k f) handles, success Empty, serves stores hold)))
    _ (c.in-Err.ensures.done over.0 over.1)
