use Rattle.std.proofs.Common.{◌≡◌, ◌<◌, List, Some, None, false, ap, length, arith}
use Rattle.std.specs.Prelude.{is_some, slice_set}
use Rattle.apex_types.specs.declared.fields.Spot.TheVariants.{Free}
use Rattle.apex_types.specs.declared.replies.Values.TheVariants.{Empty}
use Rattle.apex_model.specs.Outcomes.{success}
use Rattle.apex_model.specs.Trees.{walk}
use Rattle.file_tree.specs.Entries.{TreeValue, IsSpotAt, slot}
use Rattle.store_model.specs.Stores.{StoreValue}
use Rattle.store_model.specs.Systems.{store_at}
use Rattle.tree_store.specs.Answers.{renamed_file}
use Rattle.tree_store.specs.Serving.{AllHold}
use Rattle.tree_store.specs.Stored.{names_of}
use Rattle.service_parts.specs.Serving.{ReadsFailed, Serves}
use Rattle.service_parts.proofs.Closing.{acts_few, passes_word, served_acts, served_fault}
use Rattle.service_parts.proofs.Held.{all_outlined, at_value, ready_at, stores_long, there}
use Rattle.service_parts.proofs.Served.{served-told}
use Rattle.file_services.proofs.FreePaths.{free-named}
use Rattle.file_services.proofs.NewNames.{directory-used, path-shallow, path-free}
use Rattle.file_services.proofs.RenamingLaws.{rename_step, rename-done, renamed-is}
use Rattle.file_services.proofs.renaming.rename_closed.Goals as goal

-- a path that leads to nothing has a last name
pub last_name-name-requires : goal.last_name-name-requires
last_name-name-requires g c =
    let tree = there c.args.trees.now c.args.target.tree c.requires.within in
    free-named (names_of tree.0) c.args.target.path.names c.args.parent (c.requires.free tree.0 tree.1)

pub rename-requires-clause-ready : goal.rename-requires-clause-ready
rename-requires-clause-ready g c =
    let V = g.R.Rig.tells_view in
    let K = g.R.Rig.keeps_cuts in
    let o = g.R.Rig.state c.args.rig.now in
    let trees = c.args.trees.now in
    let handles = c.args.handles.now in
    ready_at V o trees handles c.requires.serving c.args.target.tree c.requires.within

pub rename-requires-clause-file : goal.rename-requires-clause-file
rename-requires-clause-file g c = λ store at. ap is_some (c.requires.found store at)

pub rename-requires-clause-in_use : goal.rename-requires-clause-in_use
rename-requires-clause-in_use g c = λ store at. directory-used (names_of store) c.args.parent c.args.target.path.names (c.requires.free store at)

pub rename-requires-clause-few : goal.rename-requires-clause-few
rename-requires-clause-few g c = λ store at.
    path-shallow (names_of store) c.args.parent c.args.target.path.names c.last_name-name.result (c.requires.free store at) c.last_name-name.ensures.last c.last_name-name.ensures.few

pub rename-requires-clause-free : goal.rename-requires-clause-free
rename-requires-clause-free g c = λ store at.
    path-free (names_of store) c.args.parent c.args.target.path.names c.last_name-name.result (c.requires.free store at) c.last_name-name.ensures.last

pub returns-in-Ok-clause-served : goal.returns-in-Ok-clause-served
returns-in-Ok-clause-served g c =
    let V = g.R.Rig.tells_view in
    let K = g.R.Rig.keeps_cuts in
    let o = g.R.Rig.state c.args.rig.now in
    let trees = c.args.trees.now in
    let handles = c.args.handles.now in
    let e = g.R.Rig.state c.rename.new.rig in
    let ready = c.requires.serving in
    let k = c.args.target.tree in
    let f = c.args.file in
    let name = c.last_name-name.result in
    let word : StoreValue → StoreValue = λ v. renamed_file v f.0 c.args.parent.0 name in
    let serves : (stores : List StoreValue) → AllHold V o trees stores → Serves (rename_step c.args.p.0 c.args.target.tree c.args.from.now c.args.target.path.names) stores handles (slice_set stores k (word (store_at stores k))) handles (success Empty)
    = λ stores hold.
    let low = stores_long trees stores (all_outlined V o trees stores hold) in
    let within : c.args.target.tree < length stores = omega (arith, low, c.requires.within) in
    let at = (at_value trees stores (all_outlined V o trees stores hold) (λ (v : TreeValue). slot v.files c.args.file.0 ≡ Some c.args.from.now) c.args.target.tree c.requires.within c.requires.found) in
    let free = (at_value trees stores (all_outlined V o trees stores hold) (λ (v : TreeValue). IsSpotAt v c.args.target.path.names (Free c.args.parent)) c.args.target.tree c.requires.within c.requires.free) in
    rename-done stores handles c.args.p.0 c.args.target.tree c.args.from.now c.args.target.path.names within f at (word (store_at stores k)) c.args.parent (at_value trees stores (all_outlined V o trees stores hold) (λ (v : TreeValue). walk v.nodes c.args.target.path.names ≡ None) c.args.target.tree c.requires.within c.requires.way) c.requires.closed free c.last_name-name.ensures.few
    (renamed-is (store_at stores k) f.0 c.args.from.now c.args.target.path.names c.args.parent name at free c.last_name-name.ensures.last) in
    served_acts V K o e (g.met.R.Rig.sound c.args.rig.now) (g.met.R.Rig.sound c.rename.new.rig) (rename_step c.args.p.0 c.args.target.tree c.args.from.now c.args.target.path.names) (ReadsFailed false o e) trees handles ready
    c.rename.new.self (acts_few V 4 3 o e trees c.rename.new.self (omega arith) (omega arith) c.rename.ensures.acts)
    (passes_word V o e (rename_step c.args.p.0 c.args.target.tree c.args.from.now c.args.target.path.names) trees handles k c.requires.within word c.rename.ensures.moments (λ stores hold. (handles, success Empty, serves stores hold)))
    handles c.success.result c.in-Ok.ensures.stored
    (λ stores hold. (slice_set stores k (word (store_at stores k)), c.in-Ok.ensures.done stores hold, served-told c.success.ensures (serves stores hold)))

pub returns-in-Err-clause-served : goal.returns-in-Err-clause-served
returns-in-Err-clause-served g c =
    let V = g.R.Rig.tells_view in
    let K = g.R.Rig.keeps_cuts in
    let o = g.R.Rig.state c.args.rig.now in
    let trees = c.args.trees.now in
    let handles = c.args.handles.now in
    let e = g.R.Rig.state c.rename.new.rig in
    let ready = c.requires.serving in
    let k = c.args.target.tree in
    let f = c.args.file in
    let name = c.last_name-name.result in
    let word : StoreValue → StoreValue = λ v. renamed_file v f.0 c.args.parent.0 name in
    let serves : (stores : List StoreValue) → AllHold V o trees stores → Serves (rename_step c.args.p.0 c.args.target.tree c.args.from.now c.args.target.path.names) stores handles (slice_set stores k (word (store_at stores k))) handles (success Empty)
    = λ stores hold.
    let low = stores_long trees stores (all_outlined V o trees stores hold) in
    let within : c.args.target.tree < length stores = omega (arith, low, c.requires.within) in
    let at = (at_value trees stores (all_outlined V o trees stores hold) (λ (v : TreeValue). slot v.files c.args.file.0 ≡ Some c.args.from.now) c.args.target.tree c.requires.within c.requires.found) in
    let free = (at_value trees stores (all_outlined V o trees stores hold) (λ (v : TreeValue). IsSpotAt v c.args.target.path.names (Free c.args.parent)) c.args.target.tree c.requires.within c.requires.free) in
    rename-done stores handles c.args.p.0 c.args.target.tree c.args.from.now c.args.target.path.names within f at (word (store_at stores k)) c.args.parent (at_value trees stores (all_outlined V o trees stores hold) (λ (v : TreeValue). walk v.nodes c.args.target.path.names ≡ None) c.args.target.tree c.requires.within c.requires.way) c.requires.closed free c.last_name-name.ensures.few
    (renamed-is (store_at stores k) f.0 c.args.from.now c.args.target.path.names c.args.parent name at free c.last_name-name.ensures.last) in
    let over = ready.serving.1 in
    served_fault V K o e (g.met.R.Rig.sound c.args.rig.now) (g.met.R.Rig.sound c.rename.new.rig) (rename_step c.args.p.0 c.args.target.tree c.args.from.now c.args.target.path.names) (ReadsFailed false o e) trees handles ready
    c.rename.new.self (acts_few V 4 3 o e trees c.rename.new.self (omega arith) (omega arith) c.rename.ensures.acts)
    (passes_word V o e (rename_step c.args.p.0 c.args.target.tree c.args.from.now c.args.target.path.names) trees handles k c.requires.within word c.rename.ensures.moments (λ stores hold. (handles, success Empty, serves stores hold)))
    _ (c.in-Err.ensures.done over.0 over.1)
