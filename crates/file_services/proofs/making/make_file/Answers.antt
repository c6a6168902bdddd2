use Rattle.std.proofs.Common.{◌≡◌, ◌<◌, List, Some, None, refl, sym, subst, ◌∙◌, ap, length, false, arith}
use Rattle.std.specs.Prelude.{slice_set}
use Rattle.apex_types.specs.declared.codes.Errno.{Errno}
use Rattle.apex_types.specs.declared.fields.Spot.TheVariants.{Free}
use Rattle.apex_types.specs.declared.numbers.FileNode.{FileNode}
use Rattle.apex_model.specs.Handles.{free_from, least_free}
use Rattle.apex_model.specs.Outcomes.{refusal}
use Rattle.file_tree.specs.Entries.{TreeValue, IsSpotAt}
use Rattle.open_handles.specs.NodeHandles.{handles_of}
use Rattle.store_model.specs.Stores.{StoreValue}
use Rattle.store_model.specs.Systems.{store_at}
use Rattle.tree_store.specs.Answers.{file_refusal, made_file}
use Rattle.tree_store.specs.Serving.{AllHold}
use Rattle.tree_store.specs.Stored.{names_of}
use Rattle.service_parts.specs.Serving.{ReadsFailed}
use Rattle.service_parts.proofs.Closing.{WordServes, acts_few, at_device, at_refused, passes_word, served_acts, served_fault, served_refused}
use Rattle.service_parts.proofs.Held.{all_outlined, at_value, of_table_held, ready_at, stores_long, there, tree_of}
use Rattle.service_parts.proofs.Served.{served-new, some-there}
use Rattle.file_services.proofs.FreePaths.{free-named}
use Rattle.file_services.proofs.MakingLaws.{make_step}
use Rattle.file_services.proofs.NewNames.{directory-used, path-shallow, path-free, make-refused, make-opened, make-serves}
use Rattle.file_services.proofs.making.make_file.Goals as goal

-- a path that leads to nothing has a last name
pub last_name-name-requires : goal.last_name-name-requires
last_name-name-requires g c =
    let tree = there c.args.trees.now c.args.place.tree c.requires.within in
    free-named (names_of tree.0) c.args.place.path.names c.args.parent (c.requires.free tree.0 tree.1)

pub make_file-requires-clause-ready : goal.make_file-requires-clause-ready
make_file-requires-clause-ready g c =
    let V = g.R.Rig.tells_view in
    let K = g.R.Rig.keeps_cuts in
    let o = g.R.Rig.state c.args.rig.now in
    let trees = c.args.trees.now in
    let handles = c.args.handles.now in
    ready_at V o trees handles c.requires.serving c.args.place.tree c.requires.within

pub make_file-requires-clause-in_use : goal.make_file-requires-clause-in_use
make_file-requires-clause-in_use g c = λ store at. directory-used (names_of store) c.args.parent c.args.place.path.names (c.requires.free store at)

pub make_file-requires-clause-few : goal.make_file-requires-clause-few
make_file-requires-clause-few g c = λ store at.
    path-shallow (names_of store) c.args.parent c.args.place.path.names c.last_name-name.result (c.requires.free store at) c.last_name-name.ensures.last c.last_name-name.ensures.few

pub make_file-requires-clause-free : goal.make_file-requires-clause-free
make_file-requires-clause-free g c = λ store at.
    path-free (names_of store) c.args.parent c.args.place.path.names c.last_name-name.result (c.requires.free store at) c.last_name-name.ensures.last

pub returns-in-Some-clause-served : goal.returns-in-Some-clause-served
returns-in-Some-clause-served g c =
    let V = g.R.Rig.tells_view in
    let K = g.R.Rig.keeps_cuts in
    let o = g.R.Rig.state c.args.rig.now in
    let trees = c.args.trees.now in
    let handles = c.args.handles.now in
    let e = g.R.Rig.state c.make_file.new.rig in
    let ready = c.requires.serving in
    let k = c.args.place.tree in
    let name = c.last_name-name.result in
    let word : StoreValue → StoreValue = λ v. made_file v c.args.parent.0 name in
    let number = some-there (least_free (handles_of handles c.args.p.0).files) c.requires.number in
    let long : (stores : List StoreValue) → AllHold V o trees stores → length (store_at stores k).tree.stored ≡ length (store_at stores k).tree.files
    = λ stores hold. subst (λ (v : TreeValue). length v.stored ≡ length v.files) (tree_of trees stores (all_outlined V o trees stores hold) k c.requires.within c.tree.result.now c.tree.ensures) c.stand.ensures.stored in
    let serves : (fine : (stores : List StoreValue) → AllHold V o trees stores → file_refusal (store_at stores k) ≡ None) → WordServes V o (make_step c.args.table.now c.args.p.0 c.args.place.tree c.args.place.path.names) trees handles k word
    = λ fine stores hold.
    let low = stores_long trees stores (all_outlined V o trees stores hold) in
    let within : c.args.place.tree < length stores = omega (arith, low, c.requires.within) in
    let found = at_value trees stores (all_outlined V o trees stores hold) (λ (v : TreeValue). IsSpotAt v c.args.place.path.names (Free c.args.parent)) c.args.place.tree c.requires.within c.requires.free in
    make-serves c.args.table.now stores handles c.args.p.0 c.args.place.tree c.args.place.path.names within (of_table_held V o c.args.table.now trees stores handles c.requires.of_table c.requires.serving.stored hold) c.args.parent found name c.last_name-name.ensures.last c.last_name-name.ensures.few (long stores hold) (fine stores hold) number.0 number.1 in
    let fine = λ (stores : List StoreValue) (hold : AllHold V o trees stores). (c.in-Ok.ensures.answer stores hold).0 in
    served_acts V K o e (g.met.R.Rig.sound c.args.rig.now) (g.met.R.Rig.sound c.make_file.new.rig) (make_step c.args.table.now c.args.p.0 c.args.place.tree c.args.place.path.names) (ReadsFailed false o e) trees handles ready
    c.make_file.new.self (acts_few V 4 3 o e trees c.make_file.new.self (omega arith) (omega arith) c.make_file.ensures.acts) (passes_word V o e (make_step c.args.table.now c.args.p.0 c.args.place.tree c.args.place.path.names) trees handles k c.requires.within word c.make_file.ensures.moments (serves fine))
    c.open_file.new.self c.success.result c.in-Ok.ensures.stored
    (λ stores hold.
    let low = stores_long trees stores (all_outlined V o trees stores hold) in
    let within : c.args.place.tree < length stores = omega (arith, low, c.requires.within) in
    let found = at_value trees stores (all_outlined V o trees stores hold) (λ (v : TreeValue). IsSpotAt v c.args.place.path.names (Free c.args.parent)) c.args.place.tree c.requires.within c.requires.free in
    let least = at_value trees stores (all_outlined V o trees stores hold) (λ (v : TreeValue). free_from 0 v.files ≡ Some c.in-Ok.file.0) k c.requires.within c.in-Ok.ensures.node in (
      slice_set stores k (word (store_at stores k)),
      (c.in-Ok.ensures.answer stores hold).1,
      served-new refl c.in-Some.ensures.opened c.success.ensures
          (make-opened c.args.table.now stores handles c.args.p.0 c.args.place.tree c.args.place.path.names within (of_table_held V o c.args.table.now trees stores handles c.requires.of_table c.requires.serving.stored hold) c.args.parent found name c.last_name-name.ensures.last c.last_name-name.ensures.few (long stores hold) c.in-Ok.file c.in-Some.id least (sym c.in-Some.ensures.number)),
    ))

pub returns-in-Err-Refused-clause-served : goal.returns-in-Err-Refused-clause-served
returns-in-Err-Refused-clause-served g c =
    let V = g.R.Rig.tells_view in
    let K = g.R.Rig.keeps_cuts in
    let o = g.R.Rig.state c.args.rig.now in
    let trees = c.args.trees.now in
    let handles = c.args.handles.now in
    let e = g.R.Rig.state c.make_file.new.rig in
    let ready = c.requires.serving in
    let k = c.args.place.tree in
    let name = c.last_name-name.result in
    let word : StoreValue → StoreValue = λ v. made_file v c.args.parent.0 name in
    let number = some-there (least_free (handles_of handles c.args.p.0).files) c.requires.number in
    let long : (stores : List StoreValue) → AllHold V o trees stores → length (store_at stores k).tree.stored ≡ length (store_at stores k).tree.files
    = λ stores hold. subst (λ (v : TreeValue). length v.stored ≡ length v.files) (tree_of trees stores (all_outlined V o trees stores hold) k c.requires.within c.tree.result.now c.tree.ensures) c.stand.ensures.stored in
    let serves : (fine : (stores : List StoreValue) → AllHold V o trees stores → file_refusal (store_at stores k) ≡ None) → WordServes V o (make_step c.args.table.now c.args.p.0 c.args.place.tree c.args.place.path.names) trees handles k word
    = λ fine stores hold.
    let low = stores_long trees stores (all_outlined V o trees stores hold) in
    let within : c.args.place.tree < length stores = omega (arith, low, c.requires.within) in
    let found = at_value trees stores (all_outlined V o trees stores hold) (λ (v : TreeValue). IsSpotAt v c.args.place.path.names (Free c.args.parent)) c.args.place.tree c.requires.within c.requires.free in
    make-serves c.args.table.now stores handles c.args.p.0 c.args.place.tree c.args.place.path.names within (of_table_held V o c.args.table.now trees stores handles c.requires.of_table c.requires.serving.stored hold) c.args.parent found name c.last_name-name.ensures.last c.last_name-name.ensures.few (long stores hold) (fine stores hold) number.0 number.1 in
    let over = ready.serving.1 in
    let refused = at_refused FileNode V k file_refusal word (c.make_file.new.rig ≡ c.args.rig.now) ⊥ o e trees c.make_file.new.self c.in-Err-Refused.field-0 c.in-Err-Refused.ensures.answer c.in-Err-Refused.errno c.in-Err-Refused.field-0-is in
    let kept = refused over.0 over.1 in
    served_refused V K g.R.Rig.state c.args.rig.now c.make_file.new.rig (g.met.R.Rig.sound c.args.rig.now) (make_step c.args.table.now c.args.p.0 c.args.place.tree c.args.place.path.names) (ReadsFailed false o e) trees c.make_file.new.self handles ready c.refusal.result kept.1.0 kept.1.1
    (λ stores hold.
    let low = stores_long trees stores (all_outlined V o trees stores hold) in
    let within : c.args.place.tree < length stores = omega (arith, low, c.requires.within) in
    let found = at_value trees stores (all_outlined V o trees stores hold) (λ (v : TreeValue). IsSpotAt v c.args.place.path.names (Free c.args.parent)) c.args.place.tree c.requires.within c.requires.free in
    let answer = refused stores hold in
    make-refused c.args.table.now stores handles c.args.p.0 c.args.place.tree c.args.place.path.names within (of_table_held V o c.args.table.now trees stores handles c.requires.of_table c.requires.serving.stored hold) c.args.parent found c.in-Err-Refused.errno c.refusal.result answer.0 (c.refusal.ensures ∙ ap (λ (e : Errno). refusal e) c.in-Err-Refused.errno-is))

pub returns-in-Err-Device-clause-served : goal.returns-in-Err-Device-clause-served
returns-in-Err-Device-clause-served g c =
    let V = g.R.Rig.tells_view in
    let K = g.R.Rig.keeps_cuts in
    let o = g.R.Rig.state c.args.rig.now in
    let trees = c.args.trees.now in
    let handles = c.args.handles.now in
    let e = g.R.Rig.state c.make_file.new.rig in
    let ready = c.requires.serving in
    let k = c.args.place.tree in
    let name = c.last_name-name.result in
    let word : StoreValue → StoreValue = λ v. made_file v c.args.parent.0 name in
    let number = some-there (least_free (handles_of handles c.args.p.0).files) c.requires.number in
    let long : (stores : List StoreValue) → AllHold V o trees stores → length (store_at stores k).tree.stored ≡ length (store_at stores k).tree.files
    = λ stores hold. subst (λ (v : TreeValue). length v.stored ≡ length v.files) (tree_of trees stores (all_outlined V o trees stores hold) k c.requires.within c.tree.result.now c.tree.ensures) c.stand.ensures.stored in
    let serves : (fine : (stores : List StoreValue) → AllHold V o trees stores → file_refusal (store_at stores k) ≡ None) → WordServes V o (make_step c.args.table.now c.args.p.0 c.args.place.tree c.args.place.path.names) trees handles k word
    = λ fine stores hold.
    let low = stores_long trees stores (all_outlined V o trees stores hold) in
    let within : c.args.place.tree < length stores = omega (arith, low, c.requires.within) in
    let found = at_value trees stores (all_outlined V o trees stores hold) (λ (v : TreeValue). IsSpotAt v c.args.place.path.names (Free c.args.parent)) c.args.place.tree c.requires.within c.requires.free in
    make-serves c.args.table.now stores handles c.args.p.0 c.args.place.tree c.args.place.path.names within (of_table_held V o c.args.table.now trees stores handles c.requires.of_table c.requires.serving.stored hold) c.args.parent found name c.last_name-name.ensures.last c.last_name-name.ensures.few (long stores hold) (fine stores hold) number.0 number.1 in
    let over = ready.serving.1 in
    let device = at_device FileNode V k file_refusal word (c.make_file.new.rig ≡ c.args.rig.now) ⊥ o e trees c.make_file.new.self c.in-Err-Device.field-0 c.in-Err-Device.ensures.answer c.in-Err-Device.field-0-is in
    let fine = λ (stores : List StoreValue) (hold : AllHold V o trees stores). (device stores hold).0 in
    served_fault V K o e (g.met.R.Rig.sound c.args.rig.now) (g.met.R.Rig.sound c.make_file.new.rig) (make_step c.args.table.now c.args.p.0 c.args.place.tree c.args.place.path.names) (ReadsFailed false o e) trees handles ready
    c.make_file.new.self (acts_few V 4 3 o e trees c.make_file.new.self (omega arith) (omega arith) c.make_file.ensures.acts) (passes_word V o e (make_step c.args.table.now c.args.p.0 c.args.place.tree c.args.place.path.names) trees handles k c.requires.within word c.make_file.ensures.moments (serves fine))
    _ (device over.0 over.1).1
