use Rattle.std.proofs.Common.{List, refl, false}
use Rattle.std.specs.Prelude.{slice_set}
use Rattle.apex_types.specs.declared.replies.Values.TheVariants.{Empty}
use Rattle.apex_model.specs.FileStep.{sync_file}
use Rattle.apex_model.specs.Outcomes.{success}
use Rattle.store_model.specs.Stores.{StoreValue, synchronised_store}
use Rattle.store_model.specs.Systems.{store_at}
use Rattle.service_parts.specs.Serving.{ReadsFailed}
use Rattle.service_parts.proofs.Closing.{acts_syncing, passes_word, served_acts, served_fault}
use Rattle.service_parts.proofs.Held.{ready_at, seen}
use Rattle.service_parts.proofs.Served.{served-told}
use Rattle.file_services.proofs.Held.{held-in_use, held-tree}
use Rattle.file_services.proofs.ChangingLaws.{sync-done}
use Rattle.file_services.proofs.changing.sync_through.Goals as goal

pub sync-requires-clause-ready : goal.sync-requires-clause-ready
sync-requires-clause-ready g c =
    let V = g.R.Rig.tells_view in
    let K = g.R.Rig.keeps_cuts in
    let o = g.R.Rig.state c.args.rig.now in
    let trees = c.args.trees.now in
    let handles = c.args.handles.now in
    ready_at V o trees handles c.requires.serving c.args.handle.tree
    (held-tree trees handles c.args.p.0 c.args.id c.args.handle c.args.file c.requires.held c.requires.has_file (seen V o trees handles c.requires.serving))

pub sync-requires-clause-in_use : goal.sync-requires-clause-in_use
sync-requires-clause-in_use g c =
    let V = g.R.Rig.tells_view in
    let K = g.R.Rig.keeps_cuts in
    let o = g.R.Rig.state c.args.rig.now in
    let trees = c.args.trees.now in
    let handles = c.args.handles.now in
    held-in_use trees handles c.args.p.0 c.args.id c.args.handle c.args.file c.requires.held c.requires.has_file (seen V o trees handles c.requires.serving)

pub returns-in-Ok : goal.returns-in-Ok
returns-in-Ok g c =
    let V = g.R.Rig.tells_view in
    let K = g.R.Rig.keeps_cuts in
    let o = g.R.Rig.state c.args.rig.now in
    let trees = c.args.trees.now in
    let handles = c.args.handles.now in
    let e = g.R.Rig.state c.sync.new.rig in
    let ready = c.requires.serving in
    let k = c.args.handle.tree in
    let within = held-tree trees handles c.args.p.0 c.args.id c.args.handle c.args.file c.requires.held c.requires.has_file (seen V o trees handles ready) in
    let word : StoreValue → StoreValue = λ v. synchronised_store v c.args.file.0 in
    let serves = λ (stores : List StoreValue). sync-done stores handles c.args.p.0 c.args.id c.args.handle c.args.file (word (store_at stores k)) c.requires.held c.requires.has_file c.requires.writes refl in
    served_acts V K o e (g.met.R.Rig.sound c.args.rig.now) (g.met.R.Rig.sound c.sync.new.rig) (λ fs. sync_file fs c.args.p.0 c.args.id) (ReadsFailed false o e) trees handles ready
    c.sync.new.self (acts_syncing V o e trees c.sync.new.self handles ready k within c.sync.ensures.acts) (passes_word V o e (λ fs. sync_file fs c.args.p.0 c.args.id) trees handles k within word c.sync.ensures.moments (λ stores hold. (handles, success Empty, serves stores)))
    handles c.success.result c.in-Ok.ensures.stored
    (λ stores hold. (slice_set stores k (word (store_at stores k)), c.in-Ok.ensures.done stores hold, served-told c.success.ensures (serves stores)))

pub returns-in-Err : goal.returns-in-Err
returns-in-Err g c =
    let V = g.R.Rig.tells_view in
    let K = g.R.Rig.keeps_cuts in
    let o = g.R.Rig.state c.args.rig.now in
    let trees = c.args.trees.now in
    let handles = c.args.handles.now in
    let e = g.R.Rig.state c.sync.new.rig in
    let ready = c.requires.serving in
    let k = c.args.handle.tree in
    let within = held-tree trees handles c.args.p.0 c.args.id c.args.handle c.args.file c.requires.held c.requires.has_file (seen V o trees handles ready) in
    let word : StoreValue → StoreValue = λ v. synchronised_store v c.args.file.0 in
    let serves = λ (stores : List StoreValue). sync-done stores handles c.args.p.0 c.args.id c.args.handle c.args.file (word (store_at stores k)) c.requires.held c.requires.has_file c.requires.writes refl in
    let over = ready.serving.1 in
    served_fault V K o e (g.met.R.Rig.sound c.args.rig.now) (g.met.R.Rig.sound c.sync.new.rig) (λ fs. sync_file fs c.args.p.0 c.args.id) (ReadsFailed false o e) trees handles ready
    c.sync.new.self (acts_syncing V o e trees c.sync.new.self handles ready k within c.sync.ensures.acts) (passes_word V o e (λ fs. sync_file fs c.args.p.0 c.args.id) trees handles k within word c.sync.ensures.moments (λ stores hold. (handles, success Empty, serves stores)))
    _ (c.in-Err.ensures.done over.0 over.1)
