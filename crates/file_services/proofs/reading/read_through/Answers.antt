use Rattle.std.proofs.Common.{◌≡◌, ◌+◌, List, length, subst, ◌∙◌, ap, refl, Some, true}
use Rattle.std.specs.Prelude.{IfSome}
use Rattle.apex_types.specs.declared.replies.Values.TheVariants.{Read}
use Rattle.apex_model.specs.Files.{Content, read_at}
use Rattle.apex_model.specs.FileStep.{read_file}
use Rattle.apex_model.specs.Handles.{handle_at}
use Rattle.apex_model.specs.Outcomes.{success}
use Rattle.open_handles.specs.NodeHandles.{handles_of, with_file_slot}
use Rattle.store_model.specs.Stores.{StoreValue, kept_at}
use Rattle.store_model.specs.Systems.{store_at}
use Rattle.service_parts.specs.Serving.{ReadsFailed}
use Rattle.service_parts.proofs.Closing.{served_reads, served_unread_reads}
use Rattle.service_parts.proofs.Held.{all_outlined, ready_at, seen}
use Rattle.service_parts.proofs.Served.{accepting, served-new, success-told}
use Rattle.file_services.proofs.Held.{held-in_use, held-low, held-tree, moved-handles}
use Rattle.file_services.proofs.ReadingLaws.{read-goes, read-done, read-long}
use Rattle.file_services.proofs.reading.read_through.Goals as goal

pub part_of-requires-clause-ready : goal.part_of-requires-clause-ready
part_of-requires-clause-ready g c =
    let V = g.R.Rig.tells_view in
    let K = g.R.Rig.keeps_cuts in
    let o = g.R.Rig.state c.args.rig.now in
    let trees = c.args.trees.now in
    let handles = c.args.handles.now in
    ready_at V o trees handles c.requires.serving c.args.handle.tree
    (held-tree trees handles c.args.p.0 c.args.id c.args.handle c.args.file c.requires.held c.requires.has_file (seen V o trees handles c.requires.serving))

pub part_of-requires-clause-in_use : goal.part_of-requires-clause-in_use
part_of-requires-clause-in_use g c =
    let V = g.R.Rig.tells_view in
    let K = g.R.Rig.keeps_cuts in
    let o = g.R.Rig.state c.args.rig.now in
    let trees = c.args.trees.now in
    let handles = c.args.handles.now in
    held-in_use trees handles c.args.p.0 c.args.id c.args.handle c.args.file c.requires.held c.requires.has_file (seen V o trees handles c.requires.serving)

pub part_of-requires-clause-low : goal.part_of-requires-clause-low
part_of-requires-clause-low g c =
    let V = g.R.Rig.tells_view in
    let K = g.R.Rig.keeps_cuts in
    let o = g.R.Rig.state c.args.rig.now in
    let trees = c.args.trees.now in
    let handles = c.args.handles.now in
    held-low V o trees handles c.args.p.0 c.args.id c.args.handle c.requires.held c.requires.serving

-- a failed read is told, and the position stays
pub returns-in-Err-clause-served : goal.returns-in-Err-clause-served
returns-in-Err-clause-served g c =
    let V = g.R.Rig.tells_view in
    let K = g.R.Rig.keeps_cuts in
    let o = g.R.Rig.state c.args.rig.now in
    let trees = c.args.trees.now in
    let handles = c.args.handles.now in
    let e = g.R.Rig.state c.part_of.new.rig in
    let ready = c.requires.serving in
    let k = c.args.handle.tree in
    let within = held-tree trees handles c.args.p.0 c.args.id c.args.handle c.args.file c.requires.held c.requires.has_file (seen V o trees handles ready) in
    let read : List StoreValue → Content = λ stores. read_at (kept_at (store_at stores k) c.args.file.0).content c.args.handle.position c.args.limit in
    served_unread_reads V K o e (g.met.R.Rig.sound c.args.rig.now) (g.met.R.Rig.sound c.part_of.new.rig) (λ fs. read_file fs c.args.p.0 c.args.id c.args.limit) (ReadsFailed true o e) trees handles ready c.in-Err.ensures.reads
    c.refusal.result c.refusal.ensures c.in-Err.ensures.cause
    (λ fs over. accepting (read-goes over.0 handles c.args.p.0 c.args.id c.args.limit c.args.handle c.args.file (read over.0) c.requires.held c.requires.has_file c.requires.some c.requires.few refl fs over.2))

-- the bytes are known where the rig tells its view, and how many they are for every rig
pub returns-in-Ok-clause-served : goal.returns-in-Ok-clause-served
returns-in-Ok-clause-served g c =
    let V = g.R.Rig.tells_view in
    let K = g.R.Rig.keeps_cuts in
    let o = g.R.Rig.state c.args.rig.now in
    let trees = c.args.trees.now in
    let handles = c.args.handles.now in
    let e = g.R.Rig.state c.part_of.new.rig in
    let ready = c.requires.serving in
    let k = c.args.handle.tree in
    let within = held-tree trees handles c.args.p.0 c.args.id c.args.handle c.args.file c.requires.held c.requires.has_file (seen V o trees handles ready) in
    let read : List StoreValue → Content = λ stores. read_at (kept_at (store_at stores k) c.args.file.0).content c.args.handle.position c.args.limit in
    let told : c.success.result ≡ success (Read c.in-Ok.bytes) = c.success.ensures in
    let moved : c.set_position.new.self ≡ with_file_slot handles c.args.p.0 c.args.id (Some (record c.args.handle { position = c.args.handle.position + length c.in-Ok.bytes }))
    = moved-handles handles c.set_position.new.self c.args.p.0 c.args.id (c.args.handle.position + length c.in-Ok.bytes) c.args.handle
    (let R : Content → Type 0 = λ bytes. IfSome (handle_at (handles_of handles c.args.p.0).files c.args.id) (λ h. c.set_position.new.self ≡ with_file_slot handles c.args.p.0 c.args.id (Some (record h { position = c.args.handle.position + length bytes }))) in
    subst R c.bytes.ensures.value c.set_position.ensures) c.requires.held in
    served_reads V K o e (g.met.R.Rig.sound c.args.rig.now) (g.met.R.Rig.sound c.part_of.new.rig) (λ fs. read_file fs c.args.p.0 c.args.id c.args.limit) (ReadsFailed true o e) trees handles ready c.in-Ok.ensures.reads
    c.set_position.new.self c.success.result (success-told told)
    (λ stores hold.
    let long : length c.in-Ok.bytes ≡ length (read stores) = read-long trees stores (all_outlined V o trees stores hold) k within c.args.file.0 c.args.handle.position c.args.limit (length c.in-Ok.bytes) c.in-Ok.ensures.count in (
      success (Read (read stores)),
      λ tells. told ∙ ap (λ (bytes : Content). success (Read bytes)) (c.in-Ok.ensures.bytes tells stores hold),
      served-new refl (moved ∙ ap (λ n. with_file_slot handles c.args.p.0 c.args.id (Some (record c.args.handle { position = c.args.handle.position + n }))) long) refl
          (read-done stores handles c.args.p.0 c.args.id c.args.limit c.args.handle c.args.file (read stores) c.requires.held c.requires.has_file c.requires.some c.requires.few refl),
    ))
