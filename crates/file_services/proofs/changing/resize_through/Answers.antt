use Rattle.std.proofs.Common.{◌≡◌, ℕ, Some, subst, ◌∙◌, ap, refl}
use Rattle.std.specs.Prelude.{min, IfSome, true, slice_set}
use Rattle.apex_model.specs.FileStep.{resize_file}
use Rattle.apex_model.specs.Handles.{handle_at}
use Rattle.apex_model.specs.Outcomes.{refusal}
use Rattle.open_handles.specs.NodeHandles.{handles_of, with_file_slot}
use Rattle.store_model.specs.Systems.{store_at}
use Rattle.rig_core.specs.Causes.{Rose}
use Rattle.tree_store.specs.Answers.{resize_refusal, resized_store}
use Rattle.service_parts.specs.Serving.{ReadsFailed}
use Rattle.service_parts.proofs.Closing.{acts_writing, at_device, at_refused, at_unread, passes_same, served_acts, served_fault, served_refused, served_unread}
use Rattle.service_parts.proofs.Held.{of_table_held, ready_at, seen}
use Rattle.service_parts.proofs.Served.{accepting, served-new, served-told}
use Rattle.file_services.proofs.Held.{held-in_use, held-tree, moved-handles}
use Rattle.file_services.proofs.ChangingLaws.{resize-refused, resize-goes, resize-done}
use Rattle.file_services.proofs.Unread.{changing-unread}
use Rattle.file_services.proofs.changing.resize_through.Goals as goal

pub resize-requires-clause-ready : goal.resize-requires-clause-ready
resize-requires-clause-ready g c =
    let V = g.R.Rig.tells_view in
    let K = g.R.Rig.keeps_cuts in
    let o = g.R.Rig.state c.args.rig.now in
    let trees = c.args.trees.now in
    let handles = c.args.handles.now in
    ready_at V o trees handles c.requires.serving c.args.handle.tree
    (held-tree trees handles c.args.p.0 c.args.id c.args.handle c.args.file c.requires.held c.requires.has_file (seen V o trees handles c.requires.serving))

pub resize-requires-clause-in_use : goal.resize-requires-clause-in_use
resize-requires-clause-in_use g c =
    let V = g.R.Rig.tells_view in
    let K = g.R.Rig.keeps_cuts in
    let o = g.R.Rig.state c.args.rig.now in
    let trees = c.args.trees.now in
    let handles = c.args.handles.now in
    held-in_use trees handles c.args.p.0 c.args.id c.args.handle c.args.file c.requires.held c.requires.has_file (seen V o trees handles c.requires.serving)

pub returns-in-Ok-clause-served : goal.returns-in-Ok-clause-served
returns-in-Ok-clause-served g c = λ table of.
    let V = g.R.Rig.tells_view in
    let K = g.R.Rig.keeps_cuts in
    let o = g.R.Rig.state c.args.rig.now in
    let trees = c.args.trees.now in
    let handles = c.args.handles.now in
    let e = g.R.Rig.state c.resize.new.rig in
    let ready = c.requires.serving in
    let k = c.args.handle.tree in
    let within = held-tree trees handles c.args.p.0 c.args.id c.args.handle c.args.file c.requires.held c.requires.has_file (seen V o trees handles ready) in
    served_acts V K o e (g.met.R.Rig.sound c.args.rig.now) (g.met.R.Rig.sound c.resize.new.rig) (λ fs. resize_file table fs c.args.p.0 c.args.id c.args.size) (ReadsFailed true o e) trees handles ready
    c.resize.new.self (acts_writing V o e trees c.resize.new.self handles ready k within c.resize.ensures.acts) (passes_same V o e (λ fs. resize_file table fs c.args.p.0 c.args.id c.args.size) trees handles k within c.resize.ensures.moments)
    c.set_position.new.self c.success.result c.in-Ok.ensures.stored
    (λ stores hold.
    let answer = c.in-Ok.ensures.answer stores hold in
    let w = (resized_store c.args.file.0 c.args.size) (store_at stores k) in (
      slice_set stores k w,
      answer.1,
      served-new refl (moved-handles handles c.set_position.new.self c.args.p.0 c.args.id (min c.args.handle.position c.args.size) c.args.handle (let R : ℕ → Type 0 = λ position. IfSome (handle_at (handles_of handles c.args.p.0).files c.args.id) (λ h. c.set_position.new.self ≡ with_file_slot handles c.args.p.0 c.args.id (Some (record h { position = position }))) in
          subst R c.min.ensures c.set_position.ensures) c.requires.held) c.success.ensures
          (resize-done table stores handles c.args.p.0 c.args.id c.args.size (of_table_held V o table trees stores handles of ready.stored hold) c.args.handle c.args.file w c.requires.held c.requires.has_file c.requires.writes answer.0 refl),
    ))

pub returns-in-Err-Refused-clause-served : goal.returns-in-Err-Refused-clause-served
returns-in-Err-Refused-clause-served g c = λ table of.
    let V = g.R.Rig.tells_view in
    let K = g.R.Rig.keeps_cuts in
    let o = g.R.Rig.state c.args.rig.now in
    let trees = c.args.trees.now in
    let handles = c.args.handles.now in
    let e = g.R.Rig.state c.resize.new.rig in
    let ready = c.requires.serving in
    let k = c.args.handle.tree in
    let within = held-tree trees handles c.args.p.0 c.args.id c.args.handle c.args.file c.requires.held c.requires.has_file (seen V o trees handles ready) in
    let over = ready.serving.1 in
    let refused = at_refused (Unit {0}) V k (resize_refusal c.args.file.0 c.args.size) (resized_store c.args.file.0 c.args.size) (c.resize.new.rig ≡ c.args.rig.now) (Rose o.read_faults e.read_faults) o e trees c.resize.new.self c.in-Err-Refused.field-0 c.in-Err-Refused.ensures.answer c.in-Err-Refused.errno c.in-Err-Refused.field-0-is in
    let kept = refused over.0 over.1 in
    served_refused V K g.R.Rig.state c.args.rig.now c.resize.new.rig (g.met.R.Rig.sound c.args.rig.now) (λ fs. resize_file table fs c.args.p.0 c.args.id c.args.size) (ReadsFailed true o e) trees c.resize.new.self handles ready c.refusal.result kept.1.0 kept.1.1
    (λ stores hold.
    let answer = refused stores hold in
    served-told (c.refusal.ensures ∙ ap refusal c.in-Err-Refused.errno-is)
    (resize-refused table stores handles c.args.p.0 c.args.id c.args.size (of_table_held V o table trees stores handles of ready.stored hold) c.args.handle c.args.file c.in-Err-Refused.errno c.requires.held c.requires.has_file c.requires.writes answer.0))

-- a failed read is told, and the position stays
pub returns-in-Err-ReadFault-clause-served : goal.returns-in-Err-ReadFault-clause-served
returns-in-Err-ReadFault-clause-served g c = λ table of.
    let V = g.R.Rig.tells_view in
    let K = g.R.Rig.keeps_cuts in
    let o = g.R.Rig.state c.args.rig.now in
    let trees = c.args.trees.now in
    let handles = c.args.handles.now in
    let e = g.R.Rig.state c.resize.new.rig in
    let ready = c.requires.serving in
    let k = c.args.handle.tree in
    let within = held-tree trees handles c.args.p.0 c.args.id c.args.handle c.args.file c.requires.held c.requires.has_file (seen V o trees handles ready) in
    let over = ready.serving.1 in
    let answer = at_unread (Unit {0}) V k (resize_refusal c.args.file.0 c.args.size) (resized_store c.args.file.0 c.args.size) (c.resize.new.rig ≡ c.args.rig.now) (Rose o.read_faults e.read_faults) o e trees c.resize.new.self c.in-Err-ReadFault.field-0 c.in-Err-ReadFault.ensures.answer c.in-Err-ReadFault.field-0-is in
    served_unread V K o e (g.met.R.Rig.sound c.args.rig.now) (g.met.R.Rig.sound c.resize.new.rig) (λ fs. resize_file table fs c.args.p.0 c.args.id c.args.size) (ReadsFailed true o e) trees handles ready
    c.resize.new.self (acts_writing V o e trees c.resize.new.self handles ready k within c.resize.ensures.acts) (passes_same V o e (λ fs. resize_file table fs c.args.p.0 c.args.id c.args.size) trees handles k within c.resize.ensures.moments)
    c.refusal-in-Err-ReadFault.result c.refusal-in-Err-ReadFault.ensures (answer over.0 over.1).1 c.in-Err-ReadFault.ensures.stored
    (λ stores hold. (answer stores hold).2)
    (λ fs over. accepting (resize-goes table over.0 handles c.args.p.0 c.args.id c.args.size (of_table_held V o table trees over.0 handles of ready.stored over.1) c.args.handle c.args.file ((resized_store c.args.file.0 c.args.size) (store_at over.0 k)) c.requires.held c.requires.has_file c.requires.writes
    (answer over.0 over.1).0 refl fs over.2))

pub returns-in-Err-Device-clause-served : goal.returns-in-Err-Device-clause-served
returns-in-Err-Device-clause-served g c = λ table of.
    let V = g.R.Rig.tells_view in
    let K = g.R.Rig.keeps_cuts in
    let o = g.R.Rig.state c.args.rig.now in
    let trees = c.args.trees.now in
    let handles = c.args.handles.now in
    let e = g.R.Rig.state c.resize.new.rig in
    let ready = c.requires.serving in
    let k = c.args.handle.tree in
    let within = held-tree trees handles c.args.p.0 c.args.id c.args.handle c.args.file c.requires.held c.requires.has_file (seen V o trees handles ready) in
    let over = ready.serving.1 in
    served_fault V K o e (g.met.R.Rig.sound c.args.rig.now) (g.met.R.Rig.sound c.resize.new.rig) (λ fs. resize_file table fs c.args.p.0 c.args.id c.args.size) (ReadsFailed true o e) trees handles ready
    c.resize.new.self (acts_writing V o e trees c.resize.new.self handles ready k within c.resize.ensures.acts) (passes_same V o e (λ fs. resize_file table fs c.args.p.0 c.args.id c.args.size) trees handles k within c.resize.ensures.moments)
    _ (at_device (Unit {0}) V k (resize_refusal c.args.file.0 c.args.size) (resized_store c.args.file.0 c.args.size) (c.resize.new.rig ≡ c.args.rig.now) (Rose o.read_faults e.read_faults) o e trees c.resize.new.self c.in-Err-Device.field-0 c.in-Err-Device.ensures.answer c.in-Err-Device.field-0-is over.0 over.1).1

-- the store says why it refuses, and that is no failed read
pub returns-in-Err-Refused-clause-unread : goal.returns-in-Err-Refused-clause-unread
returns-in-Err-Refused-clause-unread g c =
    let V = g.R.Rig.tells_view in
    let o = g.R.Rig.state c.args.rig.now in
    let e = g.R.Rig.state c.resize.new.rig in
    let over = c.requires.serving.serving.1 in
    let k = c.args.handle.tree in
    let refused = at_refused (Unit {0}) V k (resize_refusal c.args.file.0 c.args.size) (resized_store c.args.file.0 c.args.size) (c.resize.new.rig ≡ c.args.rig.now) (Rose o.read_faults e.read_faults) o e c.args.trees.now c.resize.new.self c.in-Err-Refused.field-0 c.in-Err-Refused.ensures.answer c.in-Err-Refused.errno c.in-Err-Refused.field-0-is over.0 over.1 in
    changing-unread o e c.refusal.result (store_at over.0 k) c.args.file.0 c.args.size c.in-Err-Refused.errno refused.0 (c.refusal.ensures ∙ ap refusal c.in-Err-Refused.errno-is)

pub returns-in-Err-ReadFault-clause-unread : goal.returns-in-Err-ReadFault-clause-unread
returns-in-Err-ReadFault-clause-unread g c = λ eio.
    let V = g.R.Rig.tells_view in
    let o = g.R.Rig.state c.args.rig.now in
    let e = g.R.Rig.state c.resize.new.rig in
    let over = c.requires.serving.serving.1 in
    (at_unread (Unit {0}) V c.args.handle.tree (resize_refusal c.args.file.0 c.args.size) (resized_store c.args.file.0 c.args.size) (c.resize.new.rig ≡ c.args.rig.now) (Rose o.read_faults e.read_faults) o e c.args.trees.now c.resize.new.self c.in-Err-ReadFault.field-0 c.in-Err-ReadFault.ensures.answer c.in-Err-ReadFault.field-0-is over.0 over.1).1
