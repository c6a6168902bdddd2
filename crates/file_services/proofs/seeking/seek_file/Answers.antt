use Rattle.std.proofs.Common.{sym, ◌∙◌, ap, refl, ℕ, w64}
use Rattle.std.specs.Prelude.{ℤ, pos, ◌+ℤ◌}
use Rattle.std.proofs.lemmas.Int.{to_z-of_z}
use Rattle.apex_model.specs.FileStep.{within_size}
use Rattle.service_parts.proofs.Held.{size_of}
use Rattle.service_parts.proofs.Served.{served-told, served-new}
use Rattle.file_services.proofs.Held.{held-tree, moved-handles}
use Rattle.file_services.proofs.SeekingLaws.{seek-bad_id, seek-stale, seek-outside, seek-done}
use Rattle.file_services.proofs.seeking.seek_file.Goals as goal

pub returns-in_default : goal.returns-in_default
returns-in_default c = λ stores all.
    served-told c.refusal.ensures (seek-bad_id stores c.args.handles.now c.args.p.0 c.args.id c.args.offset c.args.whence (sym c.in_default.ensures))

pub returns-in_default-file : goal.returns-in_default-file
returns-in_default-file c = λ stores all.
    served-told c.refusal-in_default-file.ensures (seek-stale stores c.args.handles.now c.args.p.0 c.args.id c.args.offset c.args.whence c.in-Some.handle (sym c.in-Some.ensures) c.in_default-file.is)

pub size-size-requires : goal.size-size-requires
size-size-requires c = held-tree c.args.trees.now c.args.handles.now c.args.p.0 c.args.id c.in-Some.handle c.in-Some-file.file (sym c.in-Some.ensures) c.in-Some-file.is c.requires.seen

pub returns-in_default-target_of : goal.returns-in_default-target_of
returns-in_default-target_of c = λ stores all.
    let within = held-tree c.args.trees.now c.args.handles.now c.args.p.0 c.args.id c.in-Some.handle c.in-Some-file.file (sym c.in-Some.ensures) c.in-Some-file.is c.requires.seen in
    served-told c.refusal-in_default-target_of.ensures
    (seek-outside stores c.args.handles.now c.args.p.0 c.args.id c.args.offset c.args.whence c.in-Some.handle c.in-Some-file.file c.size-size.result (sym c.in-Some.ensures) c.in-Some-file.is
    (size_of c.args.trees.now stores all c.in-Some.handle.tree within c.in-Some-file.file.0 c.size-size.result c.size-size.ensures)
    (ap (λ (b : ℕ). within_size c.size-size.result (c.args.offset +ℤ pos b)) (sym c.base_of.ensures)
    ∙ ap (λ (z : ℤ). within_size c.size-size.result (z +ℤ pos c.base_of.result)) (sym (to_z-of_z w64 c.args.offset c.ranges.offset)) ∙ sym c.in_default-target_of.ensures))

pub returns : goal.returns
returns c = λ stores all.
    let within = held-tree c.args.trees.now c.args.handles.now c.args.p.0 c.args.id c.in-Some.handle c.in-Some-file.file (sym c.in-Some.ensures) c.in-Some-file.is c.requires.seen in
    served-new refl (moved-handles c.args.handles.now c.set_position.new.self c.args.p.0 c.args.id c.in-Some-target_of.target c.in-Some.handle c.set_position.ensures (sym c.in-Some.ensures)) c.success.ensures
    (seek-done stores c.args.handles.now c.args.p.0 c.args.id c.args.offset c.args.whence c.in-Some.handle c.in-Some-file.file c.size-size.result c.in-Some-target_of.target (sym c.in-Some.ensures) c.in-Some-file.is
    (size_of c.args.trees.now stores all c.in-Some.handle.tree within c.in-Some-file.file.0 c.size-size.result c.size-size.ensures)
    (ap (λ (b : ℕ). within_size c.size-size.result (c.args.offset +ℤ pos b)) (sym c.base_of.ensures)
    ∙ ap (λ (z : ℤ). within_size c.size-size.result (z +ℤ pos c.base_of.result)) (sym (to_z-of_z w64 c.args.offset c.ranges.offset)) ∙ sym c.in-Some-target_of.ensures))
