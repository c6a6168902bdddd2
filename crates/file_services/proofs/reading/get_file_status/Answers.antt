use Rattle.std.proofs.Common.{sym}
use Rattle.service_parts.proofs.Held.{changes_of, size_of}
use Rattle.service_parts.proofs.Served.{served-told}
use Rattle.file_services.proofs.Held.{held-tree}
use Rattle.file_services.proofs.ReadingLaws.{status-bad_id, status-stale, status-done}
use Rattle.file_services.proofs.reading.get_file_status.Goals as goal

pub returns-in_default : goal.returns-in_default
returns-in_default c = λ stores all.
    served-told c.refusal.ensures (status-bad_id stores c.args.handles.now c.args.p.0 c.args.id (sym c.in_default.ensures))

pub returns-in_default-file : goal.returns-in_default-file
returns-in_default-file c = λ stores all.
    served-told c.refusal-in_default-file.ensures (status-stale stores c.args.handles.now c.args.p.0 c.args.id c.in-Some.handle (sym c.in-Some.ensures) c.in_default-file.is)

pub size-size-requires : goal.size-size-requires
size-size-requires c = held-tree c.args.trees.now c.args.handles.now c.args.p.0 c.args.id c.in-Some.handle c.in-Some-file.file (sym c.in-Some.ensures) c.in-Some-file.is c.requires.seen

pub changes-changes-requires : goal.changes-changes-requires
changes-changes-requires c = held-tree c.args.trees.now c.args.handles.now c.args.p.0 c.args.id c.in-Some.handle c.in-Some-file.file (sym c.in-Some.ensures) c.in-Some-file.is c.requires.seen

pub returns : goal.returns
returns c = λ stores all.
    let within = held-tree c.args.trees.now c.args.handles.now c.args.p.0 c.args.id c.in-Some.handle c.in-Some-file.file (sym c.in-Some.ensures) c.in-Some-file.is c.requires.seen in
    served-told c.success.ensures (status-done stores c.args.handles.now c.args.p.0 c.args.id c.in-Some.handle c.in-Some-file.file c.size-size.result c.changes-changes.result (sym c.in-Some.ensures) c.in-Some-file.is
    (size_of c.args.trees.now stores all c.in-Some.handle.tree within c.in-Some-file.file.0 c.size-size.result c.size-size.ensures)
    (changes_of c.args.trees.now stores all c.in-Some.handle.tree within c.in-Some-file.file.0 c.changes-changes.result c.changes-changes.ensures))
