use Rattle.std.proofs.Common.{◌≡◌, true, List, Option, Some, IsSome, refl, sym, ap, ◌∙◌}
use Rattle.std.specs.Prelude.{is_some}
use Rattle.file_tree.specs.declared.entries.Entry.{Entry}
use Rattle.file_tree.specs.Entries.{slot}
use Rattle.file_tree.specs.Records.{takes}
use Rattle.file_tree.proofs.Applied.{files-used, no-moved_file, one-moved_file}
use Rattle.file_tree.proofs.tree.Tree.move_file.Goals as goal

pub returns-then-not-is_used : goal.returns-then-not-is_used
returns-then-not-is_used c = (
  no-moved_file c.args.self.now c.args.index c.args.parent.0 c.args.name.now (files-used c.self.inside.files.items c.self.inside.directories.items c.args.self.now c.self.view_is c.self.invariant.sound c.args.index
      ∙ ap (λ (xs : List (Option Entry)). is_some (slot xs c.args.index)) (sym c.deref.ensures.value) ∙ sym c.is_used.ensures ∙ c.if-not-is_used.true),
  refl,
)

pub rename-requires-clause-file : goal.rename-requires-clause-file
rename-requires-clause-file c = files-used c.self.inside.files.items c.self.inside.directories.items c.args.self.now c.self.view_is c.self.invariant.sound c.args.index
    ∙ ap (λ (xs : List (Option Entry)). is_some (slot xs c.args.index)) (sym c.deref.ensures.value) ∙ sym c.is_used.ensures ∙ c.if-not-is_used.false

pub returns : goal.returns
returns c =
    let used : IsSome (slot c.args.self.now.files c.args.index) = files-used c.self.inside.files.items c.self.inside.directories.items c.args.self.now c.self.view_is c.self.invariant.sound c.args.index
    ∙ ap (λ (xs : List (Option Entry)). is_some (slot xs c.args.index)) (sym c.deref.ensures.value) ∙ sym c.is_used.ensures ∙ c.if-not-is_used.false in
    let taken : takes c.args.self.now c.args.parent.0 c.copy.result ≡ true = ap (takes c.args.self.now c.args.parent.0) c.copy.ensures ∙ sym c.takes.ensures ∙ c.if-not-takes.false in
    one-moved_file c.args.self.now c.rename.new.self c.args.index c.args.parent.0 c.args.name.now c.copy.result (c.in-Some.is ∙ ap Some (sym c.copy.ensures)) used taken c.rename.ensures
