use Rattle.std.proofs.Common.{List, Option, refl, sym, ap, ◌∙◌}
use Rattle.std.specs.Prelude.{is_some}
use Rattle.file_tree.specs.declared.entries.Entry.{Entry}
use Rattle.file_tree.specs.Entries.{slot}
use Rattle.file_tree.proofs.Applied.{files-used, no-gone_file, one-gone_file}
use Rattle.file_tree.proofs.tree.Tree.drop_file.Goals as goal

pub returns-then-not-is_used : goal.returns-then-not-is_used
returns-then-not-is_used c = (
  no-gone_file c.args.self.now c.args.index (files-used c.self.inside.files.items c.self.inside.directories.items c.args.self.now c.self.view_is c.self.invariant.sound c.args.index
      ∙ ap (λ (xs : List (Option Entry)). is_some (slot xs c.args.index)) (sym c.deref.ensures.value) ∙ sym c.is_used.ensures ∙ c.if-not-is_used.true),
  refl,
)

pub remove_file-requires : goal.remove_file-requires
remove_file-requires c = files-used c.self.inside.files.items c.self.inside.directories.items c.args.self.now c.self.view_is c.self.invariant.sound c.args.index
    ∙ ap (λ (xs : List (Option Entry)). is_some (slot xs c.args.index)) (sym c.deref.ensures.value) ∙ sym c.is_used.ensures ∙ c.if-not-is_used.false

pub returns : goal.returns
returns c = one-gone_file c.args.self.now c.remove_file.new.self c.args.index (files-used c.self.inside.files.items c.self.inside.directories.items c.args.self.now c.self.view_is c.self.invariant.sound c.args.index
    ∙ ap (λ (xs : List (Option Entry)). is_some (slot xs c.args.index)) (sym c.deref.ensures.value) ∙ sym c.is_used.ensures ∙ c.if-not-is_used.false) c.remove_file.ensures
