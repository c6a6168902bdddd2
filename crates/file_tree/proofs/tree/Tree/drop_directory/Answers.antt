use Rattle.std.proofs.Common.{◌≡◌, ◌+◌, suc, List, Option, refl, sym, ap, ◌∙◌, arith}
use Rattle.std.specs.Prelude.{is_some}
use Rattle.file_tree.specs.declared.entries.Entry.{Entry}
use Rattle.file_tree.specs.Entries.{slot, way_of}
use Rattle.file_tree.proofs.Applied.{directories-used, no-gone_directory, one-gone_directory, full-gone_directory}
use Rattle.file_tree.proofs.tree.Tree.drop_directory.Goals as goal

pub returns-then-not-is_used : goal.returns-then-not-is_used
returns-then-not-is_used c = (
  no-gone_directory c.args.self.now c.args.index (directories-used c.self.inside.files.items c.self.inside.directories.items c.args.self.now c.self.view_is c.self.invariant.sound c.args.index
      ∙ ap (λ (xs : List (Option Entry)). is_some (slot xs c.args.index)) (sym c.deref.ensures.value) ∙ sym c.is_used.ensures ∙ c.if-not-is_used.true),
  refl,
)

pub remove_dir-requires-clause-in_use : goal.remove_dir-requires-clause-in_use
remove_dir-requires-clause-in_use c =
    let number : c.args.index + 1 ≡ suc c.args.index = omega arith in
    ap (λ n. is_some (way_of c.args.self.now n)) number
    ∙ directories-used c.self.inside.files.items c.self.inside.directories.items c.args.self.now c.self.view_is c.self.invariant.sound c.args.index
    ∙ ap (λ (xs : List (Option Entry)). is_some (slot xs c.args.index)) (sym c.deref.ensures.value) ∙ sym c.is_used.ensures ∙ c.if-not-is_used.false

pub returns-in-Ok : goal.returns-in-Ok
returns-in-Ok c =
    let number : c.args.index + 1 ≡ suc c.args.index = omega arith in
    one-gone_directory c.args.self.now c.remove_dir.new.self c.args.index (c.args.index + 1) number
    (directories-used c.self.inside.files.items c.self.inside.directories.items c.args.self.now c.self.view_is c.self.invariant.sound c.args.index
    ∙ ap (λ (xs : List (Option Entry)). is_some (slot xs c.args.index)) (sym c.deref.ensures.value) ∙ sym c.is_used.ensures ∙ c.if-not-is_used.false)
    c.in-Ok.ensures.removed.0 c.in-Ok.ensures.removed.1

pub returns-in-Err : goal.returns-in-Err
returns-in-Err c =
    let number : c.args.index + 1 ≡ suc c.args.index = omega arith in
    (full-gone_directory c.args.self.now c.args.index (c.args.index + 1) number c.in-Err.ensures.not_empty.1, c.in-Err.ensures.not_empty.2)
