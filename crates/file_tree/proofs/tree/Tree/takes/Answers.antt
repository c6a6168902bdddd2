use Rattle.std.proofs.Common.{◌≡◌, true, false, List, Option, sym, ap, ◌∙◌}
use Rattle.std.specs.Prelude.{is_some}
use Rattle.file_tree.specs.declared.entries.Entry.{Entry}
use Rattle.file_tree.specs.Table.{way}
use Rattle.file_tree.proofs.Applied.{no-way, way-room, takes-free}
use Rattle.file_tree.proofs.tree.Tree.takes.Goals as goal

pub returns-then-not-has_way : goal.returns-then-not-has_way
returns-then-not-has_way c =
    let none : is_some (way c.self.inside.directories.items 5 c.args.parent.0) ≡ false
    = ap (λ (xs : List (Option Entry)). is_some (way xs 5 c.args.parent.0)) (sym c.deref.ensures.value) ∙ sym c.has_way.ensures ∙ c.if-not-has_way.true in
    sym (no-way c.self.inside.files.items c.self.inside.directories.items c.args.self.now c.self.view_is c.args.parent.0 c.args.name.now none)

pub child-requires : goal.child-requires
child-requires c =
    let used : is_some (way c.self.inside.directories.items 5 c.args.parent.0) ≡ true
    = ap (λ (xs : List (Option Entry)). is_some (way xs 5 c.args.parent.0)) (sym c.deref.ensures.value) ∙ sym c.has_way.ensures ∙ c.if-not-has_way.false in
    (way-room c.self.inside.files.items c.self.inside.directories.items c.args.self.now c.self.view_is c.args.parent.0 c.args.name.now used).0

pub returns-in-Nothing : goal.returns-in-Nothing
returns-in-Nothing c =
    let used : is_some (way c.self.inside.directories.items 5 c.args.parent.0) ≡ true
    = ap (λ (xs : List (Option Entry)). is_some (way xs 5 c.args.parent.0)) (sym c.deref.ensures.value) ∙ sym c.has_way.ensures ∙ c.if-not-has_way.false in
    sym (takes-free c.self.inside.files.items c.self.inside.directories.items c.args.self.now c.self.view_is c.args.parent.0 c.args.name.now used c.in-Nothing.ensures)
