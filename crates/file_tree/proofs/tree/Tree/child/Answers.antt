use Rattle.std.proofs.Common.{◌≡◌, Some, None, sym, ap, ◌∙◌}
use Rattle.std.specs.Prelude.{position}
use Rattle.file_tree.specs.Table.{is_child}
use Rattle.file_tree.proofs.Children.{nothing_there, file_there, directory_there}
use Rattle.file_tree.proofs.tree.Tree.child.Goals as goal

pub returns-in-Some : goal.returns-in-Some
returns-in-Some c =
    let h : position (is_child c.args.parent.0 c.args.name.now) c.self.inside.files.items ≡ Some c.in-Some.k
    = ap (position (is_child c.args.parent.0 c.args.name.now)) (sym c.deref.ensures.value) ∙ sym c.in-Some.ensures.place in
    file_there c.self.inside.files.items c.self.inside.directories.items c.args.self.now c.self.view_is c.self.invariant.sound c.args.parent.0 c.args.name.now c.requires c.in-Some.k h

pub returns-in-Some-child_place : goal.returns-in-Some-child_place
returns-in-Some-child_place c =
    let h : position (is_child c.args.parent.0 c.args.name.now) c.self.inside.directories.items ≡ Some c.in-Some-child_place.k
    = ap (position (is_child c.args.parent.0 c.args.name.now)) (sym c.deref-2.ensures.value) ∙ sym c.in-Some-child_place.ensures.place in
    directory_there c.self.inside.files.items c.self.inside.directories.items c.args.self.now c.self.view_is c.self.invariant.sound c.args.parent.0 c.args.name.now c.requires c.in-Some-child_place.k h

pub returns : goal.returns
returns c =
    let h : position (is_child c.args.parent.0 c.args.name.now) c.self.inside.files.items ≡ None
    = ap (position (is_child c.args.parent.0 c.args.name.now)) (sym c.deref.ensures.value) ∙ sym c.in_default.ensures.place in
    let k : position (is_child c.args.parent.0 c.args.name.now) c.self.inside.directories.items ≡ None
    = ap (position (is_child c.args.parent.0 c.args.name.now)) (sym c.deref-2.ensures.value) ∙ sym c.in_default-child_place.ensures.place in
    nothing_there c.self.inside.files.items c.self.inside.directories.items c.args.self.now c.self.view_is c.self.invariant.sound c.args.parent.0 c.args.name.now c.requires h k
