use Rattle.std.proofs.Common.{◌≡◌, ◌<◌, true, List, Option, Some, refl, sym, ap, subst, ◌∙◌}
use Rattle.file_tree.specs.declared.entries.Entry.{Entry}
use Rattle.file_tree.specs.Records.{is_unused, takes}
use Rattle.file_tree.proofs.Applied.{directories-unused, no-new_directory, one-new_directory, unused-is, put_directory}
use Rattle.file_tree.proofs.Spelled.{names-set}
use Rattle.file_tree.proofs.tree.Tree.put_directory.Goals as goal

pub returns-then-not-is_unused : goal.returns-then-not-is_unused
returns-then-not-is_unused c = (
  no-new_directory c.args.self.now c.args.index c.args.parent.0 c.args.name.now (directories-unused c.self.inside.files.items c.self.inside.directories.items c.args.self.now c.self.view_is c.self.invariant.sound c.args.index
      ∙ ap (λ (xs : List (Option Entry)). is_unused xs c.args.index) (sym c.deref.ensures.value) ∙ sym c.is_unused.ensures ∙ c.if-not-is_unused.true),
  refl,
)

pub index_mut-requires : goal.index_mut-requires
index_mut-requires c =
    let free : is_unused c.self.inside.directories.items c.args.index ≡ true = ap (λ (xs : List (Option Entry)). is_unused xs c.args.index) (sym c.deref.ensures.value) ∙ sym c.is_unused.ensures ∙ c.if-not-is_unused.false in
    subst (λ n. c.args.index < n) (sym c.self.inside.directories.ok.0) (unused-is c.self.inside.directories.items c.args.index free).0

pub invariant_of-self : goal.invariant_of-self
invariant_of-self c =
    let free : is_unused c.self.inside.directories.items c.args.index ≡ true = ap (λ (xs : List (Option Entry)). is_unused xs c.args.index) (sym c.deref.ensures.value) ∙ sym c.is_unused.ensures ∙ c.if-not-is_unused.false in
    let taken : takes c.args.self.now c.args.parent.0 c.copy.result ≡ true = ap (takes c.args.self.now c.args.parent.0) c.copy.ensures ∙ sym c.takes.ensures ∙ c.if-not-takes.false in
    rw (c.new.ensures.value, c.nothing.ensures) (record {
      sound = (put_directory c.self.inside.files.items c.self.inside.directories.items c.args.self.now c.self.view_is c.self.invariant.sound c.args.parent c.copy.result taken c.args.index free).sound;
      file_names = c.self.invariant.file_names;
      directory_names = names-set c.self.inside.directories.items c.args.index _ c.self.invariant.directory_names c.new.ensures.name;
    })

pub returns : goal.returns
returns c =
    let free : is_unused c.self.inside.directories.items c.args.index ≡ true = ap (λ (xs : List (Option Entry)). is_unused xs c.args.index) (sym c.deref.ensures.value) ∙ sym c.is_unused.ensures ∙ c.if-not-is_unused.false in
    let taken : takes c.args.self.now c.args.parent.0 c.copy.result ≡ true = ap (takes c.args.self.now c.args.parent.0) c.copy.ensures ∙ sym c.takes.ensures ∙ c.if-not-takes.false in
    rw (c.new.ensures.value, c.nothing.ensures)
    (one-new_directory c.args.self.now c.args.index c.args.parent.0 c.args.name.now c.copy.result (c.in-Some.is ∙ ap Some (sym c.copy.ensures))
    (directories-unused c.self.inside.files.items c.self.inside.directories.items c.args.self.now c.self.view_is c.self.invariant.sound c.args.index ∙ free) taken
    ∙ ap Some (sym (put_directory c.self.inside.files.items c.self.inside.directories.items c.args.self.now c.self.view_is c.self.invariant.sound c.args.parent c.copy.result taken c.args.index free).is))
