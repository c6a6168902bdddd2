use Rattle.std.proofs.Common.{◌≡◌, Some, refl, sym, ap, ◌∙◌}
use Rattle.apex_model.specs.Handles.{free_from}
use Rattle.file_tree.proofs.Changes.{files-least, made_file}
use Rattle.file_tree.proofs.Spelled.{names-set}
use Rattle.file_tree.proofs.tree.Tree.make_file.Goals as goal

pub returns-in_default-clause-full : goal.returns-in_default-clause-full
returns-in_default-clause-full c = (refl, files-least _ _ _ c.self.view_is c.self.invariant.sound ∙ ap (free_from 0) (sym c.deref.ensures.value) ∙ sym c.in_default.ensures.least, refl)

pub invariant_of-self : goal.invariant_of-self
invariant_of-self c =
    let least : free_from 0 c.self.inside.files.items ≡ Some c.in-Some.k = ap (free_from 0) (sym c.deref.ensures.value) ∙ sym c.in-Some.ensures.least in
    rw (c.new.ensures.value, c.nothing.ensures) (record {
      sound = (made_file c.self.inside.files.items c.self.inside.directories.items c.args.self.now c.self.view_is c.self.invariant.sound c.args.parent c.args.name c.requires.in_use c.requires.few c.requires.free c.in-Some.k least).sound;
      file_names = names-set c.self.inside.files.items c.in-Some.k _ c.self.invariant.file_names c.new.ensures.name;
      directory_names = c.self.invariant.directory_names;
    })

pub returns-clause-made : goal.returns-clause-made
returns-clause-made c =
    let least : free_from 0 c.self.inside.files.items ≡ Some c.in-Some.k = ap (free_from 0) (sym c.deref.ensures.value) ∙ sym c.in-Some.ensures.least in (
      files-least _ _ _ c.self.view_is c.self.invariant.sound ∙ least,
      rw (c.new.ensures.value, c.nothing.ensures) (made_file c.self.inside.files.items c.self.inside.directories.items c.args.self.now c.self.view_is c.self.invariant.sound c.args.parent c.args.name c.requires.in_use c.requires.few c.requires.free c.in-Some.k least).is,
    )
