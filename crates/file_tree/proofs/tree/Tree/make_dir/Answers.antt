use Rattle.std.proofs.Common.{◌≡◌, ◌+◌, ◌-◌, suc, Some, refl, sym, ap, ◌∙◌, arith}
use Rattle.std.specs.Prelude.{option_map}
use Rattle.apex_model.specs.Handles.{free_from}
use Rattle.file_tree.proofs.Changes.{directories-least, made_directory}
use Rattle.file_tree.specs.Entries.{with_directory, path_in}
use Rattle.file_tree.proofs.Spelled.{names-set}
use Rattle.file_tree.proofs.tree.Tree.make_dir.Goals as goal

pub returns-in_default-clause-full : goal.returns-in_default-clause-full
returns-in_default-clause-full c =
    (refl, directories-least _ _ _ c.self.view_is c.self.invariant.sound ∙ ap (option_map suc) (ap (free_from 0) (sym c.deref.ensures.value) ∙ sym c.in_default.ensures.least), refl)

pub invariant_of-self : goal.invariant_of-self
invariant_of-self c =
    let least : free_from 0 c.self.inside.directories.items ≡ Some c.in-Some.k = ap (free_from 0) (sym c.deref.ensures.value) ∙ sym c.in-Some.ensures.least in
    rw (c.new.ensures.value, c.nothing.ensures) (record {
      sound = (made_directory c.self.inside.files.items c.self.inside.directories.items c.args.self.now c.self.view_is c.self.invariant.sound c.args.parent c.args.name c.requires.in_use c.requires.few c.requires.free c.in-Some.k least).sound;
      file_names = c.self.invariant.file_names;
      directory_names = names-set c.self.inside.directories.items c.in-Some.k _ c.self.invariant.directory_names c.new.ensures.name;
    })

pub returns-clause-made : goal.returns-clause-made
returns-clause-made c =
    let least : free_from 0 c.self.inside.directories.items ≡ Some c.in-Some.k = ap (free_from 0) (sym c.deref.ensures.value) ∙ sym c.in-Some.ensures.least in
    let number : suc c.in-Some.k ≡ c.in-Some.k + 1 = omega arith in
    let place : c.in-Some.k ≡ (c.in-Some.k + 1) - 1 = omega arith in (
      directories-least _ _ _ c.self.view_is c.self.invariant.sound ∙ ap (option_map suc) least ∙ ap Some number,
      rw (c.new.ensures.value, c.nothing.ensures)
          ((made_directory c.self.inside.files.items c.self.inside.directories.items c.args.self.now c.self.view_is c.self.invariant.sound c.args.parent c.args.name c.requires.in_use c.requires.few c.requires.free c.in-Some.k least).is
          ∙ ap (λ d. with_directory c.args.self.now d (path_in c.args.self.now c.args.parent.0 c.args.name)) place),
    )
