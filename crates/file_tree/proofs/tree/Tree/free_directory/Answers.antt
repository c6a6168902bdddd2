use Rattle.std.proofs.Common.{◌≡◌, ◌+◌, suc, Some, sym, ap, ◌∙◌, arith}
use Rattle.std.specs.Prelude.{option_map}
use Rattle.apex_model.specs.Handles.{free_from}
use Rattle.file_tree.proofs.Changes.{directories-least}
use Rattle.file_tree.proofs.tree.Tree.free_directory.Goals as goal

pub returns-in-None-clause-full : goal.returns-in-None-clause-full
returns-in-None-clause-full c =
    directories-least _ _ _ c.self.view_is c.self.invariant.sound ∙ ap (option_map suc) (ap (free_from 0) (sym c.deref.ensures.value) ∙ sym c.in-None.ensures.least)

pub returns-in-Some-clause-least : goal.returns-in-Some-clause-least
returns-in-Some-clause-least c =
    let least : free_from 0 c.self.inside.directories.items ≡ Some c.in-Some.k = ap (free_from 0) (sym c.deref.ensures.value) ∙ sym c.in-Some.ensures.least in
    let number : suc c.in-Some.k ≡ c.in-Some.k + 1 = omega arith in
    directories-least _ _ _ c.self.view_is c.self.invariant.sound ∙ ap (option_map suc) least ∙ ap Some number
