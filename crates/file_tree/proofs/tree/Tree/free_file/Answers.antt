use Rattle.std.proofs.Common.{sym, ap, ◌∙◌}
use Rattle.apex_model.specs.Handles.{free_from}
use Rattle.file_tree.proofs.Changes.{files-least}
use Rattle.file_tree.proofs.tree.Tree.free_file.Goals as goal

pub returns-in-None-clause-full : goal.returns-in-None-clause-full
returns-in-None-clause-full c = files-least _ _ _ c.self.view_is c.self.invariant.sound ∙ ap (free_from 0) (sym c.deref.ensures.value) ∙ sym c.in-None.ensures.least

pub returns-in-Some-clause-least : goal.returns-in-Some-clause-least
returns-in-Some-clause-least c = files-least _ _ _ c.self.view_is c.self.invariant.sound ∙ ap (free_from 0) (sym c.deref.ensures.value) ∙ sym c.in-Some.ensures.least
