use Rattle.std.proofs.Common.{ap, ◌∙◌, subst}
use Rattle.std.specs.Prelude.{count_by, is_some}
use Rattle.file_tree.specs.Entries.{TreeValue, IsConsistent}
use Rattle.file_tree.proofs.Children.{consistent}
use Rattle.file_tree.proofs.Counts.{count-files}
use Rattle.file_tree.proofs.tree.Tree.files.Goals as goal

pub returns-clause-count : goal.returns-clause-count
returns-clause-count c = c.used_entries.ensures.value ∙ ap (count_by is_some) c.deref.ensures.value ∙ count-files _ _ _ c.self.view_is c.self.invariant.sound

pub returns-clause-consistent : goal.returns-clause-consistent
returns-clause-consistent c = subst (λ (v : TreeValue). IsConsistent v) c.self.view_is (consistent c.self.inside.files.items c.self.inside.directories.items c.self.invariant.sound)
