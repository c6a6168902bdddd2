use Rattle.std.proofs.Common.{◌≡◌, ◌∙◌, length, sym, subst}
use Rattle.std.proofs.lemmas.List.{length-map}
use Rattle.file_tree.specs.Entries.{TreeValue, IsConsistent, AreSpelled}
use Rattle.file_tree.specs.Table.{value_of}
use Rattle.file_tree.proofs.Children.{consistent}
use Rattle.file_tree.proofs.Spelled.{spelled}
use Rattle.file_tree.proofs.tree.Tree.stand.Goals as goal

pub returns-clause-consistent : goal.returns-clause-consistent
returns-clause-consistent c = subst (λ (v : TreeValue). IsConsistent v) c.self.view_is (consistent c.self.inside.files.items c.self.inside.directories.items c.self.invariant.sound)

pub returns-clause-spelled : goal.returns-clause-spelled
returns-clause-spelled c = subst (λ (v : TreeValue). AreSpelled v) c.self.view_is
    (spelled c.self.inside.files.items c.self.inside.directories.items c.self.invariant.file_names c.self.invariant.directory_names)

pub returns-clause-stored : goal.returns-clause-stored
unfolding value_of
returns-clause-stored c = subst (λ (v : TreeValue). length v.stored ≡ length v.files) c.self.view_is (length-map _ _ ∙ sym (length-map _ _))
