use Rattle.std.proofs.Common.{◌≤◌, subst, sym, ap, ◌∙◌, List, Option}
use Rattle.std.specs.Prelude.{ℕ}
use Rattle.file_tree.specs.declared.entries.Entry.{Entry}
use Rattle.file_tree.specs.Entries.{slot}
use Rattle.file_tree.specs.Table.{stored_at}
use Rattle.file_tree.proofs.Changes.{stored-seen, stored-none}
use Rattle.file_tree.proofs.tree.Tree.stored.Goals as goal

pub returns-clause-value : goal.returns-clause-value
returns-clause-value c = c.both.ensures.value ∙ c.stored_at.ensures ∙ ap (λ (xs : List (Option Entry)). stored_at (slot xs c.args.file.0)) c.deref.ensures.value ∙ sym (stored-seen _ _ _ c.self.view_is c.args.file.0)

pub returns-clause-fits : goal.returns-clause-fits
returns-clause-fits c = subst (λ (st : ℕ × ℕ). st.0 ≤ 1048576) (c.stored_at.ensures ∙ ap (λ (xs : List (Option Entry)). stored_at (slot xs c.args.file.0)) c.deref.ensures.value ∙ sym (stored-seen _ _ _ c.self.view_is c.args.file.0)) c.both.ensures.fits

pub returns-clause-unused : goal.returns-clause-unused
returns-clause-unused c = λ none. stored-none _ _ _ c.self.view_is c.self.invariant.sound c.args.file.0 none
