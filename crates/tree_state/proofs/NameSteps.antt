-- A change of names that was made, said of the durable tree.
use Rattle.std.proofs.Common.{◌≡◌, ℕ, sym, subst, ◌∙◌, Option, Some}
use Rattle.std.specs.Prelude.{Result, Ok, Err, OnOk}
use Rattle.apex_types.specs.declared.rows.TreeRow.{TreeRow}
use Rattle.apex_model.specs.Durable.{StoredFile}
use Rattle.apex_model.specs.Trees.{Tree}
use Rattle.file_tree.specs.Entries.{TreeValue}
use Rattle.rig_core.specs.Outside.{Outside}
use Rattle.tree_region.specs.InStep.{data_at}
use Rattle.tree_region.specs.Region.{tree_over}
use Rattle.tree_state.specs.Stored.{durable_tree}
use Rattle.tree_state.specs.declared.state.TreeState.{TreeState}
use Rattle.tree_state.specs.Entries.{KeepsEntries}
use Rattle.tree_state.specs.Names.{ChangesTree}

-- what comes to both
pub some-same : {A : Type 0} (o : Option A) (x y : A) → o ≡ Some x → o ≡ Some y → x ≡ y
some-same o x y first second = let both : Some x ≡ Some y = sym first ∙ second in cc

-- what holds of the names that a change comes to
pub keeps-applied : (v w : TreeValue) (o : Option TreeValue) → o ≡ Some w → KeepsEntries v w → (after : TreeValue) → o ≡ Some after → KeepsEntries v after
keeps-applied v w o is keeps after same = subst (KeepsEntries v) (some-same o w after is same) keeps

module _ (V : Type 0) (row : TreeRow) (at : ℕ) (o e : Outside) (s new : TreeState) (outcome : Option TreeValue) (w : TreeValue) (applies : outcome ≡ Some w) (tree : Tree StoredFile)
    (is : tree_over (data_at row at o.view) w s.kept.table.files.items ≡ tree) where
  pub step-to : ((after : TreeValue) → outcome ≡ Some after → ChangesTree V row at (durable_tree row at o.view s) (tree_over (data_at row at o.view) after s.kept.table.files.items) o e)
      → ChangesTree V row at (durable_tree row at o.view s) tree o e
  step-to step = subst (λ (t : Tree StoredFile). ChangesTree V row at (durable_tree row at o.view s) t o e) is (step w applies)

  pub names-are : outcome ≡ Some new.kept.tree → new.kept.tree ≡ w
  names-are made = some-same outcome new.kept.tree w made applies

  pub durable-to : data_at row at e.view ≡ data_at row at o.view → new.kept.table ≡ s.kept.table → outcome ≡ Some new.kept.tree → durable_tree row at e.view new ≡ tree
  durable-to blocks table made =
      let names = names-are made in
      (λ i. tree_over (blocks i) (names i) (table i).files.items) ∙ is

-- what holds where a call answers `Ok`
pub on-ok-to : {T E : Type 0} (r : Result T E) (P Q : Type 0) → (P → Q) → OnOk r P → OnOk r Q
on-ok-to (Ok value) P Q to there = to there
on-ok-to (Err fault) P Q to there = there
