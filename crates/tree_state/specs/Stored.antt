-- The trees that a region stands for while its files are written, synchronised and removed.
use Rattle.std.specs.Prelude.{◌≡◌, ℕ, List, Some}
use Rattle.apex_types.specs.declared.numbers.FileNode.{FileNode}
use Rattle.apex_types.specs.declared.rows.TreeRow.{TreeRow}
use Rattle.apex_model.specs.Durable.{StoredFile}
use Rattle.apex_model.specs.Image.{tree_of_region}
use Rattle.apex_model.specs.Trees.{Name, Tree, file, with_node}
use Rattle.present_files.specs.Present.{content_of, changes_of}
use Rattle.tree_region.specs.InStep.{data_at}
use Rattle.tree_region.specs.Region.{region_at, tree_over}
use Rattle.tree_state.specs.declared.state.TreeState.{TreeState}

-- the durable tree, over the bytes that reads give: the names with the synchronised contents
abbrev pub durable_tree : TreeRow → ℕ → List ℕ → TreeState → Tree StoredFile
durable_tree row at view s = tree_over (data_at row at view) s.kept.tree s.kept.table.files.items

-- the present content of a file with its change count, over the bytes that reads give
abbrev pub present_file : TreeRow → ℕ → List ℕ → TreeState → FileNode → StoredFile
present_file row at view s f = record { content = content_of (data_at row at view) s.present f; changes = changes_of s.present f }

-- the durable tree once the file of an entry, which has this path, is synchronised
abbrev pub synchronised_tree : TreeRow → ℕ → List ℕ → TreeState → FileNode → List Name → Tree StoredFile
synchronised_tree row at view s f path = with_node (durable_tree row at view s) path (file (present_file row at view s f))

-- the region of an image stands for this tree
abbrev pub IsTreeOf : TreeRow → ℕ → Tree StoredFile → List ℕ → Type 0
IsTreeOf row at tree image = tree_of_region row (region_at row at image) ≡ Some tree

-- all present contents are as before, over the bytes that reads give then and now
abbrev pub SameContents : TreeRow → ℕ → List ℕ → List ℕ → TreeState → TreeState → Type 0
SameContents row at old_view new_view old new = (f : FileNode) → content_of (data_at row at new_view) new.present f ≡ content_of (data_at row at old_view) old.present f

-- Of all that doesn't depend on bytes nothing changed but where the bytes stand: names and durable sizes, present sizes and change counts, and charges.
pub record KeepsFiles (old new : TreeState) : Type 0 where
  pub tree : new.kept.tree ≡ old.kept.tree
  pub sizes : new.present.sizes ≡ old.present.sizes
  pub charges : new.charges ≡ old.charges
