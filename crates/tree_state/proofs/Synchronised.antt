-- A file whose buffers are written back before its content is stored: the trees are those of the state at first.
use Rattle.std.proofs.Common.{◌≡◌, inl, inr, ⊎_elim, ℕ, ◌+◌, ◌*◌, List, ap, ◌∙◌, Some, arith}
use Rattle.apex_types.specs.declared.numbers.FileNode.{FileNode}
use Rattle.apex_types.specs.declared.rows.TreeRow.{TreeRow}
use Rattle.apex_model.specs.Layout.{tree_blocks}
use Rattle.apex_model.specs.Trees.{Name, file, with_node}
use Rattle.file_tree.specs.Entries.{TreeValue, slot}
use Rattle.present_files.specs.Present.{changes_in}
use Rattle.rig_core.specs.Bytes.{SameElsewhere}
use Rattle.rig_core.specs.Leaves.{Leaves, LeavesElsewhere}
use Rattle.rig_core.specs.Outside.{Outside, Sound}
use Rattle.rig_core.proofs.Moments.{elsewhere_after, elsewhere_then, elsewhere_wider, leaves_elsewhere_wider, leaves_then, leaves_weaker}
use Rattle.tree_region.specs.InStep.{slots_long}
use Rattle.tree_state.specs.State.{IsState}
use Rattle.tree_state.specs.Stored.{IsTreeOf, KeepsFiles, SameContents, durable_tree, present_file, synchronised_tree}
use Rattle.tree_state.specs.declared.state.TreeState.{TreeState}
use Rattle.tree_state.proofs.StoredTree.{IsEither}
use Rattle.present_files.specs.Durable.{KeepsTree}

-- what reads give stands for the durable tree
pub view-tree : (V : Type 0) (row : TreeRow) (at : ℕ) (o : Outside) (s : TreeState) → IsState V row at o s → V → IsTreeOf row at (durable_tree row at o.view s) o.view
view-tree V row at o s is shown = (is.in_step.stands shown).tree

-- a file has the same path
pub same-path : (s t : TreeState) → KeepsFiles s t → (f : FileNode) (path : List Name) → slot s.kept.tree.files f.0 ≡ Some path → slot t.kept.tree.files f.0 ≡ Some path
same-path s t keeps f path there = ap (λ (v : TreeValue). slot v.files f.0) keeps.tree ∙ there

module _ (row : TreeRow) (at : ℕ) (s t : TreeState) (view mid : List ℕ) (f : FileNode) (keeps : KeepsFiles s t) (durable : durable_tree row at mid t ≡ durable_tree row at view s) (contents : SameContents row at view mid s t) where
  -- the file has the same present content and change count
  same-file : present_file row at mid t f ≡ present_file row at view s f
  same-file = λ i. record { content = contents f i; changes = changes_in (keeps.sizes i).items f.0 }

  -- so the synchronised tree is the same
  pub same-synchronised : (path : List Name) → synchronised_tree row at mid t f path ≡ synchronised_tree row at view s f path
  same-synchronised path = λ i. with_node (durable i) path (file (same-file i))

  -- and so is what an image stands for
  pub same-either : (path : List Name) (image : List ℕ) → IsEither row at mid t f path image → IsEither row at view s f path image
  same-either path image = ⊎_elim (λ is. inl (is ∙ ap Some durable)) (λ is. inr (is ∙ ap Some (same-synchronised path)))

module _ (row : TreeRow) (at : ℕ) (o m : Outside) (s : TreeState) (f : FileNode) (path : List Name) (was : IsTreeOf row at (durable_tree row at o.view s) o.view) (kept : KeepsTree row at o m) where
  -- at every moment while buffers are written back
  pub kept-either : Leaves (IsEither row at o.view s f path) o m
  kept-either = leaves_weaker _ (IsEither row at o.view s f path) o m (λ image is. inl (is ∙ was)) kept

  -- at every moment of both
  pub both-either : (e : Outside) (t : TreeState) → KeepsFiles s t → durable_tree row at m.view t ≡ durable_tree row at o.view s → SameContents row at o.view m.view s t
      → Leaves (IsEither row at m.view t f path) m e → Leaves (IsEither row at o.view s f path) o e
  both-either e t keeps durable contents rest =
      leaves_then (IsEither row at o.view s f path) o m e kept-either
      (leaves_weaker (IsEither row at m.view t f path) (IsEither row at o.view s f path) m e (same-either row at s t o.view m.view f keeps durable contents path) rest)

-- ---- outside of the region

module _ (row : TreeRow) (at : ℕ) where
  -- the data blocks stand in the region
  pub data-outside : (o e : Outside) → LeavesElsewhere (at + slots_long row) (1024 * row.quota) o e → LeavesElsewhere at (512 * tree_blocks row) o e
  data-outside o e = leaves_elsewhere_wider (at + slots_long row) (1024 * row.quota) at (512 * tree_blocks row) o e (omega arith) (omega arith)

  pub both-outside : (V K : Type 0) (o m e : Outside) → Sound V K m → LeavesElsewhere (at + slots_long row) (1024 * row.quota) o m → LeavesElsewhere at (slots_long row) m e → LeavesElsewhere at (512 * tree_blocks row) o e
  both-outside V K o m e sound first last =
      elsewhere_after {V = V} {K = K} at (512 * tree_blocks row) o m e sound (data-outside o m first)
      (leaves_elsewhere_wider at (slots_long row) at (512 * tree_blocks row) m e (omega arith) (omega arith) last)

  pub data-view : (a b : List ℕ) → SameElsewhere (at + slots_long row) (1024 * row.quota) a b → SameElsewhere at (512 * tree_blocks row) a b
  data-view a b = elsewhere_wider (at + slots_long row) (1024 * row.quota) at (512 * tree_blocks row) a b (omega arith) (omega arith)

  pub both-view : (a b c : List ℕ) → SameElsewhere (at + slots_long row) (1024 * row.quota) a b → SameElsewhere at (slots_long row) b c → SameElsewhere at (512 * tree_blocks row) a c
  both-view a b c first last =
      elsewhere_then at (512 * tree_blocks row) a b c (data-view a b first) (elsewhere_wider at (slots_long row) at (512 * tree_blocks row) b c (omega arith) (omega arith) last)
