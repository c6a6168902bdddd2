-- What regions of trees stand for in the middle of a call: each, by itself, as before or as after.
use Rattle.std.specs.Prelude.{◌≡◌, ◌⊎◌, ℕ, ◌*◌, List, Some, slice_get}
use Rattle.apex_types.specs.declared.rows.TreeRow.{TreeRow}
use Rattle.apex_model.specs.Durable.{StoredFile}
use Rattle.apex_model.specs.Files.{File}
use Rattle.apex_model.specs.Firsts.{first_tree}
use Rattle.apex_model.specs.Image.{tree_of_region}
use Rattle.apex_model.specs.Layout.{tree_blocks}
use Rattle.apex_model.specs.Trees.{Tree}
use Rattle.rig_core.specs.Bytes.{part}

-- a row of the table with the first byte of its tree's region
abbrev pub TreeSite : Type 0
TreeSite = TreeRow × ℕ

-- how many bytes the region has
abbrev pub tree_long : TreeSite → ℕ
tree_long site = 512 * tree_blocks site.0

-- the region of an image stands for this tree
abbrev pub IsTreeAt : TreeSite → Tree StoredFile → List ℕ → Type 0
IsTreeAt site tree image = tree_of_region site.0 (part site.1 (tree_long site) image) ≡ Some tree

-- of each tree the synchronised contents, with the names before or with those after
abbrev pub AreTreesBetween : List TreeSite → List (Tree File) → List (Tree File) → List ℕ → Type 0
AreTreesBetween sites before after image =
    (k : ℕ) (site : TreeSite) (b a : Tree File)
    → slice_get sites k ≡ Some site → slice_get before k ≡ Some b → slice_get after k ≡ Some a
    → IsTreeAt site (first_tree b) image ⊎ IsTreeAt site (first_tree a) image
