-- The durable tree once its names changed, said of the tree itself.
use Rattle.std.proofs.Common.{◌≡◌, ◌≢◌, ℕ, T, List, [], ◌∷◌, map, take, refl, sym, ap, subst, ◌∙◌, Some, arith}
use Rattle.std.specs.Prelude.{flat_map, option_map, slice_index_or}
use Rattle.std.specs.FinMap.Entries.{find, is_sorted}
use Rattle.apex_model.specs.Durable.{StoredFile}
use Rattle.apex_model.specs.Image.{data_block, joined}
use Rattle.apex_model.specs.Trees.{Name, Node, directory, file, Tree, path_cmp, standing_at, with_node, without_node}
use Rattle.file_tree.specs.Entries.{TreeValue, slot, stored_of, Place, in_file, in_directory, path_at, node_at, with_file, with_directory, without_directory, with_file_at, IsConsistent}
use Rattle.file_tree.proofs.Paths.{sorted_nodes, found_stands, at_found}
use Rattle.tree_region.specs.Region.{stored_file, stored_node, tree_over}
use Rattle.tree_state.specs.Entries.{KeepsEntries, empty_file}
use Rattle.tree_state.proofs.Mapped.{find-over, over, over-put, over-without, over-lost}

none-taken : (xs : List ℕ) → take 0 xs ≡ []
none-taken xs = refl

module _ (blocks : List ℕ) (numbers : List (List ℕ)) (v : TreeValue) where
  abbrev node : Node ℕ → Node StoredFile
  node = stored_node blocks v numbers

  abbrev was : Tree StoredFile
  was = tree_over blocks v numbers

  module _ (w : TreeValue) (keeps : KeepsEntries v w) where
    node-kept : (n : Node ℕ) → stored_node blocks w numbers n ≡ node n
    node-kept directory = refl
    node-kept (file f) = ap (λ (s : ℕ × ℕ). let n : Node StoredFile = file (record { content = joined blocks (slice_index_or numbers f []) s.0; changes = s.1 }) in n) (keeps.stored f)

    over-kept : tree_over blocks w numbers ≡ over node w.nodes
    over-kept = λ i. map (λ (p : List Name × Node ℕ). let q : List Name × Node StoredFile = (p.0, node-kept p.1 i) in q) w.nodes

  -- a new file is an empty one
  pub file-made : (f : ℕ) (path : List Name) → stored_of v f ≡ (0, 0) → KeepsEntries v (with_file v f path) → tree_over blocks (with_file v f path) numbers ≡ with_node was path (file empty_file)
  file-made f path nothing keeps =
      over-kept (with_file v f path) keeps
      ∙ over-put node path (file f) v.nodes
      ∙ ap (λ (s : ℕ × ℕ). with_node was path (let n : Node StoredFile = file (record { content = joined blocks (slice_index_or numbers f []) s.0; changes = s.1 }) in n)) nothing
      ∙ ap (λ (bytes : List ℕ). with_node was path (let n : Node StoredFile = file (record { content = bytes; changes = 0 }) in n)) (none-taken (flat_map (data_block blocks) (slice_index_or numbers f [])))

  pub directory-made : (d : ℕ) (path : List Name) → KeepsEntries v (with_directory v d path) → tree_over blocks (with_directory v d path) numbers ≡ with_node was path directory
  directory-made d path keeps = over-kept (with_directory v d path) keeps ∙ over-put node path directory v.nodes

  pub directory-gone : (d : ℕ) (path : List Name) → KeepsEntries v (without_directory v d path) → tree_over blocks (without_directory v d path) numbers ≡ without_node was path
  directory-gone d path keeps = over-kept (without_directory v d path) keeps ∙ over-without node path v.nodes

  -- a file takes what is stored of it along
  pub file-moved : (f : ℕ) (from to : List Name) → KeepsEntries v (with_file_at v f from to) → tree_over blocks (with_file_at v f from to) numbers ≡ with_node (without_node was from) to (file (stored_file blocks v numbers f))
  file-moved f from to keeps =
      over-kept (with_file_at v f from to) keeps
      ∙ over-put node to (file f) (without_node v.nodes from)
      ∙ ap (λ (tree : Tree StoredFile). with_node tree to (node (file f))) (over-without node from v.nodes)

  -- what isn't of this file stays
  module _ (stands : IsConsistent v) (f : ℕ) (path : List Name) (is : slot v.files f ≡ Some path) where
    number-of : (g : ℕ) (place : Place) → file g ≡ node_at place → in_file g ≡ place
    number-of g (in_file i) e = let same : g ≡ i = cc in ap in_file same
    number-of g (in_directory d) e = absurd cc

    other-file : (q : List Name) (g : ℕ) → q ≢ path → find path_cmp q v.nodes ≡ Some (file g) → g ≢ f
    other-file q g differs there same =
        let s = found_stands v.files v.directories q (file g) (ap (find path_cmp q) (sym stands.nodes_are) ∙ there) in
        let here : slot v.files g ≡ Some q = ap (path_at v.files v.directories) (number-of g s.place s.node_is) ∙ s.is in
        let both : Some q ≡ Some path = sym here ∙ ap (slot v.files) same ∙ is in
        differs (let e : q ≡ path = cc in e)

    pub file-gone : (w : TreeValue) (rows : List (List ℕ)) → w.nodes ≡ without_node v.nodes path
        → ((g : ℕ) → g ≢ f → stored_of w g ≡ stored_of v g) → ((g : ℕ) → g ≢ f → slice_index_or rows g [] ≡ slice_index_or numbers g [])
        → tree_over blocks w rows ≡ without_node was path
    file-gone w rows nodes_are stored same =
        ap (over (stored_node blocks w rows)) nodes_are
        ∙ over-lost node (stored_node blocks w rows) path v.nodes (subst (λ (nodes : Tree ℕ). T (is_sorted path_cmp nodes)) (sym stands.nodes_are) (sorted_nodes v.files v.directories)) agree
      where
        agree : (q : List Name) (n : Node ℕ) → q ≢ path → find path_cmp q v.nodes ≡ Some n → stored_node blocks w rows n ≡ node n
        agree q directory differs there = refl
        agree q (file g) differs there =
            let other = other-file q g differs there in
            (λ i. let n : Node StoredFile = file (record { content = joined blocks (same g other i) (stored g other i).0; changes = (stored g other i).1 }) in n)

-- what stands at the path of a file's entry
pub file-stands : (blocks : List ℕ) (numbers : List (List ℕ)) (v : TreeValue) → IsConsistent v → (f : ℕ) (path : List Name) → slot v.files f ≡ Some path
    → standing_at (tree_over blocks v numbers) path ≡ Some (file (stored_file blocks v numbers f))
file-stands blocks numbers v stands f [] is = absurd (let some = stands.some (in_file f) [] is in omega (arith, some))
file-stands blocks numbers v stands f (name ∷ names) is =
    find-over (stored_node blocks v numbers) (name ∷ names) v.nodes
    ∙ ap (λ (nodes : Tree ℕ). option_map (stored_node blocks v numbers) (find path_cmp (name ∷ names) nodes)) stands.nodes_are
    ∙ ap (option_map (stored_node blocks v numbers)) (at_found v.files v.directories stands.distinct (in_file f) (name ∷ names) is)
