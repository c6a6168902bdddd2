-- The durable tree once a file's present numbers became its durable ones: the tree before with the file's present content at its path.
use Rattle.std.proofs.Common.{◌≡◌, ◌≢◌, ◌⊎◌, inl, inr, ⊎_elim, ℕ, ◌<◌, Bool, true, false, cond, T, ◌&&◌, List, [], ◌∷◌, length, map, refl, sym, ap, subst, ◌∙◌, Option, Some, None, unwrap_or, true≢false, get_or-set_same, get_or-set_other}
use Rattle.std.proofs.lemmas.Bool.{false≢true}
use Rattle.std.specs.Prelude.{IsSome, option_map, slice_index_or, slice_set}
use Rattle.std.specs.Ordering.{is_lt, eq_by_cmp}
use Rattle.std.specs.FinMap.Entries.{find, below_all, is_sorted, find-put, is_sorted-put, same_entries}
use Rattle.apex_types.specs.declared.numbers.FileNode.{FileNode}
use Rattle.apex_types.specs.declared.rows.TreeRow.{TreeRow}
use Rattle.apex_model.specs.Durable.{StoredFile}
use Rattle.apex_model.specs.Image.{joined}
use Rattle.apex_model.specs.Trees.{Name, Node, directory, file, Tree, path_cmp, with_node}
use Rattle.apex_model.proofs.Trees.{path_cmp_total, path_cmp-IsAntisymmetric, same_path}
use Rattle.block_pool.specs.Buffers.{node_of}
use Rattle.file_tree.specs.Entries.{TreeValue, slot, stored_of, with_stored, Place, in_file, in_directory, node_at, path_at, IsConsistent}
use Rattle.file_tree.proofs.Changes.{is_some, slot-within}
use Rattle.file_tree.proofs.Paths.{same_is, sorted_nodes, found_stands, at_found}
use Rattle.present_files.specs.Present.{size_of, changes_of}
use Rattle.present_files.proofs.Rooms.{content-stored}
use Rattle.rig_core.specs.Bytes.{SameElsewhere}
use Rattle.tree_region.proofs.ChangePlaces.{data-same}
use Rattle.tree_region.specs.InStep.{IsTree, data_at, slots_long}
use Rattle.tree_region.specs.Region.{stored_node, tree_over}
use Rattle.tree_state.specs.Stored.{IsTreeOf, durable_tree, synchronised_tree}
use Rattle.tree_state.specs.declared.state.TreeState.{TreeState}

-- ---- a map of nodes

module _ (g : Node ℕ → Node StoredFile) where
  abbrev mapped-tree : Tree ℕ → Tree StoredFile
  mapped-tree tree = map (λ (p : List Name × Node ℕ). let q : List Name × Node StoredFile = (p.0, g p.1) in q) tree

  found-mapped : (b : Bool) (n : Node ℕ) (o : Option (Node StoredFile)) (p : Option (Node ℕ)) → o ≡ option_map g p → cond b (Some (g n)) o ≡ option_map g (cond b (Some n) p)
  found-mapped true n o p e = refl
  found-mapped false n o p e = e

  find-mapped : (path : List Name) (tree : Tree ℕ) → find path_cmp path (mapped-tree tree) ≡ option_map g (find path_cmp path tree)
  find-mapped path [] = refl
  find-mapped path (x ∷ tree) = found-mapped (eq_by_cmp path_cmp path x.0) x.1 (find path_cmp path (mapped-tree tree)) (find path_cmp path tree) (find-mapped path tree)

  below-mapped : (path : List Name) (tree : Tree ℕ) → below_all path_cmp path (mapped-tree tree) ≡ below_all path_cmp path tree
  below-mapped path [] = refl
  below-mapped path (x ∷ tree) = ap (λ b. is_lt (path_cmp path x.0) && b) (below-mapped path tree)

  sorted-mapped : (tree : Tree ℕ) → is_sorted path_cmp (mapped-tree tree) ≡ is_sorted path_cmp tree
  sorted-mapped [] = refl
  sorted-mapped (x ∷ tree) = (λ i. below-mapped x.0 tree i && sorted-mapped tree i)

-- two maps that differ in what stands at one path only
module _ (g h : Node ℕ → Node StoredFile) (tree : Tree ℕ) (path : List Name) (n : Node ℕ) (sorted : T (is_sorted path_cmp tree)) (there : find path_cmp path tree ≡ Some n)
    (others : (q : List Name) (m : Node ℕ) → find path_cmp q tree ≡ Some m → q ≢ path → h m ≡ g m) where
  apart : (q : List Name) → eq_by_cmp path_cmp q path ≡ false → q ≢ path
  apart q differs same = true≢false (sym (ap (eq_by_cmp path_cmp q) (sym same) ∙ same_is q) ∙ differs)

  same-elsewhere : (q : List Name) → eq_by_cmp path_cmp q path ≡ false → option_map h (find path_cmp q tree) ≡ option_map g (find path_cmp q tree)
  same-elsewhere q differs =
      (elim (find path_cmp q tree) as (λ o. find path_cmp q tree ≡ o → option_map h o ≡ option_map g o) [
        | None ↦ λ is. refl
        | Some m ↦ λ is. ap Some (others q m is (apart q differs))
      ]) refl

  found-with : (q : List Name) → option_map h (find path_cmp q tree) ≡ cond (eq_by_cmp path_cmp q path) (Some (h n)) (find path_cmp q (mapped-tree g tree))
  found-with q =
      (elim (eq_by_cmp path_cmp q path) as (λ b. eq_by_cmp path_cmp q path ≡ b → option_map h (find path_cmp q tree) ≡ cond b (Some (h n)) (find path_cmp q (mapped-tree g tree))) [
        | true ↦ λ tie. ap (λ (w : List Name). option_map h (find path_cmp w tree)) (same_path q path tie) ∙ ap (option_map h) there
        | false ↦ λ tie. same-elsewhere q tie ∙ sym (find-mapped g q tree)
      ]) refl

  mapped-with : mapped-tree h tree ≡ with_node (mapped-tree g tree) path (h n)
  mapped-with =
      same_entries path_cmp path_cmp_total path_cmp-IsAntisymmetric (mapped-tree h tree) (with_node (mapped-tree g tree) path (h n)) (subst T (sym (sorted-mapped h tree)) sorted)
      (is_sorted-put path_cmp path_cmp_total path (h n) (mapped-tree g tree) (subst T (sym (sorted-mapped g tree)) sorted))
      (λ q. find-mapped h q tree ∙ found-with q ∙ sym (find-put path_cmp path_cmp_total q path (h n) (mapped-tree g tree)))

-- ---- one file's numbers, size and change count

-- a file has a size and a change count
pub entry-stored : (v : TreeValue) → IsConsistent v → (f : ℕ) → IsSome (slot v.files f) → f < length v.stored
entry-stored v is f used =
    slot-within v.stored f
    ((elim (slot v.files f) as (λ o. slot v.files f ≡ o → IsSome o → IsSome (slot v.stored f)) [
      | None ↦ λ none some. absurd (false≢true some)
      | Some path ↦ λ there some. is_some (is.stored f path there)
    ]) refl used)

-- the entry of a file's node
file-place : (a : Place) (f : ℕ) → node_at a ≡ file f → a ≡ in_file f
file-place (in_file g) f is = let same : g ≡ f = cc in ap in_file same
file-place (in_directory d) f is = absurd (let wrong : ◌≡◌ {A = Node ℕ} directory (file f) = is in cc)

module _ (blocks : List ℕ) (v : TreeValue) (numbers : List (List ℕ)) (f0 size changes : ℕ) (row : List ℕ) where
  abbrev stored-tree : TreeValue
  stored-tree = with_stored v f0 size changes

  abbrev stored-numbers : List (List ℕ)
  stored-numbers = slice_set numbers f0 row

  abbrev new-file : StoredFile
  new-file = record { content = joined blocks row size; changes = changes }

  -- what another node stands for stays
  other-node : (m : Node ℕ) → m ≢ file f0 → stored_node blocks stored-tree stored-numbers m ≡ stored_node blocks v numbers m
  other-node directory differs = refl
  other-node (file f) differs =
      let other : f ≢ f0 = λ e. differs (ap file e) in
      let list : slice_index_or stored-numbers f [] ≡ slice_index_or numbers f [] = get_or-set_other numbers f0 f row [] other in
      let stored : stored_of stored-tree f ≡ stored_of v f = ap (λ (o : Option (ℕ × ℕ)). unwrap_or o (0, 0)) (get_or-set_other v.stored f0 f (Some (size, changes)) None other) in
      λ i. file (record { content = joined blocks (list i) (stored i).0; changes = (stored i).1 })

  -- and the file has its new content
  own-node : f0 < length numbers → f0 < length v.stored → stored_node blocks stored-tree stored-numbers (file f0) ≡ file new-file
  own-node numbered entry =
      let list : slice_index_or stored-numbers f0 [] ≡ row = get_or-set_same numbers f0 row [] numbered in
      let stored : stored_of stored-tree f0 ≡ (size, changes) = ap (λ (o : Option (ℕ × ℕ)). unwrap_or o (0, 0)) (get_or-set_same v.stored f0 (Some (size, changes)) None entry) in
      λ i. file (record { content = joined blocks (list i) (stored i).0; changes = (stored i).1 })

  module _ (is : IsConsistent v) (path : List Name) (there : slot v.files f0 ≡ Some path) (numbered : f0 < length numbers) where
    found-file : find path_cmp path v.nodes ≡ Some (file f0)
    found-file = ap (find path_cmp path) is.nodes_are ∙ at_found v.files v.directories is.distinct (in_file f0) path there

    not-file : (q : List Name) (m : Node ℕ) → find path_cmp q v.nodes ≡ Some m → q ≢ path → m ≢ file f0
    not-file q m found differs same =
        let s = found_stands v.files v.directories q m (ap (find path_cmp q) (sym is.nodes_are) ∙ found) in
        let place : s.place ≡ in_file f0 = file-place s.place f0 (sym s.node_is ∙ same) in
        let both : ◌≡◌ {A = Option (List Name)} (Some q) (Some path) = sym s.is ∙ ap (path_at v.files v.directories) place ∙ there in
        let wrong : q ≡ path = cc in
        differs wrong

    -- the tree with the new content at the file's path
    pub tree-stored : tree_over blocks stored-tree stored-numbers ≡ with_node (tree_over blocks v numbers) path (file new-file)
    tree-stored =
        mapped-with (stored_node blocks v numbers) (stored_node blocks stored-tree stored-numbers) v.nodes path (file f0)
        (subst (λ (nodes : Tree ℕ). T (is_sorted path_cmp nodes)) (sym is.nodes_are) (sorted_nodes v.files v.directories)) found-file
        (λ q m found differs. other-node m (not-file q m found differs))
        ∙ ap (λ (n : Node StoredFile). with_node (tree_over blocks v numbers) path n) (own-node numbered (entry-stored v is f0 (is_some there)))

-- ---- a file with no buffers

-- the region stands for the durable tree, or for the one in which a file is synchronised
abbrev pub IsEither : TreeRow → ℕ → List ℕ → TreeState → FileNode → List Name → List ℕ → Type 0
IsEither row at view s f path image = IsTreeOf row at (durable_tree row at view s) image ⊎ IsTreeOf row at (synchronised_tree row at view s f path) image

module _ (row : TreeRow) (at : ℕ) (view : List ℕ) (s : TreeState) (f : FileNode) (size changes : ℕ) (list : List ℕ) (size_is : size ≡ size_of s.present f) (changes_is : changes ≡ changes_of s.present f)
    (list_is : list ≡ slice_index_or s.present.numbers.items f.0 []) (is : IsConsistent s.kept.tree) (numbered : f.0 < length s.kept.table.files.items) (none : (k : ℕ) → node_of s.present.pool f k ≡ None) (path : List Name)
    (there : slot s.kept.tree.files f.0 ≡ Some path) where
  abbrev blocks : List ℕ
  blocks = data_at row at view

  abbrev node-with : List ℕ → Node StoredFile
  node-with bytes = file (record { content = bytes; changes = changes_of s.present f })

  -- the synchronised tree is that of the present numbers, size and change count
  pub synchronised-is : tree_over blocks (with_stored s.kept.tree f.0 size changes) (slice_set s.kept.table.files.items f.0 list) ≡ synchronised_tree row at view s f path
  synchronised-is =
      (λ i. tree_over blocks (with_stored s.kept.tree f.0 (size_is i) (changes_is i)) (slice_set s.kept.table.files.items f.0 (list_is i)))
      ∙ tree-stored blocks s.kept.tree s.kept.table.files.items f.0 (size_of s.present f) (changes_of s.present f) (slice_index_or s.present.numbers.items f.0 []) is path there numbered
      ∙ ap (λ (bytes : List ℕ). with_node (tree_over blocks s.kept.tree s.kept.table.files.items) path (node-with bytes)) (sym (content-stored blocks s.present.numbers.items s.present.pool f (size_of s.present f) none))

  -- so an image stands for one of the two trees, where it stands for that of the durable or of the present numbers
  pub either-stored : (image : List ℕ)
      → IsTree row at blocks s.kept.table.files.items s.kept.tree image ⊎ IsTree row at blocks (slice_set s.kept.table.files.items f.0 list) (with_stored s.kept.tree f.0 size changes) image → IsEither row at view s f path image
  either-stored image = ⊎_elim (λ old. inl old) (λ new. inr (new ∙ ap Some synchronised-is))

  -- the durable tree once they are durable, where the data blocks are the same
  pub durable-now : (after : List ℕ) (v : TreeValue) (numbers : List (List ℕ)) → data_at row at after ≡ blocks → v ≡ with_stored s.kept.tree f.0 size changes → numbers ≡ slice_set s.kept.table.files.items f.0 list
      → tree_over (data_at row at after) v numbers ≡ synchronised_tree row at view s f path
  durable-now after v numbers data_is tree_is numbers_are = (λ i. tree_over (data_is i) (tree_is i) (numbers_are i)) ∙ synchronised-is

-- behind the slots the data blocks are the same
pub same-data : (row : TreeRow) (at : ℕ) (a b : List ℕ) → SameElsewhere at (slots_long row) a b → data_at row at b ≡ data_at row at a
same-data row at a b same = data-same row at a b same.long (λ k far. same.above k far)
