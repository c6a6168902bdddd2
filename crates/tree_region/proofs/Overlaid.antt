-- The tree of an image's entries is that of their names, sizes and change counts over their blocks.
use Rattle.std.proofs.Common.{◌≡◌, ◌≢◌, ℕ, zero, suc, Bool, true, false, cond, T, ◌&&◌, List, [], ◌∷◌, length, map, refl, sym, ap, subst, ◌∙◌, Option, Some, None}
use Rattle.std.specs.Prelude.{option_map, unwrap_or, slice_index_or}
use Rattle.std.specs.Ordering.{is_lt, eq_by_cmp}
use Rattle.std.specs.FinMap.Entries.{find, put, below_all, is_sorted, find-put, is_sorted-put, same_entries}
use Rattle.apex_model.specs.Durable.{StoredFile}
use Rattle.apex_model.specs.Image as image
use Rattle.apex_model.specs.Trees.{Name, Node, directory, file, Tree, path_cmp}
use Rattle.apex_model.proofs.Trees.{path_cmp_total, path_cmp-IsAntisymmetric, same_path}
use Rattle.file_tree.specs.declared.entries.Entry.{Entry}
use Rattle.file_tree.specs.Entries.{TreeValue, slot, stored_of, Place, in_file, in_directory, path_at, node_at, nodes_of}
use Rattle.file_tree.specs.Images.{named, named_entry, names_of}
use Rattle.file_tree.specs.Table.{paths, stored_in, value_of}
use Rattle.file_tree.proofs.ImageEntries.{AreGood, path_if, slot-path, tree-good}
use Rattle.file_tree.proofs.Paths.{same_is, sorted_nodes, found_stands, at_found}
use Rattle.file_tree.proofs.Ways.{not_some}
use Rattle.tree_region.specs.Bodies.{HasContents, HasEntries}
use Rattle.tree_region.specs.Region.{stored_file, stored_node, tree_over}

-- ---- a map of nodes

module _ (g : Node ℕ → Node StoredFile) where
  abbrev mapped-tree : Tree ℕ → Tree StoredFile
  mapped-tree tree = map (λ (p : List Name × Node ℕ). let q : List Name × Node StoredFile = (p.0, g p.1) in q) tree

  found-mapped : (b : Bool) (n : Node ℕ) (o : Option (Node StoredFile)) (p : Option (Node ℕ)) → o ≡ option_map g p → cond b (Some (g n)) o ≡ option_map g (cond b (Some n) p)
  found-mapped true n o p e = refl
  found-mapped false n o p e = e

  find-mapped : (path : List Name) (tree : Tree ℕ) → find path_cmp path (mapped-tree tree) ≡ option_map g (find path_cmp path tree)
  find-mapped path [] = refl
  find-mapped path (x ∷ tree) = found-mapped (eq_by_cmp path_cmp path x.0) x.1 (find path_cmp path (mapped-tree tree)) (find path_cmp path tree) (find-mapped path tree)

  below-mapped : (path : List Name) (tree : Tree ℕ) → below_all path_cmp path (mapped-tree tree) ≡ below_all path_cmp path tree
  below-mapped path [] = refl
  below-mapped path (x ∷ tree) = ap (λ b. is_lt (path_cmp path x.0) && b) (below-mapped path tree)

  sorted-mapped : (tree : Tree ℕ) → is_sorted path_cmp (mapped-tree tree) ≡ is_sorted path_cmp tree
  sorted-mapped [] = refl
  sorted-mapped (x ∷ tree) = (λ i. below-mapped x.0 tree i && sorted-mapped tree i)

-- ---- entries that are placed

module _ (node : image.Entry → Node StoredFile) (directories : List (Option image.Entry)) where
  placed-none : (entries : List (Option image.Entry)) → image.placed node directories entries None ≡ None
  placed-none [] = refl
  placed-none (None ∷ entries) = placed-none entries
  placed-none (Some e ∷ entries) = placed-none entries

  -- an entry that was placed, and the others behind it
  record Step (e : image.Entry) (entries : List (Option image.Entry)) (t after : Tree StoredFile) : Type 0 where
    path : List Name
    is : image.path_of_entry directories e ≡ Some path
    free : find path_cmp path t ≡ None
    rest : image.placed node directories entries (Some (put path_cmp path (node e) t)) ≡ Some after

  step : (e : image.Entry) (entries : List (Option image.Entry)) (t after : Tree StoredFile) → image.placed node directories (Some e ∷ entries) (Some t) ≡ Some after → Step e entries t after
  step e entries t after h =
      (elim (image.path_of_entry directories e) as (λ o. image.path_of_entry directories e ≡ o
      → image.placed node directories entries (elim o [ None ↦ None | Some path ↦ image.put_new path (node e) t ]) ≡ Some after → Step e entries t after) [
        | None ↦ λ is k. absurd (let wrong : ◌≡◌ {A = Option (Tree StoredFile)} None (Some after) = sym (placed-none entries) ∙ k in cc)
        | Some p ↦ λ is k.
            (elim (find path_cmp p t) as (λ o. find path_cmp p t ≡ o
            → image.placed node directories entries (elim o [ Some other ↦ None | None ↦ Some (put path_cmp p (node e) t) ]) ≡ Some after → Step e entries t after) [
              | None ↦ λ free l. record { path = p; is = is; free = free; rest = l }
              | Some other ↦ λ taken l. absurd (let wrong : ◌≡◌ {A = Option (Tree StoredFile)} None (Some after) = sym (placed-none entries) ∙ l in cc)
            ]) refl k
      ]) refl h

  -- what was there stays
  stays : (entries : List (Option image.Entry)) (t after : Tree StoredFile) (q : List Name) (n : Node StoredFile) → find path_cmp q t ≡ Some n → image.placed node directories entries (Some t) ≡ Some after
      → find path_cmp q after ≡ Some n
  stays [] t after q n h is = let same : t ≡ after = cc in ap (find path_cmp q) (sym same) ∙ h
  stays (None ∷ entries) t after q n h is = stays entries t after q n h is
  stays (Some e ∷ entries) t after q n h is =
      let s = step e entries t after is in
      stays entries (put path_cmp s.path (node e) t) after q n
      (find-put path_cmp path_cmp_total q s.path (node e) t
      ∙ (elim (eq_by_cmp path_cmp q s.path) as (λ b. eq_by_cmp path_cmp q s.path ≡ b → cond b (Some (node e)) (find path_cmp q t) ≡ Some n) [
        | true ↦ λ tie. absurd (let wrong : ◌≡◌ {A = Option (Node StoredFile)} None (Some n) = sym s.free ∙ ap (λ (w : List Name). find path_cmp w t) (sym (same_path q s.path tie)) ∙ h in cc)
        | false ↦ λ tie. h
      ]) refl) s.rest

  -- each entry is found at its path
  found : (entries : List (Option image.Entry)) (t after : Tree StoredFile) (i : ℕ) (e : image.Entry) (q : List Name) → slot entries i ≡ Some e → image.path_of_entry directories e ≡ Some q
      → image.placed node directories entries (Some t) ≡ Some after → find path_cmp q after ≡ Some (node e)
  found [] t after i e q h path is = absurd (not_some h)
  found (None ∷ entries) t after zero e q h path is = absurd (not_some h)
  found (None ∷ entries) t after (suc i) e q h path is = found entries t after i e q h path is
  found (Some x ∷ entries) t after zero e q h path is =
      let same : x ≡ e = cc in
      let s = step x entries t after is in
      let both : Some s.path ≡ Some q = sym s.is ∙ ap (image.path_of_entry directories) same ∙ path in
      let at : s.path ≡ q = cc in
      let tie : eq_by_cmp path_cmp q s.path ≡ true = ap (eq_by_cmp path_cmp q) at ∙ same_is q in
      stays entries (put path_cmp s.path (node x) t) after q (node e)
      (find-put path_cmp path_cmp_total q s.path (node x) t ∙ ap (λ b. cond b (Some (node x)) (find path_cmp q t)) tie ∙ ap (λ (y : image.Entry). Some (node y)) same) s.rest
  found (Some x ∷ entries) t after (suc i) e q h path is = let s = step x entries t after is in found entries (put path_cmp s.path (node x) t) after i e q h path s.rest

  -- at other paths nothing changes
  missed : (entries : List (Option image.Entry)) (t after : Tree StoredFile) (q : List Name) → ((i : ℕ) → path_if directories (slot entries i) ≢ Some q) → image.placed node directories entries (Some t) ≡ Some after
      → find path_cmp q after ≡ find path_cmp q t
  missed [] t after q h is = let same : t ≡ after = cc in ap (find path_cmp q) (sym same)
  missed (None ∷ entries) t after q h is = missed entries t after q (λ i. h (suc i)) is
  missed (Some e ∷ entries) t after q h is =
      let s = step e entries t after is in
      missed entries (put path_cmp s.path (node e) t) after q (λ i. h (suc i)) s.rest
      ∙ find-put path_cmp path_cmp_total q s.path (node e) t
      ∙ (elim (eq_by_cmp path_cmp q s.path) as (λ b. eq_by_cmp path_cmp q s.path ≡ b → cond b (Some (node e)) (find path_cmp q t) ≡ find path_cmp q t) [
        | true ↦ λ tie. absurd (h 0 (s.is ∙ ap Some (sym (same_path q s.path tie))))
        | false ↦ λ tie. refl
      ]) refl

  -- the tree stays in order
  sorted : (entries : List (Option image.Entry)) (t after : Tree StoredFile) → T (is_sorted path_cmp t) → image.placed node directories entries (Some t) ≡ Some after → T (is_sorted path_cmp after)
  sorted [] t after h is = let same : t ≡ after = cc in subst (λ (x : Tree StoredFile). T (is_sorted path_cmp x)) same h
  sorted (None ∷ entries) t after h is = sorted entries t after h is
  sorted (Some e ∷ entries) t after h is =
      let s = step e entries t after is in
      sorted entries (put path_cmp s.path (node e) t) after (is_sorted-put path_cmp path_cmp_total s.path (node e) t h) s.rest

-- ---- what is stored

pub stored-slot : (files : List (Option image.Entry)) (i : ℕ) (e : image.Entry) → slot files i ≡ Some e → slot (stored_in (named files)) i ≡ Some (length e.stored.content, e.stored.changes)
stored-slot [] i e h = absurd (not_some h)
stored-slot (x ∷ files) zero e h = ap (λ (o : Option image.Entry). option_map (λ (entry : Entry). entry.stored) (option_map named_entry o)) h
stored-slot (x ∷ files) (suc i) e h = stored-slot files i e h

module _ (blocks : List ℕ) (numbers : List (List ℕ)) (entries : image.Entries) (contents : HasContents blocks numbers entries.files) where
  abbrev v : TreeValue
  v = names_of entries

  abbrev node : Node ℕ → Node StoredFile
  node = stored_node blocks v numbers

  stored-is : (i : ℕ) (e : image.Entry) → slot entries.files i ≡ Some e → stored_file blocks v numbers i ≡ e.stored
  unfolding value_of
  stored-is i e h =
      let size : stored_of v i ≡ (length e.stored.content, e.stored.changes) = ap (λ (o : Option (ℕ × ℕ)). unwrap_or o (0, 0)) (stored-slot entries.files i e h) in
      ap (λ (s : ℕ × ℕ). let f : StoredFile = record { content = image.joined blocks (slice_index_or numbers i []) s.0; changes = s.1 } in f) size
      ∙ ap (λ (c : List ℕ). let f : StoredFile = record { content = c; changes = e.stored.changes } in f) (sym (contents i e h))

  module _ (t below : Tree StoredFile) (good : AreGood entries.files entries.directories)
      (directories-placed : image.placed (λ entry. directory) entries.directories entries.directories (Some []) ≡ Some below)
      (files-placed : image.placed (λ entry. file entry.stored) entries.directories entries.files (Some below) ≡ Some t) where
    abbrev file-paths : List (Option (List Name))
    file-paths = paths (named entries.directories) (named entries.files)

    abbrev directory-paths : List (Option (List Name))
    directory-paths = paths (named entries.directories) (named entries.directories)

    -- an entry that has a path
    at-place : (place : Place) (q : List Name) → path_at file-paths directory-paths place ≡ Some q → find path_cmp q t ≡ Some (node (node_at place))
    at-place (in_file i) q h =
        (elim (slot entries.files i) as (λ o. slot entries.files i ≡ o → path_if entries.directories o ≡ Some q → find path_cmp q t ≡ Some (file (stored_file blocks v numbers i))) [
          | None ↦ λ is k. absurd (not_some k)
          | Some e ↦ λ is k.
              found (λ entry. file entry.stored) entries.directories entries.files below t i e q is k files-placed
              ∙ ap (λ (s : StoredFile). Some (file s)) (sym (stored-is i e is))
        ]) refl (sym (slot-path entries.directories entries.files i) ∙ h)
    at-place (in_directory d) q h =
        (elim (slot entries.directories d) as (λ o. slot entries.directories d ≡ o → path_if entries.directories o ≡ Some q → find path_cmp q t ≡ Some directory) [
          | None ↦ λ is k. absurd (not_some k)
          | Some e ↦ λ is k.
              stays (λ entry. file entry.stored) entries.directories entries.files below t q directory
              (found (λ entry. directory) entries.directories entries.directories [] below d e q is k directories-placed) files-placed
        ]) refl (sym (slot-path entries.directories entries.directories d) ∙ h)

    -- where the names have nothing, nothing is found
    nowhere : (q : List Name) → find path_cmp q (nodes_of file-paths directory-paths) ≡ None → find path_cmp q t ≡ None
    nowhere q h =
        missed (λ entry. file entry.stored) entries.directories entries.files below t q
        (λ i k. not_some (sym h ∙ at_found file-paths directory-paths good.distinct (in_file i) q (slot-path entries.directories entries.files i ∙ k))) files-placed
        ∙ missed (λ entry. directory) entries.directories entries.directories [] below q
        (λ d k. not_some (sym h ∙ at_found file-paths directory-paths good.distinct (in_directory d) q (slot-path entries.directories entries.directories d ∙ k))) directories-placed

    same-found : (q : List Name) → find path_cmp q t ≡ option_map node (find path_cmp q (nodes_of file-paths directory-paths))
    same-found q =
        (elim (find path_cmp q (nodes_of file-paths directory-paths)) as (λ o. find path_cmp q (nodes_of file-paths directory-paths) ≡ o → find path_cmp q t ≡ option_map node o) [
          | None ↦ λ is. nowhere q is
          | Some m ↦ λ is.
              let s = found_stands file-paths directory-paths q m is in
              at-place s.place q s.is ∙ ap (λ (n : Node ℕ). Some (node n)) (sym s.node_is)
        ]) refl

    overlaid : t ≡ tree_over blocks v numbers
    unfolding value_of
    overlaid =
        same_entries path_cmp path_cmp_total path_cmp-IsAntisymmetric t (mapped-tree node (nodes_of file-paths directory-paths))
        (sorted (λ entry. file entry.stored) entries.directories entries.files below t (sorted (λ entry. directory) entries.directories entries.directories [] below tt directories-placed) files-placed)
        (subst T (sym (sorted-mapped node (nodes_of file-paths directory-paths))) (sorted_nodes file-paths directory-paths))
        (λ q. same-found q ∙ sym (find-mapped node q (nodes_of file-paths directory-paths)))

-- the tree of entries
pub tree-is : (blocks : List ℕ) (v : TreeValue) (numbers : List (List ℕ)) (entries : image.Entries) → HasEntries blocks v numbers entries → image.tree_of_entries entries ≡ Some (tree_over blocks v numbers)
tree-is blocks v numbers entries has =
    (elim (image.placed (λ entry. directory) entries.directories entries.directories (Some [])) as
    (λ o. image.placed (λ entry. directory) entries.directories entries.directories (Some []) ≡ o
    → image.placed (λ entry. file entry.stored) entries.directories entries.files o ≡ Some has.tree → image.tree_of_entries entries ≡ Some (tree_over blocks v numbers)) [
      | None ↦ λ is k. absurd (let wrong : ◌≡◌ {A = Option (Tree StoredFile)} None (Some has.tree) = sym (placed-none (λ entry. file entry.stored) entries.directories entries.files) ∙ k in cc)
      | Some below ↦ λ is k.
          has.made ∙ ap Some (overlaid blocks numbers entries has.contents has.tree below (tree-good entries has.tree has.made) is k)
          ∙ ap (λ (w : TreeValue). Some (tree_over blocks w numbers)) has.names
    ]) refl has.made
