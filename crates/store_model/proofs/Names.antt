-- What a store's tree says of paths, and the tree of files that it stands for.
use Rattle.std.proofs.Common.{◌≡◌, ℕ, zero, suc, ◌-◌, ◌≤◌, T, List, [], ◌∷◌, length, take, refl, sym, ap, subst, ◌∙◌, Option, Some, None, arith}
use Rattle.std.specs.List.{range_with_len}
use Rattle.std.specs.FinMap.Entries.{find, is_sorted}
use Rattle.apex_model.specs.Files.{File}
use Rattle.apex_model.specs.Trees.{Name, Node, directory, file, Tree, path_cmp, standing_at, obstacle, first_answer, walk, file_count, directory_count}
use Rattle.file_tree.specs.Entries.{TreeValue, slot, way_of, Place, in_file, in_directory, path_at, node_at, IsConsistent}
use Rattle.file_tree.proofs.Paths.{sorted_nodes, found_stands, at_found, file_number, directory_number}
use Rattle.store_model.specs.Stores.{StoreValue, kept_at, charge_at}
use Rattle.store_model.specs.Standing.{IsFile, IsTree}
use Rattle.store_model.proofs.Entries.{IsThere, there-as, zip-find, zip-file_count, zip-directory_count}

-- ---- paths and entries of a store's tree

module _ (w : TreeValue) (c : IsConsistent w) where
  -- the paths are in order
  pub sorted-names : T (is_sorted path_cmp w.nodes)
  sorted-names = subst (λ (tree : Tree ℕ). T (is_sorted path_cmp tree)) (sym c.nodes_are) (sorted_nodes w.files w.directories)

  -- at the path of a file's entry stands its number
  pub file-at : (f : ℕ) (names : List Name) → slot w.files f ≡ Some names → find path_cmp names w.nodes ≡ Some (file f)
  file-at f names h = ap (find path_cmp names) c.nodes_are ∙ at_found w.files w.directories c.distinct (in_file f) names h

  pub directory-at : (d : ℕ) (names : List Name) → slot w.directories d ≡ Some names → find path_cmp names w.nodes ≡ Some directory
  directory-at d names h = ap (find path_cmp names) c.nodes_are ∙ at_found w.files w.directories c.distinct (in_directory d) names h

  place-file : (f : ℕ) (names : List Name) (a : Place) → path_at w.files w.directories a ≡ Some names → file f ≡ node_at a → slot w.files f ≡ Some names
  place-file f names (in_file g) h is = let e : f ≡ g = cc in ap (slot w.files) e ∙ h
  place-file f names (in_directory d) h is = absurd (let e : ◌≡◌ {A = Node ℕ} (file f) directory = is in cc)

  place-directory : (names : List Name) (a : Place) → path_at w.files w.directories a ≡ Some names → directory ≡ node_at a → (d : ℕ) × (slot w.directories d ≡ Some names)
  place-directory names (in_file g) h is = absurd (let e : ◌≡◌ {A = Node ℕ} directory (file g) = is in cc)
  place-directory names (in_directory d) h is = (d, h)

  -- a number stands at the path of its entry
  pub path-of-file : (f : ℕ) (names : List Name) → find path_cmp names w.nodes ≡ Some (file f) → slot w.files f ≡ Some names
  path-of-file f names h =
      let s = found_stands w.files w.directories names (file f) (ap (find path_cmp names) (sym c.nodes_are) ∙ h) in
      place-file f names s.place s.is s.node_is

  pub path-of-directory : (names : List Name) → find path_cmp names w.nodes ≡ Some directory → (d : ℕ) × (slot w.directories d ≡ Some names)
  path-of-directory names h =
      let s = found_stands w.files w.directories names directory (ap (find path_cmp names) (sym c.nodes_are) ∙ h) in
      place-directory names s.place s.is s.node_is

  standing-below : (names : List Name) → 1 ≤ length names → standing_at w.nodes names ≡ find path_cmp names w.nodes
  standing-below [] h = absurd (omega arith)
  standing-below (name ∷ names) h = refl

  found-below : (f : ℕ) (names : List Name) → standing_at w.nodes names ≡ Some (file f) → find path_cmp names w.nodes ≡ Some (file f)
  found-below f [] h = absurd (let e : ◌≡◌ {A = Option (Node ℕ)} (Some directory) (Some (file f)) = h in cc)
  found-below f (name ∷ names) h = h

  pub standing-file : (f : ℕ) (names : List Name) → slot w.files f ≡ Some names → standing_at w.nodes names ≡ Some (file f)
  standing-file f names h = standing-below names (c.some (in_file f) names h) ∙ file-at f names h

  pub path-standing : (f : ℕ) (names : List Name) → standing_at w.nodes names ≡ Some (file f) → slot w.files f ≡ Some names
  path-standing f names h = path-of-file f names (found-below f names h)

  pub standing-directory : (d : ℕ) (names : List Name) → way_of w d ≡ Some names → standing_at w.nodes names ≡ Some directory
  standing-directory zero names h = let e : [] ≡ names = cc in ap (standing_at w.nodes) (sym e)
  standing-directory (suc d) names h = standing-below names (c.some (in_directory d) names h) ∙ directory-at d names h

  pub way-standing : (names : List Name) → standing_at w.nodes names ≡ Some directory → (d : ℕ) × (way_of w d ≡ Some names)
  way-standing [] h = (0, refl)
  way-standing (name ∷ names) h = let p = path-of-directory (name ∷ names) h in (suc p.0, p.1)

  -- entries in use with one path are one
  pub one-file : (f g : ℕ) (names : List Name) → slot w.files f ≡ Some names → slot w.files g ≡ Some names → f ≡ g
  one-file f g names h k = file_number f g (c.distinct (in_file f) (in_file g) names h k)

  not-root : (d : ℕ) (names : List Name) → Some [] ≡ Some names → slot w.directories d ≡ Some names → ⊥
  not-root d names h k = let root : [] ≡ names = cc in let some : 1 ≤ length names = c.some (in_directory d) names k in
      let none : length names ≡ 0 = ap (λ (names : List Name). length names) (sym root) in absurd (omega arith)

  pub one-directory : (d e : ℕ) (names : List Name) → way_of w d ≡ Some names → way_of w e ≡ Some names → d ≡ e
  one-directory zero zero names h k = refl
  one-directory zero (suc e) names h k = absurd (not-root e names h k)
  one-directory (suc d) zero names h k = absurd (not-root d names k h)
  one-directory (suc d) (suc e) names h k = ap suc (directory_number d e (c.distinct (in_directory d) (in_directory e) names h k))

-- ---- what stands at a path

there-obstacle : (v : StoreValue) (o : Option (Node ℕ)) (q : Option (Node File)) → IsThere v o q → obstacle o ≡ obstacle q
there-obstacle v None None h = refl
there-obstacle v None (Some n) h = absurd h
there-obstacle v (Some m) None h = absurd h
there-obstacle v (Some directory) (Some directory) h = refl
there-obstacle v (Some directory) (Some (file g)) h = absurd h
there-obstacle v (Some (file f)) (Some directory) h = absurd h
there-obstacle v (Some (file f)) (Some (file g)) h = refl

there-file : (v : StoreValue) (f : ℕ) (q : Option (Node File)) → IsThere v (Some (file f)) q → (g : File) × (q ≡ Some (file g)) × IsFile (kept_at v f) (charge_at v f) g
there-file v f None h = absurd h
there-file v f (Some directory) h = absurd h
there-file v f (Some (file g)) h = (g, refl, h)

there-directory : (v : StoreValue) (q : Option (Node File)) → IsThere v (Some directory) q → q ≡ Some directory
there-directory v None h = absurd h
there-directory v (Some directory) h = refl
there-directory v (Some (file g)) h = absurd h

there-nothing : (v : StoreValue) (q : Option (Node File)) → IsThere v None q → q ≡ None
there-nothing v None h = refl
there-nothing v (Some n) h = absurd h

file-there : (v : StoreValue) (o : Option (Node ℕ)) (g : File) → IsThere v o (Some (file g)) → (f : ℕ) × (o ≡ Some (file f)) × IsFile (kept_at v f) (charge_at v f) g
file-there v None g h = absurd h
file-there v (Some directory) g h = absurd h
file-there v (Some (file f)) g h = (f, refl, h)

directory-there : (v : StoreValue) (o : Option (Node ℕ)) → IsThere v o (Some directory) → o ≡ Some directory
directory-there v None h = absurd h
directory-there v (Some directory) h = refl
directory-there v (Some (file f)) h = absurd h

nothing-there : (v : StoreValue) (o : Option (Node ℕ)) → IsThere v o None → o ≡ None
nothing-there v None h = refl
nothing-there v (Some m) h = absurd h

module _ (v : StoreValue) (tree : Tree File) (t : IsTree v tree) where
  -- both have the same at each path
  pub standing-node : (names : List Name) → IsThere v (standing_at v.tree.nodes names) (standing_at tree names)
  standing-node [] = tt
  standing-node (name ∷ names) = zip-find v (name ∷ names) v.tree.nodes tree t.entries

  obstacle-same : (names : List Name) → obstacle (standing_at v.tree.nodes names) ≡ obstacle (standing_at tree names)
  obstacle-same names = there-obstacle v (standing_at v.tree.nodes names) (standing_at tree names) (standing-node names)

  -- a walk along a path meets the same
  pub walk-same : (names : List Name) → walk v.tree.nodes names ≡ walk tree names
  walk-same names = λ i. first_answer (λ k. obstacle-same (take k names) i) (range_with_len 1 (length names - 1))

  pub file_count-same : file_count v.tree.nodes ≡ file_count tree
  file_count-same = zip-file_count v v.tree.nodes tree t.entries

  pub directory_count-same : directory_count v.tree.nodes ≡ directory_count tree
  directory_count-same = zip-directory_count v v.tree.nodes tree t.entries

  -- the file of a number that stands at a path
  pub file-standing : (f : ℕ) (names : List Name) → standing_at v.tree.nodes names ≡ Some (file f) → (g : File) × (standing_at tree names ≡ Some (file g)) × IsFile (kept_at v f) (charge_at v f) g
  file-standing f names h = there-file v f (standing_at tree names) (there-as v (standing_at v.tree.nodes names) (Some (file f)) (standing_at tree names) (standing_at tree names) h refl (standing-node names))

  -- the file of an entry's path
  pub file-found : (f : ℕ) (names : List Name) → slot v.tree.files f ≡ Some names → (g : File) × (standing_at tree names ≡ Some (file g)) × IsFile (kept_at v f) (charge_at v f) g
  file-found f names h = file-standing f names (standing-file v.tree t.sound.names f names h)

  -- what is kept of a file at the path of an entry
  pub file-kept : (f : ℕ) (names : List Name) (g : File) → slot v.tree.files f ≡ Some names → standing_at tree names ≡ Some (file g) → IsFile (kept_at v f) (charge_at v f) g
  file-kept f names g h stands =
      there-as v (standing_at v.tree.nodes names) (Some (file f)) (standing_at tree names) (Some (file g)) (standing-file v.tree t.sound.names f names h) stands (standing-node names)

  -- the entry of a file at a path
  pub file-entry : (names : List Name) (g : File) → standing_at tree names ≡ Some (file g) → (f : ℕ) × (slot v.tree.files f ≡ Some names) × IsFile (kept_at v f) (charge_at v f) g
  file-entry names g h =
      let s = file-there v (standing_at v.tree.nodes names) g (there-as v (standing_at v.tree.nodes names) (standing_at v.tree.nodes names) (standing_at tree names) (Some (file g)) refl h (standing-node names)) in
      (s.0, path-standing v.tree t.sound.names s.0 names s.1, s.2)

  pub directory-standing : (names : List Name) → standing_at v.tree.nodes names ≡ Some directory → standing_at tree names ≡ Some directory
  directory-standing names h = there-directory v (standing_at tree names) (there-as v (standing_at v.tree.nodes names) (Some directory) (standing_at tree names) (standing_at tree names) h refl (standing-node names))

  pub directory-found : (d : ℕ) (names : List Name) → way_of v.tree d ≡ Some names → standing_at tree names ≡ Some directory
  directory-found d names h = directory-standing names (standing-directory v.tree t.sound.names d names h)

  -- the entry of a directory at a path
  pub directory-entry : (names : List Name) → standing_at tree names ≡ Some directory → (d : ℕ) × (way_of v.tree d ≡ Some names)
  directory-entry names h = way-standing v.tree t.sound.names names
      (directory-there v (standing_at v.tree.nodes names) (there-as v (standing_at v.tree.nodes names) (standing_at v.tree.nodes names) (standing_at tree names) (Some directory) refl h (standing-node names)))

  pub nothing-standing : (names : List Name) → standing_at v.tree.nodes names ≡ None → standing_at tree names ≡ None
  nothing-standing names h = there-nothing v (standing_at tree names) (there-as v (standing_at v.tree.nodes names) None (standing_at tree names) (standing_at tree names) h refl (standing-node names))

  pub nothing-entry : (names : List Name) → standing_at tree names ≡ None → standing_at v.tree.nodes names ≡ None
  nothing-entry names h = nothing-there v (standing_at v.tree.nodes names) (there-as v (standing_at v.tree.nodes names) (standing_at v.tree.nodes names) (standing_at tree names) None refl h (standing-node names))
