-- A value whose present contents are what a cut leaves stands for the tree that a run starts from.
use Rattle.std.proofs.Common.{◌≡◌, inl, inr, ℕ, suc, ◌+◌, ◌≤◌, Bool, true, false, cond, T, List, [], ◌∷◌, map, length, max, refl, sym, ap, subst, ◌∙◌, Option, Some, None, arith}
use Rattle.std.proofs.lemmas.List.Sums.{sum_by-cons}
use Rattle.std.specs.Prelude.{option_map, unwrap_or, sum_by, count_by, filter, is_some, IsTrue, ⊤}
use Rattle.std.specs.List.{AllByRecursion, AllZip}
use Rattle.std.specs.Map.{values_of}
use Rattle.std.specs.Ordering.{is_eq, eq_by_cmp}
use Rattle.std.specs.declared.cmp.Ordering.{Ordering}
use Rattle.std.specs.declared.cmp.Ordering.TheVariants.{Less, Equal, Greater}
use Rattle.std.specs.FinMap.Entries.{by_order, find, put, is_sorted}
use Rattle.apex_types.specs.Naming.{is_name}
use Rattle.apex_types.specs.declared.rows.TreeRow.{TreeRow}
use Rattle.apex_model.specs.Durable.{StoredFile, loaded_file, loaded_node, loaded_entry, loaded_tree}
use Rattle.apex_model.specs.Files.{Content, File, blocks_of, charge, change_count}
use Rattle.apex_model.specs.Trees.{Name, Node, directory, file, Tree, path_cmp, standing_at, is_file, is_directory, file_count, directory_count, node_charge, tree_charge}
use Rattle.apex_model.specs.Validity.{IsContent, IsPath, IsValidEntry, IsValidFile, IsValidNode, IsValidTree, parent_of}
use Rattle.apex_model.proofs.Trees.{same_path}
use Rattle.file_tree.specs.Entries.{TreeValue, slot, Place, in_file, in_directory, path_at, node_at, put_all, nodes_of, IsConsistent}
use Rattle.file_tree.proofs.Paths.{sorted_nodes}
use Rattle.store_model.proofs.Counts.{count-files, count-directories}
use Rattle.store_model.specs.Standing.{IsFile, IsNode, IsEntry, IsTree}
use Rattle.store_model.specs.Stores.{KeptFile, StoreValue, kept_at, charge_at, total, durable_node, durable_entry, durable_of, synchronised_kept, IsSound}
use Rattle.tree_store.specs.Stored.{AreSpelled}
use Rattle.tree_store.proofs.Over.{over, sorted-over, find-over, is-true}
use Rattle.tree_store.proofs.Summed.{nodes-weigh}

-- ---- each entry of a tree

-- a property of each node of a map of paths is one of each entry's
all-put : (P : List Name × Node ℕ → Type 0) (path : List Name) (n : Node ℕ) (tree : Tree ℕ) → P (path, n) → AllByRecursion P tree → AllByRecursion P (put path_cmp path n tree)
all-put P path n [] here rest = (here, tt)
all-put P path n (entry ∷ tree) here rest =
    (elim (path_cmp path entry.0) as (λ o. path_cmp path entry.0 ≡ o → AllByRecursion P (by_order o ((path, n) ∷ entry ∷ tree) ((entry.0, n) ∷ tree) (entry ∷ put path_cmp path n tree))) [
      | Less ↦ λ is. (here, rest)
      | Equal ↦ λ is. (subst (λ (q : List Name). P (q, n)) (same_path path entry.0 (ap is_eq is)) here, rest.1)
      | Greater ↦ λ is. (rest.0, all-put P path n tree here rest.1)
    ]) refl

all-listed : (P : List Name × Node ℕ → Type 0) (node : ℕ → Node ℕ) (k : ℕ) (listed : List (Option (List Name))) (tree : Tree ℕ)
    → ((i : ℕ) (path : List Name) → slot listed i ≡ Some path → P (path, node (k + i))) → AllByRecursion P tree → AllByRecursion P (put_all node k listed tree)
all-listed P node k [] tree each rest = rest
all-listed P node k (None ∷ listed) tree each rest =
    all-listed P node (k + 1) listed tree (λ i path is. let next : k + suc i ≡ k + 1 + i = omega arith in subst (λ (j : ℕ). P (path, node j)) next (each (suc i) path is)) rest
all-listed P node k (Some p ∷ listed) tree each rest =
    let first : k + 0 ≡ k = omega arith in
    all-put P p (node k) (put_all node (k + 1) listed tree) (subst (λ (j : ℕ). P (p, node j)) first (each 0 p refl))
    (all-listed P node (k + 1) listed tree (λ i path is. let next : k + suc i ≡ k + 1 + i = omega arith in subst (λ (j : ℕ). P (path, node j)) next (each (suc i) path is)) rest)

all-nodes : (P : List Name × Node ℕ → Type 0) (w : TreeValue) → IsConsistent w → ((a : Place) (path : List Name) → path_at w.files w.directories a ≡ Some path → P (path, node_at a)) → AllByRecursion P w.nodes
all-nodes P w c each =
    subst (λ (nodes : Tree ℕ). AllByRecursion P nodes) (sym c.nodes_are)
    (all-listed P file 0 w.files (put_all (λ _. directory) 0 w.directories [])
    (λ i path is. let first : i ≡ 0 + i = omega arith in subst (λ (j : ℕ). P (path, file j)) first (each (in_file i) path is))
    (all-listed P (λ _. directory) 0 w.directories [] (λ i path is. each (in_directory i) path is) tt))

-- ---- nodes that are changed one by one

module _ (g : Node ℕ → Node File) where
  all-over : (P : List Name × Node File → Type 0) (tree : Tree ℕ) → AllByRecursion (λ (entry : List Name × Node ℕ). P (entry.0, g entry.1)) tree → AllByRecursion P (over g tree)
  all-over P [] all = tt
  all-over P (entry ∷ tree) all = (all.0, all-over P tree all.1)

  count-over : (test : Node ℕ → Bool) (of_file : Node File → Bool) → ((n : Node ℕ) → test n ≡ of_file (g n)) → (tree : Tree ℕ) → count_by of_file (values_of (over g tree)) ≡ count_by test (values_of tree)
  count-over test of_file same [] = refl
  count-over test of_file same (entry ∷ tree) =
      let rest = count-over test of_file same tree in
      let here = sym (same entry.1) in
      sum_by-cons (λ (n : Node File). cond (of_file n) 1 0) (g entry.1) (values_of (over g tree)) ∙ (λ i. cond (here i) 1 0 + rest i)
      ∙ sym (sum_by-cons (λ (n : Node ℕ). cond (test n) 1 0) entry.1 (values_of tree))

  sum-over : (f : Node File → ℕ) (h : Node ℕ → ℕ) → ((n : Node ℕ) → f (g n) ≡ h n) → (tree : Tree ℕ) → sum_by f (values_of (over g tree)) ≡ sum_by h (values_of tree)
  sum-over f h same [] = refl
  sum-over f h same (entry ∷ tree) =
      let rest = sum-over f h same tree in
      let here = same entry.1 in
      sum_by-cons f (g entry.1) (values_of (over g tree)) ∙ (λ i. here i + rest i) ∙ sym (sum_by-cons h entry.1 (values_of tree))

  standing-over : g directory ≡ directory → (tree : Tree ℕ) (path : List Name) → standing_at tree path ≡ Some directory → standing_at (over g tree) path ≡ Some directory
  standing-over same tree [] is = refl
  standing-over same tree (name ∷ path) is = find-over g (name ∷ path) tree ∙ ap (λ (found : Option (Node ℕ)). option_map g found) is ∙ ap (λ (n : Node File). Some n) same

used-most : {A : Type 0} (xs : List (Option A)) → length (filter is_some xs) ≤ length xs
used-most [] = omega arith
used-most (None ∷ xs) = let rest = used-most xs in omega (arith, rest)
used-most (Some x ∷ xs) = let rest = used-most xs in omega (arith, rest)

-- ---- a value as one that was just synchronised

-- its present content is what a cut leaves
abbrev pub IsAsStored : KeptFile → Type 0
IsAsStored kept = kept ≡ synchronised_kept kept

module _ (v : StoreValue) (sound : IsSound v) (as_stored : (f : ℕ) → IsAsStored (kept_at v f)) (charged : (f : ℕ) → charge_at v f ≡ blocks_of (length (kept_at v f).content)) where
  content-stored : (f : ℕ) → (kept_at v f).content ≡ (kept_at v f).durable.content
  content-stored f = sym (ap (λ (k : KeptFile). k.durable.content) (as_stored f))

  changes-stored : (f : ℕ) → (kept_at v f).changes ≡ (kept_at v f).durable.changes
  changes-stored f = sym (ap (λ (k : KeptFile). k.durable.changes) (as_stored f))

  charge-stored : (f : ℕ) → charge_at v f ≡ charge (loaded_file (kept_at v f).durable)
  charge-stored f =
      let long : length (kept_at v f).durable.content ≡ max (length (kept_at v f).durable.content) 0 = omega arith in
      charged f ∙ ap (λ (content : Content). blocks_of (length content)) (content-stored f) ∙ ap blocks_of long

  file-loaded : (f : ℕ) → IsFile (kept_at v f) (charge_at v f) (loaded_file (kept_at v f).durable)
  file-loaded f = record {
    content = content-stored f;
    changes = let same = changes-stored f in omega (arith, same);
    charge = charge-stored f;
    durable = refl;
  }

  entries-loaded : (nodes : Tree ℕ) → AllZip (IsEntry v) nodes (loaded_tree (map (durable_entry v) nodes))
  entries-loaded [] = tt
  entries-loaded ((path, directory) ∷ nodes) = ((refl, tt), entries-loaded nodes)
  entries-loaded ((path, file f) ∷ nodes) = ((refl, file-loaded f), entries-loaded nodes)

  abbrev loaded : Node ℕ → Node File
  loaded n = loaded_node (durable_node v n)

  over-loaded : (nodes : Tree ℕ) → loaded_tree (map (durable_entry v) nodes) ≡ over loaded nodes
  over-loaded [] = refl
  over-loaded (entry ∷ nodes) = ap (λ (tree : Tree File). (entry.0, loaded entry.1) ∷ tree) (over-loaded nodes)

  abbrev weight : Node ℕ → ℕ
  weight directory = 0
  weight (file f) = charge_at v f

  loaded-weight : (n : Node ℕ) → node_charge (loaded n) ≡ weight n
  loaded-weight directory = refl
  loaded-weight (file f) = sym (charge-stored f)

  charge-loaded : tree_charge (loaded_tree (durable_of v)) ≡ total v.charges
  charge-loaded =
      ap tree_charge (over-loaded v.tree.nodes) ∙ sum-over loaded node_charge weight loaded-weight v.tree.nodes
      ∙ nodes-weigh v.tree sound.names weight v.charges refl sound.charges (λ f. refl) (λ f none. (sound.unused f none).1)

  pub stands-loaded : IsTree v (loaded_tree (durable_of v))
  stands-loaded = record { sound = sound; entries = entries-loaded v.tree.nodes; charge = charge-loaded }

  -- ---- it is a valid one

  module _ (row : TreeRow) (spelled : AreSpelled v.tree) (files : length v.tree.files ≡ row.files) (directories : length v.tree.directories ≡ row.directories) (quota : v.quota ≡ row.quota)
      (contents : (f : ℕ) → IsContent (kept_at v f).content) (counted : (f : ℕ) → (kept_at v f).changes ≤ 4294967295) where
    file-valid : (f : ℕ) → IsValidFile (loaded_file (kept_at v f).durable)
    file-valid f = record {
      contents = (subst IsContent (content-stored f) (contents f), tt);
      changes = let same = changes-stored f in let few = counted f in omega (arith, same, few);
    }

    node-valid : (a : Place) → IsValidNode (loaded (node_at a))
    node-valid (in_file f) = file-valid f
    node-valid (in_directory d) = tt

    entry-valid : (a : Place) (path : List Name) → path_at v.tree.files v.tree.directories a ≡ Some path → IsValidEntry (over loaded v.tree.nodes) (path, loaded (node_at a))
    entry-valid a path is = record {
      path = record { some = sound.names.some a path is; few = sound.names.few a path is; spelled = spelled a path is };
      parent = standing-over loaded refl v.tree.nodes (parent_of path) (sound.names.parent a path is);
      node = node-valid a;
    }

    kind-file : (n : Node ℕ) → is_file n ≡ is_file (loaded n)
    kind-file directory = refl
    kind-file (file f) = refl

    kind-directory : (n : Node ℕ) → is_directory n ≡ is_directory (loaded n)
    kind-directory directory = refl
    kind-directory (file f) = refl

    over-valid : IsValidTree row (over loaded v.tree.nodes)
    over-valid = record {
      sorted = is-true (is_sorted path_cmp (over loaded v.tree.nodes)) (subst T (sym (sorted-over loaded v.tree.nodes))
          (subst (λ (nodes : Tree ℕ). T (is_sorted path_cmp nodes)) (sym sound.names.nodes_are) (sorted_nodes v.tree.files v.tree.directories)));
      entries = all-over loaded (IsValidEntry (over loaded v.tree.nodes)) v.tree.nodes
          (all-nodes (λ (entry : List Name × Node ℕ). IsValidEntry (over loaded v.tree.nodes) (entry.0, loaded entry.1)) v.tree sound.names entry-valid);
      files = let count = count-over loaded is_file is_file kind-file v.tree.nodes in let all = count-files v.tree sound.names in let most = used-most v.tree.files in omega (arith, count, all, most, files);
      directories = let count = count-over loaded is_directory is_directory kind-directory v.tree.nodes in let all = count-directories v.tree sound.names in let most = used-most v.tree.directories in
          omega (arith, count, all, most, directories);
      charge = let sum = charge-loaded in let whole = ap tree_charge (over-loaded v.tree.nodes) in let within = sound.within_quota in omega (arith, sum, whole, within, quota);
    }

    pub valid-loaded : IsValidTree row (loaded_tree (durable_of v))
    valid-loaded = subst (IsValidTree row) (sym (over-loaded v.tree.nodes)) over-valid
