-- A tree whose nodes are changed one by one, where a path gets another node or loses what stood there.
use Rattle.std.proofs.Common.{◌≡◌, ◌≢◌, Bool, true, false, cond, not, T, ◌&&◌, List, [], ◌∷◌, map, refl, sym, ap, subst, ◌∙◌, Option, Some, None}
use Rattle.std.specs.Prelude.{option_map}
use Rattle.std.specs.Ordering.{is_lt, is_eq, eq_by_cmp}
use Rattle.std.specs.declared.cmp.Ordering.TheVariants.{Less, Equal, Greater}
use Rattle.std.specs.Cmp.{tied_itself}
use Rattle.std.specs.FinMap.Entries.{by_order, find, put, where_key, below_all, is_sorted, find-where_key, is_sorted-where_key, same_entries}
use Rattle.apex_model.specs.Trees.{Name, Node, Tree, path_cmp, with_node, without_node}
use Rattle.apex_model.proofs.Trees.{path_cmp_total, path_cmp-IsAntisymmetric}

module _ {A B : Type 0} (g : Node A → Node B) where
  -- each node changed
  abbrev pub over : Tree A → Tree B
  over tree = map (λ (p : List Name × Node A). let q : List Name × Node B = (p.0, g p.1) in q) tree

  pub over-put : (k : List Name) (n : Node A) (tree : Tree A) → over (with_node tree k n) ≡ with_node (over tree) k (g n)
  over-put k n [] = refl
  over-put k n (e ∷ tree) =
      elim (path_cmp k e.0) as (λ o. over (by_order o ((k, n) ∷ e ∷ tree) ((e.0, n) ∷ tree) (e ∷ put path_cmp k n tree))
      ≡ by_order o ((k, g n) ∷ over (e ∷ tree)) ((e.0, g n) ∷ over tree) ((e.0, g e.1) ∷ put path_cmp k (g n) (over tree))) [
        | Less ↦ refl
        | Equal ↦ refl
        | Greater ↦ ap (λ (t : Tree B). (e.0, g e.1) ∷ t) (over-put k n tree)
      ]

  over-where : (test : List Name → Bool) (tree : Tree A) → over (where_key path_cmp test tree) ≡ where_key path_cmp test (over tree)
  over-where test [] = refl
  over-where test (e ∷ tree) =
      elim (test e.0) as (λ b. over (cond b (e ∷ where_key path_cmp test tree) (where_key path_cmp test tree))
      ≡ cond b ((e.0, g e.1) ∷ where_key path_cmp test (over tree)) (where_key path_cmp test (over tree))) [
        | true ↦ ap (λ (t : Tree B). (e.0, g e.1) ∷ t) (over-where test tree)
        | false ↦ over-where test tree
      ]

  pub over-without : (k : List Name) (tree : Tree A) → over (without_node tree k) ≡ without_node (over tree) k
  over-without k tree = over-where (λ key. not (eq_by_cmp path_cmp k key)) tree

  found : (b : Bool) (n : Node A) (o : Option (Node B)) (p : Option (Node A)) → o ≡ option_map g p → cond b (Some (g n)) o ≡ option_map g (cond b (Some n) p)
  found true n o p e = refl
  found false n o p e = e

  pub find-over : (path : List Name) (tree : Tree A) → find path_cmp path (over tree) ≡ option_map g (find path_cmp path tree)
  find-over path [] = refl
  find-over path (x ∷ tree) = found (eq_by_cmp path_cmp path x.0) x.1 (find path_cmp path (over tree)) (find path_cmp path tree) (find-over path tree)

  below-over : (path : List Name) (tree : Tree A) → below_all path_cmp path (over tree) ≡ below_all path_cmp path tree
  below-over path [] = refl
  below-over path (x ∷ tree) = ap (λ b. is_lt (path_cmp path x.0) && b) (below-over path tree)

  sorted-over : (tree : Tree A) → is_sorted path_cmp (over tree) ≡ is_sorted path_cmp tree
  sorted-over [] = refl
  sorted-over (x ∷ tree) = (λ i. below-over x.0 tree i && sorted-over tree i)

tied : (q : List Name) → eq_by_cmp path_cmp q q ≡ true
tied q = ap is_eq (tied_itself path_cmp_total q)

differ : false ≢ true
differ e = cc

module _ {A B : Type 0} (g h : Node A → Node B) where
  alike : (o : Option (Node A)) → ((n : Node A) → o ≡ Some n → g n ≡ h n) → option_map g o ≡ option_map h o
  alike None same = refl
  alike (Some n) same = ap Some (same n refl)

  -- two changes that agree on all nodes of a tree
  pub same-over : (tree : Tree A) → T (is_sorted path_cmp tree) → ((q : List Name) (n : Node A) → find path_cmp q tree ≡ Some n → g n ≡ h n) → over g tree ≡ over h tree
  same-over tree sorted same =
      same_entries path_cmp path_cmp_total path_cmp-IsAntisymmetric (over g tree) (over h tree)
      (subst T (sym (sorted-over g tree)) sorted) (subst T (sym (sorted-over h tree)) sorted)
      (λ q. find-over g q tree ∙ alike (find path_cmp q tree) (same q) ∙ sym (find-over h q tree))

  -- what is left where a path lost what stood there, and they agree on the other nodes
  pub over-lost : (k : List Name) (tree : Tree A) → T (is_sorted path_cmp tree) → ((q : List Name) (n : Node A) → q ≢ k → find path_cmp q tree ≡ Some n → h n ≡ g n)
      → over h (without_node tree k) ≡ without_node (over g tree) k
  over-lost k tree sorted same =
      sym (same-over (without_node tree k) (is_sorted-where_key path_cmp (λ key. not (eq_by_cmp path_cmp k key)) tree sorted) (λ q n there.
      (elim (eq_by_cmp path_cmp k q) as (λ b. eq_by_cmp path_cmp k q ≡ b → cond (not b) (find path_cmp q tree) None ≡ Some n → g n ≡ h n) [
        | true ↦ λ t is. absurd (let wrong : ◌≡◌ {A = Option (Node A)} None (Some n) = is in cc)
        | false ↦ λ t is. sym (same q n (λ e. differ (sym t ∙ ap (eq_by_cmp path_cmp k) e ∙ tied k)) is)
      ]) refl (sym (find-where_key path_cmp (λ key. not (eq_by_cmp path_cmp k key)) q (λ x t. ap (λ key. not (eq_by_cmp path_cmp k key)) (sym (path_cmp-IsAntisymmetric q x t))) tree) ∙ there)))
      ∙ over-without g k tree
