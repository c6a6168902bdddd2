-- A tree with one more node, or with one less.
use Rattle.std.proofs.Common.{◌≡◌, ◌≢◌, ℕ, ◌+◌, ◌≤◌, Bool, true, false, cond, T, not, List, [], ◌∷◌, refl, sym, ap, subst, ◌∙◌, Option, Some, None, IsTrue, arith}
use Rattle.std.specs.Prelude.{option_map, unwrap_or, sum_by}
use Rattle.std.specs.declared.cmp.Ordering.{Ordering}
use Rattle.std.specs.declared.cmp.Ordering.TheVariants.{Less, Equal, Greater}
use Rattle.std.specs.Bool.{passes}
use Rattle.std.specs.Cmp.{tied_itself}
use Rattle.std.specs.FinMap.Entries.{find, put, where_key, is_sorted, below_all, by_order, is_sorted-put, is_sorted-where_key, find-where_key}
use Rattle.std.specs.List.{AllByRecursion}
use Rattle.std.specs.Map.{values_of}
use Rattle.std.specs.Ordering.{is_lt, is_eq, eq_by_cmp}
use Rattle.std.proofs.lemmas.List.Sums.{sum_by-cons}
use Rattle.apex_types.specs.declared.rows.TreeRow.{TreeRow}
use Rattle.apex_model.specs.Files.{File}
use Rattle.apex_model.specs.Trees.{Name, Node, directory, file, Tree, path_cmp, standing_at, with_node, without_node, is_file, is_directory, file_count, directory_count, node_charge, tree_charge}
use Rattle.apex_model.specs.Validity.{IsValidNode, IsPath, IsValidEntry, IsValidTree, parent_of}
use Rattle.apex_model.proofs.AcceptedTables.{and-left, and-right}
use Rattle.apex_model.proofs.Maps.{sum_by-put}
use Rattle.apex_model.proofs.Trees.{path_cmp_total, path_cmp-IsAntisymmetric, standing-with_node, same_path}

true-from : (b : Bool) → T b → b ≡ true
true-from true t = refl
true-from false t = absurd t

pub same_key : (names : List Name) → eq_by_cmp path_cmp names names ≡ true
same_key names = ap is_eq (tied_itself path_cmp_total names)

-- ---- each entry

all-put : (P : List Name × Node File → Type 0) (names : List Name) (node : Node File) (tree : Tree File) → AllByRecursion P tree → P (names, node) → AllByRecursion P (put path_cmp names node tree)
all-put P names node [] h p = (p, tt)
all-put P names node (e ∷ tree) h p =
    (elim (path_cmp names e.0) as (λ o. path_cmp names e.0 ≡ o → AllByRecursion P (by_order o ((names, node) ∷ e ∷ tree) ((e.0, node) ∷ tree) (e ∷ put path_cmp names node tree))) [
      | Less ↦ λ _. (p, h)
      | Equal ↦ λ tie. (let Q : List Name → Type 0 = λ key. P (key, node) in subst Q (path_cmp-IsAntisymmetric names e.0 tie) p, h.1)
      | Greater ↦ λ _. (h.0, all-put P names node tree h.1 p)
    ]) refl

all-where : (P : List Name × Node File → Type 0) (test : List Name → Bool) (tree : Tree File) → AllByRecursion P tree → AllByRecursion P (where_key path_cmp test tree)
all-where P test [] h = tt
all-where P test (e ∷ tree) h = elim (test e.0) as (λ b. AllByRecursion P (cond b (e ∷ where_key path_cmp test tree) (where_key path_cmp test tree))) [
  | true ↦ (h.0, all-where P test tree h.1)
  | false ↦ all-where P test tree h.1
]

all-joined : {A : Type 0} (P Q R : A → Type 0) → ((a : A) → P a → Q a → R a) → (xs : List A) → AllByRecursion P xs → AllByRecursion Q xs → AllByRecursion R xs
all-joined P Q R h [] v w = tt
all-joined P Q R h (x ∷ xs) v w = (h x v.0 w.0, all-joined P Q R h xs v.1 w.1)

pub all-mapped : {A : Type 0} (P Q : A → Type 0) → ((a : A) → P a → Q a) → (xs : List A) → AllByRecursion P xs → AllByRecursion Q xs
all-mapped P Q h [] v = tt
all-mapped P Q h (x ∷ xs) v = (h x v.0, all-mapped P Q h xs v.1)

pub entry-found : (Q : List Name × Node File → Type 0) (tree : Tree File) (names : List Name) (node : Node File) → AllByRecursion Q tree → find path_cmp names tree ≡ Some node → Q (names, node)
entry-found Q [] names node v h = absurd (let e : ◌≡◌ {A = Option (Node File)} None (Some node) = h in cc)
entry-found Q (e ∷ tree) names node v h =
    (elim (eq_by_cmp path_cmp names e.0) as (λ b. eq_by_cmp path_cmp names e.0 ≡ b → cond b (Some e.1) (find path_cmp names tree) ≡ Some node → Q (names, node)) [
      | true ↦ λ t is. let same : e.1 ≡ node = cc in let P : Node File → Type 0 = λ n. Q (names, n) in let R : List Name → Type 0 = λ key. Q (key, e.1) in
          subst P same (subst R (sym (same_path names e.0 t)) v.0)
      | false ↦ λ t is. entry-found Q tree names node v.1 is
    ]) refl h

-- ---- one more node

-- what stood elsewhere is still there after a node was put
pub kept-other : (tree : Tree File) (names : List Name) (node : Node File) (other : List Name) (n : Node File) → other ≢ names
    → standing_at tree other ≡ Some n → standing_at (with_node tree names node) other ≡ Some n
kept-other tree names node [] n apart h = h
kept-other tree names node (o ∷ other) n apart h = standing-with_node tree names node o other
    ∙ (elim (eq_by_cmp path_cmp (o ∷ other) names) as (λ b. eq_by_cmp path_cmp (o ∷ other) names ≡ b → cond b (Some node) (standing_at tree (o ∷ other)) ≡ Some n) [
      | true ↦ λ e. absurd (apart (same_path (o ∷ other) names e))
      | false ↦ λ e. h
    ]) refl

-- what stood is still there after a node was put where nothing stood
pub kept-with : (tree : Tree File) (names : List Name) (node : Node File) (other : List Name) (n : Node File) → standing_at tree names ≡ None
    → standing_at tree other ≡ Some n → standing_at (with_node tree names node) other ≡ Some n
kept-with tree names node other n free h = kept-other tree names node other n
    (λ same. let wrong : ◌≡◌ {A = Option (Node File)} None (Some n) = sym free ∙ ap (standing_at tree) (sym same) ∙ h in cc) h

-- the node is there
pub put-there : (tree : Tree File) (name : Name) (names : List Name) (node : Node File) → standing_at (with_node tree (name ∷ names) node) (name ∷ names) ≡ Some node
put-there tree name names node = standing-with_node tree (name ∷ names) node name names ∙ ap (λ b. cond b (Some node) (standing_at tree (name ∷ names))) (same_key (name ∷ names))

sum-with : (weight : Node File → ℕ) (tree : Tree File) (name : Name) (names : List Name) (node : Node File) → IsTrue (is_sorted path_cmp tree) → standing_at tree (name ∷ names) ≡ None
    → sum_by weight (values_of (with_node tree (name ∷ names) node)) ≡ sum_by weight (values_of tree) + weight node
sum-with weight tree name names node sorted free =
    let sum : sum_by weight (values_of (with_node tree (name ∷ names) node)) + 0 ≡ sum_by weight (values_of tree) + weight node =
    ap (λ (found : Option (Node File)). sum_by weight (values_of (with_node tree (name ∷ names) node)) + unwrap_or (option_map weight found) 0) (sym free)
    ∙ sum_by-put path_cmp path_cmp_total weight (name ∷ names) node tree sorted in
    omega (arith, sum)

-- what a node counts for
abbrev pub one_if : Bool → ℕ
one_if b = cond b 1 0

-- a valid tree with a node where nothing stood
pub with_new-valid : (row : TreeRow) (tree : Tree File) (name : Name) (names : List Name) (node : Node File) → IsValidTree row tree → standing_at tree (name ∷ names) ≡ None
    → IsPath (name ∷ names) → standing_at tree (parent_of (name ∷ names)) ≡ Some directory → IsValidNode node
    → file_count tree + one_if (is_file node) ≤ row.files → directory_count tree + one_if (is_directory node) ≤ row.directories → tree_charge tree + node_charge node ≤ row.quota
    → IsValidTree row (with_node tree (name ∷ names) node)
with_new-valid row tree name names node v free path parent good files directories charge =
    let a = sum-with (λ n. cond (is_file n) 1 0) tree name names node v.sorted free in
    let b = sum-with (λ n. cond (is_directory n) 1 0) tree name names node v.sorted free in
    let c = sum-with node_charge tree name names node v.sorted free in
    record {
      sorted = true-from _ (is_sorted-put path_cmp path_cmp_total (name ∷ names) node tree (passes _ v.sorted));
      entries = all-put (IsValidEntry (with_node tree (name ∷ names) node)) (name ∷ names) node tree
          (all-mapped (IsValidEntry tree) (IsValidEntry (with_node tree (name ∷ names) node))
          (λ e w. record { path = w.path; parent = kept-with tree (name ∷ names) node (parent_of e.0) directory free w.parent; node = w.node }) tree v.entries)
          (record { path = path; parent = kept-with tree (name ∷ names) node (parent_of (name ∷ names)) directory free parent; node = good });
      files = omega (arith, a, files);
      directories = omega (arith, b, directories);
      charge = omega (arith, c, charge);
    }

-- ---- one node less

standing-without : (tree : Tree File) (names : List Name) (o : Name) (other : List Name)
    → standing_at (without_node tree names) (o ∷ other) ≡ cond (not (eq_by_cmp path_cmp names (o ∷ other))) (standing_at tree (o ∷ other)) None
standing-without tree names o other = find-where_key path_cmp (λ key. not (eq_by_cmp path_cmp names key)) (o ∷ other)
    (λ x tie. ap (λ key. not (eq_by_cmp path_cmp names key)) (sym (path_cmp-IsAntisymmetric (o ∷ other) x tie))) tree

-- what stood elsewhere is still there
pub kept-without : (tree : Tree File) (names other : List Name) (n : Node File) → other ≢ names → standing_at tree other ≡ Some n → standing_at (without_node tree names) other ≡ Some n
kept-without tree names [] n apart h = h
kept-without tree names (o ∷ other) n apart h = standing-without tree names o other
    ∙ (elim (eq_by_cmp path_cmp names (o ∷ other)) as (λ b. eq_by_cmp path_cmp names (o ∷ other) ≡ b → cond (not b) (standing_at tree (o ∷ other)) None ≡ Some n) [
      | true ↦ λ e. absurd (apart (sym (same_path names (o ∷ other) e)))
      | false ↦ λ e. h
    ]) refl

-- where nothing stood, nothing stands
pub free-without : (tree : Tree File) (names other : List Name) → standing_at tree other ≡ None → standing_at (without_node tree names) other ≡ None
free-without tree names [] h = h
free-without tree names (o ∷ other) h = standing-without tree names o other
    ∙ (elim (eq_by_cmp path_cmp names (o ∷ other)) as (λ b. cond (not b) (standing_at tree (o ∷ other)) None ≡ None) [ true ↦ refl | false ↦ h ])

is-less : (o : Ordering) → is_lt o ≡ true → is_eq o ≡ false
is-less Less h = refl
is-less Equal h = absurd cc
is-less Greater h = absurd cc

untouched : (key : List Name) (tree : Tree File) → below_all path_cmp key tree ≡ true → without_node tree key ≡ tree
untouched key [] h = refl
untouched key (e ∷ tree) h =
    ap (λ b. cond (not b) (e ∷ without_node tree key) (without_node tree key)) (is-less (path_cmp key e.0) (and-left (is_lt (path_cmp key e.0)) (below_all path_cmp key tree) h))
    ∙ ap (λ rest. e ∷ rest) (untouched key tree (and-right (is_lt (path_cmp key e.0)) (below_all path_cmp key tree) h))

-- a sum over the values without one
sum-without : (weight : Node File → ℕ) (tree : Tree File) (names : List Name) (node : Node File) → is_sorted path_cmp tree ≡ true → find path_cmp names tree ≡ Some node
    → sum_by weight (values_of (without_node tree names)) + weight node ≡ sum_by weight (values_of tree)
sum-without weight [] names node sorted h = absurd (let wrong : ◌≡◌ {A = Option (Node File)} None (Some node) = h in cc)
sum-without weight (e ∷ tree) names node sorted h =
    let whole = sum_by-cons weight e.1 (values_of tree) in
    (elim (eq_by_cmp path_cmp names e.0) as (λ b. eq_by_cmp path_cmp names e.0 ≡ b → cond b (Some e.1) (find path_cmp names tree) ≡ Some node
    → sum_by weight (values_of (cond (not b) (e ∷ without_node tree names) (without_node tree names))) + weight node ≡ sum_by weight (values_of (e ∷ tree))) [
      | true ↦ λ t is.
          let found : e.1 ≡ node = cc in
          let same : weight e.1 ≡ weight node = ap weight found in
          let below : below_all path_cmp names tree ≡ true = ap (λ key. below_all path_cmp key tree) (same_path names e.0 t) ∙ and-left (below_all path_cmp e.0 tree) (is_sorted path_cmp tree) sorted in
          let rest : sum_by weight (values_of (without_node tree names)) ≡ sum_by weight (values_of tree) = ap (λ (es : Tree File). sum_by weight (values_of es)) (untouched names tree below) in
          omega (arith, whole, rest, same)
      | false ↦ λ t is.
          let ih = sum-without weight tree names node (and-right (below_all path_cmp e.0 tree) (is_sorted path_cmp tree) sorted) is in
          let left = sum_by-cons weight e.1 (values_of (without_node tree names)) in
          omega (arith, whole, ih, left)
    ]) refl h

-- a valid tree without a node in which nothing stands, and what is less
pub record IsWithout (row : TreeRow) (tree : Tree File) (names : List Name) (node : Node File) : Type 0 where
  pub valid : IsValidTree row (without_node tree names)
  pub files : file_count (without_node tree names) + one_if (is_file node) ≡ file_count tree
  pub directories : directory_count (without_node tree names) + one_if (is_directory node) ≡ directory_count tree
  pub charge : tree_charge (without_node tree names) + node_charge node ≡ tree_charge tree

pub without-valid : (row : TreeRow) (tree : Tree File) (name : Name) (names : List Name) (node : Node File) → IsValidTree row tree → standing_at tree (name ∷ names) ≡ Some node
    → AllByRecursion (λ e. parent_of e.0 ≢ name ∷ names) tree → IsWithout row tree (name ∷ names) node
without-valid row tree name names node v stands alone =
    let a = sum-without (λ n. cond (is_file n) 1 0) tree (name ∷ names) node v.sorted stands in
    let b = sum-without (λ n. cond (is_directory n) 1 0) tree (name ∷ names) node v.sorted stands in
    let c = sum-without node_charge tree (name ∷ names) node v.sorted stands in
    let files = v.files in
    let directories = v.directories in
    let charge = v.charge in
    record {
      valid = record {
        sorted = true-from _ (is_sorted-where_key path_cmp (λ key. not (eq_by_cmp path_cmp (name ∷ names) key)) tree (passes _ v.sorted));
        entries = all-where (IsValidEntry (without_node tree (name ∷ names))) (λ key. not (eq_by_cmp path_cmp (name ∷ names) key)) tree
            (all-joined (IsValidEntry tree) (λ e. parent_of e.0 ≢ name ∷ names) (IsValidEntry (without_node tree (name ∷ names)))
            (λ e w apart. record { path = w.path; parent = kept-without tree (name ∷ names) (parent_of e.0) directory apart w.parent; node = w.node }) tree v.entries alone);
        files = omega (arith, a, files);
        directories = omega (arith, b, directories);
        charge = omega (arith, c, charge);
      };
      files = a;
      directories = b;
      charge = c;
    }

-- a file is nobody's parent
pub file-alone : (row : TreeRow) (tree : Tree File) (names : List Name) (f : File) → IsValidTree row tree → standing_at tree names ≡ Some (file f) → AllByRecursion (λ e. parent_of e.0 ≢ names) tree
file-alone row tree names f v stands = all-mapped (IsValidEntry tree) (λ e. parent_of e.0 ≢ names)
    (λ e w same. let wrong : ◌≡◌ {A = Option (Node File)} (Some directory) (Some (file f)) = sym w.parent ∙ ap (standing_at tree) same ∙ stands in cc) tree v.entries
