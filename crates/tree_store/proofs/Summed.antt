-- What the nodes of a tree weigh together: the files at their entries, and the directories nothing.
use Rattle.std.proofs.Common.{◌≡◌, ℕ, zero, suc, ◌+◌, T, List, [], ◌∷◌, length, refl, sym, ap, ◌∙◌, Option, Some, None, arith}
use Rattle.std.proofs.lemmas.List.Sums.{sum_by-cons}
use Rattle.std.specs.Prelude.{option_map, unwrap_or, sum_by, slice_index_or}
use Rattle.std.specs.FinMap.Entries.{find, put, is_sorted}
use Rattle.std.specs.Map.{values_of}
use Rattle.apex_model.specs.Trees.{Name, Node, directory, file, Tree, path_cmp}
use Rattle.apex_model.proofs.Maps.{sum_by-put}
use Rattle.apex_model.proofs.Trees.{path_cmp_total}
use Rattle.file_tree.specs.Entries.{TreeValue, slot, in_file, in_directory, put_all, IsConsistent}
use Rattle.file_tree.proofs.Paths.{missed_in, sorted_all, file_number, directory_number, not_both}
use Rattle.tree_store.proofs.Over.{is-true}

-- ---- one list of paths

-- the weights of the places in use, where the first has this number
abbrev pub weights_from : (ℕ → ℕ) → ℕ → List (Option (List Name)) → ℕ
weights_from w k [] = 0
weights_from w k (None ∷ listed) = weights_from w (k + 1) listed
weights_from w k (Some path ∷ listed) = w k + weights_from w (k + 1) listed

pub weightless : (k : ℕ) (listed : List (Option (List Name))) → weights_from (λ j. 0) k listed ≡ 0
weightless k [] = refl
weightless k (None ∷ listed) = weightless (k + 1) listed
weightless k (Some path ∷ listed) = let rest = weightless (k + 1) listed in omega (arith, rest)

-- they are the sum of a list of weights that has 0 at places that aren't in use
weights-sum : (w : ℕ → ℕ) (k : ℕ) (listed : List (Option (List Name))) (weights : List ℕ) → length weights ≡ length listed → ((i : ℕ) → w (k + i) ≡ slice_index_or weights i 0)
    → ((i : ℕ) → slot listed i ≡ None → slice_index_or weights i 0 ≡ 0) → weights_from w k listed ≡ sum_by (λ (n : ℕ). n) weights
weights-sum w k [] [] long is none = refl
weights-sum w k [] (n ∷ weights) long is none = absurd (omega (arith, long))
weights-sum w k (path ∷ listed) [] long is none = absurd (omega (arith, long))
weights-sum w k (None ∷ listed) (n ∷ weights) long is none =
    let rest = weights-sum w (k + 1) listed weights (omega (arith, long)) (λ i. let next : k + 1 + i ≡ k + suc i = omega arith in ap w next ∙ is (suc i)) (λ i. none (suc i)) in
    let first : n ≡ 0 = none 0 refl in
    let sum = sum_by-cons (λ (n : ℕ). n) n weights in
    omega (arith, rest, first, sum)
weights-sum w k (Some path ∷ listed) (n ∷ weights) long is none =
    let rest = weights-sum w (k + 1) listed weights (omega (arith, long)) (λ i. let next : k + 1 + i ≡ k + suc i = omega arith in ap w next ∙ is (suc i)) (λ i. none (suc i)) in
    let here : k ≡ k + 0 = omega arith in
    let first : w k ≡ n = ap w here ∙ is 0 in
    let sum = sum_by-cons (λ (n : ℕ). n) n weights in
    omega (arith, rest, first, sum)

-- ---- the map of paths

-- the paths are apart, and from a tree's
record Apart (listed : List (Option (List Name))) (rest : Tree ℕ) : Type 0 where
  places : (i j : ℕ) (q : List Name) → slot listed i ≡ Some q → slot listed j ≡ Some q → i ≡ j
  tree : (i : ℕ) (q : List Name) → slot listed i ≡ Some q → find path_cmp q rest ≡ None

behind : (x : Option (List Name)) (listed : List (Option (List Name))) (rest : Tree ℕ) → Apart (x ∷ listed) rest → Apart listed rest
behind x listed rest a = record {
  places = λ i j q h k. let e : suc i ≡ suc j = a.places (suc i) (suc j) q h k in omega arith;
  tree = λ i. a.tree (suc i);
}

-- what one new path adds
sum-put : (f : Node ℕ → ℕ) (p : List Name) (n : Node ℕ) (tree : Tree ℕ) → T (is_sorted path_cmp tree) → find path_cmp p tree ≡ None
    → sum_by f (values_of (put path_cmp p n tree)) ≡ sum_by f (values_of tree) + f n
sum-put f p n tree sorted none =
    let sum = ap (λ (found : Option (Node ℕ)). sum_by f (values_of (put path_cmp p n tree)) + unwrap_or (option_map f found) 0) (sym none)
    ∙ sum_by-put path_cmp path_cmp_total f p n tree (is-true (is_sorted path_cmp tree) sorted) in
    omega (arith, sum)

sum-all : (f : Node ℕ → ℕ) (node : ℕ → Node ℕ) (k : ℕ) (listed : List (Option (List Name))) (rest : Tree ℕ) → T (is_sorted path_cmp rest) → Apart listed rest
    → sum_by f (values_of (put_all node k listed rest)) ≡ sum_by f (values_of rest) + weights_from (λ j. f (node j)) k listed
sum-all f node k [] rest sorted a = omega arith
sum-all f node k (None ∷ listed) rest sorted a = sum-all f node (k + 1) listed rest sorted (behind None listed rest a)
sum-all f node k (Some p ∷ listed) rest sorted a =
    let none : find path_cmp p (put_all node (k + 1) listed rest) ≡ None
    = missed_in p node (k + 1) listed rest (λ i s. let e : 0 ≡ suc i = a.places 0 (suc i) p refl s in omega arith) ∙ a.tree 0 p refl in
    let all = sum-all f node (k + 1) listed rest sorted (behind (Some p) listed rest a) in
    let more = sum-put f p (node k) (put_all node (k + 1) listed rest) (sorted_all node (k + 1) listed rest sorted) none in
    omega (arith, all, more)

module _ (w : TreeValue) (c : IsConsistent w) where
  apart-directories : Apart w.directories []
  apart-directories = record { places = λ i j q h k. directory_number i j (c.distinct (in_directory i) (in_directory j) q h k); tree = λ i q h. refl }

  apart-files : Apart w.files (put_all (λ _. directory) 0 w.directories [])
  apart-files = record {
    places = λ i j q h k. file_number i j (c.distinct (in_file i) (in_file j) q h k);
    tree = λ i q h. missed_in q (λ _. directory) 0 w.directories [] (λ j s. not_both i j (c.distinct (in_file i) (in_directory j) q h s));
  }

  -- where directories weigh nothing, the nodes weigh what the files' entries in use do
  pub nodes-sum : (f : Node ℕ → ℕ) → f directory ≡ 0 → sum_by f (values_of w.nodes) ≡ weights_from (λ j. f (file j)) 0 w.files
  nodes-sum f nothing =
      let files = sum-all f file 0 w.files (put_all (λ _. directory) 0 w.directories []) (sorted_all (λ _. directory) 0 w.directories [] tt) apart-files in
      let directories = sum-all f (λ _. directory) 0 w.directories [] tt apart-directories in
      let light = ap (λ (n : ℕ). weights_from (λ j. n) 0 w.directories) nothing ∙ weightless 0 w.directories in
      let all = ap (λ (nodes : Tree ℕ). sum_by f (values_of nodes)) c.nodes_are in
      omega (arith, all, files, directories, light)

  -- and what a list of weights has together that has 0 at the others
  pub nodes-weigh : (f : Node ℕ → ℕ) (weights : List ℕ) → f directory ≡ 0 → length weights ≡ length w.files → ((i : ℕ) → f (file i) ≡ slice_index_or weights i 0)
      → ((i : ℕ) → slot w.files i ≡ None → slice_index_or weights i 0 ≡ 0) → sum_by f (values_of w.nodes) ≡ sum_by (λ (n : ℕ). n) weights
  nodes-weigh f weights nothing long is none =
      nodes-sum f nothing ∙ weights-sum (λ j. f (file j)) 0 w.files weights long (λ i. let first : 0 + i ≡ i = omega arith in ap (λ (j : ℕ). f (file j)) first ∙ is i) none
