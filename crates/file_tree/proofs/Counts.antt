-- How many files a tree has.
use Rattle.std.proofs.Common.{◌≡◌, ℕ, suc, ◌+◌, Bool, true, false, cond, List, [], ◌∷◌, ◌++◌, length, refl, sym, ap, ◌∙◌, Option, Some, None, IsTrue, IsSome, T, arith}
use Rattle.std.specs.Prelude.{option_map, unwrap_or, sum_by, count_by, filter, is_some}
use Rattle.std.proofs.lemmas.List.Sums.{length-filter}
use Rattle.std.specs.FinMap.Entries.{find, put, is_sorted}
use Rattle.std.specs.Map.{values_of}
use Rattle.apex_model.specs.Trees.{Name, Node, directory, file, Tree, path_cmp, is_file, file_count}
use Rattle.apex_model.proofs.Maps.{sum_by-put}
use Rattle.apex_model.proofs.Trees.{path_cmp_total}
use Rattle.file_tree.specs.declared.entries.Entry.{Entry}
use Rattle.file_tree.specs.Entries.{TreeValue, slot, in_file, in_directory, put_all, nodes_of, AreDistinct}
use Rattle.file_tree.specs.Table.{way, paths, value_of, HaveParents, AreSound}
use Rattle.file_tree.proofs.Paths.{missed_in, sorted_all, file_number, directory_number, not_both}

weight : Node ℕ → ℕ
weight n = cond (is_file n) 1 0

is-true : (b : Bool) → T b → IsTrue b
is-true true h = refl
is-true false h = absurd h

-- what one new path adds
count-put : (p : List Name) (n : Node ℕ) (tree : Tree ℕ) → T (is_sorted path_cmp tree) → find path_cmp p tree ≡ None → file_count (put path_cmp p n tree) ≡ file_count tree + cond (is_file n) 1 0
count-put p n tree sorted none =
    let f : Node ℕ → ℕ = λ m. cond (is_file m) 1 0 in
    let sum = ap (λ (found : Option (Node ℕ)). sum_by f (values_of (put path_cmp p n tree)) + unwrap_or (option_map f found) 0) (sym none)
    ∙ sum_by-put path_cmp path_cmp_total f p n tree (is-true _ sorted) in
    omega (arith, sum)

-- the paths are apart, and from a tree's
pub record Apart (listed : List (Option (List Name))) (rest : Tree ℕ) : Type 0 where
  pub places : (i j : ℕ) (q : List Name) → slot listed i ≡ Some q → slot listed j ≡ Some q → i ≡ j
  pub tree : (i : ℕ) (q : List Name) → slot listed i ≡ Some q → find path_cmp q rest ≡ None

behind : (x : Option (List Name)) (listed : List (Option (List Name))) (rest : Tree ℕ) → Apart (x ∷ listed) rest → Apart listed rest
behind x listed rest a = record {
  places = λ i j q h k. let e : suc i ≡ suc j = a.places (suc i) (suc j) q h k in omega arith;
  tree = λ i. a.tree (suc i);
}

count-all : (node : ℕ → Node ℕ) (weighs : Bool) → ((k : ℕ) → is_file (node k) ≡ weighs) → (k : ℕ) (listed : List (Option (List Name))) (rest : Tree ℕ) → T (is_sorted path_cmp rest) → Apart listed rest
    → file_count (put_all node k listed rest) ≡ file_count rest + cond weighs (length (filter is_some listed)) 0
count-all node weighs w k [] rest sorted a = (elim weighs as (λ b. file_count rest ≡ file_count rest + cond b 0 0) [ true ↦ omega arith | false ↦ omega arith ])
count-all node weighs w k (None ∷ listed) rest sorted a = count-all node weighs w (k + 1) listed rest sorted (behind None listed rest a)
count-all node weighs w k (Some p ∷ listed) rest sorted a =
    let none : find path_cmp p (put_all node (k + 1) listed rest) ≡ None
    = missed_in p node (k + 1) listed rest (λ i s. let e : 0 ≡ suc i = a.places 0 (suc i) p refl s in omega arith) ∙ a.tree 0 p refl in
    count-put p (node k) (put_all node (k + 1) listed rest) (sorted_all node (k + 1) listed rest sorted) none
    ∙ (λ i. count-all node weighs w (k + 1) listed rest sorted (behind (Some p) listed rest a) i + cond (w k i) 1 0)
    ∙ (elim weighs as (λ b. (file_count rest + cond b (length (filter is_some listed)) 0) + cond b 1 0 ≡ file_count rest + cond b (suc (length (filter is_some listed))) 0) [ true ↦ omega arith | false ↦ omega arith ])

-- the files of the map are the entries with a path
count-nodes : (files directories : List (Option (List Name))) → AreDistinct files directories → file_count (nodes_of files directories) ≡ length (filter is_some files)
count-nodes files directories distinct =
    let below = sorted_all (λ _. directory) 0 directories [] tt in
    let apart_directories : Apart directories [] = record {
      places = λ i j q h k. directory_number i j (distinct (in_directory i) (in_directory j) q h k);
      tree = λ i q h. refl;
    } in
    let apart_files : Apart files (put_all (λ _. directory) 0 directories []) = record {
      places = λ i j q h k. file_number i j (distinct (in_file i) (in_file j) q h k);
      tree = λ i q h. missed_in q (λ _. directory) 0 directories [] (λ j s. not_both i j (distinct (in_file i) (in_directory j) q h s));
    } in
    let none = count-all (λ _. directory) false (λ _. refl) 0 directories [] tt apart_directories in
    let all = count-all file true (λ _. refl) 0 files (put_all (λ _. directory) 0 directories []) below apart_files in
    omega (arith, none, all)

count-paths : (directories entries : List (Option Entry)) → HaveParents directories entries → length (filter is_some (paths directories entries)) ≡ length (filter is_some entries)
count-paths directories [] h = refl
count-paths directories (None ∷ entries) h = count-paths directories entries (λ i. h (suc i))
count-paths directories (Some entry ∷ entries) h =
    (elim (way directories 5 entry.parent.0) as (λ o. IsSome o → length (filter is_some (option_map (λ names. names ++ entry.name ∷ []) o ∷ paths directories entries)) ≡ length (filter is_some (Some entry ∷ entries))) [
      | None ↦ λ s. absurd (let e : false ≡ true = s in cc)
      | Some names ↦ λ s. ap suc (count-paths directories entries (λ i. h (suc i)))
    ]) (h 0 entry refl)

pub count-files : (files directories : List (Option Entry)) (v : TreeValue) → value_of files directories ≡ v → AreSound files directories → count_by is_some files ≡ file_count v.nodes
unfolding value_of
count-files files directories v is sound =
    sym (length-filter is_some files) ∙ sym (count-paths directories files sound.file_parents) ∙ sym (count-nodes (paths directories files) (paths directories directories) sound.distinct) ∙ ap (λ (v : TreeValue). file_count v.nodes) is
