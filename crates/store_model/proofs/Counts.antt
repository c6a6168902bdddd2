-- How many files and directories a store's tree has, and whether one more has an entry.
use Rattle.std.proofs.Common.{◌≡◌, ℕ, suc, ◌+◌, ◌≤◌, ◌<◌, Bool, true, false, cond, List, [], ◌∷◌, length, refl, sym, ap, ◌∙◌, Option, Some, None, T, arith}
use Rattle.std.proofs.lemmas.Bool.Decides.{nat_tests}
use Rattle.std.specs.Prelude.{option_map, unwrap_or, sum_by, count_by, filter, is_some, nat_le}
use Rattle.std.specs.FinMap.Entries.{find, put, is_sorted}
use Rattle.std.specs.Map.{values_of}
use Rattle.apex_model.specs.Files.{File}
use Rattle.apex_model.specs.Handles.{free_from}
use Rattle.apex_model.specs.Trees.{Name, Node, directory, file, Tree, path_cmp, is_file, is_directory, file_count, directory_count}
use Rattle.apex_model.proofs.Maps.{sum_by-put}
use Rattle.apex_model.proofs.Trees.{path_cmp_total}
use Rattle.file_tree.specs.Entries.{TreeValue, slot, in_file, in_directory, put_all, IsConsistent}
use Rattle.file_tree.proofs.Paths.{missed_in, sorted_all, file_number, directory_number, not_both}
use Rattle.store_model.specs.Stores.{StoreValue}
use Rattle.store_model.specs.Standing.{IsTree}
use Rattle.store_model.proofs.Entries.{is-true}
use Rattle.store_model.proofs.Names.{file_count-same, directory_count-same}

-- how many of a list's places are used
abbrev used : List (Option (List Name)) → ℕ
used paths = length (filter is_some paths)

-- the paths are apart, and from a tree's
record Apart (listed : List (Option (List Name))) (rest : Tree ℕ) : Type 0 where
  places : (i j : ℕ) (q : List Name) → slot listed i ≡ Some q → slot listed j ≡ Some q → i ≡ j
  tree : (i : ℕ) (q : List Name) → slot listed i ≡ Some q → find path_cmp q rest ≡ None

behind : (x : Option (List Name)) (listed : List (Option (List Name))) (rest : Tree ℕ) → Apart (x ∷ listed) rest → Apart listed rest
behind x listed rest a = record {
  places = λ i j q h k. let e : suc i ≡ suc j = a.places (suc i) (suc j) q h k in omega arith;
  tree = λ i. a.tree (suc i);
}

-- what one new path adds
count-put : (test : Node ℕ → Bool) (p : List Name) (n : Node ℕ) (tree : Tree ℕ) → T (is_sorted path_cmp tree) → find path_cmp p tree ≡ None
    → count_by test (values_of (put path_cmp p n tree)) ≡ count_by test (values_of tree) + cond (test n) 1 0
count-put test p n tree sorted none =
    let f : Node ℕ → ℕ = λ m. cond (test m) 1 0 in
    let sum = ap (λ (found : Option (Node ℕ)). sum_by f (values_of (put path_cmp p n tree)) + unwrap_or (option_map f found) 0) (sym none)
    ∙ sum_by-put path_cmp path_cmp_total f p n tree (is-true (is_sorted path_cmp tree) sorted) in
    omega (arith, sum)

one-more : (weighs : Bool) (a n : ℕ) → (a + cond weighs n 0) + cond weighs 1 0 ≡ a + cond weighs (suc n) 0
one-more true a n = omega arith
one-more false a n = omega arith

none-more : (weighs : Bool) (a : ℕ) → a ≡ a + cond weighs 0 0
none-more true a = omega arith
none-more false a = omega arith

count-all : (test : Node ℕ → Bool) (node : ℕ → Node ℕ) (weighs : Bool) → ((k : ℕ) → test (node k) ≡ weighs) → (k : ℕ) (listed : List (Option (List Name))) (rest : Tree ℕ) → T (is_sorted path_cmp rest) → Apart listed rest
    → count_by test (values_of (put_all node k listed rest)) ≡ count_by test (values_of rest) + cond weighs (used listed) 0
count-all test node weighs w k [] rest sorted a = none-more weighs (count_by test (values_of rest))
count-all test node weighs w k (None ∷ listed) rest sorted a = count-all test node weighs w (k + 1) listed rest sorted (behind None listed rest a)
count-all test node weighs w k (Some p ∷ listed) rest sorted a =
    let none : find path_cmp p (put_all node (k + 1) listed rest) ≡ None
    = missed_in p node (k + 1) listed rest (λ i s. let e : 0 ≡ suc i = a.places 0 (suc i) p refl s in omega arith) ∙ a.tree 0 p refl in
    let all = count-all test node weighs w (k + 1) listed rest sorted (behind (Some p) listed rest a) in
    count-put test p (node k) (put_all node (k + 1) listed rest) (sorted_all node (k + 1) listed rest sorted) none
    ∙ (λ i. all i + cond (w k i) 1 0) ∙ one-more weighs (count_by test (values_of rest)) (used listed)

module _ (w : TreeValue) (c : IsConsistent w) where
  apart-directories : Apart w.directories []
  apart-directories = record { places = λ i j q h k. directory_number i j (c.distinct (in_directory i) (in_directory j) q h k); tree = λ i q h. refl }

  apart-files : Apart w.files (put_all (λ _. directory) 0 w.directories [])
  apart-files = record {
    places = λ i j q h k. file_number i j (c.distinct (in_file i) (in_file j) q h k);
    tree = λ i q h. missed_in q (λ _. directory) 0 w.directories [] (λ j s. not_both i j (c.distinct (in_file i) (in_directory j) q h s));
  }

  -- the files of the map are the files' entries in use
  pub count-files : file_count w.nodes ≡ length (filter is_some w.files)
  count-files =
      let all = count-all is_file file true (λ _. refl) 0 w.files (put_all (λ _. directory) 0 w.directories []) (sorted_all (λ _. directory) 0 w.directories [] tt) apart-files in
      let none = count-all is_file (λ _. directory) false (λ _. refl) 0 w.directories [] tt apart-directories in
      ap file_count c.nodes_are ∙ (omega (arith, none, all))

  pub count-directories : directory_count w.nodes ≡ length (filter is_some w.directories)
  count-directories =
      let all = count-all is_directory file false (λ _. refl) 0 w.files (put_all (λ _. directory) 0 w.directories []) (sorted_all (λ _. directory) 0 w.directories [] tt) apart-files in
      let none = count-all is_directory (λ _. directory) true (λ _. refl) 0 w.directories [] tt apart-directories in
      ap directory_count c.nodes_are ∙ (omega (arith, none, all))

-- ---- unused entries

used-most : {A : Type 0} (xs : List (Option A)) → length (filter is_some xs) ≤ length xs
used-most [] = omega arith
used-most (None ∷ xs) = let r = used-most xs in omega (arith, r)
used-most (Some x ∷ xs) = let r = used-most xs in omega (arith, r)

all-used : {A : Type 0} (xs : List (Option A)) (n : ℕ) → free_from n xs ≡ None → length (filter is_some xs) ≡ length xs
all-used [] n h = refl
all-used (None ∷ xs) n h = absurd (let e : ◌≡◌ {A = Option ℕ} (Some n) None = h in cc)
all-used (Some x ∷ xs) n h = ap suc (all-used xs (n + 1) h)

one-unused : {A : Type 0} (xs : List (Option A)) (n k : ℕ) → free_from n xs ≡ Some k → length (filter is_some xs) < length xs
one-unused [] n k h = absurd (let e : ◌≡◌ {A = Option ℕ} None (Some k) = h in cc)
one-unused (None ∷ xs) n k h = let r = used-most xs in omega (arith, r)
one-unused (Some x ∷ xs) n k h = let r = one-unused xs (n + 1) k h in omega (arith, r)

le-same : (a b : ℕ) → b ≡ a → nat_le a b ≡ true
le-same a b h = grind (arith, nat_tests)

le-less : (a b : ℕ) → b < a → nat_le a b ≡ false
le-less a b h = grind (arith, nat_tests)

module _ (v : StoreValue) (tree : Tree File) (t : IsTree v tree) where
  files-used : file_count tree ≡ length (filter is_some v.tree.files)
  files-used = sym (file_count-same v tree t) ∙ count-files v.tree t.sound.names

  directories-used : directory_count tree ≡ length (filter is_some v.tree.directories)
  directories-used = sym (directory_count-same v tree t) ∙ count-directories v.tree t.sound.names

  -- without an unused entry the tree has as many files as the table allows
  pub full-count : free_from 0 v.tree.files ≡ None → nat_le (length v.tree.files) (file_count tree) ≡ true
  full-count h = le-same (length v.tree.files) (file_count tree) (files-used ∙ all-used v.tree.files 0 h)

  pub free-count : (f : ℕ) → free_from 0 v.tree.files ≡ Some f → nat_le (length v.tree.files) (file_count tree) ≡ false
  free-count f h = let few = one-unused v.tree.files 0 f h in let all = files-used in le-less (length v.tree.files) (file_count tree) (omega (arith, few, all))

  pub full-directories : free_from 1 v.tree.directories ≡ None → nat_le (length v.tree.directories) (directory_count tree) ≡ true
  full-directories h = le-same (length v.tree.directories) (directory_count tree) (directories-used ∙ all-used v.tree.directories 1 h)

  pub free-directories : (d : ℕ) → free_from 1 v.tree.directories ≡ Some d → nat_le (length v.tree.directories) (directory_count tree) ≡ false
  free-directories d h = let few = one-unused v.tree.directories 1 d h in let all = directories-used in le-less (length v.tree.directories) (directory_count tree) (omega (arith, few, all))
