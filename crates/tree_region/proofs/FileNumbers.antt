-- The numbers of files' blocks, one file behind the other.
use Rattle.std.proofs.Common.{◌≡◌, ℕ, suc, ◌+◌, ◌<◌, ◌≤◌, List, [], ◌∷◌, ◌++◌, length, take, drop, refl, sym, ap, ◌∙◌, get_or, arith, append_assoc, length-append}
use Rattle.std.proofs.lemmas.List.{append-nil, length-take-le}
use Rattle.file_tree.specs.Entries.{TreeValue}
use Rattle.tree_region.proofs.Lists.{drop-here, drop-all}
use Rattle.tree_region.specs.GoodNumbers.{size_blocks, numbers_from, numbers_of_files}
use Rattle.tree_region.specs.Words.{words}

-- the numbers of the first k files are these
pub record IsListed (v : TreeValue) (lists : List (List ℕ)) (k count : ℕ) (numbers : List ℕ) : Type 0 where
  pub left : count + length (numbers_from v k (drop k lists)) ≡ length (numbers_of_files v lists)
  pub is : numbers ++ numbers_from v k (drop k lists) ≡ numbers_of_files v lists

pub listed-start : (v : TreeValue) (lists : List (List ℕ)) (bytes : List ℕ) → IsListed v lists 0 0 (words 0 bytes)
unfolding words
listed-start v lists bytes = record { left = omega arith; is = refl }

module _ (v : TreeValue) (lists : List (List ℕ)) (k count : ℕ) (numbers : List ℕ) (so_far : IsListed v lists k count numbers) where
  module _ (list : List ℕ) (less : k < length lists) (here : list ≡ get_or lists k list) (fits : size_blocks v k ≤ length list) where
    rest-is : drop k lists ≡ list ∷ drop (suc k) lists
    rest-is = drop-here lists k list less ∙ ap (λ (l : List ℕ). l ∷ drop (suc k) lists) (sym here)

    next-is : suc k ≡ k + 1
    next-is = omega arith

    abbrev behind : List ℕ
    behind = numbers_from v (k + 1) (drop (k + 1) lists)

    numbers-are : numbers_from v k (drop k lists) ≡ take (size_blocks v k) list ++ behind
    unfolding numbers_from
    numbers-are = ap (numbers_from v k) rest-is ∙ ap (λ n. take (size_blocks v k) list ++ numbers_from v (k + 1) (drop n lists)) next-is

    many-are : length (numbers_from v k (drop k lists)) ≡ size_blocks v k + length behind
    many-are = ap length numbers-are ∙ length-append (take (size_blocks v k) list) behind ∙ ap (λ n. n + length behind) (length-take-le (size_blocks v k) list fits)

    pub listed-room : count + size_blocks v k ≤ length (numbers_of_files v lists)
    listed-room = omega (arith, so_far.left, many-are)

    pub listed-next : IsListed v lists (k + 1) (count + size_blocks v k) (numbers ++ take (size_blocks v k) list)
    listed-next = record {
      left = omega (arith, so_far.left, many-are);
      is = append_assoc numbers (take (size_blocks v k) list) behind ∙ ap (λ ns. numbers ++ ns) (sym numbers-are) ∙ so_far.is;
    }

  module _ (past : length lists ≤ k) where
    nothing-left : numbers_from v k (drop k lists) ≡ []
    unfolding numbers_from
    nothing-left = ap (numbers_from v k) (drop-all lists k past)

    pub listed-end : numbers ≡ numbers_of_files v lists
    listed-end = sym (append-nil numbers) ∙ ap (λ ns. numbers ++ ns) (sym nothing-left) ∙ so_far.is

    pub listed-count : count ≡ length (numbers_of_files v lists)
    listed-count = let none : length (numbers_from v k (drop k lists)) ≡ 0 = ap length nothing-left in omega (arith, none, so_far.left)
