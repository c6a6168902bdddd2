-- Numbers that stand in lists.
use Rattle.std.proofs.Common.{◌≡◌, ℕ, zero, suc, ◌≤◌, ◌⊎◌, inl, inr, Bool, true, false, ◌||◌, ◌==◌, List, [], ◌∷◌, ◌++◌, take, drop, replicate, refl, sym, ap, subst, ◌∙◌, arith}
use Rattle.std.proofs.lemmas.Bool.{eq-eqb}
use Rattle.std.specs.Prelude.{Contains, slice_index_or}
use Rattle.std.specs.List.{list_all, list_any}
use Rattle.file_tree.proofs.Children.{and-first, and-second}

pub none-in : (n : ℕ) → Contains [] n → ⊥
none-in n there = omega (arith, there.1)

pub first-or-rest : (x : ℕ) (xs : List ℕ) (n : ℕ) → Contains (x ∷ xs) n → (x ≡ n) ⊎ Contains xs n
first-or-rest x xs n (zero, less, is) = inl is
first-or-rest x xs n (suc k, less, is) = inr (k, omega (arith, less), is)

pub behind : (x : ℕ) (xs : List ℕ) (n : ℕ) → Contains xs n → Contains (x ∷ xs) n
behind x xs n there = (suc there.0, omega (arith, there.1), there.2)

pub in-either : (xs ys : List ℕ) (n : ℕ) → Contains (xs ++ ys) n → Contains xs n ⊎ Contains ys n
in-either [] ys n there = inr there
in-either (x ∷ xs) ys n there = elim (first-or-rest x (xs ++ ys) n there) [
  | inl e ↦ inl (0, omega arith, e)
  | inr rest ↦ elim (in-either xs ys n rest) [
    | inl a ↦ inl (behind x xs n a)
    | inr b ↦ inr b
  ]
]

pub from-take : (k : ℕ) (xs : List ℕ) (n : ℕ) → Contains (take k xs) n → Contains xs n
from-take zero xs n there = absurd (none-in n there)
from-take (suc k) [] n there = there
from-take (suc k) (x ∷ xs) n there = elim (first-or-rest x (take k xs) n there) [
  | inl e ↦ (0, omega arith, e)
  | inr rest ↦ behind x xs n (from-take k xs n rest)
]

pub from-drop : (k : ℕ) (xs : List ℕ) (n : ℕ) → Contains (drop k xs) n → Contains xs n
from-drop zero xs n there = there
from-drop (suc k) [] n there = there
from-drop (suc k) (x ∷ xs) n there = behind x xs n (from-drop k xs n there)

or-true : (a : Bool) → (a || true) ≡ true
or-true true = refl
or-true false = refl

pub any-in : (xs : List ℕ) (n : ℕ) → Contains xs n → list_any (λ other. other == n) xs ≡ true
any-in [] n there = absurd (none-in n there)
any-in (x ∷ xs) n there = elim (first-or-rest x xs n there) [
  | inl e ↦ ap (λ b. b || list_any (λ other. other == n) xs) (eq-eqb x n e)
  | inr rest ↦ ap (λ b. (x == n) || b) (any-in xs n rest) ∙ or-true (x == n)
]

pub in-left : (xs ys : List ℕ) (n : ℕ) → Contains xs n → Contains (xs ++ ys) n
in-left [] ys n there = absurd (none-in n there)
in-left (x ∷ xs) ys n there = elim (first-or-rest x xs n there) [
  | inl e ↦ (0, omega arith, e)
  | inr rest ↦ behind x (xs ++ ys) n (in-left xs ys n rest)
]

pub in-right : (xs ys : List ℕ) (n : ℕ) → Contains ys n → Contains (xs ++ ys) n
in-right [] ys n there = there
in-right (x ∷ xs) ys n there = behind x (xs ++ ys) n (in-right xs ys n there)

-- what stands at a place, but for 0
pub in-place : (xs : List ℕ) (k : ℕ) → 1 ≤ slice_index_or xs k 0 → Contains xs (slice_index_or xs k 0)
in-place [] zero some = absurd (omega (arith, some))
in-place [] (suc k) some = absurd (omega (arith, some))
in-place (x ∷ xs) zero some = (0, omega arith, refl)
in-place (x ∷ xs) (suc k) some = behind x xs (slice_index_or xs k 0) (in-place xs k some)

pub in-zeros : (count n : ℕ) → Contains (replicate count 0) n → n ≡ 0
in-zeros zero n there = absurd (none-in n there)
in-zeros (suc count) n there = elim (first-or-rest 0 (replicate count 0) n there) [
  | inl e ↦ sym e
  | inr rest ↦ in-zeros count n rest
]

-- what holds of all holds of one of them
pub all-of : (test : ℕ → Bool) (xs : List ℕ) (n : ℕ) → list_all test xs ≡ true → Contains xs n → test n ≡ true
all-of test [] n all there = absurd (none-in n there)
all-of test (x ∷ xs) n all there = elim (first-or-rest x xs n there) [
  | inl e ↦ subst (λ m. test m ≡ true) e (and-first (test x) (list_all test xs) all)
  | inr rest ↦ all-of test xs n (and-second (test x) (list_all test xs) all) rest
]
