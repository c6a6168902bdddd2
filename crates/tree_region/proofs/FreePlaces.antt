-- Sums over the first places.
use Rattle.std.proofs.Common.{◌≡◌, ℕ, zero, suc, ◌+◌, ◌∙◌, ◌<◌, ◌≤◌, List, [], ◌∷◌, ◌++◌, length, sum_by, refl, sym, ap, subst, inl, inr, get_or, arith}
use Rattle.std.specs.List.{range_with_len}
use Rattle.std.proofs.lemmas.Bool.{cases_lt, cases_eq}
use Rattle.std.proofs.lemmas.List.Sums.{sum_by-cons, sum_by_push}

-- the sum of a function over the first places
abbrev pub sum_to : (ℕ → ℕ) → ℕ → ℕ
sum_to f n = sum_by f (range_with_len 0 n)

range-suc : (a n : ℕ) → range_with_len a (suc n) ≡ range_with_len a n ++ (a + n) ∷ []
range-suc a zero = let e : a ≡ a + 0 = omega arith in ap (λ k. k ∷ []) e
range-suc a (suc n) =
    let e : (a + 1) + n ≡ a + suc n = omega arith in
    ap (λ (ks : List ℕ). a ∷ ks) (range-suc (a + 1) n ∙ ap (λ k. range_with_len (a + 1) n ++ k ∷ []) e)

pub sum-suc : (f : ℕ → ℕ) (n : ℕ) → sum_to f (suc n) ≡ sum_to f n + f n
sum-suc f n =
    let e : 0 + n ≡ n = omega arith in
    ap (sum_by f) (range-suc 0 n) ∙ sum_by_push f (range_with_len 0 n) (0 + n) ∙ ap (λ k. sum_to f n + f k) e

pub sum-more : (f : ℕ → ℕ) (n : ℕ) → sum_to f (n + 1) ≡ sum_to f n + f n
sum-more f n = let e : n + 1 ≡ suc n = omega arith in ap (sum_to f) e ∙ sum-suc f n

pub sum-same : (f g : ℕ → ℕ) → ((k : ℕ) → f k ≡ g k) → (n : ℕ) → sum_to f n ≡ sum_to g n
sum-same f g same zero = refl
sum-same f g same (suc n) =
    let before = sum-same f g same n in
    let here = same n in
    let left = sum-suc f n in
    let right = sum-suc g n in
    omega arith

pub sum-le : (f g : ℕ → ℕ) → ((k : ℕ) → f k ≤ g k) → (n : ℕ) → sum_to f n ≤ sum_to g n
sum-le f g le zero = omega arith
sum-le f g le (suc n) =
    let before = sum-le f g le n in
    let here = le n in
    let left = sum-suc f n in
    let right = sum-suc g n in
    omega arith

-- one term less makes the sum less
pub sum-less : (f g : ℕ → ℕ) → ((k : ℕ) → f k ≤ g k) → (at : ℕ) → f at + 1 ≤ g at → (n : ℕ) → at < n → sum_to f n + 1 ≤ sum_to g n
sum-less f g le at one zero less = absurd (omega (arith, less))
sum-less f g le at one (suc n) less =
    let here = le n in
    let left = sum-suc f n in
    let right = sum-suc g n in
    elim (cases_lt at n) [
      | inl before ↦ let rest = sum-less f g le at one n before in omega arith
      | inr past ↦
          let same : at ≡ n = omega arith in
          let last : f n + 1 ≤ g n = subst (λ k. f k + 1 ≤ g k) same one in
          let rest = sum-le f g le n in
          omega arith
    ]

-- of terms that are 0 or 1, and 0 from a bound on, there are no more than the bound
module _ (f : ℕ → ℕ) (bound : ℕ) (small : (k : ℕ) → f k ≤ 1) (none : (k : ℕ) → bound ≤ k → f k ≡ 0) where
  within : (n : ℕ) → (sum_to f n ≤ n) × (sum_to f n ≤ bound)
  within zero = (omega arith, omega arith)
  within (suc n) =
      let before = within n in
      let first = before.0 in
      let second = before.1 in
      let here = small n in
      let step = sum-suc f n in (
        omega arith,
        elim (cases_lt n bound) [ inl less ↦ omega arith | inr past ↦ let zero_here = none n past in omega arith ],
      )

  pub sum-bounded : (n : ℕ) → sum_to f n ≤ bound
  sum-bounded n = (within n).1

  -- and less where one below the bound is 0
  within-gap : (gap : ℕ) → gap < bound → f gap ≡ 0 → (n : ℕ) → (sum_to f n ≤ n) × (gap < n → sum_to f n + 1 ≤ n) × (sum_to f n + 1 ≤ bound)
  within-gap gap less free zero = (omega arith, λ wrong. absurd (omega (arith, wrong)), omega arith)
  within-gap gap less free (suc n) =
      let before = within-gap gap less free n in
      let first = before.0 in
      let third = before.2 in
      let here = small n in
      let step = sum-suc f n in
      elim (cases_lt gap n) [
        | inl over ↦
            let second = before.1 over in (
              omega arith,
              λ past. omega arith,
              elim (cases_lt n bound) [ inl below ↦ omega arith | inr past ↦ let zero_here = none n past in omega arith ],
            )
        | inr under ↦
            (elim (cases_eq gap n) [
              | inl same ↦
                  let zero_here : f n ≡ 0 = ap f (sym same) ∙ free in (omega arith, λ past. omega arith, omega arith)
              | inr other ↦ (omega arith, λ past. absurd (omega (arith, past, under, other)), omega arith)
            ])
      ]

  pub sum-bounded_less : (gap : ℕ) → gap < bound → f gap ≡ 0 → (n : ℕ) → sum_to f n + 1 ≤ bound
  sum-bounded_less gap less free n = (within-gap gap less free n).2

shifted : (f : ℕ → ℕ) (a n : ℕ) → sum_by f (range_with_len (a + 1) n) ≡ sum_by (λ k. f (suc k)) (range_with_len a n)
shifted f a zero = refl
shifted f a (suc n) =
    let e : a + 1 ≡ suc a = omega arith in
    sum_by-cons f (a + 1) (range_with_len (a + 1 + 1) n)
    ∙ ap (λ k. k + sum_by f (range_with_len (a + 1 + 1) n)) (ap f e)
    ∙ ap (λ k. f (suc a) + k) (shifted f (a + 1) n)
    ∙ sym (sum_by-cons (λ k. f (suc k)) a (range_with_len (a + 1) n))

-- a sum over a list is one over its places
pub sum-places : {X : Type 0} (f : X → ℕ) (xs : List X) (d : X) → sum_by f xs ≡ sum_to (λ k. f (get_or xs k d)) (length xs)
sum-places {X} f [] d = refl
sum-places {X} f (x ∷ xs) d =
    sum_by-cons f x xs
    ∙ ap (λ n. f x + n) (sum-places f xs d ∙ sym (shifted (λ k. f (get_or (x ∷ xs) k d)) 0 (length xs)))
    ∙ sym (sum_by-cons (λ k. f (get_or (x ∷ xs) k d)) 0 (range_with_len (0 + 1) (length xs)))
