-- A present place that gets a block of its own.
use Rattle.std.proofs.Common.{◌≡◌, ℕ, ◌∙◌, ◌<◌, ◌≤◌, ◌⊎◌, inl, inr, Bool, true, false, List, [], length, sym, ap, subst, get_or, set, arith}
use Rattle.std.proofs.lemmas.Bool.{cases_eq, false≢true}
use Rattle.std.proofs.lemmas.Bool.Decides.{nat_tests}
use Rattle.std.proofs.lemmas.List.{get_or-set_same, get_or-set_other, set-get_or}
use Rattle.block_quota.specs.Blocks.{is_used}
use Rattle.tree_region.specs.OwnedRows.{number_at, is_new, is_fresh, with_number, AreOthers, AreNamedUsed, AreApart}
use Rattle.tree_region.proofs.Marked.{new-where}

-- the same place, or another one
same-place : (g j f k : ℕ) → ((g ≡ f) × (j ≡ k)) ⊎ ((g ≡ f) × (j ≡ k) → ⊥)
same-place g j f k = elim (cases_eq g f) [
  | inr other ↦ inr (λ both. other both.0)
  | inl file ↦ (elim (cases_eq j k) [ inl place ↦ inl (file, place) | inr other ↦ inr (λ both. other both.1) ])
]

-- what a place has already may be written there
pub own-number : (rows : List (List ℕ)) (f k : ℕ) → with_number rows f k (number_at rows f k) ≡ rows
own-number rows f k = ap (λ (row : List ℕ). set rows f row) (set-get_or (get_or rows f []) k 0) ∙ set-get_or rows f []

module _ (rows : List (List ℕ)) (f k n : ℕ) (file : f < length rows) (place : k < length (get_or rows f [])) where
  row-there : get_or (with_number rows f k n) f [] ≡ set (get_or rows f []) k n
  row-there = get_or-set_same rows f (set (get_or rows f []) k n) [] file

  pub at-place : number_at (with_number rows f k n) f k ≡ n
  at-place = ap (λ (row : List ℕ). get_or row k 0) row-there ∙ get_or-set_same (get_or rows f []) k n 0 place

  pub at-other : (g j : ℕ) → ((g ≡ f) × (j ≡ k) → ⊥) → number_at (with_number rows f k n) g j ≡ number_at rows g j
  at-other g j other = elim (cases_eq g f) [
    | inl same ↦
        ap (λ h. number_at (with_number rows f k n) h j) same ∙ ap (λ (row : List ℕ). get_or row j 0) row-there
        ∙ get_or-set_other (get_or rows f []) k j n 0 (λ e. other (same, e)) ∙ ap (λ h. number_at rows h j) (sym same)
    | inr apart ↦ ap (λ (row : List ℕ). get_or row j 0) (get_or-set_other rows f g (set (get_or rows f []) k n) [] apart)
  ]

  -- what holds of the number and of all others before holds of all others then
  pub all-with : (P : ℕ → Type 0) → P n → ((g j : ℕ) → P (number_at rows g j)) → (g j : ℕ) → P (number_at (with_number rows f k n) g j)
  all-with P here all g j = elim (same-place g j f k) [
    | inl same ↦ subst P (sym (ap (λ h. number_at (with_number rows f k n) h j) same.0 ∙ ap (λ i. number_at (with_number rows f k n) f i) same.1 ∙ at-place)) here
    | inr other ↦ subst P (sym (at-other g j other)) (all g j)
  ]

none-new : (n : ℕ) → is_new n n ≡ false
none-new n = grind (arith, nat_tests)

-- where the present numbers are the durable ones, no place is fresh
pub same-apart : (rows : List (List ℕ)) → AreApart rows rows
same-apart rows = record {
  not_durable = λ f k fresh. absurd (false≢true (sym (none-new (number_at rows f k)) ∙ fresh));
  once = λ f k g j fresh same. absurd (false≢true (sym (none-new (number_at rows f k)) ∙ fresh));
}

-- ---- a number that was nowhere

module _ (durable present : List (List ℕ)) (f k n : ℕ) (file : f < length present) (place : k < length (get_or present f [])) (some : 1 ≤ n) (not_durable : AreOthers n durable)
    (not_present : AreOthers n present) where
  abbrev after : List (List ℕ)
  after = with_number present f k n

  pub placed-once : (g j : ℕ) → number_at after g j ≡ n → (g ≡ f) × (j ≡ k)
  placed-once g j is = elim (same-place g j f k) [
    | inl same ↦ same
    | inr other ↦ absurd (not_present g j (sym (at-other present f k n file place g j other) ∙ is))
  ]

  pub placed-fresh : is_fresh durable after f k ≡ true
  placed-fresh = ap (is_new (number_at durable f k)) (at-place present f k n file place) ∙ new-where (number_at durable f k) n some (λ e. not_durable f k (sym e))

  was-fresh : (g j : ℕ) → ((g ≡ f) × (j ≡ k) → ⊥) → is_fresh durable after g j ≡ true → is_fresh durable present g j ≡ true
  was-fresh g j other fresh = ap (is_new (number_at durable g j)) (sym (at-other present f k n file place g j other)) ∙ fresh

  here : (g j : ℕ) → (g ≡ f) × (j ≡ k) → number_at after g j ≡ n
  here g j same = ap (λ h. number_at after h j) same.0 ∙ ap (λ i. number_at after f i) same.1 ∙ at-place present f k n file place

  pub placed-apart : AreApart durable present → AreApart durable after
  placed-apart apart = record {
    not_durable = λ g j fresh.
        elim (same-place g j f k) [
          | inl same ↦ subst (λ m. AreOthers m durable) (sym (here g j same)) not_durable
          | inr other ↦ subst (λ m. AreOthers m durable) (sym (at-other present f k n file place g j other)) (apart.not_durable g j (was-fresh g j other fresh))
        ];
    once = λ g j h i fresh is.
        elim (same-place g j f k) [
          | inl same ↦ let found = placed-once h i (is ∙ here g j same) in (found.0 ∙ sym same.0, found.1 ∙ sym same.1)
          | inr other ↦
              let was = at-other present f k n file place g j other in
              (elim (same-place h i f k) [
                | inl same ↦ absurd (not_present g j (sym was ∙ sym is ∙ here h i same))
                | inr too ↦ apart.once g j h i (was-fresh g j other fresh) (sym (at-other present f k n file place h i too) ∙ is ∙ was)
              ])
        ];
  }

  pub placed-used : (used : List Bool) → n ≤ length used → is_used used n ≡ true → AreNamedUsed used present → AreNamedUsed used after
  placed-used used last is all = record {
    within = all-with present f k n file place (λ m. m ≤ length used) last all.within;
    named = all-with present f k n file place (λ m. 1 ≤ m → is_used used m ≡ true) (λ one. is) all.named;
  }

-- ---- a number of a fresh place

fresh-some : (known n : ℕ) → is_new known n ≡ true → 1 ≤ n
fresh-some known n test = grind (arith, nat_tests)

module _ (durable present : List (List ℕ)) (f k : ℕ) (fresh : is_fresh durable present f k ≡ true) where
  pub own-first : 1 ≤ number_at present f k
  own-first = fresh-some (number_at durable f k) (number_at present f k) fresh

  pub own-once : AreApart durable present → (g j : ℕ) → number_at present g j ≡ number_at present f k → (g ≡ f) × (j ≡ k)
  own-once apart g j is = apart.once f k g j fresh is
