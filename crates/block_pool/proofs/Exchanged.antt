-- Links after those behind two places were exchanged.
use Rattle.std.proofs.Common.{◌≡◌, ◌≢◌, ℕ, ◌<◌, List, length, sym, ap, ◌∙◌, subst, inl, inr, arith, set, length-set, get_or-set_same, get_or-set_other}
use Rattle.std.proofs.lemmas.Bool.{cases_eq}
use Rattle.block_pool.specs.Links.{link, IsPaired, exchanged_next, exchanged_previous}

-- behind the second place stands what stood behind the first
pub next_at_second : (next : List ℕ) (a b : ℕ) → b < length next → link (exchanged_next next a b) b ≡ link next a
next_at_second next a b h =
    let within : b < length (set next a (link next b)) = omega (arith, length-set next a (link next b)) in
    get_or-set_same (set next a (link next b)) b (link next a) 0 within

-- and behind the first what stood behind the second
pub next_at_first : (next : List ℕ) (a b : ℕ) → a < length next → b < length next → link (exchanged_next next a b) a ≡ link next b
next_at_first next a b h k =
    elim (cases_eq a b) [
      | inl same ↦ ap (link (exchanged_next next a b)) same ∙ next_at_second next a b k ∙ ap (link next) same
      | inr other ↦ get_or-set_other (set next a (link next b)) b a (link next a) 0 other ∙ get_or-set_same next a (link next b) 0 h
    ]

-- behind the others stands what stood there
pub next_elsewhere : (next : List ℕ) (a b k : ℕ) → k ≢ a → k ≢ b → link (exchanged_next next a b) k ≡ link next k
next_elsewhere next a b k not_a not_b =
    get_or-set_other (set next a (link next b)) b k (link next a) 0 not_b ∙ get_or-set_other next a k (link next b) 0 not_a

pub length-exchanged_next : (next : List ℕ) (a b : ℕ) → length (exchanged_next next a b) ≡ length next
length-exchanged_next next a b = length-set (set next a (link next b)) b (link next a) ∙ length-set next a (link next b)

pub length-exchanged_previous : (next previous : List ℕ) (a b : ℕ) → length (exchanged_previous next previous a b) ≡ length previous
length-exchanged_previous next previous a b =
    length-set (set previous (link next a) b) (link next b) a ∙ length-set previous (link next a) b

-- two links that lead to one place are one
pub same_place : (next previous : List ℕ) → IsPaired next previous → (j k : ℕ) → j < length next → k < length next → link next j ≡ link next k → j ≡ k
same_place next previous p j k h i e = sym (p.back j h) ∙ ap (link previous) e ∙ p.back k i

previous_behind_second : (next previous : List ℕ) (a b : ℕ) → link next b < length previous
    → link (exchanged_previous next previous a b) (link next b) ≡ a
previous_behind_second next previous a b h =
    let within : link next b < length (set previous (link next a) b) = omega (arith, length-set previous (link next a) b) in
    get_or-set_same (set previous (link next a) b) (link next b) a 0 within

previous_behind_first : (next previous : List ℕ) (a b : ℕ) → link next a < length previous → link next b < length previous
    → (link next a ≡ link next b → a ≡ b) → link (exchanged_previous next previous a b) (link next a) ≡ b
previous_behind_first next previous a b h k one =
    elim (cases_eq (link next a) (link next b)) [
      | inl same ↦ ap (link (exchanged_previous next previous a b)) same ∙ previous_behind_second next previous a b k ∙ one same
      | inr other ↦
          get_or-set_other (set previous (link next a) b) (link next b) (link next a) a 0 other
          ∙ get_or-set_same previous (link next a) b 0 h
    ]

previous_elsewhere : (next previous : List ℕ) (a b k : ℕ) → k ≢ link next a → k ≢ link next b
    → link (exchanged_previous next previous a b) k ≡ link previous k
previous_elsewhere next previous a b k not_a not_b =
    get_or-set_other (set previous (link next a) b) (link next b) k a 0 not_b ∙ get_or-set_other previous (link next a) k b 0 not_a

-- a property of each place that holds at two and elsewhere
at_three : (P : ℕ → Type 0) (a b k : ℕ) → P a → P b → (k ≢ a → k ≢ b → P k) → P k
at_three P a b k at_a at_b elsewhere =
    elim (cases_eq k a) [
      | inl same ↦ subst P (sym same) at_a
      | inr not_a ↦ elim (cases_eq k b) [ inl same ↦ subst P (sym same) at_b | inr not_b ↦ elsewhere not_a not_b ]
    ]

module _ (next previous : List ℕ) (p : IsPaired next previous) (a b : ℕ) (a_within : a < length next) (b_within : b < length next) where
  behind_a : link next a < length previous
  behind_a = omega (arith, p.next_within a a_within, p.same_length)

  behind_b : link next b < length previous
  behind_b = omega (arith, p.next_within b b_within, p.same_length)

  at_behind_a : link (exchanged_previous next previous a b) (link next a) ≡ b
  at_behind_a = previous_behind_first next previous a b behind_a behind_b (same_place next previous p a b a_within b_within)

  at_behind_b : link (exchanged_previous next previous a b) (link next b) ≡ a
  at_behind_b = previous_behind_second next previous a b behind_b

  stays_within : (k : ℕ) → k < length next → link (exchanged_next next a b) k < length next
  stays_within k h =
      at_three (λ m. link (exchanged_next next a b) m < length next) a b k
      (subst (λ (m : ℕ). m < length next) (sym (next_at_first next a b a_within b_within)) (p.next_within b b_within))
      (subst (λ (m : ℕ). m < length next) (sym (next_at_second next a b b_within)) (p.next_within a a_within))
      (λ x y. subst (λ (m : ℕ). m < length next) (sym (next_elsewhere next a b k x y)) (p.next_within k h))

  previous_stays_within : (k : ℕ) → k < length next → link (exchanged_previous next previous a b) k < length next
  previous_stays_within k h =
      at_three (λ m. link (exchanged_previous next previous a b) m < length next) (link next a) (link next b) k
      (subst (λ (m : ℕ). m < length next) (sym at_behind_a) b_within)
      (subst (λ (m : ℕ). m < length next) (sym at_behind_b) a_within)
      (λ x y. subst (λ (m : ℕ). m < length next) (sym (previous_elsewhere next previous a b k x y)) (p.previous_within k h))

  goes_back : (k : ℕ) → k < length next → link (exchanged_previous next previous a b) (link (exchanged_next next a b) k) ≡ k
  goes_back k h =
      at_three (λ m. link (exchanged_previous next previous a b) (link (exchanged_next next a b) m) ≡ m) a b k
      (ap (link (exchanged_previous next previous a b)) (next_at_first next a b a_within b_within) ∙ at_behind_b)
      (ap (link (exchanged_previous next previous a b)) (next_at_second next a b b_within) ∙ at_behind_a)
      (λ x y.
      ap (link (exchanged_previous next previous a b)) (next_elsewhere next a b k x y)
      ∙ previous_elsewhere next previous a b (link next k)
      (λ e. x (same_place next previous p k a h a_within e)) (λ e. y (same_place next previous p k b h b_within e))
      ∙ p.back k h)

  goes_forth : (k : ℕ) → k < length next → link (exchanged_next next a b) (link (exchanged_previous next previous a b) k) ≡ k
  goes_forth k h =
      at_three (λ m. link (exchanged_next next a b) (link (exchanged_previous next previous a b) m) ≡ m) (link next a) (link next b) k
      (ap (link (exchanged_next next a b)) at_behind_a ∙ next_at_second next a b b_within)
      (ap (link (exchanged_next next a b)) at_behind_b ∙ next_at_first next a b a_within b_within)
      (λ x y.
      ap (link (exchanged_next next a b)) (previous_elsewhere next previous a b k x y)
      ∙ next_elsewhere next a b (link previous k)
      (λ e. x (sym (p.forth k h) ∙ ap (link next) e)) (λ e. y (sym (p.forth k h) ∙ ap (link next) e))
      ∙ p.forth k h)

  -- the links stay paired
  pub IsPaired-exchanged : IsPaired (exchanged_next next a b) (exchanged_previous next previous a b)
  IsPaired-exchanged =
      let same = length-exchanged_next next a b in
      record {
        same_length = length-exchanged_previous next previous a b ∙ p.same_length ∙ sym same;
        next_within = λ k h. omega (arith, stays_within k (omega arith), same);
        previous_within = λ k h. omega (arith, previous_stays_within k (omega arith), same);
        back = λ k h. goes_back k (omega (arith, same));
        forth = λ k h. goes_forth k (omega (arith, same));
      }
