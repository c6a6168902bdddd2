-- A list that is changed from its front on.
use Rattle.std.proofs.Common.{◌≡◌, ℕ, ◌+◌, ◌<◌, List, [], ◌∷◌, ◌++◌, map, take, drop, set, get_or, length, replicate, zero, suc, refl, ap, ◌∙◌, arith, add-one}

module _ {A : Type 0} where
  mapped_next : (f : A → A) (old : List A) (k : ℕ) (d y : A) → k < length old → y ≡ f (get_or (map f (take k old) ++ drop k old) k d)
      → set (map f (take k old) ++ drop k old) k y ≡ map f (take (suc k) old) ++ drop (suc k) old
  mapped_next f [] k d y h e = absurd (omega arith)
  mapped_next f (a ∷ old) zero d y h e = ap (λ v. v ∷ old) e
  mapped_next f (a ∷ old) (suc k) d y h e = ap (λ rest. f a ∷ rest) (mapped_next f old k d y (omega arith) e)

  -- one more element is changed
  pub mapped_more : (f : A → A) (now old : List A) (k : ℕ) (d y : A) → now ≡ map f (take k old) ++ drop k old → k < length old → y ≡ f (get_or now k d)
      → set now k y ≡ map f (take (k + 1) old) ++ drop (k + 1) old
  mapped_more f now old k d y is h changed =
      rw add-one (ap (λ (xs : List A). set xs k y) is ∙ mapped_next f old k d y h (changed ∙ ap (λ (xs : List A). f (get_or xs k d)) is))

  filled_next : (a : A) (old : List A) (k : ℕ) → k < length old → set (replicate k a ++ drop k old) k a ≡ replicate (suc k) a ++ drop (suc k) old
  filled_next a [] k h = absurd (omega arith)
  filled_next a (b ∷ old) zero h = refl
  filled_next a (b ∷ old) (suc k) h = ap (λ rest. a ∷ rest) (filled_next a old k (omega arith))

  -- one more element is this one
  pub filled_more : (a : A) (now old : List A) (k : ℕ) → now ≡ replicate k a ++ drop k old → k < length old → set now k a ≡ replicate (k + 1) a ++ drop (k + 1) old
  filled_more a now old k is h = rw add-one (ap (λ (xs : List A). set xs k a) is ∙ filled_next a old k h)
