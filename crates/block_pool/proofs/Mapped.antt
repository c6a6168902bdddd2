-- A list that is changed from its front on.
use Rattle.std.proofs.Common.{◌≡◌, ℕ, ◌+◌, ◌<◌, List, [], ◌∷◌, ◌++◌, map, take, drop, set, get_or, length, zero, suc, ap, ◌∙◌, arith, add-one}

module _ {A : Type 0} where
  mapped_next : (f : A → A) (old : List A) (k : ℕ) (d y : A) → k < length old → y ≡ f (get_or (map f (take k old) ++ drop k old) k d)
      → set (map f (take k old) ++ drop k old) k y ≡ map f (take (suc k) old) ++ drop (suc k) old
  mapped_next f [] k d y h e = absurd (omega arith)
  mapped_next f (a ∷ old) zero d y h e = ap (λ v. v ∷ old) e
  mapped_next f (a ∷ old) (suc k) d y h e = ap (λ rest. f a ∷ rest) (mapped_next f old k d y (omega arith) e)

  -- one more element is changed
  pub mapped_more : (f : A → A) (now old : List A) (k : ℕ) (d y : A) → now ≡ map f (take k old) ++ drop k old → k < length old → y ≡ f (get_or now k d)
      → set now k y ≡ map f (take (k + 1) old) ++ drop (k + 1) old
  mapped_more f now old k d y is h changed =
      rw add-one (ap (λ (xs : List A). set xs k y) is ∙ mapped_next f old k d y h (changed ∙ ap (λ (xs : List A). f (get_or xs k d)) is))
