-- Lists that are changed or built from their front on.
use Rattle.std.proofs.Common.{◌≡◌, ℕ, ◌+◌, ◌<◌, true, List, [], ◌∷◌, map, drop, get_or, length, replicate, zero, suc, refl, ap, sym, ◌∙◌, Option, Some, None, add-one}
use Rattle.std.specs.Prelude.{slice_get, nat_lt}
use Rattle.std.proofs.lemmas.Option.{slice_get-get_or}
use Rattle.apex_model.proofs.Keeps.{lt-true}

module _ {A : Type 0} where
  drop_from : (xs : List A) (k : ℕ) (x : A) → slice_get xs k ≡ Some x → drop k xs ≡ x ∷ drop (suc k) xs
  drop_from [] k x e = absurd (let w : ◌≡◌ {A = Option A} None (Some x) = e in cc)
  drop_from (y ∷ xs) zero x e = let w : y ≡ x = cc in ap (λ z. z ∷ xs) w
  drop_from (y ∷ xs) (suc k) x e = drop_from xs k x e

  -- what is left from an element on
  pub drop_at : (xs : List A) (k : ℕ) (x : A) → slice_get xs k ≡ Some x → drop k xs ≡ x ∷ drop (k + 1) xs
  drop_at xs k x e = rw add-one (drop_from xs k x e)

  -- an element that was taken out of a list by its index
  pub taken_at : (xs ys : List A) (k : ℕ) (x : A) → xs ≡ ys → k < length xs → x ≡ get_or xs k x → slice_get ys k ≡ Some x
  taken_at xs ys k x same inside is = ap (λ (zs : List A). slice_get zs k) (sym same) ∙ slice_get-get_or xs k x inside ∙ ap (λ (y : A). Some y) (sym is)

  pub looked_up : (xs : List A) (k : ℕ) (x : A) → true ≡ nat_lt k (length xs) → x ≡ get_or xs k x → slice_get xs k ≡ Some x
  looked_up xs k x inside is = taken_at xs xs k x refl (lt-true k (length xs) (sym inside)) is

  -- the same mark for each
  pub map_const : {B : Type 0} (b : B) (xs : List A) → replicate (length xs) b ≡ map (λ x. b) xs
  map_const b [] = refl
  map_const b (x ∷ xs) = ap (λ rest. b ∷ rest) (map_const b xs)
