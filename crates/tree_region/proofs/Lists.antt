-- Lists that grow at their end, or are read from their front.
use Rattle.std.proofs.Common.{◌≡◌, ℕ, zero, suc, ◌+◌, ◌<◌, ◌≤◌, Bool, true, List, [], ◌∷◌, ◌++◌, length, drop, refl, sym, ap, ◌∙◌, Option, Some, None, get_or, arith}
use Rattle.std.specs.Prelude.{option_map}
use Rattle.std.specs.List.{list_all, range_with_len}
use Rattle.apex_model.specs.Image.{all_answers}
use Rattle.file_tree.proofs.Children.{and-first, and-second}
use Rattle.file_tree.proofs.ReadBodies.{mapped}

-- one more answer behind others
pub answers-more : {X : Type 0} (f : ℕ → Option X) (start count : ℕ) (xs : List X) (x : X) → all_answers f (range_with_len start count) ≡ Some xs → f (start + count) ≡ Some x
    → all_answers f (range_with_len start (suc count)) ≡ Some (xs ++ x ∷ [])
answers-more {X} f start zero xs x h here =
    let none : [] ≡ xs = cc in
    let e : start ≡ start + 0 = omega arith in
    ap (λ (o : Option X). elim o [ None ↦ None | Some y ↦ option_map (λ (ys : List X). y ∷ ys) (Some []) ]) (ap f e ∙ here)
    ∙ ap (λ (ys : List X). Some (ys ++ x ∷ [])) none
answers-more {X} f start (suc count) xs x h here =
    let e : (start + 1) + count ≡ start + suc count = omega arith in
    (elim (f start) as (λ o. f start ≡ o → elim o [ None ↦ None | Some y ↦ option_map (λ (ys : List X). y ∷ ys) (all_answers f (range_with_len (start + 1) count)) ] ≡ Some xs
    → all_answers f (range_with_len start (suc (suc count))) ≡ Some (xs ++ x ∷ [])) [
      | None ↦ λ is k. absurd (let wrong : ◌≡◌ {A = Option (List X)} None (Some xs) = k in cc)
      | Some y ↦ λ is k.
          let m = mapped (λ (ys : List X). y ∷ ys) (all_answers f (range_with_len (start + 1) count)) xs k in
          let more = answers-more f (start + 1) count m.0 x m.1 (ap f e ∙ here) in
          ap (λ (o : Option X). elim o [ None ↦ None | Some z ↦ option_map (λ (zs : List X). z ∷ zs) (all_answers f (range_with_len (start + 1) (suc count))) ]) is
          ∙ ap (option_map (λ (zs : List X). y ∷ zs)) more
          ∙ ap (λ (zs : List X). Some (zs ++ x ∷ [])) m.2
    ]) refl h

-- what holds of all holds of each
pub all-at : {A : Type 0} (test : A → Bool) (xs : List A) (k : ℕ) (d : A) → list_all test xs ≡ true → k < length xs → test (get_or xs k d) ≡ true
all-at test [] k d h less = absurd (omega (arith, less))
all-at test (x ∷ xs) zero d h less = and-first (test x) (list_all test xs) h
all-at test (x ∷ xs) (suc k) d h less = all-at test xs k d (and-second (test x) (list_all test xs) h) (omega (arith, less))

-- the rest from a place on begins with what stands there
pub drop-here : {A : Type 0} (xs : List A) (k : ℕ) (d : A) → k < length xs → drop k xs ≡ get_or xs k d ∷ drop (suc k) xs
drop-here [] k d less = absurd (omega (arith, less))
drop-here (x ∷ xs) zero d less = refl
drop-here (x ∷ xs) (suc k) d less = drop-here xs k d (omega (arith, less))

pub drop-all : {A : Type 0} (xs : List A) (k : ℕ) → length xs ≤ k → drop k xs ≡ []
drop-all [] zero le = refl
drop-all [] (suc k) le = refl
drop-all (x ∷ xs) zero le = absurd (omega (arith, le))
drop-all (x ∷ xs) (suc k) le = drop-all xs k (omega (arith, le))

-- there are as many answers as questions
pub answers-length : {X : Type 0} (f : ℕ → Option X) (start count : ℕ) (xs : List X) → all_answers f (range_with_len start count) ≡ Some xs → length xs ≡ count
answers-length {X} f start zero xs h = let none : [] ≡ xs = cc in ap length (sym none)
answers-length {X} f start (suc count) xs h =
    (elim (f start) as (λ o. elim o [ None ↦ None | Some y ↦ option_map (λ (ys : List X). y ∷ ys) (all_answers f (range_with_len (start + 1) count)) ] ≡ Some xs → length xs ≡ suc count) [
      | None ↦ λ k. absurd (let wrong : ◌≡◌ {A = Option (List X)} None (Some xs) = k in cc)
      | Some y ↦ λ k.
          let m = mapped (λ (ys : List X). y ∷ ys) (all_answers f (range_with_len (start + 1) count)) xs k in
          ap length (sym m.2) ∙ ap suc (answers-length f (start + 1) count m.0 m.1)
    ]) h
