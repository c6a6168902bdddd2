-- Lists of answers, of which each item has one.
use Rattle.std.proofs.Common.{◌≡◌, ℕ, zero, suc, ◌+◌, ◌-◌, ◌<◌, true, false, List, [], ◌∷◌, length, Option, Some, None, option_map, refl, sym, ◌∙◌, ap, arith}
use Rattle.std.specs.Prelude.{slice_get, is_some}
use Rattle.std.specs.List.{range_with_len}
use Rattle.apex_model.specs.Image.{all_answers}

-- one more answer in front of the others
abbrev pub with_answers : {X : Type 0} → Option X → Option (List X) → Option (List X)
with_answers o later = elim o [ None ↦ None | Some x ↦ option_map (λ xs. x ∷ xs) later ]

pub record Front {X : Type 0} (o : Option X) (later : Option (List X)) (xs : List X) : Type 0 where
  pub first : X
  pub rest : List X
  pub answer : o ≡ Some first
  pub answers : later ≡ Some rest
  pub whole : xs ≡ first ∷ rest

pub front : {X : Type 0} (o : Option X) (later : Option (List X)) (xs : List X) → with_answers o later ≡ Some xs → Front o later xs
front None later xs is = absurd cc
front (Some x) None xs is = absurd cc
front (Some x) (Some rest) xs is = record { first = x; rest = rest; answer = refl; answers = refl; whole = cc }

pub answer_count : {X : Type 0} (f : ℕ → Option X) (from n : ℕ) (xs : List X) → all_answers f (range_with_len from n) ≡ Some xs → length xs ≡ n
answer_count f from zero xs is = let nil : xs ≡ [] = cc in ap length nil
answer_count f from (suc n) xs is =
    let parts = front (f from) (all_answers f (range_with_len (from + 1) n)) xs is in
    let later = answer_count f (from + 1) n parts.rest parts.answers in
    omega (arith, later, ap length parts.whole)

pub answer_at : {X : Type 0} (f : ℕ → Option X) (from n : ℕ) (xs : List X) → all_answers f (range_with_len from n) ≡ Some xs → (j : ℕ) → j < n → f (from + j) ≡ slice_get xs j
answer_at f from zero xs is j low = absurd (omega (arith, low))
answer_at {X} f from (suc n) xs is zero low =
    let parts = front (f from) (all_answers f (range_with_len (from + 1) n)) xs is in
    let here : f (from + 0) ≡ f from = ap f (omega arith) in
    here ∙ parts.answer ∙ sym (ap (λ (l : List X). slice_get l 0) parts.whole)
answer_at {X} f from (suc n) xs is (suc j) low =
    let parts = front (f from) (all_answers f (range_with_len (from + 1) n)) xs is in
    let here : f (from + suc j) ≡ f (from + 1 + j) = ap f (omega arith) in
    here ∙ answer_at f (from + 1) n parts.rest parts.answers j (omega (arith, low)) ∙ sym (ap (λ (l : List X). slice_get l (suc j)) parts.whole)

-- whether all have an answer, by the first and the others
some_front : {X : Type 0} (o : Option X) (later : Option (List X)) → is_some o ≡ true → is_some (with_answers o later) ≡ is_some later
some_front None later some = absurd cc
some_front (Some x) None some = refl
some_front (Some x) (Some rest) some = refl

none_front : {X : Type 0} (o : Option X) (later : Option (List X)) → is_some o ≡ false → is_some (with_answers o later) ≡ false
none_front None later none = refl
none_front (Some x) later none = absurd cc

pub all_but_first : {X : Type 0} (f : ℕ → Option X) (from n : ℕ) → is_some (f from) ≡ true → 0 < n → is_some (all_answers f (range_with_len from n)) ≡ is_some (all_answers f (range_with_len (from + 1) (n - 1)))
all_but_first f from zero some low = absurd (omega (arith, low))
all_but_first f from (suc n) some low =
    some_front (f from) (all_answers f (range_with_len (from + 1) n)) some ∙ ap (λ (m : ℕ). is_some (all_answers f (range_with_len (from + 1) m))) (omega arith)

pub not_all : {X : Type 0} (f : ℕ → Option X) (from n : ℕ) → is_some (f from) ≡ false → 0 < n → is_some (all_answers f (range_with_len from n)) ≡ false
not_all f from zero none low = absurd (omega (arith, low))
not_all f from (suc n) none low = none_front (f from) (all_answers f (range_with_len (from + 1) n)) none
