-- Handles by their numbers, and what a change of each does to them.
use Rattle.std.proofs.Common.{replicate, ◌≡◌, ℕ, zero, suc, ◌+◌, ◌-◌, Bool, true, false, List, [], ◌∷◌, refl, sym, ap, ◌∙◌, Option, Some, None, ◌⊎◌, inl, inr, arith}
use Rattle.std.specs.Prelude.{◌==◌, slice_get, slice_set, slice_index_or, option_map, map, if◌then◌else◌}
use Rattle.std.specs.Option.{option_flatten}
use Rattle.std.proofs.lemmas.Bool.Decides.{nat_tests}
use Rattle.apex_model.specs.Handles.{handle_at, with_slot, free_from, any_open}
use Rattle.file_tree.specs.Entries.{slot}
use Rattle.file_tree.proofs.Ways.{not_some}

module _ {A : Type 0} where
  slot-flat : (slots : List (Option A)) (k : ℕ) → option_flatten (slice_get slots k) ≡ slot slots k
  slot-flat [] k = refl
  slot-flat (None ∷ slots) zero = refl
  slot-flat (Some a ∷ slots) zero = refl
  slot-flat (o ∷ slots) (suc k) = slot-flat slots k

  -- the handle of a number stands at the place before it
  pub handle_at-next : (slots : List (Option A)) (k : ℕ) → handle_at slots (suc k) ≡ slot slots k
  handle_at-next slots k =
      let some : (suc k == 0) ≡ false = grind (arith, nat_tests) in
      let before : suc k - 1 ≡ k = omega arith in
      ap (λ (b : Bool). if b then None else option_flatten (slice_get slots (suc k - 1))) some ∙ ap (λ (n : ℕ). option_flatten (slice_get slots n)) before ∙ slot-flat slots k

  -- the place of a handle that is open
  pub record IsOpenAt (slots : List (Option A)) (id : ℕ) (a : A) : Type 0 where
    pub place : ℕ
    pub number : id ≡ suc place
    pub is : slot slots place ≡ Some a

  pub place_of_open : (slots : List (Option A)) (id : ℕ) (a : A) → handle_at slots id ≡ Some a → IsOpenAt slots id a
  place_of_open slots zero a e = absurd (let w : ◌≡◌ {A = Option A} None (Some a) = e in cc)
  place_of_open slots (suc k) a e = record { place = k; number = refl; is = sym (handle_at-next slots k) ∙ e }

  -- what holds of every handle that is open, by places
  pub each_place : (Q : A → Type 0) (slots : List (Option A)) → ((id : ℕ) (a : A) → handle_at slots id ≡ Some a → Q a) → (k : ℕ) (a : A) → slot slots k ≡ Some a → Q a
  each_place Q slots each k a e = each (suc k) a (handle_at-next slots k ∙ e)

  slot-set : (slots : List (Option A)) (k j : ℕ) (o : Option A) (a : A) → slot (slice_set slots k o) j ≡ Some a → (slot slots j ≡ Some a) ⊎ (o ≡ Some a)
  slot-set [] k j o a e = inl e
  slot-set (s ∷ slots) zero zero o a e = inr e
  slot-set (s ∷ slots) zero (suc j) o a e = inl e
  slot-set (s ∷ slots) (suc k) zero o a e = inl e
  slot-set (s ∷ slots) (suc k) (suc j) o a e = slot-set slots k j o a e

  -- a handle that is open after a number got another one was open before, or is that one
  pub handle_at-with_slot : (slots : List (Option A)) (id j : ℕ) (o : Option A) (a : A) → handle_at (with_slot slots id o) j ≡ Some a → (handle_at slots j ≡ Some a) ⊎ (o ≡ Some a)
  handle_at-with_slot slots id zero o a e = absurd (let w : ◌≡◌ {A = Option A} None (Some a) = e in cc)
  handle_at-with_slot slots id (suc j) o a e = elim (slot-set slots (id - 1) j o a (sym (handle_at-next (with_slot slots id o) j) ∙ e)) [
    | inl is ↦ inl (handle_at-next slots j ∙ is)
    | inr is ↦ inr is
  ]

  -- an element of a list in which one was put is as before, or is that one
  pub one_of : (xs : List A) (k j : ℕ) (x d : A) → (slice_index_or (slice_set xs k x) j d ≡ slice_index_or xs j d) ⊎ (slice_index_or (slice_set xs k x) j d ≡ x)
  one_of [] k j x d = inl refl
  one_of (y ∷ xs) zero zero x d = inr refl
  one_of (y ∷ xs) zero (suc j) x d = inl refl
  one_of (y ∷ xs) (suc k) zero x d = inl refl
  one_of (y ∷ xs) (suc k) (suc j) x d = one_of xs k j x d

module _ {A B : Type 0} where
  slot-map : (f : A → B) (slots : List (Option A)) (k : ℕ) → slot (map (option_map f) slots) k ≡ option_map f (slot slots k)
  slot-map f [] k = refl
  slot-map f (s ∷ slots) zero = refl
  slot-map f (s ∷ slots) (suc k) = slot-map f slots k

  -- the handle of a number, where each is another one
  pub handle_at-map : (f : A → B) (slots : List (Option A)) (id : ℕ) → handle_at (map (option_map f) slots) id ≡ option_map f (handle_at slots id)
  handle_at-map f slots zero = refl
  handle_at-map f slots (suc k) = handle_at-next (map (option_map f) slots) k ∙ slot-map f slots k ∙ ap (option_map f) (sym (handle_at-next slots k))

  -- a handle that is open where each is another one
  pub record IsFrom (f : A → B) (slots : List (Option A)) (id : ℕ) (b : B) : Type 0 where
    pub old : A
    pub at : handle_at slots id ≡ Some old
    pub is : f old ≡ b

  some_of : (f : A → B) (slots : List (Option A)) (id : ℕ) (o : Option A) (b : B) → handle_at slots id ≡ o → option_map f o ≡ Some b → IsFrom f slots id b
  some_of f slots id None b at e = absurd (let w : ◌≡◌ {A = Option B} None (Some b) = e in cc)
  some_of f slots id (Some a) b at e = record { old = a; at = at; is = (let w : ◌≡◌ {A = Option B} (Some (f a)) (Some b) = e in cc) }

  pub open_from : (f : A → B) (slots : List (Option A)) (id : ℕ) (b : B) → handle_at (map (option_map f) slots) id ≡ Some b → IsFrom f slots id b
  open_from f slots id b e = some_of f slots id (handle_at slots id) b refl (sym (handle_at-map f slots id) ∙ e)

  -- the same numbers are free
  pub free_from-map : (f : A → B) (n : ℕ) (slots : List (Option A)) → free_from n (map (option_map f) slots) ≡ free_from n slots
  free_from-map f n [] = refl
  free_from-map f n (None ∷ slots) = refl
  free_from-map f n (Some a ∷ slots) = free_from-map f (n + 1) slots

  -- a test of what handles stand for, by a test of the handles
  pub any_open-map : (f : A → B) (test : B → Bool) (own : A → Bool) (slots : List (Option A)) → ((k : ℕ) (a : A) → slot slots k ≡ Some a → test (f a) ≡ own a)
      → any_open test (map (option_map f) slots) ≡ any_open own slots
  any_open-map f test own [] each = refl
  any_open-map f test own (None ∷ slots) each = any_open-map f test own slots (λ k. each (suc k))
  any_open-map f test own (Some a ∷ slots) each =
      (λ i. if each 0 a refl i then true else any_open test (map (option_map f) slots)) ∙ ap (λ (b : Bool). if own a then true else b) (any_open-map f test own slots (λ k. each (suc k)))

  -- handles stand for the same by another reading, where each of them does
  pub slots-same : (f g : A → B) (slots : List (Option A)) → ((k : ℕ) (a : A) → slot slots k ≡ Some a → f a ≡ g a) → map (option_map f) slots ≡ map (option_map g) slots
  slots-same f g [] each = refl
  slots-same f g (None ∷ slots) each = ap (λ (rest : List (Option B)). None ∷ rest) (slots-same f g slots (λ k. each (suc k)))
  slots-same f g (Some a ∷ slots) each = λ i. Some (each 0 a refl i) ∷ slots-same f g slots (λ k. each (suc k)) i

-- changed handles stand for what is changed in the same way, where each of them does
pub slots-become : {A B : Type 0} (f g : A → B) (change : A → A) (of_model : B → B) (slots : List (Option A)) → ((k : ℕ) (a : A) → slot slots k ≡ Some a → of_model (f a) ≡ g (change a))
    → map (option_map of_model) (map (option_map f) slots) ≡ map (option_map g) (map (option_map change) slots)
slots-become f g change of_model [] each = refl
slots-become f g change of_model (None ∷ slots) each = ap (λ (rest : List (Option _)). None ∷ rest) (slots-become f g change of_model slots (λ k. each (suc k)))
slots-become f g change of_model (Some a ∷ slots) each = λ i. Some (each 0 a refl i) ∷ slots-become f g change of_model slots (λ k. each (suc k)) i

free_slot : {A : Type 0} (n k : ℕ) → slot {A = A} (replicate n None) k ≡ None
free_slot zero k = refl
free_slot (suc n) zero = refl
free_slot (suc n) (suc k) = free_slot n k

-- no handle is open where all places are free
pub none_open-at : {A : Type 0} (n id : ℕ) (a : A) → handle_at (replicate n None) id ≡ Some a → ⊥
none_open-at n id a e = let open_at : IsOpenAt (replicate n None) id a = place_of_open (replicate n None) id a e in not_some (sym (free_slot n open_at.place) ∙ open_at.is)
