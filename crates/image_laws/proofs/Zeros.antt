-- Parts of an image that are zeros, and lists in which each item has the same answer.
use Rattle.std.proofs.Common.{◌≡◌, ◌≢◌, ℕ, zero, suc, ◌+◌, ◌-◌, ◌*◌, ◌<◌, ◌≤◌, true, false, List, [], ◌∷◌, length, Option, Some, None, option_map, refl, sym, ◌∙◌, ap, arith, rules}
use Rattle.std.proofs.lemmas.Bool.Decides.{nat_tests}
use Rattle.std.proofs.lemmas.List.{places, get_or-replicate, length-replicate, length-drop, get_or-drop, ext_get_or}
use Rattle.std.specs.Prelude.{slice_index, slice_get, drop, map, replicate, Result, Ok, Err}
use Rattle.std.specs.List.{range_with_len}
use Rattle.apex_model.specs.Fields.{part, is_padding}
use Rattle.apex_model.specs.Image.{closed, numbered, slot_at, is_open, all_answers, states_from}
use Rattle.image_laws.specs.EmptyImage.{AreZeros}

-- a byte of a part
pub byte-part : (bytes : List ℕ) (at n k : ℕ) → k < n → slice_index (part bytes at n) k ≡ slice_index bytes (at + k)
byte-part bytes at n k low = grind (arith, places)

pub length-part : (bytes : List ℕ) (at n : ℕ) → at + n ≤ length bytes → length (part bytes at n) ≡ n
length-part bytes at n fits = search (rules, places)

-- a list of zeros
pub all_zeros : (n : ℕ) (xs : List ℕ) → length xs ≡ n → ((k : ℕ) → k < n → slice_index xs k ≡ 0) → xs ≡ replicate n 0
all_zeros n xs long zeros =
    ext_get_or 0 xs (replicate n 0) (long ∙ sym (length-replicate n 0)) (λ k low.
    let within : k < n = omega (arith, low, long) in
    zeros k within ∙ sym (get_or-replicate n k 0 0 within))

pub part_zeros : (bytes : List ℕ) (at n : ℕ) → at + n ≤ length bytes → AreZeros at (at + n) bytes → part bytes at n ≡ replicate n 0
part_zeros bytes at n fits zeros =
    all_zeros n (part bytes at n) (length-part bytes at n fits) (λ k low. byte-part bytes at n k low ∙ zeros (at + k) (omega arith) (omega (arith, low)))

pub drop_zeros : (bytes : List ℕ) (at : ℕ) → AreZeros at (length bytes) bytes → drop at bytes ≡ replicate (length bytes - at) 0
drop_zeros bytes at zeros =
    all_zeros (length bytes - at) (drop at bytes) (length-drop at bytes) (λ k low. get_or-drop at bytes k 0 ∙ zeros (at + k) (omega arith) (omega (arith, low)))

pub padding_zeros : (n : ℕ) → is_padding (replicate n 0) ≡ true
padding_zeros zero = refl
padding_zeros (suc n) = padding_zeros n

-- a slot by its two bytes
pub slot_open : (region : List ℕ) (gate n : ℕ) → slice_index region (512 * gate) ≡ 165 → slice_index region (512 * (gate + 1)) ≡ n → slot_at region gate ≡ numbered n
slot_open region gate n opened number = grind (arith, nat_tests)

pub slot_closed : (region : List ℕ) (gate : ℕ) → slice_index region (512 * gate) ≢ 165 → slot_at region gate ≡ closed
slot_closed region gate shut = grind (arith, nat_tests)

pub not_open : (region : List ℕ) (gate : ℕ) → slice_index region (512 * gate) ≢ 165 → is_open region gate ≡ false
not_open region gate shut = grind (arith, nat_tests)

pub is_opened : (region : List ℕ) (gate : ℕ) → slice_index region (512 * gate) ≡ 165 → is_open region gate ≡ true
is_opened region gate opened = grind (arith, nat_tests)

-- one more answer in front of the others
abbrev with_answers : {X : Type 0} → Option X → Option (List X) → Option (List X)
with_answers o later = elim o [ None ↦ None | Some x ↦ option_map (λ xs. x ∷ xs) later ]

-- the same answer at each number of a range
pub same_answers : {X : Type 0} (f : ℕ → Option X) (x : X) (from n : ℕ) → ((k : ℕ) → from ≤ k → k < from + n → f k ≡ Some x) → all_answers f (range_with_len from n) ≡ Some (replicate n x)
same_answers f x from zero same = refl
same_answers {X} f x from (suc n) same =
    ap (λ (o : Option X). with_answers o (all_answers f (range_with_len (from + 1) n))) (same from (omega arith) (omega arith))
    ∙ ap (with_answers (Some x)) (same_answers f x (from + 1) n (λ k low high. same k (omega (arith, low)) (omega (arith, high))))

-- the same value at each number of a range
pub same_values : {X : Type 0} (f : ℕ → X) (x : X) (from n : ℕ) → ((k : ℕ) → from ≤ k → k < from + n → f k ≡ x) → map f (range_with_len from n) ≡ replicate n x
same_values f x from zero same = refl
same_values {X} f x from (suc n) same =
    ap (λ (y : X). y ∷ map f (range_with_len (from + 1) n)) (same from (omega arith) (omega arith))
    ∙ ap (λ (ys : List X). x ∷ ys) (same_values f x (from + 1) n (λ k low high. same k (omega (arith, low)) (omega (arith, high))))

-- the states from a row on, by the row's own and those of the later rows
abbrev after_row : {X : Type 0} → ℕ → Option X → Result (List X) ℕ → Result (List X) ℕ
after_row bad o later = elim o [ None ↦ Err bad | Some x ↦ elim later [ Err worse ↦ Err worse | Ok xs ↦ Ok (x ∷ xs) ] ]

-- the states of rows of which each has one
pub all_states : {R X : Type 0} (f : ℕ → R → Option X) (state : R → X) (k : ℕ) (rows : List R) → ((j : ℕ) (row : R) → slice_get rows j ≡ Some row → f (k + j) row ≡ Some (state row))
    → states_from f k rows ≡ Ok (map state rows)
all_states f state k [] each = refl
all_states {R} {X} f state k (row ∷ rows) each =
    let here : f k row ≡ Some (state row) = ap (λ (n : ℕ). f n row) (omega arith) ∙ each 0 row refl in
    let later : states_from f (k + 1) rows ≡ Ok (map state rows) =
    all_states f state (k + 1) rows (λ j other is. ap (λ (n : ℕ). f n other) (omega arith) ∙ each (suc j) other is) in
    ap (λ (o : Option X). after_row (k + 1) o (states_from f (k + 1) rows)) here
    ∙ ap (after_row (k + 1) (Some (state row))) later
