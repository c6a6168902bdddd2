-- The hexadecimal digits of bytes.
use Rattle.std.proofs.Common.{◌≡◌, ◌/◌, ◌%◌, ◌<◌, ◌++◌, ℕ, zero, suc, Result, Ok, Err, is_ok, Bool, true, ◌&&◌, eqb, List, [], ◌∷◌, length, slice_index, refl, ap, ◌∙◌, arith, inl, inr}
use Rattle.std.specs.Prelude.{OnOk}
use Rattle.std.proofs.lemmas.Bool.{cases_lt, and_parts, eqb-true}
use Rattle.hex.specs.Hex.{IsBytes, encode_with, encode_lower, lower_digits}
use Rattle.apex_model.specs.Run.{hex_digit, hex_text, data_text}

-- the test of the digits below this one, which computes
abbrev same_digits : ℕ → Bool
same_digits zero = true
same_digits (suc n) = eqb (slice_index lower_digits n) (hex_digit n) && same_digits n

same_digits-at : (n d : ℕ) → same_digits n ≡ true → d < n → slice_index lower_digits d ≡ hex_digit d
same_digits-at zero d h lt = absurd (omega arith)
same_digits-at (suc n) d h lt =
    let parts = and_parts (eqb (slice_index lower_digits n) (hex_digit n)) (same_digits n) h in
    elim (cases_lt d n) [
      | inl below ↦ same_digits-at n d parts.1 below
      | inr top ↦ let e : d ≡ n = omega arith in rw e (eqb-true (slice_index lower_digits n) (hex_digit n) parts.0)
    ]

digit_is : (d : ℕ) → d < 16 → slice_index lower_digits d ≡ hex_digit d
digit_is d lt = same_digits-at 16 d refl lt

pub encode_lower-is : (bytes : List ℕ) → IsBytes bytes → encode_lower bytes ≡ hex_text bytes
unfolding encode_with
encode_lower-is [] h = refl
encode_lower-is (b ∷ bytes) h =
    let small : b < 256 = h 0 in
    rw (digit_is (b / 16) (omega arith), digit_is (b % 16) (omega arith), encode_lower-is bytes (λ i. h (suc i))) refl

-- data of no bytes is a dot
pub data_is : (bytes : List ℕ) → 0 < length bytes → data_text bytes ≡ hex_text bytes
data_is [] h = absurd (omega arith)
data_is (b ∷ bytes) h = refl

-- a text to which the digits of bytes were put
pub digits_put : {A E : Type 0} (r : Result A E) (bytes digits old new : List ℕ) → is_ok r ≡ true → OnOk r (digits ≡ encode_lower bytes) → IsBytes bytes → new ≡ old ++ digits → new ≡ old ++ hex_text bytes
digits_put (Ok x) bytes digits old new ok h small e = e ∙ ap (λ (t : List ℕ). old ++ t) (h ∙ encode_lower-is bytes small)
digits_put (Err d) bytes digits old new ok h small e = absurd cc
