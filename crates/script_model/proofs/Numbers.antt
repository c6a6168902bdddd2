-- Numbers and offsets: what is read is their one spelling.
use Rattle.std.proofs.Common.{◌≡◌, ℕ, zero, suc, ◌^◌, ◌<◌, ◌≤◌, ℤ, pos, negsuc, Bool, true, false, not, cond, eqb, ltb, List, [], ◌∷◌, length, get_or, Option, Some, None, refl, sym, ap, ◌∙◌, arith, rules, decimal, eq-eqb, inl, inr}
use Rattle.std.proofs.lemmas.Bool.{cases_Bool, eqb-true, and_parts}
use Rattle.std.proofs.lemmas.Bool.Decides.{nat_tests}
use Rattle.std.specs.Char.{is_ascii_digit}
use Rattle.std.specs.List.{list_all}
use Rattle.std.specs.Str.Parse.{digits_value}
use Rattle.std.proofs.lemmas.Str.Parse.{IsNumeralModel, numerals_by_value}
use Rattle.std.proofs.lemmas.Fmt.{decimal-digits_value, digits_decimal, digits_value-decimal, length-decimal-le, decimal_nonempty, first_decimal, decimal_digit}
use Rattle.script_model.specs.declared.faults.LineFault.TheVariants.{BadNumber}
use Rattle.script_model.specs.Spelling.{number, offset, IsSpelled}
use Rattle.script_model.specs.Reading.{or_fault, has_leading_zero, number_of, number_at, offset_of, offset_at, negated, positive}
use Rattle.script_model.proofs.Steps.{IsReader, filled_ok, filled_is, or_fault_ok}

pub own : IsNumeralModel (λ ds. list_all is_ascii_digit ds ≡ true) (digits_value 10)
own = numerals_by_value (λ ds. list_all is_ascii_digit ds ≡ true) (search rules)

-- what number_of takes
pub record IsNumber (w : List ℕ) (n : ℕ) : Type 0 where
  pub some : 0 < length w
  pub few : length w ≤ 10
  pub digits : list_all is_ascii_digit w ≡ true
  pub no_zero : has_leading_zero w ≡ false
  pub small : digits_value 10 w < 2 ^ 32
  pub value : digits_value 10 w ≡ n

chain_some : (a b c d e : Bool) (v n : ℕ) → cond a None (cond b None (cond (not c) None (cond d None (cond e (Some v) None)))) ≡ Some n
    → (a ≡ false) × (b ≡ false) × (c ≡ true) × (d ≡ false) × (e ≡ true) × (v ≡ n)
chain_some true b c d e v n h = absurd cc
chain_some false true c d e v n h = absurd cc
chain_some false false false d e v n h = absurd cc
chain_some false false true true e v n h = absurd cc
chain_some false false true false false v n h = absurd cc
chain_some false false true false true v n h = (refl, refl, refl, refl, refl, cc)

is_empty : (n : ℕ) → eqb n 0 ≡ false → 0 < n
is_empty n h = grind (arith, nat_tests)

is_few : (n : ℕ) → ltb 10 n ≡ false → n ≤ 10
is_few n h = grind (arith, nat_tests)

is_small : (n : ℕ) → ltb n (2 ^ 32) ≡ true → n < 2 ^ 32
is_small n h = grind (arith, nat_tests)

pub number_of-some : (w : List ℕ) (n : ℕ) → number_of w ≡ Some n → IsNumber w n
unfolding number_of
number_of-some w n e =
    let h = chain_some (eqb (length w) 0) (ltb 10 (length w)) (list_all is_ascii_digit w) (has_leading_zero w) (ltb (digits_value 10 w) (2 ^ 32)) (digits_value 10 w) n e in
    record { some = is_empty (length w) h.0; few = is_few (length w) h.1; digits = h.2; no_zero = h.3; small = is_small (digits_value 10 w) h.4; value = h.5 }

empty_is : (n : ℕ) → 0 < n → eqb n 0 ≡ false
empty_is n h = grind (arith, nat_tests)

few_is : (n : ℕ) → n ≤ 10 → ltb 10 n ≡ false
few_is n h = grind (arith, nat_tests)

small_is : (n : ℕ) → n < 2 ^ 32 → ltb n (2 ^ 32) ≡ true
small_is n h = grind (arith, nat_tests)

pub number_of-is : (w : List ℕ) (n : ℕ) → IsNumber w n → number_of w ≡ Some n
unfolding number_of
number_of-is w n h = rw (empty_is (length w) h.some, few_is (length w) h.few, h.digits, h.no_zero, small_is (digits_value 10 w) h.small) (ap Some h.value)

leading : (w : List ℕ) → has_leading_zero w ≡ false → get_or w 0 0 ≡ 48 → length w ≡ 1
leading w h e = grind (arith, nat_tests)

pub number_is_decimal : (w : List ℕ) (n : ℕ) → IsNumber w n → (n < 2 ^ 32) × (w ≡ decimal n)
number_is_decimal w n h =
    let same = decimal-digits_value own w h.digits h.some (leading w h.no_zero) (omega (arith, h.small)) in
    (omega (arith, h.small, h.value), sym same ∙ ap decimal h.value)

above_zero : (w : List ℕ) → 48 < get_or w 0 0 → has_leading_zero w ≡ false
above_zero w f = grind (arith, nat_tests)

no_leading : (n : ℕ) → n < 2 ^ 32 → has_leading_zero (decimal n) ≡ false
no_leading zero lt = rw (decimal_digit 0 (omega arith)) refl
no_leading (suc n) lt =
    let f : 48 < get_or (decimal (suc n)) 0 0 = first_decimal (suc n) (omega arith) (omega arith) in
    above_zero (decimal (suc n)) f

pub decimal_is_number : (w : List ℕ) (n : ℕ) → n < 2 ^ 32 → w ≡ decimal n → IsNumber w n
decimal_is_number w n lt e =
    rw e (record {
      some = decimal_nonempty n (omega arith);
      few = length-decimal-le 10 n (omega arith) (omega arith) (omega arith);
      digits = digits_decimal own n (omega arith);
      no_zero = no_leading n lt;
      small = rw (digits_value-decimal own n (omega arith)) lt;
      value = digits_value-decimal own n (omega arith);
    })

pub number_reader : IsReader number number_at
number_reader = record {
  spells = λ w n e.
      let f = filled_ok w (or_fault BadNumber (number_of w)) n e in
      (number_is_decimal w n (number_of-some w n (or_fault_ok BadNumber (number_of w) n f.1)), f.0);
  again = λ w n some h.
      filled_is w (or_fault BadNumber (number_of w)) some ∙ ap (or_fault BadNumber) (number_of-is w n (decimal_is_number w n h.0 h.1));
}

-- ---- offsets

negated_is : (o : Option ℕ) (z : ℤ) → negated o ≡ Some z → (n : ℕ) × (o ≡ Some (suc n)) × (z ≡ negsuc n)
negated_is None z e = absurd cc
negated_is (Some zero) z e = absurd cc
negated_is (Some (suc n)) z e =
    let f : eqb (suc n) 0 ≡ false = grind (arith, nat_tests) in
    let g : Some (negsuc n) ≡ Some z = rw f at e in
    (n, refl, cc)

positive_is : (o : Option ℕ) (z : ℤ) → positive o ≡ Some z → (n : ℕ) × (o ≡ Some n) × (z ≡ pos n)
positive_is None z e = absurd cc
positive_is (Some n) z e = (n, refl, cc)

minus_spelled : (b : ℕ) (w : List ℕ) (z : ℤ) (n : ℕ) → b ≡ 45 → suc n < 2 ^ 32 → w ≡ decimal (suc n) → z ≡ negsuc n → IsSpelled (offset z) (b ∷ w)
minus_spelled b w z n first lt rest same = rw (same, first) (lt, ap (λ (t : List ℕ). 45 ∷ t) rest)

plain_spelled : (w : List ℕ) (z : ℤ) (n : ℕ) → (n < 2 ^ 32) × (w ≡ decimal n) → z ≡ pos n → IsSpelled (offset z) w
plain_spelled w z n h same = rw same h

offset_spells : (w : List ℕ) (z : ℤ) → offset_of w ≡ Some z → IsSpelled (offset z) w
offset_spells [] z e = absurd cc
offset_spells (b ∷ w) z e =
    elim (cases_Bool (eqb b 45)) [
      | inl minus ↦
          let s = negated_is (number_of w) z (rw minus at e) in
          let d = number_is_decimal w (suc s.0) (number_of-some w (suc s.0) s.1) in
          minus_spelled b w z s.0 (eqb-true b 45 minus) d.0 d.1 s.2
      | inr plain ↦
          let s = positive_is (number_of (b ∷ w)) z (rw plain at e) in
          plain_spelled (b ∷ w) z s.0 (number_is_decimal (b ∷ w) s.0 (number_of-some (b ∷ w) s.0 s.1)) s.2
    ]

no_minus : (b : ℕ) → is_ascii_digit b ≡ true → eqb b 45 ≡ false
no_minus b h = grind (arith, nat_tests)

negated_suc : (n : ℕ) → negated (Some (suc n)) ≡ Some (negsuc n)
negated_suc n = let f : eqb (suc n) 0 ≡ false = grind (arith, nat_tests) in rw f refl

offset_again : (w : List ℕ) (z : ℤ) → 0 < length w → IsSpelled (offset z) w → offset_of w ≡ Some z
offset_again [] z some h = absurd (omega arith)
offset_again (b ∷ w) (pos n) some h =
    let digits = (decimal_is_number (b ∷ w) n h.0 h.1).digits in
    let plain : eqb b 45 ≡ false = no_minus b (and_parts (is_ascii_digit b) (list_all is_ascii_digit w) digits).0 in
    rw (plain, number_of-is (b ∷ w) n (decimal_is_number (b ∷ w) n h.0 h.1)) refl
offset_again (b ∷ w) (negsuc n) some h =
    let first : b ≡ 45 = cc (h.1) in
    let rest : w ≡ decimal (suc n) = cc (h.1) in
    let minus : eqb b 45 ≡ true = eq-eqb b 45 first in
    rw (minus, number_of-is w (suc n) (decimal_is_number w (suc n) h.0 rest)) (negated_suc n)

pub offset_reader : IsReader offset offset_at
offset_reader = record {
  spells = λ w z e.
      let f = filled_ok w (or_fault BadNumber (offset_of w)) z e in
      (offset_spells w z (or_fault_ok BadNumber (offset_of w) z f.1), f.0);
  again = λ w z some h.
      filled_is w (or_fault BadNumber (offset_of w)) some ∙ ap (or_fault BadNumber) (offset_again w z some h);
}
