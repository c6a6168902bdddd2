-- Data: what is read is spelled so, in small digits or capital ones.
use Rattle.std.proofs.Common.{◌≡◌, ℕ, zero, suc, ◌+◌, ◌*◌, ◌/◌, ◌%◌, ◌<◌, ◌≤◌, ◌&&◌, Bool, true, false, cond, eqb, ltb, List, [], ◌∷◌, length, map, slice_index, Option, Some, None, Result, Ok, Err, refl, sym, ap, ◌∙◌, arith, codes, bytes_eq, inl, inr}
use Rattle.std.proofs.lemmas.Bool.{cases_Bool, cases_lt, and_parts, eqb-true}
use Rattle.std.proofs.lemmas.Bool.Decides.{nat_tests}
use Rattle.std.proofs.lemmas.Slice.Eq.{bytes_eq-Decides}
use Rattle.hex.specs.Hex.{decode_of, decode_pairs, digit_or_error, hex_digit_value, encode_lower, encode_with, lower_digits, pair_value, value_at, ◌>>=◌}
use Rattle.hex.specs.declared.error.FromHexError.{FromHexError}
use Rattle.hex.proofs.HexLemmas.{decode_of-even, decode_of-ok, decode_of-encode_lower}
use Rattle.script_model.specs.declared.faults.LineFault.{LineFault}
use Rattle.script_model.specs.Spelling.{bytes, small_digit, data_text, IsSpelled}
use Rattle.script_model.specs.Reading.{data_or_fault, data_at}
use Rattle.script_model.proofs.Steps.{IsReader, filled_ok, filled_is}

-- ---- one digit

-- the test of one digit, which computes
abbrev reads_small : ℕ → Option ℕ → Bool
reads_small c None = true
reads_small c (Some v) = ltb v 16 && eqb (slice_index lower_digits v) (small_digit c)

abbrev all_read_small : ℕ → Bool
all_read_small zero = true
all_read_small (suc n) = reads_small n (hex_digit_value n) && all_read_small n

all_read_small-at : (n c : ℕ) → all_read_small n ≡ true → c < n → reads_small c (hex_digit_value c) ≡ true
all_read_small-at zero c h lt = absurd (omega arith)
all_read_small-at (suc n) c h lt =
    let parts = and_parts (reads_small n (hex_digit_value n)) (all_read_small n) h in
    elim (cases_lt c n) [
      | inl below ↦ all_read_small-at n c parts.1 below
      | inr top ↦ let e : c ≡ n = omega arith in rw e parts.0
    ]

past_digits : (c : ℕ) → 128 ≤ c → hex_digit_value c ≡ None
past_digits c h = grind (arith, nat_tests)

below_sixteen : (v : ℕ) → ltb v 16 ≡ true → v < 16
below_sixteen v h = grind (arith, nat_tests)

-- the digit of a value is the small one
pub small_of_value : (c v : ℕ) → hex_digit_value c ≡ Some v → (v < 16) × (slice_index lower_digits v ≡ small_digit c)
small_of_value c v h =
    elim (cases_lt c 128) [
      | inl below ↦
          let t = all_read_small-at 128 c refl below in
          let p = and_parts (ltb v 16) (eqb (slice_index lower_digits v) (small_digit c)) (rw h at t) in
          (below_sixteen v p.0, eqb-true (slice_index lower_digits v) (small_digit c) p.1)
      | inr past ↦ absurd (cc (past_digits c past))
    ]

-- a small digit has the same value
same_value : (c : ℕ) → hex_digit_value (small_digit c) ≡ hex_digit_value c
same_value c = grind (arith, nat_tests)

-- ---- pairs of digits

bind_ok : {A B : Type 0} (r : Result A FromHexError) (f : A → Result B FromHexError) (y : B) → (r >>= f) ≡ Ok y → (x : A) × (r ≡ Ok x) × (f x ≡ Ok y)
bind_ok (Ok x) f y e = (x, refl, e)
bind_ok (Err d) f y e = absurd cc

digit_ok : (c i : ℕ) (o : Option ℕ) (v : ℕ) → digit_or_error c i o ≡ Ok v → o ≡ Some v
digit_ok c i (Some w) v h = cc
digit_ok c i None v h = absurd cc

-- what two digits read as
pub record IsPair (a b byte : ℕ) : Type 0 where
  pub high : ℕ
  pub low : ℕ
  pub first : hex_digit_value a ≡ Some high
  pub second : hex_digit_value b ≡ Some low
  pub whole : high * 16 + low ≡ byte

pair_ok : (a b i byte : ℕ) → pair_value a b i ≡ Ok byte → IsPair a b byte
pair_ok a b i byte e =
    let h = bind_ok (value_at a i) (λ h. value_at b (i + 1) >>= λ l. Ok (h * 16 + l)) byte e in
    let l = bind_ok (value_at b (i + 1)) (λ l. Ok (h.0 * 16 + l)) byte h.2 in
    record {
      high = h.0;
      low = l.0;
      first = digit_ok a i (hex_digit_value a) h.0 h.1;
      second = digit_ok b (i + 1) (hex_digit_value b) l.0 l.1;
      whole = cc (l.2);
    }

pair_is : (a b i byte : ℕ) → IsPair a b byte → pair_value a b i ≡ Ok byte
pair_is a b i byte h = rw (h.first, h.second) (ap (λ (x : ℕ). Ok x) h.whole)

pair_digits : (a b byte : ℕ) → IsPair a b byte → (slice_index lower_digits (byte / 16) ≡ small_digit a) × (slice_index lower_digits (byte % 16) ≡ small_digit b)
pair_digits a b byte h =
    let p = small_of_value a h.high h.first in
    let q = small_of_value b h.low h.second in
    let hi : byte / 16 ≡ h.high = omega (arith, p.0, q.0, h.whole) in
    let lo : byte % 16 ≡ h.low = omega (arith, p.0, q.0, h.whole) in
    (ap (slice_index lower_digits) hi ∙ p.1, ap (slice_index lower_digits) lo ∙ q.1)

pair_encoded : (a b byte : ℕ) (rest bs s : List ℕ) → bs ≡ byte ∷ rest → slice_index lower_digits (byte / 16) ≡ small_digit a → slice_index lower_digits (byte % 16) ≡ small_digit b
    → encode_with lower_digits rest ≡ map small_digit s → encode_with lower_digits bs ≡ small_digit a ∷ small_digit b ∷ map small_digit s
unfolding encode_with
pair_encoded a b byte rest bs s made high low tail = rw (made, high, low, tail) refl

-- the small digits of what was decoded
pub decoded_small : (i : ℕ) (s bs : List ℕ) → decode_pairs i s ≡ Ok bs → encode_with lower_digits bs ≡ map small_digit s
unfolding decode_pairs encode_with
decoded_small i [] bs e = let n : bs ≡ [] = cc in rw n refl
decoded_small i (a ∷ []) bs e = absurd cc
decoded_small i (a ∷ b ∷ s) bs e =
    let x = bind_ok (pair_value a b i) (λ byte. decode_pairs (i + 2) s >>= λ rest. Ok (byte ∷ rest)) bs e in
    let y = bind_ok (decode_pairs (i + 2) s) (λ rest. Ok (x.0 ∷ rest)) bs x.2 in
    let made : bs ≡ x.0 ∷ y.0 = cc (y.2) in
    let d = pair_digits a b x.0 (pair_ok a b i x.0 x.1) in
    pair_encoded a b x.0 y.0 bs s made d.0 d.1 (decoded_small (i + 2) s y.0 y.1)

-- small digits decode as the digits that they were made of
pub small_decoded : (i : ℕ) (s bs : List ℕ) → decode_pairs i (map small_digit s) ≡ Ok bs → decode_pairs i s ≡ Ok bs
unfolding decode_pairs
small_decoded i [] bs e = e
small_decoded i (a ∷ []) bs e = absurd cc
small_decoded i (a ∷ b ∷ s) bs e =
    let x = bind_ok (pair_value (small_digit a) (small_digit b) i) (λ byte. decode_pairs (i + 2) (map small_digit s) >>= λ rest. Ok (byte ∷ rest)) bs e in
    let y = bind_ok (decode_pairs (i + 2) (map small_digit s)) (λ rest. Ok (x.0 ∷ rest)) bs x.2 in
    let p = pair_ok (small_digit a) (small_digit b) i x.0 x.1 in
    let q : IsPair a b x.0 = record { high = p.high; low = p.low; first = sym (same_value a) ∙ p.first; second = sym (same_value b) ∙ p.second; whole = p.whole } in
    let here : pair_value a b i ≡ Ok x.0 = pair_is a b i x.0 q in
    rw (here, small_decoded (i + 2) s y.0 y.1) (y.2)

-- ---- the whole word

nonempty_text : (bs : List ℕ) → 0 < length bs → data_text bs ≡ encode_lower bs
nonempty_text [] h = absurd (omega arith)
nonempty_text (b ∷ bs) h = refl

decoded_spells : (w bs : List ℕ) → 0 < length w → decode_of w ≡ Ok bs → IsSpelled (bytes bs) w
decoded_spells w bs some e =
    let k = decode_of-ok w bs e in
    let pairs : decode_pairs 0 w ≡ Ok bs = sym (decode_of-even w k.0) ∙ e in
    (k.3, sym (nonempty_text bs (omega (arith, k.2)) ∙ decoded_small 0 w bs pairs))

data_ok : (r : Result (List ℕ) FromHexError) (bs : List ℕ) → data_or_fault r ≡ Ok bs → r ≡ Ok bs
data_ok (Ok x) bs e = cc
data_ok (Err d) bs e = absurd cc

dot_spells : (w bs : List ℕ) → w ≡ codes "." → bs ≡ [] → IsSpelled (bytes bs) w
dot_spells w bs dot none = rw (dot, none) ((λ i. omega arith), refl)

abbrev ok_bytes : List ℕ → Result (List ℕ) LineFault
ok_bytes bs = Ok bs

data_spells : (w bs : List ℕ) → 0 < length w → cond (bytes_eq w (codes ".")) (ok_bytes []) (data_or_fault (decode_of w)) ≡ Ok bs → IsSpelled (bytes bs) w
data_spells w bs some e =
    elim (cases_Bool (bytes_eq w (codes "."))) [
      | inl dot ↦
          let g : ok_bytes [] ≡ Ok bs = rw dot at e in
          let none : bs ≡ [] = cc in
          dot_spells w bs ((bytes_eq-Decides w (codes ".")).0 dot) none
      | inr other ↦ decoded_spells w bs some (data_ok (decode_of w) bs (rw other at e))
    ]

-- a dot is no digit
small_dot : (c : ℕ) → small_digit c ≡ 46 → c ≡ 46
small_dot c h = grind (arith, nat_tests)

dot_again : (w : List ℕ) → map small_digit w ≡ 46 ∷ [] → w ≡ 46 ∷ []
dot_again [] h = absurd cc
dot_again (c ∷ []) h = let e : small_digit c ≡ 46 = cc in rw (small_dot c e) refl
dot_again (c ∷ d ∷ w) h = absurd cc

length_small : (w : List ℕ) → length (map small_digit w) ≡ length w
length_small [] = refl
length_small (c ∷ w) = ap suc (length_small w)

first_small : (w : List ℕ) → w ≡ 46 ∷ [] → slice_index (map small_digit w) 0 ≡ 46
first_small w e = rw e refl

decode_of-small : (w bs : List ℕ) → decode_of (map small_digit w) ≡ Ok bs → decode_of w ≡ Ok bs
decode_of-small w bs e =
    let k = decode_of-ok (map small_digit w) bs e in
    let even : length w % 2 ≡ 0 = rw (length_small w) at k.0 in
    let pairs : decode_pairs 0 (map small_digit w) ≡ Ok bs = sym (decode_of-even (map small_digit w) k.0) ∙ e in
    decode_of-even w even ∙ small_decoded 0 w bs pairs

decoded_again : (w bs : List ℕ) → 0 < length bs → IsSpelled (bytes bs) w → decode_of w ≡ Ok bs
decoded_again w bs some h =
    let text : map small_digit w ≡ encode_lower bs = h.1 ∙ nonempty_text bs some in
    decode_of-small w bs (ap decode_of text ∙ decode_of-encode_lower bs h.0)

-- digits come in pairs, so a word that decodes is no dot
no_dot : (w bs : List ℕ) → decode_of w ≡ Ok bs → bytes_eq w (codes ".") ≡ false
no_dot w bs e =
    elim (cases_Bool (bytes_eq w (codes "."))) [
      | inl dot ↦
          let k = decode_of-ok w bs e in
          let same : w ≡ codes "." = (bytes_eq-Decides w (codes ".")).0 dot in
          let len : length w ≡ 1 = rw same refl in
          absurd (omega (arith, k.0, len))
      | inr other ↦ other
    ]

data_again : (w bs : List ℕ) → IsSpelled (bytes bs) w → cond (bytes_eq w (codes ".")) (ok_bytes []) (data_or_fault (decode_of w)) ≡ Ok bs
data_again w [] h = rw (dot_again w h.1) refl
data_again w (b ∷ bs) h =
    let d = decoded_again w (b ∷ bs) (omega arith) h in
    rw (no_dot w (b ∷ bs) d, d) refl

pub data_reader : IsReader bytes data_at
data_reader = record {
  spells = λ w bs e.
      let f = filled_ok w (cond (bytes_eq w (codes ".")) (ok_bytes []) (data_or_fault (decode_of w))) bs e in
      (data_spells w bs f.0 f.1, f.0);
  again = λ w bs some h.
      filled_is w (cond (bytes_eq w (codes ".")) (ok_bytes []) (data_or_fault (decode_of w))) some ∙ data_again w bs h;
}
