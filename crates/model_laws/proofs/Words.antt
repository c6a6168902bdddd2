-- Words, and the last one of a line.
use Rattle.std.proofs.Common.{◌≡◌, ℕ, zero, suc, ◌+◌, ◌-◌, ◌/◌, ◌%◌, ◌<◌, Bool, true, false, not, ◌&&◌, List, [], ◌∷◌, ◌++◌, length, take, drop, refl, sym, ap, ◌∙◌, subst, arith, append_assoc, append-nil}
use Rattle.std.specs.Prelude.{◌==◌, if◌then◌else◌, nat_lt, decimal, get_or, IsTrue}
use Rattle.std.specs.Cmp.Derive.{both_true}
use Rattle.std.specs.Fmt.{digits, digits_onto, digit_glyph}
use Rattle.std.specs.List.{list_all, AllByRecursion}
use Rattle.std.proofs.lemmas.Bool.Decides.{nat_tests}
use Rattle.std.proofs.lemmas.List.{take-append-drop}
use Rattle.std.proofs.lemmas.List.Folds.{list_all-append}
use Rattle.std.proofs.lemmas.Slice.Eq.{bytes_eq-Decides}
use Rattle.apex_model.specs.Run.{hex_digit, hex_text, data_text, spaced}
use Rattle.apex_model.specs.Texts.{Text}
use Rattle.apex_model.specs.ToldText.{ends_in, HasNoFeed}
use Rattle.apex_model.proofs.AcceptedTables.{and-left, and-right}

-- neither a space, a line feed nor another byte below them
abbrev pub is_visible : ℕ → Bool
is_visible b = nat_lt 32 b

abbrev pub IsWord : Text → Type 0
IsWord text = IsTrue (list_all is_visible text)

-- a byte that may stand in a number, in hexadecimal text or as the dot, and neither O nor D
abbrev pub is_figure : ℕ → Bool
is_figure b = nat_lt 32 b && (not (b == 79) && not (b == 68))

abbrev pub AreFigures : Text → Type 0
AreFigures text = IsTrue (list_all is_figure text)

weaker : (p q : ℕ → Bool) → ((b : ℕ) → p b ≡ true → q b ≡ true) → (text : Text) → IsTrue (list_all p text) → IsTrue (list_all q text)
weaker p q h [] all = refl
weaker p q h (b ∷ text) all = both_true (h b (and-left (p b) _ all)) (weaker p q h text (and-right (p b) _ all))

figures-word : (text : Text) → AreFigures text → IsWord text
figures-word = weaker is_figure is_visible (λ b h. and-left (nat_lt 32 b) _ h)

-- ---- numbers and data

low-figure : (b : ℕ) → 32 < b → b < 68 → is_figure b ≡ true
low-figure b low high = both_true (let t : nat_lt 32 b ≡ true = grind (arith, nat_tests, low) in t)
    (both_true (let t : not (b == 79) ≡ true = grind (arith, nat_tests, high) in t) (let t : not (b == 68) ≡ true = grind (arith, nat_tests, high) in t))

high-figure : (b : ℕ) → 79 < b → is_figure b ≡ true
high-figure b low = both_true (let t : nat_lt 32 b ≡ true = grind (arith, nat_tests, low) in t)
    (both_true (let t : not (b == 79) ≡ true = grind (arith, nat_tests, low) in t) (let t : not (b == 68) ≡ true = grind (arith, nat_tests, low) in t))

glyph-figure : (n : ℕ) → is_figure (digit_glyph false n) ≡ true
glyph-figure n = elim (nat_lt n 10) as (λ t. nat_lt n 10 ≡ t → is_figure (if t then 48 + n else 87 + n) ≡ true) [
  | true ↦ λ e. let few : n < 10 = grind (arith, nat_tests) in low-figure (48 + n) (omega arith) (omega (arith, few))
  | false ↦ λ e. high-figure (87 + n) (omega arith)
] refl

digits-figures : (k n : ℕ) (more : Text) → AreFigures more → AreFigures (digits_onto k 10 false n more)
digits-figures zero n more h = h
digits-figures (suc k) n more h =
    let front : AreFigures (digit_glyph false (n % 10) ∷ more) = both_true (glyph-figure (n % 10)) h in
    elim (n / 10 == 0) as (λ t. AreFigures (if t then digit_glyph false (n % 10) ∷ more else digits_onto k 10 false (n / 10) (digit_glyph false (n % 10) ∷ more))) [
      | true ↦ front
      | false ↦ digits-figures k (n / 10) (digit_glyph false (n % 10) ∷ more) front
    ]

pub decimal-figures : (n : ℕ) → AreFigures (decimal n)
unfolding digits
decimal-figures n = digits-figures 64 n [] refl

hex_digit-figure : (n : ℕ) → is_figure (hex_digit n) ≡ true
hex_digit-figure n = elim (nat_lt n 10) as (λ t. nat_lt n 10 ≡ t → is_figure (if t then n + 48 else n + 87) ≡ true) [
  | true ↦ λ e. let few : n < 10 = grind (arith, nat_tests) in low-figure (n + 48) (omega arith) (omega (arith, few))
  | false ↦ λ e. high-figure (n + 87) (omega arith)
] refl

hex_text-figures : (bytes : List ℕ) → AreFigures (hex_text bytes)
hex_text-figures [] = refl
hex_text-figures (b ∷ bytes) = both_true (hex_digit-figure (b / 16)) (both_true (hex_digit-figure (b % 16)) (hex_text-figures bytes))

pub data_text-figures : (bytes : List ℕ) → AreFigures (data_text bytes)
data_text-figures [] = refl
data_text-figures (b ∷ bytes) = hex_text-figures (b ∷ bytes)

pub decimal-word : (n : ℕ) → IsWord (decimal n)
decimal-word n = figures-word (decimal n) (decimal-figures n)

pub data_text-word : (bytes : List ℕ) → IsWord (data_text bytes)
data_text-word bytes = figures-word (data_text bytes) (data_text-figures bytes)

-- ---- no line feed

visible-no_feed : (b : ℕ) → is_visible b ≡ true → not (b == 10) ≡ true
visible-no_feed b h = grind (arith, nat_tests)

pub word-no_feed : (text : Text) → IsWord text → HasNoFeed text
word-no_feed = weaker is_visible (λ b. not (b == 10)) visible-no_feed

pub joined-no_feed : (front back : Text) → HasNoFeed front → HasNoFeed back → HasNoFeed (front ++ back)
joined-no_feed front back h k = list_all-append (λ b. not (b == 10)) front back ∙ both_true h k

pub spaced-no_feed : (words : List Text) → AllByRecursion IsWord words → HasNoFeed (spaced words)
spaced-no_feed [] h = refl
spaced-no_feed (word ∷ words) h = joined-no_feed (32 ∷ word) (spaced words) (word-no_feed word h.0) (spaced-no_feed words h.1)

-- ---- the last word

-- the last of a word and those after it
abbrev pub last_word : Text → List Text → Text
last_word word [] = word
last_word word (next ∷ words) = last_word next words

-- what stands before the last of them, where the first comes after this text
abbrev pub before_last : Text → Text → List Text → Text
before_last front word [] = front
before_last front word (next ∷ words) = before_last (front ++ 32 ∷ word) next words

pub ends-in_last : (front word : Text) (words : List Text) → front ++ spaced (word ∷ words) ≡ before_last front word words ++ 32 ∷ last_word word words
ends-in_last front word [] = ap (λ (t : Text). front ++ 32 ∷ t) (append-nil word)
ends-in_last front word (next ∷ words) = sym (append_assoc front (32 ∷ word) (spaced (next ∷ words))) ∙ ends-in_last (front ++ 32 ∷ word) next words

-- a word has no space
no-space : (front back : Text) → IsWord (front ++ 32 ∷ back) → ⊥
no-space [] back h = let e : false ≡ true = h in cc
no-space (b ∷ front) back h = no-space front back (and-right (is_visible b) _ h)

-- a text has one last word
pub one-last : (a b u v : Text) → IsWord u → IsWord v → a ++ 32 ∷ u ≡ b ++ 32 ∷ v → (a ≡ b) × (u ≡ v)
one-last [] [] u v h k e = (refl, ap (λ (t : Text). drop 1 t) e)
one-last [] (y ∷ b) u v h k e = let same : u ≡ b ++ 32 ∷ v = ap (λ (t : Text). drop 1 t) e in absurd (no-space b v (subst IsWord same h))
one-last (x ∷ a) [] u v h k e = let same : v ≡ a ++ 32 ∷ u = ap (λ (t : Text). drop 1 t) (sym e) in absurd (no-space a u (subst IsWord same k))
one-last (x ∷ a) (y ∷ b) u v h k e =
    let head : x ≡ y = ap (λ (t : Text). get_or t 0 0) e in
    let rest = one-last a b u v h k (let t : a ++ 32 ∷ u ≡ b ++ 32 ∷ v = ap (λ (t : Text). drop 1 t) e in t) in
    (ap (λ n. n ∷ a) head ∙ ap (λ (t : Text). y ∷ t) rest.0, rest.1)

-- what ends in a text is something in front of it
pub front-of : (end text : Text) → ends_in end text ≡ true → (front : Text) × (text ≡ front ++ end)
front-of end text e =
    let n = length text - length end in
    let same : drop n text ≡ end = (bytes_eq-Decides (drop n text) end).0 e in
    (take n text, sym (take-append-drop n text) ∙ ap (λ (t : Text). take n text ++ t) same)
