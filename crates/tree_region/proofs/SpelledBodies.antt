-- Numbers of four bytes that were written one behind the other.
use Rattle.std.proofs.Common.{◌≡◌, ℕ, zero, suc, ◌+◌, ◌-◌, ◌*◌, ◌≤◌, List, [], ◌∷◌, ◌++◌, length, take, drop, replicate, refl, sym, ap, ◌∙◌, arith, append_assoc, length-append}
use Rattle.std.proofs.lemmas.List.{append-nil, drop-drop, length-take, length-drop}
use Rattle.std.proofs.lemmas.List.FromFn.{map-range_with_len_more}
use Rattle.std.proofs.lemmas.Slice.{take-put_mid_below, between-put_mid}
use Rattle.apex_model.specs.Fields.{number_of, part}
use Rattle.file_tree.proofs.Written.{part-same}
use Rattle.tree_region.specs.Numbers.{with_room}
use Rattle.tree_region.specs.Words.{word, words}
use borrow.Rule.Slice.PartMut.{put_mid}

-- one more number
pub words-next : (n : ℕ) (xs : List ℕ) → words (n + 1) xs ≡ words n xs ++ word xs n ∷ []
unfolding words
words-next n xs = map-range_with_len_more (word xs) 0 n n (omega arith)

-- they are the same where the front of the bytes is
pub words-same : (n q : ℕ) (xs ys : List ℕ) → 4 * n ≤ q → take q xs ≡ take q ys → words n xs ≡ words n ys
unfolding words
words-same zero q xs ys few same = refl
words-same (suc n) q xs ys few same =
    let e : suc n ≡ n + 1 = omega arith in
    let own : word xs n ≡ word ys n = ap number_of (part-same (4 * n) 4 q xs ys (omega (arith, few)) same) in
    let before : words n xs ≡ words n ys = words-same n q xs ys (omega (arith, few)) same in
    ap (λ m. words m xs) e ∙ words-next n xs ∙ (λ i. before i ++ own i ∷ []) ∙ sym (words-next n ys) ∙ ap (λ m. words m ys) (sym e)

-- a number that is written behind others
module _ (n : ℕ) (xs four : List ℕ) (room : 4 * n + 4 ≤ length xs) (long : length four ≡ 4) where
  abbrev pub written : List ℕ
  written = put_mid (4 * n) (4 * n + 4 - 4 * n) xs four

  width : 4 * n + 4 - 4 * n ≡ 4
  width = omega arith

  written-here : part written (4 * n) 4 ≡ four
  written-here =
      ap (λ m. take m (drop (4 * n) written)) (sym width) ∙ between-put_mid (4 * n) (4 * n + 4 - 4 * n) xs four (4 * n + 4) (omega (arith, room)) (long ∙ sym width)

  pub written-long : length written ≡ length xs
  written-long =
      let m = 4 * n + 4 - 4 * n in
      omega (arith, length-append (take (4 * n) xs) (four ++ drop m (drop (4 * n) xs)), length-append four (drop m (drop (4 * n) xs)), length-take (4 * n) xs, length-drop m (drop (4 * n) xs), length-drop (4 * n) xs, long, room)

  pub words-written : words (n + 1) written ≡ words n xs ++ number_of four ∷ []
  words-written =
      let before : words n written ≡ words n xs
      = words-same n (4 * n) written xs (omega arith) (take-put_mid_below (4 * n) (4 * n + 4 - 4 * n) xs four (4 * n) (omega arith) (omega (arith, room))) in
      words-next n written ∙ (λ i. before i ++ number_of (written-here i) ∷ [])

-- ---- zeros behind them

zeros-front : (k n : ℕ) → number_of (take k (replicate n 0)) ≡ 0
zeros-front zero n = refl
zeros-front (suc k) zero = refl
zeros-front (suc k) (suc n) = ap (λ m. 0 + 256 * m) (zeros-front k n) ∙ omega arith

pub zeros-behind : (k n : ℕ) → drop k (replicate {A = ℕ} n 0) ≡ replicate (n - k) 0
zeros-behind zero n = ap (λ m. replicate {A = ℕ} m 0) (omega arith)
zeros-behind (suc k) zero = let e : 0 - suc k ≡ 0 = omega arith in ap (λ m. replicate {A = ℕ} m 0) (sym e)
zeros-behind (suc k) (suc n) = let e : n - k ≡ suc n - suc k = omega arith in zeros-behind k n ∙ ap (λ m. replicate {A = ℕ} m 0) e

one-more : (n : ℕ) → replicate {A = ℕ} n 0 ++ 0 ∷ [] ≡ replicate (suc n) 0
one-more zero = refl
one-more (suc n) = ap (λ xs. 0 ∷ xs) (one-more n)

module _ (xs numbers : List ℕ) (count zeros : ℕ) (is : words count xs ≡ numbers) (behind : drop (4 * count) xs ≡ replicate zeros 0) where
  zero-there : (k : ℕ) → word xs (count + k) ≡ 0
  zero-there k =
      let place : 4 * count + 4 * k ≡ 4 * (count + k) = omega arith in
      ap (λ m. number_of (take 4 (drop m xs))) (sym place) ∙ ap (λ ys. number_of (take 4 ys)) (sym (drop-drop (4 * k) (4 * count) xs) ∙ ap (drop (4 * k)) behind ∙ zeros-behind (4 * k) zeros)
      ∙ zeros-front 4 (zeros - 4 * k)

  more-zeros : (k : ℕ) → words (count + k) xs ≡ numbers ++ replicate k 0
  more-zeros zero = let e : count + 0 ≡ count = omega arith in ap (λ m. words m xs) e ∙ is ∙ sym (append-nil numbers)
  more-zeros (suc k) =
      let e : count + suc k ≡ count + k + 1 = omega arith in
      ap (λ m. words m xs) e ∙ words-next (count + k) xs ∙ (λ i. more-zeros k i ++ zero-there k i ∷ []) ∙ append_assoc numbers (replicate k 0) (0 ∷ []) ∙ ap (λ ys. numbers ++ ys) (one-more k)

  -- so many numbers, and 0 behind them
  pub words-room : (room : ℕ) → count ≤ room → length numbers ≡ count → words room xs ≡ with_room room numbers
  words-room room few long =
      let e : count + (room - count) ≡ room = omega (arith, few) in
      let f : room - count ≡ room - length numbers = omega (arith, long) in
      ap (λ m. words m xs) (sym e) ∙ more-zeros (room - count) ∙ ap (λ m. numbers ++ replicate m 0) f
