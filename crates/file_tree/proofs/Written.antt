-- What a body has where entries and a header were written.
use Rattle.std.proofs.Common.{◌≡◌, ℕ, ◌+◌, ◌-◌, ◌*◌, ◌<◌, ◌≤◌, Bool, true, false, cond, ◌&&◌, ◌||◌, ◌==◌, List, [], ◌∷◌, ◌++◌, length, take, drop, set, refl, sym, ap, ◌∙◌, Option, Some, None, arith, length-append, nat_le}
use Rattle.std.proofs.lemmas.Bool.Decides.{nat_tests}
use Rattle.std.proofs.lemmas.List.{drop-drop, drop-take, take-take, take_at, drop_at, drop-set-lt, set-set, set-append_left, length-take, length-drop, length-set}
use Rattle.std.proofs.lemmas.Slice.{take-put_mid_below, drop-put_mid, between-put_mid}
use Rattle.apex_model.specs.Fields.{part, is_padding, header_of}
use Rattle.apex_model.specs.Image.{entry_bytes}
use Rattle.file_tree.proofs.Children.{and-first, and-second}
use borrow.Rule.Slice.PartMut.{put_mid}

-- a part is the same where the front of the bytes is
pub part-same : (p count q : ℕ) (xs ys : List ℕ) → p + count ≤ q → take q xs ≡ take q ys → part xs p count ≡ part ys p count
part-same p count q xs ys few same =
    sym (drop-take p count xs) ∙ ap (drop p) (sym (take-take (p + count) q xs few) ∙ ap (take (p + count)) same ∙ take-take (p + count) q ys few) ∙ drop-take p count ys

-- the bytes of an entry, as a range
pub entry-range : (body : List ℕ) (k : ℕ) → take (64 + 128 * k + 128 - (64 + 128 * k)) (drop (64 + 128 * k) body) ≡ entry_bytes body k
entry-range body k = let e : 64 + 128 * k + 128 - (64 + 128 * k) ≡ 128 = omega arith in ap (λ n. take n (drop (64 + 128 * k) body)) e

-- an entry that is written in its place
module _ (start k : ℕ) (body bytes : List ℕ) (room : 64 + 128 * (start + k) + 128 ≤ length body) (long : length bytes ≡ 128) where
  abbrev pub written : List ℕ
  written = put_mid (64 + 128 * (start + k)) (64 + 128 * (start + k) + 128 - (64 + 128 * (start + k))) body bytes

  one-long : 64 + 128 * (start + k) + 128 - (64 + 128 * (start + k)) ≡ 128
  one-long = omega arith

  pub written-long : length written ≡ length body
  written-long =
      let a = 64 + 128 * (start + k) in
      let n = 64 + 128 * (start + k) + 128 - (64 + 128 * (start + k)) in
      omega (arith, length-append (take a body) (bytes ++ drop n (drop a body)), length-append bytes (drop n (drop a body)), length-take a body, length-drop n (drop a body), length-drop a body, long, room)

  pub written-here : entry_bytes written (start + k) ≡ bytes
  written-here =
      sym (entry-range written (start + k))
      ∙ between-put_mid (64 + 128 * (start + k)) (64 + 128 * (start + k) + 128 - (64 + 128 * (start + k))) body bytes (64 + 128 * (start + k) + 128) (omega (arith, room)) (long ∙ sym one-long)

  written-below : take (64 + 128 * (start + k)) written ≡ take (64 + 128 * (start + k)) body
  written-below = take-put_mid_below (64 + 128 * (start + k)) (64 + 128 * (start + k) + 128 - (64 + 128 * (start + k))) body bytes (64 + 128 * (start + k)) (omega arith) (omega (arith, room))

  pub written-there : (j : ℕ) → j < k → entry_bytes written (start + j) ≡ entry_bytes body (start + j)
  written-there j less = part-same (64 + 128 * (start + j)) 128 (64 + 128 * (start + k)) written body (omega arith) written-below

  pub written-front : take (64 + 128 * start) written ≡ take (64 + 128 * start) body
  written-front = take-put_mid_below (64 + 128 * (start + k)) (64 + 128 * (start + k) + 128 - (64 + 128 * (start + k))) body bytes (64 + 128 * start) (omega arith) (omega (arith, room))

  pub written-behind : drop (64 + 128 * (start + (k + 1))) written ≡ drop (64 + 128 * (start + (k + 1))) body
  written-behind =
      drop-put_mid (64 + 128 * (start + k)) (64 + 128 * (start + k) + 128 - (64 + 128 * (start + k))) body bytes (64 + 128 * (start + (k + 1))) (omega arith) (omega (arith, room)) (long ∙ sym one-long)

-- what is the same behind a place is the same behind a later one
pub drop-later : (p q : ℕ) (xs ys : List ℕ) → p ≤ q → drop p xs ≡ drop p ys → drop q xs ≡ drop q ys
drop-later p q xs ys less same =
    let e : p + (q - p) ≡ q = omega (arith, less) in
    ap (λ n. drop n xs) (sym e) ∙ sym (drop-drop (q - p) p xs) ∙ ap (drop (q - p)) same ∙ drop-drop (q - p) p ys ∙ ap (λ n. drop n ys) e

-- ---- the header

some-of : {A : Type 0} (b : Bool) (x y : A) → cond b (Some x) None ≡ Some y → (b ≡ true) × (x ≡ y)
some-of {A} true x y h = (refl, let e : ◌≡◌ {A = Option A} (Some x) (Some y) = h in cc)
some-of {A} false x y h = absurd (let e : ◌≡◌ {A = Option A} None (Some y) = h in cc)

within-two : (sequence : ℕ) → sequence ≤ 2 → nat_le sequence 2 ≡ true
within-two sequence few = grind (arith, nat_tests)

-- a header of version 2 stays one with another sequence number
header-set : (b : List ℕ) (sequence : ℕ) → 2 ≤ length b → header_of b ≡ Some (0, 2) → sequence ≤ 2 → header_of (set b 0 sequence) ≡ Some (sequence, 2)
header-set [] sequence long h few = absurd (omega (arith, long))
header-set (x ∷ []) sequence long h few = absurd (omega (arith, long))
header-set (x ∷ y ∷ rest) sequence long h few =
    let s = some-of (nat_le x 2 && ((y == 1) || (y == 2)) && is_padding rest) (x, y) (0, 2) h in
    let version : y ≡ 2 = ap (λ (p : ℕ × ℕ). p.1) s.1 in
    let one : nat_le sequence 2 ≡ true = within-two sequence few in
    let two : ((y == 1) || (y == 2)) ≡ true = and-second (nat_le x 2) ((y == 1) || (y == 2)) (and-first (nat_le x 2 && ((y == 1) || (y == 2))) (is_padding rest) s.0) in
    let three : is_padding rest ≡ true = and-second (nat_le x 2 && ((y == 1) || (y == 2))) (is_padding rest) s.0 in
    λ i. cond (one i && two i && three i) (Some (sequence, version i)) None

-- the header that is written but for its sequence number
pub header-kept : (b rest : List ℕ) (first sequence : ℕ) → length b ≡ 64 → header_of b ≡ Some (0, 2) → sequence ≤ 2 → header_of (take 64 (set (set (b ++ rest) 0 first) 0 sequence)) ≡ Some (sequence, 2)
header-kept b rest first sequence long h few =
    ap (λ xs. header_of (take 64 xs)) (set-set (b ++ rest) 0 first sequence ∙ set-append_left b rest 0 sequence (omega (arith, long)))
    ∙ ap header_of (take_at (set b 0 sequence) rest 64 (length-set b 0 sequence ∙ long)) ∙ header-set b sequence (omega (arith, long)) h few

-- and what is behind it
pub behind-kept : (b rest : List ℕ) (first : ℕ) → length b ≡ 64 → drop 64 (set (b ++ rest) 0 first) ≡ rest
behind-kept b rest first long = drop-set-lt 64 (b ++ rest) 0 first (omega arith) ∙ drop_at b rest 64 long
