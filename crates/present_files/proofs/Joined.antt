-- Blocks of 512 bytes, one behind the other.
use Rattle.std.proofs.Common.{◌≡◌, ◌≢◌, ℕ, zero, suc, ◌+◌, ◌-◌, ◌*◌, ◌<◌, ◌≤◌, List, ◌++◌, length, take, refl, sym, ap, ◌∙◌, subst, inl, inr, arith, rules, length-append}
use Rattle.std.proofs.lemmas.Bool.{cases_lt}
use Rattle.std.proofs.lemmas.List.{places, same_lists, get_or_append_left, get_or-append_right, take-append-le}
use Rattle.std.proofs.Math.Seq.{take-append-add}
use Rattle.std.specs.List.{flat_map, range_with_len}
use Rattle.rig_core.specs.Bytes.{byte, put}

-- each of so many blocks from one on has 512 bytes
abbrev pub AreWhole : (ℕ → List ℕ) → ℕ → ℕ → Type 0
AreWhole g a n = (k : ℕ) → a ≤ k → k < a + n → length (g k) ≡ 512

-- those blocks, one behind the other
abbrev pub joined_from : (ℕ → List ℕ) → ℕ → ℕ → List ℕ
joined_from g a n = flat_map g (range_with_len a n)

pub length-joined : (g : ℕ → List ℕ) (a n : ℕ) → AreWhole g a n → length (joined_from g a n) ≡ 512 * n
length-joined g a zero whole = refl
length-joined g a (suc n) whole =
    let here = whole a (omega arith) (omega arith) in
    let rest = length-joined g (a + 1) n (λ k low high. whole k (omega arith) (omega arith)) in
    let both = length-append (g a) (joined_from g (a + 1) n) in
    omega (arith, both, here, rest)

pub byte-joined : (g : ℕ → List ℕ) (a n k j : ℕ) → AreWhole g a n → k < n → j < 512 → byte (joined_from g a n) (512 * k + j) ≡ byte (g (a + k)) j
byte-joined g a zero k j whole low few = absurd (omega arith)
byte-joined g a (suc n) zero j whole low few =
    let here = whole a (omega arith) (omega arith) in
    let at : 512 * zero + j ≡ j = omega arith in
    let first : a ≡ a + zero = omega arith in
    ap (λ (i : ℕ). byte (g a ++ joined_from g (a + 1) n) i) at
    ∙ get_or_append_left (g a) (joined_from g (a + 1) n) 0 j (omega (arith, here))
    ∙ ap (λ (m : ℕ). byte (g m) j) first
byte-joined g a (suc n) (suc k) j whole low few =
    let here = whole a (omega arith) (omega arith) in
    let at : 512 * suc k + j - 512 ≡ 512 * k + j = omega arith in
    let next : a + 1 + k ≡ a + suc k = omega arith in
    get_or-append_right (g a) (joined_from g (a + 1) n) 512 (512 * suc k + j) 0 here (omega arith)
    ∙ ap (λ (i : ℕ). byte (joined_from g (a + 1) n) i) at
    ∙ byte-joined g (a + 1) n k j (λ m from to. whole m (omega arith) (omega arith)) (omega arith) few
    ∙ ap (λ (m : ℕ). byte (g m) j) next

pub joined-alike : (g h : ℕ → List ℕ) (a n : ℕ) → ((k : ℕ) → a ≤ k → k < a + n → h k ≡ g k) → joined_from h a n ≡ joined_from g a n
joined-alike g h a zero same = refl
joined-alike g h a (suc n) same =
    let here = same a (omega arith) (omega arith) in
    let rest = joined-alike g h (a + 1) n (λ k low high. same k (omega arith) (omega arith)) in
    (λ i. here i ++ rest i)

put-left : (xs rest bytes : List ℕ) (j : ℕ) → j + length bytes ≤ length xs → put j bytes xs ++ rest ≡ put j bytes (xs ++ rest)
put-left xs rest bytes j fits = same_lists (put j bytes xs ++ rest) (put j bytes (xs ++ rest)) (search (rules, places)) (λ k d h. grind (arith, places))

put-right : (xs rest bytes : List ℕ) (n j : ℕ) → length xs ≡ n → j + length bytes ≤ length rest → xs ++ put j bytes rest ≡ put (n + j) bytes (xs ++ rest)
put-right xs rest bytes n j long fits = same_lists (xs ++ put j bytes rest) (put (n + j) bytes (xs ++ rest)) (search (rules, places)) (λ k d h. grind (arith, places))

-- bytes that are put into one block are put among all
pub joined-put : (g h : ℕ → List ℕ) (a n k j : ℕ) (bytes : List ℕ) → AreWhole g a n → k < n → j + length bytes ≤ 512 → h (a + k) ≡ put j bytes (g (a + k))
    → ((m : ℕ) → a ≤ m → m < a + n → m ≢ a + k → h m ≡ g m) → joined_from h a n ≡ put (512 * k + j) bytes (joined_from g a n)
joined-put g h a zero k j bytes whole low fits here others = absurd (omega arith)
joined-put g h a (suc n) zero j bytes whole low fits here others =
    let long = whole a (omega arith) (omega arith) in
    let first : a ≡ a + zero = omega arith in
    let changed : h a ≡ put j bytes (g a) = ap h first ∙ here ∙ ap (λ (m : ℕ). put j bytes (g m)) (sym first) in
    let rest = joined-alike g h (a + 1) n (λ m from to. others m (omega arith) (omega arith) (λ e. omega arith)) in
    let at : j ≡ 512 * zero + j = omega arith in
    (λ i. changed i ++ rest i) ∙ put-left (g a) (joined_from g (a + 1) n) bytes j (omega (arith, long)) ∙ ap (λ (m : ℕ). put m bytes (g a ++ joined_from g (a + 1) n)) at
joined-put g h a (suc n) (suc k) j bytes whole low fits here others =
    let long = whole a (omega arith) (omega arith) in
    let next : a + suc k ≡ a + 1 + k = omega arith in
    let whole_rest : AreWhole g (a + 1) n = λ m from to. whole m (omega arith) (omega arith) in
    let same = others a (omega arith) (omega arith) (λ e. omega arith) in
    let rest = joined-put g h (a + 1) n k j bytes whole_rest (omega arith) fits (subst (λ (m : ℕ). h m ≡ put j bytes (g m)) next here)
    (λ m from to other. others m (omega arith) (omega arith) (λ e. other (e ∙ next))) in
    let room = length-joined g (a + 1) n whole_rest in
    let at : 512 + (512 * k + j) ≡ 512 * suc k + j = omega arith in
    (λ i. same i ++ rest i) ∙ put-right (g a) (joined_from g (a + 1) n) bytes 512 (512 * k + j) long (omega (arith, room))
    ∙ ap (λ (m : ℕ). put m bytes (g a ++ joined_from g (a + 1) n)) at

-- the first bytes are those of the first blocks
front-same : (x r s : List ℕ) (size : ℕ) → length x ≡ 512 → take (size - 512) r ≡ take (size - 512) s → take size (x ++ r) ≡ take size (x ++ s)
front-same x r s size long same =
    elim (cases_lt size 512) [
      | inl less ↦ take-append-le size x r (omega (arith, long)) ∙ sym (take-append-le size x s (omega (arith, long)))
      | inr more ↦
          let split : size ≡ length x + (size - 512) = omega (arith, long) in
          ap (λ (n : ℕ). take n (x ++ r)) split ∙ take-append-add x r (size - 512) ∙ ap (λ (ys : List ℕ). x ++ ys) same
          ∙ sym (ap (λ (n : ℕ). take n (x ++ s)) split ∙ take-append-add x s (size - 512))
    ]

pub joined-front : (g h : ℕ → List ℕ) (a m n size : ℕ) → AreWhole g a m → ((k : ℕ) → a ≤ k → k < a + m → h k ≡ g k) → m ≤ n → size ≤ 512 * m → take size (joined_from h a n) ≡ take size (joined_from g a n)
joined-front g h a zero n size whole same few short =
    let none : size ≡ 0 = omega arith in
    ap (λ (i : ℕ). take i (joined_from h a n)) none ∙ sym (ap (λ (i : ℕ). take i (joined_from g a n)) none)
joined-front g h a (suc m) zero size whole same few short = absurd (omega arith)
joined-front g h a (suc m) (suc n) size whole same few short =
    let long = whole a (omega arith) (omega arith) in
    let here = same a (omega arith) (omega arith) in
    let rest = joined-front g h (a + 1) m n (size - 512) (λ k low high. whole k (omega arith) (omega arith)) (λ k low high. same k (omega arith) (omega arith)) (omega arith) (omega arith) in
    (λ i. take size (here i ++ joined_from h (a + 1) n)) ∙ front-same (g a) (joined_from h (a + 1) n) (joined_from g (a + 1) n) size long rest
