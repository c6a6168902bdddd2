-- The numbers of a script's lines rise.
use Rattle.std.proofs.Common.{◌≡◌, ◌⊎◌, ⊎_elim, ℕ, zero, suc, ◌<◌, ◌≤◌, ◌&&◌, true, false, ◌||◌, ltb, leb, List, [], ◌∷◌, ◌++◌, ap, ◌∙◌, subst, arith}
use Rattle.std.specs.Prelude.{◌==◌, take, drop, slice_get, Option, Some, None}
use Rattle.std.specs.List.{AllByRecursion}
use Rattle.std.proofs.Math.Bool.{or-false}
use Rattle.std.proofs.lemmas.Bool.{and_parts}
use Rattle.std.proofs.lemmas.Bool.Decides.{nat_tests}
use Rattle.std.proofs.lemmas.List.Folds.{list_any-append}
use Rattle.apex_types.specs.declared.calls.Line.{Line}
use Rattle.apex_model.proofs.AcceptedTables.{all_at}
use Rattle.apex_model.specs.FailedReads.{is_among}
use Rattle.script_model.specs.Numbering.{rise_above}

-- the number of the first of some lines is above n, and those of the others are above that
record Rises (n : ℕ) (line : Line) (lines : List Line) : Type 0 where
  pub above : n < line.number
  pub rest : rise_above line.number lines ≡ true

rises : (n : ℕ) (line : Line) (lines : List Line) → rise_above n (line ∷ lines) ≡ true → Rises n line lines
rises n line lines h =
    let p = and_parts (ltb n line.number) (leb line.number 20000 && rise_above line.number lines) h in
    let q = and_parts (leb line.number 20000) (rise_above line.number lines) p.1 in
    let less = p.0 in
    record { above = grind (arith, nat_tests, less); rest = q.1 }

above-less : (m n : ℕ) (lines : List Line) → m ≤ n → AllByRecursion (λ line. n < line.number) lines → AllByRecursion (λ line. m < line.number) lines
above-less m n [] le h = tt
above-less m n (line ∷ lines) le h = (let a = h.0 in omega (arith, le, a), above-less m n lines le h.1)

pub above : (n : ℕ) (lines : List Line) → rise_above n lines ≡ true → AllByRecursion (λ line. n < line.number) lines
above n [] h = tt
above n (line ∷ lines) h =
    let r = rises n line lines h in
    let a = r.above in
    (a, above-less n line.number lines (omega (arith, a)) (above line.number lines r.rest))

-- the lines before one have lower numbers
pub before-line : (n : ℕ) (lines : List Line) (k : ℕ) (line : Line) → rise_above n lines ≡ true → slice_get lines k ≡ Some line → AllByRecursion (λ first. first.number < line.number) (take k lines)
before-line n lines zero line rise at = tt
before-line n [] (suc k) line rise at = tt
before-line n (first ∷ lines) (suc k) line rise at =
    let r = rises n first lines rise in
    (all_at (λ (l : Line). first.number < l.number) lines k line (above first.number lines r.rest) at, before-line first.number lines k line r.rest at)

-- and those behind it higher ones
pub behind-line : (n : ℕ) (lines : List Line) (k : ℕ) (line : Line) → rise_above n lines ≡ true → slice_get lines k ≡ Some line → AllByRecursion (λ later. line.number < later.number) (drop (suc k) lines)
behind-line n [] k line rise at = absurd (let e : ◌≡◌ {A = Option Line} None (Some line) = at in cc)
behind-line n (first ∷ lines) zero line rise at =
    let e : first ≡ line = cc in
    let P : Line → Type 0 = λ l. AllByRecursion (λ later. l.number < later.number) lines in
    subst P e (above first.number lines (rises n first lines rise).rest)
behind-line n (first ∷ lines) (suc k) line rise at = behind-line first.number lines k line (rises n first lines rise).rest at

-- ---- which numbers are among the failed

-- with this number at most beside them
abbrev pub IsNoneOr : ℕ → List ℕ → Type 0
IsNoneOr number more = (more ≡ []) ⊎ (more ≡ number ∷ [])

other-number : (number n : ℕ) (more : List ℕ) → IsNoneOr number more → (number == n) ≡ false → is_among more n ≡ false
other-number number n more is other = ⊎_elim (λ none. ap (λ ns. is_among ns n) none) (λ one. ap (λ ns. is_among ns n) one ∙ ap (λ b. b || false) other) is

-- another number is among them as it was before
pub among-before : (failed : List ℕ) (number n : ℕ) (more : List ℕ) → IsNoneOr number more → (number == n) ≡ false → is_among (failed ++ more) n ≡ is_among failed n
among-before failed number n more is other = list_any-append (λ m. m == n) failed more ∙ ap (λ b. is_among failed n || b) (other-number number n more is other) ∙ or-false (is_among failed n)

pub lower-same : (failed : List ℕ) (number : ℕ) (more : List ℕ) (lines : List Line) → IsNoneOr number more → AllByRecursion (λ line. line.number < number) lines
    → AllByRecursion (λ line. is_among (failed ++ more) line.number ≡ is_among failed line.number) lines
lower-same failed number more [] is h = tt
lower-same failed number more (line ∷ lines) is h =
    let a = h.0 in
    let other : (number == line.number) ≡ false = grind (arith, nat_tests, a) in
    (among-before failed number line.number more is other, lower-same failed number more lines is h.1)

pub higher-not : (failed : List ℕ) (number : ℕ) (more : List ℕ) (lines : List Line) → IsNoneOr number more → AllByRecursion (λ line. number < line.number) lines
    → AllByRecursion (λ line. is_among failed line.number ≡ false) lines → AllByRecursion (λ line. is_among (failed ++ more) line.number ≡ false) lines
higher-not failed number more [] is h none = tt
higher-not failed number more (line ∷ lines) is h none =
    let a = h.0 in
    let other : (number == line.number) ≡ false = grind (arith, nat_tests, a) in
    (among-before failed number line.number more is other ∙ none.0, higher-not failed number more lines is h.1 none.1)
