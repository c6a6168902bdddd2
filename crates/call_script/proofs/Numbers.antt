-- The numbers of a script's lines.
use Rattle.std.proofs.Common.{◌≡◌, ℕ, zero, suc, ◌+◌, ◌<◌, ◌≤◌, ◌&&◌, Bool, true, false, ltb, leb, List, [], ◌∷◌, ◌++◌, length, get_or, Option, Some, None, option_to_list, cond, refl, ap, arith}
use Rattle.std.proofs.lemmas.Bool.{and_parts}
use Rattle.std.proofs.lemmas.Bool.Decides.{nat_tests}
use Rattle.std.proofs.lemmas.List.{append-nil}
use Rattle.std.specs.Prelude.{IfSome, filter, slice_index_or}
use Rattle.apex_types.specs.declared.calls.Line.{Line}
use Rattle.script_model.specs.Numbering.{last_from, last_number, rise_above, AreNumbered}

is_below : (m n : ℕ) → ltb m n ≡ true → m < n
is_below m n h = grind (arith, nat_tests)

is_most : (m n : ℕ) → leb m n ≡ true → m ≤ n
is_most m n h = grind (arith, nat_tests)

below_is : (m n : ℕ) → m < n → ltb m n ≡ true
below_is m n h = grind (arith, nat_tests)

most_is : (m n : ℕ) → m ≤ n → leb m n ≡ true
most_is m n h = grind (arith, nat_tests)

-- what is known of the first of some lines, and of the others
record Rises (n : ℕ) (line : Line) (lines : List Line) : Type 0 where
  above : n < line.number
  few : line.number ≤ 20000
  rest : rise_above line.number lines ≡ true

rises : (n : ℕ) (line : Line) (lines : List Line) → rise_above n (line ∷ lines) ≡ true → Rises n line lines
rises n line lines h =
    let p = and_parts (ltb n line.number) (leb line.number 20000 && rise_above line.number lines) h in
    let q = and_parts (leb line.number 20000) (rise_above line.number lines) p.1 in
    record { above = is_below n line.number p.0; few = is_most line.number 20000 q.0; rest = q.1 }

last-pushed : (n : ℕ) (lines : List Line) (line : Line) → last_from n (lines ++ line ∷ []) ≡ line.number
last-pushed n [] line = refl
last-pushed n (first ∷ lines) line = last-pushed first.number lines line

rise-pushed : (n : ℕ) (lines : List Line) (line : Line) → rise_above n lines ≡ true → last_from n lines < line.number → line.number ≤ 20000 → rise_above n (lines ++ line ∷ []) ≡ true
rise-pushed n [] line h above few = rw (below_is n line.number above, most_is line.number 20000 few) refl
rise-pushed n (first ∷ lines) line h above few =
    let r = rises n first lines h in
    rw (below_is n first.number r.above, most_is first.number 20000 r.few, rise-pushed first.number lines line r.rest above few) refl

pub last_number-pushed : (lines : List Line) (line : Line) → last_number (lines ++ line ∷ []) ≡ line.number
last_number-pushed lines line = last-pushed 0 lines line

pub numbered-pushed : (lines : List Line) (line : Line) → AreNumbered lines → last_number lines < line.number → line.number ≤ 20000 → AreNumbered (lines ++ line ∷ [])
numbered-pushed lines line h above few = rise-pushed 0 lines line h above few

rise-length : (n : ℕ) (lines : List Line) → n ≤ 20000 → rise_above n lines ≡ true → n + length lines ≤ 20000
rise-length n [] le h = omega arith
rise-length n (line ∷ lines) le h =
    let r = rises n line lines h in
    let more = rise-length line.number lines r.few r.rest in
    omega (arith, more, r.above)

-- at most 20,000 lines, since their numbers rise
pub numbered-few : (lines : List Line) → AreNumbered lines → length lines ≤ 20000
numbered-few lines h = omega (arith, rise-length 0 lines (omega arith) h)

rise-at : (n : ℕ) (lines : List Line) (k : ℕ) (d : Line) → rise_above n lines ≡ true → k < length lines → (n < (get_or lines k d).number) × ((get_or lines k d).number ≤ 20000)
rise-at n [] k d h lt = absurd (omega arith)
rise-at n (line ∷ lines) zero d h lt = let r = rises n line lines h in (r.above, r.few)
rise-at n (line ∷ lines) (suc k) d h lt =
    let r = rises n line lines h in
    let more = rise-at line.number lines k d r.rest (omega arith) in
    (omega (arith, r.above, more.0), more.1)

pub numbered-at : (lines : List Line) (k : ℕ) (d : Line) → AreNumbered lines → k < length lines → (1 ≤ (get_or lines k d).number) × ((get_or lines k d).number ≤ 20000)
numbered-at lines k d h lt = let r = rise-at 0 lines k d h lt in (omega (arith, r.0), r.1)

-- the numbers of the line that stands at a place
pub found-numbered : (lines : List Line) (k : ℕ) (line : Line) → AreNumbered lines → k < length lines → line ≡ slice_index_or lines k line → (1 ≤ line.number) × (line.number ≤ 20000)
found-numbered lines k line h lt e =
    let n = numbered-at lines k line h lt in
    let same : line.number ≡ (get_or lines k line).number = ap (λ (l : Line). l.number) e in
    (omega (arith, n.0, same), omega (arith, n.1, same))

-- a list to which a line was added, unless there was no memory
pub numbered-after : (ok : Bool) (old new : List Line) (line : Line) → new ≡ cond ok (old ++ line ∷ []) old → AreNumbered old → last_number old < line.number → line.number ≤ 20000 → AreNumbered new
numbered-after true old new line e h above few = rw e (numbered-pushed old line h above few)
numbered-after false old new line e h above few = rw e h

-- ---- a script of which some lines are kept

rise-lower : (m n : ℕ) (lines : List Line) → m ≤ n → rise_above n lines ≡ true → rise_above m lines ≡ true
rise-lower m n [] le h = refl
rise-lower m n (line ∷ lines) le h =
    let r = rises n line lines h in
    rw (below_is m line.number (omega (arith, le, r.above)), most_is line.number 20000 r.few, r.rest) refl

rise-filtered : (test : Line → Bool) (n : ℕ) (lines : List Line) → rise_above n lines ≡ true → rise_above n (filter test lines) ≡ true
rise-filtered test n [] h = refl
rise-filtered test n (line ∷ lines) h =
    let r = rises n line lines h in
    let rest = rise-filtered test line.number lines r.rest in
    let kept : rise_above n (line ∷ filter test lines) ≡ true = rw (below_is n line.number r.above, most_is line.number 20000 r.few, rest) refl in
    let left : rise_above n (filter test lines) ≡ true = rise-lower n line.number (filter test lines) (let above = r.above in omega (arith, above)) rest in
    either (line ∷ filter test lines) (filter test lines) (test line) kept left
  where
    either : (some others : List Line) (b : Bool) → rise_above n some ≡ true → rise_above n others ≡ true → rise_above n (cond b some others) ≡ true
    either some others true h k = h
    either some others false h k = k

pub numbered-filtered : (test : Line → Bool) (lines : List Line) → AreNumbered lines → AreNumbered (filter test lines)
numbered-filtered test lines h = rise-filtered test 0 lines h

-- ---- a script that grows line by line

pub above_last : (line : Option Line) (last place : ℕ) → last ≤ place → IfSome line (λ l. l.number ≡ place + 1) → IfSome line (λ l. last < l.number)
above_last None last place le h = tt
above_last (Some l) last place le h = omega (arith, h)

pub at_most : (line : Option Line) (place : ℕ) → place < 20000 → IfSome line (λ l. l.number ≡ place + 1) → IfSome line (λ l. l.number ≤ 20000)
at_most None place lt h = tt
at_most (Some l) place lt h = omega (arith, h)

pub last_number-more : (script : List Line) (line : Option Line) (place : ℕ) → last_number script ≤ place → IfSome line (λ l. l.number ≡ place + 1) → last_number (script ++ option_to_list line) ≤ place + 1
last_number-more script None place le h = rw (append-nil script) (omega arith)
last_number-more script (Some l) place le h = rw (last_number-pushed script l) (omega (arith, h))
