-- Which reads failed, as the replies tell that were told.
use Rattle.std.proofs.Common.{◌≡◌, ℕ, ◌+◌, ◌<◌, ◌≤◌, length, length-append, Bool, true, false, ◌&&◌, ◌||◌, List, [], ◌∷◌, ◌++◌, map, refl, sym, ap, ◌∙◌, subst, arith, append-nil, suc, inl, inr}
use Rattle.std.specs.Prelude.{◌==◌, if◌then◌else◌, filter, ⊤}
use Rattle.std.proofs.lemmas.Bool.{cases_Bool}
use Rattle.std.proofs.lemmas.Bool.Decides.{nat_tests}
use Rattle.apex_types.specs.Rows.{Rows}
use Rattle.apex_types.specs.declared.calls.Deed.{Deed}
use Rattle.apex_types.specs.declared.calls.Deed.TheVariants as deed
use Rattle.apex_types.specs.declared.calls.Line.{Line}
use Rattle.apex_model.specs.FailedReads.{is_among, reads_file, by_read, world_after_deed, world_after_line}
use Rattle.apex_model.specs.Outcomes.{Outcome, refused, accepted, reply_of, state_after}
use Rattle.apex_model.specs.Run.{Told, told_for, replies_to}
use Rattle.apex_model.specs.Validity.{IsValid}
use Rattle.apex_model.specs.World.{World, call_step}
use Rattle.model_laws.specs.RunText.{is_failure, failures_of, tells_eio}
use Rattle.model_laws.proofs.PlainSteps.{call_step-plain}
use Rattle.script_model.specs.Script.{SpellFrom, SpellsScript, is_skipped, script_lines}
use Rattle.script_model.specs.Spelling.{Spells}
use Rattle.apex_host.specs.Laws.{AreFailed, AreFirst}

-- ---- replies that are the same where the same reads failed

-- a call has the same outcome where its reply tells whether its read failed
read-same : (outcome : Outcome World) (failed other reads : Bool) → tells_eio (reply_of outcome).errno ≡ false → other ≡ tells_eio (reply_of (by_read (failed && reads) outcome)).errno
    → by_read (failed && reads) outcome ≡ by_read (other && reads) outcome
read-same outcome false other reads plain is = ap (λ b. by_read (b && reads) outcome) (sym (is ∙ plain))
read-same outcome true other false plain is = ap (λ b. by_read (b && false) outcome) (sym (is ∙ plain))
read-same (refused reply) true false true plain is = refl
read-same (refused reply) true true true plain is = refl
read-same (accepted state values) true other true plain is = ap (λ b. by_read (b && true) (accepted state values)) (sym is)

first-of : {x y : Told} {xs ys : List Told} → x ∷ xs ≡ y ∷ ys → (x ≡ y) × (xs ≡ ys)
first-of same = (cc, cc)

module _ (table : Rows) (failed other : List ℕ) where
  module _ (number : ℕ) (lines : List Line) (told : Told) (first others : List Told) where
    -- one line's reply, if it has one, and then those to the other lines
    line-first : (w : World) (d : Deed) → IsValid table w → AreFailed other (told ∷ first)
        → ((replies : List Told) → AreFailed other replies → replies ++ others ≡ replies_to table failed (world_after_deed table failed w number d) lines → AreFirst replies (replies_to table other (world_after_deed table failed w number d) lines))
        → (told ∷ first) ++ others ≡ told_for table failed w number d ++ replies_to table failed (world_after_deed table failed w number d) lines
        → AreFirst (told ∷ first) (told_for table other w number d ++ replies_to table other (world_after_deed table other w number d) lines)
    line-first w (deed.Tick n) v are rest is = rest (told ∷ first) are is
    line-first w (deed.Partition p c) v are rest is =
        let own : Outcome World → Told = λ o. record { number = number; partition = p.0; reply = reply_of o } in
        let one = first-of is in
        let P : Told → Type 0 = λ t. is_among other t.number ≡ is_failure t in
        let same = read-same (call_step table w p.0 c) (is_among failed number) (is_among other number) (reads_file c) (call_step-plain table w p.0 c v.files).errno (subst P one.0 are.0) in
        let more = rest first are.1 one.1 in
        (more.0, (λ i. one.0 i ∷ more.1 i) ∙ (λ i. own (same i) ∷ replies_to table other (state_after w (same i)) lines))

  module _ (keeps : (w : World) (line : Line) → IsValid table w → IsValid table (world_after_line table failed w line)) where
    -- the first replies stay the first ones, whichever reads fail later
    pub first-same : (lines : List Line) (w : World) (first others : List Told) → IsValid table w → AreFailed other first → first ++ others ≡ replies_to table failed w lines → AreFirst first (replies_to table other w lines)
    first-same lines w [] others v are is = (replies_to table other w lines, refl)
    first-same [] w (told ∷ first) others v are is = absurd cc
    first-same (line ∷ lines) w (told ∷ first) others v are is =
        line-first line.number lines told first others w line.deed v are
        (λ replies h same. first-same lines (world_after_line table failed w line) replies others (keeps w line v) h same) is

-- as many replies are due, whichever reads fail
deed-count : (table : Rows) (failed other : List ℕ) (w x : World) (number : ℕ) (d : Deed) → length (told_for table failed w number d) ≡ length (told_for table other x number d)
deed-count table failed other w x number (deed.Tick n) = refl
deed-count table failed other w x number (deed.Partition p c) = refl

replies-count : (table : Rows) (failed other : List ℕ) (w x : World) (lines : List Line) → length (replies_to table failed w lines) ≡ length (replies_to table other x lines)
replies-count table failed other w x [] = refl
replies-count table failed other w x (line ∷ lines) =
    let u = world_after_line table failed w line in
    let y = world_after_line table other x line in
    length-append (told_for table failed w line.number line.deed) (replies_to table failed u lines)
    ∙ (λ i. deed-count table failed other w x line.number line.deed i + replies-count table failed other u y lines i)
    ∙ sym (length-append (told_for table other x line.number line.deed) (replies_to table other y lines))

no-others : (first others all : List Told) → first ++ others ≡ all → length all ≡ length first → first ≡ all
no-others first [] all is count = sym (append-nil first) ∙ is
no-others first (told ∷ others) all is count =
    let many : length all ≡ length first + suc (length others) = ap length (sym is) ∙ length-append first (told ∷ others) in
    absurd (omega (arith, many, count))

-- all replies are the same, where the same reads failed
pub all-same : (table : Rows) (failed other : List ℕ) (w : World) (lines : List Line) → ((w : World) (line : Line) → IsValid table w → IsValid table (world_after_line table failed w line)) → IsValid table w
    → AreFailed other (replies_to table failed w lines) → replies_to table failed w lines ≡ replies_to table other w lines
all-same table failed other w lines keeps v are =
    let all = replies_to table failed w lines in
    let first = first-same table failed other keeps lines w all [] v are (append-nil all) in
    no-others all first.0 (replies_to table other w lines) first.1 (replies-count table other failed w w lines)

-- ---- replies whose numbers rise

abbrev pub Rise : ℕ → List Told → Type 0
Rise n [] = ⊤
Rise n (told ∷ replies) = (n < told.number) × Rise told.number replies

abbrev pub LinesRise : ℕ → List Line → Type 0
LinesRise n [] = ⊤
LinesRise n (line ∷ lines) = (n < line.number) × LinesRise line.number lines

rise-above : (m n : ℕ) (replies : List Told) → m ≤ n → Rise n replies → Rise m replies
rise-above m n [] le h = tt
rise-above m n (told ∷ replies) le h = (let a = h.0 in omega (arith, le, a), h.1)

pub first-rise : (n : ℕ) (first others : List Told) → Rise n (first ++ others) → Rise n first
first-rise n [] others h = tt
first-rise n (told ∷ first) others h = (h.0, first-rise told.number first others h.1)

pub lines-front : (n : ℕ) (before behind : List Line) → LinesRise n (before ++ behind) → LinesRise n before
lines-front n [] behind h = tt
lines-front n (line ∷ before) behind h = (h.0, lines-front line.number before behind h.1)

module _ (table : Rows) (failed : List ℕ) where
  deed-rise : (w : World) (n number : ℕ) (d : Deed) (replies : List Told) → n < number → Rise number replies → Rise n (told_for table failed w number d ++ replies)
  deed-rise w n number (deed.Tick k) replies less h = rise-above n number replies (omega (arith, less)) h
  deed-rise w n number (deed.Partition p c) replies less h = (less, h)

  pub replies-rise : (w : World) (n : ℕ) (lines : List Line) → LinesRise n lines → Rise n (replies_to table failed w lines)
  replies-rise w n [] h = tt
  replies-rise w n (line ∷ lines) h =
      let next = world_after_line table failed w line in
      deed-rise w n line.number line.deed (replies_to table failed next lines) h.0 (replies-rise next line.number lines h.1)

among-one : (b : Bool) (told : Told) (rest : List Told) (m : ℕ)
    → is_among (map (λ (t : Told). t.number) (if b then told ∷ rest else rest)) m ≡ ((b && (told.number == m)) || is_among (map (λ (t : Told). t.number) rest) m)
among-one true told rest m = refl
among-one false told rest m = refl

no-one : (b t u : Bool) → t ≡ false → ((b && t) || u) ≡ u
no-one true t u h = ap (λ x. x || u) h
no-one false t u h = refl

own-one : (b t u : Bool) → t ≡ true → u ≡ false → ((b && t) || u) ≡ b
own-one true t u h k = ap (λ x. x || u) h
own-one false t u h k = k

not-below : (m n : ℕ) (replies : List Told) → m ≤ n → Rise n replies → is_among (failures_of replies) m ≡ false
not-below m n [] le h = refl
not-below m n (told ∷ replies) le h =
    let above = h.0 in
    let other : (told.number == m) ≡ false = grind (arith, nat_tests, above, le) in
    among-one (is_failure told) told (filter is_failure replies) m
    ∙ no-one (is_failure told) (told.number == m) (is_among (failures_of replies) m) other
    ∙ not-below m told.number replies (omega (arith, above, le)) h.1

known-later : (told : Told) (all replies : List Told) → Rise told.number replies → AreFailed (failures_of all) replies → AreFailed (failures_of (told ∷ all)) replies
known-later told all [] h are = tt
known-later told all (next ∷ replies) h are =
    let above = h.0 in
    let other : (told.number == next.number) ≡ false = grind (arith, nat_tests, above) in (
      among-one (is_failure told) told (filter is_failure all) next.number
          ∙ no-one (is_failure told) (told.number == next.number) (is_among (failures_of all) next.number) other ∙ are.0,
      known-later told all replies (rise-above told.number next.number replies (omega (arith, above)) h.1) are.1,
    )

-- they tell which of their reads failed
pub failures-known : (n : ℕ) (replies : List Told) → Rise n replies → AreFailed (failures_of replies) replies
failures-known n [] h = tt
failures-known n (told ∷ replies) h =
    let same : (told.number == told.number) ≡ true = grind (arith, nat_tests) in (
      among-one (is_failure told) told (filter is_failure replies) told.number
          ∙ own-one (is_failure told) (told.number == told.number) (is_among (failures_of replies) told.number) same (not-below told.number told.number replies (omega arith) h.1),
      known-later told replies replies h.1 (failures-known told.number replies h.1),
    )

-- ---- the lines of a script

spelled-rise : (rows : Rows) (m n : ℕ) (texts : List (List ℕ)) (lines : List Line) → m < n → SpellFrom rows n texts lines → LinesRise m lines
spelled-rise rows m n [] lines less s = rw s tt
spelled-rise rows m n (text ∷ texts) lines less s =
    elim (cases_Bool (is_skipped text)) [
      | inl skipped ↦
          let t : SpellFrom rows (suc n) texts lines = rw skipped at s in
          spelled-rise rows m (suc n) texts lines (omega (arith, less)) t
      | inr read ↦
          let t : (first : Line) × (rest : List Line) × (lines ≡ first ∷ rest) × (first.number ≡ n) × Spells rows text first.deed × SpellFrom rows (suc n) texts rest = rw read at s in
          let number = t.3 in
          let P : List Line → Type 0 = λ ls. LinesRise m ls in
          subst P (sym t.2) (omega (arith, number, less), spelled-rise rows t.0.number (suc n) texts t.1 (omega (arith, number)) t.5)
    ]

pub script-rise : (rows : Rows) (script : List ℕ) (lines : List Line) → SpellsScript rows script lines → LinesRise 0 lines
script-rise rows script lines s = spelled-rise rows 0 1 (script_lines script) lines (omega arith) s.each
