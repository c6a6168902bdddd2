-- What is read part by part is refused for the first condition that holds somewhere in the document.
use Rattle.std.proofs.Common.{◌≡◌, ◌<◌, ◌≤◌, ℕ, ℤ, pos, negsuc, Bool, true, false, not, ◌&&◌, ◌||◌, cond, eqb, leb, List, [], ◌∷◌, ◌++◌, length, map, Option, Some, None, Result, Ok, Err, refl, sym, subst, ◌∙◌, arith, inl, inr, lit≤, append_assoc, append-nil}
use Rattle.std.specs.List.{list_any, list_all}
use Rattle.std.proofs.lemmas.Bool.{cases_Bool, cases_lt, and_parts}
use Rattle.std.proofs.lemmas.Bool.Decides.{nat_tests}
use Rattle.toml.specs.Data.{Data, Members, as_str, as_integer}
use Rattle.apex_model.specs.Accepted.{is_within}
use Rattle.table_model.specs.Errors.{order, is_error}
use Rattle.table_model.specs.Document.{has_only, count_fails, is_between, integer_fails, string_fails, text_fails, option_fails, only_fails, value_or, string_in, text_in, natural, whole_in}
use Rattle.table_model.specs.Judging.{Judges}
use Rattle.table_model.specs.Reading.{◌>>=◌, lesser, and_also, or_error, checked, text_from, number_within, number_from, with_item, read_each, few_items, with_only}
use Rattle.table_model.specs.declared.errors.TableError.{TableError}
use Rattle.table_model.specs.declared.errors.TableError.TheVariants.{UnknownKey, MissingKey, WrongKind, BadName, OutOfRange}

-- ---- tests

pub or_false : (b c : Bool) → b ≡ false → c ≡ false → (b || c) ≡ false
or_false b c p q = rw (p, q) refl

or_left : (b c : Bool) → b ≡ true → (b || c) ≡ true
or_left b c p = rw p refl

or_right : (b c : Bool) → c ≡ true → (b || c) ≡ true
or_right true c p = refl
or_right false c p = p

and_true : (b c : Bool) → b ≡ true → c ≡ true → (b && c) ≡ true
and_true b c p q = rw (p, q) refl

and_no : (b c : Bool) → b ≡ false → (b && c) ≡ false
and_no b c p = rw p refl

pub and_none : (b c : Bool) → c ≡ false → (b && c) ≡ false
and_none true c p = p
and_none false c p = refl

or_none : (b : Bool) → b ≡ (b || false)
or_none true = refl
or_none false = refl

pub or_assoc : (a b c : Bool) → ((a || b) || c) ≡ (a || (b || c))
or_assoc true b c = refl
or_assoc false b c = refl

keeps_true : (b : Bool) → b ≡ (b && true)
keeps_true true = refl
keeps_true false = refl

skips : (b c : Bool) → c ≡ ((b && false) || c)
skips true c = refl
skips false c = refl

not_here : (m k : ℕ) → m < k → eqb m k ≡ false
not_here m k lt = grind (arith, nat_tests)

not_above : (m k : ℕ) → k < m → eqb m k ≡ false
not_above m k lt = grind (arith, nat_tests)

here : (k : ℕ) → eqb k k ≡ true
here k = grind (arith, nat_tests)

is_le : (m n : ℕ) → leb m n ≡ true → m ≤ n
is_le m n h = grind (arith, nat_tests)

is_gt : (m n : ℕ) → leb m n ≡ false → n < m
is_gt m n h = grind (arith, nat_tests)

-- ---- a part alone

pub judges_ok : {A : Type 0} (x : A) (fails : TableError → Bool) (good : A → Bool) → ((f : TableError) → fails f ≡ false) → good x ≡ true → Judges (Ok x) fails x good
judges_ok x fails good none is_good = record {
  low = λ m _. none m;
  high = λ m _. none m;
  ok = λ y h.
      let same : x ≡ y = cc in
      (none, sym same, subst (λ z. good z ≡ true) same is_good);
  err = λ e h. absurd cc;
}

pub judges_err : {A : Type 0} (e : TableError) (fails : TableError → Bool) (value : A) (good : A → Bool) → ((f : TableError) → order f < 3 → fails f ≡ false) → ((f : TableError) → 7 < order f → fails f ≡ false)
    → fails e ≡ true → ((f : TableError) → order f < order e → fails f ≡ false) → Judges (Err e) fails value good
judges_err e fails value good low high is before = record {
  low = low;
  high = high;
  ok = λ x h. absurd cc;
  err = λ f h.
      let same : e ≡ f = cc in
      subst (λ (g : TableError). (fails g ≡ true) × ((m : TableError) → order m < order g → fails m ≡ false)) same (is, before);
}

pub judges_same : {A : Type 0} (read : Result A TableError) (f g : TableError → Bool) (value : A) (good : A → Bool) → ((e : TableError) → f e ≡ g e) → Judges read f value good → Judges read g value good
judges_same read f g value good same h = record {
  low = λ m lt. sym (same m) ∙ h.low m lt;
  high = λ m lt. sym (same m) ∙ h.high m lt;
  ok = λ x e.
      let p = h.ok x e in
      ((λ n. sym (same n) ∙ p.0 n), p.1, p.2);
  err = λ e r.
      let p = h.err e r in
      (sym (same e) ∙ p.0, λ m lt. sym (same m) ∙ p.1 m lt);
}

-- what is made of a part
pub judges_made : {A B : Type 0} (make : A → B) (r : Result A TableError) (f : TableError → Bool) (value : A) (good : A → Bool) (made : B → Bool) → ((x : A) → good x ≡ true → made (make x) ≡ true)
    → Judges r f value good → Judges (r >>= λ x. Ok (make x)) f (make value) made
judges_made make (Ok x) f value good made keeps h =
    let p = h.ok x refl in
    subst (λ v. Judges (Ok (make x)) f (make v) made) p.1 (judges_ok (make x) f made p.0 (keeps x p.2))
judges_made make (Err e) f value good made keeps h = let k = h.err e refl in judges_err e f (make value) made h.low h.high k.0 k.1

-- ---- two parts

lesser_is : (e f : TableError) → leb (order e) (order f) ≡ true → lesser e f ≡ e
lesser_is e f h = rw h refl

lesser_other : (e f : TableError) → leb (order e) (order f) ≡ false → lesser e f ≡ f
lesser_other e f h = rw h refl

abbrev pub both_good : {A B : Type 0} → (A → Bool) → (B → Bool) → A × B → Bool
both_good good_a good_b x = good_a x.0 && good_b x.1

pub judges_both : {A B : Type 0} (a : Result A TableError) (b : Result B TableError) (f g : TableError → Bool) (v : A) (w : B) (good_a : A → Bool) (good_b : B → Bool) → Judges a f v good_a → Judges b g w good_b
    → Judges (and_also a b) (λ n. f n || g n) (v, w) (both_good good_a good_b)
judges_both (Ok x) (Ok y) f g v w good_a good_b p q =
    let s = p.ok x refl in
    let t = q.ok y refl in
    let whole = judges_ok (x, y) (λ n. f n || g n) (both_good good_a good_b) (λ n. or_false (f n) (g n) (s.0 n) (t.0 n)) (and_true (good_a x) (good_b y) s.2 t.2) in
    rw (← s.1, ← t.1) whole
judges_both (Ok x) (Err e) f g v w good_a good_b p q =
    let s = p.ok x refl in
    let h = q.err e refl in
    judges_err e (λ n. f n || g n) (v, w) (both_good good_a good_b) (λ m lt. or_false (f m) (g m) (p.low m lt) (q.low m lt)) (λ m lt. or_false (f m) (g m) (p.high m lt) (q.high m lt))
    (or_right (f e) (g e) h.0) (λ m lt. or_false (f m) (g m) (s.0 m) (h.1 m lt))
judges_both (Err e) (Ok y) f g v w good_a good_b p q =
    let h = p.err e refl in
    let t = q.ok y refl in
    judges_err e (λ n. f n || g n) (v, w) (both_good good_a good_b) (λ m lt. or_false (f m) (g m) (p.low m lt) (q.low m lt)) (λ m lt. or_false (f m) (g m) (p.high m lt) (q.high m lt))
    (or_left (f e) (g e) h.0) (λ m lt. or_false (f m) (g m) (h.1 m lt) (t.0 m))
judges_both (Err e) (Err d) f g v w good_a good_b p q =
    let h = p.err e refl in
    let k = q.err d refl in
    let low : (m : TableError) → order m < 3 → (f m || g m) ≡ false = λ m lt. or_false (f m) (g m) (p.low m lt) (q.low m lt) in
    let high : (m : TableError) → 7 < order m → (f m || g m) ≡ false = λ m lt. or_false (f m) (g m) (p.high m lt) (q.high m lt) in
    elim (cases_Bool (leb (order e) (order d))) [
      | inl le ↦
          let fact = is_le (order e) (order d) le in
          rw (lesser_is e d le) (judges_err e (λ n. f n || g n) (v, w) (both_good good_a good_b) low high (or_left (f e) (g e) h.0) (λ m lt. or_false (f m) (g m) (h.1 m lt) (k.1 m (omega arith))))
      | inr gt ↦
          let fact = is_gt (order e) (order d) gt in
          rw (lesser_other e d gt) (judges_err d (λ n. f n || g n) (v, w) (both_good good_a good_b) low high (or_right (f d) (g d) k.0) (λ m lt. or_false (f m) (g m) (h.1 m (omega arith)) (k.1 m lt)))
    ]

-- ---- one place

-- a refusal for a cause of its own
pub cause : {A : Type 0} (e : TableError) (value : A) (good : A → Bool) → 3 ≤ order e → order e ≤ 7 → Judges (Err e) (λ n. is_error n e) value good
cause e value good le ge =
    judges_err e (λ n. is_error n e) value good (λ m lt. not_here (order m) (order e) (omega arith)) (λ m lt. not_above (order m) (order e) (omega arith)) (here (order e))
    (λ m lt. not_here (order m) (order e) lt)

-- a test
tested : {A : Type 0} (b : Bool) (x value : A) (good : A → Bool) (e : TableError) → 3 ≤ order e → order e ≤ 7 → x ≡ value → (b ≡ true → good x ≡ true)
    → Judges (cond b (Ok x) (Err e)) (λ n. is_error n e && not b) value good
tested true x value good e le ge same is_good =
    subst (λ v. Judges (Ok x) (λ n. is_error n e && false) v good) same (judges_ok x (λ n. is_error n e && false) good (λ n. and_none (is_error n e) false refl) (is_good refl))
tested {A} false x value good e le ge same is_good =
    judges_same (Err e) (λ n. is_error n e) (λ n. is_error n e && true) value good (λ n. keeps_true (is_error n e)) (cause e value good le ge)

-- a part of a table that has no other keys
pub judges_only : {A : Type 0} (known : List (List ℕ)) (ms : Members) (read : Result A TableError) (f : TableError → Bool) (value : A) (good : A → Bool) → Judges read f value good
    → Judges (with_only known ms read) (λ n. only_fails n known ms || f n) value good
judges_only known ms read f value good h =
    elim (cases_Bool (has_only known ms)) [
      | inl all ↦ rw all (judges_same read f (λ n. (is_error n UnknownKey && false) || f n) value good (λ n. skips (is_error n UnknownKey) (f n)) h)
      | inr other ↦
          rw other (judges_err UnknownKey (λ n. (is_error n UnknownKey && true) || f n) value good
          (λ m lt. or_false (is_error m UnknownKey && true) (f m) (and_no (is_error m UnknownKey) true (not_here (order m) 3 lt)) (h.low m lt))
          (λ m lt. or_false (is_error m UnknownKey && true) (f m) (and_no (is_error m UnknownKey) true (not_above (order m) 3 (omega arith))) (h.high m lt)) refl
          (λ m lt. or_false (is_error m UnknownKey && true) (f m) (and_no (is_error m UnknownKey) true (not_here (order m) 3 lt)) (h.low m lt)))
    ]

-- a string
judges_string : {A : Type 0} (test : List ℕ → Bool) (make : List ℕ → A) (good : A → Bool) → ((s : List ℕ) → test s ≡ true → good (make s) ≡ true) → (o : Option (List ℕ))
    → Judges (or_error WrongKind o >>= checked test make) (λ n. string_fails n test o) (make (string_in o)) good
judges_string test make good keeps None = cause WrongKind (make []) good (lit≤ tt) (lit≤ tt)
judges_string test make good keeps (Some s) = tested (test s) (make s) (make s) good BadName (lit≤ tt) (lit≤ tt) refl (keeps s)

pub judges_text : {A : Type 0} (test : List ℕ → Bool) (make : List ℕ → A) (good : A → Bool) → ((s : List ℕ) → test s ≡ true → good (make s) ≡ true) → (d : Data)
    → Judges (text_from test make d) (λ n. text_fails n test d) (make (text_in d)) good
judges_text test make good keeps d = judges_string test make good keeps (as_str d)

-- an integer
judges_within : (lowest highest : ℕ) (z : ℤ) → Judges (number_within lowest highest z) (λ n. is_error n OutOfRange && not (is_between lowest highest z)) (natural z) (is_within lowest highest)
judges_within lowest highest (pos k) = tested (is_within lowest highest k) k k (is_within lowest highest) OutOfRange (lit≤ tt) (lit≤ tt) refl (λ h. h)
judges_within lowest highest (negsuc k) =
    judges_same (Err OutOfRange) (λ n. is_error n OutOfRange) (λ n. is_error n OutOfRange && true) 0 (is_within lowest highest) (λ n. keeps_true (is_error n OutOfRange)) (cause OutOfRange 0 (is_within lowest highest) (lit≤ tt) (lit≤ tt))

judges_integer : (lowest highest : ℕ) (o : Option ℤ) → Judges (or_error WrongKind o >>= number_within lowest highest) (λ n. integer_fails n lowest highest o) (natural (Rattle.std.specs.Prelude.unwrap_or o (pos 0))) (is_within lowest highest)
judges_integer lowest highest None = cause WrongKind 0 (is_within lowest highest) (lit≤ tt) (lit≤ tt)
judges_integer lowest highest (Some z) = judges_within lowest highest z

pub judges_number : (lowest highest : ℕ) (d : Data) → Judges (number_from lowest highest d) (λ n. integer_fails n lowest highest (as_integer d)) (whole_in d) (is_within lowest highest)
judges_number lowest highest d = judges_integer lowest highest (as_integer d)

-- what stands at a key that must be there
pub judges_needed : {A : Type 0} (read : Data → Result A TableError) (fails : TableError → Data → Bool) (value : Data → A) (none : A) (good : A → Bool) → ((d : Data) → Judges (read d) (λ n. fails n d) (value d) good) → (o : Option Data)
    → Judges (or_error MissingKey o >>= read) (λ n. option_fails n true (fails n) o) (value_or none value o) good
judges_needed read fails value none good h None =
    judges_same (Err MissingKey) (λ n. is_error n MissingKey) (λ n. is_error n MissingKey && true) none good (λ n. keeps_true (is_error n MissingKey)) (cause MissingKey none good (lit≤ tt) (lit≤ tt))
judges_needed read fails value none good h (Some d) = h d

-- ---- a list

as_both : {R : Type 0} (rows : Result (List R) TableError) (row : Result R TableError) → (and_also rows row >>= λ x. Ok (x.0 ++ x.1 ∷ [])) ≡ with_item rows row
as_both (Ok rows) (Ok row) = refl
as_both (Ok rows) (Err f) = refl
as_both (Err e) (Ok row) = refl
as_both (Err e) (Err f) = refl

all_last : {R : Type 0} (good : R → Bool) (rows : List R) (row : R) → list_all good rows ≡ true → good row ≡ true → list_all good (rows ++ row ∷ []) ≡ true
all_last good [] row h k = and_true (good row) true k refl
all_last good (r ∷ rows) row h k =
    let p = and_parts (good r) (list_all good rows) h in
    and_true (good r) (list_all good (rows ++ row ∷ [])) p.0 (all_last good rows row p.1 k)

all_both : {R : Type 0} (good : R → Bool) (x : List R × R) → both_good (list_all good) good x ≡ true → list_all good (x.0 ++ x.1 ∷ []) ≡ true
all_both good x h = let p = and_parts (list_all good x.0) (good x.1) h in all_last good x.0 x.1 p.0 p.1

judges_item : {R : Type 0} (rows : Result (List R) TableError) (row : Result R TableError) (f g : TableError → Bool) (v : List R) (w : R) (good : R → Bool) → Judges rows f v (list_all good) → Judges row g w good
    → Judges (with_item rows row) (λ n. f n || g n) (v ++ w ∷ []) (list_all good)
judges_item rows row f g v w good p q =
    rw (← as_both rows row) (judges_made (λ x. x.0 ++ x.1 ∷ []) (and_also rows row) (λ n. f n || g n) (v, w) (both_good (list_all good) good) (list_all good) (all_both good) (judges_both rows row f g v w (list_all good) good p q))

pub judges_each : {R : Type 0} (read : Data → Result R TableError) (fails : TableError → Data → Bool) (value : Data → R) (good : R → Bool) → ((d : Data) → Judges (read d) (λ n. fails n d) (value d) good) → (ds : List Data)
    → (rows : Result (List R) TableError) (f : TableError → Bool) (v : List R) → Judges rows f v (list_all good) → Judges (read_each read rows ds) (λ n. f n || list_any (fails n) ds) (v ++ map value ds) (list_all good)
judges_each read fails value good h [] rows f v p = rw append-nil (judges_same rows f (λ n. f n || false) v (list_all good) (λ n. or_none (f n)) p)
judges_each read fails value good h (d ∷ ds) rows f v p =
    let one = judges_item rows (read d) f (λ n. fails n d) v (value d) good p (h d) in
    let all = judges_each read fails value good h ds (with_item rows (read d)) (λ n. f n || fails n d) (v ++ value d ∷ []) one in
    let same : (v ++ value d ∷ []) ++ map value ds ≡ v ++ (value d ∷ map value ds) = simp append_assoc in
    subst (λ w. Judges (read_each read rows (d ∷ ds)) (λ n. f n || list_any (fails n) (d ∷ ds)) w (list_all good)) same
    (judges_same (read_each read rows (d ∷ ds)) (λ n. (f n || fails n d) || list_any (fails n) ds) (λ n. f n || list_any (fails n) (d ∷ ds)) ((v ++ value d ∷ []) ++ map value ds) (list_all good)
    (λ n. or_assoc (f n) (fails n d) (list_any (fails n) ds)) all)

-- good items, and few enough
abbrev pub few_good : {R : Type 0} → ℕ → ℕ → (R → Bool) → List R → Bool
few_good lowest highest good rows = list_all good rows && is_within lowest highest (length rows)

few_here : {R : Type 0} (lowest highest : ℕ) (good : R → Bool) (rows : List R) (f : TableError → Bool) → ((e : TableError) → f e ≡ false) → list_all good rows ≡ true
    → Judges (few_items lowest highest rows) (λ n. f n || count_fails n lowest highest (length rows)) rows (few_good lowest highest good)
few_here lowest highest good rows f none all =
    judges_same (few_items lowest highest rows) (λ n. count_fails n lowest highest (length rows)) (λ n. f n || count_fails n lowest highest (length rows)) rows (few_good lowest highest good)
    (λ n. rw none refl) (tested (is_within lowest highest (length rows)) rows rows (few_good lowest highest good) OutOfRange (lit≤ tt) (lit≤ tt) refl (λ h. and_true (list_all good rows) (is_within lowest highest (length rows)) all h))

not_high : (f : TableError → Bool) (e : TableError) → ((m : TableError) → 7 < order m → f m ≡ false) → f e ≡ true → order e ≤ 7
not_high f e high is =
    elim (cases_lt 7 (order e)) [
      | inl lt ↦ absurd (let no : true ≡ false = sym is ∙ high e lt in cc)
      | inr le ↦ le
    ]

pub judges_few : {R : Type 0} (lowest highest : ℕ) (good : R → Bool) (rows : Result (List R) TableError) (f : TableError → Bool) (v : List R) → Judges rows f v (list_all good)
    → Judges (rows >>= few_items lowest highest) (λ n. f n || count_fails n lowest highest (length v)) v (few_good lowest highest good)
judges_few lowest highest good (Ok x) f v p =
    let s = p.ok x refl in
    subst (λ w. Judges (few_items lowest highest x) (λ n. f n || count_fails n lowest highest (length w)) w (few_good lowest highest good)) s.1 (few_here lowest highest good x f s.0 s.2)
judges_few lowest highest good (Err e) f v p =
    let s = p.err e refl in
    let most = not_high f e p.high s.0 in
    let count : (m : TableError) → order m < 7 → count_fails m lowest highest (length v) ≡ false = λ m lt. and_no (is_error m OutOfRange) (not (is_within lowest highest (length v))) (not_here (order m) 7 lt) in
    judges_err e (λ n. f n || count_fails n lowest highest (length v)) v (few_good lowest highest good)
    (λ m lt. or_false (f m) (count_fails m lowest highest (length v)) (p.low m lt) (count m (omega arith)))
    (λ m lt. or_false (f m) (count_fails m lowest highest (length v)) (p.high m lt) (and_no (is_error m OutOfRange) (not (is_within lowest highest (length v))) (not_above (order m) 7 lt)))
    (or_left (f e) (count_fails e lowest highest (length v)) s.0) (λ m lt. or_false (f m) (count_fails m lowest highest (length v)) (s.1 m lt) (count m (omega arith)))
