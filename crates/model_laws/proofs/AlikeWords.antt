-- Lists that agree place by place, and outcomes that are alike: the words that the proofs of isolation are made of.
use Rattle.std.proofs.Common.{◌≡◌, ◌≢◌, ℕ, zero, suc, ◌⊎◌, inl, inr, Bool, true, false, List, [], ◌∷◌, map, refl, sym, ap, subst, ◌∙◌, Option, Some, None, length, arith}
use Rattle.std.specs.Prelude.{◌+◌, ◌==◌, ◌&&◌, not, slice_get, slice_set, slice_index_or, zip, if◌then◌else◌, Result, Ok, Err}
use Rattle.std.proofs.lemmas.Bool.Decides.{nat_tests}
use Rattle.std.proofs.lemmas.List.{length-set}
use Rattle.apex_types.specs.declared.codes.Errno.{Errno}
use Rattle.apex_types.specs.declared.codes.ReturnCode.{ReturnCode}
use Rattle.apex_types.specs.declared.replies.Reply.{Reply}
use Rattle.apex_types.specs.declared.replies.Values.{Values}
use Rattle.apex_model.specs.FailedReads.{by_read}
use Rattle.apex_model.specs.FileSystem.{at_place, given}
use Rattle.apex_model.specs.Outcomes.{Outcome, refused, accepted, reply_of, state_after, refuse_if, refuse_if_with, refuse_for, map_state, success}
use Rattle.apex_model.specs.Tables.{Place, numbers_from}
use Rattle.apex_model.specs.World.{marks_without}
use Rattle.apex_model.proofs.Cuts.{length-map}
use Rattle.apex_model.proofs.ValidFiles.{index-set}
use Rattle.model_laws.proofs.Handles.{index-map}

pub equal-numbers : (a b : ℕ) → (a == b) ≡ true → a ≡ b
equal-numbers a b h = grind (arith, nat_tests)

-- ---- lists

-- of the same length, and related at each place
pub record Agree {A : Type 0} (related : ℕ → A → A → Type 0) (d : A) (xs ys : List A) : Type 0 where
  pub count : length xs ≡ length ys
  pub at : (k : ℕ) → related k (slice_index_or xs k d) (slice_index_or ys k d)

-- each of two lists with another at a place
pub set-cases : {A : Type 0} (xs ys : List A) (i k : ℕ) (x y d : A) → length xs ≡ length ys
    → ((slice_index_or (slice_set xs i x) k d ≡ x) × (slice_index_or (slice_set ys i y) k d ≡ y) × (i ≡ k))
    ⊎ ((slice_index_or (slice_set xs i x) k d ≡ slice_index_or xs k d) × (slice_index_or (slice_set ys i y) k d ≡ slice_index_or ys k d))
set-cases [] [] i k x y d e = inr (refl, refl)
set-cases [] (w ∷ ys) i k x y d e = absurd (omega arith)
set-cases (z ∷ xs) [] i k x y d e = absurd (omega arith)
set-cases (z ∷ xs) (w ∷ ys) zero zero x y d e = inl (refl, refl, refl)
set-cases (z ∷ xs) (w ∷ ys) zero (suc k) x y d e = inr (refl, refl)
set-cases (z ∷ xs) (w ∷ ys) (suc i) zero x y d e = inr (refl, refl)
set-cases (z ∷ xs) (w ∷ ys) (suc i) (suc k) x y d e = elim (set-cases xs ys i k x y d (omega arith)) [ inl is ↦ inl (is.0, is.1, ap suc is.2) | inr same ↦ inr same ]

module _ {A : Type 0} (related : ℕ → A → A → Type 0) (d : A) (xs ys : List A) (agree : Agree related d xs ys) where
  -- each has another at a place
  pub agree-set : (i : ℕ) (x y : A) → related i x y → Agree related d (slice_set xs i x) (slice_set ys i y)
  agree-set i x y h = record {
    count = length-set xs i x ∙ agree.count ∙ sym (length-set ys i y);
    at = λ k. elim (set-cases xs ys i k x y d agree.count) [
      | inl is ↦
          let P : A → Type 0 = λ u. related k u (slice_index_or (slice_set ys i y) k d) in
          let Q : A → Type 0 = λ u. related k x u in
          let N : ℕ → Type 0 = λ n. related n x y in
          subst P (sym is.0) (subst Q (sym is.1) (subst N is.2 h))
      | inr same ↦
          let P : A → Type 0 = λ u. related k u (slice_index_or (slice_set ys i y) k d) in
          let Q : A → Type 0 = λ u. related k (slice_index_or xs k d) u in
          subst P (sym same.0) (subst Q (sym same.1) (agree.at k))
    ];
  }

  -- the first has another at a place
  pub agree-set-first : (i : ℕ) (x : A) → ((y : A) → related i (slice_index_or xs i d) y → related i x y) → Agree related d (slice_set xs i x) ys
  agree-set-first i x h = record {
    count = length-set xs i x ∙ agree.count;
    at = λ k.
        let P : A → Type 0 = λ u. related k u (slice_index_or ys k d) in
        elim (index-set xs i k x d) [
          | inl is ↦
              let N : ℕ → Type 0 = λ n. related n x (slice_index_or ys n d) in
              subst P (sym is.0) (subst N is.1 (h (slice_index_or ys i d) (agree.at i)))
          | inr same ↦ subst P (sym same) (agree.at k)
        ];
  }

  -- each is changed place by place
  pub agree-map : (f : A → A) → f d ≡ d → ((k : ℕ) (x y : A) → related k x y → related k (f x) (f y)) → Agree related d (map f xs) (map f ys)
  agree-map f e h = record {
    count = length-map f xs ∙ agree.count ∙ sym (length-map f ys);
    at = λ k.
        let P : A → Type 0 = λ u. related k u (slice_index_or (map f ys) k d) in
        let Q : A → Type 0 = λ u. related k (f (slice_index_or xs k d)) u in
        subst P (sym (index-map f xs k d e)) (subst Q (sym (index-map f ys k d e)) (h k (slice_index_or xs k d) (slice_index_or ys k d) (agree.at k)));
  }

  pub agree-map-first : (f : A → A) → f d ≡ d → ((k : ℕ) (y : A) → related k (slice_index_or xs k d) y → related k (f (slice_index_or xs k d)) y) → Agree related d (map f xs) ys
  agree-map-first f e h = record {
    count = length-map f xs ∙ agree.count;
    at = λ k. let P : A → Type 0 = λ u. related k u (slice_index_or ys k d) in subst P (sym (index-map f xs k d e)) (h k (slice_index_or ys k d) (agree.at k));
  }

-- two lists that are joined to the rows of a table
pub joined-at : {R A B : Type 0} (f : R × A → B) (d : A) (e : B) (rows : List R) (xs ys : List A) (k : ℕ) → length xs ≡ length ys → slice_index_or xs k d ≡ slice_index_or ys k d
    → slice_index_or (map f (zip rows xs)) k e ≡ slice_index_or (map f (zip rows ys)) k e
joined-at f d e [] xs ys k n h = refl
joined-at f d e (row ∷ rows) [] [] k n h = refl
joined-at f d e (row ∷ rows) [] (y ∷ ys) k n h = absurd (omega arith)
joined-at f d e (row ∷ rows) (x ∷ xs) [] k n h = absurd (omega arith)
joined-at f d e (row ∷ rows) (x ∷ xs) (y ∷ ys) zero n h = ap (λ z. f (row, z)) h
joined-at f d e (row ∷ rows) (x ∷ xs) (y ∷ ys) (suc k) n h = joined-at f d e rows xs ys k (omega arith) h

pub joined-count : {R A B : Type 0} (f : R × A → B) (rows : List R) (xs ys : List A) → length xs ≡ length ys → length (map f (zip rows xs)) ≡ length (map f (zip rows ys))
joined-count f [] xs ys n = refl
joined-count f (row ∷ rows) [] [] n = refl
joined-count f (row ∷ rows) [] (y ∷ ys) n = absurd (omega arith)
joined-count f (row ∷ rows) (x ∷ xs) [] n = absurd (omega arith)
joined-count f (row ∷ rows) (x ∷ xs) (y ∷ ys) n = ap suc (joined-count f rows xs ys (omega arith))

-- a mark of another's row stays
pub mark-stays : {R : Type 0} (owner : R → ℕ) (q : ℕ) (rows : List R) (marks : List Bool) (k : ℕ) (row : R) → slice_get rows k ≡ Some row → owner row ≢ q
    → slice_index_or (marks_without owner q rows marks) k false ≡ slice_index_or marks k false
mark-stays {R} owner q [] marks k row at apart = absurd (let wrong : ◌≡◌ {A = Option R} None (Some row) = at in cc)
mark-stays owner q (r ∷ rows) [] k row at apart = refl
mark-stays owner q (r ∷ rows) (mark ∷ marks) zero row at apart =
    let same : r ≡ row = cc in
    let other : owner r ≢ q = λ is. apart (ap owner (sym same) ∙ is) in
    let test : (owner r == q) ≡ false = grind (arith, nat_tests) in
    ap (λ b. not b && mark) test
mark-stays owner q (r ∷ rows) (mark ∷ marks) (suc k) row at apart = mark-stays owner q rows marks k row at apart

first-or-later : {A : Type 0} (x : A) (xs : List A) (i : ℕ) (k : A) → slice_get (x ∷ xs) i ≡ Some k → (x ≡ k) ⊎ ((j : ℕ) × (slice_get xs j ≡ Some k))
first-or-later x xs zero k e = inl (let same : x ≡ k = cc in same)
first-or-later x xs (suc i) k e = inr (i, e)

numbered-from : {R : Type 0} (test : R → Bool) (first : ℕ) (rows : List R) (i k : ℕ) → slice_get (numbers_from test first rows) i ≡ Some k
    → (j : ℕ) × (row : R) × (k ≡ first + j) × (slice_get rows j ≡ Some row) × (test row ≡ true)
numbered-from test first [] i k e = absurd (let wrong : ◌≡◌ {A = Option ℕ} None (Some k) = e in cc)
numbered-from {R} test first (row ∷ rows) i k e =
    let later : (j : ℕ) → slice_get (numbers_from test (first + 1) rows) j ≡ Some k → (n : ℕ) × (r : R) × (k ≡ first + n) × (slice_get (row ∷ rows) n ≡ Some r) × (test r ≡ true) = λ j h.
    let found = numbered-from test (first + 1) rows j k h in
    (suc found.0, found.1, let is = found.2 in omega (arith, is), found.3, found.4) in
    (elim (test row) as (λ b. test row ≡ b → slice_get (if b then first ∷ numbers_from test (first + 1) rows else numbers_from test (first + 1) rows) i ≡ Some k
    → (n : ℕ) × (r : R) × (k ≡ first + n) × (slice_get (row ∷ rows) n ≡ Some r) × (test r ≡ true)) [
      | true ↦ λ passes h. elim (first-or-later first (numbers_from test (first + 1) rows) i k h) [
        | inl same ↦ (0, row, omega (arith, same), refl, passes)
        | inr there ↦ later there.0 there.1
      ]
      | false ↦ λ passes h. later i h
    ]) refl e

-- a number among those of the rows that pass a test is that of such a row
pub numbered : {R : Type 0} (test : R → Bool) (rows : List R) (i k : ℕ) → slice_get (numbers_from test 0 rows) i ≡ Some k → (row : R) × (slice_get rows k ≡ Some row) × (test row ≡ true)
numbered {R} test rows i k e =
    let found = numbered-from test 0 rows i k e in
    let is = found.2 in
    let same : found.0 ≡ k = omega (arith, is) in
    let P : ℕ → Type 0 = λ n. slice_get rows n ≡ Some found.1 in
    (found.1, subst P same found.3, found.4)

-- ---- outcomes

-- the same refusal, or the same values with states that are related
pub Alike : {S : Type 0} → (S → S → Type 0) → Outcome S → Outcome S → Type 0
Alike related (refused reply) (refused other) = reply ≡ other
Alike related (accepted state values) (accepted next others) = (values ≡ others) × related state next
Alike related (refused reply) (accepted next others) = ⊥
Alike related (accepted state values) (refused other) = ⊥

module _ {S : Type 0} (related : S → S → Type 0) where
  pub alike-refused : (reply : Reply) → Alike related (refused reply) (refused reply)
  unfolding Alike
  alike-refused reply = refl

  pub alike-accepted : (state next : S) (values : Values) (others : Values) → values ≡ others → related state next → Alike related (accepted state values) (accepted next others)
  unfolding Alike
  alike-accepted state next values others e r = (e, r)

  pub alike-reply : (x y : Outcome S) → Alike related x y → reply_of x ≡ reply_of y
  unfolding Alike
  alike-reply (refused reply) (refused other) h = h
  alike-reply (accepted state values) (accepted next others) h = ap success h.0
  alike-reply (refused reply) (accepted next others) h = absurd h
  alike-reply (accepted state values) (refused other) h = absurd h

  pub alike-state : (a b : S) (x y : Outcome S) → related a b → Alike related x y → related (state_after a x) (state_after b y)
  unfolding Alike
  alike-state a b (refused reply) (refused other) r h = r
  alike-state a b (accepted state values) (accepted next others) r h = h.1
  alike-state a b (refused reply) (accepted next others) r h = absurd h
  alike-state a b (accepted state values) (refused other) r h = absurd h

  pub alike-by_read : (failed : Bool) (x y : Outcome S) → Alike related x y → Alike related (by_read failed x) (by_read failed y)
  unfolding Alike
  alike-by_read false x y h = h
  alike-by_read true (refused reply) (refused other) h = h
  alike-by_read true (accepted state values) (accepted next others) h = refl
  alike-by_read true (refused reply) (accepted next others) h = absurd h
  alike-by_read true (accepted state values) (refused other) h = absurd h

  pub alike-if : (test other : Bool) (errno : Errno) (rest next : Outcome S) → test ≡ other → (test ≡ false → Alike related rest next)
      → Alike related (refuse_if test errno rest) (refuse_if other errno next)
  unfolding Alike
  alike-if true true errno rest next e h = refl
  alike-if false false errno rest next e h = h refl
  alike-if true false errno rest next e h = absurd cc
  alike-if false true errno rest next e h = absurd cc

  pub alike-if_with : (test other : Bool) (code : ReturnCode) (rest next : Outcome S) → test ≡ other → (test ≡ false → Alike related rest next)
      → Alike related (refuse_if_with test code rest) (refuse_if_with other code next)
  unfolding Alike
  alike-if_with true true code rest next e h = refl
  alike-if_with false false code rest next e h = h refl
  alike-if_with true false code rest next e h = absurd cc
  alike-if_with false true code rest next e h = absurd cc

  -- where both go on by the same
  pub alike-by : {X : Type 0} (f g : X → Outcome S) (x y : X) → x ≡ y → ((z : X) → x ≡ z → Alike related (f z) (g z)) → Alike related (f x) (g y)
  alike-by {X} f g x y e h = let P : X → Type 0 = λ z. Alike related (f x) (g z) in subst P e (h x refl)

  pub alike-for : (o q : Option Errno) (rest next : Outcome S) → o ≡ q → (o ≡ None → Alike related rest next) → Alike related (refuse_for o rest) (refuse_for q next)
  unfolding Alike
  alike-for o q rest next e h = let P : Option Errno → Type 0 = λ z. Alike related (refuse_for o rest) (refuse_for z next) in subst P e (go o h)
    where
      go : (o : Option Errno) → (o ≡ None → Alike related rest next) → Alike related (refuse_for o rest) (refuse_for o next)
      go None h = h refl
      go (Some errno) h = refl

  pub alike-given : {X : Type 0} (o q : Option X) (errno : Errno) (rest next : X → Outcome S) → o ≡ q → ((x : X) → o ≡ Some x → Alike related (rest x) (next x))
      → Alike related (given o errno rest) (given q errno next)
  unfolding Alike
  alike-given {X} o q errno rest next e h = let P : Option X → Type 0 = λ z. Alike related (given o errno rest) (given z errno next) in subst P e (go o h)
    where
      go : (o : Option X) → ((x : X) → o ≡ Some x → Alike related (rest x) (next x)) → Alike related (given o errno rest) (given o errno next)
      go None h = refl
      go (Some x) h = h x refl

  pub alike-place : (o : Result Place Errno) (rest next : Place → Outcome S) → ((place : Place) → o ≡ Ok place → Alike related (rest place) (next place))
      → Alike related (at_place o rest) (at_place o next)
  unfolding Alike
  alike-place (Err errno) rest next h = refl
  alike-place (Ok place) rest next h = h place refl

-- outcomes of a part, as ones of the whole
pub alike-whole : {S T : Type 0} (part : S → S → Type 0) (whole : T → T → Type 0) (f g : S → T) → ((s t : S) → part s t → whole (f s) (g t))
    → (x y : Outcome S) → Alike part x y → Alike whole (map_state f x) (map_state g y)
unfolding Alike
alike-whole part whole f g h (refused reply) (refused other) k = k
alike-whole part whole f g h (accepted state values) (accepted next others) k = (k.0, h state next k.1)
alike-whole part whole f g h (refused reply) (accepted next others) k = absurd k
alike-whole part whole f g h (accepted state values) (refused other) k = absurd k
