-- A run with a partition's own lines alone.
use Rattle.std.proofs.Common.{◌≡◌, ℕ, zero, suc, Bool, true, false, cond, List, [], ◌∷◌, take, refl, sym, ap, ◌∙◌, Option, Some, None}
use Rattle.std.specs.Prelude.{filter, slice_get}
use Rattle.std.specs.List.{AllByRecursion}
use Rattle.apex_types.specs.declared.calls.Line.{Line}
use Rattle.apex_model.specs.Isolation.{upstream_marks, concerns, own_lines, restricted}
use Rattle.apex_model.specs.Laws.{RepliesDependOnUpstream}
use Rattle.apex_model.specs.Lines.{IsLineOf}
use Rattle.script_run.specs.OwnLines.{replies_from, OwnLinesAreOwn, OwnLinesAreOfTable, OwnLinesStand, OwnLinesSuffice, OwnLinesSufficeBefore}

-- ---- what passes a test

filter-twice : {A : Type 0} (test : A → Bool) (xs : List A) → filter test (filter test xs) ≡ filter test xs
filter-twice test [] = refl
filter-twice {A} test (x ∷ xs) =
    (elim (test x) as (λ b. test x ≡ b → filter test (cond b (x ∷ filter test xs) (filter test xs)) ≡ cond b (x ∷ filter test xs) (filter test xs)) [
      | true ↦ λ is. ap (λ b. cond b (x ∷ filter test (filter test xs)) (filter test (filter test xs))) is ∙ ap (λ (ys : List A). x ∷ ys) (filter-twice test xs)
      | false ↦ λ is. filter-twice test xs
    ]) refl

all-filtered : {A : Type 0} (P : A → Type 0) (test : A → Bool) (xs : List A) → AllByRecursion P xs → AllByRecursion P (filter test xs)
all-filtered P test [] h = tt
all-filtered P test (x ∷ xs) h = elim (test x) as (λ b. AllByRecursion P (cond b (x ∷ filter test xs) (filter test xs))) [ true ↦ (h.0, all-filtered P test xs h.1) | false ↦ all-filtered P test xs h.1 ]

all-taken : {A : Type 0} (P : A → Type 0) (n : ℕ) (xs : List A) → AllByRecursion P xs → AllByRecursion P (take n xs)
all-taken P zero xs h = tt
all-taken P (suc n) [] h = tt
all-taken P (suc n) (x ∷ xs) h = (h.0, all-taken P n xs h.1)

-- where the item of a number that passes stands in the whole list
record Stands {A : Type 0} (test : A → Bool) (xs : List A) (k : ℕ) (x : A) : Type 0 where
  place : ℕ
  at : slice_get xs place ≡ Some x
  before : take k (filter test xs) ≡ filter test (take place xs)

kept-before : {A : Type 0} (test : A → Bool) (y : A) (ys : List A) (k n : ℕ) → test y ≡ true → take k (filter test ys) ≡ filter test (take n ys) → take (suc k) (filter test (y ∷ ys)) ≡ filter test (take (suc n) (y ∷ ys))
kept-before {A} test y ys k n is same =
    ap (λ b. take (suc k) (cond b (y ∷ filter test ys) (filter test ys))) is
    ∙ ap (λ (zs : List A). y ∷ zs) same
    ∙ (let q = ap (λ b. cond b (y ∷ filter test (take n ys)) (filter test (take n ys))) is in sym q)

left-before : {A : Type 0} (test : A → Bool) (y : A) (ys : List A) (k n : ℕ) → test y ≡ false → take k (filter test ys) ≡ filter test (take n ys) → take k (filter test (y ∷ ys)) ≡ filter test (take (suc n) (y ∷ ys))
left-before test y ys k n is same =
    ap (λ b. take k (cond b (y ∷ filter test ys) (filter test ys))) is
    ∙ same
    ∙ (let q = ap (λ b. cond b (y ∷ filter test (take n ys)) (filter test (take n ys))) is in sym q)

after-kept : {A : Type 0} (test : A → Bool) (y : A) (ys : List A) (k : ℕ) (x : A) → test y ≡ true → Stands test ys k x → Stands test (y ∷ ys) (suc k) x
after-kept test y ys k x is later = record { place = suc later.place; at = later.at; before = kept-before test y ys k later.place is later.before }

after-left : {A : Type 0} (test : A → Bool) (y : A) (ys : List A) (k : ℕ) (x : A) → test y ≡ false → Stands test ys k x → Stands test (y ∷ ys) k x
after-left test y ys k x is later = record { place = suc later.place; at = later.at; before = left-before test y ys k later.place is later.before }

stands : {A : Type 0} (test : A → Bool) (xs : List A) (k : ℕ) (x : A) → slice_get (filter test xs) k ≡ Some x → Stands test xs k x
stands {A} test [] k x h = absurd (let wrong : ◌≡◌ {A = Option A} None (Some x) = h in cc)
stands test (y ∷ ys) zero x h =
    (elim (test y) as (λ b. test y ≡ b → slice_get (cond b (y ∷ filter test ys) (filter test ys)) 0 ≡ Some x → Stands test (y ∷ ys) 0 x) [
      | true ↦ λ is g. record { place = 0; at = g; before = refl }
      | false ↦ λ is g. after-left test y ys 0 x is (stands test ys 0 x g)
    ]) refl h
stands test (y ∷ ys) (suc k) x h =
    (elim (test y) as (λ b. test y ≡ b → slice_get (cond b (y ∷ filter test ys) (filter test ys)) (suc k) ≡ Some x → Stands test (y ∷ ys) (suc k) x) [
      | true ↦ λ is g. after-kept test y ys k x is (stands test ys k x g)
      | false ↦ λ is g. after-left test y ys (suc k) x is (stands test ys (suc k) x g)
    ]) refl h

-- ---- the laws

pub own-are-own : OwnLinesAreOwn
own-are-own table p lines = filter-twice (λ line. concerns (upstream_marks table p) line.deed) lines

pub own-of-table : OwnLinesAreOfTable
own-of-table table p lines h = all-filtered (IsLineOf table) (λ line. concerns (upstream_marks table p) line.deed) lines h

pub own-stand : OwnLinesStand
own-stand table p lines k line h =
    let s = stands (λ line. concerns (upstream_marks table p) line.deed) lines k line h in
    record { place = s.place; at = s.at; before = s.before }

-- both are the replies with what is stored of the upstream alone
pub own-suffice : RepliesDependOnUpstream → OwnLinesSuffice
own-suffice law table failed durable p lines good valid all =
    let few = law table failed durable (own_lines table p lines) p good valid (own-of-table table p lines all) in
    let many = law table failed durable lines p good valid all in
    few ∙ ap (λ (own : List Line). replies_from table failed (restricted table p durable) p own) (own-are-own table p lines) ∙ sym many

pub own-suffice-before : RepliesDependOnUpstream → OwnLinesSufficeBefore
own-suffice-before law table failed durable p lines k line good valid all s =
    ap (λ (own : List Line). replies_from table failed durable p own) s.before
    ∙ own-suffice law table failed durable p (take s.place lines) good valid (all-taken (IsLineOf table) s.place lines all)
