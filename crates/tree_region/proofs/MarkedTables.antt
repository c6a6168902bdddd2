-- Marks that are set one after the other tell whether numbers are distinct, and which blocks they name.
use Rattle.std.proofs.Common.{◌≡◌, ◌≢◌, ℕ, zero, suc, ◌+◌, ◌-◌, ◌*◌, ◌<◌, ◌≤◌, Bool, true, false, cond, not, ◌&&◌, ◌||◌, ◌==◌, List, [], ◌∷◌, length, drop, replicate, set, refl, sym, ap, subst, ◌∙◌, Option, Some, None, inl, inr, get_or, arith, get_or-set_same, get_or-set_other, length-set, nat_le}
use Rattle.std.proofs.lemmas.Bool.{cases_eq, eq-eqb}
use Rattle.std.proofs.lemmas.Bool.Decides.{nat_tests}
use Rattle.std.proofs.lemmas.List.{length-replicate}
use Rattle.std.specs.List.{list_all, list_any}
use Rattle.apex_model.specs.Image.{are_distinct}
use Rattle.block_quota.specs.Blocks.{is_used, with_mark}
use Rattle.file_tree.proofs.Children.{and-first, and-second}
use Rattle.tree_region.specs.Marks.{marked_next, marked_all}
use Rattle.tree_region.specs.Numbers.{AreUsed}
use Rattle.tree_region.proofs.Lists.{drop-here, drop-all}

-- ---- tests

or-true : (a : Bool) → (a || true) ≡ true
or-true true = refl
or-true false = refl

or-false : (a : Bool) → (a || false) ≡ a
or-false true = refl
or-false false = refl

or-group : (a b c : Bool) → ((a || b) || c) ≡ (a || (b || c))
or-group true b c = refl
or-group false b c = refl

and-false : (a b : Bool) → (a && (false && b)) ≡ false
and-false true b = refl
and-false false b = refl

-- one more test in front of two conjunctions
in-front : (a b x l : Bool) → ((not a && x) && (not b && l)) ≡ (not (a || b) && (x && l))
in-front true b x l = refl
in-front false true true l = refl
in-front false true false l = refl
in-front false false true l = refl
in-front false false false l = refl

regroup : (a d l : Bool) → (d && (a && l)) ≡ ((a && d) && (true && l))
regroup true true l = refl
regroup true false l = refl
regroup false true l = refl
regroup false false l = refl

other-is : (m n : ℕ) → m ≢ n → (m == n) ≡ false
other-is m n h = grind (arith, nat_tests)

is-turned : (m n : ℕ) → (m == n) ≡ (n == m)
is-turned m n = elim (cases_eq m n) [
  | inl e ↦ eq-eqb m n e ∙ sym (eq-eqb n m (sym e))
  | inr h ↦ other-is m n h ∙ sym (other-is n m (λ e. h (sym e)))
]

-- ---- one mark

pub mark-is : (used : List Bool) (n m : ℕ) → 1 ≤ n → n ≤ length used → 1 ≤ m → is_used (with_mark used n true) m ≡ (is_used used m || (n == m))
mark-is used n m one room some = elim (cases_eq n m) [
  | inl e ↦
      ap (λ (k : ℕ). get_or (set used (n - 1) true) (k - 1) false) (sym e)
      ∙ get_or-set_same used (n - 1) true false (omega (arith, one, room))
      ∙ sym (ap (λ b. is_used used m || b) (eq-eqb n m e) ∙ or-true (is_used used m))
  | inr other ↦
      get_or-set_other used (n - 1) (m - 1) true false (omega (arith, one, some, other))
      ∙ sym (ap (λ b. is_used used m || b) (other-is n m other) ∙ or-false (is_used used m))
]

-- a number whose block is not used
abbrev is_new : List Bool → ℕ → Bool
is_new used n = (n == 0) || not (is_used used n)

not-or : (a b : Bool) → not (a || b) ≡ (not b && not a)
not-or true true = refl
not-or true false = refl
not-or false true = refl
not-or false false = refl

module _ (used : List Bool) (n : ℕ) (one : 1 ≤ n) (room : n ≤ length used) where
  new-beside : (k : ℕ) → is_new (with_mark used n true) k ≡ (not (k == n) && is_new used k)
  new-beside k = elim (cases_eq k 0) [
    | inl zero_is ↦
        ap (λ b. b || not (is_used (with_mark used n true) k)) (eq-eqb k 0 zero_is)
        ∙ sym (ap (λ b. not b && is_new used k) (other-is k n (omega (arith, one, zero_is))) ∙ ap (λ b. b || not (is_used used k)) (eq-eqb k 0 zero_is))
    | inr some ↦
        ap (λ b. b || not (is_used (with_mark used n true) k)) (other-is k 0 some)
        ∙ ap not (mark-is used n k one room (omega (arith, some)))
        ∙ not-or (is_used used k) (n == k)
        ∙ ap (λ b. not b && not (is_used used k)) (is-turned n k)
        ∙ sym (ap (λ b. not (k == n) && (b || not (is_used used k))) (other-is k 0 some))
  ]

  all-beside : (numbers : List ℕ) → list_all (is_new (with_mark used n true)) numbers ≡ (not (list_any (λ other. other == n) numbers) && list_all (is_new used) numbers)
  all-beside [] = refl
  all-beside (k ∷ numbers) =
      ap (λ b. b && list_all (is_new (with_mark used n true)) numbers) (new-beside k)
      ∙ ap (λ b. (not (k == n) && is_new used k) && b) (all-beside numbers)
      ∙ in-front (k == n) (list_any (λ other. other == n) numbers) (is_new used k) (list_all (is_new used) numbers)

-- ---- all marks

-- where all are marked, the numbers are new and distinct, and those blocks are used that were or that they name
pub record AreAll (used : List Bool) (numbers : List ℕ) (more : List Bool) : Type 0 where
  pub new : (are_distinct numbers && list_all (is_new used) numbers) ≡ true
  pub long : length more ≡ length used
  pub named : (m : ℕ) → 1 ≤ m → is_used more m ≡ (is_used used m || list_any (λ other. other == m) numbers)

abbrev MarksAs : List Bool → List ℕ → Option (List Bool) → Type 0
MarksAs used numbers None = (are_distinct numbers && list_all (is_new used) numbers) ≡ false
MarksAs used numbers (Some more) = AreAll used numbers more

-- number 0 in front
skipped : (used : List Bool) (n : ℕ) (numbers : List ℕ) → n ≡ 0 → (o : Option (List Bool)) → MarksAs used numbers o → MarksAs used (n ∷ numbers) o
skipped used n numbers e o =
    let same : (are_distinct (n ∷ numbers) && list_all (is_new used) (n ∷ numbers)) ≡ (are_distinct numbers && list_all (is_new used) numbers)
    = ap (λ b. ((b || not (list_any (λ other. other == n) numbers)) && are_distinct numbers) && ((b || not (is_used used n)) && list_all (is_new used) numbers)) (eq-eqb n 0 e) in
    elim o as (λ p. MarksAs used numbers p → MarksAs used (n ∷ numbers) p) [
      | None ↦ λ none. same ∙ none
      | Some more ↦ λ all. record {
        new = same ∙ all.new;
        long = all.long;
        named = λ m some. all.named m some ∙ ap (λ b. is_used used m || (b || list_any (λ other. other == m) numbers)) (sym (other-is n m (omega (arith, e, some))));
      }
    ]

-- a new number in front
joined-is : (used : List Bool) (n : ℕ) (numbers : List ℕ) → 1 ≤ n → n ≤ length used → is_used used n ≡ false → (o : Option (List Bool)) → MarksAs (with_mark used n true) numbers o → MarksAs used (n ∷ numbers) o
joined-is used n numbers one room free o =
    let test : (n == 0) ≡ false = other-is n 0 (omega (arith, one)) in
    let any = list_any (λ other. other == n) numbers in
    let same : (are_distinct numbers && list_all (is_new (with_mark used n true)) numbers) ≡ (are_distinct (n ∷ numbers) && list_all (is_new used) (n ∷ numbers))
    = ap (λ b. are_distinct numbers && b) (all-beside used n one room numbers)
    ∙ regroup (not any) (are_distinct numbers) (list_all (is_new used) numbers)
    ∙ ap (λ b. ((b || not any) && are_distinct numbers) && ((b || true) && list_all (is_new used) numbers)) (sym test)
    ∙ ap (λ b. are_distinct (n ∷ numbers) && (((n == 0) || not b) && list_all (is_new used) numbers)) (sym free) in
    elim o as (λ p. MarksAs (with_mark used n true) numbers p → MarksAs used (n ∷ numbers) p) [
      | None ↦ λ none. sym same ∙ none
      | Some more ↦ λ all. record {
        new = sym same ∙ all.new;
        long = all.long ∙ length-set used (n - 1) true;
        named = λ m some.
            all.named m some ∙ ap (λ b. b || list_any (λ other. other == m) numbers) (mark-is used n m one room some)
            ∙ or-group (is_used used m) (n == m) (list_any (λ other. other == m) numbers);
      }
    ]

pub marks-are : (used : List Bool) (numbers : List ℕ) → list_all (λ n. nat_le n (length used)) numbers ≡ true → MarksAs used numbers (marked_all used numbers)
unfolding marked_all
marks-are used [] h = record { new = refl; long = refl; named = λ m some. sym (or-false (is_used used m)) }
marks-are used (n ∷ numbers) h =
    let rest : list_all (λ k. nat_le k (length used)) numbers ≡ true = and-second (nat_le n (length used)) (list_all (λ k. nat_le k (length used)) numbers) h in
    let first : nat_le n (length used) ≡ true = and-first (nat_le n (length used)) (list_all (λ k. nat_le k (length used)) numbers) h in
    let room : n ≤ length used = grind (arith, nat_tests) in
    elim (cases_eq n 0) [
      | inl e ↦
          subst (λ (o : Option (List Bool)). MarksAs used (n ∷ numbers) o)
          (sym (ap (λ b. elim (cond b (Some used) (cond (is_used used n) None (Some (with_mark used n true)))) [ None ↦ None | Some more ↦ marked_all more numbers ]) (eq-eqb n 0 e)))
          (skipped used n numbers e (marked_all used numbers) (marks-are used numbers rest))
      | inr some ↦
          let test : (n == 0) ≡ false = other-is n 0 some in
          (elim (is_used used n) as (λ b. is_used used n ≡ b → MarksAs used (n ∷ numbers) (marked_all used (n ∷ numbers))) [
            | true ↦ λ taken.
                subst (λ (o : Option (List Bool)). MarksAs used (n ∷ numbers) o)
                (sym (ap (λ b. elim (cond b (Some used) (cond (is_used used n) None (Some (with_mark used n true)))) [ None ↦ None | Some more ↦ marked_all more numbers ]) test
                ∙ ap (λ b. elim (cond b None (Some (with_mark used n true))) [ None ↦ None | Some more ↦ marked_all more numbers ]) taken))
                (ap (λ b. are_distinct (n ∷ numbers) && ((b || not (is_used used n)) && list_all (is_new used) numbers)) test
                ∙ ap (λ b. are_distinct (n ∷ numbers) && (not b && list_all (is_new used) numbers)) taken
                ∙ and-false (are_distinct (n ∷ numbers)) (list_all (is_new used) numbers))
            | false ↦ λ free.
                subst (λ (o : Option (List Bool)). MarksAs used (n ∷ numbers) o)
                (sym (ap (λ b. elim (cond b (Some used) (cond (is_used used n) None (Some (with_mark used n true)))) [ None ↦ None | Some more ↦ marked_all more numbers ]) test
                ∙ ap (λ b. elim (cond b None (Some (with_mark used n true))) [ None ↦ None | Some more ↦ marked_all more numbers ]) free))
                (joined-is used n numbers (omega (arith, some)) room free (marked_all (with_mark used n true) numbers)
                (marks-are (with_mark used n true) numbers (ap (λ k. list_all (λ j. nat_le j k) numbers) (length-set used (n - 1) true) ∙ rest)))
          ]) refl
    ]

-- ---- from no mark on

all-new : (count : ℕ) (numbers : List ℕ) → list_all (is_new (replicate count false)) numbers ≡ true
all-new count [] = refl
all-new count (n ∷ numbers) =
    ap (λ b. ((n == 0) || not b) && list_all (is_new (replicate count false)) numbers) (none-marked count (n - 1))
    ∙ ap (λ b. b && list_all (is_new (replicate count false)) numbers) (or-true (n == 0)) ∙ all-new count numbers
  where
    none-marked : (count k : ℕ) → get_or (replicate count false) k false ≡ false
    none-marked zero k = refl
    none-marked (suc count) zero = refl
    none-marked (suc count) (suc k) = none-marked count k

and-true : (a : Bool) → (a && true) ≡ a
and-true true = refl
and-true false = refl

module _ (quota : ℕ) (numbers : List ℕ) (within : list_all (λ n. nat_le n (2 * quota)) numbers ≡ true) where
  abbrev fresh : List Bool
  fresh = replicate (2 * quota) false

  fresh-long : length fresh ≡ 2 * quota
  fresh-long = length-replicate {A = Bool} (2 * quota) false

  fresh-marks : MarksAs fresh numbers (marked_all fresh numbers)
  fresh-marks = marks-are fresh numbers (ap (λ k. list_all (λ n. nat_le n k) numbers) fresh-long ∙ within)

  distinct-is : (are_distinct numbers && list_all (is_new fresh) numbers) ≡ are_distinct numbers
  distinct-is = ap (λ b. are_distinct numbers && b) (all-new (2 * quota) numbers) ∙ and-true (are_distinct numbers)

  unused : (k : ℕ) → get_or fresh k false ≡ false
  unused k = unmarked (2 * quota) k
    where
      unmarked : (count k : ℕ) → get_or (replicate count false) k false ≡ false
      unmarked zero k = refl
      unmarked (suc count) zero = refl
      unmarked (suc count) (suc k) = unmarked count k

  pub marked-none : marked_all fresh numbers ≡ None → are_distinct numbers ≡ false
  marked-none h = sym distinct-is ∙ subst (λ (o : Option (List Bool)). MarksAs fresh numbers o) h fresh-marks

  pub marked-some : (used : List Bool) → marked_all fresh numbers ≡ Some used → (are_distinct numbers ≡ true) × AreUsed quota numbers used
  marked-some used h =
      let all : AreAll fresh numbers used = subst (λ (o : Option (List Bool)). MarksAs fresh numbers o) h fresh-marks in (
        sym distinct-is ∙ all.new,
        record {
          long = all.long ∙ fresh-long;
          named = λ n one few. all.named n one ∙ ap (λ b. b || list_any (λ other. other == n) numbers) (unused (n - 1));
        },
      )

-- ---- the loop

-- with some numbers marked, the others are left
pub record IsMarkedTo (quota : ℕ) (numbers : List ℕ) (k : ℕ) (used : List Bool) : Type 0 where
  pub long : length used ≡ 2 * quota
  pub is : marked_all (replicate (2 * quota) false) numbers ≡ marked_all used (drop k numbers)

pub marked-start : (quota : ℕ) (numbers : List ℕ) → IsMarkedTo quota numbers 0 (replicate (2 * quota) false)
marked-start quota numbers = record { long = length-replicate {A = Bool} (2 * quota) false; is = refl }

module _ (quota : ℕ) (numbers : List ℕ) (k : ℕ) (used : List Bool) (so_far : IsMarkedTo quota numbers k used) where
  step : k < length numbers → marked_all (replicate (2 * quota) false) numbers
      ≡ elim (marked_next used (get_or numbers k 0)) [ None ↦ None | Some more ↦ marked_all more (drop (suc k) numbers) ]
  unfolding marked_all
  step less = so_far.is ∙ ap (marked_all used) (drop-here numbers k 0 less)

  pub marked-twice : k < length numbers → marked_next used (get_or numbers k 0) ≡ None → marked_all (replicate (2 * quota) false) numbers ≡ None
  marked-twice less h = step less ∙ ap (λ (o : Option (List Bool)). elim o [ None ↦ None | Some more ↦ marked_all more (drop (suc k) numbers) ]) h

  pub marked-more : (more : List Bool) → k < length numbers → length more ≡ length used → marked_next used (get_or numbers k 0) ≡ Some more → IsMarkedTo quota numbers (k + 1) more
  marked-more more less long h = record {
    long = long ∙ so_far.long;
    is = step less ∙ ap (λ (o : Option (List Bool)). elim o [ None ↦ None | Some m ↦ marked_all m (drop (suc k) numbers) ]) h
        ∙ (let e : suc k ≡ k + 1 = omega arith in ap (λ n. marked_all more (drop n numbers)) e);
  }

  pub marked-end : length numbers ≤ k → marked_all (replicate (2 * quota) false) numbers ≡ Some used
  unfolding marked_all
  marked-end past = so_far.is ∙ ap (marked_all used) (drop-all numbers k past)
