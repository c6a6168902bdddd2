-- Marking one number after the other, and one row after the other.
use Rattle.std.proofs.Common.{◌≡◌, ℕ, ◌+◌, ◌-◌, ◌∙◌, ◌<◌, ◌≤◌, inl, inr, Bool, true, false, cond, List, [], length, refl, sym, ap, subst, get_or, set, arith}
use Rattle.std.specs.Bool.{OnTrue, OnFalse}
use Rattle.std.proofs.lemmas.Bool.{cases_lt, cases_eq, false≢true}
use Rattle.std.proofs.lemmas.Bool.Decides.{nat_tests}
use Rattle.std.proofs.lemmas.List.{length-set, get_or-set_same, get_or-set_other, get_or_past, set_past}
use Rattle.std.proofs.lemmas.List.Sums.{sum_by-set}
use Rattle.block_quota.specs.Blocks.{is_used, with_mark}
use Rattle.tree_region.specs.Marking.{count_used, KeepsUsed, IsNumberMarked, IsRowMarked, AreRowsMarked}
use Rattle.tree_region.specs.OwnedRows.{number_at, is_new, fresh_before, fresh_in_files}
use Rattle.tree_region.proofs.FreePlaces.{sum-more}

pub keeps-same : (used : List Bool) → KeepsUsed used used
keeps-same used = record { long = refl; stays = λ n is. is }

pub keeps-then : (a b c : List Bool) → KeepsUsed a b → KeepsUsed b c → KeepsUsed a c
keeps-then a b c first second = record { long = second.long ∙ first.long; stays = λ n is. second.stays n (first.stays n is) }

-- ---- one number

pub keeps-mark : (used : List Bool) (n : ℕ) → KeepsUsed used (with_mark used n true)
keeps-mark used n = record {
  long = length-set used (n - 1) true;
  stays = λ m is.
      elim (cases_eq (m - 1) (n - 1)) [
        | inl same ↦
            (elim (cases_lt (n - 1) (length used)) [
              | inl less ↦ ap (λ k. get_or (set used (n - 1) true) k false) same ∙ get_or-set_same used (n - 1) true false less
              | inr past ↦ ap (λ (xs : List Bool). get_or xs (m - 1) false) (set_past used (n - 1) true past) ∙ is
            ])
        | inr other ↦ get_or-set_other used (n - 1) (m - 1) true false other ∙ is
      ];
}

pub mark-used : (used : List Bool) (n : ℕ) → 1 ≤ n → n ≤ length used → is_used (with_mark used n true) n ≡ true
mark-used used n first last = let less : n - 1 < length used = omega arith in get_or-set_same used (n - 1) true false less

-- one more is used
mark-more : (used : List Bool) (n : ℕ) → 1 ≤ n → n ≤ length used → is_used used n ≡ false → count_used (with_mark used n true) ≡ count_used used + 1
unfolding count_used
mark-more used n first last free =
    let less : n - 1 < length used = omega arith in
    let sums = sum_by-set (λ (b : Bool). cond b 1 0) used (n - 1) true false less in
    let none : ◌≡◌ {A = ℕ} (cond (get_or used (n - 1) false) 1 0) 0 = ap (λ b. cond b 1 0) free in
    omega (arith, sums, none)

-- number 0 marks nothing
pub zero-marked : (used : List Bool) → IsNumberMarked 0 used used
zero-marked used = record { keeps = keeps-same used; marked = λ wrong. absurd (omega (arith, wrong)); few = inl refl }

-- any other one is marked where it wasn't
pub number-marked : (n : ℕ) (old new : List Bool) → 1 ≤ n → n ≤ length old → (made : Bool) → OnFalse made (is_used old n ≡ true) → OnFalse made (new ≡ old)
    → OnTrue made (is_used old n ≡ false) → OnTrue made (new ≡ with_mark old n true) → IsNumberMarked n old new
number-marked n old new first last false used same free marked =
    subst (λ (xs : List Bool). IsNumberMarked n old xs) (sym same) record { keeps = keeps-same old; marked = λ one. used; few = inl refl }
number-marked n old new first last true used same free marked =
    subst (λ (xs : List Bool). IsNumberMarked n old xs) (sym marked) record {
      keeps = keeps-mark old n;
      marked = λ one. mark-used old n first last;
      few = inr (first, free, mark-more old n first last free);
    }

-- ---- the numbers of a row

pub row-none : (row : List ℕ) (used : List Bool) → IsRowMarked row 0 used used
row-none row used = record {
  keeps = keeps-same used;
  marked = λ k wrong. absurd (omega (arith, wrong));
  few = λ known is. omega arith;
}

-- a number that is 0, or the known one at its place, is none of a fresh place
pub new-where : (known n : ℕ) → 1 ≤ n → (n ≡ known → ⊥) → is_new known n ≡ true
new-where known n first other = grind (arith, nat_tests)

fresh-more : (known row : List ℕ) (k : ℕ) → fresh_before known row (k + 1) ≡ fresh_before known row k + cond (is_new (get_or known k 0) (get_or row k 0)) 1 0
unfolding fresh_before
fresh-more known row k = sum-more (λ j. cond (is_new (get_or known j 0) (get_or row j 0)) 1 0) k

pub row-more : (row : List ℕ) (k : ℕ) (old now new : List Bool) → IsRowMarked row k old now → IsNumberMarked (get_or row k 0) now new → IsRowMarked row (k + 1) old new
row-more row k old now new before step = record {
  keeps = keeps-then old now new before.keeps step.keeps;
  marked = λ j less first.
      elim (cases_eq j k) [
        | inl same ↦ subst (λ i. 1 ≤ get_or row i 0 → is_used new (get_or row i 0) ≡ true) (sym same) step.marked first
        | inr other ↦ step.keeps.stays (get_or row j 0) (before.marked j (omega (arith, less, other)) first)
      ];
  few = λ known is.
      let so_far : count_used now ≤ count_used old + fresh_before known row k = before.few known is in
      let more = fresh-more known row k in
      elim step.few [
        | inl same ↦ omega arith
        | inr one ↦
            let counted : count_used new ≡ count_used now + 1 = one.2 in
            let other : get_or row k 0 ≡ get_or known k 0 → ⊥
            = λ e. false≢true (sym one.1 ∙ before.keeps.stays (get_or row k 0) (ap (is_used old) e ∙ is k (subst (λ n. 1 ≤ n) e one.0))) in
            let fresh : ◌≡◌ {A = ℕ} (cond (is_new (get_or known k 0) (get_or row k 0)) 1 0) 1 = ap (λ b. cond b 1 0) (new-where (get_or known k 0) (get_or row k 0) one.0 other) in
            omega arith
      ];
}

-- ---- the rows of all files

pub rows-none : (rows : List (List ℕ)) (used : List Bool) → AreRowsMarked rows 0 used used
rows-none rows used = record {
  keeps = keeps-same used;
  marked = λ f k wrong. absurd (omega (arith, wrong));
  few = λ known is. omega arith;
}

fresh-rows-more : (known rows : List (List ℕ)) (f : ℕ)
    → fresh_in_files known rows (f + 1) ≡ fresh_in_files known rows f + fresh_before (get_or known f []) (get_or rows f []) (length (get_or rows f []))
unfolding fresh_in_files
fresh-rows-more known rows f = sum-more (λ g. fresh_before (get_or known g []) (get_or rows g []) (length (get_or rows g []))) f

pub rows-more : (rows : List (List ℕ)) (f : ℕ) (row : List ℕ) (old now new : List Bool) → row ≡ get_or rows f [] → AreRowsMarked rows f old now → IsRowMarked row (length row) now new
    → AreRowsMarked rows (f + 1) old new
rows-more rows f row old now new is_row before of_row =
    let step : IsRowMarked (get_or rows f []) (length (get_or rows f [])) now new = subst (λ (xs : List ℕ). IsRowMarked xs (length xs) now new) is_row of_row in
    record {
      keeps = keeps-then old now new before.keeps step.keeps;
      marked = λ g k less first.
          elim (cases_eq g f) [
            | inl same ↦ subst (λ i. 1 ≤ number_at rows i k → is_used new (number_at rows i k) ≡ true) (sym same) (in-row step k) first
            | inr other ↦ step.keeps.stays (number_at rows g k) (before.marked g k (omega (arith, less, other)) first)
          ];
      few = λ known is.
          let so_far : count_used now ≤ count_used old + fresh_in_files known rows f = before.few known is in
          let more = fresh-rows-more known rows f in
          let here = step.few (get_or known f []) (λ k first. before.keeps.stays (number_at known f k) (is f k first)) in
          omega arith;
    }
  where
    -- also behind its end, where all numbers are 0
    in-row : {xs : List ℕ} {now new : List Bool} → IsRowMarked xs (length xs) now new → (k : ℕ) → 1 ≤ get_or xs k 0 → is_used new (get_or xs k 0) ≡ true
    in-row {xs} {now} {new} step k first =
        elim (cases_lt k (length xs)) [
          | inl less ↦ step.marked k less first
          | inr past ↦ absurd (let none : get_or xs k 0 ≡ 0 = get_or_past xs k 0 past in omega (arith, none, first))
        ]
