-- A table that was accepted is one that a script can use.
use Rattle.std.proofs.Common.{◌≡◌, ◌&&◌, ℕ, zero, suc, ◌<◌, ◌≤◌, Bool, true, false, not, leb, List, [], ◌∷◌, length, get_or, refl, sym, ◌∙◌, arith, codes, bytes_eq, inl, inr}
use Rattle.std.proofs.lemmas.Bool.{cases_lt}
use Rattle.std.proofs.lemmas.Bool.Decides.{nat_tests}
use Rattle.std.proofs.lemmas.List.Folds.{list_any_at}
use Rattle.std.proofs.lemmas.Slice.Eq.{bytes_eq-Decides}
use Rattle.std.specs.List.{list_all, list_any}
use Rattle.apex_types.specs.Naming.{is_name_byte, is_dots, is_spelled_as_name, is_table_name}
use Rattle.apex_types.specs.Rows.{Rows}
use Rattle.apex_types.specs.declared.rows.PartitionRow.{PartitionRow}
use Rattle.apex_model.specs.Accepted.{IsAccepted, is_within, all_differ, has_good_names, is_in_range, has_no_repeats, has_known_names, fits_volumes, fits_image}
use Rattle.apex_model.proofs.AcceptedTables.{and-left, and-right}
use Rattle.script_model.specs.Spelling.{partition_name, is_word_byte, IsWord, IsReady}
use Rattle.script_model.proofs.Deeds.{no_row, name_at}

-- ---- lists that pass a test

all_at : {A : Type 0} (test : A → Bool) (xs : List A) (p : ℕ) (d : A) → list_all test xs ≡ true → p < length xs → test (get_or xs p d) ≡ true
all_at test [] p d h lt = absurd (omega arith)
all_at test (x ∷ xs) zero d h lt = and-left (test x) (list_all test xs) h
all_at test (x ∷ xs) (suc p) d h lt = all_at test xs p d (and-right (test x) (list_all test xs) h) (omega arith)

not_both : (b : Bool) → not b ≡ true → b ≡ true → ⊥
not_both true h e = absurd cc
not_both false h e = absurd cc

-- where all elements differ, no two of them are the same
none_twice : {A : Type 0} (same : A → A → Bool) (xs : List A) (p q : ℕ) (d : A) → all_differ same xs ≡ true → p < q → q < length xs → same (get_or xs p d) (get_or xs q d) ≡ true → ⊥
none_twice same [] p q d h below lt e = absurd (omega arith)
none_twice same (x ∷ xs) p zero d h below lt e = absurd (omega arith)
none_twice same (x ∷ xs) zero (suc q) d h below lt e =
    not_both (list_any (same x) xs) (and-left (not (list_any (same x) xs)) (all_differ same xs) h) (list_any_at (same x) xs q d (omega arith) e)
none_twice same (x ∷ xs) (suc p) (suc q) d h below lt e =
    none_twice same xs p q d (and-right (not (list_any (same x) xs)) (all_differ same xs) h) (omega arith) (omega arith) e

-- ---- names

word_byte : (b : ℕ) → is_name_byte b ≡ true → is_word_byte b ≡ true
word_byte b h = grind (arith, nat_tests)

word_bytes : (w : List ℕ) → list_all is_name_byte w ≡ true → list_all is_word_byte w ≡ true
word_bytes [] h = refl
word_bytes (b ∷ w) h = rw (word_byte b (and-left (is_name_byte b) (list_all is_name_byte w) h), word_bytes w (and-right (is_name_byte b) (list_all is_name_byte w) h)) refl

some : (n : ℕ) → leb 1 n ≡ true → 0 < n
some n h = grind (arith, nat_tests)

-- the name of a row is a word
name_is_word : (w : List ℕ) → is_table_name w ≡ true → IsWord w
name_is_word w h =
    let spelled = and-right (leb (length w) 24) (is_spelled_as_name w) h in
    let letters = and-left (leb 1 (length w) && list_all is_name_byte w) (not (is_dots w)) spelled in
    record {
      nonempty = some (length w) (and-left (leb 1 (length w)) (list_all is_name_byte w) letters);
      printable = word_bytes w (and-right (leb 1 (length w)) (list_all is_name_byte w) letters);
    }

-- ---- the partitions of an accepted table

abbrev is_partition_name : PartitionRow → Bool
is_partition_name row = is_table_name row.name && not (bytes_eq row.name (codes "TICK"))

abbrev has_name_of : PartitionRow → PartitionRow → Bool
has_name_of a b = bytes_eq a.name b.name

names_are : (table : Rows) → IsAccepted table → list_all is_partition_name table.partitions ≡ true
names_are table a =
    let good : has_good_names table ≡ true = and-left _ (is_in_range table) (and-left _ (has_no_repeats table) (and-left _ (has_known_names table) (and-left _ (fits_volumes table) (and-left _ (fits_image table) a)))) in
    and-left _ _ (and-left _ _ (and-left _ _ good))

names_differ : (table : Rows) → IsAccepted table → all_differ has_name_of table.partitions ≡ true
names_differ table a =
    let apart : has_no_repeats table ≡ true = and-right _ (has_no_repeats table) (and-left _ (has_known_names table) (and-left _ (fits_volumes table) (and-left _ (fits_image table) a))) in
    and-left _ _ (and-left _ _ (and-left _ _ (and-left _ _ (and-left _ _ apart))))

range_is : (table : Rows) → IsAccepted table → is_in_range table ≡ true
range_is table a = and-right (has_good_names table) _ (and-left _ (has_no_repeats table) (and-left _ (has_known_names table) (and-left _ (fits_volumes table) (and-left _ (fits_image table) a))))

few_of_range : (table : Rows) → is_in_range table ≡ true → is_within 1 16 (length table.partitions) ≡ true
few_of_range table h = and-left _ _ (and-left _ _ (and-left _ _ (and-left _ _ (and-left _ _ (and-left _ _ (and-left _ _ (and-left _ _ h)))))))

at_most : (n : ℕ) → is_within 1 16 n ≡ true → n ≤ 16
at_most n h = grind (arith, nat_tests)

partition_named : (table : Rows) → IsAccepted table → (p : ℕ) → p < length table.partitions → is_partition_name (get_or table.partitions p no_row) ≡ true
partition_named table a p lt = all_at is_partition_name table.partitions p no_row (names_are table a) lt

word_of : (table : Rows) → IsAccepted table → (p : ℕ) → p < length table.partitions → IsWord (partition_name table p)
word_of table a p lt =
    let named = partition_named table a p lt in
    let row = get_or table.partitions p no_row in
    rw (name_at table p lt) (name_is_word row.name (and-left (is_table_name row.name) (not (bytes_eq row.name (codes "TICK"))) named))

no_tick : (table : Rows) → IsAccepted table → (p : ℕ) → p < length table.partitions → partition_name table p ≡ codes "TICK" → ⊥
no_tick table a p lt same =
    let named = partition_named table a p lt in
    let row = get_or table.partitions p no_row in
    let here : row.name ≡ codes "TICK" = sym (name_at table p lt) ∙ same in
    not_both (bytes_eq row.name (codes "TICK")) (and-right (is_table_name row.name) (not (bytes_eq row.name (codes "TICK"))) named) ((bytes_eq-Decides row.name (codes "TICK")).1 here)

not_below : (table : Rows) → IsAccepted table → (p q : ℕ) → p < q → q < length table.partitions → partition_name table p ≡ partition_name table q → ⊥
not_below table a p q below lt same =
    let first = get_or table.partitions p no_row in
    let second = get_or table.partitions q no_row in
    let here : first.name ≡ second.name = sym (name_at table p (omega arith)) ∙ same ∙ name_at table q lt in
    none_twice has_name_of table.partitions p q no_row (names_differ table a) below lt ((bytes_eq-Decides first.name second.name).1 here)

one_place : (table : Rows) → IsAccepted table → (p q : ℕ) → p < length table.partitions → q < length table.partitions → partition_name table p ≡ partition_name table q → p ≡ q
one_place table a p q lp lq same =
    elim (cases_lt p q) [
      | inl below ↦ absurd (not_below table a p q below lq same)
      | inr above ↦
          elim (cases_lt q p) [
            | inl below ↦ absurd (not_below table a q p below lp (sym same))
            | inr equal ↦ omega arith
          ]
    ]

pub accepted_ready : (table : Rows) → IsAccepted table → IsReady table
accepted_ready table a = record {
  names = record {
    words = λ p lt. word_of table a p lt;
    ticks = λ p lt same. no_tick table a p lt same;
    differ = λ p q lp lq same. one_place table a p q lp lq same;
  };
  few = at_most (length table.partitions) (few_of_range table (range_is table a));
}
