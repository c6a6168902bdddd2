-- An accepted table is ready for scripts.
use Rattle.std.proofs.Common.{◌≡◌, ◌≤◌, ℕ, zero, suc, Bool, true, false, not, ◌&&◌, ◌||◌, leb, List, [], ◌∷◌, length, Option, Some, None, refl, sym, ap, subst, ◌∙◌, arith, codes, bytes_eq}
use Rattle.std.specs.Prelude.{slice_get}
use Rattle.std.specs.List.{list_any, list_all}
use Rattle.std.proofs.lemmas.Bool.{and_parts}
use Rattle.std.proofs.lemmas.Bool.Decides.{nat_tests}
use Rattle.std.proofs.lemmas.Slice.Eq.{bytes_eq-Decides}
use Rattle.apex_types.specs.Naming.{is_table_name, is_name_byte, is_dots, is_spelled_as_name}
use Rattle.apex_types.specs.Rows.{Rows}
use Rattle.apex_types.specs.declared.rows.PartitionRow.{PartitionRow}
use Rattle.apex_model.specs.Accepted.{IsAccepted, all_differ, is_within, has_good_names, is_in_range, has_no_repeats, has_known_names, fits_volumes, fits_image}
use Rattle.table_model.specs.Document.{is_partition_name}
use Rattle.table_model.specs.Table.{is_same_partition}
use Rattle.table_model.specs.Laws.{is_word_byte, IsReadyForScripts}

left : (a b : Bool) → (a && b) ≡ true → a ≡ true
left true b h = refl
left false b h = h

right : (a b : Bool) → (a && b) ≡ true → b ≡ true
right true b h = h
right false b h = absurd cc

neither : (a b : Bool) → (a || b) ≡ false → (a ≡ false) × (b ≡ false)
neither true b h = absurd cc
neither false b h = (refl, h)

not_true : (b : Bool) → not b ≡ true → b ≡ false
not_true true h = absurd cc
not_true false h = refl

-- ---- names

word_byte : (b : ℕ) → is_name_byte b ≡ true → is_word_byte b ≡ true
word_byte b h = grind (arith, nat_tests)

word_bytes : (w : List ℕ) → list_all is_name_byte w ≡ true → list_all is_word_byte w ≡ true
word_bytes [] h = refl
word_bytes (b ∷ w) h =
    let p = and_parts (is_name_byte b) (list_all is_name_byte w) h in
    rw (word_byte b p.0, word_bytes w p.1) refl

le_from : (m n : ℕ) → leb m n ≡ true → m ≤ n
le_from m n h = grind (arith, nat_tests)

name_is_word : (w : List ℕ) → is_table_name w ≡ true → (1 ≤ length w) × (length w ≤ 24) × (list_all is_word_byte w ≡ true)
name_is_word w h =
    let a = and_parts (leb (length w) 24) (is_spelled_as_name w) h in
    let b = and_parts (leb 1 (length w) && list_all is_name_byte w) (not (is_dots w)) a.1 in
    let c = and_parts (leb 1 (length w)) (list_all is_name_byte w) b.0 in
    (le_from 1 (length w) c.0, le_from (length w) 24 a.0, word_bytes w c.1)

all_at : {A : Type 0} (test : A → Bool) (xs : List A) (p : ℕ) (x : A) → list_all test xs ≡ true → slice_get xs p ≡ Some x → test x ≡ true
all_at test [] p x h g = absurd (let e : ◌≡◌ {A = Option _} None (Some x) = g in cc)
all_at test (y ∷ ys) zero x h g =
    let e : y ≡ x = cc in
    subst (λ z. test z ≡ true) e (left (test y) (list_all test ys) h)
all_at test (y ∷ ys) (suc p) x h g = all_at test ys p x (right (test y) (list_all test ys) h) g

any_at : {A : Type 0} (test : A → Bool) (xs : List A) (p : ℕ) (x : A) → list_any test xs ≡ false → slice_get xs p ≡ Some x → test x ≡ false
any_at test [] p x h g = absurd (let e : ◌≡◌ {A = Option _} None (Some x) = g in cc)
any_at test (y ∷ ys) zero x h g =
    let e : y ≡ x = cc in
    subst (λ z. test z ≡ false) e (neither (test y) (list_any test ys) h).0
any_at test (y ∷ ys) (suc p) x h g = any_at test ys p x (neither (test y) (list_any test ys) h).1 g

apart_at : (xs : List PartitionRow) (p q : ℕ) (x y : PartitionRow) → all_differ is_same_partition xs ≡ true → slice_get xs p ≡ Some x → slice_get xs q ≡ Some y → x.name ≡ y.name → p ≡ q
apart_at [] p q x y h g k e = absurd (let no : ◌≡◌ {A = Option PartitionRow} None (Some x) = g in cc)
apart_at (z ∷ zs) zero zero x y h g k e = refl
apart_at (z ∷ zs) zero (suc q) x y h g k e =
    let a = left (not (list_any (is_same_partition z) zs)) (all_differ is_same_partition zs) h in
    let other = any_at (is_same_partition z) zs q y (not_true (list_any (is_same_partition z) zs) a) k in
    let first : z ≡ x = cc in
    let same = (bytes_eq-Decides z.name y.name).1 (ap (λ (r : PartitionRow). r.name) first ∙ e) in
    absurd (let no : true ≡ false = sym same ∙ other in cc)
apart_at (z ∷ zs) (suc p) zero x y h g k e =
    let a = left (not (list_any (is_same_partition z) zs)) (all_differ is_same_partition zs) h in
    let other = any_at (is_same_partition z) zs p x (not_true (list_any (is_same_partition z) zs) a) g in
    let first : z ≡ y = cc in
    let same = (bytes_eq-Decides z.name x.name).1 (ap (λ (r : PartitionRow). r.name) first ∙ sym e) in
    absurd (let no : true ≡ false = sym same ∙ other in cc)
apart_at (z ∷ zs) (suc p) (suc q) x y h g k e = ap suc (apart_at zs p q x y (right (not (list_any (is_same_partition z) zs)) (all_differ is_same_partition zs) h) g k e)

-- ---- the table

good_names : (rows : Rows) → IsAccepted rows → list_all (λ row. is_partition_name row.name) rows.partitions ≡ true
good_names rows a =
    let names = left (has_good_names rows) (is_in_range rows) (left (has_good_names rows && is_in_range rows) (has_no_repeats rows) (left (has_good_names rows && is_in_range rows && has_no_repeats rows) (has_known_names rows)
    (left (has_good_names rows && is_in_range rows && has_no_repeats rows && has_known_names rows) (fits_volumes rows) (left _ (fits_image rows) a)))) in
    left _ _ (left _ _ (left _ _ names))

in_range : (rows : Rows) → IsAccepted rows → is_within 1 16 (length rows.partitions) ≡ true
in_range rows a =
    let range = right (has_good_names rows) (is_in_range rows) (left (has_good_names rows && is_in_range rows) (has_no_repeats rows) (left (has_good_names rows && is_in_range rows && has_no_repeats rows) (has_known_names rows)
    (left (has_good_names rows && is_in_range rows && has_no_repeats rows && has_known_names rows) (fits_volumes rows) (left _ (fits_image rows) a)))) in
    left _ _ (left _ _ (left _ _ (left _ _ (left _ _ (left _ _ (left _ _ (left _ _ range)))))))

apart : (rows : Rows) → IsAccepted rows → all_differ is_same_partition rows.partitions ≡ true
apart rows a =
    let differ = right (has_good_names rows && is_in_range rows) (has_no_repeats rows) (left (has_good_names rows && is_in_range rows && has_no_repeats rows) (has_known_names rows)
    (left (has_good_names rows && is_in_range rows && has_no_repeats rows && has_known_names rows) (fits_volumes rows) (left _ (fits_image rows) a))) in
    left _ _ (left _ _ (left _ _ (left _ _ (left _ _ differ))))

pub accepted_ready : (rows : Rows) → IsAccepted rows → IsReadyForScripts rows
accepted_ready rows a =
    let names = good_names rows a in
    let range = and_parts (leb 1 (length rows.partitions)) (leb (length rows.partitions) 16) (in_range rows a) in
    record {
      some = le_from 1 (length rows.partitions) range.0;
      few = le_from (length rows.partitions) 16 range.1;
      words = λ p row g. name_is_word row.name (left (is_table_name row.name) (not (bytes_eq row.name (codes "TICK"))) (all_at (λ r. is_partition_name r.name) rows.partitions p row names g));
      no_ticks = λ p row g e.
          let other = not_true (bytes_eq row.name (codes "TICK")) (right (is_table_name row.name) (not (bytes_eq row.name (codes "TICK"))) (all_at (λ r. is_partition_name r.name) rows.partitions p row names g)) in
          let same = (bytes_eq-Decides row.name (codes "TICK")).1 e in
          let no : true ≡ false = sym same ∙ other in
          cc;
      differ = λ p q row other g k e. apart_at rows.partitions p q row other (apart rows a) g k e;
    }
