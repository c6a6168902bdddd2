-- Good numbers of files' blocks: those that a body spells, and those of files of which some have none any more.
use Rattle.std.proofs.Common.{◌≡◌, ◌⊎◌, inl, inr, ℕ, zero, suc, ◌+◌, ◌*◌, ◌≤◌, Bool, true, false, ◌&&◌, ◌||◌, ◌==◌, not, List, [], ◌∷◌, ◌++◌, length, take, drop, replicate, refl, sym, ap, subst, ◌∙◌, Option, Some, arith, nat_le, slice_index_or, min, ◌-◌}
use Rattle.std.proofs.lemmas.List.{take-append-drop, take_at, length-drop, length-take-le}
use Rattle.std.proofs.lemmas.List.Sums.{sum_by-cons}
use Rattle.std.proofs.lemmas.List.FromFn.{length-map-range_with_len}
use Rattle.std.specs.List.{list_all, list_any}
use Rattle.apex_types.specs.declared.fields.FileEntryField.{FileEntryField}
use Rattle.apex_types.specs.declared.rows.TreeRow.{TreeRow}
use Rattle.apex_model.specs.Fields.{entry_of_bytes}
use Rattle.apex_model.specs.Files.{blocks_of}
use Rattle.apex_model.specs.Image.{size_of_field, are_distinct, block_number, entry_bytes}
use Rattle.file_tree.specs.Bodies.{tree_in_version}
use Rattle.file_tree.specs.Entries.{TreeValue, stored_of}
use Rattle.file_tree.proofs.Children.{and-first, and-second}
use Rattle.tree_region.specs.Replay.{KeepsStored}
use Rattle.tree_region.specs.GoodNumbers.{size_blocks, numbers_from, HasGoodNumbers}
use Rattle.tree_region.specs.Numbers.{HasTable, most_blocks, numbers_by_file, numbers_in, rest_of, with_room}
use Rattle.tree_region.specs.declared.table.BlockTable.{BlockTable}
use Rattle.tree_region.proofs.Lists.{answers-length}
use Rattle.tree_region.proofs.StoredSizes.{fields-read, size_at}
use Rattle.tree_region.proofs.Tables.{block_sum, good-numbers, good-room, le-holds, rooms-are}

-- ---- some of a list

-- What holds of all numbers of a list holds of all of its part, and so on.
record IsPart (xs ys : List ℕ) : Type 0 where
  fewer : length xs ≤ length ys
  all : (test : ℕ → Bool) → list_all test ys ≡ true → list_all test xs ≡ true
  any : (test : ℕ → Bool) → list_any test ys ≡ false → list_any test xs ≡ false
  distinct : are_distinct ys ≡ true → are_distinct xs ≡ true

or-first : (a b : Bool) → (a || b) ≡ false → a ≡ false
or-first false b h = refl
or-first true b h = h

or-second : (a b : Bool) → (a || b) ≡ false → b ≡ false
or-second false b h = h
or-second true b h = absurd cc

not-true : (a : Bool) → not a ≡ true → a ≡ false
not-true false h = refl
not-true true h = sym h

both : (a b : Bool) → a ≡ true → b ≡ true → (a && b) ≡ true
both true b h k = k
both false b h k = h

nothing : (ys : List ℕ) → IsPart [] ys
nothing ys = record { fewer = omega arith; all = λ test h. refl; any = λ test h. refl; distinct = λ h. refl }

same-part : (xs : List ℕ) → IsPart xs xs
same-part xs = record { fewer = omega arith; all = λ test h. h; any = λ test h. h; distinct = λ h. h }

module _ (x : ℕ) (xs ys : List ℕ) (part : IsPart xs ys) where
  left-out : IsPart xs (x ∷ ys)
  left-out = record {
    fewer = omega (arith, part.fewer);
    all = λ test h. part.all test (and-second (test x) (list_all test ys) h);
    any = λ test h. part.any test (or-second (test x) (list_any test ys) h);
    distinct = λ h. part.distinct (and-second ((x == 0) || not (list_any (λ other. other == x) ys)) (are_distinct ys) h);
  }

  single : (zero_or : Bool) → (zero_or || not (list_any (λ other. other == x) ys)) ≡ true → (zero_or || not (list_any (λ other. other == x) xs)) ≡ true
  single true h = refl
  single false h = ap not (part.any (λ other. other == x) (not-true (list_any (λ other. other == x) ys) h))

  in-both : IsPart (x ∷ xs) (x ∷ ys)
  in-both = record {
    fewer = omega (arith, part.fewer);
    all = λ test h. both (test x) (list_all test xs) (and-first (test x) (list_all test ys) h) (part.all test (and-second (test x) (list_all test ys) h));
    any = λ test h. (λ i. or-first (test x) (list_any test ys) h i || part.any test (or-second (test x) (list_any test ys) h) i);
    distinct = λ h.
        let other : Bool = (x == 0) || not (list_any (λ other. other == x) ys) in
        both ((x == 0) || not (list_any (λ other. other == x) xs)) (are_distinct xs) (single (x == 0) (and-first other (are_distinct ys) h)) (part.distinct (and-second other (are_distinct ys) h));
  }

-- with the same in front, or with more in front of the whole
front-both : (front xs ys : List ℕ) → IsPart xs ys → IsPart (front ++ xs) (front ++ ys)
front-both [] xs ys part = part
front-both (x ∷ front) xs ys part = in-both x (front ++ xs) (front ++ ys) (front-both front xs ys part)

front-out : (front xs ys : List ℕ) → IsPart xs ys → IsPart xs (front ++ ys)
front-out [] xs ys part = part
front-out (x ∷ front) xs ys part = left-out x xs (front ++ ys) (front-out front xs ys part)

-- ---- files of which some have no blocks any more

-- each file has as many blocks, or none
abbrev HasFewer : TreeValue → TreeValue → Type 0
HasFewer v w = (f : ℕ) → (size_blocks w f ≡ size_blocks v f) ⊎ (size_blocks w f ≡ 0)

part-from : (v w : TreeValue) → HasFewer v w → (f : ℕ) (lists : List (List ℕ)) → IsPart (numbers_from w f lists) (numbers_from v f lists)
unfolding numbers_from
part-from v w fewer f [] = nothing []
part-from v w fewer f (list ∷ lists) =
    let behind = part-from v w fewer (f + 1) lists in
    elim (fewer f) [
      | inl same ↦
          subst (λ n. IsPart (take n list ++ numbers_from w (f + 1) lists) (take (size_blocks v f) list ++ numbers_from v (f + 1) lists)) (sym same)
          (front-both (take (size_blocks v f) list) (numbers_from w (f + 1) lists) (numbers_from v (f + 1) lists) behind)
      | inr none ↦
          subst (λ n. IsPart (take n list ++ numbers_from w (f + 1) lists) (take (size_blocks v f) list ++ numbers_from v (f + 1) lists)) (sym none)
          (front-out (take (size_blocks v f) list) (numbers_from w (f + 1) lists) (numbers_from v (f + 1) lists) behind)
    ]

-- the numbers stay good
pub good-fewer : (row : TreeRow) (v w : TreeValue) (lists : List (List ℕ)) → HasFewer v w → HasGoodNumbers row v lists → HasGoodNumbers row w lists
good-fewer row v w lists fewer good =
    let part = part-from v w fewer 0 lists in
    record {
      sum = omega (arith, part.fewer, good.sum);
      within = part.all (λ n. nat_le n (2 * row.quota)) good.within;
      distinct = part.distinct good.distinct;
      rooms = good.rooms;
      fits = λ f less. elim (fewer f) [
        | inl same ↦ subst (λ n. n ≤ most_blocks row) (sym same) (good.fits f less)
        | inr none ↦ subst (λ n. n ≤ most_blocks row) (sym none) (omega arith)
      ];
    }

-- they do where of each file is stored what was stored, or nothing
pub good-kept : (row : TreeRow) (v w : TreeValue) (lists : List (List ℕ)) → KeepsStored v w → HasGoodNumbers row v lists → HasGoodNumbers row w lists
good-kept row v w lists kept = good-fewer row v w lists (λ f. elim (kept f) [
  | inl same ↦ inl (ap (λ (s : ℕ × ℕ). blocks_of s.0) same)
  | inr none ↦ inr (ap (λ (s : ℕ × ℕ). blocks_of s.0) none)
])

-- ---- the numbers that a body spells

-- fields of files from a place on have the sizes that a tree has of them
abbrev HaveSizes : TreeValue → ℕ → List FileEntryField → Type 0
HaveSizes v f fields = (j : ℕ) → (stored_of v (f + j)).0 ≡ size_at fields j

module _ (v : TreeValue) (room : ℕ) where
  part-of-body : (f : ℕ) (fields : List FileEntryField) (numbers : List ℕ) → HaveSizes v f fields → block_sum fields ≤ length numbers → IsPart (numbers_from v f (numbers_by_file room fields numbers)) numbers
  unfolding numbers_from numbers_by_file
  part-of-body f [] numbers sizes fits = nothing numbers
  part-of-body f (field ∷ fields) numbers sizes fits =
      let n : ℕ = blocks_of (size_of_field field) in
      let sum = sum_by-cons (λ field. blocks_of (size_of_field field)) field fields in
      let here : f ≡ f + 0 = omega arith in
      let own : size_blocks v f ≡ n = ap (size_blocks v) here ∙ ap blocks_of (sizes 0) in
      let few : n ≤ length numbers = omega (arith, sum, fits) in
      let front : take (size_blocks v f) (with_room room (take n numbers)) ≡ take n numbers
      = ap (λ m. take m (with_room room (take n numbers))) own ∙ take_at (take n numbers) (replicate (room - length (take n numbers)) 0) n (length-take-le n numbers few) in
      let left : length (drop n numbers) ≡ length numbers - n = length-drop n numbers in
      let others : HaveSizes v (f + 1) fields = λ j. let e : f + 1 + j ≡ f + suc j = omega arith in ap (λ m. (stored_of v m).0) e ∙ sizes (suc j) in
      let behind = part-of-body (f + 1) fields (drop n numbers) others (omega (arith, left, sum, fits)) in
      let rest : List ℕ = numbers_from v (f + 1) (numbers_by_file room fields (drop n numbers)) in
      subst (λ (xs : List ℕ). IsPart (xs ++ rest) numbers) (sym front)
      (subst (λ (ys : List ℕ). IsPart (take n numbers ++ rest) ys) (take-append-drop n numbers) (front-both (take n numbers) rest (drop n numbers) behind))

-- no file has more blocks than it may have
fits-in : (quota : ℕ) (fields : List FileEntryField) → list_all (λ field. nat_le (size_of_field field) 1048576) fields ≡ true → block_sum fields ≤ quota → (f : ℕ) → blocks_of (size_at fields f) ≤ min quota 2048
fits-in quota [] sizes sum zero = omega arith
fits-in quota [] sizes sum (suc f) = omega arith
fits-in quota (field ∷ fields) sizes sum zero =
    let size : size_of_field field ≤ 1048576 = le-holds _ _ (and-first (nat_le (size_of_field field) 1048576) (list_all (λ field. nat_le (size_of_field field) 1048576) fields) sizes) in
    omega (arith, size, sum, sum_by-cons (λ field. blocks_of (size_of_field field)) field fields)
fits-in quota (field ∷ fields) sizes sum (suc f) =
    fits-in quota fields (and-second (nat_le (size_of_field field) 1048576) (list_all (λ field. nat_le (size_of_field field) 1048576) fields) sizes)
    (omega (arith, sum, sum_by-cons (λ field. blocks_of (size_of_field field)) field fields)) f

-- a body whose tree and table were read has good numbers
module _ (version : ℕ) (row : TreeRow) (body : List ℕ) (v : TreeValue) (table : BlockTable) (read : tree_in_version version row.files row.directories body ≡ Some v) (has : HasTable version row body table) where
  abbrev numbers : List ℕ
  numbers = numbers_in row body

  many : length numbers ≡ row.quota
  many = length-map-range_with_len (block_number body (row.files + row.directories)) 0 row.quota

  sizes : (j : ℕ) → (stored_of v j).0 ≡ size_at has.fields j
  sizes =
      let f = fields-read version row.files row.directories body v read in
      let found : ◌≡◌ {A = Option (List FileEntryField)} (Some f.fields) (Some has.fields) = sym f.spelled ∙ has.spelled in
      let same : f.fields ≡ has.fields = cc in
      subst (λ (fs : List FileEntryField). (j : ℕ) → (stored_of v j).0 ≡ size_at fs j) same f.sizes

  part : IsPart (numbers_from v 0 table.files.items) numbers
  part =
      subst (λ (lists : List (List ℕ)). IsPart (numbers_from v 0 lists) numbers) (sym has.files)
      (part-of-body v (most_blocks row) 0 has.fields numbers (λ j. let e : 0 + j ≡ j = omega arith in ap (λ n. (stored_of v n).0) e ∙ sizes j) (good-room row has.fields numbers (rest_of row body) many has.good))

  pub good-table : HasGoodNumbers row v table.files.items
  good-table =
      let A = list_all (λ field. nat_le (size_of_field field) 1048576) has.fields in
      let B = nat_le (block_sum has.fields) row.quota in
      let C = list_all (λ n. nat_le n (2 * row.quota)) numbers in
      let four : (A && B && C && are_distinct numbers) ≡ true = and-first _ _ (and-first _ _ has.good) in
      let two : (A && B) ≡ true = and-first (A && B) C (and-first (A && B && C) (are_distinct numbers) four) in
      let files = answers-length (λ k. entry_of_bytes version (entry_bytes body k)) 0 row.files has.fields has.spelled in
      record {
        sum = omega (arith, part.fewer, many);
        within = part.all (λ n. nat_le n (2 * row.quota)) (good-numbers row has.fields numbers (rest_of row body) has.good);
        distinct = part.distinct (and-second (A && B && C) (are_distinct numbers) four);
        rooms = λ f less. ap (λ (ls : List (List ℕ)). length (slice_index_or ls f [])) has.files ∙ rooms-are row has.fields numbers (rest_of row body) has.good f (omega (arith, less, files));
        fits = λ f less. subst (λ n. blocks_of n ≤ most_blocks row) (sym (sizes f)) (fits-in row.quota has.fields (and-first A B two) (le-holds _ _ (and-second A B two)) f);
      }
