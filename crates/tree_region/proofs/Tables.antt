-- The numbers of files, one file after the other, and whether they are good.
use Rattle.std.proofs.Common.{◌≡◌, ℕ, suc, ◌+◌, ◌-◌, ◌*◌, ◌<◌, ◌≤◌, Bool, true, false, ◌&&◌, List, [], ◌∷◌, ◌++◌, length, drop, take, refl, sym, ap, subst, ◌∙◌, Option, Some, None, Result, Ok, Err, get_or, arith, append_assoc, nat_le, zero, min, replicate, length-append}
use Rattle.std.proofs.lemmas.Bool.Decides.{nat_tests}
use Rattle.std.proofs.lemmas.List.{append-nil, drop-drop}
use Rattle.std.proofs.lemmas.List.Sums.{sum_by-cons}
use Rattle.std.proofs.lemmas.List.{length-replicate, length-take}
use Rattle.std.specs.Prelude.{sum_by, IfOk, slice_index_or}
use Rattle.std.specs.List.{list_all}
use Rattle.apex_types.specs.declared.fields.FileEntryField.{FileEntryField}
use Rattle.apex_types.specs.declared.rows.TreeRow.{TreeRow}
use Rattle.apex_model.specs.Fields.{is_padding}
use Rattle.apex_model.specs.Files.{blocks_of}
use Rattle.apex_model.specs.Image.{size_of_field, are_distinct, has_good_blocks}
use Rattle.tree_region.specs.Numbers.{with_room, numbers_by_file, most_blocks, AreMarked, AreGoodBlocks}
use Rattle.file_tree.proofs.Children.{and-first, and-second}
use Rattle.tree_region.proofs.Lists.{drop-here, drop-all}

-- how many blocks files have
abbrev pub block_sum : List FileEntryField → ℕ
block_sum fields = sum_by (λ field. blocks_of (size_of_field field)) fields

-- the first k files have these lists, and the numbers before this place are theirs
pub record IsTabled (room : ℕ) (fields : List FileEntryField) (numbers : List ℕ) (k at : ℕ) (lists : List (List ℕ)) : Type 0 where
  pub left : at + block_sum (drop k fields) ≤ length numbers
  pub is : lists ++ numbers_by_file room (drop k fields) (drop at numbers) ≡ numbers_by_file room fields numbers

pub tabled-start : (room : ℕ) (fields : List FileEntryField) (numbers : List ℕ) → block_sum fields ≤ length numbers → IsTabled room fields numbers 0 0 []
tabled-start room fields numbers fits = record { left = omega (arith, fits); is = refl }

module _ (room : ℕ) (fields : List FileEntryField) (numbers : List ℕ) (k at : ℕ) (lists : List (List ℕ)) (so_far : IsTabled room fields numbers k at lists) where
  module _ (x : FileEntryField) (less : k < length fields) (here : x ≡ get_or fields k x) where
    abbrev count : ℕ
    count = blocks_of (size_of_field x)

    rest-is : drop k fields ≡ x ∷ drop (suc k) fields
    rest-is = drop-here fields k x less ∙ ap (λ y. y ∷ drop (suc k) fields) (sym here)

    sum-is : block_sum (drop k fields) ≡ count + block_sum (drop (suc k) fields)
    sum-is = ap block_sum rest-is ∙ sum_by-cons (λ field. blocks_of (size_of_field field)) x (drop (suc k) fields)

    pub file-room : at + count ≤ length numbers
    file-room = omega (arith, so_far.left, sum-is)

    lists-is : numbers_by_file room (drop k fields) (drop at numbers) ≡ with_room room (take count (drop at numbers)) ∷ numbers_by_file room (drop (suc k) fields) (drop (at + count) numbers)
    unfolding numbers_by_file
    lists-is = ap (λ fs. numbers_by_file room fs (drop at numbers)) rest-is ∙ ap (λ ns. with_room room (take count (drop at numbers)) ∷ numbers_by_file room (drop (suc k) fields) ns) (drop-drop count at numbers)

    pub tabled-next : (own : List ℕ) → own ≡ with_room room (take (at + count - at) (drop at numbers)) → IsTabled room fields numbers (k + 1) (at + count) (lists ++ own ∷ [])
    tabled-next own owned =
        let next : suc k ≡ k + 1 = omega arith in
        let width : at + count - at ≡ count = omega arith in
        let own_is : own ≡ with_room room (take count (drop at numbers)) = owned ∙ ap (λ n. with_room room (take n (drop at numbers))) width in
        let room_left : at + count + block_sum (drop (suc k) fields) ≤ length numbers = omega (arith, so_far.left, sum-is) in
        let behind : List (List ℕ) = numbers_by_file room (drop (suc k) fields) (drop (at + count) numbers) in
        let is : (lists ++ own ∷ []) ++ behind ≡ numbers_by_file room fields numbers
        = append_assoc lists (own ∷ []) behind ∙ ap (λ ns. lists ++ (ns ∷ behind)) own_is ∙ ap (λ (ls : List (List ℕ)). lists ++ ls) (sym lists-is) ∙ so_far.is in
        record {
          left = subst (λ n. at + count + block_sum (drop n fields) ≤ length numbers) next room_left;
          is = ap (λ n. (lists ++ own ∷ []) ++ numbers_by_file room (drop n fields) (drop (at + count) numbers)) (sym next) ∙ is;
        }

  pub tabled-end : length fields ≤ k → lists ≡ numbers_by_file room fields numbers
  unfolding numbers_by_file
  tabled-end past = sym (append-nil lists) ∙ ap (λ fs. lists ++ numbers_by_file room fs (drop at numbers)) (sym (drop-all fields k past)) ∙ so_far.is

-- ---- what is good

and-true : (a : Bool) → (a && true) ≡ a
and-true true = refl
and-true false = refl

le-test : (m n : ℕ) → m ≤ n → nat_le m n ≡ true
le-test m n h = grind (arith, nat_tests)

all-but : (a b c d e f : Bool) → a ≡ true → b ≡ true → c ≡ true → e ≡ true → f ≡ true → (a && b && c && d && e && f) ≡ d
all-but a b c d e f p q r s t = (λ i. p i && q i && r i && d && s i && t i) ∙ and-true (d && true) ∙ and-true d

module _ (row : TreeRow) (fields : List FileEntryField) (numbers rest : List ℕ) (count : ℕ) (sum : count ≡ block_sum fields) (within : count ≤ row.quota)
    (sizes : list_all (λ field. nat_le (size_of_field field) 1048576) fields ≡ true) (few : list_all (λ n. nat_le n (2 * row.quota)) numbers ≡ true)
    (zeros : is_padding (drop count numbers) ≡ true) (padding : is_padding rest ≡ true) where
  good-is : has_good_blocks row fields numbers rest ≡ are_distinct numbers
  good-is = all-but _ _ _ (are_distinct numbers) _ _ sizes (le-test (block_sum fields) row.quota (omega (arith, within, sum))) few (ap (λ n. is_padding (drop n numbers)) (sym sum) ∙ zeros) padding

  good-marked : (o : Option (List Bool)) → AreMarked row.quota numbers o → AreGoodBlocks row fields numbers rest o
  good-marked None h = good-is ∙ h
  good-marked (Some used) h = (good-is ∙ h.0, h.1)

  pub good-from : {E : Type 0} (r : Result (Option (List Bool)) E) → IfOk r (AreMarked row.quota numbers) → IfOk r (AreGoodBlocks row fields numbers rest)
  good-from (Ok o) h = good-marked o h
  good-from (Err e) h = h

pub le-holds : (m n : ℕ) → nat_le m n ≡ true → m ≤ n
le-holds m n h = grind (arith, nat_tests)

-- good files have no more blocks than there are numbers
pub good-room : (row : TreeRow) (fields : List FileEntryField) (numbers rest : List ℕ) → length numbers ≡ row.quota → has_good_blocks row fields numbers rest ≡ true → block_sum fields ≤ length numbers
good-room row fields numbers rest many good =
    let A = list_all (λ field. nat_le (size_of_field field) 1048576) fields in
    let B = nat_le (block_sum fields) row.quota in
    let C = list_all (λ n. nat_le n (2 * row.quota)) numbers in
    let three : (A && B && C) ≡ true = and-first _ _ (and-first _ _ (and-first _ _ good)) in
    let two : (A && B) ≡ true = and-first (A && B) C three in
    let within : block_sum fields ≤ row.quota = le-holds _ _ (and-second A B two) in
    omega (arith, within, many)

-- good numbers are within twice the quota
pub good-numbers : (row : TreeRow) (fields : List FileEntryField) (numbers rest : List ℕ) → has_good_blocks row fields numbers rest ≡ true → list_all (λ n. nat_le n (2 * row.quota)) numbers ≡ true
good-numbers row fields numbers rest good =
    let A = list_all (λ field. nat_le (size_of_field field) 1048576) fields in
    let B = nat_le (block_sum fields) row.quota in
    let C = list_all (λ n. nat_le n (2 * row.quota)) numbers in
    and-second (A && B) C (and-first _ _ (and-first _ _ (and-first _ _ good)))

-- each file has a list
pub lists-long : (room : ℕ) (fields : List FileEntryField) (numbers : List ℕ) → length (numbers_by_file room fields numbers) ≡ length fields
unfolding numbers_by_file
lists-long room [] numbers = refl
lists-long room (field ∷ fields) numbers = ap suc (lists-long room fields (drop (blocks_of (size_of_field field)) numbers))

with-room-long : (room : ℕ) (own : List ℕ) → length own ≤ room → length (with_room room own) ≡ room
with-room-long room own few = length-append own (replicate (room - length own) 0) ∙ ap (λ n. length own + n) (length-replicate {A = ℕ} (room - length own) 0) ∙ omega (arith, few)

-- each list has room for all blocks that a file may have
rooms-in : (quota : ℕ) (fields : List FileEntryField) (numbers : List ℕ) → list_all (λ field. nat_le (size_of_field field) 1048576) fields ≡ true → block_sum fields ≤ quota → (f : ℕ) → f < length fields
    → length (slice_index_or (numbers_by_file (min quota 2048) fields numbers) f []) ≡ min quota 2048
unfolding numbers_by_file
rooms-in quota [] numbers sizes sum f less = absurd (omega (arith, less))
rooms-in quota (field ∷ fields) numbers sizes sum zero less =
    let size : size_of_field field ≤ 1048576 = le-holds _ _ (and-first (nat_le (size_of_field field) 1048576) (list_all (λ field. nat_le (size_of_field field) 1048576) fields) sizes) in
    let own : length (take (blocks_of (size_of_field field)) numbers) ≤ blocks_of (size_of_field field) = omega (arith, length-take (blocks_of (size_of_field field)) numbers) in
    with-room-long (min quota 2048) (take (blocks_of (size_of_field field)) numbers) (omega (arith, size, own, sum, sum_by-cons (λ field. blocks_of (size_of_field field)) field fields))
rooms-in quota (field ∷ fields) numbers sizes sum (suc f) less =
    rooms-in quota fields (drop (blocks_of (size_of_field field)) numbers) (and-second (nat_le (size_of_field field) 1048576) (list_all (λ field. nat_le (size_of_field field) 1048576) fields) sizes)
    (omega (arith, sum, sum_by-cons (λ field. blocks_of (size_of_field field)) field fields)) f (omega (arith, less))

pub rooms-are : (row : TreeRow) (fields : List FileEntryField) (numbers rest : List ℕ) → has_good_blocks row fields numbers rest ≡ true → (f : ℕ) → f < length fields
    → length (slice_index_or (numbers_by_file (most_blocks row) fields numbers) f []) ≡ most_blocks row
rooms-are row fields numbers rest good f less =
    let A = list_all (λ field. nat_le (size_of_field field) 1048576) fields in
    let B = nat_le (block_sum fields) row.quota in
    let C = list_all (λ n. nat_le n (2 * row.quota)) numbers in
    let three : (A && B && C) ≡ true = and-first _ _ (and-first _ _ (and-first _ _ good)) in
    let two : (A && B) ≡ true = and-first (A && B) C three in
    rooms-in row.quota fields numbers (and-first A B two) (le-holds _ _ (and-second A B two)) f less
