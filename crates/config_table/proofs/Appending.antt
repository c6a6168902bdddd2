-- Bytes that are added row by row, and those of a whole table.
use Rattle.std.proofs.Common.{◌≡◌, ◌≤◌, ◌+◌, ◌%◌, ℕ, zero, suc, true, ◌&&◌, leb, List, [], ◌∷◌, ◌++◌, length, drop, Option, Some, None, refl, ap, ◌∙◌, arith, append_assoc, add-one}
use Rattle.std.specs.Prelude.{flat_map, slice_get}
use Rattle.std.specs.List.{list_all}
use Rattle.std.proofs.lemmas.Bool.{and_parts}
use Rattle.std.proofs.lemmas.Bool.Decides.{nat_tests}
use Rattle.apex_types.specs.Rows.{Rows}
use Rattle.apex_model.specs.Accepted.{IsAccepted, is_within, has_good_names, is_in_range, has_no_repeats, has_known_names, fits_volumes, fits_image, is_tree_in_range, is_logbook_in_range, is_channel_in_range}
use Rattle.apex_model.specs.TableBytes.{name_bytes, list_bytes, volume_bytes, tree_bytes, logbook_bytes, channel_bytes, table_bytes}
use Rattle.config_table.specs.Counted.{counted_bytes}

drop_at : {A : Type 0} (xs : List A) (k : ℕ) (x : A) → slice_get xs k ≡ Some x → drop k xs ≡ x ∷ drop (suc k) xs
drop_at [] k x g = absurd (let e : ◌≡◌ {A = Option _} None (Some x) = g in cc)
drop_at (y ∷ ys) zero x g =
    let e : y ≡ x = cc in
    rw e refl
drop_at (y ∷ ys) (suc k) x g = drop_at ys k x g

-- one more row
pub appended : {A : Type 0} (code : A → List ℕ) (xs : List A) (k : ℕ) (x : A) (before after total : List ℕ) → slice_get xs k ≡ Some x → after ≡ before ++ code x
    → before ++ flat_map code (drop k xs) ≡ total → after ++ flat_map code (drop (k + 1) xs) ≡ total
appended code xs k x before after total found added so_far =
    let cut = rw (drop_at xs k x found) at so_far in
    rw (added, add-one, append_assoc) cut

-- ---- the counts of an accepted table fit a byte

small : (n : ℕ) → n ≤ 32 → n % 256 ≡ n
small n h = omega arith

le_of : (n highest : ℕ) → highest ≤ 32 → leb n highest ≡ true → n ≤ 32
le_of n highest few h = grind (arith, nat_tests)

counted : {A : Type 0} (code : A → List ℕ) (xs : List A) → length xs ≤ 32 → counted_bytes code xs ≡ list_bytes code xs
counted code xs h = ap (λ n. n ∷ flat_map code xs) (small (length xs) h)

record HasFewRows (rows : Rows) : Type 0 where
  partitions : length rows.partitions ≤ 32
  volumes : length rows.volumes ≤ 32
  trees : length rows.trees ≤ 32
  logbooks : length rows.logbooks ≤ 32
  channels : length rows.channels ≤ 32

few_rows : (rows : Rows) → IsAccepted rows → HasFewRows rows
few_rows rows h =
    let a = (and_parts (has_good_names rows && is_in_range rows && has_no_repeats rows && has_known_names rows && fits_volumes rows) (fits_image rows) h).0 in
    let b = (and_parts (has_good_names rows && is_in_range rows && has_no_repeats rows && has_known_names rows) (fits_volumes rows) a).0 in
    let c = (and_parts (has_good_names rows && is_in_range rows && has_no_repeats rows) (has_known_names rows) b).0 in
    let d = (and_parts (has_good_names rows && is_in_range rows) (has_no_repeats rows) c).0 in
    let range = (and_parts (has_good_names rows) (is_in_range rows) d).1 in
    let one = is_within 1 16 (length rows.partitions) in
    let two = leb (length rows.volumes) 8 in
    let three = leb (length rows.trees) 32 in
    let four = leb (length rows.logbooks) 32 in
    let five = leb (length rows.channels) 32 in
    let six = list_all (λ row. is_within 1 131072 row.blocks) rows.volumes in
    let seven = list_all is_tree_in_range rows.trees in
    let eight = list_all is_logbook_in_range rows.logbooks in
    let p = (and_parts (one && two && three && four && five && six && seven && eight) (list_all is_channel_in_range rows.channels) range).0 in
    let q = (and_parts (one && two && three && four && five && six && seven) eight p).0 in
    let r = (and_parts (one && two && three && four && five && six) seven q).0 in
    let s = (and_parts (one && two && three && four && five) six r).0 in
    let t = and_parts (one && two && three && four) five s in
    let u = and_parts (one && two && three) four t.0 in
    let v = and_parts (one && two) three u.0 in
    let w = and_parts one two v.0 in
    let x = and_parts (leb 1 (length rows.partitions)) (leb (length rows.partitions) 16) w.0 in
    record {
      partitions = le_of (length rows.partitions) 16 (omega arith) x.1;
      volumes = le_of (length rows.volumes) 8 (omega arith) w.1;
      trees = le_of (length rows.trees) 32 (omega arith) v.1;
      logbooks = le_of (length rows.logbooks) 32 (omega arith) u.1;
      channels = le_of (length rows.channels) 32 (omega arith) t.1;
    }

-- the bytes after each list
in_turn : (none start partitions volumes trees logbooks channels p v t l k : List ℕ) → none ≡ [] → start ≡ none ++ 1 ∷ [] → partitions ≡ start ++ p → volumes ≡ partitions ++ v → trees ≡ volumes ++ t → logbooks ≡ trees ++ l
    → channels ≡ logbooks ++ k → channels ≡ 1 ∷ p ++ v ++ t ++ l ++ k
in_turn none start partitions volumes trees logbooks channels p v t l k a b c d e f g = rw (g, f, e, d, c, b, a) refl

pub canonical : (rows : Rows) (none start partitions volumes trees logbooks channels : List ℕ) → none ≡ [] → start ≡ none ++ 1 ∷ [] → partitions ≡ start ++ counted_bytes (λ row. name_bytes row.name) rows.partitions
    → volumes ≡ partitions ++ counted_bytes volume_bytes rows.volumes → trees ≡ volumes ++ counted_bytes tree_bytes rows.trees → logbooks ≡ trees ++ counted_bytes logbook_bytes rows.logbooks
    → channels ≡ logbooks ++ counted_bytes channel_bytes rows.channels → IsAccepted rows → channels ≡ table_bytes rows
canonical rows none start partitions volumes trees logbooks channels a b c d e f g accepted =
    let few = few_rows rows accepted in
    in_turn none start partitions volumes trees logbooks channels (list_bytes (λ row. name_bytes row.name) rows.partitions) (list_bytes volume_bytes rows.volumes) (list_bytes tree_bytes rows.trees)
    (list_bytes logbook_bytes rows.logbooks) (list_bytes channel_bytes rows.channels) a b (c ∙ ap (λ (xs : List ℕ). start ++ xs) (counted (λ row. name_bytes row.name) rows.partitions few.partitions))
    (d ∙ ap (λ (xs : List ℕ). partitions ++ xs) (counted volume_bytes rows.volumes few.volumes)) (e ∙ ap (λ (xs : List ℕ). volumes ++ xs) (counted tree_bytes rows.trees few.trees))
    (f ∙ ap (λ (xs : List ℕ). trees ++ xs) (counted logbook_bytes rows.logbooks few.logbooks)) (g ∙ ap (λ (xs : List ℕ). logbooks ++ xs) (counted channel_bytes rows.channels few.channels))
