-- The contents of files whose blocks' numbers stand one file behind the other.
use Rattle.std.proofs.Common.{◌≡◌, ℕ, zero, suc, ◌+◌, ◌<◌, ◌≤◌, List, [], ◌∷◌, ◌++◌, length, take, drop, refl, sym, ap, subst, ◌∙◌, Option, Some, None, arith, append_assoc, length-append, slice_index_or}
use Rattle.std.proofs.lemmas.Grind.{flat_map-append}
use Rattle.std.proofs.lemmas.List.{length-take, length-take-le, take-append-le, take-append-drop, take_at, drop_at}
use Rattle.std.proofs.lemmas.List.Sums.{sum_by-cons}
use Rattle.std.specs.Prelude.{flat_map}
use Rattle.apex_types.specs.declared.fields.FileEntryField.{FileEntryField}
use Rattle.apex_types.specs.declared.fields.FileEntryField.TheVariants.{Unused, Used}
use Rattle.apex_model.specs.Files.{blocks_of}
use Rattle.apex_model.specs.Image as image
use Rattle.file_tree.specs.Entries.{TreeValue, slot, stored_of}
use Rattle.tree_region.specs.Bodies.{HasContents}
use Rattle.tree_region.proofs.Tables.{block_sum}
use Rattle.tree_region.specs.GoodNumbers.{size_blocks, numbers_from}
use Rattle.tree_region.proofs.StoredSizes.{size_at}

-- Fields have the sizes that a tree has from a file on, and each file's list has room for its blocks.
pub record AreOf (v : TreeValue) (f : ℕ) (lists : List (List ℕ)) (fields : List FileEntryField) : Type 0 where
  pub many : length lists ≡ length fields
  pub sizes : (j : ℕ) → (stored_of v (f + j)).0 ≡ size_at fields j
  pub fits : (j : ℕ) → j < length lists → size_blocks v (f + j) ≤ length (slice_index_or lists j [])

module _ (v : TreeValue) (f : ℕ) (list : List ℕ) (lists : List (List ℕ)) (field : FileEntryField) (fields : List FileEntryField) (are : AreOf v f (list ∷ lists) (field ∷ fields)) where
  others : AreOf v (f + 1) lists fields
  others = record {
    many = let e : suc (length lists) ≡ suc (length fields) = are.many in omega (arith, e);
    sizes = λ j. let e : f + 1 + j ≡ f + suc j = omega arith in ap (λ n. (stored_of v n).0) e ∙ are.sizes (suc j);
    fits = λ j less. let e : f + suc j ≡ f + 1 + j = omega arith in subst (λ n. size_blocks v n ≤ length (slice_index_or lists j [])) e (are.fits (suc j) (omega (arith, less)));
  }

  own : size_blocks v f ≡ blocks_of (image.size_of_field field)
  own = let e : f ≡ f + 0 = omega arith in ap (size_blocks v) e ∙ ap blocks_of (are.sizes 0)

  room : blocks_of (image.size_of_field field) ≤ length list
  room = let e : f + 0 ≡ f = omega arith in subst (λ n. n ≤ length list) (ap (size_blocks v) e ∙ own) (are.fits 0 (omega arith))

  numbers-are : numbers_from v f (list ∷ lists) ≡ take (blocks_of (image.size_of_field field)) list ++ numbers_from v (f + 1) lists
  unfolding numbers_from
  numbers-are = ap (λ n. take n list ++ numbers_from v (f + 1) lists) own

  own-long : length (take (blocks_of (image.size_of_field field)) list) ≡ blocks_of (image.size_of_field field)
  own-long = length-take-le (blocks_of (image.size_of_field field)) list room

  module _ (behind : List ℕ) where
    split : numbers_from v f (list ∷ lists) ++ behind ≡ take (blocks_of (image.size_of_field field)) list ++ (numbers_from v (f + 1) lists ++ behind)
    split = ap (λ ns. ns ++ behind) numbers-are ∙ append_assoc (take (blocks_of (image.size_of_field field)) list) (numbers_from v (f + 1) lists) behind

    own-front : take (blocks_of (image.size_of_field field)) (numbers_from v f (list ∷ lists) ++ behind) ≡ take (blocks_of (image.size_of_field field)) list
    own-front =
        ap (take (blocks_of (image.size_of_field field))) split
        ∙ take_at (take (blocks_of (image.size_of_field field)) list) (numbers_from v (f + 1) lists ++ behind) (blocks_of (image.size_of_field field)) own-long

    others-behind : drop (blocks_of (image.size_of_field field)) (numbers_from v f (list ∷ lists) ++ behind) ≡ numbers_from v (f + 1) lists ++ behind
    others-behind =
        ap (drop (blocks_of (image.size_of_field field))) split
        ∙ drop_at (take (blocks_of (image.size_of_field field)) list) (numbers_from v (f + 1) lists ++ behind) (blocks_of (image.size_of_field field)) own-long

-- as many numbers as the fields have blocks
pub numbers-long : (v : TreeValue) (f : ℕ) (lists : List (List ℕ)) (fields : List FileEntryField) → AreOf v f lists fields → length (numbers_from v f lists) ≡ block_sum fields
unfolding numbers_from
numbers-long v f [] [] are = refl
numbers-long v f [] (field ∷ fields) are = absurd (let e : 0 ≡ suc (length fields) = are.many in omega (arith, e))
numbers-long v f (list ∷ lists) [] are = absurd (let e : suc (length lists) ≡ 0 = are.many in omega (arith, e))
numbers-long v f (list ∷ lists) (field ∷ fields) are =
    let n = blocks_of (image.size_of_field field) in
    let front : length (numbers_from v f (list ∷ lists)) ≡ length (take n list) + length (numbers_from v (f + 1) lists)
    = ap length (numbers-are v f list lists field fields are) ∙ length-append (take n list) (numbers_from v (f + 1) lists) in
    let behind = numbers-long v (f + 1) lists fields (others v f list lists field fields are) in
    omega (arith, front, behind, own-long v f list lists field fields are, sum_by-cons (λ field. blocks_of (image.size_of_field field)) field fields)

-- ---- one content

take-own : {A : Type 0} (n : ℕ) (xs : List A) → take n xs ≡ take (length (take n xs)) xs
take-own zero xs = refl
take-own (suc n) [] = refl
take-own (suc n) (x ∷ xs) = ap (λ ys. x ∷ ys) (take-own n xs)

-- a content in its own blocks is one in all blocks of the file's list
in-list : (blocks list : List ℕ) (n size : ℕ) → image.joined blocks (take n list) size ≡ image.joined blocks list (length (image.joined blocks (take n list) size))
in-list blocks list n size =
    let filled : List ℕ = flat_map (image.data_block blocks) (take n list) in
    let rest : List ℕ = flat_map (image.data_block blocks) (drop n list) in
    let short : length (take size filled) ≤ length filled = omega (arith, length-take size filled) in
    let all : flat_map (image.data_block blocks) list ≡ filled ++ rest
    = ap (flat_map (image.data_block blocks)) (sym (take-append-drop n list)) ∙ flat_map-append (image.data_block blocks) (take n list) (drop n list) in
    take-own size filled ∙ sym (take-append-le (length (take size filled)) filled rest short) ∙ ap (take (length (take size filled))) (sym all)

-- each file has the content of its list
pub contents-are : (blocks behind : List ℕ) (v : TreeValue) (f : ℕ) (lists : List (List ℕ)) (fields : List FileEntryField) → AreOf v f lists fields
    → HasContents blocks lists (image.file_entries blocks (numbers_from v f lists ++ behind) fields)
contents-are blocks behind v f lists [] are g entry h = absurd (let e : ◌≡◌ {A = Option image.Entry} None (Some entry) = h in cc)
contents-are blocks behind v f [] (field ∷ fields) are g entry h = absurd (let e : 0 ≡ suc (length fields) = are.many in omega (arith, e))
contents-are blocks behind v f (list ∷ lists) (Unused ∷ fields) are zero entry h = absurd (let e : ◌≡◌ {A = Option image.Entry} None (Some entry) = h in cc)
contents-are blocks behind v f (list ∷ lists) (Unused ∷ fields) are (suc g) entry h =
    contents-are blocks behind v (f + 1) lists fields (others v f list lists Unused fields are) g entry
    (ap (λ ns. slot (image.file_entries blocks ns fields) g) (sym (others-behind v f list lists Unused fields are behind)) ∙ h)
contents-are blocks behind v f (list ∷ lists) (Used name parent size changes ∷ fields) are zero entry h =
    let numbers : List ℕ = numbers_from v f (list ∷ lists) ++ behind in
    let own : image.Entry = record { name = name; parent = parent.0; stored = record { content = image.joined blocks (take (blocks_of size) numbers) size; changes = changes } } in
    let same : own ≡ entry = cc in
    let front : take (blocks_of size) list ≡ take (blocks_of size) numbers = sym (own-front v f list lists (Used name parent size changes) fields are behind) in
    let is : image.joined blocks (take (blocks_of size) numbers) size ≡ image.joined blocks list (length (image.joined blocks (take (blocks_of size) numbers) size))
    = subst (λ ns. image.joined blocks ns size ≡ image.joined blocks list (length (image.joined blocks ns size))) front (in-list blocks list (blocks_of size) size) in
    subst (λ (e : image.Entry). e.stored.content ≡ image.joined blocks list (length e.stored.content)) same is
contents-are blocks behind v f (list ∷ lists) (Used name parent size changes ∷ fields) are (suc g) entry h =
    contents-are blocks behind v (f + 1) lists fields (others v f list lists (Used name parent size changes) fields are) g entry
    (ap (λ ns. slot (image.file_entries blocks ns fields) g) (sym (others-behind v f list lists (Used name parent size changes) fields are behind)) ∙ h)
