-- A file's durable content is emptied: the numbers of all files stay good ones.
use Rattle.std.proofs.Common.{◌≡◌, ◌⊎◌, inl, inr, ℕ, zero, suc, ◌+◌, ◌-◌, ◌≤◌, List, [], ◌∷◌, length, take, replicate, refl, sym, ap, subst, ◌∙◌, Option, Some, nat_le, arith}
use Rattle.std.specs.Prelude.{unwrap_or, slice_index_or, slice_set, ◌*◌}
use Rattle.std.specs.List.{list_all}
use Rattle.std.proofs.lemmas.List.{length-replicate, length-set}
use Rattle.apex_types.specs.declared.rows.TreeRow.{TreeRow}
use Rattle.apex_model.specs.Files.{blocks_of}
use Rattle.apex_model.specs.Image.{are_distinct}
use Rattle.file_tree.specs.Entries.{TreeValue, slot, with_stored}
use Rattle.tree_region.proofs.CutRows.{placed, zero-at}
use Rattle.tree_region.proofs.Forgotten.{numbers-same}
use Rattle.tree_region.specs.Rows.{NameUsed}
use Rattle.std.specs.Prelude.{Bool}
use Rattle.tree_region.proofs.GoodNumbers.{good-fewer}
use Rattle.tree_region.specs.GoodNumbers.{HasGoodNumbers, size_blocks, numbers_from}
use Rattle.tree_region.specs.Numbers.{most_blocks, with_room}

-- what is noted of each entry is what was noted, or what is noted now
noted : (xs : List (Option (ℕ × ℕ))) (f : ℕ) (one : Option (ℕ × ℕ)) (g : ℕ) → (slot (slice_set xs f one) g ≡ slot xs g) ⊎ (slot (slice_set xs f one) g ≡ one)
noted [] f one g = inl refl
noted (x ∷ xs) zero one zero = inr refl
noted (x ∷ xs) zero one (suc g) = inl refl
noted (x ∷ xs) (suc f) one zero = inl refl
noted (x ∷ xs) (suc f) one (suc g) = noted xs f one g

none-noted : (xs : List (Option (ℕ × ℕ))) (f changes : ℕ) → (unwrap_or (slot (slice_set xs f (Some (0, changes))) f) (0, 0)).0 ≡ 0
none-noted [] f changes = refl
none-noted (x ∷ xs) zero changes = refl
none-noted (x ∷ xs) (suc f) changes = none-noted xs f changes

module _ (row : TreeRow) (v : TreeValue) (rows : List (List ℕ)) (f changes : ℕ) (none : List ℕ) (long : length none ≡ most_blocks row) (good : HasGoodNumbers row v rows) where
  abbrev emptied : TreeValue
  emptied = with_stored v f 0 changes

  fewer : (g : ℕ) → (size_blocks emptied g ≡ size_blocks v g) ⊎ (size_blocks emptied g ≡ 0)
  fewer g = elim (noted v.stored f (Some (0, changes)) g) [
    | inl same ↦ inl (ap (λ (o : Option (ℕ × ℕ)). blocks_of (unwrap_or o (0, 0)).0) same)
    | inr own ↦ inr (ap (λ (o : Option (ℕ × ℕ)). blocks_of (unwrap_or o (0, 0)).0) own)
  ]

  front : (g : ℕ) → take (size_blocks emptied g) (slice_index_or (slice_set rows f none) g []) ≡ take (size_blocks emptied g) (slice_index_or rows g [])
  front g = elim (placed rows f none g) [
    | inl same ↦ ap (take (size_blocks emptied g)) same
    | inr own ↦
        let nothing : size_blocks emptied g ≡ 0 = ap (size_blocks emptied) own.0 ∙ ap blocks_of (none-noted v.stored f changes) in
        ap (λ n. take n (slice_index_or (slice_set rows f none) g [])) nothing ∙ sym (ap (λ n. take n (slice_index_or rows g [])) nothing)
  ]

  pub good-emptied : HasGoodNumbers row emptied (slice_set rows f none)
  good-emptied =
      let less = good-fewer row v emptied rows fewer good in
      let same : numbers_from emptied 0 rows ≡ numbers_from emptied 0 (slice_set rows f none)
      = sym (numbers-same emptied 0 rows (slice_set rows f none) (length-set rows f none) (λ j. let e : j ≡ 0 + j = omega arith in
      subst (λ n. take (size_blocks emptied n) (slice_index_or (slice_set rows f none) j []) ≡ take (size_blocks emptied n) (slice_index_or rows j [])) e (front j))) in
      record {
        sum = subst (λ (ns : List ℕ). length ns ≤ row.quota) same less.sum;
        within = ap (λ (ns : List ℕ). list_all (λ n. nat_le n (2 * row.quota)) ns) (sym same) ∙ less.within;
        distinct = ap are_distinct (sym same) ∙ less.distinct;
        rooms = λ g within. elim (placed rows f none g) [
          | inl was ↦ ap length was ∙ good.rooms g within
          | inr own ↦ ap length own.1 ∙ long
        ];
        fits = less.fits;
      }

-- zeros name no block
pub zeros-named : (row : TreeRow) (used : List Bool) (count : ℕ) → NameUsed row used (replicate count 0)
zeros-named row used count = record {
  within = λ k. omega (arith, zero-at count k);
  marked = λ k one. absurd (omega (arith, one, zero-at count k));
}

-- a row of zeros is a good one for an empty content
module _ (row : TreeRow) (count : ℕ) (numbers : List ℕ) (zeros : numbers ≡ with_room count []) where
  room : count - 0 ≡ count
  room = omega arith

  pub good-empty : (v : TreeValue) (rows : List (List ℕ)) (f changes : ℕ) → count ≡ most_blocks row → HasGoodNumbers row v rows → HasGoodNumbers row (with_stored v f 0 changes) (slice_set rows f numbers)
  good-empty v rows f changes most good = good-emptied row v rows f changes numbers (ap length zeros ∙ length-replicate {A = ℕ} (count - 0) 0 ∙ room ∙ most) good

  pub named-empty : (used : List Bool) → NameUsed row used numbers
  named-empty used = subst (λ (ns : List ℕ). NameUsed row used ns) (sym zeros) (zeros-named row used (count - 0))
