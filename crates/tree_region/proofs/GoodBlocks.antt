-- Good numbers stay good with 0 behind them.
use Rattle.std.proofs.Common.{◌≡◌, ℕ, zero, suc, ◌-◌, ◌*◌, ◌≤◌, Bool, true, false, ◌&&◌, ◌||◌, ◌==◌, not, List, [], ◌∷◌, ◌++◌, length, drop, replicate, refl, ap, ◌∙◌, arith, nat_le}
use Rattle.std.proofs.lemmas.Bool.Decides.{nat_tests}
use Rattle.std.proofs.lemmas.List.{drop_at}
use Rattle.std.proofs.lemmas.List.Folds.{list_all-append, list_any-append}
use Rattle.std.specs.List.{list_all, list_any}
use Rattle.apex_types.specs.declared.fields.FileEntryField.{FileEntryField}
use Rattle.apex_types.specs.declared.rows.TreeRow.{TreeRow}
use Rattle.apex_model.specs.Fields.{is_padding}
use Rattle.apex_model.specs.Image.{size_of_field, are_distinct, has_good_blocks}
use Rattle.tree_region.specs.Numbers.{with_room}
use Rattle.tree_region.proofs.Tables.{block_sum}

le-test : (m n : ℕ) → m ≤ n → nat_le m n ≡ true
le-test m n h = grind (arith, nat_tests)

pub zeros-padding : (n : ℕ) → is_padding (replicate n 0) ≡ true
zeros-padding zero = refl
zeros-padding (suc n) = zeros-padding n

zeros-within : (n last : ℕ) → list_all (λ m. nat_le m last) (replicate n 0) ≡ true
zeros-within zero last = refl
zeros-within (suc n) last = ap (λ b. b && list_all (λ m. nat_le m last) (replicate n 0)) (le-test 0 last (omega arith)) ∙ zeros-within n last

zeros-distinct : (n : ℕ) → are_distinct (replicate n 0) ≡ true
zeros-distinct zero = refl
zeros-distinct (suc n) = zeros-distinct n

not-among : (x n : ℕ) → (x == 0) ≡ false → list_any (λ other. other == x) (replicate n 0) ≡ false
not-among x zero h = refl
not-among x (suc n) h = let other : (0 == x) ≡ false = grind (arith, nat_tests) in ap (λ b. b || list_any (λ other. other == x) (replicate n 0)) other ∙ not-among x n h

or-false : (a : Bool) → (a || false) ≡ a
or-false true = refl
or-false false = refl

-- whether a number that isn't 0 stands among others
any-same : (x n : ℕ) (xs : List ℕ) (b : Bool) → (x == 0) ≡ b → (b || not (list_any (λ other. other == x) (xs ++ replicate n 0))) ≡ (b || not (list_any (λ other. other == x) xs))
any-same x n xs true h = refl
any-same x n xs false h =
    ap not (list_any-append (λ other. other == x) xs (replicate n 0) ∙ ap (λ b. list_any (λ other. other == x) xs || b) (not-among x n h) ∙ or-false (list_any (λ other. other == x) xs))

distinct-with : (xs : List ℕ) (n : ℕ) → are_distinct (xs ++ replicate n 0) ≡ are_distinct xs
distinct-with [] n = zeros-distinct n
distinct-with (x ∷ xs) n = λ i. any-same x n xs (x == 0) refl i && distinct-with xs n i

module _ (row : TreeRow) (fields : List FileEntryField) (numbers rest : List ℕ) (sum : length numbers ≡ block_sum fields) (few : length numbers ≤ row.quota)
    (small : list_all (λ field. nat_le (size_of_field field) 1048576) fields ≡ true) (within : list_all (λ n. nat_le n (2 * row.quota)) numbers ≡ true) (distinct : are_distinct numbers ≡ true)
    (padding : is_padding rest ≡ true) where
  abbrev zeros : ℕ
  zeros = row.quota - length numbers

  all-within : list_all (λ n. nat_le n (2 * row.quota)) (with_room row.quota numbers) ≡ true
  all-within = list_all-append (λ n. nat_le n (2 * row.quota)) numbers (replicate zeros 0) ∙ (λ i. within i && zeros-within zeros (2 * row.quota) i)

  padded : is_padding (drop (block_sum fields) (with_room row.quota numbers)) ≡ true
  padded = ap is_padding (drop_at numbers (replicate zeros 0) (block_sum fields) sum) ∙ zeros-padding zeros

  pub all-good : has_good_blocks row fields (with_room row.quota numbers) rest ≡ true
  all-good = λ i. small i && le-test (block_sum fields) row.quota (omega (arith, few, sum)) i && all-within i && (distinct-with numbers zeros ∙ distinct) i && padded i && padding i
