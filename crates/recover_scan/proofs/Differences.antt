-- The first place at which bytes differ from those wanted, and what it says of an image.
use Rattle.std.proofs.Common.{◌≡◌, ◌≢◌, ℕ, ◌+◌, ◌*◌, ◌==◌, ◌<◌, ◌≤◌, Bool, true, false, cond, List, [], ◌∷◌, length, drop, take, get_or, Option, Some, None, refl, sym, ap, ◌∙◌, suc, zero, inl, inr, arith, drop-cons}
use Rattle.std.proofs.lemmas.Bool.Decides.{eqb_tells}
use Rattle.std.specs.Prelude.{not, nat_lt, Result, Ok, Err}
use Rattle.std.proofs.lemmas.Bool.Decides.{nat_tests}
use Rattle.apex_types.specs.Rows.{Rows}
use Rattle.apex_model.specs.Durable.{Durable}
use Rattle.apex_model.specs.Image.{Refusal, too_small, not_formatted, other_table, state_of, state_of_regions, first_difference, is_open, blocks_at, wanted_superblock}
use Rattle.apex_model.specs.Layout.{layout_blocks}
use Rattle.rig_core.specs.Bytes.{part}

abbrev at_place : ℕ → List ℕ → List ℕ → ℕ → Option ℕ
at_place n xs ys k = cond (get_or xs k 0 == get_or ys k 0) (first_difference (n + 1) (drop (suc k) xs) (drop (suc k) ys)) (Some n)

step : (n : ℕ) (xs ys : List ℕ) (k : ℕ) → k < length xs → k < length ys → first_difference n (drop k xs) (drop k ys) ≡ at_place n xs ys k
step n xs ys k hx hy = λ i. first_difference n (drop-cons xs k 0 hx i) (drop-cons ys k 0 hy i)

-- where they differ, it is this place
pub differs : (n : ℕ) (xs ys : List ℕ) (k : ℕ) → k < length xs → k < length ys → get_or xs k 0 ≢ get_or ys k 0 → first_difference n (drop k xs) (drop k ys) ≡ Some n
differs n xs ys k hx hy other =
    let test : (get_or xs k 0 == get_or ys k 0) ≡ false = elim (eqb_tells (get_or xs k 0) (get_or ys k 0)) [ inl yes_same ↦ absurd (other yes_same.1) | inr no_same ↦ no_same.0 ] in
    step n xs ys k hx hy ∙ ap (λ b. cond b (first_difference (n + 1) (drop (suc k) xs) (drop (suc k) ys)) (Some n)) test

-- where they don't, it is one behind
pub agrees : (n : ℕ) (xs ys : List ℕ) (k : ℕ) → k < length xs → k < length ys → get_or xs k 0 ≡ get_or ys k 0 → first_difference n (drop k xs) (drop k ys) ≡ first_difference (n + 1) (drop (k + 1) xs) (drop (k + 1) ys)
agrees n xs ys k hx hy same =
    let test : (get_or xs k 0 == get_or ys k 0) ≡ true = elim (eqb_tells (get_or xs k 0) (get_or ys k 0)) [ inl yes_same ↦ yes_same.0 | inr no_same ↦ absurd (no_same.1 same) ] in
    let next : suc k ≡ k + 1 = omega arith in
    step n xs ys k hx hy ∙ ap (λ b. cond b (first_difference (n + 1) (drop (suc k) xs) (drop (suc k) ys)) (Some n)) test
    ∙ (λ i. first_difference (n + 1) (drop (next i) xs) (drop (next i) ys))

-- what stands behind as many bytes as are wanted doesn't matter
pub in-front : (n : ℕ) (xs ys : List ℕ) (m : ℕ) → length xs ≤ m → first_difference n xs (take m ys) ≡ first_difference n xs ys
in-front n [] ys m h = refl
in-front n (x ∷ xs) ys zero h = absurd (omega arith)
in-front n (x ∷ xs) [] (suc m) h = refl
in-front n (x ∷ xs) (y ∷ ys) (suc m) h = ap (λ (rest : Option ℕ). cond (x == y) rest (Some n)) (in-front (n + 1) xs ys m (omega arith))

-- ---- the state of an image, by its superblock

module _ (table : Rows) (image : List ℕ) where
  abbrev by_difference : Option ℕ → Result Durable Refusal
  by_difference difference = elim difference [ Some place ↦ Err (other_table place) | None ↦ state_of_regions table image ]

  abbrev by_tests : Bool → Bool → Option ℕ → Result Durable Refusal
  by_tests small opened difference = cond small (Err (too_small (512 * layout_blocks table))) (cond (not opened) (Err not_formatted) (by_difference difference))

  state-by : (small opened : Bool) (difference : Option ℕ) → nat_lt (length image) (512 * layout_blocks table) ≡ small → is_open image 0 ≡ opened
      → first_difference 0 (wanted_superblock table) (blocks_at image 1 32) ≡ difference → state_of table image ≡ by_tests small opened difference
  unfolding state_of
  state-by small opened difference a b c = λ i. by_tests (a i) (b i) (c i)

  pub state-small : length image < 512 * layout_blocks table → state_of table image ≡ Err (too_small (512 * layout_blocks table))
  state-small less = let test : nat_lt (length image) (512 * layout_blocks table) ≡ true = grind (arith, nat_tests) in state-by true (is_open image 0) _ test refl refl

  module _ (room : 512 * layout_blocks table ≤ length image) where
    test : nat_lt (length image) (512 * layout_blocks table) ≡ false
    test = grind (arith, nat_tests)

    pub state-closed : is_open image 0 ≡ false → state_of table image ≡ Err not_formatted
    state-closed closed = state-by false false _ test closed refl

    pub state-other : (place : ℕ) → is_open image 0 ≡ true → first_difference 0 (wanted_superblock table) (blocks_at image 1 32) ≡ Some place → state_of table image ≡ Err (other_table place)
    state-other place opened other = state-by false true (Some place) test opened other

    pub state-regions : is_open image 0 ≡ true → first_difference 0 (wanted_superblock table) (blocks_at image 1 32) ≡ None → state_of table image ≡ state_of_regions table image
    state-regions opened same = state-by false true None test opened same

-- as many bytes as are wanted tell as much as all of the superblock
pub front-tells : (wanted image : List ℕ) → length wanted ≤ 16384 → first_difference 0 wanted (take (length wanted) (drop 512 image)) ≡ first_difference 0 wanted (blocks_at image 1 32)
front-tells wanted image short = in-front 0 wanted (drop 512 image) (length wanted) (omega arith) ∙ sym (in-front 0 wanted (drop 512 image) 16384 short)

-- so what was compared tells where the superblock differs
pub compared : (wanted front view read : List ℕ) (difference : Option ℕ) → front ≡ wanted → read ≡ view → length wanted ≤ 16384 → difference ≡ first_difference 0 front (part 512 (length front) read)
    → first_difference 0 wanted (blocks_at view 1 32) ≡ difference
compared wanted front view read difference same shown short is =
    sym (front-tells wanted view short) ∙ sym (λ i. first_difference 0 (same i) (part 512 (length (same i)) (shown i))) ∙ sym is
