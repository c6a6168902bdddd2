-- The charges of durable contents, one file after the other, are within the quota.
use Rattle.std.proofs.Common.{◌≡◌, ◌⊎◌, inl, inr, ℕ, zero, suc, ◌+◌, ◌<◌, ◌≤◌, Bool, true, false, nat_le, max, List, [], ◌∷◌, length, take, refl, sym, ap, subst, ◌∙◌, arith, length-append, length-set, get_or-set_same, get_or-set_other}
use Rattle.std.specs.Prelude.{slice_index_or, slice_set, sum_by}
use Rattle.std.proofs.lemmas.List.{length-take}
use Rattle.std.proofs.lemmas.List.Sums.{sum_by-cons}
use Rattle.std.proofs.lemmas.Bool.{cases_eq, cases_lt}
use Rattle.std.proofs.lemmas.Bool.Decides.{nat_tests}
use Rattle.apex_types.specs.declared.rows.TreeRow.{TreeRow}
use Rattle.block_quota.specs.Quota.{ChargesValue, charge_of, total, raised_to}
use Rattle.file_tree.specs.Entries.{TreeValue}
use Rattle.tree_region.specs.GoodNumbers.{HasGoodNumbers, size_blocks, numbers_from}
use Rattle.tree_state.specs.Mounted.{AreStoredCharges}

-- ---- sums

-- the blocks of the files from one on
sizes_from : TreeValue → ℕ → List (List ℕ) → List ℕ
sizes_from v f [] = []
sizes_from v f (list ∷ lists) = size_blocks v f ∷ sizes_from v (f + 1) lists

module _ (v : TreeValue) where
  sizes-long : (f : ℕ) (lists : List (List ℕ)) → length (sizes_from v f lists) ≡ length lists
  unfolding sizes_from
  sizes-long f [] = refl
  sizes-long f (list ∷ lists) = ap suc (sizes-long (f + 1) lists)

  size-at : (f : ℕ) (lists : List (List ℕ)) (k : ℕ) → k < length lists → slice_index_or (sizes_from v f lists) k 0 ≡ size_blocks v (f + k)
  unfolding sizes_from
  size-at f [] k low = absurd (let wrong : k < 0 = low in omega (arith, wrong))
  size-at f (list ∷ lists) zero low = let e : f ≡ f + 0 = omega arith in ap (size_blocks v) e
  size-at f (list ∷ lists) (suc k) low =
      let less : suc k < suc (length lists) = low in
      let e : f + 1 + k ≡ f + suc k = omega arith in
      size-at (f + 1) lists k (omega (arith, less)) ∙ ap (size_blocks v) e

  -- they are as many as numbers
  sum-sizes : (f : ℕ) (lists : List (List ℕ)) → ((k : ℕ) → k < length lists → size_blocks v (f + k) ≤ length (slice_index_or lists k [])) → sum_by (λ n. n) (sizes_from v f lists) ≡ length (numbers_from v f lists)
  unfolding sizes_from numbers_from
  sum-sizes f [] room = refl
  sum-sizes f (list ∷ lists) room =
      let here : f + 0 ≡ f = omega arith in
      let first : size_blocks v f ≤ length list = subst (λ n. size_blocks v n ≤ length list) here (room 0 (omega arith)) in
      let rest = sum-sizes (f + 1) lists (λ k low.
      let e : f + suc k ≡ f + 1 + k = omega arith in
      subst (λ n. size_blocks v n ≤ length (slice_index_or lists k [])) e (room (suc k) (omega (arith, low)))) in
      let cons = sum_by-cons (λ (n : ℕ). n) (size_blocks v f) (sizes_from v (f + 1) lists) in
      let all = length-append (take (size_blocks v f) list) (numbers_from v (f + 1) lists) in
      let front = length-take (size_blocks v f) list in
      omega (arith, cons, rest, all, front, first)

-- a list with no greater number anywhere has no greater sum
less-sum : (xs ys : List ℕ) → length xs ≡ length ys → ((k : ℕ) → slice_index_or xs k 0 ≤ slice_index_or ys k 0) → sum_by (λ n. n) xs ≤ sum_by (λ n. n) ys
less-sum [] [] long less = omega arith
less-sum [] (y ∷ ys) long less = absurd (let e : 0 ≡ suc (length ys) = long in omega (arith, e))
less-sum (x ∷ xs) [] long less = absurd (let e : suc (length xs) ≡ 0 = long in omega (arith, e))
less-sum (x ∷ xs) (y ∷ ys) long less =
    let e : suc (length xs) ≡ suc (length ys) = long in
    let rest = less-sum xs ys (omega (arith, e)) (λ k. less (suc k)) in
    omega (arith, rest, less 0, sum_by-cons (λ (n : ℕ). n) x xs, sum_by-cons (λ (n : ℕ). n) y ys)

set-either : (xs : List ℕ) (i x j : ℕ) → (slice_index_or (slice_set xs i x) j 0 ≡ slice_index_or xs j 0) ⊎ ((j ≡ i) × (slice_index_or (slice_set xs i x) j 0 ≡ x))
set-either [] i x j = inl refl
set-either (y ∷ xs) zero x zero = inr (refl, refl)
set-either (y ∷ xs) zero x (suc j) = inl refl
set-either (y ∷ xs) (suc i) x zero = inl refl
set-either (y ∷ xs) (suc i) x (suc j) = elim (set-either xs i x j) [
  | inl same ↦ inl same
  | inr own ↦ inr (ap suc own.0, own.1)
]

-- ---- one file more

le-is : (m n : ℕ) → m ≤ n → nat_le m n ≡ true
le-is m n h = grind (arith, nat_tests)

module _ (row : TreeRow) (v : TreeValue) (lists : List (List ℕ)) (good : HasGoodNumbers row v lists) (many : length lists ≡ row.files) (f : ℕ) (less : f < row.files) (c : ChargesValue) (are : AreStoredCharges row v f c) where
  charged : List ℕ
  charged = slice_set c.by_file f (max (charge_of c f) (size_blocks v f))

  none-yet : max (charge_of c f) (size_blocks v f) ≡ size_blocks v f
  none-yet = omega (arith, are.behind f (omega arith))

  all-room : (k : ℕ) → k < length lists → size_blocks v (0 + k) ≤ length (slice_index_or lists k [])
  all-room k low =
      let e : k ≡ 0 + k = omega arith in
      let room = good.rooms k (omega (arith, low, many)) in
      let fits = good.fits k (omega (arith, low, many)) in
      subst (λ n. size_blocks v n ≤ length (slice_index_or lists k [])) e (omega (arith, room, fits))

  at-most : (k : ℕ) → slice_index_or charged k 0 ≤ slice_index_or (sizes_from v 0 lists) k 0
  unfolding charged
  at-most k = elim (set-either c.by_file f (max (charge_of c f) (size_blocks v f)) k) [
    | inl same ↦ elim (cases_lt k f) [
      | inl low ↦ let e : 0 + k ≡ k = omega arith in omega (arith, same, are.before k low, size-at v 0 lists k (omega (arith, low, less, many)), ap (size_blocks v) e)
      | inr high ↦ omega (arith, same, are.behind k high)
    ]
    | inr own ↦ let e : 0 + k ≡ f = omega (arith, own.0) in omega (arith, own.1, none-yet, size-at v 0 lists k (omega (arith, own.0, less, many)), ap (size_blocks v) e)
  ]

  -- the quota has room for it
  pub room-for : total (raised_to c f (size_blocks v f)) ≤ c.quota
  unfolding charged
  room-for =
      let bound = less-sum charged (sizes_from v 0 lists) (length-set c.by_file f (max (charge_of c f) (size_blocks v f)) ∙ are.files ∙ sym many ∙ sym (sizes-long v 0 lists)) at-most in
      omega (arith, bound, sum-sizes v 0 lists all-room, good.sum, are.quota)

  pub never-refused : (blocks : ℕ) (made : Bool) → blocks ≡ size_blocks v f → made ≡ nat_le (total (raised_to c f blocks)) c.quota → made ≡ false → ⊥
  never-refused blocks made are_blocks is refused =
      let room : total (raised_to c f blocks) ≤ c.quota = subst (λ n. total (raised_to c f n) ≤ c.quota) (sym are_blocks) room-for in
      let wrong : true ≡ false = sym (le-is (total (raised_to c f blocks)) c.quota room) ∙ sym is ∙ refused in
      absurd cc

  pub one-charged : (new : ChargesValue) → new ≡ raised_to c f (size_blocks v f) → AreStoredCharges row v (f + 1) new
  one-charged new is = subst (AreStoredCharges row v (f + 1)) (sym is) (record {
    quota = are.quota;
    files = length-set c.by_file f (max (charge_of c f) (size_blocks v f)) ∙ are.files;
    before = λ k low. elim (cases_eq k f) [
      | inl same ↦
          ap (λ n. slice_index_or (slice_set c.by_file f (max (charge_of c f) (size_blocks v f))) n 0) same
          ∙ get_or-set_same c.by_file f (max (charge_of c f) (size_blocks v f)) 0 (omega (arith, less, are.files)) ∙ none-yet ∙ ap (size_blocks v) (sym same)
      | inr differs ↦ get_or-set_other c.by_file f k (max (charge_of c f) (size_blocks v f)) 0 differs ∙ are.before k (omega (arith, low, differs))
    ];
    behind = λ k high. elim (set-either c.by_file f (max (charge_of c f) (size_blocks v f)) k) [
      | inl same ↦ same ∙ are.behind k (omega arith)
      | inr own ↦ absurd (omega (arith, own.0, high))
    ];
  })
