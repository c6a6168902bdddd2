-- Good block numbers are those of which none but 0 stands at two places within the sizes of files.
use Rattle.std.proofs.Common.{◌≡◌, ◌≢◌, inl, inr, ℕ, zero, suc, ◌+◌, ◌*◌, ◌<◌, ◌≤◌, Bool, true, false, ◌&&◌, ◌||◌, ◌==◌, not, List, [], ◌∷◌, ◌++◌, length, take, refl, sym, ap, subst, ◌∙◌, arith, nat_le, get_or-take, length-append, true≢false, sum}
use Rattle.std.proofs.lemmas.Bool.{cases_eq, eq-eqb}
use Rattle.std.proofs.lemmas.Bool.Decides.{nat_tests}
use Rattle.std.proofs.lemmas.List.Folds.{list_all-append}
use Rattle.std.proofs.lemmas.List.Sums.{sum_by-cons}
use Rattle.std.specs.List.{list_all, list_any}
use Rattle.std.specs.Prelude.{Contains, slice_index_or}
use Rattle.apex_types.specs.declared.rows.TreeRow.{TreeRow}
use Rattle.apex_model.specs.Image.{are_distinct}
use Rattle.file_tree.specs.Entries.{TreeValue}
use Rattle.file_tree.proofs.Children.{and-first, and-second}
use Rattle.tree_region.specs.OwnedRows.{number_at}
use Rattle.tree_region.specs.GoodNumbers.{size_blocks, numbers_from, numbers_of_files, HasGoodNumbers}
use Rattle.tree_region.specs.Numbers.{most_blocks}
use Rattle.tree_region.proofs.Contained.{none-in, first-or-rest, behind, in-either, any-in, in-left, in-right, in-place, all-of}
use Rattle.tree_region.proofs.Tables.{le-holds}

-- ---- distinct numbers of a list

or-true : (a : Bool) → (a || true) ≡ true
or-true true = refl
or-true false = refl

both-hold : (a b : Bool) → a ≡ true → b ≡ true → (a && b) ≡ true
both-hold true b h k = k
both-hold false b h k = h

other-is : (m n : ℕ) → m ≢ n → (m == n) ≡ false
other-is m n h = grind (arith, nat_tests)

none-any : (n : ℕ) (xs : List ℕ) → (Contains xs n → ⊥) → list_any (λ other. other == n) xs ≡ false
none-any n [] none = refl
none-any n (x ∷ xs) none =
    let first : (x == n) ≡ false = other-is x n (λ e. none (0, omega arith, e)) in
    ap (λ b. b || list_any (λ other. other == n) xs) first ∙ none-any n xs (λ there. none (behind x xs n there))

-- whether a number is 0 or not among others
abbrev is_single : ℕ → List ℕ → Bool
is_single n xs = (n == 0) || not (list_any (λ other. other == n) xs)

single-from : (n : ℕ) (xs : List ℕ) → is_single n xs ≡ true → n ≢ 0 → Contains xs n → ⊥
single-from n xs h some there =
    let test : (n == 0) ≡ false = other-is n 0 some in
    let any : list_any (λ other. other == n) xs ≡ true = any-in xs n there in
    true≢false (sym h ∙ ap (λ b. b || not (list_any (λ other. other == n) xs)) test ∙ ap not any)

single-to : (n : ℕ) (xs : List ℕ) → (n ≢ 0 → Contains xs n → ⊥) → is_single n xs ≡ true
single-to n xs none = elim (cases_eq n 0) [
  | inl e ↦ ap (λ b. b || not (list_any (λ other. other == n) xs)) (eq-eqb n 0 e)
  | inr some ↦ ap (λ b. (n == 0) || not b) (none-any n xs (none some)) ∙ or-true (n == 0)
]

-- a number that stands in a list has a place there
at-place : (xs : List ℕ) (n : ℕ) → Contains xs n → (k : ℕ) × (slice_index_or xs k 0 ≡ n)
at-place [] n there = absurd (none-in n there)
at-place (x ∷ xs) n there = elim (first-or-rest x xs n there) [
  | inl e ↦ (0, e)
  | inr rest ↦ let r = at-place xs n rest in (suc r.0, r.1)
]

-- and where it isn't 0 and has a place, it stands there
stands-at : (xs : List ℕ) (k n : ℕ) → n ≢ 0 → slice_index_or xs k 0 ≡ n → Contains xs n
stands-at xs k n some is =
    let one : 1 ≤ slice_index_or xs k 0 = omega (arith, some, is) in
    subst (λ m. Contains xs m) is (in-place xs k one)

-- distinct numbers but 0 stand at one place each
abbrev AreOnce : List ℕ → Type 0
AreOnce xs = (k j : ℕ) → slice_index_or xs k 0 ≢ 0 → slice_index_or xs k 0 ≡ slice_index_or xs j 0 → k ≡ j

distinct-once : (xs : List ℕ) → are_distinct xs ≡ true → AreOnce xs
distinct-once [] h k j some same = absurd (some refl)
distinct-once (x ∷ xs) h zero zero some same = refl
distinct-once (x ∷ xs) h zero (suc j) some same =
    absurd (single-from x xs (and-first (is_single x xs) (are_distinct xs) h) some (stands-at xs j x some (sym same)))
distinct-once (x ∷ xs) h (suc k) zero some same =
    absurd (single-from x xs (and-first (is_single x xs) (are_distinct xs) h) (λ z. some (same ∙ z)) (stands-at xs k x (λ z. some (same ∙ z)) same))
distinct-once (x ∷ xs) h (suc k) (suc j) some same = ap suc (distinct-once xs (and-second (is_single x xs) (are_distinct xs) h) k j some same)

once-distinct : (xs : List ℕ) → AreOnce xs → are_distinct xs ≡ true
once-distinct [] once = refl
once-distinct (x ∷ xs) once =
    let single : is_single x xs ≡ true = single-to x xs (λ some there.
    let p = at-place xs x there in
    let wrong : 0 ≡ suc p.0 = once 0 (suc p.0) some (sym p.1) in
    omega (arith, wrong)) in
    both-hold (is_single x xs) (are_distinct xs) single
    (once-distinct xs (λ k j some same. let e : suc k ≡ suc j = once (suc k) (suc j) some same in omega (arith, e)))

-- numbers are distinct in each of two lists, and none but 0 stands in both
record AreSplit (xs ys : List ℕ) : Type 0 where
  left : are_distinct xs ≡ true
  right : are_distinct ys ≡ true
  apart : (n : ℕ) → n ≢ 0 → Contains xs n → Contains ys n → ⊥

split : (xs ys : List ℕ) → are_distinct (xs ++ ys) ≡ true → AreSplit xs ys
split [] ys h = record { left = refl; right = h; apart = λ n some here there. none-in n here }
split (x ∷ xs) ys h =
    let first : is_single x (xs ++ ys) ≡ true = and-first (is_single x (xs ++ ys)) (are_distinct (xs ++ ys)) h in
    let rest = split xs ys (and-second (is_single x (xs ++ ys)) (are_distinct (xs ++ ys)) h) in
    let single : is_single x xs ≡ true = single-to x xs (λ some there. single-from x (xs ++ ys) first some (in-left xs ys x there)) in
    record {
      left = both-hold (is_single x xs) (are_distinct xs) single rest.left;
      right = rest.right;
      apart = λ n some here there. elim (first-or-rest x xs n here) [
        | inl e ↦ single-from x (xs ++ ys) first (λ z. some (sym e ∙ z)) (in-right xs ys x (subst (λ m. Contains ys m) (sym e) there))
        | inr own ↦ rest.apart n some own there
      ];
    }

joined-again : (xs ys : List ℕ) → AreSplit xs ys → are_distinct (xs ++ ys) ≡ true
joined-again [] ys parts = parts.right
joined-again (x ∷ xs) ys parts =
    let first : is_single x xs ≡ true = and-first (is_single x xs) (are_distinct xs) parts.left in
    let single : is_single x (xs ++ ys) ≡ true = single-to x (xs ++ ys) (λ some there. elim (in-either xs ys x there) [
      | inl own ↦ single-from x xs first some own
      | inr other ↦ parts.apart x some (0, omega arith, refl) other
    ]) in
    both-hold (is_single x (xs ++ ys)) (are_distinct (xs ++ ys)) single
    (joined-again xs ys (record {
      left = and-second (is_single x xs) (are_distinct xs) parts.left;
      right = parts.right;
      apart = λ n some own there. parts.apart n some (behind x xs n own) there;
    }))

-- ---- the first numbers of a list

taken : (n : ℕ) (xs : List ℕ) (k : ℕ) → slice_index_or (take n xs) k 0 ≢ 0 → (k < n) × (slice_index_or (take n xs) k 0 ≡ slice_index_or xs k 0)
taken zero xs k some = absurd (some refl)
taken (suc n) [] k some = absurd (some refl)
taken (suc n) (x ∷ xs) zero some = (omega arith, refl)
taken (suc n) (x ∷ xs) (suc k) some = let r = taken n xs k some in (omega (arith, r.0), r.1)

in-taken : (n : ℕ) (xs : List ℕ) (k : ℕ) → k < n → slice_index_or xs k 0 ≢ 0 → Contains (take n xs) (slice_index_or xs k 0)
in-taken n xs k less some = stands-at (take n xs) k (slice_index_or xs k 0) some (get_or-take n xs k 0 less)

few-taken : (n : ℕ) (xs : List ℕ) → length (take n xs) ≤ n
few-taken zero xs = omega arith
few-taken (suc n) [] = omega arith
few-taken (suc n) (x ∷ xs) = omega (arith, few-taken n xs)

all-taken : (test : ℕ → Bool) (n : ℕ) (xs : List ℕ) → ((k : ℕ) → k < n → test (slice_index_or xs k 0) ≡ true) → list_all test (take n xs) ≡ true
all-taken test zero xs h = refl
all-taken test (suc n) [] h = refl
all-taken test (suc n) (x ∷ xs) h =
    both-hold (test x) (list_all test (take n xs)) (h 0 (omega arith)) (all-taken test n xs (λ k less. h (suc k) (omega (arith, less))))

-- ---- the first numbers of many lists

-- as many of each list as it has, one list behind the other
abbrev joined : (ℕ → ℕ) → List (List ℕ) → List ℕ
joined sizes [] = []
joined sizes (list ∷ lists) = take (sizes 0) list ++ joined (λ f. sizes (suc f)) lists

joined-from : (sizes : ℕ → ℕ) (lists : List (List ℕ)) (n : ℕ) → n ≢ 0 → Contains (joined sizes lists) n → (f : ℕ) × (k : ℕ) × (f < length lists) × (k < sizes f) × (number_at lists f k ≡ n)
joined-from sizes [] n some there = absurd (none-in n there)
joined-from sizes (list ∷ lists) n some there = elim (in-either (take (sizes 0) list) (joined (λ f. sizes (suc f)) lists) n there) [
  | inl own ↦
      let p = at-place (take (sizes 0) list) n own in
      let t = taken (sizes 0) list p.0 (λ z. some (sym p.1 ∙ z)) in
      (0, p.0, omega arith, t.0, sym t.1 ∙ p.1)
  | inr rest ↦ let r = joined-from (λ f. sizes (suc f)) lists n some rest in (suc r.0, r.1, omega (arith, r.2), r.3, r.4)
]

joined-to : (sizes : ℕ → ℕ) (lists : List (List ℕ)) (f k : ℕ) → k < sizes f → number_at lists f k ≢ 0 → Contains (joined sizes lists) (number_at lists f k)
joined-to sizes [] f k less some = absurd (some refl)
joined-to sizes (list ∷ lists) zero k less some = in-left (take (sizes 0) list) (joined (λ f. sizes (suc f)) lists) (slice_index_or list k 0) (in-taken (sizes 0) list k less some)
joined-to sizes (list ∷ lists) (suc f) k less some = in-right (take (sizes 0) list) (joined (λ f. sizes (suc f)) lists) (number_at lists f k) (joined-to (λ f. sizes (suc f)) lists f k less some)

abbrev pub AreOnceBy : (ℕ → ℕ) → List (List ℕ) → Type 0
AreOnceBy sizes lists = (f k g j : ℕ) → f < length lists → g < length lists → k < sizes f → j < sizes g → number_at lists f k ≢ 0 → number_at lists f k ≡ number_at lists g j → (f ≡ g) × (k ≡ j)

joined-apart : (sizes : ℕ → ℕ) (lists : List (List ℕ)) → are_distinct (joined sizes lists) ≡ true → AreOnceBy sizes lists
joined-apart sizes [] h f k g j f_there g_there k_less j_less some same = absurd (some refl)
joined-apart sizes (list ∷ lists) h zero k zero j f_there g_there k_less j_less some same =
    let parts = split (take (sizes 0) list) (joined (λ f. sizes (suc f)) lists) h in
    let at_k = get_or-take (sizes 0) list k 0 k_less in
    let at_j = get_or-take (sizes 0) list j 0 j_less in
    (refl, distinct-once (take (sizes 0) list) parts.left k j (λ z. some (sym at_k ∙ z)) (at_k ∙ same ∙ sym at_j))
joined-apart sizes (list ∷ lists) h zero k (suc g) j f_there g_there k_less j_less some same =
    let parts = split (take (sizes 0) list) (joined (λ f. sizes (suc f)) lists) h in
    let rest = joined-to (λ f. sizes (suc f)) lists g j j_less (λ z. some (same ∙ z)) in
    absurd (parts.apart (slice_index_or list k 0) some (in-taken (sizes 0) list k k_less some) (subst (λ n. Contains (joined (λ f. sizes (suc f)) lists) n) (sym same) rest))
joined-apart sizes (list ∷ lists) h (suc f) k zero j f_there g_there k_less j_less some same =
    let parts = split (take (sizes 0) list) (joined (λ f. sizes (suc f)) lists) h in
    let own = in-taken (sizes 0) list j j_less (λ z. some (same ∙ z)) in
    absurd (parts.apart (number_at lists f k) some (subst (λ n. Contains (take (sizes 0) list) n) (sym same) own) (joined-to (λ f. sizes (suc f)) lists f k k_less some))
joined-apart sizes (list ∷ lists) h (suc f) k (suc g) j f_there g_there k_less j_less some same =
    let parts = split (take (sizes 0) list) (joined (λ f. sizes (suc f)) lists) h in
    let r = joined-apart (λ f. sizes (suc f)) lists parts.right f k g j (omega (arith, f_there)) (omega (arith, g_there)) k_less j_less some same in
    (ap suc r.0, r.1)

apart-joined : (sizes : ℕ → ℕ) (lists : List (List ℕ)) → AreOnceBy sizes lists → are_distinct (joined sizes lists) ≡ true
apart-joined sizes [] apart = refl
apart-joined sizes (list ∷ lists) apart = joined-again (take (sizes 0) list) (joined (λ f. sizes (suc f)) lists) (record {
  left = once-distinct (take (sizes 0) list) (λ k j some same.
      let a = taken (sizes 0) list k some in
      let b = taken (sizes 0) list j (λ z. some (same ∙ z)) in
      let r = apart 0 k 0 j (omega arith) (omega arith) a.0 b.0 (λ z. some (a.1 ∙ z)) (sym a.1 ∙ same ∙ b.1) in
      r.1);
  right = apart-joined (λ f. sizes (suc f)) lists (λ f k g j f_there g_there k_less j_less some same.
      let r = apart (suc f) k (suc g) j (omega (arith, f_there)) (omega (arith, g_there)) k_less j_less some same in
      let e : suc f ≡ suc g = r.0 in
      (omega (arith, e), r.1));
  apart = λ n some own there.
      let p = at-place (take (sizes 0) list) n own in
      let t = taken (sizes 0) list p.0 (λ z. some (sym p.1 ∙ z)) in
      let q = joined-from (λ f. sizes (suc f)) lists n some there in
      let r = apart 0 p.0 (suc q.0) q.1 (omega arith) (omega (arith, q.2)) t.0 q.3 (λ z. some (sym p.1 ∙ t.1 ∙ z)) (sym t.1 ∙ p.1 ∙ sym q.4) in
      let wrong : 0 ≡ suc q.0 = r.0 in
      omega (arith, wrong);
})

all-joined : (test : ℕ → Bool) (sizes : ℕ → ℕ) (lists : List (List ℕ)) → ((f k : ℕ) → f < length lists → k < sizes f → test (number_at lists f k) ≡ true) → list_all test (joined sizes lists) ≡ true
all-joined test sizes [] h = refl
all-joined test sizes (list ∷ lists) h =
    list_all-append test (take (sizes 0) list) (joined (λ f. sizes (suc f)) lists)
    ∙ both-hold (list_all test (take (sizes 0) list)) (list_all test (joined (λ f. sizes (suc f)) lists))
    (all-taken test (sizes 0) list (λ k less. h 0 k (omega arith) less))
    (all-joined test (λ f. sizes (suc f)) lists (λ f k there less. h (suc f) k (omega (arith, there)) less))

joined-few : (sizes : ℕ → ℕ) (lists : List (List ℕ)) (charges : List ℕ) → ((f : ℕ) → f < length lists → sizes f ≤ slice_index_or charges f 0) → length (joined sizes lists) ≤ sum charges
joined-few sizes [] charges few = omega arith
joined-few sizes (list ∷ lists) [] few =
    let whole = length-append (take (sizes 0) list) (joined (λ f. sizes (suc f)) lists) in
    let own : sizes 0 ≤ 0 = few 0 (omega arith) in
    let rest : length (joined (λ f. sizes (suc f)) lists) ≤ 0 = joined-few (λ f. sizes (suc f)) lists [] (λ f less. few (suc f) (omega (arith, less))) in
    omega (arith, whole, own, rest, few-taken (sizes 0) list)
joined-few sizes (list ∷ lists) (c ∷ charges) few =
    let whole = length-append (take (sizes 0) list) (joined (λ f. sizes (suc f)) lists) in
    let own : sizes 0 ≤ c = few 0 (omega arith) in
    let rest = joined-few (λ f. sizes (suc f)) lists charges (λ f less. few (suc f) (omega (arith, less))) in
    omega (arith, whole, own, rest, few-taken (sizes 0) list, sum_by-cons (λ n. n) c charges)

-- ---- good numbers

-- within the sizes of a tree's files no number but 0 stands at two places
abbrev pub AreOnceWithin : TreeValue → List (List ℕ) → Type 0
AreOnceWithin v lists = AreOnceBy (size_blocks v) lists

joined-from-file : (v : TreeValue) (f : ℕ) (lists : List (List ℕ)) → numbers_from v f lists ≡ joined (λ k. size_blocks v (f + k)) lists
unfolding numbers_from
joined-from-file v f [] = refl
joined-from-file v f (list ∷ lists) =
    let here : f ≡ f + 0 = omega arith in
    let next : (k : ℕ) → f + 1 + k ≡ f + suc k = λ k. omega arith in
    (λ i. take (size_blocks v (here i)) list ++ joined-from-file v (f + 1) lists i)
    ∙ (λ i. take (size_blocks v (f + 0)) list ++ joined (λ k. size_blocks v (next k i)) lists)

numbers-are : (v : TreeValue) (lists : List (List ℕ)) → numbers_of_files v lists ≡ joined (size_blocks v) lists
numbers-are v lists =
    let start : (k : ℕ) → 0 + k ≡ k = λ k. omega arith in
    joined-from-file v 0 lists ∙ (λ i. joined (λ k. size_blocks v (start k i)) lists)

-- no good number but 0 stands at two places
pub good-apart : (row : TreeRow) (v : TreeValue) (lists : List (List ℕ)) → HasGoodNumbers row v lists → AreOnceWithin v lists
good-apart row v lists good = joined-apart (size_blocks v) lists (ap are_distinct (sym (numbers-are v lists)) ∙ good.distinct)

-- each is at most twice the quota
pub good-within : (row : TreeRow) (v : TreeValue) (lists : List (List ℕ)) → HasGoodNumbers row v lists → (f k : ℕ) → k < size_blocks v f → number_at lists f k ≤ 2 * row.quota
good-within row v lists good f k less = elim (cases_eq (number_at lists f k) 0) [
  | inl e ↦ omega (arith, e)
  | inr some ↦
      let all : list_all (λ n. nat_le n (2 * row.quota)) (joined (size_blocks v) lists) ≡ true = ap (list_all (λ n. nat_le n (2 * row.quota))) (sym (numbers-are v lists)) ∙ good.within in
      le-holds _ _ (all-of (λ n. nat_le n (2 * row.quota)) (joined (size_blocks v) lists) (number_at lists f k) all (joined-to (size_blocks v) lists f k less some))
]

-- there are no more numbers than the files are charged for
pub numbers-charged : (quota : ℕ) (v : TreeValue) (lists : List (List ℕ)) (charges : List ℕ) → ((f : ℕ) → f < length lists → size_blocks v f ≤ slice_index_or charges f 0) → sum charges ≤ quota → length (numbers_of_files v lists) ≤ quota
numbers-charged quota v lists charges few total =
    let many : length (numbers_of_files v lists) ≡ length (joined (size_blocks v) lists) = ap length (numbers-are v lists) in
    let fits = joined-few (size_blocks v) lists charges few in
    omega (arith, many, fits, total)

le-test : (m n : ℕ) → m ≤ n → nat_le m n ≡ true
le-test m n h = grind (arith, nat_tests)

-- numbers of which none but 0 stands at two places are good ones
pub apart-good : (row : TreeRow) (v : TreeValue) (lists : List (List ℕ)) → length lists ≡ row.files → AreOnceWithin v lists
    → ((f k : ℕ) → f < row.files → k < size_blocks v f → number_at lists f k ≤ 2 * row.quota)
    → length (numbers_of_files v lists) ≤ row.quota
    → ((f : ℕ) → f < row.files → length (slice_index_or lists f []) ≡ most_blocks row)
    → ((f : ℕ) → f < row.files → size_blocks v f ≤ most_blocks row)
    → HasGoodNumbers row v lists
apart-good row v lists long apart within sum rooms fits = record {
  sum = sum;
  within = ap (list_all (λ n. nat_le n (2 * row.quota))) (numbers-are v lists)
      ∙ all-joined (λ n. nat_le n (2 * row.quota)) (size_blocks v) lists (λ f k there less. le-test (number_at lists f k) (2 * row.quota) (within f k (omega (arith, there, long)) less));
  distinct = ap are_distinct (numbers-are v lists) ∙ apart-joined (size_blocks v) lists apart;
  rooms = rooms;
  fits = fits;
}
