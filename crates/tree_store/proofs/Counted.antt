-- Buffers are counted by the files whose blocks they hold.
use Rattle.std.proofs.Common.{◌≡◌, ◌≢◌, inl, inr, ℕ, zero, suc, ◌+◌, ◌<◌, ◌≤◌, Bool, true, false, cond, ◌||◌, List, [], ◌∷◌, length, refl, sym, ap, subst, ◌∙◌, Option, Some, None, arith}
use Rattle.std.proofs.lemmas.Bool.{cases_eq, false≢true}
use Rattle.std.proofs.lemmas.Bool.Decides.{nat_tests}
use Rattle.std.proofs.lemmas.List.Sums.{sum_by-cons}
use Rattle.std.specs.List.{list_any, position_from, range_with_len}
use Rattle.std.specs.Prelude.{count_by, sum_by, ◌==◌, ◌&&◌, nat_eq}
use Rattle.apex_types.specs.declared.numbers.FileNode.{FileNode}
use Rattle.apex_model.specs.Trees.{Name}
use Rattle.block_pool.specs.Buffers.{holds_block}
use Rattle.block_pool.specs.declared.buffers.Block.{Block}
use Rattle.tree_store.proofs.Summed.{weights_from, weightless}

-- ---- counts of places

pub count-cons : {X : Type 0} (p : X → Bool) (x : X) (xs : List X) → count_by p (x ∷ xs) ≡ cond (p x) 1 0 + count_by p xs
count-cons p x xs = sum_by-cons (λ x. cond (p x) 1 0) x xs

one-less : (a b : Bool) → (a ≡ true → b ≡ true) → cond a 1 0 ≤ cond b 1 0
one-less true true so = omega arith
one-less true false so = absurd (false≢true (so refl))
one-less false b so = omega arith

-- a stronger test passes no more often
pub count-less : (p q : ℕ → Bool) (a n : ℕ) → ((k : ℕ) → a ≤ k → k < a + n → p k ≡ true → q k ≡ true) → count_by p (range_with_len a n) ≤ count_by q (range_with_len a n)
count-less p q a zero so = omega arith
count-less p q a (suc n) so =
    let here = one-less (p a) (q a) (so a (omega arith) (omega arith)) in
    let rest = count-less p q (a + 1) n (λ k low high. so k (omega arith) (omega arith)) in
    let more = count-cons p a (range_with_len (a + 1) n) in
    let most = count-cons q a (range_with_len (a + 1) n) in
    omega (arith, here, rest, more, most)

either-less : (a b : Bool) → cond (a || b) 1 0 ≤ cond a 1 0 + cond b 1 0
either-less true b = omega arith
either-less false b = omega arith

count-either : (p q : ℕ → Bool) (a n : ℕ) → count_by (λ k. p k || q k) (range_with_len a n) ≤ count_by p (range_with_len a n) + count_by q (range_with_len a n)
count-either p q a zero = omega arith
count-either p q a (suc n) =
    let here = either-less (p a) (q a) in
    let rest = count-either p q (a + 1) n in
    let both = count-cons (λ k. p k || q k) a (range_with_len (a + 1) n) in
    let first = count-cons p a (range_with_len (a + 1) n) in
    let second = count-cons q a (range_with_len (a + 1) n) in
    omega (arith, here, rest, both, first, second)

count-none : (a n : ℕ) → count_by (λ (k : ℕ). false) (range_with_len a n) ≡ 0
count-none a zero = refl
count-none a (suc n) = let rest = count-none (a + 1) n in let more = count-cons (λ (k : ℕ). false) a (range_with_len (a + 1) n) in omega (arith, rest, more)

-- one number stands once at most
equal-is : (x k : ℕ) → (x == k) ≡ true → x ≡ k
equal-is x k is = grind (arith, nat_tests)

differ-is : (x k : ℕ) → x ≢ k → (x == k) ≡ false
differ-is x k other = grind (arith, nat_tests)

count-behind : (x a n : ℕ) → x < a → count_by (λ k. x == k) (range_with_len a n) ≡ 0
count-behind x a zero less = refl
count-behind x a (suc n) less =
    let here = ap {B = ℕ} (λ (b : Bool). cond b 1 0) (differ-is x a (omega arith)) in
    let rest = count-behind x (a + 1) n (omega arith) in
    let more = count-cons (λ k. x == k) a (range_with_len (a + 1) n) in
    omega (arith, here, rest, more)

count-one : (x a n : ℕ) → count_by (λ k. x == k) (range_with_len a n) ≤ 1
count-one x a zero = omega arith
count-one x a (suc n) =
    let more = count-cons (λ k. x == k) a (range_with_len (a + 1) n) in
    elim (cases_eq x a) [
      | inl same ↦
          let rest = count-behind x (a + 1) n (omega arith) in
          let here = one-less (x == a) true (λ is. refl) in
          omega (arith, more, rest, here)
      | inr other ↦
          let here = ap {B = ℕ} (λ (b : Bool). cond b 1 0) (differ-is x a other) in
          let rest = count-one x (a + 1) n in
          omega (arith, here, rest, more)
    ]

-- ---- buffers of one file

-- whether a buffer holds a block of this file
abbrev pub holds_file : ℕ → Option Block → Bool
holds_file f None = false
holds_file f (Some block) = block.file.0 == f

-- whether some buffer holds this block
abbrev pub is_held : List (Option Block) → ℕ → ℕ → Bool
is_held blocks f k = list_any (holds_block (record { 0 = f }) k) blocks

-- a block that none holds has no node
pub not-held : (blocks : List (Option Block)) (f : FileNode) (k i : ℕ) → is_held blocks f.0 k ≡ false → position_from (holds_block f k) i blocks ≡ None
not-held [] f k i none = refl
not-held (block ∷ blocks) f k i none =
    (elim (holds_block f k block) as (λ b. (b || is_held blocks f.0 k) ≡ false → cond b (Some i) (position_from (holds_block f k) (i + 1) blocks) ≡ None) [
      | true ↦ λ is. absurd (false≢true (sym is))
      | false ↦ λ is. not-held blocks f k (i + 1) is
    ]) none

both-same : (a b : Bool) → (a && b) ≡ true → b ≡ true
both-same true b is = is
both-same false b is = absurd (false≢true is)

first-false : (a b : Bool) → a ≡ false → (a && b) ≡ false
first-false true b is = absurd (false≢true (sym is))
first-false false b is = refl

one-block : (f : ℕ) (block : Option Block) (n : ℕ) → count_by (λ k. holds_block (record { 0 = f }) k block) (range_with_len 0 n) ≤ cond (holds_file f block) 1 0
one-block f None n = let none = count-none 0 n in omega (arith, none)
one-block f (Some block) n =
    (elim (block.file.0 == f) as (λ b. (block.file.0 == f) ≡ b → count_by (λ k. holds_block (record { 0 = f }) k (Some block)) (range_with_len 0 n) ≤ cond b 1 0) [
      | true ↦ λ is.
          let less = count-less (λ k. holds_block (record { 0 = f }) k (Some block)) (λ k. block.index == k) 0 n (λ k low high. both-same (block.file.0 == f) (block.index == k)) in
          let one = count-one block.index 0 n in
          omega (arith, less, one)
      | false ↦ λ is.
          let less = count-less (λ k. holds_block (record { 0 = f }) k (Some block)) (λ k. false) 0 n (λ k low high so. sym (first-false (block.file.0 == f) (block.index == k) is) ∙ so) in
          let none = count-none 0 n in
          omega (arith, less, none)
    ]) refl

-- as many blocks of a file are held as buffers hold blocks of it
pub held-count : (blocks : List (Option Block)) (f n : ℕ) → count_by (λ k. is_held blocks f k) (range_with_len 0 n) ≤ count_by (holds_file f) blocks
held-count [] f n = let none = count-none 0 n in omega (arith, none)
held-count (block ∷ blocks) f n =
    let both = count-either (λ k. holds_block (record { 0 = f }) k block) (λ k. is_held blocks f k) 0 n in
    let here = one-block f block n in
    let rest = held-count blocks f n in
    let more = count-cons (holds_file f) block blocks in
    omega (arith, both, here, rest, more)

-- ---- those of all files

pub weights-less : (w w' : ℕ → ℕ) (k : ℕ) (listed : List (Option (List Name))) → ((f : ℕ) → w f ≤ w' f) → weights_from w k listed ≤ weights_from w' k listed
weights-less w w' k [] less = omega arith
weights-less w w' k (None ∷ listed) less = weights-less w w' (k + 1) listed less
weights-less w w' k (Some path ∷ listed) less = let here = less k in let rest = weights-less w w' (k + 1) listed less in omega (arith, here, rest)

weights-both : (w w' : ℕ → ℕ) (k : ℕ) (listed : List (Option (List Name))) → weights_from (λ f. w f + w' f) k listed ≡ weights_from w k listed + weights_from w' k listed
weights-both w w' k [] = refl
weights-both w w' k (None ∷ listed) = weights-both w w' (k + 1) listed
weights-both w w' k (Some path ∷ listed) = let rest = weights-both w w' (k + 1) listed in omega (arith, rest)

weights-behind : (x k : ℕ) (listed : List (Option (List Name))) → x < k → weights_from (λ f. cond (x == f) 1 0) k listed ≡ 0
weights-behind x k [] less = refl
weights-behind x k (None ∷ listed) less = weights-behind x (k + 1) listed (omega arith)
weights-behind x k (Some path ∷ listed) less =
    let here = ap {B = ℕ} (λ (b : Bool). cond b 1 0) (differ-is x k (omega arith)) in
    let rest = weights-behind x (k + 1) listed (omega arith) in
    omega (arith, here, rest)

weights-one : (x k : ℕ) (listed : List (Option (List Name))) → weights_from (λ f. cond (x == f) 1 0) k listed ≤ 1
weights-one x k [] = omega arith
weights-one x k (None ∷ listed) = weights-one x (k + 1) listed
weights-one x k (Some path ∷ listed) =
    elim (cases_eq x k) [
      | inl same ↦
          let rest = weights-behind x (k + 1) listed (omega arith) in
          let here = one-less (x == k) true (λ is. refl) in
          omega (arith, rest, here)
      | inr other ↦
          let here = ap {B = ℕ} (λ (b : Bool). cond b 1 0) (differ-is x k other) in
          let rest = weights-one x (k + 1) listed in
          omega (arith, here, rest)
    ]

one-buffer : (block : Option Block) (k : ℕ) (listed : List (Option (List Name))) → weights_from (λ f. cond (holds_file f block) 1 0) k listed ≤ 1
one-buffer None k listed = let none = weightless k listed in omega (arith, none)
one-buffer (Some block) k listed = weights-one block.file.0 k listed

-- the files have no more buffers than there are
pub buffers-count : (blocks : List (Option Block)) (k : ℕ) (listed : List (Option (List Name))) → weights_from (λ f. count_by (holds_file f) blocks) k listed ≤ length blocks
buffers-count [] k listed = let none = weightless k listed in omega (arith, none)
buffers-count (block ∷ blocks) k listed =
    let each = weights-less (λ f. count_by (holds_file f) (block ∷ blocks)) (λ f. cond (holds_file f block) 1 0 + count_by (holds_file f) blocks) k listed
    (λ f. let more = count-cons (holds_file f) block blocks in omega (arith, more)) in
    let both = weights-both (λ f. cond (holds_file f block) 1 0) (λ f. count_by (holds_file f) blocks) k listed in
    let here = one-buffer block k listed in
    let rest = buffers-count blocks k listed in
    omega (arith, each, both, here, rest)
