-- What marking the blocks of numbers does to the marks, and how many more are used then.
use Rattle.std.specs.Prelude.{◌≡◌, ℕ, ◌+◌, ◌<◌, ◌≤◌, ◌⊎◌, Bool, true, false, List, length, slice_index_or}
use Rattle.std.specs.List.{count_by}
use Rattle.block_quota.specs.Blocks.{is_used}
use Rattle.tree_region.specs.OwnedRows.{number_at, fresh_before, fresh_in_files}

-- how many blocks are used
unfoldable pub count_used : List Bool → ℕ
count_used used = count_by (λ b. b) used

-- There are as many blocks, and those that were used are used.
pub record KeepsUsed (old new : List Bool) : Type 0 where
  pub long : length new ≡ length old
  pub stays : (n : ℕ) → is_used old n ≡ true → is_used new n ≡ true

-- the blocks of a row's numbers are used
abbrev pub IsRowUsed : List Bool → List ℕ → Type 0
IsRowUsed used row = (k : ℕ) → 1 ≤ slice_index_or row k 0 → is_used used (slice_index_or row k 0) ≡ true

-- the blocks of all rows' numbers are used
abbrev pub AreRowsUsed : List Bool → List (List ℕ) → Type 0
AreRowsUsed used rows = (f k : ℕ) → 1 ≤ number_at rows f k → is_used used (number_at rows f k) ≡ true

-- The block of a number is used, where it is one. One more is used only where it was free.
pub record IsNumberMarked (number : ℕ) (old new : List Bool) : Type 0 where
  pub keeps : KeepsUsed old new
  pub marked : 1 ≤ number → is_used new number ≡ true
  pub few : (count_used new ≡ count_used old) ⊎ ((1 ≤ number) × (is_used old number ≡ false) × (count_used new ≡ count_used old + 1))

-- The blocks of a row's first numbers are used. Beside a row whose blocks were used, at most its fresh places are more.
pub record IsRowMarked (row : List ℕ) (count : ℕ) (old new : List Bool) : Type 0 where
  pub keeps : KeepsUsed old new
  pub marked : (k : ℕ) → k < count → 1 ≤ slice_index_or row k 0 → is_used new (slice_index_or row k 0) ≡ true
  pub few : (known : List ℕ) → IsRowUsed old known → count_used new ≤ count_used old + fresh_before known row count

-- The same of the first rows, beside rows whose blocks were used.
pub record AreRowsMarked (rows : List (List ℕ)) (count : ℕ) (old new : List Bool) : Type 0 where
  pub keeps : KeepsUsed old new
  pub marked : (f k : ℕ) → f < count → 1 ≤ number_at rows f k → is_used new (number_at rows f k) ≡ true
  pub few : (known : List (List ℕ)) → AreRowsUsed old known → count_used new ≤ count_used old + fresh_in_files known rows count
