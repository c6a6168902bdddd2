-- The block numbers of files, a row for each file, as they are durable and as they are at present.
use Rattle.std.specs.Prelude.{◌≡◌, ◌≢◌, ℕ, ◌≤◌, ◌==◌, ◌&&◌, not, Bool, true, List, [], length, slice_index_or, slice_set, sum_by}
use Rattle.std.specs.List.{count_by, range_with_len}
use Rattle.block_quota.specs.Blocks.{is_used}

-- the number at a place of a file; 0 behind its row, and where it has none
abbrev pub number_at : List (List ℕ) → ℕ → ℕ → ℕ
number_at rows f k = slice_index_or (slice_index_or rows f []) k 0

-- how many numbers of a row are those of blocks: all but 0
unfoldable pub named_in : List ℕ → ℕ
named_in row = count_by (λ n. not (n == 0)) row

-- how many they are in all rows together
unfoldable pub named_count : List (List ℕ) → ℕ
named_count rows = sum_by named_in rows

-- whether a present number is that of a block, and another one than the durable number at its place
abbrev pub is_new : ℕ → ℕ → Bool
is_new durable present = not (present == 0) && not (present == durable)

-- whether a place of a file is fresh: its present block is another one than the durable one
abbrev pub is_fresh : List (List ℕ) → List (List ℕ) → ℕ → ℕ → Bool
is_fresh durable present f k = is_new (number_at durable f k) (number_at present f k)

-- how many of the first places of a file are fresh, by its durable and its present row
unfoldable pub fresh_before : List ℕ → List ℕ → ℕ → ℕ
fresh_before durable present count = count_by (λ k. is_new (slice_index_or durable k 0) (slice_index_or present k 0)) (range_with_len 0 count)

-- how many places of the first files are fresh
unfoldable pub fresh_in_files : List (List ℕ) → List (List ℕ) → ℕ → ℕ
fresh_in_files durable present count =
    sum_by (λ f. fresh_before (slice_index_or durable f []) (slice_index_or present f []) (length (slice_index_or present f []))) (range_with_len 0 count)

-- how many places of all files are fresh
abbrev pub fresh_count : List (List ℕ) → List (List ℕ) → ℕ
fresh_count durable present = fresh_in_files durable present (length present)

-- Each number of the rows but 0 is that of a used block.
pub record AreNamedUsed (used : List Bool) (rows : List (List ℕ)) : Type 0 where
  pub within : (f k : ℕ) → number_at rows f k ≤ length used
  pub named : (f k : ℕ) → 1 ≤ number_at rows f k → is_used used (number_at rows f k) ≡ true

-- none of the numbers is this one
abbrev pub AreOthers : ℕ → List (List ℕ) → Type 0
AreOthers number rows = (f k : ℕ) → number_at rows f k ≢ number

-- with another number at a place of a file
abbrev pub with_number : List (List ℕ) → ℕ → ℕ → ℕ → List (List ℕ)
with_number rows f k number = slice_set rows f (slice_set (slice_index_or rows f []) k number)

-- The block of a fresh place is its own: no durable content has it, and no other place of the present one.
pub record AreApart (durable present : List (List ℕ)) : Type 0 where
  pub not_durable : (f k : ℕ) → is_fresh durable present f k ≡ true → AreOthers (number_at present f k) durable
  pub once : (f k g j : ℕ) → is_fresh durable present f k ≡ true → number_at present g j ≡ number_at present f k → (g ≡ f) × (j ≡ k)
