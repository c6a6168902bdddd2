-- The blocks of a tree: whether each is used, by its number less one.
use Rattle.std.specs.Prelude.{◌≡◌, ℕ, ◌-◌, ◌<◌, ◌≤◌, Bool, true, false, List, length, Option, Some, None, slice_set, slice_index_or}

-- whether a block is used
abbrev pub is_used : List Bool → ℕ → Bool
is_used used block = slice_index_or used (block - 1) false

-- with a block used, or free
abbrev pub with_mark : List Bool → ℕ → Bool → List Bool
with_mark used block mark = slice_set used (block - 1) mark

-- all blocks whose places are before this one are used
abbrev pub AllUsedBefore : List Bool → ℕ → Type 0
AllUsedBefore used place = (k : ℕ) → k < place → slice_index_or used k false ≡ true

-- the place of the first free block; none where all are used
abbrev pub IsFirstFree : List Bool → Option ℕ → Type 0
IsFirstFree used None = AllUsedBefore used (length used)
IsFirstFree used (Some place) = (place < length used) × (slice_index_or used place false ≡ false) × AllUsedBefore used place

-- the least number of a free block; none where all are used
abbrev pub IsLeastFree : List Bool → Option ℕ → Type 0
IsLeastFree used None = (block : ℕ) → 1 ≤ block → block ≤ length used → is_used used block ≡ true
IsLeastFree used (Some free) =
    (1 ≤ free) × (free ≤ length used) × (is_used used free ≡ false) × ((block : ℕ) → 1 ≤ block → block < free → is_used used block ≡ true)
