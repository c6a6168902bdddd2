-- The blocks that the files of a tree are charged for, and how many they may be charged for together.
use Rattle.std.specs.Prelude.{ℕ, List, max, sum_by, slice_set, slice_index_or}

-- the charge of each file, by the number of its entry, and the quota of them all
pub record ChargesValue : Type 0 where
  pub by_file : List ℕ
  pub quota : ℕ

-- the blocks that a file is charged for
abbrev pub charge_of : ChargesValue → ℕ → ℕ
charge_of v f = slice_index_or v.by_file f 0

-- the blocks of all files together
abbrev pub total : ChargesValue → ℕ
total v = sum_by (λ blocks. blocks) v.by_file

-- with other blocks charged for a file
abbrev pub with_charge : ChargesValue → ℕ → ℕ → ChargesValue
with_charge v f blocks = record { by_file = slice_set v.by_file f blocks; quota = v.quota }

-- with at least so many blocks charged for a file
abbrev pub raised_to : ChargesValue → ℕ → ℕ → ChargesValue
raised_to v f blocks = with_charge v f (max (charge_of v f) blocks)
