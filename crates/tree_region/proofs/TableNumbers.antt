-- The numbers in a table are among those of its body.
use Rattle.std.proofs.Common.{ℕ, zero, suc, ◌-◌, ◌*◌, ◌≤◌, inl, inr, List, [], ◌∷◌, length, drop, take, replicate, subst, ◌∙◌, arith, nat_le}
use Rattle.std.proofs.lemmas.Bool.{cases_eq}
use Rattle.std.specs.Prelude.{Contains, slice_index_or}
use Rattle.apex_types.specs.declared.fields.FileEntryField.{FileEntryField}
use Rattle.apex_types.specs.declared.rows.TreeRow.{TreeRow}
use Rattle.apex_model.specs.Files.{blocks_of}
use Rattle.apex_model.specs.Image.{size_of_field}
use Rattle.tree_region.specs.Numbers.{HasNumbers, HasTable, most_blocks, numbers_by_file, numbers_in, rest_of, with_room}
use Rattle.tree_region.specs.declared.table.BlockTable.{BlockTable}
use Rattle.tree_region.proofs.Contained.{none-in, in-either, in-place, in-zeros, all-of, any-in, from-take, from-drop}
use Rattle.tree_region.proofs.Tables.{le-holds, good-numbers}

-- zeros are all that is added
before-room : (room : ℕ) (own : List ℕ) (n : ℕ) → 1 ≤ n → Contains (with_room room own) n → Contains own n
before-room room own n some there = elim (in-either own (replicate (room - length own) 0) n there) [
  | inl its ↦ its
  | inr zeros ↦ absurd (let none = in-zeros (room - length own) n zeros in omega (arith, none, some))
]

of-body : (room : ℕ) (fields : List FileEntryField) (numbers : List ℕ) (f n : ℕ) → 1 ≤ n → Contains (slice_index_or (numbers_by_file room fields numbers) f []) n → Contains numbers n
unfolding numbers_by_file
of-body room [] numbers zero n some there = absurd (none-in n there)
of-body room [] numbers (suc f) n some there = absurd (none-in n there)
of-body room (field ∷ fields) numbers zero n some there =
    from-take (blocks_of (size_of_field field)) numbers n (before-room room (take (blocks_of (size_of_field field)) numbers) n some there)
of-body room (field ∷ fields) numbers (suc f) n some there =
    from-drop (blocks_of (size_of_field field)) numbers n (of-body room fields (drop (blocks_of (size_of_field field)) numbers) f n some there)

module _ (version : ℕ) (row : TreeRow) (body : List ℕ) (table : BlockTable) (has : HasTable version row body table) where
  abbrev at : ℕ → ℕ → ℕ
  at f k = slice_index_or (slice_index_or table.files.items f []) k 0

  among : (f k : ℕ) → 1 ≤ at f k → Contains (numbers_in row body) (at f k)
  among f k some =
      of-body (most_blocks row) has.fields (numbers_in row body) f (at f k) some
      (subst (λ (lists : List (List ℕ)). Contains (slice_index_or lists f []) (at f k)) has.files (in-place (slice_index_or table.files.items f []) k some))

  within : (f k : ℕ) → at f k ≤ 2 * row.quota
  within f k = elim (cases_eq (at f k) 0) [
    | inl none ↦ omega (arith, none)
    | inr some ↦
        le-holds (at f k) (2 * row.quota)
        (all-of (λ n. nat_le n (2 * row.quota)) (numbers_in row body) (at f k) (good-numbers row has.fields (numbers_in row body) (rest_of row body) has.good) (among f k (omega (arith, some))))
  ]

  pub table-numbers : HasNumbers row table
  table-numbers = record {
    marks = has.used.long;
    within = within;
    numbers = λ f k some. has.used.named (at f k) some (within f k) ∙ any-in (numbers_in row body) (at f k) (among f k some);
  }
