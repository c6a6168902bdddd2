-- A block of a file finds room for a data block of its own.
use Rattle.std.proofs.Common.{◌≡◌, ℕ, ◌+◌, ◌*◌, ◌<◌, false, List, [], length, ap, inl, inr, arith}
use Rattle.std.specs.Prelude.{slice_index_or}
use Rattle.std.proofs.lemmas.Bool.{cases_lt}
use Rattle.std.proofs.lemmas.List.{get_or_past}
use Rattle.apex_types.specs.declared.rows.TreeRow.{TreeRow}
use Rattle.apex_model.specs.Files.{blocks_of}
use Rattle.block_pool.specs.Buffers.{Buffers}
use Rattle.block_quota.specs.Quota.{ChargesValue}
use Rattle.file_tree.specs.Entries.{TreeValue}
use Rattle.tree_region.specs.OwnedRows.{fresh_count, is_fresh, named_count, number_at}
use Rattle.tree_region.proofs.Charges.{AreBelow, room-where_charged}
use Rattle.present_files.specs.Present.{ArePresent, size_in}
use Rattle.present_files.specs.declared.present.PresentSize.{PresentSize}
use Rattle.tree_region.specs.GoodNumbers.{size_blocks}
use Rattle.tree_state.specs.Numbers.{AreZeroBehind}
use Rattle.tree_state.specs.State.{AreCharged}

module _ (row : TreeRow) (v : TreeValue) (sizes : List PresentSize) (charges : ChargesValue) (charged : AreCharged row v sizes charges) where
  -- the durable numbers stand below the charges
  durable-below : (durable : List (List ℕ)) → AreZeroBehind v durable → AreBelow charges.by_file durable
  durable-below durable zeros f k some =
      elim (cases_lt k (size_blocks v f)) [
        | inl less ↦ let most = charged.durable f in omega (arith, less, most)
        | inr far ↦ absurd (let none = zeros f k far in omega (arith, none, some))
      ]

  -- and so do the present ones
  present-below : (present : List (List ℕ)) (b : Buffers) → ArePresent row sizes present b → AreBelow charges.by_file present
  present-below present b are f k some =
      elim (cases_lt f row.files) [
        | inr past ↦ absurd (
            let none : number_at present f k ≡ 0 = ap (λ (ns : List ℕ). slice_index_or ns k 0) (get_or_past present f [] (omega (arith, past, are.numbers_length))) in
            omega (arith, none, some))
        | inl file ↦ elim (cases_lt k (blocks_of (size_in sizes f))) [
          | inl less ↦ let most = charged.present f in omega (arith, less, most)
          | inr far ↦ absurd (let none = are.behind f k file far in omega (arith, none, some))
        ]
      ]

  -- so a free block is there for a block that has none of its own
  pub room-there : (durable present : List (List ℕ)) (b : Buffers) → length durable ≡ row.files → AreZeroBehind v durable → ArePresent row sizes present b
      → (f k : ℕ) → k < blocks_of (size_in sizes f) → is_fresh durable present f k ≡ false → named_count durable + fresh_count durable present < 2 * row.quota
  room-there durable present b files zeros are f k low old =
      let most = charged.present f in
      room-where_charged durable present charges.by_file row.quota (omega (arith, files, charged.files)) (omega (arith, are.numbers_length, charged.files)) (durable-below durable zeros)
      (present-below present b are) charged.total_within f k (omega (arith, low, most)) old
