-- The durable content of a file is replaced in what is kept, before it becomes the region's content.
use Rattle.std.proofs.Common.{◌≡◌, ℕ, zero, suc, ◌*◌, ◌<◌, ◌≤◌, Bool, true, List, [], ◌∷◌, length, sym, ap, subst, ◌∙◌, Option, arith}
use Rattle.std.specs.Prelude.{IsSome, slice_index_or, slice_set}
use Rattle.std.proofs.lemmas.List.{length-set, get_or-set_same}
use Rattle.apex_types.specs.declared.rows.TreeRow.{TreeRow}
use Rattle.block_quota.specs.Blocks.{is_used}
use Rattle.file_tree.specs.Entries.{slot, with_stored}
use Rattle.rig_core.specs.Outside.{Outside}
use Rattle.tree_region.specs.InStep.{InStep}
use Rattle.tree_region.specs.Ready.{IsReady}
use Rattle.tree_region.specs.Rows.{NameUsed}
use Rattle.tree_region.specs.GoodNumbers.{HasGoodNumbers}
use Rattle.tree_region.specs.Numbers.{HasNumbers, most_blocks}
use Rattle.tree_region.specs.declared.region.TreeRegion.{TreeRegion}
use Rattle.tree_region.specs.declared.table.BlockTable.{BlockTable}

-- an entry in use is one of the entries
used-entry : {A : Type 0} (xs : List (Option A)) (f : ℕ) → IsSome (slot xs f) → f < length xs
used-entry [] f some = absurd cc
used-entry (x ∷ xs) zero some = omega arith
used-entry (x ∷ xs) (suc f) some = let less = used-entry xs f some in omega (arith, less)

-- what holds of each row, and of one more, holds of each once that one is put among them
each-set : (P : List ℕ → Type 0) (rows : List (List ℕ)) (f : ℕ) (one : List ℕ) → P one → ((g : ℕ) → P (slice_index_or rows g [])) → (g : ℕ) → P (slice_index_or (slice_set rows f one) g [])
each-set P [] f one own all g = all g
each-set P (x ∷ rows) zero one own all zero = own
each-set P (x ∷ rows) zero one own all (suc g) = all (suc g)
each-set P (x ∷ rows) (suc f) one own all zero = all zero
each-set P (x ∷ rows) (suc f) one own all (suc g) = each-set P rows f one own (λ h. all (suc h)) g

module _ (V : Type 0) (row : TreeRow) (at : ℕ) (kept : TreeRegion) (o : Outside) (step : InStep V row at o kept) (f : ℕ) (some : IsSome (slot kept.tree.files f)) where
  -- the file is one of the row's
  in-row : f < row.files
  in-row = let less = used-entry kept.tree.files f some in omega (arith, less, step.limits.files)

  -- it has a row of numbers
  pub in-rows : f < length kept.table.files.items
  in-rows = omega (arith, in-row, step.limits.table)

  module _ (size changes : ℕ) (numbers : List ℕ) (good : HasGoodNumbers row (with_stored kept.tree f size changes) (slice_set kept.table.files.items f numbers)) where
    -- with room for as many as are put into it
    pub as-long : length (slice_index_or kept.table.files.items f []) ≡ length numbers
    as-long = step.limits.rooms f in-row ∙ sym (good.rooms f in-row) ∙ ap length (get_or-set_same kept.table.files.items f numbers [] in-rows)

    module _ (named : NameUsed row kept.table.used numbers) (table : BlockTable) (files : table.files.items ≡ slice_set kept.table.files.items f numbers) (used : table.used ≡ kept.table.used) where
      has-numbers : HasNumbers row table
      has-numbers = record {
        marks = ap length used ∙ step.numbers.marks;
        within = λ g. subst (λ (rows : List (List ℕ)). (k : ℕ) → slice_index_or (slice_index_or rows g []) k 0 ≤ 2 * row.quota) (sym files)
            (each-set (λ (list : List ℕ). (k : ℕ) → slice_index_or list k 0 ≤ 2 * row.quota) kept.table.files.items f numbers named.within step.numbers.within g);
        numbers = λ g. subst (λ (marks : List Bool). (k : ℕ) → 1 ≤ slice_index_or (slice_index_or table.files.items g []) k 0 → is_used marks (slice_index_or (slice_index_or table.files.items g []) k 0) ≡ true) (sym used)
            (subst (λ (rows : List (List ℕ)). (k : ℕ) → 1 ≤ slice_index_or (slice_index_or rows g []) k 0 → is_used kept.table.used (slice_index_or (slice_index_or rows g []) k 0) ≡ true) (sym files)
            (each-set (λ (list : List ℕ). (k : ℕ) → 1 ≤ slice_index_or list k 0 → is_used kept.table.used (slice_index_or list k 0) ≡ true) kept.table.files.items f numbers named.marked step.numbers.numbers g));
      }

      -- what is kept with the new content may become the region's content
      pub ready-stored : IsReady V row at o (record { slots = kept.slots; version = kept.version; journal = kept.journal; tree = with_stored kept.tree f size changes; table = table })
      ready-stored = record {
        within = record { place = step.within.place; from = step.within.from; to = step.within.to; few = step.within.few };
        limits = record {
          files = step.limits.files;
          directories = step.limits.directories;
          table = ap length files ∙ length-set kept.table.files.items f numbers ∙ step.limits.table;
          rooms = subst (λ (rows : List (List ℕ)). (g : ℕ) → g < row.files → length (slice_index_or rows g []) ≡ most_blocks row) (sym files) good.rooms;
        };
        numbers = has-numbers;
        good = subst (λ (rows : List (List ℕ)). HasGoodNumbers row (with_stored kept.tree f size changes) rows) (sym files) good;
        slots = λ shown. (step.stands shown).slots;
        settled = step.settled;
        same_tree = step.same_tree;
      }
