-- A region that was mounted on a disk where nothing is pending.
use Rattle.std.proofs.Common.{ℕ, List, [], sym, ap, subst, ◌∙◌}
use Rattle.std.specs.Prelude.{slice_index_or}
use Rattle.apex_types.specs.declared.rows.TreeRow.{TreeRow}
use Rattle.apex_model.specs.Image.{data_block, tree_of_region}
use Rattle.rig_core.specs.Leaves.{IsAllSettled}
use Rattle.rig_core.specs.Outside.{Outside, Sound, OnlyReads}
use Rattle.rig_core.proofs.Moments.{now_none}
use Rattle.rig_core.proofs.Regions.{settled_all}
use Rattle.tree_region.specs.GoodNumbers.{HasGoodNumbers}
use Rattle.tree_region.specs.Numbers.{HasNumbers}
use Rattle.tree_region.specs.Region.{HasLimits, IsWithin, StandsFor, region_at}
use Rattle.tree_region.specs.declared.region.TreeRegion.{TreeRegion}
use Rattle.tree_region.specs.InStep.{InStep, data_at, slots_long}

module _ (V K : Type 0) (row : TreeRow) (at : ℕ) (o e : Outside) (sound : Sound V K e) (reads : OnlyReads V o e) (all : IsAllSettled o) where
  -- nothing is pending after reads
  still : IsAllSettled e
  still image told now =
      let before = now_none o e sound reads.later.clock reads.cuts image told now in
      all image told before ∙ sym (reads.view (sound.shown e.clock image told now))

  pub opened : (kept : TreeRegion) → IsWithin row at kept → HasLimits row kept → HasNumbers row kept.table → HasGoodNumbers row kept.tree kept.table.files.items → (V → StandsFor row at o.view kept) → InStep V row at e kept
  opened kept within limits numbers good stands = record {
    within = within;
    limits = limits;
    numbers = numbers;
    good = good;
    stands = λ shown. subst (λ (view : List ℕ). StandsFor row at view kept) (sym (reads.view shown)) (stands shown);
    settled = settled_all at (slots_long row) e still;
    named = λ image told now f k. ap (λ (i : List ℕ). data_block (data_at row at i) (slice_index_or (slice_index_or kept.table.files.items f []) k 0)) (still image told now);
    same_tree = λ image told now. ap (λ (i : List ℕ). tree_of_region row (region_at row at i)) (still image told now);
  }
