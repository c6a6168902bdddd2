-- A region that is in step with what is kept of it stays so while only reads are made.
use Rattle.std.proofs.Common.{◌≡◌, ℕ, List, sym, subst}
use Rattle.apex_types.specs.declared.rows.TreeRow.{TreeRow}
use Rattle.apex_model.specs.Image.{tree_of_region}
use Rattle.rig_core.specs.Bytes.{SameWithin}
use Rattle.rig_core.specs.Outside.{Outside, AllNow, Sound, OnlyReads}
use Rattle.rig_core.proofs.Moments.{now_none}
use Rattle.tree_region.specs.InStep.{InStep, SameNamed, data_at, slots_long}
use Rattle.tree_region.specs.Region.{StandsFor, region_at}
use Rattle.tree_region.specs.declared.region.TreeRegion.{TreeRegion}

module _ (V K : Type 0) (o e : Outside) (sound : Sound V K e) (reads : OnlyReads V o e) where
  -- what joins the view with each image that a cut may leave now
  pub all-after-reads : (P : List ℕ → List ℕ → Type 0) → AllNow (λ image. P o.view image) o → AllNow (λ image. P e.view image) e
  all-after-reads P all image told now =
      subst (λ (view : List ℕ). P view image) (sym (reads.view (sound.shown e.clock image told now))) (all image told (now_none o e sound reads.later.clock reads.cuts image told now))

  pub step-after-reads : (row : TreeRow) (at : ℕ) (kept : TreeRegion) → InStep V row at o kept → InStep V row at e kept
  step-after-reads row at kept step = record {
    within = step.within;
    limits = step.limits;
    numbers = step.numbers;
    good = step.good;
    stands = λ shown. subst (λ (view : List ℕ). StandsFor row at view kept) (sym (reads.view shown)) (step.stands shown);
    settled = all-after-reads (λ view image. SameWithin at (slots_long row) view image) step.settled;
    named = all-after-reads (λ view image. SameNamed kept.table.files.items (data_at row at view) (data_at row at image)) step.named;
    same_tree = all-after-reads (λ view image. tree_of_region row (region_at row at image) ≡ tree_of_region row (region_at row at view)) step.same_tree;
  }
