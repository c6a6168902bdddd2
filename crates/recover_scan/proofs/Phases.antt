-- A format as three phases: the gate is closed, all else is written behind it, and the gate is opened.
use Rattle.std.proofs.Common.{◌≡◌, inl, inr, ⊎_elim, ℕ, ◌*◌, ◌≤◌, List, length, slice_index, sym, ◌∙◌, ap, subst, arith}
use Rattle.rig_core.specs.Outside.{Outside, AllNow, Sound}
use Rattle.rig_core.specs.Leaves.{Leaves, FromNow, IsAllSettled}
use Rattle.rig_core.proofs.Moments.{leaves_weaker}
use Rattle.apex_types.specs.Rows.{Rows}
use Rattle.apex_model.specs.Accepted.{IsAccepted}
use Rattle.apex_model.specs.Layout.{layout_blocks}
use Rattle.image_laws.specs.EmptyImage.{IsClosedAt, IsEmptyImage}
use Rattle.image_laws.proofs.EmptyImages.{closed_image, empty_image}
use Rattle.recover_scan.specs.Format.{ChangesOnly, IsFormatted, OldOrFormatted}
use Rattle.recover_scan.proofs.Gate.{OldOrClosed, ClosedOrEmpty}

-- the images that a cut leaves are as long as the disk
leaves_long : (V K : Type 0) (P : List ℕ → Type 0) (o e : Outside) → Sound V K e → Leaves P o e → Leaves (λ image. P image × (length image ≡ e.size)) o e
leaves_long V K P o e sound run = record {
  told = run.told;
  clock = run.clock;
  each = λ image told left. (run.each image told left, sound.image_fills o.clock image told left);
  before = λ t image told le left. ⊎_elim (λ was. inl was) (λ has. inr ((has.0, sound.image_fills t image told left), has.1)) (run.before t image told le left);
}

module _ (V K : Type 0) (table : Rows) (accepted : IsAccepted table) (old : List ℕ) where
  -- an image with a closed gate is not formatted
  pub when_closed : (image : List ℕ) → 512 * layout_blocks table ≤ length image → IsClosedAt 0 image → OldOrFormatted table old image
  when_closed image long shut = inr (inl (closed_image table image long shut))

  pub when_empty : (image : List ℕ) → IsEmptyImage table image → IsFormatted table image
  when_empty image empty = empty_image table image accepted empty

  pub first_phase : (o m : Outside) → Sound V K m → 512 * layout_blocks table ≤ m.size → Leaves (OldOrClosed old) o m → Leaves (OldOrFormatted table old) o m
  first_phase o m sound fits run = leaves_weaker (λ image. OldOrClosed old image × (length image ≡ m.size)) (OldOrFormatted table old) o m
      (λ image has. ⊎_elim (λ same. inl same) (λ shut. when_closed image (omega (arith, fits, has.1)) shut) has.0)
      (leaves_long V K (OldOrClosed old) o m sound run)

  pub second_phase : (n : ℕ) (m e : Outside) → Sound V K m → Sound V K e → 512 * layout_blocks table ≤ e.size → IsAllSettled m → (V → IsClosedAt 0 m.view) → ChangesOnly V 512 n m e → Leaves (OldOrFormatted table old) m e
  second_phase n m e before after fits settled shut run = leaves_weaker (λ image. FromNow 512 n m image × (length image ≡ e.size)) (OldOrFormatted table old) m e
      (λ image has. let from = has.0 in
      let tells : V = before.shown m.clock from.0 from.1 from.2 in
      let is : slice_index image 0 ≡ slice_index m.view 0 = from.3.below 0 (omega arith) ∙ ap (λ (i : List ℕ). slice_index i 0) (settled from.0 from.1 from.2) in
      when_closed image (omega (arith, fits, has.1)) (λ opened. shut tells (sym is ∙ opened)))
      (leaves_long V K (FromNow 512 n m) m e after run.cuts)

  pub third_phase : (e f : Outside) → Sound V K f → 512 * layout_blocks table ≤ f.size → Leaves (ClosedOrEmpty table) e f → Leaves (OldOrFormatted table old) e f
  third_phase e f sound fits run = leaves_weaker (λ image. ClosedOrEmpty table image × (length image ≡ f.size)) (OldOrFormatted table old) e f
      (λ image has. ⊎_elim (λ shut. when_closed image (omega (arith, fits, has.1)) shut) (λ empty. inr (inr (when_empty image empty))) has.0)
      (leaves_long V K (ClosedOrEmpty table) e f sound run)

  -- from the last sync on
  pub is_formatted : (f : Outside) → Sound V K f → IsAllSettled f → (V → IsEmptyImage table f.view) → AllNow (IsFormatted table) f
  is_formatted f sound settled empty image told now = subst (IsFormatted table) (sym (settled image told now)) (when_empty f.view (empty (sound.shown f.clock image told now)))
