-- The superblock's gate while it is closed and while it is opened.
use Rattle.std.proofs.Common.{◌≡◌, ◌⊎◌, inl, inr, ⊎_elim, ℕ, ◌+◌, ◌*◌, ◌≤◌, List, [], ◌∷◌, length, slice_index, sym, ◌∙◌, ap, subst, arith}
use Rattle.std.proofs.lemmas.Bool.{cases_eq}
use Rattle.std.proofs.lemmas.Grind.{same_number_lists}
use Rattle.rig_core.specs.Bytes.{byte, put, SameElsewhere}
use Rattle.rig_core.specs.Outside.{Outside, Now, Sound, Later, OnlyReads}
use Rattle.rig_core.specs.Leaves.{Leaves, FromNow, LeavesElsewhere, IsAllSettled}
use Rattle.rig_core.proofs.Moments.{leaves_same, leaves_then, leaves_weaker}
use Rattle.rig_core.proofs.Put.{put_within, put_elsewhere}
use Rattle.apex_types.specs.Rows.{Rows}
use Rattle.apex_model.specs.Layout.{layout_blocks, tree_start, logbook_start}
use Rattle.image_laws.specs.EmptyImage.{IsClosedAt, IsOpenAt, IsEmptyImage}
use Rattle.recover_scan.specs.Format.{ChangesOnly, HasEmptyParts}
use Rattle.recover_scan.proofs.Changes.{changes_none, changes_then, changes_sync}
use Rattle.recover_scan.proofs.Fresh.{fresh_tree_empty, fresh_logbook_empty, parts_stay}

-- Closing: an image that is an open one but for its gate is that one, or its gate is closed.
pub open_stays_or_closes : (old image : List ℕ) → IsOpenAt 0 old → SameElsewhere 0 1 old image → (image ≡ old) ⊎ IsClosedAt 0 image
open_stays_or_closes old image opened same = ⊎_elim
    (λ still. inl (same_number_lists image old same.long (λ k low. ⊎_elim
    (λ first. ap (byte image) first ∙ still ∙ sym opened ∙ ap (byte old) (sym first))
    (λ later. same.above k (omega (arith, later)))
    (cases_eq k 0))))
    (λ shut. inr shut)
    (cases_eq (slice_index image 0) 165)

-- a state whose cuts leave its view
abbrev pub OldOrClosed : List ℕ → List ℕ → Type 0
OldOrClosed old image = (image ≡ old) ⊎ IsClosedAt 0 image

-- after a read
pub still_settled : (V K : Type 0) (o m : Outside) → Sound V K o → Sound V K m → OnlyReads V o m → IsAllSettled o → IsAllSettled m
still_settled V K o m before after reads settled image told now =
    let was : Now o image told = reads.cuts o.clock image told (omega arith) (after.from_later o.clock m.clock image told (omega (arith, reads.clock)) now) in
    settled image told was ∙ sym (reads.view (before.shown o.clock image told was))

pub read_leaves : (V : Type 0) (o m : Outside) → OnlyReads V o m → IsAllSettled o → Leaves (OldOrClosed o.view) o m
read_leaves V o m reads settled = leaves_same (OldOrClosed o.view) o m (omega (arith, reads.clock)) reads.told reads.cuts (λ image told now. inl (settled image told now))

-- after a read that found the gate open, the gate is closed
pub closing_leaves : (V K : Type 0) (o m e : Outside) → Sound V K o → Sound V K m → OnlyReads V o m → IsAllSettled o → (V → IsOpenAt 0 o.view) → LeavesElsewhere 0 1 m e → Leaves (OldOrClosed o.view) o e
closing_leaves V K o m e before after reads settled opened run =
    leaves_then (OldOrClosed o.view) o m e (read_leaves V o m reads settled)
    (leaves_weaker (FromNow 0 1 m) (OldOrClosed o.view) m e (λ image from.
    let tells : V = after.shown m.clock from.0 from.1 from.2 in
    let is_view : from.0 ≡ o.view = still_settled V K o m before after reads settled from.0 from.1 from.2 ∙ reads.view tells in
    open_stays_or_closes o.view image (opened tells) (subst (λ f. SameElsewhere 0 1 f image) is_view from.3)) run)

-- a read, and then a call that writes the gate
pub read_changes : (V K : Type 0) (o m : Outside) → Sound V K o → OnlyReads V o m → ChangesOnly V 0 1 o m
read_changes V K o m sound reads = changes_sync V K 0 1 o o m sound (changes_none V 0 1 o) reads.later reads.told reads.view reads.cuts

pub read_and_set : (V K : Type 0) (o m e : Outside) → Sound V K o → Sound V K m → OnlyReads V o m → Later m e → LeavesElsewhere 0 1 m e → (V → SameElsewhere 0 1 m.view e.view) → ChangesOnly V 0 1 o e
read_and_set V K o m e before after reads later cuts view = changes_then V K 0 1 o m e after (read_changes V K o m before reads) (record { later = later; cuts = cuts; view = view })

-- Opening: the empty image is there but for its gate.
pub opens : (table : Rows) (old image : List ℕ) → 512 * layout_blocks table ≤ length old → HasEmptyParts table old → SameElsewhere 0 1 old image → IsOpenAt 0 image → IsEmptyImage table image
opens table old image long before same opened =
    let parts = parts_stay table old image same before in
    record {
      long = omega (arith, long, same.long);
      opened = opened;
      superblock = λ k low. parts.superblock k (omega (arith, low, parts.short));
      trees = λ tree row is. fresh_tree_empty row (512 * tree_start table tree) image (parts.trees tree row is);
      logbooks = λ logbook row is. fresh_logbook_empty row (512 * logbook_start table logbook) image (parts.logbooks logbook row is);
    }

abbrev pub ClosedOrEmpty : Rows → List ℕ → Type 0
ClosedOrEmpty table image = IsClosedAt 0 image ⊎ IsEmptyImage table image

pub closed_or_opens : (table : Rows) (old image : List ℕ) → 512 * layout_blocks table ≤ length old → HasEmptyParts table old → SameElsewhere 0 1 old image → ClosedOrEmpty table image
closed_or_opens table old image long parts same = ⊎_elim
    (λ opened. inr (opens table old image long parts same opened))
    (λ shut. inl shut)
    (cases_eq (slice_index image 0) 165)

pub opening_leaves : (V K : Type 0) (table : Rows) (o e : Outside) → Sound V K o → 512 * layout_blocks table ≤ o.size → IsAllSettled o → (V → HasEmptyParts table o.view) → LeavesElsewhere 0 1 o e → Leaves (ClosedOrEmpty table) o e
opening_leaves V K table o e sound fits settled parts run = leaves_weaker (FromNow 0 1 o) (ClosedOrEmpty table) o e (λ image from.
    let tells : V = sound.shown o.clock from.0 from.1 from.2 in
    let long : 512 * layout_blocks table ≤ length o.view = omega (arith, fits, sound.view_fills tells) in
    closed_or_opens table o.view image long (parts tells) (subst (λ f. SameElsewhere 0 1 f image) (settled from.0 from.1 from.2) from.3)) run

-- the view behind an opened gate
pub opened_view : (table : Rows) (old view : List ℕ) → 512 * layout_blocks table ≤ length old → HasEmptyParts table old → view ≡ put 0 (165 ∷ []) old → IsEmptyImage table view
opened_view table old view long parts is =
    let fits : 0 + length {A = ℕ} (165 ∷ []) ≤ length old = omega (arith, long) in
    let opened : slice_index (put 0 (165 ∷ []) old) 0 ≡ 165 = put_within 0 (165 ∷ []) old fits 0 (omega arith) (omega arith) in
    subst (IsEmptyImage table) (sym is) (opens table old (put 0 (165 ∷ []) old) long parts (put_elsewhere 0 (165 ∷ []) old fits) opened)

pub opened_parts : (table : Rows) (old view : List ℕ) → 1 ≤ length old → HasEmptyParts table old → view ≡ put 0 (165 ∷ []) old → IsOpenAt 0 view × HasEmptyParts table view
opened_parts table old view long parts is =
    let fits : 0 + length {A = ℕ} (165 ∷ []) ≤ length old = omega (arith, long) in
    let opened : slice_index (put 0 (165 ∷ []) old) 0 ≡ 165 = put_within 0 (165 ∷ []) old fits 0 (omega arith) (omega arith) in (
      ap (λ (i : List ℕ). slice_index i 0) is ∙ opened,
      subst (HasEmptyParts table) (sym is) (parts_stay table old (put 0 (165 ∷ []) old) (put_elsewhere 0 (165 ∷ []) old fits) parts),
    )
