-- What stays durable and which contents change, from one call to the next.
use Rattle.std.proofs.Common.{◌≡◌, ℕ, ◌+◌, ◌*◌, List, refl, sym, ap, subst, ◌∙◌, arith}
use Rattle.std.specs.Prelude.{slice_set}
use Rattle.apex_types.specs.declared.numbers.FileNode.{FileNode}
use Rattle.apex_types.specs.declared.rows.TreeRow.{TreeRow}
use Rattle.apex_model.specs.Files.{Content, blocks_of}
use Rattle.apex_model.specs.Image.{tree_of_region}
use Rattle.block_quota.specs.Quota.{ChargesValue, raised_to}
use Rattle.present_files.specs.Present.{changes_in, changes_of}
use Rattle.rig_core.specs.Bytes.{SameElsewhere}
use Rattle.rig_core.specs.Leaves.{FromNow, Leaves}
use Rattle.rig_core.specs.Outside.{Outside, OnlyReads, Sound}
use Rattle.rig_core.proofs.Moments.{elsewhere_same, leaves_none, leaves_now, leaves_same, leaves_then}
use Rattle.tree_region.specs.InStep.{data_at, slots_long}
use Rattle.tree_region.specs.Region.{region_at, tree_over}
use Rattle.tree_region.specs.declared.region.TreeRegion.{TreeRegion}
use Rattle.tree_state.specs.State.{IsState}
use Rattle.tree_state.specs.Stored.{KeepsFiles, SameContents}
use Rattle.tree_state.specs.declared.state.TreeState.{TreeState}
use Rattle.present_files.specs.Durable.{KeepsDurable}
use Rattle.tree_state.specs.Changes.{IsChanged, IsUnchanged, StaysDurable}
use Rattle.tree_state.specs.ContentRefusals.{MayHave}

-- ---- what is durable

module _ (V K : Type 0) (row : TreeRow) (at : ℕ) (o : Outside) (s : TreeState) where
  -- before the first call
  pub stays-none : IsState V row at o s → StaysDurable V row at o o s s
  stays-none is = record {
    any_moment = leaves_none (λ image. tree_of_region row (region_at row at image) ≡ tree_of_region row (region_at row at o.view)) o is.in_step.same_tree;
    state = is;
    durable = λ shown. refl;
    kept = record { slots = refl; version = refl; journal = refl; tree = refl; files = refl; marks = refl };
    outside = leaves_none (FromNow (at + slots_long row) (1024 * row.quota) o) o (λ image told now. (image, told, now, elsewhere_same (at + slots_long row) (1024 * row.quota) image));
    outside_view = λ shown. elsewhere_same (at + slots_long row) (1024 * row.quota) o.view;
    later = record { size = refl; clock = omega arith; read_faults = omega arith; write_faults = omega arith; tell_faults = omega arith };
    made = record { writes = omega arith; syncs = omega arith; tells = omega arith };
  }

  -- reads behind other calls
  module _ (m e : Outside) (mid new : TreeState) (sound : Sound V K m) (reads : OnlyReads V m e) where
    leaves-reads : (P : List ℕ → Type 0) → Leaves P o m → Leaves P o e
    leaves-reads P run = leaves_then P o m e run (leaves_same P m e reads.later.clock reads.told reads.cuts (leaves_now {V = V} {K = K} P o m sound run))

    pub stays-then-reads : StaysDurable V row at o m s mid → IsState V row at e new → new.kept ≡ mid.kept → StaysDurable V row at o e s new
    stays-then-reads before is kept = record {
      any_moment = leaves-reads (λ image. tree_of_region row (region_at row at image) ≡ tree_of_region row (region_at row at o.view)) before.any_moment;
      state = is;
      durable = λ shown. (λ i. tree_over (data_at row at (reads.view shown i)) (kept i).tree (kept i).table.files.items) ∙ before.durable shown;
      kept = subst (λ (k : TreeRegion). KeepsDurable s.kept k) (sym kept) before.kept;
      outside = leaves-reads (FromNow (at + slots_long row) (1024 * row.quota) o) before.outside;
      outside_view = λ shown. subst (λ (view : List ℕ). SameElsewhere (at + slots_long row) (1024 * row.quota) o.view view) (sym (reads.view shown)) (before.outside_view shown);
      later = record {
        size = reads.later.size ∙ before.later.size;
        clock = omega (arith, before.later.clock, reads.later.clock);
        read_faults = omega (arith, before.later.read_faults, reads.later.read_faults);
        write_faults = omega (arith, before.later.write_faults, reads.later.write_faults);
        tell_faults = omega (arith, before.later.tell_faults, reads.later.tell_faults);
      };
      made = record {
        writes = omega (arith, before.made.writes, reads.made.writes);
        syncs = omega (arith, before.made.syncs, reads.made.syncs);
        tells = omega (arith, before.made.tells, reads.made.tells);
      };
    }

-- ---- contents

-- nothing speaks against a content still, where sizes and charges are as before
pub may-still : (s t : TreeState) → KeepsFiles s t → (f : FileNode) (size known : ℕ) → known ≡ size → MayHave s.charges f.0 (changes_of s.present f) size → MayHave t.charges f.0 (changes_of t.present f) known
may-still s t keeps f size known same may =
    let was = sym keeps.sizes in
    subst (λ (n : ℕ). MayHave t.charges f.0 (changes_of t.present f) n) (sym same)
    (subst (λ (c : ChargesValue). MayHave c f.0 (changes_of t.present f) size) (sym keeps.charges)
    (subst (λ (n : ℕ). MayHave s.charges f.0 n size) (λ i. changes_in (was i).items f.0) may))

module _ (V : Type 0) (row : TreeRow) (at : ℕ) (a b c : List ℕ) (s t new : TreeState) (keeps : KeepsFiles s t) (contents : V → SameContents row at a b s t) where
  -- a change behind calls that changed no content
  pub changed-after : (f : FileNode) (change : Content → Content) (size known : ℕ) → known ≡ size → IsChanged V row at b c f change known t new → IsChanged V row at a c f change size s new
  changed-after f change size known same is = record {
    content = λ shown. is.content shown ∙ ap change (contents shown f);
    others = λ shown g other. is.others shown g other ∙ contents shown g;
    sizes = is.sizes ∙ (λ i. slice_set (keeps.sizes i).items f.0 (record { size = same i; changes = changes_in (keeps.sizes i).items f.0 + 1 }));
    charges = is.charges ∙ (λ i. raised_to (keeps.charges i) f.0 (blocks_of (same i)));
  }

  pub unchanged-after : IsUnchanged V row at b c t new → IsUnchanged V row at a c s new
  unchanged-after is = record {
    contents = λ shown f. is.contents shown f ∙ contents shown f;
    files = record { tree = is.files.tree ∙ keeps.tree; sizes = is.files.sizes ∙ keeps.sizes; charges = is.files.charges ∙ keeps.charges };
  }
