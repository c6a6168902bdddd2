-- Buffers that are written back one after the other.
use Rattle.std.proofs.Common.{◌≡◌, ℕ, ◌+◌, ◌*◌, ◌≤◌, List, length, refl, ◌∙◌, arith}
use Rattle.apex_types.specs.declared.rows.TreeRow.{TreeRow}
use Rattle.apex_model.specs.Image.{tree_of_region}
use Rattle.block_pool.proofs.Counts.{part_le}
use Rattle.present_files.specs.Present.{free_buffers}
use Rattle.rig_core.specs.Leaves.{FromNow}
use Rattle.rig_core.specs.Outside.{Outside, MakesAtMost, Sound}
use Rattle.rig_core.proofs.Moments.{elsewhere_after, elsewhere_same, elsewhere_then, leaves_both, leaves_none, leaves_then, leaves_weaker}
use Rattle.tree_region.specs.InStep.{slots_long}
use Rattle.tree_region.specs.Region.{region_at}
use Rattle.tree_state.specs.State.{IsState}
use Rattle.tree_state.specs.declared.state.TreeState.{TreeState}
use Rattle.tree_state.specs.Writes.{MakesPaid, WritesBack}

-- no more buffers are free than there are
pub free-within : (V : Type 0) (row : TreeRow) (at : ℕ) (o : Outside) (s : TreeState) → IsState V row at o s → free_buffers s.present ≤ row.dirty
free-within V row at o s is =
    let most = part_le (λ (xs : List ℕ). length xs) s.present.pool.lists 0 (omega (arith, is.present.lists)) in
    omega (arith, most, is.buffers)

-- nothing was done
pub writes-none : (V : Type 0) (row : TreeRow) (at : ℕ) (o : Outside) (s : TreeState) → IsState V row at o s → WritesBack V row at o o s s
writes-none V row at o s is = record {
  any_moment = leaves_none (λ image. tree_of_region row (region_at row at image) ≡ tree_of_region row (region_at row at o.view)) o is.in_step.same_tree;
  tree = λ tells. refl;
  state = is;
  kept = record { slots = refl; version = refl; journal = refl; tree = refl; files = refl; marks = refl };
  files = record { tree = refl; sizes = refl; charges = refl };
  durable = λ tells. refl;
  contents = λ tells f. refl;
  fewer = λ f. omega arith;
  more = omega arith;
  outside = leaves_none (FromNow (at + slots_long row) (1024 * row.quota) o) o (λ image told now. (image, told, now, elsewhere_same (at + slots_long row) (1024 * row.quota) image));
  outside_view = λ tells. elsewhere_same (at + slots_long row) (1024 * row.quota) o.view;
  later = record { size = refl; clock = omega arith; read_faults = omega arith; write_faults = omega arith; tell_faults = omega arith };
  made = record { writes = omega arith; syncs = omega arith; tells = omega arith };
}

-- no write, no buffer
pub paid-none : (o : Outside) (s : TreeState) → MakesPaid o o s s
paid-none o s = record { writes = omega arith; syncs = omega arith; tells = omega arith }

-- one after the other
module _ (V K : Type 0) (row : TreeRow) (at : ℕ) (o m e : Outside) (a b c : TreeState) (sound : Sound V K m) (first : WritesBack V row at o m a b) (paid : MakesPaid o m a b) (second : WritesBack V row at m e b c) where
  abbrev HasTree : Outside → List ℕ → Type 0
  HasTree then image = tree_of_region row (region_at row at image) ≡ tree_of_region row (region_at row at then.view)

  abbrev IsNear : List ℕ → Type 0
  IsNear image = FromNow (at + slots_long row) (1024 * row.quota) m image

  pub writes-then : WritesBack V row at o e a c
  writes-then =
      let most = free-within V row at m b first.state in
      record {
        any_moment = leaves_then (HasTree o) o m e first.any_moment
            (leaves_weaker (λ image. HasTree m image × IsNear image) (HasTree o) m e
            (λ image both. both.0 ∙ first.tree (sound.shown m.clock both.1.0 both.1.1 both.1.2))
            (leaves_both (HasTree m) IsNear m e second.any_moment second.outside));
        tree = λ tells. second.tree tells ∙ first.tree tells;
        state = second.state;
        kept = record {
          slots = second.kept.slots ∙ first.kept.slots;
          version = second.kept.version ∙ first.kept.version;
          journal = second.kept.journal ∙ first.kept.journal;
          tree = second.kept.tree ∙ first.kept.tree;
          files = second.kept.files ∙ first.kept.files;
          marks = second.kept.marks ∙ first.kept.marks;
        };
        files = record {
          tree = second.files.tree ∙ first.files.tree;
          sizes = second.files.sizes ∙ first.files.sizes;
          charges = second.files.charges ∙ first.files.charges;
        };
        durable = λ tells. second.durable tells ∙ first.durable tells;
        contents = λ tells f. second.contents tells f ∙ first.contents tells f;
        fewer = λ f. omega (arith, first.fewer f, second.fewer f);
        more = omega (arith, first.more, second.more);
        outside = elsewhere_after (at + slots_long row) (1024 * row.quota) o m e sound first.outside second.outside;
        outside_view = λ tells. elsewhere_then (at + slots_long row) (1024 * row.quota) o.view m.view e.view (first.outside_view tells) (second.outside_view tells);
        later = record {
          size = second.later.size ∙ first.later.size;
          clock = omega (arith, first.later.clock, second.later.clock);
          read_faults = omega (arith, first.later.read_faults, second.later.read_faults);
          write_faults = omega (arith, first.later.write_faults, second.later.write_faults);
          tell_faults = omega (arith, first.later.tell_faults, second.later.tell_faults);
        };
        made = record {
          writes = omega (arith, most, first.more, paid.writes, second.made.writes);
          syncs = omega (arith, paid.syncs, second.made.syncs);
          tells = omega (arith, paid.tells, second.made.tells);
        };
      }

  pub paid-then : MakesPaid m e b c → MakesPaid o e a c
  paid-then next = record {
    writes = omega (arith, first.more, second.more, paid.writes, next.writes);
    syncs = omega (arith, paid.syncs, next.syncs);
    tells = omega (arith, paid.tells, next.tells);
  }

-- one write for one buffer
pub paid-one : (m e : Outside) (b c : TreeState) → free_buffers c.present ≡ free_buffers b.present + 1 → MakesAtMost 1 0 0 m e → MakesPaid m e b c
paid-one m e b c one made = record { writes = omega (arith, one, made.writes); syncs = made.syncs; tells = made.tells }
