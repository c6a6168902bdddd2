-- How changes of ranges follow each other.
use Rattle.std.proofs.Common.{◌≡◌, ℕ, ◌+◌, ◌<◌, ◌≤◌, List, length, slice_index, refl, sym, ◌∙◌, ap, subst, arith}
use Rattle.rig_core.specs.Bytes.{put, SameElsewhere}
use Rattle.rig_core.proofs.Put.{put_within}
use Rattle.rig_core.specs.Outside.{Outside, Sound, Later, AddsNone, Tears}
use Rattle.rig_core.specs.Leaves.{FromNow}
use Rattle.rig_core.proofs.Moments.{elsewhere_same, elsewhere_then, elsewhere_wider, elsewhere_after, leaves_none, leaves_same, leaves_elsewhere_wider, elsewhere_torn}
use Rattle.recover_scan.specs.Format.{ChangesOnly}

pub later_same : (o : Outside) → Later o o
later_same o = record { size = refl; clock = omega arith; read_faults = omega arith; write_faults = omega arith; tell_faults = omega arith }

pub later_then : (o m e : Outside) → Later o m → Later m e → Later o e
later_then o m e first second = record {
  size = second.size ∙ first.size;
  clock = omega (arith, first.clock, second.clock);
  read_faults = omega (arith, first.read_faults, second.read_faults);
  write_faults = omega (arith, first.write_faults, second.write_faults);
  tell_faults = omega (arith, first.tell_faults, second.tell_faults);
}

-- before the first call
pub changes_none : (V : Type 0) (at n : ℕ) (o : Outside) → ChangesOnly V at n o o
changes_none V at n o = record {
  later = later_same o;
  cuts = leaves_none (FromNow at n o) o (λ image told now. (image, told, now, elsewhere_same at n image));
  view = λ tells. elsewhere_same at n o.view;
}

-- one run behind another
pub changes_then : (V K : Type 0) (at n : ℕ) (o m e : Outside) → Sound V K m → ChangesOnly V at n o m → ChangesOnly V at n m e → ChangesOnly V at n o e
changes_then V K at n o m e sound first second = record {
  later = later_then o m e first.later second.later;
  cuts = elsewhere_after at n o m e sound first.cuts second.cuts;
  view = λ tells. elsewhere_then at n o.view m.view e.view (first.view tells) (second.view tells);
}

-- in a wider range
pub changes_wider : (V : Type 0) (at n at' n' : ℕ) (o e : Outside) → at' ≤ at → at + n ≤ at' + n' → ChangesOnly V at n o e → ChangesOnly V at' n' o e
changes_wider V at n at' n' o e low high run = record {
  later = run.later;
  cuts = leaves_elsewhere_wider at n at' n' o e low high run.cuts;
  view = λ tells. elsewhere_wider at n at' n' o.view e.view low high (run.view tells);
}

-- calls that add nothing, behind a run
pub changes_sync : (V K : Type 0) (at n : ℕ) (o m e : Outside) → Sound V K m → ChangesOnly V at n o m → Later m e → e.told ≡ m.told → (V → e.view ≡ m.view) → AddsNone m e → ChangesOnly V at n o e
changes_sync V K at n o m e sound run later told view none = changes_then V K at n o m e sound run (record {
  later = later;
  cuts = leaves_same (FromNow at n m) m e later.clock told none (λ image words now. (image, words, now, elsewhere_same at n image));
  view = λ tells. subst (SameElsewhere at n m.view) (sym (view tells)) (elsewhere_same at n m.view);
})

-- a write
pub changes_write : (V K : Type 0) (at n long : ℕ) (o m : Outside) → Sound V K o → Later o m → m.told ≡ o.told → Tears at n o m → (V → SameElsewhere at n o.view m.view) → n ≡ long → ChangesOnly V at long o m
changes_write V K at n long o m sound later told tears view is = subst (λ k. ChangesOnly V at k o m) is (record {
  later = later;
  cuts = elsewhere_torn at n o m sound later.clock told tears;
  view = view;
})

-- a run that was written, which has the bytes of another list
pub run_written : (at long : ℕ) (bytes run old view : List ℕ) → length run ≡ long → at + long ≤ length old → ((k : ℕ) → k < long → slice_index run k ≡ slice_index bytes k) → view ≡ put at run old
    → (k : ℕ) → k < long → slice_index view (at + k) ≡ slice_index bytes k
run_written at long bytes run old view is_long fits same is k low =
    ap (λ (i : List ℕ). slice_index i (at + k)) is
    ∙ put_within at run old (omega (arith, is_long, fits)) (at + k) (omega arith) (omega (arith, low, is_long))
    ∙ ap (slice_index run) (omega arith)
    ∙ same k low
