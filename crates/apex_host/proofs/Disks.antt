-- What a cut may leave while lines are told.
use Rattle.std.proofs.Common.{◌≡◌, ◌≢◌, ℕ, inl, inr, ⊎_elim, List, length, Option, Some, refl, sym, ap, subst, ◌∙◌, arith}
use Rattle.rig_core.specs.Bytes.{byte}
use Rattle.rig_core.specs.Leaves.{Leaves, LeavesPairs, IsAllSettled}
use Rattle.rig_core.specs.Outside.{Outside, Sound, Later, MakesAtMost, Speaks, OnlyReads}
use Rattle.rig_core.proofs.Moments.{pairs_none, pairs_then, pairs_weaker, leaves_both}
use Rattle.apex_types.specs.Rows.{Rows}
use Rattle.apex_model.specs.Durable.{IsCut}
use Rattle.apex_model.specs.World.{World}
use Rattle.image_layout.specs.Ready.{Stores}
use Rattle.recover_scan.specs.Format.{OldOrFormatted, KeepsRest}
use Rattle.recover_scan.proofs.Changes.{later_same, later_then}
use Rattle.apex_host.specs.Disk.{WasLeft, OnlyTells, IsUntouched, IsMomentOfFormat, FormatsDisk, HoldsEmpty, IsEmptied, BeginsFormat, MakesEmpty, HoldsCutOf, LeavesDisk, untouched, checked, swept, formatted, format_failed}
use Rattle.apex_host.specs.Endings.{IsTableOf}
use Rattle.apex_host.specs.Told.{IsTold}
use Rattle.apex_host.specs.declared.command.Command.{Command}
use Rattle.apex_host.specs.declared.command.Command.TheVariants.{Format, Check, Sweep}
use Rattle.apex_host.specs.declared.status.Status.{Status}
use Rattle.apex_host.specs.declared.status.Status.TheVariants.{Done, DeviceFault, ReplyFault}

-- nothing was done
pub tells-none : (V : Type 0) (o : Outside) → OnlyTells V o o
tells-none V o = record {
  later = later_same o;
  writes = omega arith;
  syncs = omega arith;
  view = λ v. refl;
  cuts = pairs_none (λ image told. WasLeft o image) o (λ image told now. (told, now));
}

-- a line was told, or a part of it
pub tells-line : (V K : Type 0) (line : List ℕ) (m e : Outside) → Sound V K m → Later m e → MakesAtMost 0 0 1 m e → (V → e.view ≡ m.view) → Speaks line m e → OnlyTells V m e
tells-line V K line m e sound later made view speaks = record {
  later = later;
  writes = omega (arith, made.writes);
  syncs = omega (arith, made.syncs);
  view = view;
  cuts = record {
    clock = later.clock;
    each = λ image t left. ⊎_elim (λ was. (t, was)) (λ spoken. (spoken.0, spoken.1)) (speaks m.clock image t (omega arith) left);
    before = λ u image t le left. ⊎_elim (λ was. inl was) (λ spoken. inr (spoken.0, spoken.1)) (speaks u image t le left);
  };
}

-- what a cut may leave after lines were told, it might have left before
pub was-left : (V K : Type 0) (o m : Outside) → Sound V K m → OnlyTells V o m → (image : List ℕ) → WasLeft m image → WasLeft o image
was-left V K o m sound tells image was = tells.cuts.each image was.0 (sound.from_later o.clock m.clock image was.0 tells.cuts.clock was.1)

pub tells-then : (V K : Type 0) (o m e : Outside) → Sound V K m → OnlyTells V o m → OnlyTells V m e → OnlyTells V o e
tells-then V K o m e sound first second = record {
  later = later_then o m e first.later second.later;
  writes = omega (arith, first.writes, second.writes);
  syncs = omega (arith, first.syncs, second.syncs);
  view = λ v. second.view v ∙ first.view v;
  cuts = pairs_then (λ image told. WasLeft o image) o m e first.cuts
      (pairs_weaker (λ image told. WasLeft m image) (λ image told. WasLeft o image) m e (λ image told was. was-left V K o m sound first image was) second.cuts);
}

-- with nothing pending at the start a cut leaves what reads gave then
pub leaves-untouched : (V : Type 0) (o e : Outside) → IsAllSettled o → OnlyTells V o e → IsUntouched V o e
leaves-untouched V o e settled tells = record {
  writes = tells.writes;
  syncs = tells.syncs;
  view = tells.view;
  cuts = pairs_weaker (λ image told. WasLeft o image) (λ image told. image ≡ o.view) o e (λ image told was. settled image was.0 was.1) tells.cuts;
}

-- ---- reads

-- reads alone
pub reads-tell : (V : Type 0) (o m : Outside) → OnlyReads V o m → OnlyTells V o m
reads-tell V o m reads = record {
  later = reads.later;
  writes = omega (arith, reads.made.writes);
  syncs = omega (arith, reads.made.syncs);
  view = reads.view;
  cuts = record {
    clock = reads.later.clock;
    each = λ image told left. (told, reads.cuts o.clock image told (omega arith) left);
    before = λ u image told le left. inl (reads.cuts u image told le left);
  };
}

-- what a cut leaves since reads were made, it leaves since before them
pub pairs-after-reads : (V : Type 0) (P : List ℕ → List ℕ → Type 0) (o m e : Outside) → OnlyReads V o m → LeavesPairs P m e → LeavesPairs P o e
pairs-after-reads V P o m e reads run = record {
  clock = omega (arith, run.clock, reads.clock);
  each = λ image told left. run.each image told (subst (λ (t : ℕ). e.may_leave t image told) (sym reads.clock) left);
  before = λ u image told le left. ⊎_elim (λ was. inl (reads.cuts u image told le was)) (λ has. inr has) (run.before u image told (omega (arith, le, reads.clock)) left);
}

-- ---- a command that does nothing to the disk

module _ {T V : Type 0} {table script : Option (List ℕ)} (command : Option Command) {result status : Status} {line : List ℕ} (o m e : Outside) where
  -- a status that isn't Done is told, or that telling it failed
  pub refusal-leaves : IsTold T line status m e result → status ≢ Done → IsUntouched V o e → LeavesDisk T V table script o e command result
  refusal-leaves told undone is = untouched command result (λ done. ⊎_elim (λ all. undone (sym all.0 ∙ done)) (λ part. let w : ReplyFault ≡ Done = sym part.0 ∙ done in cc) told) is

-- a check is done, or telling that it was good failed
pub check-leaves : {T V : Type 0} {table script : Option (List ℕ)} {result : Status} {line : List ℕ} (o m e : Outside) → IsTold T line Done m e result → IsUntouched V o e → LeavesDisk T V table script o e (Some Check) result
check-leaves {T} {V} {table} {script} {result} o m e told is =
    let P : Status → Type 0 = λ r. LeavesDisk T V table script o e (Some Check) r in
    ⊎_elim (λ all. subst P (sym all.0) (checked is)) (λ part. subst P (sym part.0) (untouched (Some Check) ReplyFault (λ done. cc) is)) told

-- a sweep was told, or telling it failed
pub sweep-leaves : {T V : Type 0} {table script : Option (List ℕ)} {result : Status} {line : List ℕ} (o m e : Outside) → IsTold T line Done m e result → IsUntouched V o e → LeavesDisk T V table script o e (Some Sweep) result
sweep-leaves {T} {V} {table} {script} {result} o m e told is =
    let P : Status → Type 0 = λ r. LeavesDisk T V table script o e (Some Sweep) r in
    ⊎_elim (λ all. subst P (sym all.0) (swept is)) (λ part. subst P (sym part.0) (untouched (Some Sweep) ReplyFault (λ done. cc) is)) told

-- ---- a line that is told after the disk was changed

-- the images that a cut may leave stay those that they were
pub images-told : (V K : Type 0) (P : List ℕ → Type 0) (o m e : Outside) → Sound V K m → LeavesPairs (λ image told. P image) o m → OnlyTells V m e → LeavesPairs (λ image told. P image) o e
images-told V K P o m e sound run tells =
    pairs_then (λ image told. P image) o m e run
    (pairs_weaker (λ image told. WasLeft m image) (λ image told. P image) m e (λ image told was. run.each image was.0 (sound.from_later o.clock m.clock image was.0 run.clock was.1)) tells.cuts)

-- and so does what they stand for
pub cut-told : (V K : Type 0) (v : V) (rows : Rows) (w : World) (m e : Outside) → Sound V K e → HoldsCutOf rows w m → OnlyTells V m e → HoldsCutOf rows w e
cut-told V K v rows w m e sound holds tells = record {
  images = λ image told now. let was = was-left V K m e sound tells image (told, now) in holds.images image was.0 was.1;
  view = subst (Stores rows (IsCut w)) (sym (tells.view v)) holds.view;
}

-- ---- a line that is told after a format

pub formats-leaves : (rows : Rows) (o e : Outside) → Leaves (OldOrFormatted rows o.view) o e → Leaves (KeepsRest rows o.view) o e → FormatsDisk rows o e
formats-leaves rows o e moment rest =
    let both = leaves_both (OldOrFormatted rows o.view) (KeepsRest rows o.view) o e moment rest in
    record { clock = both.clock; each = both.each; before = λ u image t le left. ⊎_elim (λ was. inl was) (λ has. inr has.0) (both.before u image t le left) }

formats-told : (V K : Type 0) (rows : Rows) (o m e : Outside) → Sound V K m → FormatsDisk rows o m → OnlyTells V m e → FormatsDisk rows o e
formats-told V K rows o m e sound run tells = images-told V K (IsMomentOfFormat rows o.view) o m e sound run tells

holds-told : (V K : Type 0) (rows : Rows) (o m e : Outside) → Sound V K e → HoldsEmpty V rows o m → OnlyTells V m e → HoldsEmpty V rows o e
holds-told V K rows o m e sound holds tells = record {
  images = λ image told now. let was = was-left V K m e sound tells image (told, now) in holds.images image was.0 was.1;
  view = λ v. subst (IsEmptied rows o.view) (sym (tells.view v)) (holds.view v);
}

abbrev pub begins-format : {left : Option (List ℕ)} (rows : Rows) (o e : Outside) → IsTableOf left rows → Leaves (OldOrFormatted rows o.view) o e → Leaves (KeepsRest rows o.view) o e → BeginsFormat left o e
begins-format rows o e spelled moment rest = record { rows = rows; table = spelled; moments = formats-leaves rows o e moment rest }

module _ (V K : Type 0) {left : Option (List ℕ)} (o m e : Outside) (sound : Sound V K m) where
  pub begun-told : BeginsFormat left o m → OnlyTells V m e → BeginsFormat left o e
  begun-told begun tells = record { rows = begun.rows; table = begun.table; moments = formats-told V K begun.rows o m e sound begun.moments tells }

  pub made-told : Sound V K e → MakesEmpty V left o m → OnlyTells V m e → MakesEmpty V left o e
  unfolding begun-told
  made-told after made tells = record { begins = begun-told made.begins tells; holds = holds-told V K made.begins.rows o m e after made.holds tells }

module _ {T V : Type 0} {left script : Option (List ℕ)} {result status : Status} {line : List ℕ} (o m e : Outside) (told : IsTold T line status m e result) where
  pub format-leaves : status ≡ Done → MakesEmpty V left o e → LeavesDisk T V left script o e (Some Format) result
  format-leaves done made =
      ⊎_elim (λ all. subst (λ (r : Status). LeavesDisk T V left script o e (Some Format) r) (sym (all.0 ∙ done)) (formatted made)) (λ part. format_failed result (inr part.0) made.begins) told

  pub fault-leaves : status ≡ DeviceFault → BeginsFormat left o e → LeavesDisk T V left script o e (Some Format) result
  fault-leaves device begun = format_failed result (⊎_elim (λ all. inl (all.0 ∙ device)) (λ part. inr part.0) told) begun

-- ---- at every moment of a format

-- a disk that is as it was
pub same-moment : (rows : Rows) (old image : List ℕ) → image ≡ old → IsMomentOfFormat rows old image
same-moment rows old image same = (
  inl same,
  record {
    long = ap length same;
    gate = λ k low high. ap (λ (xs : List ℕ). byte xs k) same;
    data_blocks = λ tree row at. record { within = λ k low high. ap (λ (xs : List ℕ). byte xs k) same };
    behind = λ k low. ap (λ (xs : List ℕ). byte xs k) same;
  },
)
