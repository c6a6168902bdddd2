-- What a range keeps while something else is done.
use Rattle.std.proofs.Common.{◌≡◌, inl, inr, ⊎_elim, ℕ, ◌+◌, ◌≤◌, List, length, Some, refl, sym, ◌∙◌, ap, subst, arith}
use Rattle.std.specs.Prelude.{slice_get}
use Rattle.std.proofs.lemmas.Bool.{cases_lt}
use Rattle.rig_core.specs.Bytes.{SameWithin}
use Rattle.rig_core.specs.Outside.{Outside, AllNow, Sound, Later, Speaks, OnlyReads}
use Rattle.rig_core.specs.Leaves.{FromNow, IsSettled, SpeaksOf, AreApart}
use Rattle.rig_core.proofs.Moments.{leaves_now, now_none}
use Rattle.rig_core.proofs.Regions.{within_from_elsewhere}
use Rattle.rig_core.specs.Runs.{Runs, StaysWithin, SpeaksOfBoth}
use Rattle.rig_core.specs.Windows.{Window, AreLaidOut}

-- Ways to come to it.

pub within_same : (at n : ℕ) (a : List ℕ) → SameWithin at n a a
within_same at n a = record { within = λ k low high. refl }

pub within_then : (at n : ℕ) (a b c : List ℕ) → SameWithin at n a b → SameWithin at n b c → SameWithin at n a c
within_then at n a b c first second = record { within = λ k low high. second.within k low high ∙ first.within k low high }

pub within_part : (at n at' n' : ℕ) (a b : List ℕ) → at ≤ at' → at' + n' ≤ at + n → SameWithin at n a b → SameWithin at' n' a b
within_part at n at' n' a b low high same = record { within = λ k from to. same.within k (omega (arith, low, from)) (omega (arith, high, to)) }

-- a run in another range
pub stays_beside : (V K : Type 0) (at n other k writes syncs : ℕ) (o e : Outside) → Sound V K e → AreApart at n other k → Runs V other k writes syncs o e → StaysWithin V at n o e
stays_beside V K at n other k writes syncs o e sound apart run = record {
  size = run.later.size;
  images = λ image told now.
      let from = leaves_now (FromNow other k o) o e sound run.outside image told now in
      (from.0, from.1, from.2, from.3.long, within_from_elsewhere at n other k from.0 image apart from.3);
  view = λ tells. ((run.outside_view tells).long, within_from_elsewhere at n other k o.view e.view apart (run.outside_view tells));
}

-- reads
pub stays_reads : (V K : Type 0) (at n : ℕ) (o e : Outside) → Sound V K e → OnlyReads V o e → StaysWithin V at n o e
stays_reads V K at n o e sound reads = record {
  size = reads.later.size;
  images = λ image told now. (image, told, now_none o e sound reads.later.clock reads.cuts image told now, refl, within_same at n image);
  view = λ tells. (ap length (reads.view tells), subst (λ (view : List ℕ). SameWithin at n o.view view) (sym (reads.view tells)) (within_same at n o.view));
}

-- a tell
pub stays_told : (V K : Type 0) (at n : ℕ) (line : List ℕ) (m e : Outside) → Sound V K e → Later m e → (V → e.view ≡ m.view) → Speaks line m e → StaysWithin V at n m e
stays_told V K at n line m e sound later view speaks = record {
  size = later.size;
  images = λ image told now. ⊎_elim (λ was. (image, told, was, refl, within_same at n image)) (λ spoken. (image, spoken.0, spoken.1, refl, within_same at n image))
      (speaks m.clock image told (omega arith) (sound.from_later m.clock e.clock image told later.clock now));
  view = λ tells. (ap length (view tells), subst (λ (bytes : List ℕ). SameWithin at n m.view bytes) (sym (view tells)) (within_same at n m.view));
}

pub stays_then : (V : Type 0) (at n : ℕ) (o m e : Outside) → StaysWithin V at n o m → StaysWithin V at n m e → StaysWithin V at n o e
stays_then V at n o m e first second = record {
  size = second.size ∙ first.size;
  images = λ image told now.
      let late = second.images image told now in
      let early = first.images late.0 late.1 late.2 in
      (early.0, early.1, early.2, late.3 ∙ early.3, within_then at n early.0 late.0 image early.4 late.4);
  view = λ tells.
      let early = first.view tells in
      let late = second.view tells in
      (late.0 ∙ early.0, within_then at n o.view m.view e.view early.1 late.1);
}

pub stays_part : (V : Type 0) (at n at' n' : ℕ) (o e : Outside) → at ≤ at' → at' + n' ≤ at + n → StaysWithin V at n o e → StaysWithin V at' n' o e
stays_part V at n at' n' o e low high stays = record {
  size = stays.size;
  images = λ image told now.
      let from = stays.images image told now in
      (from.0, from.1, from.2, from.3, within_part at n at' n' from.0 image low high from.4);
  view = λ tells. let same = stays.view tells in (same.0, within_part at n at' n' o.view e.view low high same.1);
}

-- What follows from it.

-- what each image has in the range
pub all_stays : (V : Type 0) (at n : ℕ) (Q : List ℕ → Type 0) (o e : Outside) → SpeaksOf at n Q → StaysWithin V at n o e → AllNow Q o → AllNow Q e
all_stays V at n Q o e speaks stays all image told now =
    let from = stays.images image told now in
    speaks.told_by from.0 image from.3 from.4 (all from.0 from.1 from.2)

-- what reads give of it
pub shown_stays : (V : Type 0) (at n : ℕ) (Q : List ℕ → Type 0) (o e : Outside) → SpeaksOf at n Q → StaysWithin V at n o e → V → Q o.view → Q e.view
shown_stays V at n Q o e speaks stays tells holds = let same = stays.view tells in speaks.told_by o.view e.view same.0 same.1 holds

-- what joins the two
pub both_stay : (V K : Type 0) (at n : ℕ) (P : List ℕ → List ℕ → Type 0) (o e : Outside) → Sound V K e → SpeaksOfBoth at n P → StaysWithin V at n o e
    → AllNow (λ image. P o.view image) o → AllNow (λ image. P e.view image) e
both_stay V K at n P o e sound speaks stays all image told now =
    let from = stays.images image told now in
    let same = stays.view (sound.shown e.clock image told now) in
    speaks.told_by o.view e.view from.0 image same.0 same.1 from.3 from.4 (all from.0 from.1 from.2)

-- the range stays settled
pub settled_stays : (V K : Type 0) (at n : ℕ) (o e : Outside) → Sound V K e → StaysWithin V at n o e → IsSettled at n o → IsSettled at n e
settled_stays V K at n o e sound stays settled = both_stay V K at n (λ view image. SameWithin at n view image) o e sound
    (record {
      told_by = λ view new_view image new_image long shown long' left same.
          record { within = λ k low high. left.within k low high ∙ same.within k low high ∙ sym (shown.within k low high) };
    })
    stays settled

-- Ranges that are laid out lie apart.
pub laid_apart : (windows : List Window) (size j k : ℕ) (first second : Window) → AreLaidOut windows size → (j ≡ k → ⊥)
    → slice_get windows j ≡ Some first → slice_get windows k ≡ Some second → AreApart first.0 first.1 second.0 second.1
laid_apart windows size j k first second laid other here there =
    ⊎_elim (λ low. inl (laid.ordered j k first second low here there))
    (λ high. ⊎_elim (λ above. inr (laid.ordered k j second first above there here)) (λ same. absurd (other (omega (arith, high, same)))) (cases_lt k j))
    (cases_lt j k)
