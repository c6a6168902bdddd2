-- One image more is counted, and the room that there is for more.
use Rattle.std.proofs.Common.{◌≡◌, ℕ, ◌+◌, ◌*◌, ◌-◌, ◌^◌, ◌≤◌, List, [], ◌∷◌, refl, sym, ◌∙◌, subst, arith}
use Rattle.std.specs.Prelude.{Err, Ok, OnOk, Result}
use Rattle.std.proofs.lemmas.List.Sums.{sum_by-cons}
use Rattle.apex_types.specs.Rows.{Rows}
use Rattle.apex_types.specs.declared.calls.Line.{Line}
use Rattle.apex_model.specs.Durable.{Durable}
use Rattle.rig_core.specs.Outside.{Outside, AllNow}
use Rattle.power_sweep.specs.Counts.{AreMounted, HasRoom}
use Rattle.power_sweep.specs.Cuts.{IsLeft, IsLeftImage, files_of}
use Rattle.power_sweep.specs.declared.sweeping.Swept.{Swept}

pub one-more : (table : Rows) (lines : List Line) (images : ℕ) (old new : Swept) (stored : Durable) → AreMounted table lines images old → IsLeft table lines stored
    → new.images ≡ old.images + 1 → new.mounted ≡ old.mounted + 1 → new.files ≡ old.files + files_of stored → AreMounted table lines (images + 1) new
one-more table lines images old new stored are left more mounted files =
    let sum = sum_by-cons files_of stored are.states in
    record {
      images_are = omega (arith, more, are.images_are);
      mounted = omega (arith, mounted, are.mounted);
      states = stored ∷ are.states;
      one_each = omega (arith, are.one_each);
      left = (left, are.left);
      files = omega (arith, files, are.files, sum);
    }

-- nothing was counted yet
pub none-mounted : (table : Rows) (lines : List Line) (swept : Swept) → swept.images ≡ 0 → swept.mounted ≡ 0 → swept.files ≡ 0 → AreMounted table lines 0 swept
none-mounted table lines swept images mounted files = record { images_are = images; mounted = mounted; states = []; one_each = refl; left = tt; files = files }

pub none-room : (swept : Swept) → swept.images ≡ 0 → swept.mounted ≡ 0 → swept.files ≡ 0 → HasRoom 3 swept
none-room swept images mounted files = record { images = omega (arith, images); mounted = omega (arith, images, mounted); files = omega (arith, images, files) }

-- what follows where a call comes to its end
pub on-ok : {T E : Type 0} (result : Result T E) (P Q : Type 0) → (P → Q) → OnOk result P → OnOk result Q
on-ok (Ok done) P Q follows has = follows has
on-ok (Err fault) P Q follows has = tt

pub room-for : (m n : ℕ) (s : Swept) → m ≤ n → HasRoom n s → HasRoom m s
room-for m n s le room = record { images = omega (arith, le, room.images); mounted = room.mounted; files = room.files }

-- the images so far are three for each number of calls
pub room-left : (passed : ℕ) (s : Swept) → s.images ≡ 3 * passed → passed ≤ 2 ^ 32 - 1 → HasRoom 0 s → HasRoom 3 s
room-left passed s is few room = record { images = omega (arith, is, few); mounted = room.mounted; files = room.files }

-- three images more, where the table came back from a run
pub three-more : (back held table : Rows) (lines : List Line) (n m : ℕ) (e : Outside) (old new : Swept) → back ≡ held → held ≡ table → m ≡ n + 3
    → ((lines : List Line) (images : ℕ) → AllNow (IsLeftImage back lines) e → AreMounted back lines images old → AreMounted back lines (images + 3) new)
    → AllNow (IsLeftImage held lines) e → AreMounted table lines n old → AreMounted table lines m new
three-more back held table lines n m e old new same first is mounts leaves are =
    let back_is = same ∙ first in
    let now = subst (λ (t : Rows). AllNow (IsLeftImage t lines) e) (sym same) leaves in
    let before = subst (λ (t : Rows). AreMounted t lines n old) (sym back_is) are in
    subst (λ (k : ℕ). AreMounted table lines k new) (sym is) (subst (λ (t : Rows). AreMounted t lines (n + 3) new) back_is (mounts lines n now before))
