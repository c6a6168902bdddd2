-- Runs that stay but for some places.
use Rattle.std.proofs.Common.{◌≡◌, ⊎_elim, ℕ, ◌+◌, ◌<◌, ◌≤◌, List, [], ◌∷◌, length, refl, ◌∙◌, ap, arith}
use Rattle.std.specs.Prelude.{zero, suc, true, Some, ◌++◌, take, nat_lt, ◌==◌, if◌then◌else◌, slice_get}
use Rattle.std.proofs.lemmas.Bool.{cases_lt}
use Rattle.std.proofs.lemmas.Bool.Decides.{nat_tests}
use Rattle.logbook_store.specs.Books.{progress_of}
use Rattle.logbook_store.specs.declared.book.Book.{Book}
use Rattle.logbook_store.proofs.Mounting.{take_next}
use Rattle.rig_core.specs.Bytes.{SameElsewhere}
use Rattle.rig_core.specs.Outside.{Outside, Sound, OnlyReads, Tears}
use Rattle.rig_core.specs.Leaves.{FromNow}
use Rattle.rig_core.proofs.Moments.{leaves_none, leaves_same, leaves_then, leaves_weaker, leaves_now, elsewhere_torn}
use Rattle.logbook_store.specs.Moves.{SameBut, FromNowBut, LeavesBut, moving_count}

pub same_itself : (At : ℕ → Type 0) (a : List ℕ) → SameBut At a a
same_itself At a = record { long = refl; same = λ k out. refl }

pub same_then : (A B : ℕ → Type 0) (a b c : List ℕ) → ((k : ℕ) → B k → (A k → ⊥) → ⊥) → SameBut A a b → SameBut B b c → SameBut A a c
same_then A B a b c within first second = record {
  long = second.long ∙ first.long;
  same = λ k out. second.same k (λ inside. within k inside out) ∙ first.same k out;
}

pub same_range : (At : ℕ → Type 0) (at n : ℕ) (a b : List ℕ) → ((k : ℕ) → at ≤ k → k < at + n → (At k → ⊥) → ⊥) → SameElsewhere at n a b → SameBut At a b
same_range At at n a b within same = record {
  long = same.long;
  same = λ k out. ⊎_elim (λ low. same.below k low) (λ past. ⊎_elim (λ inside. absurd (within k past inside out)) (λ high. same.above k high) (cases_lt k (at + n))) (cases_lt k at);
}

pub but_itself : (V K : Type 0) (At : ℕ → Type 0) (o : Outside) → LeavesBut At o o
but_itself V K At o = leaves_none (FromNowBut At o) o (λ image told now. (image, told, now, same_itself At image))

pub but_reads : (V K : Type 0) (At : ℕ → Type 0) (o m : Outside) → OnlyReads V o m → LeavesBut At o m
but_reads V K At o m reads = leaves_same (FromNowBut At o) o m (omega (arith, reads.clock)) reads.told reads.cuts (λ image told now. (image, told, now, same_itself At image))

-- one run behind another, which changes only places of the first
pub but_then : (V K : Type 0) (A B : ℕ → Type 0) (o m e : Outside) → Sound V K m → (V → (k : ℕ) → B k → (A k → ⊥) → ⊥) → LeavesBut A o m → LeavesBut B m e → LeavesBut A o e
but_then V K A B o m e sound within first second =
    leaves_then (FromNowBut A o) o m e first (leaves_weaker (FromNowBut B m) (FromNowBut A o) m e
    (λ image from.
    let start = leaves_now (FromNowBut A o) o m sound first from.0 from.1 from.2 in
    let tells = sound.shown m.clock from.0 from.1 from.2 in
    (start.0, start.1, start.2, same_then A B start.0 from.0 image (within tells) start.3 from.3))
    second)

-- a write
pub but_torn : (V K : Type 0) (At : ℕ → Type 0) (at n : ℕ) (m e : Outside) → Sound V K m → m.clock ≤ e.clock → e.told ≡ m.told → Tears at n m e → (V → (k : ℕ) → at ≤ k → k < at + n → (At k → ⊥) → ⊥) → LeavesBut At m e
but_torn V K At at n m e sound later told tears within =
    leaves_weaker (FromNow at n m) (FromNowBut At m) m e
    (λ image from. (from.0, from.1, from.2, same_range At at n from.0 image (within (sound.shown m.clock from.0 from.1 from.2)) from.3))
    (elsewhere_torn at n m e sound later told tears)

pub is_less : (m n : ℕ) → nat_lt m n ≡ true → m < n
is_less m n test = grind (arith, nat_tests)

pub is_same : (m n : ℕ) → (m == n) ≡ true → m ≡ n
is_same m n test = grind (arith, nat_tests)

count_push : (books : List Book) (book : Book) → moving_count (books ++ book ∷ []) ≡ moving_count books + (if nat_lt 0 (length (progress_of book)) then 1 else 0)
count_push [] book = omega arith
count_push (b ∷ books) book = let later = count_push books book in omega (arith, later)

pub count_next : (books : List Book) (k : ℕ) (book : Book) → slice_get books k ≡ Some book → moving_count (take (k + 1) books) ≡ moving_count (take k books) + (if nat_lt 0 (length (progress_of book)) then 1 else 0)
count_next books k book is = ap moving_count (take_next books k book is) ∙ count_push (take k books) book

pub count_front : (books : List Book) (k : ℕ) → moving_count (take k books) ≤ moving_count books
count_front [] zero = omega arith
count_front [] (suc k) = omega arith
count_front (b ∷ books) zero = omega arith
count_front (b ∷ books) (suc k) = let later = count_front books k in omega (arith, later)
