-- Entries counted from the newest on.
use Rattle.std.proofs.Common.{◌≡◌, ℕ, zero, suc, ◌+◌, ◌-◌, ◌<◌, ◌≤◌, Bool, false, List, [], ◌∷◌, length, reverse, Some, option_map, refl, sym, ◌∙◌, ap, arith, if◌then◌else◌}
use Rattle.std.specs.Prelude.{slice_get, nat_le}
use Rattle.std.proofs.lemmas.Bool.Decides.{nat_tests}
use Rattle.std.proofs.lemmas.List.{length-reverse, get_or-reverse}
use Rattle.std.proofs.lemmas.Option.{slice_get-get_or}
use Rattle.apex_types.specs.declared.replies.EntryState.TheVariants.{InProgress, Complete}
use Rattle.apex_types.specs.declared.replies.Values.TheVariants.{Entry}
use Rattle.apex_model.specs.Logbooks.{Logbook, Message, entry_of}

pub some_at : {X : Type 0} (xs : List X) (k : ℕ) → k < length xs → (x : X) × (slice_get xs k ≡ Some x)
some_at [] k low = absurd (omega (arith, low))
some_at (x ∷ xs) zero low = (x, refl)
some_at (x ∷ xs) (suc k) low = some_at xs k (omega (arith, low))

pub from_newest : (xs : List Message) (k : ℕ) → k < length xs → slice_get (reverse xs) k ≡ slice_get xs (length xs - 1 - k)
from_newest xs k low =
    let none : Message = [] in
    slice_get-get_or (reverse xs) k none (omega (arith, low, length-reverse xs))
    ∙ ap (λ (x : Message). Some x) (get_or-reverse xs k none low)
    ∙ sym (slice_get-get_or xs (length xs - 1 - k) none (omega (arith, low)))

not_le : (m n : ℕ) → n < m → nat_le m n ≡ false
not_le m n less = grind (arith, nat_tests)

-- a logged entry comes behind those in progress
pub entry_logged : (b : Logbook) (number : ℕ) (wanted : Message) → length b.in_progress < number → number ≤ length b.in_progress + length b.logged
    → slice_get b.logged (length b.logged - (number - length b.in_progress)) ≡ Some wanted → entry_of b number ≡ Some (Entry Complete wanted)
entry_logged b number wanted more few is =
    let at : length b.logged - 1 - (number - length b.in_progress - 1) ≡ length b.logged - (number - length b.in_progress) = omega (arith, more, few) in
    ap (λ (t : Bool). if t then option_map (Entry InProgress) (slice_get (reverse b.in_progress) (number - 1))
    else option_map (Entry Complete) (slice_get (reverse b.logged) (number - length b.in_progress - 1))) (not_le number (length b.in_progress) more)
    ∙ ap (option_map (Entry Complete)) (from_newest b.logged (number - length b.in_progress - 1) (omega (arith, more, few)) ∙ ap (λ (k : ℕ). slice_get b.logged k) at ∙ is)
