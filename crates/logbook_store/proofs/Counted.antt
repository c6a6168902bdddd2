-- The counts of a logbook that moved a message.
use Rattle.std.proofs.Common.{◌≡◌, ⊎_elim, ℕ, ◌+◌, ◌<◌, ◌≤◌, min, Bool, true, false, List, [], ◌∷◌, ◌++◌, length, drop, ◌∙◌, ap, arith, if◌then◌else◌}
use Rattle.std.specs.Prelude.{nat_lt}
use Rattle.std.proofs.lemmas.Bool.{cases_lt}
use Rattle.std.proofs.lemmas.Bool.Decides.{nat_tests}
use Rattle.std.proofs.lemmas.List.{length-append, length-drop}
use Rattle.apex_model.specs.Logbooks.{Logbook, Message, moved, moved_from, pushed}

less_true : (m n : ℕ) → m < n → nat_lt m n ≡ true
less_true m n less = grind (arith, nat_tests)

less_false : (m n : ℕ) → n ≤ m → nat_lt m n ≡ false
less_false m n more = grind (arith, nat_tests)

abbrev one_pushed : List Message → Message → Bool → List Message
one_pushed messages message t = if t then messages ++ message ∷ [] else drop 1 messages ++ message ∷ []

length_pushed : (limit : ℕ) (messages : List Message) (message : Message) → 1 ≤ limit → length messages ≤ limit → length (pushed limit messages message) ≡ min (length messages + 1) limit
length_pushed limit messages message some few = ⊎_elim
    (λ less. ap (λ (t : Bool). length (one_pushed messages message t)) (less_true (length messages) limit less) ∙ omega (arith, length-append messages (message ∷ []), less))
    (λ full. ap (λ (t : Bool). length (one_pushed messages message t)) (less_false (length messages) limit full) ∙ omega (arith, length-append (drop 1 messages) (message ∷ []), length-drop 1 messages, full, few, some))
    (cases_lt (length messages) limit)

pub after_move : (limit : ℕ) (b : Logbook) (list : List Message) → b.in_progress ≡ list → 0 < length list → 1 ≤ limit → length b.logged ≤ limit
    → ((moved limit b).life ≡ b.life + 1) × (length (moved limit b).logged ≡ min (length b.logged + 1) limit) × ((moved limit b).in_progress ≡ drop 1 list)
after_move limit b [] is some limited few = absurd (omega (arith, some))
after_move limit b (message ∷ rest) is some limited few =
    let same : moved limit b ≡ moved_from limit b (message ∷ rest) = ap (moved_from limit b) is in (
      ap (λ (c : Logbook). c.life) same,
      ap (λ (c : Logbook). length c.logged) same ∙ length_pushed limit b.logged message limited few,
      ap (λ (c : Logbook). c.in_progress) same,
    )
