-- Counts of faults that rise, and texts of which a part is told.
use Rattle.std.proofs.Common.{◌≡◌, ◌≢◌, ℕ, ◌≤◌, inl, inr, List, [], ◌∷◌, ◌++◌, refl, arith}
use Rattle.std.proofs.lemmas.Bool.{cases_lt}
use Rattle.rig_core.specs.Causes.{Rose}
use Rattle.script_run.specs.Reached.{RoseBy}

-- a count that rose in a part of a call rose in the call
pub rose-before : (a b c : ℕ) → Rose a b → b ≤ c → Rose a c
rose-before a b c r l = omega arith

pub rose-after : (a b c : ℕ) → a ≤ b → Rose b c → Rose a c
rose-after a b c l r = omega arith

pub few-later : (n a b c : ℕ) → RoseBy n a b → b ≤ c → RoseBy n a c
few-later n a b c r l = omega arith

pub few-earlier : (n a b c : ℕ) → a ≤ b → RoseBy n b c → RoseBy n a c
few-earlier n a b c l r = omega arith

-- no count of lines rises where the count of faults didn't
pub none-failed : (n a b : ℕ) → (Rose a b → ⊥) → RoseBy n a b → n ≡ 0
none-failed n a b still few = elim (cases_lt 0 n) [ inl some ↦ absurd (still (omega (arith, some, few))) | inr none ↦ omega arith ]

-- there is something to tell where a part of it is
pub front-some : (front back : List ℕ) → front ≢ [] → front ++ back ≢ []
front-some [] back some e = absurd (some refl)
front-some (x ∷ front) back some e = let w : x ∷ (front ++ back) ≡ [] = e in cc
