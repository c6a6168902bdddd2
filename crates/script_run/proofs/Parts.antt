-- A text of which a part is told, and counts that rise.
use Rattle.std.proofs.Common.{◌≡◌, ◌≢◌, ℕ, ◌≤◌, List, [], ◌∷◌, ◌++◌, ◌∙◌, ap, arith, append_assoc}
use Rattle.rig_core.specs.Causes.{Rose}
use Rattle.rig_core.specs.Outside.{IsToldPart}

-- a part of a line that is told after the text before it
pub part-after : (start before now front line : List ℕ) → before ≡ start ++ front → IsToldPart line before now → IsToldPart (front ++ line) start now
part-after start before now front line told part =
    (front ++ part.0, part.1, append_assoc front part.0 part.1 ∙ ap (λ (x : List ℕ). front ++ x) part.2, part.3 ∙ ap (λ (x : List ℕ). x ++ part.0) told ∙ append_assoc start front part.0)

-- there is something to tell
pub back-some : (front line : List ℕ) → line ≢ [] → front ++ line ≢ []
back-some [] line some e = some e
back-some (x ∷ front) line some e = let w : x ∷ (front ++ line) ≡ [] = e in cc

-- a count that rose in a part of a call rose in the call
pub rose-after : (a b c d : ℕ) → a ≤ b → Rose b c → c ≤ d → Rose a d
rose-after a b c d le rose more = omega arith
