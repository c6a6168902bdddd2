-- A tell without its line.
use Rattle.std.proofs.Common.{◌≡◌, inl, inr, ⊎_elim, ℕ, List, [], ◌∷◌, ◌++◌, refl}
use Rattle.rig_core.specs.Outside.{Outside, IsToldPart, Speaks}

told_nothing : (line old new front back : List ℕ) → front ++ back ≡ [] → new ≡ old ++ front → IsToldPart line old new
told_nothing line old new [] back none is = ([], line, refl, is)
told_nothing line old new (x ∷ front) back none is = cc

-- what nothing told allows, any line allows
pub speaks_untold : (line : List ℕ) (old new : Outside) → Speaks [] old new → Speaks line old new
speaks_untold line old new speaks t image told le kept =
    ⊎_elim (λ was. inl was)
    (λ spoken. inr (spoken.0, spoken.1, told_nothing line spoken.0 told spoken.2.0 spoken.2.1 spoken.2.2 spoken.2.3))
    (speaks t image told le kept)
