-- The elements of a list's data.
use Rattle.std.proofs.Common.{◌≡◌, List, [], ◌∷◌, refl, ap}
use Rattle.toml.specs.Data.{Data}
use Rattle.toml.specs.View.{items_of}
use Rattle.table_model.specs.Document.{elements}

pub elements-items : (ds : List Data) → elements (items_of ds) ≡ ds
elements-items [] = refl
elements-items (d ∷ ds) = ap (λ (xs : List Data). d ∷ xs) (elements-items ds)
