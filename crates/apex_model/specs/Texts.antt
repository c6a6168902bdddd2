-- Texts, and the parts that separators cut them into.
use Rattle.std.specs.Prelude.{ℕ, List, [], ◌∷◌, ◌+◌, ◌-◌, ◌*◌, ◌==◌, if◌then◌else◌, fold}

abbrev pub Text : Type 0
Text = List ℕ

abbrev pub onto_first : ℕ → List Text → List Text
onto_first b [] = (b ∷ []) ∷ []
onto_first b (text ∷ texts) = (b ∷ text) ∷ texts

-- the texts between the bytes that are this one
abbrev pub split_at : ℕ → Text → List Text
split_at separator [] = [] ∷ []
split_at separator (b ∷ text) = if b == separator then [] ∷ split_at separator text else onto_first b (split_at separator text)

-- the value of decimal digits
abbrev pub decimal_value : Text → ℕ
decimal_value digits = fold (λ n b. 10 * n + (b - 48)) 0 digits
