-- Words looked up in a list.
use Rattle.std.proofs.Common.{◌≡◌, refl, ℕ, Bool, true, false, List, [], ◌∷◌, map, Bor, bytes_eq}
use Rattle.std.specs.Prelude.{Option, Some, option_map, if◌then◌else◌}
use Rattle.std.specs.List.{find}
use Rattle.script_model.specs.Reading.{find_word}

-- one test at the front, where the rest agrees
met : {A V : Type 0} (f : A → V) (b : Bool) (e : A) (rest : Option A) (meaning : Option V) → meaning ≡ option_map f rest
    → (if b then Some (f e) else meaning) ≡ option_map f (if b then Some e else rest)
met f true e rest meaning is = refl
met f false e rest meaning is = is

-- the meaning that is found is that of the first entry with the word
pub found : {V : Type 0} (list : List (Bor (List ℕ) × V)) (w : List ℕ)
    → find_word (map (λ e. (e.0.now, e.1)) list) w ≡ option_map (λ e. e.1) (find (λ e. bytes_eq w e.0.now) list)
found [] w = refl
found (e ∷ es) w = met (λ e. e.1) (bytes_eq w e.0.now) e (find (λ e. bytes_eq w e.0.now) es) (find_word (map (λ e. (e.0.now, e.1)) es) w) (found es w)
