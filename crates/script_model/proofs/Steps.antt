-- Steps that may fail, and what their success shows.
use Rattle.std.proofs.Common.{◌≡◌, ℕ, ◌<◌, List, [], ◌∷◌, length, Option, Some, None, Result, Ok, Err, refl, arith}
use Rattle.script_model.specs.declared.faults.LineFault.{LineFault}
use Rattle.script_model.specs.Spelling.{Field, IsSpelled}
use Rattle.script_model.specs.Reading.{◌>>=◌, both, filled, or_fault}

-- the value of a step that did not fail
pub bind_ok : {A B E : Type 0} (r : Result A E) (f : A → Result B E) (y : B) → (r >>= f) ≡ Ok y → (x : A) × (r ≡ Ok x) × (f x ≡ Ok y)
bind_ok (Ok x) f y e = (x, refl, e)
bind_ok (Err d) f y e = absurd cc

pub both_ok : {A B : Type 0} (r : Result A LineFault) (s : Result B LineFault) (x : A × B) → both r s ≡ Ok x → (r ≡ Ok x.0) × (s ≡ Ok x.1)
both_ok (Ok a) (Ok b) x e = (cc, cc)
both_ok (Ok a) (Err g) x e = absurd cc
both_ok (Err f) (Ok b) x e = absurd cc
both_ok (Err f) (Err g) x e = absurd cc

pub filled_ok : {A : Type 0} (w : List ℕ) (read : Result A LineFault) (x : A) → filled w read ≡ Ok x → (0 < length w) × (read ≡ Ok x)
filled_ok [] read x e = absurd cc
filled_ok (b ∷ w) read x e = (omega arith, e)

pub filled_is : {A : Type 0} (w : List ℕ) (read : Result A LineFault) → 0 < length w → filled w read ≡ read
filled_is [] read h = absurd (omega arith)
filled_is (b ∷ w) read h = refl

pub or_fault_ok : {A : Type 0} (f : LineFault) (o : Option A) (x : A) → or_fault f o ≡ Ok x → o ≡ Some x
or_fault_ok f (Some y) x e = cc
or_fault_ok f None x e = absurd cc

-- what a reader of a word takes is spelled so, and what is spelled so is taken
pub record IsReader {A : Type 0} (field : A → Field) (read : List ℕ → Result A LineFault) : Type 0 where
  pub spells : (w : List ℕ) (a : A) → read w ≡ Ok a → IsSpelled (field a) w × (0 < length w)
  pub again : (w : List ℕ) (a : A) → 0 < length w → IsSpelled (field a) w → read w ≡ Ok a
