-- How a part of a document is judged: it is read where no condition holds of it, and else refused for the first that does.
use Rattle.std.specs.Prelude.{◌≡◌, ◌<◌, Bool, true, false, Result, Ok, Err}
use Rattle.table_model.specs.Errors.{order}
use Rattle.table_model.specs.declared.errors.TableError.{TableError}

-- of a part that fails so, the reading is this value, which passes a test, or the first refusal that holds
pub record Judges {A : Type 0} (read : Result A TableError) (fails : TableError → Bool) (value : A) (good : A → Bool) : Type 0 where
  pub low : (f : TableError) → order f < 3 → fails f ≡ false
  pub high : (f : TableError) → 7 < order f → fails f ≡ false
  pub ok : (x : A) → read ≡ Ok x → ((f : TableError) → fails f ≡ false) × (x ≡ value) × (good x ≡ true)
  pub err : (e : TableError) → read ≡ Err e → (fails e ≡ true) × ((f : TableError) → order f < order e → fails f ≡ false)
