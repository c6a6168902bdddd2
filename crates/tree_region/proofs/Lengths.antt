-- A record leaves the tree as many entries as it had.
use Rattle.std.proofs.Common.{◌≡◌, ℕ, zero, suc, Bool, true, false, List, [], ◌∷◌, length, set, refl, ap, Some, None}
use Rattle.apex_types.specs.declared.fields.RecordField.{RecordField}
use Rattle.file_tree.specs.Entries.{TreeValue}
use Rattle.file_tree.specs.Records.{IsMade, applied}
use Rattle.tree_region.proofs.Cases.{of-applied}

pub record SameLong (v w : TreeValue) : Type 0 where
  pub files : length w.files ≡ length v.files
  pub directories : length w.directories ≡ length v.directories

set-long : {A : Type 0} (xs : List A) (k : ℕ) (x : A) → length (set xs k x) ≡ length xs
set-long [] k x = refl
set-long (y ∷ xs) zero x = refl
set-long (y ∷ xs) (suc k) x = ap suc (set-long xs k x)

-- a record leaves as many entries
pub applied-long : (v w : TreeValue) (change : RecordField) → applied v change ≡ Some w → SameLong v w
applied-long v w change = of-applied v w (λ x. SameLong v x)
    (λ f path. record { files = set-long v.files f (Some path); directories = refl })
    (λ d path. record { files = refl; directories = set-long v.directories d (Some path) })
    (λ f path. record { files = set-long v.files f None; directories = refl })
    (λ d path. record { files = refl; directories = set-long v.directories d None })
    (λ f from to. record { files = set-long v.files f (Some to); directories = refl })
    change

-- what was made of a record, or was not, leaves as many entries
pub made-long : (v w : TreeValue) (change : RecordField) (made : Bool) → IsMade (applied v change) v w made → SameLong v w
made-long v w change true made = applied-long v w change made
made-long v w change false made = record { files = ap (λ (x : TreeValue). length x.files) made.1; directories = ap (λ (x : TreeValue). length x.directories) made.1 }
