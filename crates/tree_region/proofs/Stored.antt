-- Of each file a record leaves what was stored of it, or nothing.
use Rattle.std.proofs.Common.{◌≡◌, ◌⊎◌, inl, inr, ℕ, zero, suc, Bool, true, false, List, [], ◌∷◌, set, refl, ap, ◌∙◌, Option, Some, None, unwrap_or}
use Rattle.apex_types.specs.declared.fields.RecordField.{RecordField}
use Rattle.file_tree.specs.Entries.{TreeValue, slot, stored_of}
use Rattle.file_tree.specs.Records.{IsMade, applied}
use Rattle.tree_region.specs.Replay.{KeepsStored}
use Rattle.tree_region.proofs.Cases.{of-applied}

abbrev noted : List (Option (ℕ × ℕ)) → ℕ → ℕ × ℕ
noted xs f = unwrap_or (slot xs f) (0, 0)

-- with another place that has nothing
set-kept : (xs : List (Option (ℕ × ℕ))) (k f : ℕ) (o : Option (ℕ × ℕ)) → unwrap_or o (0, 0) ≡ (0, 0) → (noted (set xs k o) f ≡ noted xs f) ⊎ (noted (set xs k o) f ≡ (0, 0))
set-kept [] k f o none = inl refl
set-kept (x ∷ xs) zero zero o none = inr none
set-kept (x ∷ xs) zero (suc f) o none = inl refl
set-kept (x ∷ xs) (suc k) zero o none = inl refl
set-kept (x ∷ xs) (suc k) (suc f) o none = set-kept xs k f o none

pub stored-as : (v w : TreeValue) → w ≡ v → KeepsStored v w
stored-as v w same f = inl (ap (λ (x : TreeValue). stored_of x f) same)

pub stored-then : (u v w : TreeValue) → KeepsStored u v → KeepsStored v w → KeepsStored u w
stored-then u v w before after f = elim (after f) [
  | inl same ↦ elim (before f) [
    | inl was ↦ inl (same ∙ was)
    | inr none ↦ inr (same ∙ none)
  ]
  | inr none ↦ inr none
]

pub applied-stored : (v w : TreeValue) (change : RecordField) → applied v change ≡ Some w → KeepsStored v w
applied-stored v w change = of-applied v w (λ x. KeepsStored v x)
    (λ k path f. set-kept v.stored k f (Some (0, 0)) refl)
    (λ k path f. inl refl)
    (λ k path f. set-kept v.stored k f None refl)
    (λ k path f. inl refl)
    (λ k from to f. inl refl)
    change

-- what was made of a record, or was not
pub made-stored : (v w : TreeValue) (change : RecordField) (made : Bool) → IsMade (applied v change) v w made → KeepsStored v w
made-stored v w change true made = applied-stored v w change made
made-stored v w change false made = stored-as v w made.1
