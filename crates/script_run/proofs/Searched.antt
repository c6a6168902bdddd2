-- A list that is searched from its front on.
use Rattle.std.proofs.Common.{◌≡◌, ℕ, ◌+◌, Bool, true, false, ◌||◌, List, take, get_or, sym, ap, ◌∙◌, Some}
use Rattle.std.specs.Prelude.{slice_get}
use Rattle.std.specs.List.{list_any}
use Rattle.std.proofs.lemmas.List.Folds.{list_any_at, list_any_more}
use Rattle.std.proofs.lemmas.Option.{get_or_from_slice_get, slice_get_within}

-- the item at a place passes
pub found : {A : Type 0} (test : A → Bool) (xs : List A) (k : ℕ) (x : A) → slice_get xs k ≡ Some x → test x ≡ true → true ≡ list_any test xs
found test xs k x at is = sym (list_any_at test xs k x (slice_get_within xs k x at) (ap test (get_or_from_slice_get xs k x x at) ∙ is))

-- none before it passes, nor does it
pub none_more : {A : Type 0} (test : A → Bool) (xs : List A) (k : ℕ) (x : A) → slice_get xs k ≡ Some x → test x ≡ false → list_any test (take k xs) ≡ false → list_any test (take (k + 1) xs) ≡ false
none_more test xs k x at other before =
    list_any_more test xs k x (slice_get_within xs k x at)
    ∙ ap (λ (b : Bool). b || test (get_or xs k x)) before
    ∙ ap test (get_or_from_slice_get xs k x x at) ∙ other
