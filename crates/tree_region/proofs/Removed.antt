-- Without the name of a file nothing of it is stored, and no number is left in its row.
use Rattle.std.proofs.Common.{◌≡◌, ℕ, zero, suc, List, [], ◌∷◌, refl, ap, subst, ◌∙◌, Option, Some, None, arith}
use Rattle.std.specs.Prelude.{option_map, unwrap_or, slice_set}
use Rattle.apex_model.specs.Files.{blocks_of}
use Rattle.apex_model.specs.Trees.{Name}
use Rattle.file_tree.specs.Entries.{TreeValue, slot, without_file}
use Rattle.file_tree.specs.Records.{gone_file}
use Rattle.tree_region.specs.Rows.{Forgets, EndsWithContent, number_at}
use Rattle.tree_region.specs.GoodNumbers.{size_blocks}
use Rattle.tree_region.specs.declared.region.TreeRegion.{TreeRegion}

none-at : (xs : List (Option (ℕ × ℕ))) (f : ℕ) → slot (slice_set xs f None) f ≡ None
none-at [] f = refl
none-at (x ∷ xs) zero = refl
none-at (x ∷ xs) (suc f) = none-at xs f

-- a file with this path can be removed
pub is-gone : (v : TreeValue) (f : ℕ) (path : List Name) → slot v.files f ≡ Some path → gone_file v f ≡ Some (without_file v f path)
is-gone v f path is = ap (option_map (without_file v f)) is

-- then it has no blocks
no-blocks : (v w : TreeValue) (f : ℕ) (o : Option (List Name)) → option_map (without_file v f) o ≡ Some w → size_blocks w f ≡ 0
no-blocks v w f None is = absurd (let e : ◌≡◌ {A = Option TreeValue} None (Some w) = is in cc)
no-blocks v w f (Some path) is =
    let same : without_file v f path ≡ w = cc in
    subst (λ (u : TreeValue). size_blocks u f ≡ 0) same (ap (λ (o : Option (ℕ × ℕ)). blocks_of (unwrap_or o (0, 0)).0) (none-at v.stored f))

-- and no numbers, once those behind its content are forgotten
pub no-numbers : (v : TreeValue) (f : ℕ) (a b : TreeRegion) → gone_file v f ≡ Some a.tree → Forgets a b → EndsWithContent b f → (k : ℕ) → number_at b f k ≡ 0
no-numbers v f a b is forgets ends k =
    let none : size_blocks b.tree f ≡ 0 = ap (λ (w : TreeValue). size_blocks w f) forgets.tree ∙ no-blocks v a.tree f (slot v.files f) is in
    ends k (omega (arith, none))
