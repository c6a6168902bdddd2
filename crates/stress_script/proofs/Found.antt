-- What is known of the first row that passes a test.
use Rattle.std.proofs.Common.{◌≡◌, ℕ, ◌<◌, Bool, true, false, ◌&&◌, ltb, List, [], ◌∷◌, Option, Some, None, Bor, length, arith, sym, subst}
use Rattle.std.specs.Prelude.{◌==◌, if◌then◌else◌, option_map, IfSome}
use Rattle.std.specs.List.{list_all, find}
use Rattle.std.proofs.lemmas.Bool.Decides.{nat_tests}
use Rattle.apex_types.specs.Rows.{Rows}
use Rattle.apex_types.specs.declared.rows.TreeRow.{TreeRow}
use Rattle.apex_model.specs.Accepted.{IsAccepted, has_known_names, fits_volumes, fits_image, is_partition}
use Rattle.apex_model.proofs.AcceptedTables.{and-left, and-right}
use Rattle.stress_script.specs.Generator.{first_tree}

-- the first row here, or one of the rest
found-here : {A : Type 0} (P : A → Type 0) (b : Bool) (x : A) (rest : Option A) → P x → IfSome rest P → IfSome (if b then Some x else rest) P
found-here P true x rest here h = here
found-here P false x rest here h = h

found-all : {A : Type 0} (all test : A → Bool) (P : A → Type 0) → ((x : A) → all x ≡ true → P x) → (xs : List A) → list_all all xs ≡ true → IfSome (find test xs) P
found-all all test P h [] e = tt
found-all all test P h (x ∷ xs) e =
    found-here P (test x) x (find test xs) (h x (and-left (all x) (list_all all xs) e)) (found-all all test P h xs (and-right (all x) (list_all all xs) e))

abbrev is_known : Rows → TreeRow → Bool
is_known table row = ltb row.volume (length table.volumes) && is_partition table row.owner && list_all (is_partition table) row.readers

known-volume : (table : Rows) (row : TreeRow) → is_known table row ≡ true → row.volume < length table.volumes
known-volume table row e =
    let below : ltb row.volume (length table.volumes) ≡ true = and-left _ _ (and-left _ _ e) in
    grind (arith, nat_tests)

trees-known : (table : Rows) → IsAccepted table → list_all (is_known table) table.trees ≡ true
trees-known table a =
    let names : has_known_names table ≡ true = and-right _ (has_known_names table) (and-left _ (fits_volumes table) (and-left _ (fits_image table) a)) in
    and-left _ _ (and-left _ _ names)

behind : {A : Type 0} (P : A → Type 0) (o : Option (Bor A)) (found : Option A) → option_map (λ row. row.now) o ≡ found → IfSome found P → IfSome o (λ row. P row.now)
behind P None found e h = tt
behind {A} P (Some row) found e h = let Q : Option A → Type 0 = λ o. IfSome o P in subst Q (sym e) h

-- the volume of a tree that was found is one of the table
pub tree-known : (table : Rows) (p : ℕ) (o : Option (Bor TreeRow)) → IsAccepted table → option_map (λ row. row.now) o ≡ first_tree table p
    → IfSome o (λ row. row.now.volume < length table.volumes)
tree-known table p o a e =
    let P : TreeRow → Type 0 = λ row. row.volume < length table.volumes in
    behind P o (first_tree table p) e (found-all (is_known table) (λ row. row.owner.0 == p) P (known-volume table) table.trees (trees-known table a))
