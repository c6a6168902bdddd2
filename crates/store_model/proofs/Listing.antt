-- What stands directly in a directory of a store's tree, and of the tree of files that it stands for.
use Rattle.std.proofs.Common.{◌≡◌, ℕ, ◌≤◌, true, false, cond, List, [], ◌∷◌, length, refl, subst, Option, Some, None, arith}
use Rattle.std.specs.Prelude.{⊤}
use Rattle.std.specs.List.{AllZip}
use Rattle.apex_model.specs.DirectoryStep.{has_entries}
use Rattle.apex_model.specs.Files.{File}
use Rattle.apex_model.specs.Trees.{Name, Node, Tree, name_within, is_behind, entries_within, first_behind, next_entry}
use Rattle.store_model.specs.Stores.{StoreValue}
use Rattle.store_model.specs.Standing.{IsNode, IsEntry, IsTree}

-- the same name, with what stands there
abbrev pub IsNamed : StoreValue → Name × Node ℕ → Name × Node File → Type 0
IsNamed v entry of_tree = (entry.0 ≡ of_tree.0) × IsNode v entry.1 of_tree.1

-- no next entry in either, or the same name in both
abbrev pub IsNextThere : StoreValue → Option (Name × Node ℕ) → Option (Name × Node File) → Type 0
IsNextThere v None None = ⊤
IsNextThere v None (Some of_tree) = ⊥
IsNextThere v (Some entry) None = ⊥
IsNextThere v (Some entry) (Some of_tree) = IsNamed v entry of_tree

zip-name : (v : StoreValue) (o : Option Name) (m : Node ℕ) (n : Node File) (es : List (Name × Node ℕ)) (fs : List (Name × Node File)) → IsNode v m n → AllZip (IsNamed v) es fs
    → AllZip (IsNamed v) (elim o [ Some name ↦ (name, m) ∷ es | None ↦ es ]) (elim o [ Some name ↦ (name, n) ∷ fs | None ↦ fs ])
zip-name v None m n es fs node z = z
zip-name v (Some name) m n es fs node z = ((refl, node), z)

-- a directory has the same entries in both
pub zip-within : (v : StoreValue) (way : List Name) (es : Tree ℕ) (fs : Tree File) → AllZip (IsEntry v) es fs → AllZip (IsNamed v) (entries_within es way) (entries_within fs way)
zip-within v way [] [] z = tt
zip-within v way [] (f ∷ fs) z = absurd z
zip-within v way (e ∷ es) [] z = absurd z
zip-within v way (e ∷ es) (f ∷ fs) z =
    subst (λ (k : List Name). AllZip (IsNamed v) (entries_within (e ∷ es) way) (elim (name_within way k) [ Some name ↦ (name, f.1) ∷ entries_within fs way | None ↦ entries_within fs way ])) z.0.0
    (zip-name v (name_within way e.0) e.1 f.1 (entries_within es way) (entries_within fs way) z.0.1 (zip-within v way es fs z.1))

zip-first : (v : StoreValue) (last : Option Name) (es : List (Name × Node ℕ)) (fs : List (Name × Node File)) → AllZip (IsNamed v) es fs → IsNextThere v (first_behind last es) (first_behind last fs)
zip-first v last [] [] z = tt
zip-first v last [] (f ∷ fs) z = absurd z
zip-first v last (e ∷ es) [] z = absurd z
zip-first v last (e ∷ es) (f ∷ fs) z =
    let rest = zip-first v last es fs z.1 in
    subst (λ (name : Name). IsNextThere v (first_behind last (e ∷ es)) (cond (is_behind last name) (Some f) (first_behind last fs))) z.0.0
    (elim (is_behind last e.0) as (λ b. IsNextThere v (cond b (Some e) (first_behind last es)) (cond b (Some f) (first_behind last fs))) [ true ↦ z.0 | false ↦ rest ])

zip-length : (v : StoreValue) (es : List (Name × Node ℕ)) (fs : List (Name × Node File)) → AllZip (IsNamed v) es fs → length es ≡ length fs
zip-length v [] [] z = refl
zip-length v [] (f ∷ fs) z = absurd z
zip-length v (e ∷ es) [] z = absurd z
zip-length v (e ∷ es) (f ∷ fs) z = let r = zip-length v es fs z.1 in omega (arith, r)

none-has : (entries : List (Name × Node File)) → length entries ≡ 0 → has_entries entries ≡ false
none-has [] h = refl
none-has (e ∷ entries) h = absurd (omega arith)

some-has : (entries : List (Name × Node File)) → 1 ≤ length entries → has_entries entries ≡ true
some-has [] h = absurd (omega arith)
some-has (e ∷ entries) h = refl

module _ (v : StoreValue) (tree : Tree File) (t : IsTree v tree) where
  -- a directory has as many entries in both
  pub within-same : (way : List Name) → length (entries_within v.tree.nodes way) ≡ length (entries_within tree way)
  within-same way = zip-length v (entries_within v.tree.nodes way) (entries_within tree way) (zip-within v way v.tree.nodes tree t.entries)

  pub empty-within : (way : List Name) → entries_within v.tree.nodes way ≡ [] → has_entries (entries_within tree way) ≡ false
  empty-within way h =
      let same = within-same way in
      let none : length (entries_within v.tree.nodes way) ≡ 0 = subst (λ (entries : List (Name × Node ℕ)). length (entries_within v.tree.nodes way) ≡ length entries) h refl in
      none-has (entries_within tree way) (omega (arith, same, none))

  pub some-within : (way : List Name) → 1 ≤ length (entries_within v.tree.nodes way) → has_entries (entries_within tree way) ≡ true
  some-within way h = let same = within-same way in some-has (entries_within tree way) (omega (arith, same, h))

  -- a listing goes on with the same name in both
  pub next-same : (way : List Name) (last : Option Name) → IsNextThere v (next_entry v.tree.nodes way last) (next_entry tree way last)
  next-same way last = zip-first v last (entries_within v.tree.nodes way) (entries_within tree way) (zip-within v way v.tree.nodes tree t.entries)
