-- The names of entries are spelled, and so are those on their paths.
use Rattle.std.proofs.Common.{◌≡◌, ℕ, zero, suc, ◌+◌, ◌<◌, inl, inr, length, arith, get_or-set_same, get_or-set_other, List, [], ◌∷◌, set, replicate, sym, subst, ◌∙◌, Option, Some, None, IsTrue}
use Rattle.std.proofs.lemmas.Bool.{cases_lt}
use Rattle.std.proofs.lemmas.List.{get_or_past}
use Rattle.std.specs.Prelude.{option_map}
use Rattle.std.specs.List.{AllByRecursion}
use Rattle.apex_types.specs.Naming.{is_name}
use Rattle.apex_model.specs.Trees.{Name}
use Rattle.apex_model.proofs.Keeps.{all-append}
use Rattle.file_tree.specs.declared.entries.Entry.{Entry}
use Rattle.file_tree.specs.Entries.{slot, in_file, in_directory, AreSpelled}
use Rattle.file_tree.specs.Table.{path_of, way, entry_with, value_of, HasName, HaveNames}
use Rattle.file_tree.proofs.Ways.{path-some, way-root, way-directory, way-none, slot-paths}

abbrev IsSpelled : List Name → Type 0
IsSpelled path = AllByRecursion (λ name. IsTrue (is_name name)) path

-- unused entries have no name
pub names-none : (n : ℕ) → HaveNames (replicate n None)
names-none zero i = tt
names-none (suc n) zero = tt
names-none (suc n) (suc i) = names-none n i

pub names-set : (entries : List (Option Entry)) (k : ℕ) (place : Option Entry) → HaveNames entries → HasName place → HaveNames (set entries k place)
names-set [] k place old new i = old i
names-set (x ∷ entries) zero place old new zero = new
names-set (x ∷ entries) zero place old new (suc i) = old (suc i)
names-set (x ∷ entries) (suc k) place old new zero = old zero
names-set (x ∷ entries) (suc k) place old new (suc i) = names-set entries k place (λ j. old (suc j)) new i

-- the first entries have names, and one more
pub names-next : (entries : List (Option Entry)) (k : ℕ) (place : Option Entry) → k < length entries → ((j : ℕ) → j < k → HasName (slot entries j)) → HasName place
    → (j : ℕ) → j < k + 1 → HasName (slot (set entries k place) j)
names-next entries k place room old new j less = elim (cases_lt j k) [
  | inl before ↦ subst HasName (sym (get_or-set_other entries k j place None (λ e. omega (arith, before, e)))) (old j before)
  | inr not_before ↦
      let here : k ≡ j = omega (arith, less, not_before) in
      subst (λ i. HasName (slot (set entries k place) i)) here (subst HasName (sym (get_or-set_same entries k place None room)) new)
]

-- where each entry has its name, nothing past the end lacks one
pub names-all : (entries : List (Option Entry)) → ((j : ℕ) → j < length entries → HasName (slot entries j)) → HaveNames entries
names-all entries all i = elim (cases_lt i (length entries)) [
  | inl within ↦ all i within
  | inr past ↦ subst HasName (sym (get_or_past entries i None past)) tt
]

-- an entry keeps its name where something else is stored of it
pub name-with : (stored : ℕ × ℕ) (place : Option Entry) → HasName place → HasName (option_map (entry_with stored) place)
name-with stored None h = tt
name-with stored (Some entry) h = h

-- the names on the path of an entry
path-spelled : (ways : ℕ → Option (List Name)) (place : Option Entry) (path : List Name) → HasName place
    → ((d : ℕ) (w : List Name) → ways d ≡ Some w → IsSpelled w) → path_of ways place ≡ Some path → IsSpelled path
path-spelled ways place path named spelled h =
    let n = path-some ways place path h in
    subst IsSpelled (sym n.path_is)
    (all-append (λ name. IsTrue (is_name name)) n.before (n.entry.name ∷ []) (spelled n.entry.parent.0 n.before n.way_is) (subst HasName n.is named, tt))

way-spelled : (directories : List (Option Entry)) → HaveNames directories → (depth d : ℕ) (w : List Name) → way directories depth d ≡ Some w → IsSpelled w
way-spelled directories named depth zero w h =
    let root : Some [] ≡ Some w = sym (way-root directories depth) ∙ h in
    let e : [] ≡ w = cc in subst IsSpelled e tt
way-spelled directories named zero (suc d) w h = absurd (way-none directories d w h)
way-spelled directories named (suc depth) (suc d) w h =
    path-spelled (way directories depth) (slot directories d) w (named d) (way-spelled directories named depth) (sym (way-directory directories depth d) ∙ h)

-- each path of a tree has names that are spelled
pub spelled : (files directories : List (Option Entry)) → HaveNames files → HaveNames directories → AreSpelled (value_of files directories)
unfolding value_of
spelled files directories file_names directory_names (in_file f) path h =
    path-spelled (way directories 5) (slot files f) path (file_names f) (way-spelled directories directory_names 5) (sym (slot-paths directories files f) ∙ h)
spelled files directories file_names directory_names (in_directory d) path h =
    path-spelled (way directories 5) (slot directories d) path (directory_names d) (way-spelled directories directory_names 5) (sym (slot-paths directories directories d) ∙ h)
