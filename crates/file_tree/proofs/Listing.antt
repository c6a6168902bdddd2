-- What stands directly in a directory, in the order of the names.
use Rattle.std.proofs.Common.{◌≡◌, ◌≢◌, ℕ, ◌≤◌, Bool, true, false, cond, T, ◌&&◌, List, [], ◌∷◌, ◌++◌, length, refl, sym, ap, subst, ◌∙◌, Option, Some, None, arith}
use Rattle.std.specs.Prelude.{bytes_eq}
use Rattle.std.specs.declared.cmp.Ordering.{Ordering}
use Rattle.std.specs.declared.cmp.Ordering.TheVariants.{Less, Equal, Greater}
use Rattle.std.specs.Cmp.{tied_itself}
use Rattle.std.specs.Cmp.Lexicographic.{same_text, nat_list_cmp_total}
use Rattle.std.specs.Ordering.{is_lt, eq_by_cmp, ordering_reverse, ordering_then}
use Rattle.std.specs.FinMap.{slice_cmp-IsAntisymmetric, nat_cmp-IsAntisymmetric}
use Rattle.std.specs.FinMap.Entries.{find, is_sorted, below_all}
use Rattle.apex_model.specs.Trees.{Name, Node, Tree, name_cmp, path_cmp, name_within, is_behind, entries_within, first_behind, next_entry}
use Rattle.apex_model.proofs.Trees.{same_path}
use Rattle.file_tree.proofs.Paths.{same_is}
use Rattle.file_tree.proofs.Children.{same-end, same-bytes}

pub same_name : (a b : Name) → name_cmp a b ≡ Equal → a ≡ b
same_name a b h = slice_cmp-IsAntisymmetric nat_cmp-IsAntisymmetric a b h

pub turned : (a b : Name) → name_cmp a b ≡ ordering_reverse (name_cmp b a)
turned a b = nat_list_cmp_total.antisymm a b

within-end : (way : List Name) (name : Name) → name_within way (way ++ name ∷ []) ≡ Some name
within-end [] name = refl
within-end (d ∷ way) name = ap (λ b. cond b (name_within way (way ++ name ∷ [])) None) (same-bytes d) ∙ within-end way name

within-is : (way path : List Name) (name : Name) → name_within way path ≡ Some name → path ≡ way ++ name ∷ []
within-is [] [] name h = absurd (let e : ◌≡◌ {A = Option Name} None (Some name) = h in cc)
within-is [] (a ∷ []) name h = let e : a ≡ name = cc in ap (λ (n : Name). n ∷ []) e
within-is [] (a ∷ b ∷ path) name h = absurd (let e : ◌≡◌ {A = Option Name} None (Some name) = h in cc)
within-is (d ∷ way) [] name h = absurd (let e : ◌≡◌ {A = Option Name} None (Some name) = h in cc)
within-is (d ∷ way) (a ∷ path) name h =
    (elim (bytes_eq d a) as (λ b. bytes_eq d a ≡ b → cond b (name_within way path) None ≡ Some name → a ∷ path ≡ d ∷ (way ++ name ∷ [])) [
      | true ↦ λ t is. let first : d ≡ a = same_text d a (sym t) in let rest = within-is way path name is in λ i. sym first i ∷ rest i
      | false ↦ λ t is. absurd (let e : ◌≡◌ {A = Option Name} None (Some name) = is in cc)
    ]) refl h

then-equal : (o : Ordering) → ordering_then o Equal ≡ o
then-equal Less = refl
then-equal Equal = refl
then-equal Greater = refl

-- paths in one directory are in the order of their last names
order-end : (way : List Name) (a b : Name) → path_cmp (way ++ a ∷ []) (way ++ b ∷ []) ≡ name_cmp a b
order-end [] a b = then-equal (name_cmp a b)
order-end (d ∷ way) a b = ap (λ o. ordering_then o (path_cmp (way ++ a ∷ []) (way ++ b ∷ []))) (tied_itself nat_list_cmp_total d) ∙ order-end way a b

less-is : (o : Ordering) → T (is_lt o) → o ≡ Less
less-is Less h = refl
less-is Equal h = absurd h
less-is Greater h = absurd h

first-of : (a b : Bool) → T (a && b) → T a
first-of true b h = tt
first-of false b h = absurd h

second-of : (a b : Bool) → T (a && b) → T b
second-of true b h = h
second-of false b h = absurd h

below-found : (k q : List Name) (x : Node ℕ) (tree : Tree ℕ) → T (below_all path_cmp k tree) → find path_cmp q tree ≡ Some x → path_cmp k q ≡ Less
below-found k q x [] h is = absurd (let e : ◌≡◌ {A = Option (Node ℕ)} None (Some x) = is in cc)
below-found k q x (e ∷ tree) h is =
    (elim (eq_by_cmp path_cmp q e.0) as (λ b. eq_by_cmp path_cmp q e.0 ≡ b → cond b (Some e.1) (find path_cmp q tree) ≡ Some x → path_cmp k q ≡ Less) [
      | true ↦ λ t _. ap (path_cmp k) (same_path q e.0 t) ∙ less-is (path_cmp k e.0) (first-of (is_lt (path_cmp k e.0)) (below_all path_cmp k tree) h)
      | false ↦ λ t found. below-found k q x tree (second-of (is_lt (path_cmp k e.0)) (below_all path_cmp k tree) h) found
    ]) refl is

-- another path than the first entry's is found behind it
found-behind : (q : List Name) (e : List Name × Node ℕ) (tree : Tree ℕ) → q ≢ e.0 → find path_cmp q (e ∷ tree) ≡ find path_cmp q tree
found-behind q e tree n =
    (elim (eq_by_cmp path_cmp q e.0) as (λ b. eq_by_cmp path_cmp q e.0 ≡ b → cond b (Some e.1) (find path_cmp q tree) ≡ find path_cmp q tree) [
      | true ↦ λ t. absurd (n (same_path q e.0 t))
      | false ↦ λ t. refl
    ]) refl

found-first : (q : List Name) (e : List Name × Node ℕ) (tree : Tree ℕ) → q ≡ e.0 → find path_cmp q (e ∷ tree) ≡ Some e.1
found-first q e tree same = ap (λ b. cond b (Some e.1) (find path_cmp q tree)) (ap (eq_by_cmp path_cmp q) (sym same) ∙ same_is q)

end-name : (way : List Name) (a b : Name) → way ++ a ∷ [] ≡ way ++ b ∷ [] → a ≡ b
end-name way a b h = (same-end way way a b h).1

-- the least name of what stands behind the last one given
pub record IsNext (tree : Tree ℕ) (way : List Name) (after : Option Name) (name : Name) (node : Node ℕ) : Type 0 where
  pub stands : find path_cmp (way ++ name ∷ []) tree ≡ Some node
  pub behind : is_behind after name ≡ true
  pub least : (m : Name) (y : Node ℕ) → find path_cmp (way ++ m ∷ []) tree ≡ Some y → is_behind after m ≡ true → name_cmp name m ≢ Greater

skipped : (e : List Name × Node ℕ) (tree : Tree ℕ) (way : List Name) (after : Option Name) (name : Name) (node : Node ℕ) → way ++ name ∷ [] ≢ e.0
    → ((m : Name) → is_behind after m ≡ true → way ++ m ∷ [] ≢ e.0) → IsNext (e ∷ tree) way after name node → IsNext tree way after name node
skipped e tree way after name node n others next = record {
  stands = sym (found-behind (way ++ name ∷ []) e tree n) ∙ next.stands;
  behind = next.behind;
  least = λ m y h b. next.least m y (found-behind (way ++ m ∷ []) e tree (others m b) ∙ h) b;
}

pub next-is : (tree : Tree ℕ) (way : List Name) (after : Option Name) (name : Name) (node : Node ℕ) → T (is_sorted path_cmp tree) → IsNext tree way after name node
    → next_entry tree way after ≡ Some (name, node)
next-is [] way after name node sorted next = absurd (let e : ◌≡◌ {A = Option (Node ℕ)} None (Some node) = next.stands in cc)
next-is (e ∷ tree) way after name node sorted next =
    let rest = second-of (below_all path_cmp e.0 tree) (is_sorted path_cmp tree) sorted in
    (elim (name_within way e.0) as (λ o. name_within way e.0 ≡ o → first_behind after (elim o [ Some m ↦ (m, e.1) ∷ entries_within tree way | None ↦ entries_within tree way ]) ≡ Some (name, node)) [
      | None ↦ λ out.
          let apart : (m : Name) → way ++ m ∷ [] ≢ e.0 = λ m same. (let wrong : ◌≡◌ {A = Option Name} None (Some m) = sym out ∙ ap (name_within way) (sym same) ∙ within-end way m in cc) in
          next-is tree way after name node rest (skipped e tree way after name node (apart name) (λ m _. apart m) next)
      | Some m ↦ λ at.
          let key : e.0 ≡ way ++ m ∷ [] = within-is way e.0 m at in
          (elim (is_behind after m) as (λ b. is_behind after m ≡ b → cond b (Some (m, e.1)) (first_behind after (entries_within tree way)) ≡ Some (name, node)) [
            | true ↦ λ t.
                (elim (eq_by_cmp path_cmp (way ++ name ∷ []) e.0) as (λ b. eq_by_cmp path_cmp (way ++ name ∷ []) e.0 ≡ b → ◌≡◌ {A = Option (Name × Node ℕ)} (Some (m, e.1)) (Some (name, node))) [
                  | true ↦ λ tie.
                      let same : way ++ name ∷ [] ≡ e.0 = same_path (way ++ name ∷ []) e.0 tie in
                      let names : name ≡ m = end-name way name m (same ∙ key) in
                      let value : Some e.1 ≡ Some node = sym (found-first (way ++ name ∷ []) e tree same) ∙ next.stands in
                      let nodes : e.1 ≡ node = cc in
                      λ i. Some (sym names i, nodes i)
                  | false ↦ λ tie.
                      let other : way ++ name ∷ [] ≢ e.0 = λ same. (let wrong : true ≡ false = sym (ap (eq_by_cmp path_cmp (way ++ name ∷ [])) (sym same) ∙ same_is (way ++ name ∷ [])) ∙ tie in cc) in
                      let later : find path_cmp (way ++ name ∷ []) tree ≡ Some node = sym (found-behind (way ++ name ∷ []) e tree other) ∙ next.stands in
                      let less : path_cmp e.0 (way ++ name ∷ []) ≡ Less = below-found e.0 (way ++ name ∷ []) node tree (first-of (below_all path_cmp e.0 tree) (is_sorted path_cmp tree) sorted) later in
                      let before : name_cmp m name ≡ Less = sym (order-end way m name) ∙ ap (λ (p : List Name). path_cmp p (way ++ name ∷ [])) (sym key) ∙ less in
                      absurd (next.least m e.1 (found-first (way ++ m ∷ []) e tree (sym key)) t (turned name m ∙ ap ordering_reverse before))
                ]) refl
            | false ↦ λ t.
                let apart : (n : Name) → is_behind after n ≡ true → way ++ n ∷ [] ≢ e.0 = λ n b same. (let wrong : true ≡ false = sym b ∙ ap (is_behind after) (end-name way n m (same ∙ key)) ∙ t in cc) in
                next-is tree way after name node rest (skipped e tree way after name node (apart name next.behind) apart next)
          ]) refl
    ]) refl

pub next-none : (tree : Tree ℕ) (way : List Name) (after : Option Name) → T (is_sorted path_cmp tree)
    → ((m : Name) (y : Node ℕ) → find path_cmp (way ++ m ∷ []) tree ≡ Some y → is_behind after m ≡ false) → next_entry tree way after ≡ None
next-none [] way after sorted h = refl
next-none (e ∷ tree) way after sorted h =
    let rest = second-of (below_all path_cmp e.0 tree) (is_sorted path_cmp tree) sorted in
    let tail : (m : Name) (y : Node ℕ) → find path_cmp (way ++ m ∷ []) tree ≡ Some y → is_behind after m ≡ false
    = λ m y found. (elim (eq_by_cmp path_cmp (way ++ m ∷ []) e.0) as (λ b. eq_by_cmp path_cmp (way ++ m ∷ []) e.0 ≡ b → is_behind after m ≡ false) [
      | true ↦ λ tie. h m e.1 (found-first (way ++ m ∷ []) e tree (same_path (way ++ m ∷ []) e.0 tie))
      | false ↦ λ tie. h m y (ap (λ b. cond b (Some e.1) (find path_cmp (way ++ m ∷ []) tree)) tie ∙ found)
    ]) refl in
    (elim (name_within way e.0) as (λ o. name_within way e.0 ≡ o → first_behind after (elim o [ Some m ↦ (m, e.1) ∷ entries_within tree way | None ↦ entries_within tree way ]) ≡ None) [
      | None ↦ λ out. next-none tree way after rest tail
      | Some m ↦ λ at.
          ap (λ b. cond b (Some (m, e.1)) (first_behind after (entries_within tree way))) (h m e.1 (found-first (way ++ m ∷ []) e tree (sym (within-is way e.0 m at)))) ∙ next-none tree way after rest tail
    ]) refl

-- without a first entry nothing stands in a directory
pub nothing-within : (entries : List (Name × Node ℕ)) → first_behind None entries ≡ None → entries ≡ []
nothing-within [] h = refl
nothing-within (e ∷ entries) h = absurd (let wrong : ◌≡◌ {A = Option (Name × Node ℕ)} (Some e) None = h in cc)

pub something-within : (entries : List (Name × Node ℕ)) (e : Name × Node ℕ) → first_behind None entries ≡ Some e → 1 ≤ length entries
something-within [] e h = absurd (let wrong : ◌≡◌ {A = Option (Name × Node ℕ)} None (Some e) = h in cc)
something-within (f ∷ entries) e h = omega arith

-- what stands in a directory is among its entries
pub found-within : (tree : Tree ℕ) (way : List Name) (name : Name) (x : Node ℕ) → find path_cmp (way ++ name ∷ []) tree ≡ Some x → entries_within tree way ≢ []
found-within [] way name x h none = absurd (let e : ◌≡◌ {A = Option (Node ℕ)} None (Some x) = h in cc)
found-within (e ∷ tree) way name x h none =
    (elim (name_within way e.0) as (λ o. name_within way e.0 ≡ o → ◌≡◌ {A = List (Name × Node ℕ)} (elim o [ Some m ↦ (m, e.1) ∷ entries_within tree way | None ↦ entries_within tree way ]) [] → ⊥) [
      | None ↦ λ out is.
          let apart : way ++ name ∷ [] ≢ e.0 = λ same. (let wrong : ◌≡◌ {A = Option Name} None (Some name) = sym out ∙ ap (name_within way) (sym same) ∙ within-end way name in cc) in
          found-within tree way name x (sym (found-behind (way ++ name ∷ []) e tree apart) ∙ h) is
      | Some m ↦ λ at is. absurd (let e : 1 ≤ 0 = subst (λ (es : List (Name × Node ℕ)). 1 ≤ length es) is (omega arith) in omega arith)
    ]) refl none
