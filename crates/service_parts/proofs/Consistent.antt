-- Each change of names keeps the names of a tree consistent.
use Rattle.std.proofs.Common.{◌≡◌, ◌≢◌, ◌⊎◌, inl, inr, ⊎_elim, ℕ, zero, suc, ◌<◌, ◌≤◌, Bool, true, false, cond, not, List, [], ◌∷◌, length, Option, Some, None, refl, sym, ap, subst, ◌∙◌, arith, length-set, get_or-set_same, get_or-set_other}
use Rattle.std.proofs.lemmas.Bool.{cases_eq}
use Rattle.std.proofs.lemmas.List.{set-set}
use Rattle.std.specs.Prelude.{slice_set, unwrap_or}
use Rattle.std.specs.FinMap.Entries.{find, find-put}
use Rattle.std.specs.Ordering.{eq_by_cmp}
use Rattle.apex_types.specs.declared.numbers.DirNode.{DirNode}
use Rattle.apex_model.specs.Trees.{Name, Node, directory, file, Tree, path_cmp, standing_at, with_node, without_node}
use Rattle.apex_model.specs.Validity.{parent_of}
use Rattle.apex_model.proofs.Trees.{path_cmp_total, same_path}
use Rattle.file_tree.specs.Entries.{TreeValue, slot, way_of, with_file, with_directory, without_file, with_file_at, Place, in_file, in_directory, path_at, node_at, IsConsistent}
use Rattle.file_tree.proofs.Changes.{is_some, slot-within}
use Rattle.file_tree.proofs.Paths.{Changed, at_found, changed_directory, changed_file, directory_number, file_number, not_both, put_distinct, put_nodes, without_distinct, without_nodes}
use Rattle.file_tree.proofs.Ways.{not_some}
use Rattle.store_model.proofs.Entries.{find-without}

place_cases : (a b : Place) → (a ≡ b) ⊎ (a ≢ b)
place_cases (in_file a) (in_file b) = elim (cases_eq a b) [ inl e ↦ inl (ap in_file e) | inr n ↦ inr (λ e. n (file_number a b e)) ]
place_cases (in_directory a) (in_directory b) = elim (cases_eq a b) [ inl e ↦ inl (ap in_directory e) | inr n ↦ inr (λ e. n (directory_number a b e)) ]
place_cases (in_file a) (in_directory b) = inr (not_both a b)
place_cases (in_directory a) (in_file b) = inr (λ e. not_both b a (sym e))

-- something stands at the root
named : (tree : Tree ℕ) (path : List Name) → standing_at tree path ≡ None → 1 ≤ length path
named tree [] nothing = absurd (let wrong : ◌≡◌ {A = Option (Node ℕ)} (Some directory) None = nothing in cc)
named tree (name ∷ names) nothing = omega arith

standing-find : (tree : Tree ℕ) (path : List Name) → 1 ≤ length path → standing_at tree path ≡ find path_cmp path tree
standing-find tree [] some = absurd (omega (arith, some))
standing-find tree (name ∷ names) some = refl

-- a directory stands on where something is put at a path at which nothing stood
directory-put : (tree : Tree ℕ) (path other : List Name) (node : Node ℕ) → standing_at tree path ≡ None → standing_at tree other ≡ Some directory → standing_at (with_node tree path node) other ≡ Some directory
directory-put tree path [] node nothing stands = refl
directory-put tree path (name ∷ names) node nothing stands =
    find-put path_cmp path_cmp_total (name ∷ names) path node tree
    ∙ (elim (eq_by_cmp path_cmp (name ∷ names) path) as (λ b. eq_by_cmp path_cmp (name ∷ names) path ≡ b → cond b (Some node) (find path_cmp (name ∷ names) tree) ≡ Some directory) [
      | true ↦ λ same. absurd (let wrong : ◌≡◌ {A = Option (Node ℕ)} (Some directory) None = sym stands ∙ ap (standing_at tree) (same_path (name ∷ names) path same) ∙ nothing in cc)
      | false ↦ λ other. stands
    ]) refl

-- and where something else is taken away
directory-without : (tree : Tree ℕ) (path other : List Name) → path ≢ other → standing_at tree other ≡ Some directory → standing_at (without_node tree path) other ≡ Some directory
directory-without tree path [] apart stands = refl
directory-without tree path (name ∷ names) apart stands =
    find-without (name ∷ names) path tree
    ∙ (elim (eq_by_cmp path_cmp path (name ∷ names)) as (λ b. eq_by_cmp path_cmp path (name ∷ names) ≡ b → cond (not b) (find path_cmp (name ∷ names) tree) None ≡ Some directory) [
      | true ↦ λ same. absurd (apart (same_path path (name ∷ names) same))
      | false ↦ λ other. stands
    ]) refl

module _ (v : TreeValue) (c : IsConsistent v) where
  -- what stands at an entry's path
  standing : (a : Place) (path : List Name) → path_at v.files v.directories a ≡ Some path → standing_at v.nodes path ≡ Some (node_at a)
  standing a path at = standing-find v.nodes path (c.some a path at) ∙ ap (find path_cmp path) c.nodes_are ∙ at_found v.files v.directories c.distinct a path at

  -- the way of a directory leads to one
  pub way-directory : (d : ℕ) (way : List Name) → way_of v d ≡ Some way → standing_at v.nodes way ≡ Some directory
  way-directory zero way leads = let root : [] ≡ way = cc in ap (standing_at v.nodes) (sym root)
  way-directory (suc d) way leads = standing (in_directory d) way leads

  module _ (files directories : List (Option (List Name))) (stored : List (Option (ℕ × ℕ))) (a : Place) (path : List Name) where
    -- an unused entry gets a path
    pub put-consistent : Changed v.files v.directories files directories a (Some path) → standing_at v.nodes path ≡ None → length path ≤ 6 → standing_at v.nodes (parent_of path) ≡ Some directory → path_at v.files v.directories a ≡ None
        → ((g : ℕ) (p : List Name) → slot files g ≡ Some p → slot stored g ≡ Some (unwrap_or (slot stored g) (0, 0)))
        → IsConsistent (record { nodes = with_node v.nodes path (node_at a); files = files; directories = directories; stored = stored })
    put-consistent ch nothing few parent unused stored_is =
        let some = named v.nodes path nothing in
        let fresh : (b : Place) → path_at v.files v.directories b ≢ Some path = λ b at. not_some (sym nothing ∙ standing b path at) in
        let each : (P : List Name → Type 0) → P path → ((b : Place) (q : List Name) → path_at v.files v.directories b ≡ Some q → P q) → (b : Place) (q : List Name) → path_at files directories b ≡ Some q → P q
        = λ P here there b q at. ⊎_elim
        (λ same. let both : Some path ≡ Some q = sym ch.here ∙ ap (path_at files directories) (sym same) ∙ at in let is : path ≡ q = cc in subst P is here)
        (λ other. there b q (sym (ch.there b other) ∙ at))
        (place_cases b a) in
        record {
          nodes_are = ap (λ (t : Tree ℕ). with_node t path (node_at a)) c.nodes_are ∙ sym (put_nodes v.files v.directories files directories a path c.distinct ch fresh unused);
          distinct = put_distinct v.files v.directories files directories a path c.distinct ch fresh;
          some = each (λ q. 1 ≤ length q) some c.some;
          few = each (λ q. length q ≤ 6) few c.few;
          parent = each (λ q. standing_at (with_node v.nodes path (node_at a)) (parent_of q) ≡ Some directory) (directory-put v.nodes path (parent_of path) (node_at a) nothing parent)
              (λ b q at. directory-put v.nodes path (parent_of q) (node_at a) nothing (c.parent b q at));
          stored = stored_is;
        }

    -- an entry loses its path
    pub without-consistent : Changed v.files v.directories files directories a None → path_at v.files v.directories a ≡ Some path → ((b : Place) (q : List Name) → path_at v.files v.directories b ≡ Some q → path ≢ parent_of q)
        → ((g : ℕ) (p : List Name) → slot files g ≡ Some p → slot stored g ≡ Some (unwrap_or (slot stored g) (0, 0)))
        → IsConsistent (record { nodes = without_node v.nodes path; files = files; directories = directories; stored = stored })
    without-consistent ch was childless stored_is =
        let old : (b : Place) (q : List Name) → path_at files directories b ≡ Some q → path_at v.files v.directories b ≡ Some q
        = λ b q at. ⊎_elim
        (λ same. absurd (not_some (sym ch.here ∙ ap (path_at files directories) (sym same) ∙ at)))
        (λ other. sym (ch.there b other) ∙ at)
        (place_cases b a) in
        record {
          nodes_are = ap (λ (t : Tree ℕ). without_node t path) c.nodes_are ∙ sym (without_nodes v.files v.directories files directories a path c.distinct ch was);
          distinct = without_distinct v.files v.directories files directories a path c.distinct ch was;
          some = λ b q at. c.some b q (old b q at);
          few = λ b q at. c.few b q (old b q at);
          parent = λ b q at. directory-without v.nodes path (parent_of q) (childless b q (old b q at)) (c.parent b q (old b q at));
          stored = stored_is;
        }

  -- what is stored of entries, where one of them changes
  stored-set : (f : ℕ) (paths : List (Option (List Name))) (new : Option (ℕ × ℕ)) → ((g : ℕ) (p : List Name) → g ≢ f → slot paths g ≡ Some p → slot v.files g ≡ Some p)
      → ((p : List Name) → slot paths f ≡ Some p → slot (slice_set v.stored f new) f ≡ Some (unwrap_or (slot (slice_set v.stored f new) f) (0, 0)))
      → (g : ℕ) (p : List Name) → slot paths g ≡ Some p → slot (slice_set v.stored f new) g ≡ Some (unwrap_or (slot (slice_set v.stored f new) g) (0, 0))
  stored-set f paths new old here g p at = ⊎_elim
      (λ same. subst (λ (h : ℕ). slot (slice_set v.stored f new) h ≡ Some (unwrap_or (slot (slice_set v.stored f new) h) (0, 0))) (sym same) (here p (ap (slot paths) (sym same) ∙ at)))
      (λ other. let kept : slot (slice_set v.stored f new) g ≡ slot v.stored g = get_or-set_other v.stored f g new None other in
      kept ∙ c.stored g p (old g p other at) ∙ ap (λ (o : Option (ℕ × ℕ)). Some (unwrap_or o (0, 0))) (sym kept))
      (cases_eq g f)

  -- the path of another file's entry stays
  other-file : (f : ℕ) (o : Option (List Name)) (g : ℕ) (p : List Name) → g ≢ f → slot (slice_set v.files f o) g ≡ Some p → slot v.files g ≡ Some p
  other-file f o g p other at = sym (get_or-set_other v.files f g o None other) ∙ at

  module _ (path : List Name) (parent : DirNode) (leads : way_of v parent.0 ≡ Some (parent_of path)) (nothing : standing_at v.nodes path ≡ None) (few : length path ≤ 6) where
    pub with_file-consistent : (f : ℕ) → slot v.files f ≡ None → f < length v.files → length v.stored ≡ length v.files → IsConsistent (with_file v f path)
    with_file-consistent f unused within long =
        put-consistent (slice_set v.files f (Some path)) v.directories (slice_set v.stored f (Some (0, 0))) (in_file f) path (changed_file v.files v.directories f (Some path) within) nothing few
        (way-directory parent.0 (parent_of path) leads) unused
        (stored-set f (slice_set v.files f (Some path)) (Some (0, 0)) (other-file f (Some path))
        (λ p at. let low : f < length v.stored = omega (arith, within, long) in
        let here : slot (slice_set v.stored f (Some (0, 0))) f ≡ Some (0, 0) = get_or-set_same v.stored f (Some (0, 0)) None low in
        here ∙ ap (λ (o : Option (ℕ × ℕ)). Some (unwrap_or o (0, 0))) (sym here)))

    pub with_directory-consistent : (d : ℕ) → slot v.directories d ≡ None → d < length v.directories → IsConsistent (with_directory v d path)
    with_directory-consistent d unused within =
        put-consistent v.files (slice_set v.directories d (Some path)) v.stored (in_directory d) path (changed_directory v.files v.directories d (Some path) within) nothing few
        (way-directory parent.0 (parent_of path) leads) unused c.stored

  -- no entry's parent is a file
  no-parent : (f : ℕ) (path : List Name) → slot v.files f ≡ Some path → (b : Place) (q : List Name) → path_at v.files v.directories b ≡ Some q → path ≢ parent_of q
  no-parent f path was b q at same =
      let wrong : ◌≡◌ {A = Option (Node ℕ)} (Some (file f)) (Some directory) = sym (standing (in_file f) path was) ∙ ap (standing_at v.nodes) same ∙ c.parent b q at in absurd cc

  pub without_file-consistent : (f : ℕ) (path : List Name) → slot v.files f ≡ Some path → IsConsistent (without_file v f path)
  without_file-consistent f path was =
      let within = slot-within v.files f (is_some was) in
      without-consistent (slice_set v.files f None) v.directories (slice_set v.stored f None) (in_file f) path (changed_file v.files v.directories f None within) was (no-parent f path was)
      (stored-set f (slice_set v.files f None) None (other-file f None) (λ p at. absurd (not_some (sym (get_or-set_same v.files f None None within) ∙ at))))

-- a file's entry at another path: without the one it had, and then with the other
pub with_file_at-consistent : (v : TreeValue) → IsConsistent v → (f : ℕ) (from to : List Name) (parent : DirNode) → slot v.files f ≡ Some from → way_of v parent.0 ≡ Some (parent_of to) → standing_at v.nodes to ≡ None → length to ≤ 6
    → IsConsistent (with_file_at v f from to)
with_file_at-consistent v c f from to parent was leads nothing few =
    let within = slot-within v.files f (is_some was) in
    let u = without_file v f from in
    let gone = without_file-consistent v c f from was in
    let some = named v.nodes to nothing in
    let nothing_left : standing_at u.nodes to ≡ None
    = standing-find u.nodes to some ∙ find-without to from v.nodes
    ∙ ap (λ (o : Option (Node ℕ)). cond (not (eq_by_cmp path_cmp from to)) o None) (sym (standing-find v.nodes to some) ∙ nothing) ∙ none-either (not (eq_by_cmp path_cmp from to)) in
    let leads_still : standing_at u.nodes (parent_of to) ≡ Some directory
    = directory-without v.nodes from (parent_of to) (λ same.
    let wrong : ◌≡◌ {A = Option (Node ℕ)} (Some (file f)) (Some directory) = sym (standing v c (in_file f) from was) ∙ ap (standing_at v.nodes) same ∙ way-directory v c parent.0 (parent_of to) leads in absurd cc)
    (way-directory v c parent.0 (parent_of to) leads) in
    let low : f < length u.files = subst (λ n. f < n) (sym (length-set v.files f None)) within in
    let twice : slice_set (slice_set v.files f None) f (Some to) ≡ slice_set v.files f (Some to) = set-set v.files f None (Some to) in
    let kept : (g : ℕ) (p : List Name) → slot (slice_set u.files f (Some to)) g ≡ Some p → slot v.stored g ≡ Some (unwrap_or (slot v.stored g) (0, 0))
    = λ g p at. ⊎_elim
    (λ same. subst (λ (h : ℕ). slot v.stored h ≡ Some (unwrap_or (slot v.stored h) (0, 0))) (sym same) (c.stored f from was))
    (λ other. c.stored g p (sym (get_or-set_other v.files f g None None other) ∙ sym (get_or-set_other u.files f g (Some to) None other) ∙ at))
    (cases_eq g f) in
    let made = put-consistent u gone (slice_set u.files f (Some to)) v.directories v.stored (in_file f) to (changed_file u.files v.directories f (Some to) low) nothing_left few leads_still
    (get_or-set_same v.files f None None within) kept in
    subst (λ (files : List (Option (List Name))). IsConsistent (record { nodes = with_node u.nodes to (file f); files = files; directories = v.directories; stored = v.stored })) twice made
  where
    none-either : (b : Bool) → ◌≡◌ {A = Option (Node ℕ)} (cond b None None) None
    none-either true = refl
    none-either false = refl
