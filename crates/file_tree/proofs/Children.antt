-- What stands at a name of a directory.
use Rattle.std.proofs.Common.{◌≡◌, ◌≢◌, ℕ, zero, suc, ◌+◌, ◌-◌, ◌<◌, ◌≤◌, Bool, true, false, cond, ◌&&◌, eqb, List, [], ◌∷◌, ◌++◌, length, take, refl, sym, ap, ◌∙◌, Option, Some, None, IsSome, arith, length-append}
use Rattle.std.proofs.lemmas.Bool.{eqb-true, eq-eqb}
use Rattle.std.proofs.lemmas.Iterator.Adapters.{position_from-zero}
use Rattle.std.specs.Prelude.{bytes_eq, unwrap_or, position, slice_get}
use Rattle.std.specs.Cmp.Lexicographic.{same_text}
use Rattle.std.specs.List.{position_from, range_with_len}
use Rattle.std.specs.Option.{option_or}
use Rattle.std.specs.FinMap.Entries.{find}
use Rattle.apex_model.specs.Trees.{Name, Node, directory, file, Tree, path_cmp, standing_at, first_answer, obstacle, walk}
use Rattle.apex_model.specs.Validity.{parent_of}
use Rattle.apex_types.specs.declared.codes.Errno.{Errno}
use Rattle.file_tree.specs.declared.entries.Entry.{Entry}
use Rattle.file_tree.specs.Entries.{TreeValue, slot, way_of, path_in, Place, in_file, in_directory, path_at, nodes_of, IsConsistent}
use Rattle.file_tree.specs.Table.{path_of, way, paths, value_of, HaveParents, AreSound, is_child}
use Rattle.file_tree.proofs.Paths.{Stands, found_stands, at_found, directory_number}
use Rattle.file_tree.proofs.Ways.{Named, path-made, path-some, way-root, way-directory, way-few, way-higher, slot-paths, way_of-value}
use Rattle.file_tree.proofs.Changes.{some_is, standing-below, stored-path}

-- ---- the place of a name

pub and-first : (a b : Bool) → (a && b) ≡ true → a ≡ true
and-first true b h = refl
and-first false b h = h

pub and-second : (a b : Bool) → (a && b) ≡ true → b ≡ true
and-second true b h = h
and-second false b h = absurd cc

-- an entry of this name in this directory
pub record ChildOf (parent : ℕ) (name : Name) (place : Option Entry) : Type 0 where
  pub entry : Entry
  pub is : place ≡ Some entry
  pub parent_is : entry.parent.0 ≡ parent
  pub name_is : entry.name ≡ name

child-true : (parent : ℕ) (name : Name) (place : Option Entry) → is_child parent name place ≡ true → ChildOf parent name place
child-true parent name None h = absurd (let e : false ≡ true = h in cc)
child-true parent name (Some entry) h = record {
  entry = entry;
  is = refl;
  parent_is = eqb-true _ _ (and-first (eqb entry.parent.0 parent) (bytes_eq entry.name name) h);
  name_is = same_text entry.name name (sym (and-second (eqb entry.parent.0 parent) (bytes_eq entry.name name) h));
}

pub same-bytes : (xs : List ℕ) → bytes_eq xs xs ≡ true
same-bytes [] = refl
same-bytes (x ∷ xs) = ap (λ b. b && bytes_eq xs xs) (eq-eqb x x refl) ∙ same-bytes xs

pub child-is : (parent : ℕ) (name : Name) (entry : Entry) → entry.parent.0 ≡ parent → entry.name ≡ name → is_child parent name (Some entry) ≡ true
child-is parent name entry p n = ap (λ b. b && bytes_eq entry.name name) (eq-eqb _ _ p) ∙ ap (bytes_eq entry.name) (sym n) ∙ same-bytes entry.name

seen : {A : Type 0} (test : Option A → Bool) (n k : ℕ) (xs : List (Option A)) → position_from test n xs ≡ Some k → (i : ℕ) × (k ≡ n + i) × (test (slot xs i) ≡ true)
seen test n k [] h = absurd (let e : ◌≡◌ {A = Option ℕ} None (Some k) = h in cc)
seen test n k (x ∷ xs) h =
    (elim (test x) as (λ b. test x ≡ b → cond b (Some n) (position_from test (n + 1) xs) ≡ Some k → (i : ℕ) × (k ≡ n + i) × (test (slot (x ∷ xs) i) ≡ true)) [
      | true ↦ λ t is. let e : n ≡ k = cc in (0, omega arith, t)
      | false ↦ λ t is. let r = seen test (n + 1) k xs is in (suc r.0, omega (arith, r.1), r.2)
    ]) refl h

unseen : {A : Type 0} (test : Option A → Bool) (n : ℕ) (xs : List (Option A)) → test None ≡ false → position_from test n xs ≡ None → (i : ℕ) → test (slot xs i) ≡ false
unseen test n [] none h i = none
unseen test n (x ∷ xs) none h i =
    (elim (test x) as (λ b. test x ≡ b → cond b (Some n) (position_from test (n + 1) xs) ≡ None → test (slot (x ∷ xs) i) ≡ false) [
      | true ↦ λ t is. absurd (let e : ◌≡◌ {A = Option ℕ} (Some n) None = is in cc)
      | false ↦ λ t is. at i t (unseen test (n + 1) xs none is)
    ]) refl h
  where
    at : (i : ℕ) → test x ≡ false → ((j : ℕ) → test (slot xs j) ≡ false) → test (slot (x ∷ xs) i) ≡ false
    at zero t rest = t
    at (suc j) t rest = rest j

pub place-child : (entries : List (Option Entry)) (parent : ℕ) (name : Name) (k : ℕ) → position (is_child parent name) entries ≡ Some k → ChildOf parent name (slot entries k)
place-child entries parent name k h =
    let r = seen (is_child parent name) 0 k entries (sym (position_from-zero (is_child parent name) entries) ∙ h) in
    let same : r.0 ≡ k = omega (arith, r.1) in
    child-true parent name (slot entries k) (ap (λ i. is_child parent name (slot entries i)) (sym same) ∙ r.2)

pub place-none : (entries : List (Option Entry)) (parent : ℕ) (name : Name) → position (is_child parent name) entries ≡ None → (i : ℕ) → is_child parent name (slot entries i) ≡ false
place-none entries parent name h = unseen (is_child parent name) 0 entries refl (sym (position_from-zero (is_child parent name) entries) ∙ h)

-- ---- the directory that a path leads to

pub no-end : {A : Type 0} (xs : List A) (x : A) → [] ≢ xs ++ x ∷ []
no-end xs x h = absurd (let e : 0 ≡ length xs + 1 = ap length h ∙ length-append xs (x ∷ []) in omega arith)

pub same-end : {A : Type 0} (xs ys : List A) (x y : A) → xs ++ x ∷ [] ≡ ys ++ y ∷ [] → (xs ≡ ys) × (x ≡ y)
same-end [] [] x y h = let e : x ≡ y = cc in (refl, e)
same-end [] (b ∷ ys) x y h = absurd (no-end ys y (let e : [] ≡ ys ++ y ∷ [] = cc in e))
same-end (a ∷ xs) [] x y h = absurd (no-end xs x (let e : xs ++ x ∷ [] ≡ [] = cc in sym e))
same-end (a ∷ xs) (b ∷ ys) x y h =
    let first : a ≡ b = cc in
    let rest : xs ++ x ∷ [] ≡ ys ++ y ∷ [] = cc in
    let r = same-end xs ys x y rest in
    ((λ i. first i ∷ r.0 i), r.1)

module _ (files directories : List (Option Entry)) (sound : AreSound files directories) where
  below-root : (d : ℕ) (w : List Name) → way directories 6 (suc d) ≡ Some w → w ≢ []
  below-root d w h e = let n = path-some (way directories 5) (slot directories d) w (sym (way-directory directories 5 d) ∙ h) in no-end n.before n.entry.name (sym e ∙ n.path_is)

  -- no two directories have the same path
  pub way-unique : (a b : ℕ) (w : List Name) → way directories 6 a ≡ Some w → way directories 6 b ≡ Some w → a ≡ b
  way-unique zero zero w h k = refl
  way-unique zero (suc b) w h k = absurd (below-root b w k (let e : Some w ≡ Some [] = sym h ∙ way-root directories 6 in cc))
  way-unique (suc a) zero w h k = absurd (below-root a w h (let e : Some w ≡ Some [] = sym k ∙ way-root directories 6 in cc))
  way-unique (suc a) (suc b) w h k = ap suc (directory_number a b (sound.distinct (in_directory a) (in_directory b) w
      (slot-paths directories directories a ∙ sym (way-directory directories 5 a) ∙ h)
      (slot-paths directories directories b ∙ sym (way-directory directories 5 b) ∙ k)))

  -- a child's path is that of its name in the directory
  pub child-path : (entries : List (Option Entry)) → HaveParents directories entries → (parent : ℕ) (w : List Name) → way directories 6 parent ≡ Some w → (name : Name) (k : ℕ)
      → ChildOf parent name (slot entries k) → slot (paths directories entries) k ≡ Some (w ++ name ∷ [])
  child-path entries parents parent w h name k child =
      let s = some_is (way directories 5 child.entry.parent.0) (parents k child.entry child.is) in
      let short : length s.0 ≤ 5 = way-few directories 5 child.entry.parent.0 s.0 s.1 in
      let room : length s.0 ≤ 6 = omega arith in
      let deep : way directories 6 child.entry.parent.0 ≡ Some s.0 = way-higher directories 5 6 child.entry.parent.0 s.0 s.1 room in
      let both : Some s.0 ≡ Some w = sym deep ∙ ap (way directories 6) child.parent_is ∙ h in
      let same : s.0 ≡ w = cc in
      slot-paths directories entries k ∙ ap (path_of (way directories 5)) child.is ∙ path-made (way directories 5) child.entry s.0 s.1
      ∙ (λ i. Some (same i ++ child.name_is i ∷ []))

  -- an entry with a path in a directory is a child of it
  pub path-child : (entries : List (Option Entry)) (parent : ℕ) (w : List Name) → way directories 6 parent ≡ Some w → (name : Name) (k : ℕ) → slot (paths directories entries) k ≡ Some (w ++ name ∷ [])
      → ChildOf parent name (slot entries k)
  path-child entries parent w h name k is =
      let n = path-some (way directories 5) (slot entries k) (w ++ name ∷ []) (sym (slot-paths directories entries k) ∙ is) in
      let ends = same-end w n.before name n.entry.name n.path_is in
      let short : length n.before ≤ 5 = way-few directories 5 n.entry.parent.0 n.before n.way_is in
      let room : length n.before ≤ 6 = omega arith in
      let deep : way directories 6 n.entry.parent.0 ≡ Some n.before = way-higher directories 5 6 n.entry.parent.0 n.before n.way_is room in
      record { entry = n.entry; is = n.is; parent_is = way-unique n.entry.parent.0 parent w (deep ∙ ap Some (sym ends.0)) h; name_is = sym ends.1 }

  -- where no entry has the name in the directory, nothing stands there
  pub no-child : (parent : ℕ) (w : List Name) → way directories 6 parent ≡ Some w → (name : Name) → position (is_child parent name) files ≡ None → position (is_child parent name) directories ≡ None
      → find path_cmp (w ++ name ∷ []) (nodes_of (paths directories files) (paths directories directories)) ≡ None
  no-child parent w h name no_file no_directory =
      (elim (find path_cmp (w ++ name ∷ []) (nodes_of (paths directories files) (paths directories directories))) as (λ o. find path_cmp (w ++ name ∷ []) (nodes_of (paths directories files) (paths directories directories)) ≡ o → o ≡ None) [
        | None ↦ λ e. refl
        | Some n ↦ λ e. absurd (nowhere (found_stands (paths directories files) (paths directories directories) (w ++ name ∷ []) n e))
      ]) refl
    where
      childless : (entries : List (Option Entry)) → position (is_child parent name) entries ≡ None → (i : ℕ) → slot (paths directories entries) i ≢ Some (w ++ name ∷ [])
      childless entries none i is =
          let child = path-child entries parent w h name i is in
          let yes : is_child parent name (slot entries i) ≡ true = ap (is_child parent name) child.is ∙ child-is parent name child.entry child.parent_is child.name_is in
          let wrong : true ≡ false = sym yes ∙ place-none entries parent name none i in cc

      at_place : (a : Place) → path_at (paths directories files) (paths directories directories) a ≢ Some (w ++ name ∷ [])
      at_place (in_file i) = childless files no_file i
      at_place (in_directory i) = childless directories no_directory i

      nowhere : {n : Node ℕ} → Stands (paths directories files) (paths directories directories) (w ++ name ∷ []) n → ⊥
      nowhere s = at_place s.place s.is

-- ---- as callers see it

-- a directory's path, and that of a name in it
pub record Inside (files directories : List (Option Entry)) (v : TreeValue) (parent : ℕ) (name : Name) : Type 0 where
  pub before : List Name
  pub way_is : way directories 6 parent ≡ Some before
  pub seen_is : way_of v parent ≡ Some before
  pub path_is : path_in v parent name ≡ before ++ name ∷ []

pub inside : (files directories : List (Option Entry)) (v : TreeValue) → value_of files directories ≡ v → (parent : ℕ) (name : Name) → IsSome (way_of v parent) → Inside files directories v parent name
inside files directories v is parent name used =
    let s = some_is (way_of v parent) used in
    record {
      before = s.0;
      way_is = sym (way_of-value files directories parent) ∙ ap (λ (v : TreeValue). way_of v parent) is ∙ s.1;
      seen_is = s.1;
      path_is = ap (λ (o : Option (List Name)). unwrap_or o [] ++ name ∷ []) s.1;
    }

-- what stands at the path of a name in a directory
standing-in : (files directories : List (Option Entry)) (v : TreeValue) → value_of files directories ≡ v → (before : List Name) (name : Name) (path : List Name) → path ≡ before ++ name ∷ [] → (o : Option (Node ℕ))
    → find path_cmp (before ++ name ∷ []) (nodes_of (paths directories files) (paths directories directories)) ≡ o → standing_at v.nodes path ≡ o
unfolding value_of
standing-in files directories v is before name path same o h =
    ap (λ (v : TreeValue). standing_at v.nodes path) (sym is)
    ∙ ap (standing_at (nodes_of (paths directories files) (paths directories directories))) same
    ∙ standing-below (nodes_of (paths directories files) (paths directories directories)) before name ∙ h

pub nothing_there : (files directories : List (Option Entry)) (v : TreeValue) → value_of files directories ≡ v → AreSound files directories → (parent : ℕ) (name : Name) → IsSome (way_of v parent)
    → position (is_child parent name) files ≡ None → position (is_child parent name) directories ≡ None → standing_at v.nodes (path_in v parent name) ≡ None
nothing_there files directories v is sound parent name used no_file no_directory =
    let r = inside files directories v is parent name used in
    standing-in files directories v is r.before name (path_in v parent name) r.path_is None (no-child files directories sound parent r.before r.way_is name no_file no_directory)

pub file_there : (files directories : List (Option Entry)) (v : TreeValue) → value_of files directories ≡ v → AreSound files directories → (parent : ℕ) (name : Name) → IsSome (way_of v parent)
    → (k : ℕ) → position (is_child parent name) files ≡ Some k → (slot v.files k ≡ Some (path_in v parent name)) × (standing_at v.nodes (path_in v parent name) ≡ Some (file k))
unfolding value_of
file_there files directories v is sound parent name used k h =
    let r = inside files directories v is parent name used in
    let p = child-path files directories sound files sound.file_parents parent r.before r.way_is name k (place-child files parent name k h) in (
      ap (λ (v : TreeValue). slot v.files k) (sym is) ∙ p ∙ ap Some (sym r.path_is),
      standing-in files directories v is r.before name (path_in v parent name) r.path_is (Some (file k)) (at_found (paths directories files) (paths directories directories) sound.distinct (in_file k) (r.before ++ name ∷ []) p),
    )

pub directory_there : (files directories : List (Option Entry)) (v : TreeValue) → value_of files directories ≡ v → AreSound files directories → (parent : ℕ) (name : Name) → IsSome (way_of v parent)
    → (k : ℕ) → position (is_child parent name) directories ≡ Some k → (way_of v (k + 1) ≡ Some (path_in v parent name)) × (standing_at v.nodes (path_in v parent name) ≡ Some directory)
unfolding value_of
directory_there files directories v is sound parent name used k h =
    let r = inside files directories v is parent name used in
    let p = child-path files directories sound directories sound.directory_parents parent r.before r.way_is name k (place-child directories parent name k h) in
    let number : k + 1 ≡ suc k = omega arith in (
      ap (way_of v) number ∙ ap (λ (v : TreeValue). slot v.directories k) (sym is) ∙ p ∙ ap Some (sym r.path_is),
      standing-in files directories v is r.before name (path_in v parent name) r.path_is (Some directory) (at_found (paths directories files) (paths directories directories) sound.distinct (in_directory k) (r.before ++ name ∷ []) p),
    )

-- ---- the way along a path

take-front : {A : Type 0} (xs ys : List A) → take (length xs) (xs ++ ys) ≡ xs
take-front [] ys = refl
take-front (x ∷ xs) ys = ap (λ rest. x ∷ rest) (take-front xs ys)

parent-end : (before : List Name) (name : Name) → parent_of (before ++ name ∷ []) ≡ before
parent-end before name =
    let long : length (before ++ name ∷ []) - 1 ≡ length before = omega (arith, length-append before (name ∷ [])) in
    ap (λ n. take n (before ++ name ∷ [])) long ∙ take-front before (name ∷ [])

-- the parent of a name's path, and the name at its end
pub spot-parent : (v : TreeValue) (parent : ℕ) (name : Name) → IsSome (way_of v parent)
    → (way_of v parent ≡ Some (parent_of (path_in v parent name))) × (path_in v parent name ≡ parent_of (path_in v parent name) ++ name ∷ [])
spot-parent v parent name used =
    let s = some_is (way_of v parent) used in
    let is : path_in v parent name ≡ s.0 ++ name ∷ [] = ap (λ (o : Option (List Name)). unwrap_or o [] ++ name ∷ []) s.1 in
    let up : parent_of (path_in v parent name) ≡ s.0 = ap parent_of is ∙ parent-end s.0 name in
    (s.1 ∙ ap Some (sym up), is ∙ ap (λ (w : List Name). w ++ name ∷ []) (sym up))

take-next : {A : Type 0} (xs : List A) (k : ℕ) (x : A) → slice_get xs k ≡ Some x → take (suc k) xs ≡ take k xs ++ x ∷ []
take-next [] k x h = absurd (let e : ◌≡◌ {A = Option _} None (Some x) = h in cc)
take-next (y ∷ xs) zero x h = let e : y ≡ x = cc in ap (λ (z : _). z ∷ []) e
take-next (y ∷ xs) (suc k) x h = ap (λ rest. y ∷ rest) (take-next xs k x h)

-- a name behind the first k of a path leads to its first k + 1
pub next-path : (v : TreeValue) (names : List Name) (parent k : ℕ) (name : Name) → way_of v parent ≡ Some (take k names) → slice_get names k ≡ Some name → path_in v parent name ≡ take (k + 1) names
next-path v names parent k name w h =
    let number : suc k ≡ k + 1 = omega arith in
    ap (λ (o : Option (List Name)). unwrap_or o [] ++ name ∷ []) w ∙ sym (take-next names k name h) ∙ ap (λ n. take n names) number

-- the obstacles behind the first k names
abbrev pub walk_from : Tree ℕ → List Name → ℕ → Option Errno
walk_from nodes names k = first_answer (λ j. obstacle (standing_at nodes (take j names))) (range_with_len (k + 1) (length names - 1 - k))

pub walk-start : (nodes : Tree ℕ) (names : List Name) → walk nodes names ≡ walk_from nodes names 0
walk-start nodes names =
    let long : length names - 1 ≡ length names - 1 - 0 = omega arith in
    ap (λ n. first_answer (λ j. obstacle (standing_at nodes (take j names))) (range_with_len 1 n)) long

pub walk-step : (nodes : Tree ℕ) (names : List Name) (k : ℕ) → k < length names - 1 → walk_from nodes names k ≡ option_or (obstacle (standing_at nodes (take (k + 1) names))) (walk_from nodes names (k + 1))
walk-step nodes names k h =
    let left : length names - 1 - k ≡ suc (length names - 1 - (k + 1)) = omega arith in
    ap (λ n. first_answer (λ j. obstacle (standing_at nodes (take j names))) (range_with_len (k + 1) n)) left

pub walk-end : (nodes : Tree ℕ) (names : List Name) (k : ℕ) → length names - 1 ≤ k → walk_from nodes names k ≡ None
walk-end nodes names k h =
    let left : length names - 1 - k ≡ 0 = omega arith in
    ap (λ n. first_answer (λ j. obstacle (standing_at nodes (take j names))) (range_with_len (k + 1) n)) left

pub take-whole : {A : Type 0} (xs : List A) (n : ℕ) → length xs ≤ n → take n xs ≡ xs
take-whole [] zero h = refl
take-whole [] (suc n) h = refl
take-whole (x ∷ xs) zero h = absurd (omega arith)
take-whole (x ∷ xs) (suc n) h = ap (λ rest. x ∷ rest) (take-whole xs n (omega arith))

-- the obstacles of a path, by what stands at the next name
pub walk-met : (v : TreeValue) (names : List Name) (parent k : ℕ) (name : Name) → way_of v parent ≡ Some (take k names) → slice_get names k ≡ Some name
    → walk v.nodes names ≡ walk_from v.nodes names k → k < length names - 1
    → walk v.nodes names ≡ option_or (obstacle (standing_at v.nodes (path_in v parent name))) (walk_from v.nodes names (k + 1))
walk-met v names parent k name w h so_far more =
    so_far ∙ walk-step v.nodes names k more ∙ ap (λ (p : List Name). option_or (obstacle (standing_at v.nodes p)) (walk_from v.nodes names (k + 1))) (sym (next-path v names parent k name w h))

-- the path of the last name is the whole path
pub whole-path : (v : TreeValue) (names : List Name) (parent k last : ℕ) (name : Name) → way_of v parent ≡ Some (take k names) → slice_get names last ≡ Some name → k ≡ last → last + 1 ≡ length names
    → path_in v parent name ≡ names
whole-path v names parent k last name w h same all =
    let here : slice_get names k ≡ Some name = ap (slice_get names) same ∙ h in
    let long : length names ≤ k + 1 = omega arith in
    next-path v names parent k name w here ∙ take-whole names (k + 1) long

-- ---- what holds of every tree

module _ (files directories : List (Option Entry)) (sound : AreSound files directories) where
  way-standing : (d : ℕ) (w : List Name) → way directories 6 d ≡ Some w → standing_at (nodes_of (paths directories files) (paths directories directories)) w ≡ Some directory
  way-standing zero w h =
      let e : Some w ≡ Some [] = sym h ∙ way-root directories 6 in
      let same : w ≡ [] = cc in
      ap (standing_at (nodes_of (paths directories files) (paths directories directories))) same
  way-standing (suc d) w h =
      let n = path-some (way directories 5) (slot directories d) w (sym (way-directory directories 5 d) ∙ h) in
      let path : slot (paths directories directories) d ≡ Some (n.before ++ n.entry.name ∷ []) = slot-paths directories directories d ∙ sym (way-directory directories 5 d) ∙ h ∙ ap Some n.path_is in
      ap (standing_at (nodes_of (paths directories files) (paths directories directories))) n.path_is
      ∙ standing-below (nodes_of (paths directories files) (paths directories directories)) n.before n.entry.name
      ∙ at_found (paths directories files) (paths directories directories) sound.distinct (in_directory d) (n.before ++ n.entry.name ∷ []) path

  named-at : (a : Place) (path : List Name) → path_at (paths directories files) (paths directories directories) a ≡ Some path → (place : Option Entry) × Named (way directories 5) place path
  named-at (in_file f) path h = (slot files f, path-some (way directories 5) (slot files f) path (sym (slot-paths directories files f) ∙ h))
  named-at (in_directory d) path h = (slot directories d, path-some (way directories 5) (slot directories d) path (sym (slot-paths directories directories d) ∙ h))

pub consistent : (files directories : List (Option Entry)) → AreSound files directories → IsConsistent (value_of files directories)
unfolding value_of
consistent files directories sound = record {
  nodes_are = refl;
  distinct = sound.distinct;
  some = λ a path h.
      let n = (named-at files directories sound a path h).1 in
      let long : length path ≡ length n.before + 1 = ap length n.path_is ∙ length-append n.before (n.entry.name ∷ []) in omega arith;
  few = λ a path h.
      let n = (named-at files directories sound a path h).1 in
      let long : length path ≡ length n.before + 1 = ap length n.path_is ∙ length-append n.before (n.entry.name ∷ []) in
      let short : length n.before ≤ 5 = way-few directories 5 n.entry.parent.0 n.before n.way_is in omega arith;
  parent = λ a path h.
      let n = (named-at files directories sound a path h).1 in
      let short : length n.before ≤ 5 = way-few directories 5 n.entry.parent.0 n.before n.way_is in
      let room : length n.before ≤ 6 = omega arith in
      ap (λ (p : List Name). standing_at (nodes_of (paths directories files) (paths directories directories)) (parent_of p)) n.path_is
      ∙ ap (standing_at (nodes_of (paths directories files) (paths directories directories))) (parent-end n.before n.entry.name)
      ∙ way-standing files directories sound n.entry.parent.0 n.before (way-higher directories 5 6 n.entry.parent.0 n.before n.way_is room);
  stored = stored-path directories files;
}

-- where a walk ends with nothing, the name at the path's end gives the whole path
pub free-path : (v : TreeValue) (names : List Name) (parent : ℕ) (name : Name) → way_of v parent ≡ Some (parent_of names) → slice_get names (length names - 1) ≡ Some name → 1 ≤ length names → path_in v parent name ≡ names
free-path v names parent name w h some = whole-path v names parent (length names - 1) (length names - 1) name w h refl (omega arith)
