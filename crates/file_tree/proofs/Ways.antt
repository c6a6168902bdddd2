-- The paths that entries with parents stand for.
use Rattle.std.proofs.Common.{◌≡◌, ◌≢◌, ℕ, zero, suc, ◌+◌, ◌<◌, ◌≤◌, true, false, List, [], ◌∷◌, ◌++◌, length, set, refl, sym, ap, subst, ◌∙◌, Option, Some, None, IsSome, arith, length-append, get_or-set_other}
use Rattle.std.specs.Prelude.{option_map}
use Rattle.apex_model.specs.Trees.{Name}
use Rattle.apex_model.specs.Handles.{free_from}
use Rattle.file_tree.specs.declared.entries.Entry.{Entry}
use Rattle.file_tree.specs.Entries.{slot, way_of}
use Rattle.file_tree.specs.Table.{path_of, way, paths, value_of, HaveParents}

pub not_some : {A : Type 0} {x : A} → None ≢ Some x
not_some h = cc

-- what an entry with a path has
pub record Named (ways : ℕ → Option (List Name)) (place : Option Entry) (path : List Name) : Type 0 where
  pub entry : Entry
  pub is : place ≡ Some entry
  pub before : List Name
  pub way_is : ways entry.parent.0 ≡ Some before
  pub path_is : path ≡ before ++ entry.name ∷ []

pub path-made : (ways : ℕ → Option (List Name)) (entry : Entry) (before : List Name) → ways entry.parent.0 ≡ Some before → path_of ways (Some entry) ≡ Some (before ++ entry.name ∷ [])
path-made ways entry before h = ap (option_map (λ names. names ++ entry.name ∷ [])) h

pub path-some : (ways : ℕ → Option (List Name)) (place : Option Entry) (path : List Name) → path_of ways place ≡ Some path → Named ways place path
path-some ways None path h = absurd (let e : ◌≡◌ {A = Option (List Name)} None (Some path) = h in cc)
path-some ways (Some entry) path h =
    (elim (ways entry.parent.0) as (λ o. ways entry.parent.0 ≡ o → option_map (λ names. names ++ entry.name ∷ []) o ≡ Some path → Named ways (Some entry) path) [
      | None ↦ λ w is. absurd (let e : ◌≡◌ {A = Option (List Name)} None (Some path) = is in cc)
      | Some names ↦ λ w is. let e : names ++ entry.name ∷ [] ≡ path = cc in record { entry = entry; is = refl; before = names; way_is = w; path_is = sym e }
    ]) refl h

pub way-root : (directories : List (Option Entry)) (depth : ℕ) → way directories depth 0 ≡ Some []
unfolding way
way-root directories zero = refl
way-root directories (suc depth) = refl

pub way-directory : (directories : List (Option Entry)) (depth d : ℕ) → way directories (suc depth) (suc d) ≡ path_of (way directories depth) (slot directories d)
unfolding way
way-directory directories depth d = refl

-- nothing but the root lies no names deep
pub way-none : (directories : List (Option Entry)) (d : ℕ) (w : List Name) → way directories zero (suc d) ≢ Some w
unfolding way
way-none directories d w h = cc

-- a path is no longer than it is deep
pub way-few : (directories : List (Option Entry)) (depth d : ℕ) (w : List Name) → way directories depth d ≡ Some w → length w ≤ depth
way-few directories depth zero w h = let e : Some w ≡ Some [] = sym h ∙ way-root directories depth in let same : w ≡ [] = cc in let none : length w ≡ 0 = ap length same in omega arith
way-few directories zero (suc d) w h = absurd (way-none directories d w h)
way-few directories (suc depth) (suc d) w h =
    let n = path-some (way directories depth) (slot directories d) w (sym (way-directory directories depth d) ∙ h) in
    let few : length n.before ≤ depth = way-few directories depth n.entry.parent.0 n.before n.way_is in
    let long : length w ≡ length n.before + 1 = ap length n.path_is ∙ length-append n.before (n.entry.name ∷ []) in omega arith

-- a path is the same at each depth that it has room in
pub way-higher : (directories : List (Option Entry)) (depth other d : ℕ) (w : List Name) → way directories depth d ≡ Some w → length w ≤ other → way directories other d ≡ Some w
way-higher directories depth other zero w h few = way-root directories other ∙ sym (way-root directories depth) ∙ h
way-higher directories zero other (suc d) w h few = absurd (way-none directories d w h)
way-higher directories (suc depth) zero (suc d) w h few =
    let n = path-some (way directories depth) (slot directories d) w (sym (way-directory directories depth d) ∙ h) in
    let long : length w ≡ length n.before + 1 = ap length n.path_is ∙ length-append n.before (n.entry.name ∷ []) in absurd (omega arith)
way-higher directories (suc depth) (suc other) (suc d) w h few =
    let n = path-some (way directories depth) (slot directories d) w (sym (way-directory directories depth d) ∙ h) in
    let long : length w ≡ length n.before + 1 = ap length n.path_is ∙ length-append n.before (n.entry.name ∷ []) in
    let room : length n.before ≤ other = omega arith in
    way-directory directories other d ∙ ap (path_of (way directories other)) n.is
    ∙ path-made (way directories other) n.entry n.before (way-higher directories depth other n.entry.parent.0 n.before n.way_is room) ∙ ap Some (sym n.path_is)

-- ---- another entry comes or goes

-- a path stays where an unused entry is taken
pub way-grown : (directories : List (Option Entry)) (k : ℕ) (entry : Entry) → slot directories k ≡ None → (depth d : ℕ) (w : List Name) → way directories depth d ≡ Some w → way (set directories k (Some entry)) depth d ≡ Some w
way-grown directories k entry free depth zero w h = way-root (set directories k (Some entry)) depth ∙ sym (way-root directories depth) ∙ h
way-grown directories k entry free zero (suc d) w h = absurd (way-none directories d w h)
way-grown directories k entry free (suc depth) (suc d) w h =
    let n = path-some (way directories depth) (slot directories d) w (sym (way-directory directories depth d) ∙ h) in
    let other : d ≢ k = λ e. not_some (sym free ∙ ap (slot directories) (sym e) ∙ n.is) in
    way-directory (set directories k (Some entry)) depth d ∙ ap (path_of (way (set directories k (Some entry)) depth)) (get_or-set_other directories k d (Some entry) None other ∙ n.is)
    ∙ path-made (way (set directories k (Some entry)) depth) n.entry n.before (way-grown directories k entry free depth n.entry.parent.0 n.before n.way_is) ∙ ap Some (sym n.path_is)

-- a path stays where an entry goes that is the parent of none
pub way-shrunk : (directories : List (Option Entry)) (k : ℕ) → ((j : ℕ) (entry : Entry) → slot directories j ≡ Some entry → entry.parent.0 ≢ suc k)
    → (depth d : ℕ) (w : List Name) → d ≢ suc k → way directories depth d ≡ Some w → way (set directories k None) depth d ≡ Some w
way-shrunk directories k childless depth zero w n h = way-root (set directories k None) depth ∙ sym (way-root directories depth) ∙ h
way-shrunk directories k childless zero (suc d) w ne h = absurd (way-none directories d w h)
way-shrunk directories k childless (suc depth) (suc d) w ne h =
    let n = path-some (way directories depth) (slot directories d) w (sym (way-directory directories depth d) ∙ h) in
    let other : d ≢ k = λ e. ne (ap suc e) in
    way-directory (set directories k None) depth d ∙ ap (path_of (way (set directories k None) depth)) (get_or-set_other directories k d None None other ∙ n.is)
    ∙ path-made (way (set directories k None) depth) n.entry n.before (way-shrunk directories k childless depth n.entry.parent.0 n.before (childless d n.entry n.is) n.way_is) ∙ ap Some (sym n.path_is)

pub slot-paths : (directories entries : List (Option Entry)) (i : ℕ) → slot (paths directories entries) i ≡ path_of (way directories 5) (slot entries i)
slot-paths directories [] i = refl
slot-paths directories (x ∷ entries) zero = refl
slot-paths directories (x ∷ entries) (suc i) = slot-paths directories entries i

pub paths-same : (directories other entries : List (Option Entry)) → ((i : ℕ) (entry : Entry) → slot entries i ≡ Some entry → way other 5 entry.parent.0 ≡ way directories 5 entry.parent.0)
    → paths other entries ≡ paths directories entries
paths-same directories other [] h = refl
paths-same directories other (None ∷ entries) h = ap (λ rest. None ∷ rest) (paths-same directories other entries (λ i. h (suc i)))
paths-same directories other (Some entry ∷ entries) h =
    λ i. option_map (λ names. names ++ entry.name ∷ []) (h 0 entry refl i) ∷ paths-same directories other entries (λ j. h (suc j)) i

-- the path of a directory is that of a way
pub way_of-value : (files directories : List (Option Entry)) (d : ℕ) → way_of (value_of files directories) d ≡ way directories 6 d
unfolding value_of
way_of-value files directories zero = sym (way-root directories 6)
way_of-value files directories (suc d) = slot-paths directories directories d ∙ sym (way-directory directories 5 d)

-- an entry in use has a path
pub path-used : (directories entries : List (Option Entry)) → HaveParents directories entries → (i : ℕ) (entry : Entry) → slot entries i ≡ Some entry → IsSome (slot (paths directories entries) i)
path-used directories entries parents i entry h =
    subst IsSome (sym (slot-paths directories entries i ∙ ap (path_of (way directories 5)) h))
    ((elim (way directories 5 entry.parent.0) as (λ o. IsSome o → IsSome (option_map (λ names. names ++ entry.name ∷ []) o)) [ None ↦ λ s. s | Some names ↦ λ s. s ]) (parents i entry h))

-- ---- the least unused entry

pub free-some : {A : Type 0} (xs : List (Option A)) (n k : ℕ) → free_from n xs ≡ Some k → (i : ℕ) × (k ≡ n + i) × (i < length xs) × (slot xs i ≡ None)
free-some [] n k h = absurd (let e : ◌≡◌ {A = Option ℕ} None (Some k) = h in cc)
free-some (None ∷ xs) n k h = let e : n ≡ k = cc in (0, omega arith, omega arith, refl)
free-some (Some x ∷ xs) n k h = let r = free-some xs (n + 1) k h in (suc r.0, omega (arith, r.1), omega (arith, r.2), r.3)

pub free-paths : (directories entries : List (Option Entry)) (n : ℕ) → HaveParents directories entries → free_from n (paths directories entries) ≡ free_from n entries
free-paths directories [] n h = refl
free-paths directories (None ∷ entries) n h = refl
free-paths directories (Some entry ∷ entries) n h =
    (elim (way directories 5 entry.parent.0) as (λ o. IsSome o → free_from n (option_map (λ names. names ++ entry.name ∷ []) o ∷ paths directories entries) ≡ free_from (n + 1) entries) [
      | None ↦ λ s. absurd (let e : false ≡ true = s in cc)
      | Some names ↦ λ s. free-paths directories entries (n + 1) (λ i. h (suc i))
    ]) (h 0 entry refl)
