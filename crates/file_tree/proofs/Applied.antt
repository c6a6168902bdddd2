-- Records of a journal, as the entries of a tree show them.
use Rattle.std.proofs.Common.{◌≡◌, ◌≢◌, ℕ, zero, suc, ◌+◌, ◌-◌, ◌<◌, ◌≤◌, Bool, true, false, cond, List, [], ◌∷◌, ◌++◌, length, set, refl, sym, ap, subst, ◌∙◌, Option, Some, None, IsSome, IfSome, arith, length-append, nat_le}
use Rattle.std.proofs.Common.{inl, inr}
use Rattle.std.proofs.lemmas.Bool.{cases_lt}
use Rattle.std.proofs.lemmas.Bool.Decides.{nat_tests}
use Rattle.std.specs.Prelude.{option_map, unwrap_or, is_some, is_none, ◌==◌}
use Rattle.apex_types.specs.declared.numbers.DirNode.{DirNode}
use Rattle.apex_model.specs.Trees.{Name, Node, standing_at, entries_within}
use Rattle.file_tree.specs.declared.entries.Entry.{Entry}
use Rattle.file_tree.specs.Entries.{TreeValue, slot, way_of, path_in, with_file, with_directory, without_file, without_directory, with_file_at}
use Rattle.file_tree.specs.Table.{path_of, way, paths, value_of, HaveParents, AreSound, parent_at}
use Rattle.file_tree.specs.Records.{is_unused, takes, has_none, new_file, new_directory, gone_file, gone_directory_at, gone_directory, moved_file_at, moved_file}
use Rattle.file_tree.proofs.Ways.{way-root, way-few, way-higher, slot-paths, way_of-value}
use Rattle.file_tree.proofs.Changes.{some_is, is_some as some_from, Becomes, file_made, directory_made, has_room, nothing_at}

-- ---- a directory with few names on its way

some-path : (ways : ℕ → Option (List Name)) (entry : Entry) → is_some (path_of ways (Some entry)) ≡ is_some (ways entry.parent.0)
some-path ways entry = (elim (ways entry.parent.0) as (λ o. is_some (option_map (λ names. names ++ entry.name ∷ []) o) ≡ is_some o) [ None ↦ refl | Some names ↦ refl ])

-- the root is in use
pub way-at-root : (directories : List (Option Entry)) (depth d : ℕ) → d ≡ 0 → is_some (way directories depth d) ≡ true
way-at-root directories depth d h = ap (λ n. is_some (way directories depth n)) h ∙ ap is_some (way-root directories depth)

-- with no more names only the root is
pub way-at-end : (directories : List (Option Entry)) (d : ℕ) → is_some (way directories 0 d) ≡ (d == 0)
unfolding way
way-at-end directories zero = refl
way-at-end directories (suc d) = grind (arith, nat_tests)

-- a directory that is no entry in use is not in use
pub way-lost : (directories : List (Option Entry)) (depth d : ℕ) → d ≢ 0 → parent_at (slot directories (d - 1)) ≡ None → is_some (way directories depth d) ≡ false
unfolding way
way-lost directories depth zero ne h = absurd (ne refl)
way-lost directories zero (suc d) ne h = refl
way-lost directories (suc depth) (suc d) ne h =
    let number : suc d - 1 ≡ d = omega arith in
    none (slot directories d) (ap (λ n. parent_at (slot directories n)) (sym number) ∙ h)
  where
    none : (place : Option Entry) → parent_at place ≡ None → is_some (path_of (way directories depth) place) ≡ false
    none None h = refl
    none (Some entry) h = absurd (let e : ◌≡◌ {A = Option DirNode} (Some entry.parent) None = h in cc)

-- another directory is in use where its parent is, with a name less
pub way-up : (directories : List (Option Entry)) (depth d : ℕ) (parent : DirNode) → d ≢ 0 → parent_at (slot directories (d - 1)) ≡ Some parent
    → is_some (way directories (suc depth) d) ≡ is_some (way directories depth parent.0)
unfolding way
way-up directories depth zero parent ne h = absurd (ne refl)
way-up directories depth (suc d) parent ne h =
    let number : suc d - 1 ≡ d = omega arith in
    some (slot directories d) (ap (λ n. parent_at (slot directories n)) (sym number) ∙ h)
  where
    some : (place : Option Entry) → parent_at place ≡ Some parent → is_some (path_of (way directories depth) place) ≡ is_some (way directories depth parent.0)
    some None h = absurd (let e : ◌≡◌ {A = Option DirNode} None (Some parent) = h in cc)
    some (Some entry) h = let e : entry.parent ≡ parent = cc in some-path (way directories depth) entry ∙ ap (λ (p : DirNode). is_some (way directories depth p.0)) e

-- ---- an entry in use, or not, as callers see it

used-path : (directories entries : List (Option Entry)) → HaveParents directories entries → (i : ℕ) → is_some (slot (paths directories entries) i) ≡ is_some (slot entries i)
used-path directories entries parents i =
    ap is_some (slot-paths directories entries i)
    ∙ (elim (slot entries i) as (λ o. slot entries i ≡ o → is_some (path_of (way directories 5) o) ≡ is_some o) [
      | None ↦ λ h. refl
      | Some entry ↦ λ h. some-path (way directories 5) entry ∙ parents i entry h
    ]) refl

pub files-used : (files directories : List (Option Entry)) (v : TreeValue) → value_of files directories ≡ v → AreSound files directories → (i : ℕ) → is_some (slot v.files i) ≡ is_some (slot files i)
unfolding value_of
files-used files directories v is sound i = ap (λ (v : TreeValue). is_some (slot v.files i)) (sym is) ∙ used-path directories files sound.file_parents i

pub directories-used : (files directories : List (Option Entry)) (v : TreeValue) → value_of files directories ≡ v → AreSound files directories → (i : ℕ) → is_some (slot v.directories i) ≡ is_some (slot directories i)
unfolding value_of
directories-used files directories v is sound i = ap (λ (v : TreeValue). is_some (slot v.directories i)) (sym is) ∙ used-path directories directories sound.directory_parents i

unused-path : (directories entries : List (Option Entry)) → HaveParents directories entries → (i : ℕ) → is_unused (paths directories entries) i ≡ is_unused entries i
unused-path directories [] parents i = refl
unused-path directories (None ∷ entries) parents zero = refl
unused-path directories (Some entry ∷ entries) parents zero =
    (elim (way directories 5 entry.parent.0) as (λ o. IsSome o → is_none (option_map (λ names. names ++ entry.name ∷ []) o) ≡ false) [
      | None ↦ λ s. absurd (let e : false ≡ true = s in cc)
      | Some names ↦ λ s. refl
    ]) (parents 0 entry refl)
unused-path directories (place ∷ entries) parents (suc i) = unused-path directories entries (λ j. parents (suc j)) i

pub files-unused : (files directories : List (Option Entry)) (v : TreeValue) → value_of files directories ≡ v → AreSound files directories → (i : ℕ) → is_unused v.files i ≡ is_unused files i
unfolding value_of
files-unused files directories v is sound i = ap (λ (v : TreeValue). is_unused v.files i) (sym is) ∙ unused-path directories files sound.file_parents i

pub directories-unused : (files directories : List (Option Entry)) (v : TreeValue) → value_of files directories ≡ v → AreSound files directories → (i : ℕ) → is_unused v.directories i ≡ is_unused directories i
unfolding value_of
directories-unused files directories v is sound i = ap (λ (v : TreeValue). is_unused v.directories i) (sym is) ∙ unused-path directories directories sound.directory_parents i

-- an unused entry is there, and has nothing
pub unused-is : {A : Type 0} (entries : List (Option A)) (i : ℕ) → is_unused entries i ≡ true → (i < length entries) × (slot entries i ≡ None)
unused-is [] i h = absurd (let e : false ≡ true = h in cc)
unused-is (None ∷ entries) zero h = (omega arith, refl)
unused-is (Some entry ∷ entries) zero h = absurd (let e : false ≡ true = h in cc)
unused-is (place ∷ entries) (suc i) h = let r = unused-is entries i h in (omega (arith, r.0), r.1)

-- ---- a directory that takes a name

-- what a directory has that takes a name
pub record Taking (v : TreeValue) (parent : ℕ) (name : Name) : Type 0 where
  pub used : IsSome (way_of v parent)
  pub few : length (path_in v parent name) ≤ 6
  pub free : standing_at v.nodes (path_in v parent name) ≡ None

le-true : (m n : ℕ) → nat_le m n ≡ true → m ≤ n
le-true m n h = grind (arith, nat_tests)

none-is : {A : Type 0} (o : Option A) → is_none o ≡ true → o ≡ None
none-is None h = refl
none-is (Some x) h = absurd (let e : false ≡ true = h in cc)

three : {P Q R X : Type 0} (a b c : Bool) → (a ≡ true → P) → (b ≡ true → Q) → (c ≡ true → R) → (P → Q → R → X) → cond a (cond b c false) false ≡ true → X
three true true true p q r x h = x (p refl) (q refl) (r refl)
three true true false p q r x h = absurd (let e : false ≡ true = h in cc)
three true false c p q r x h = absurd (let e : false ≡ true = h in cc)
three false b c p q r x h = absurd (let e : false ≡ true = h in cc)

pub taking : (v : TreeValue) (parent : ℕ) (name : Name) → takes v parent name ≡ true → Taking v parent name
taking v parent name h =
    three (is_some (way_of v parent)) (nat_le (length (path_in v parent name)) 6) (is_none (standing_at v.nodes (path_in v parent name)))
    (λ e. e) (le-true (length (path_in v parent name)) 6) (none-is (standing_at v.nodes (path_in v parent name)))
    (λ used few free. record { used = used; few = few; free = free }) h

le-false : (m n : ℕ) → n < m → nat_le m n ≡ false
le-false m n h = grind (arith, nat_tests)

le-is : (m n : ℕ) → m ≤ n → nat_le m n ≡ true
le-is m n h = grind (arith, nat_tests)

-- a directory takes no name where it is not in use, or has too many names on its way
long-way : (v : TreeValue) (parent : ℕ) (name : Name) → ((w : List Name) → way_of v parent ≡ Some w → 5 < length w) → takes v parent name ≡ false
long-way v parent name long =
    (elim (way_of v parent) as (λ o. way_of v parent ≡ o
    → cond (is_some o) (cond (nat_le (length (unwrap_or o [] ++ name ∷ [])) 6) (is_none (standing_at v.nodes (unwrap_or o [] ++ name ∷ []))) false) false ≡ false) [
      | None ↦ λ h. refl
      | Some w ↦ λ h.
          let more : 5 < length w = long w h in
          let all : 6 < length (w ++ name ∷ []) = omega (arith, length-append w (name ∷ [])) in
          ap (λ b. cond b (is_none (standing_at v.nodes (w ++ name ∷ []))) false) (le-false (length (w ++ name ∷ [])) 6 all)
    ]) refl

way-seen : (files directories : List (Option Entry)) (v : TreeValue) → value_of files directories ≡ v → (d : ℕ) → way_of v d ≡ way directories 6 d
way-seen files directories v is d = ap (λ (v : TreeValue). way_of v d) (sym is) ∙ way_of-value files directories d

pub no-way : (files directories : List (Option Entry)) (v : TreeValue) → value_of files directories ≡ v → (parent : ℕ) (name : Name) → is_some (way directories 5 parent) ≡ false → takes v parent name ≡ false
no-way files directories v is parent name none =
    long-way v parent name (λ w h.
    elim (cases_lt 5 (length w)) [
      | inl more ↦ more
      | inr short ↦
          let room : length w ≤ 5 = omega arith in
          let seen : way directories 5 parent ≡ Some w = way-higher directories 6 5 parent w (sym (way-seen files directories v is parent) ∙ h) room in
          let wrong : true ≡ false = sym (ap is_some seen) ∙ none in absurd (let e : true ≡ false = wrong in cc)
    ])

-- a directory in use with few names on its way
pub way-room : (files directories : List (Option Entry)) (v : TreeValue) → value_of files directories ≡ v → (parent : ℕ) (name : Name) → is_some (way directories 5 parent) ≡ true
    → IsSome (way_of v parent) × (length (path_in v parent name) ≤ 6)
way-room files directories v is parent name used =
    let s = some_is (way directories 5 parent) used in
    let short : length s.0 ≤ 5 = way-few directories 5 parent s.0 s.1 in
    let room : length s.0 ≤ 6 = omega arith in
    let seen : way_of v parent ≡ Some s.0 = way-seen files directories v is parent ∙ way-higher directories 5 6 parent s.0 s.1 room in
    let path : path_in v parent name ≡ s.0 ++ name ∷ [] = ap (λ (o : Option (List Name)). unwrap_or o [] ++ name ∷ []) seen in
    let long : length (path_in v parent name) ≡ length s.0 + 1 = ap length path ∙ length-append s.0 (name ∷ []) in
    (some_from seen, omega arith)

pub takes-free : (files directories : List (Option Entry)) (v : TreeValue) → value_of files directories ≡ v → (parent : ℕ) (name : Name) → is_some (way directories 5 parent) ≡ true
    → standing_at v.nodes (path_in v parent name) ≡ None → takes v parent name ≡ true
takes-free files directories v is parent name used free =
    let r = way-room files directories v is parent name used in
    let first : is_some (way_of v parent) ≡ true = r.0 in
    let second : nat_le (length (path_in v parent name)) 6 ≡ true = le-is (length (path_in v parent name)) 6 r.1 in
    λ i. cond (first i) (cond (second i) (is_none (free i)) false) false

-- ---- what a change comes to

some-not : {A : Type 0} (o : Option A) → is_some o ≡ false → o ≡ None
some-not None h = refl
some-not (Some x) h = absurd (let e : true ≡ false = h in cc)

pub no-new_file : (v : TreeValue) (f parent : ℕ) (o : Option Name) → is_unused v.files f ≡ false → new_file v f parent o ≡ None
no-new_file v f parent None h = refl
no-new_file v f parent (Some name) h = ap (λ b. cond b (cond (takes v parent name) (Some (with_file v f (path_in v parent name))) None) None) h

pub one-new_file : (v : TreeValue) (f parent : ℕ) (o : Option Name) (name : Name) → o ≡ Some name → is_unused v.files f ≡ true → takes v parent name ≡ true
    → new_file v f parent o ≡ Some (with_file v f (path_in v parent name))
one-new_file v f parent o name e unused taken =
    ap (new_file v f parent) e ∙ (λ i. cond (unused i) (cond (taken i) (Some (with_file v f (path_in v parent name))) None) None)

pub no-new_directory : (v : TreeValue) (d parent : ℕ) (o : Option Name) → is_unused v.directories d ≡ false → new_directory v d parent o ≡ None
no-new_directory v d parent None h = refl
no-new_directory v d parent (Some name) h = ap (λ b. cond b (cond (takes v parent name) (Some (with_directory v d (path_in v parent name))) None) None) h

pub one-new_directory : (v : TreeValue) (d parent : ℕ) (o : Option Name) (name : Name) → o ≡ Some name → is_unused v.directories d ≡ true → takes v parent name ≡ true
    → new_directory v d parent o ≡ Some (with_directory v d (path_in v parent name))
one-new_directory v d parent o name e unused taken =
    ap (new_directory v d parent) e ∙ (λ i. cond (unused i) (cond (taken i) (Some (with_directory v d (path_in v parent name))) None) None)

pub no-gone_file : (v : TreeValue) (f : ℕ) → is_some (slot v.files f) ≡ false → gone_file v f ≡ None
no-gone_file v f h = ap (option_map (without_file v f)) (some-not (slot v.files f) h)

map-some : {A B : Type 0} (g : A → B) (o : Option A) (y : B) → IsSome o → IfSome o (λ x. y ≡ g x) → option_map g o ≡ Some y
map-some g None y s h = absurd (let e : false ≡ true = s in cc)
map-some g (Some x) y s h = ap Some (sym h)

pub one-gone_file : (v w : TreeValue) (f : ℕ) → IsSome (slot v.files f) → IfSome (slot v.files f) (λ path. w ≡ without_file v f path) → gone_file v f ≡ Some w
one-gone_file v w f used h = map-some (without_file v f) (slot v.files f) w used h

pub no-gone_directory : (v : TreeValue) (d : ℕ) → is_some (slot v.directories d) ≡ false → gone_directory v d ≡ None
no-gone_directory v d h = ap (gone_directory_at v d) (some-not (slot v.directories d) h)

pub one-gone_directory : (v w : TreeValue) (d n : ℕ) → n ≡ suc d → IsSome (slot v.directories d) → entries_within v.nodes (unwrap_or (way_of v n) []) ≡ []
    → w ≡ without_directory v (n - 1) (unwrap_or (way_of v n) []) → gone_directory v d ≡ Some w
one-gone_directory v w d n e used empty is =
    let s = some_is (slot v.directories d) used in
    let path : unwrap_or (way_of v n) [] ≡ s.0 = ap (λ m. unwrap_or (way_of v m) []) e ∙ ap (λ (o : Option (List Name)). unwrap_or o []) s.1 in
    let number : n - 1 ≡ d = omega arith in
    let none : entries_within v.nodes s.0 ≡ [] = ap (entries_within v.nodes) (sym path) ∙ empty in
    ap (gone_directory_at v d) s.1 ∙ ap (λ (es : List (Name × Node ℕ)). cond (has_none es) (Some (without_directory v d s.0)) None) none
    ∙ ap Some (sym (is ∙ (λ i. without_directory v (number i) (path i))))

some-left : {A : Type 0} (xs : List A) → 1 ≤ length xs → has_none xs ≡ false
some-left [] h = absurd (omega arith)
some-left (x ∷ xs) h = refl

pub full-gone_directory : (v : TreeValue) (d n : ℕ) → n ≡ suc d → 1 ≤ length (entries_within v.nodes (unwrap_or (way_of v n) [])) → gone_directory v d ≡ None
full-gone_directory v d n e full =
    let path : unwrap_or (way_of v n) [] ≡ unwrap_or (slot v.directories d) [] = ap (λ m. unwrap_or (way_of v m) []) e in
    let left : 1 ≤ length (entries_within v.nodes (unwrap_or (slot v.directories d) [])) = subst (λ (p : List Name). 1 ≤ length (entries_within v.nodes p)) path full in
    stays (slot v.directories d) left
  where
    stays : (o : Option (List Name)) → 1 ≤ length (entries_within v.nodes (unwrap_or o [])) → gone_directory_at v d o ≡ None
    stays None h = refl
    stays (Some p) h = ap (λ b. cond b (Some (without_directory v d p)) None) (some-left (entries_within v.nodes p) h)

pub no-moved_file : (v : TreeValue) (f parent : ℕ) (o : Option Name) → is_some (slot v.files f) ≡ false → moved_file v f parent o ≡ None
no-moved_file v f parent None h = refl
no-moved_file v f parent (Some name) h = ap (moved_file_at v f parent name) (some-not (slot v.files f) h)

pub not-moved_file : (v : TreeValue) (f parent : ℕ) (o : Option Name) (name : Name) → o ≡ Some name → takes v parent name ≡ false → moved_file v f parent o ≡ None
not-moved_file v f parent o name e no_place = ap (moved_file v f parent) e ∙ stays (slot v.files f)
  where
    stays : (was : Option (List Name)) → moved_file_at v f parent name was ≡ None
    stays None = refl
    stays (Some from) = ap (λ b. cond b (Some (with_file_at v f from (path_in v parent name))) None) no_place

pub one-moved_file : (v w : TreeValue) (f parent : ℕ) (o : Option Name) (name : Name) → o ≡ Some name → IsSome (slot v.files f) → takes v parent name ≡ true
    → IfSome (slot v.files f) (λ path. w ≡ with_file_at v f path (path_in v parent name)) → moved_file v f parent o ≡ Some w
one-moved_file v w f parent o name e used taken h = ap (moved_file v f parent) e ∙ moves (slot v.files f) used h
  where
    moves : (was : Option (List Name)) → IsSome was → IfSome was (λ path. w ≡ with_file_at v f path (path_in v parent name)) → moved_file_at v f parent name was ≡ Some w
    moves None s h = absurd (let e : false ≡ true = s in cc)
    moves (Some from) s h = ap (λ b. cond b (Some (with_file_at v f from (path_in v parent name))) None) taken ∙ ap Some (sym h)

-- ---- an entry that a record names

module _ (files directories : List (Option Entry)) (v : TreeValue) (is : value_of files directories ≡ v) (sound : AreSound files directories)
    (parent : DirNode) (name : Name) (taken : takes v parent.0 name ≡ true) (k : ℕ) where
  pub put_file : is_unused files k ≡ true → Becomes (set files k (Some (record { parent = parent; name = name; stored = (0, 0) }))) directories (with_file v k (path_in v parent.0 name))
  put_file free =
      let t = taking v parent.0 name taken in
      let u = unused-is files k free in
      subst (λ (v : TreeValue). IsSome (way_of v parent.0) → length (path_in v parent.0 name) ≤ 6 → standing_at v.nodes (path_in v parent.0 name) ≡ None
      → Becomes (set files k (Some (record { parent = parent; name = name; stored = (0, 0) }))) directories (with_file v k (path_in v parent.0 name))) is
      (λ used few none.
      let r = has_room files directories parent.0 name used few in
      let b = file_made files directories sound k (record { parent = parent; name = name; stored = (0, 0) }) r.before r.way_is (nothing_at files directories parent.0 name r none) u.0 u.1 in
      record { sound = b.sound; is = b.is ∙ ap (with_file (value_of files directories) k) (sym r.path_is) }) t.used t.few t.free

  pub put_directory : is_unused directories k ≡ true → Becomes files (set directories k (Some (record { parent = parent; name = name; stored = (0, 0) }))) (with_directory v k (path_in v parent.0 name))
  put_directory free =
      let t = taking v parent.0 name taken in
      let u = unused-is directories k free in
      subst (λ (v : TreeValue). IsSome (way_of v parent.0) → length (path_in v parent.0 name) ≤ 6 → standing_at v.nodes (path_in v parent.0 name) ≡ None
      → Becomes files (set directories k (Some (record { parent = parent; name = name; stored = (0, 0) }))) (with_directory v k (path_in v parent.0 name))) is
      (λ used few none.
      let r = has_room files directories parent.0 name used few in
      let b = directory_made files directories sound k (record { parent = parent; name = name; stored = (0, 0) }) r.before r.way_is (nothing_at files directories parent.0 name r none) u.0 u.1 in
      record { sound = b.sound; is = b.is ∙ ap (with_directory (value_of files directories) k) (sym r.path_is) }) t.used t.few t.free
