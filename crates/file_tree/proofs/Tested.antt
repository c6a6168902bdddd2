-- Entries that pass the tests are sound, and sound entries pass them.
use Rattle.std.proofs.Common.{◌≡◌, ℕ, zero, suc, ◌≤◌, Bool, true, false, not, ◌&&◌, List, [], ◌∷◌, ◌++◌, length, refl, sym, ap, ◌∙◌, Option, Some, None, arith}
use Rattle.std.specs.Prelude.{is_some, position}
use Rattle.std.specs.List.{list_all}
use Rattle.apex_model.specs.Trees.{Name}
use Rattle.file_tree.specs.declared.entries.Entry.{Entry}
use Rattle.file_tree.specs.Checks.{has_parent, has_namesake, are_apart}
use Rattle.file_tree.specs.Entries.{slot, in_file, in_directory, AreDistinct}
use Rattle.file_tree.specs.Table.{path_of, way, paths, is_child, HaveParents, AreSound}
use Rattle.file_tree.proofs.Paths.{file_number, directory_number, not_both}
use Rattle.file_tree.proofs.Ways.{not_some, path-made, path-some, way-root, way-none, way-directory, slot-paths}
use Rattle.file_tree.proofs.Changes.{some_is}
use Rattle.file_tree.proofs.Children.{and-first, and-second, child-is, place-child, place-none, no-end, same-end}

-- ---- parents

pub parents-hold : (directories entries : List (Option Entry)) → list_all (has_parent directories) entries ≡ true → HaveParents directories entries
parents-hold directories [] h i entry is = absurd (not_some is)
parents-hold directories (place ∷ entries) h zero entry is = ap (has_parent directories) (sym is) ∙ and-first (has_parent directories place) (list_all (has_parent directories) entries) h
parents-hold directories (place ∷ entries) h (suc i) entry is = parents-hold directories entries (and-second (has_parent directories place) (list_all (has_parent directories) entries) h) i entry is

both : (a b : Bool) → a ≡ true → b ≡ true → (a && b) ≡ true
both a b h k = ap (λ c. c && b) h ∙ k

pub parents-pass : (directories entries : List (Option Entry)) → HaveParents directories entries → list_all (has_parent directories) entries ≡ true
parents-pass directories [] parents = refl
parents-pass directories (None ∷ entries) parents = parents-pass directories entries (λ i. parents (suc i))
parents-pass directories (Some entry ∷ entries) parents =
    both (has_parent directories (Some entry)) (list_all (has_parent directories) entries) (parents 0 entry refl) (parents-pass directories entries (λ i. parents (suc i)))

-- ---- namesakes

-- no two of these entries have the same name in the same directory
abbrev pub AreAlone : List (Option Entry) → Type 0
AreAlone entries = (i j : ℕ) (a b : Entry) → slot entries i ≡ Some a → slot entries j ≡ Some b → a.parent.0 ≡ b.parent.0 → a.name ≡ b.name → i ≡ j

-- none of these entries has the same name in the same directory as one of those
abbrev pub AreStrangers : List (Option Entry) → List (Option Entry) → Type 0
AreStrangers entries others = (i j : ℕ) (a b : Entry) → slot entries i ≡ Some a → slot others j ≡ Some b → a.parent.0 ≡ b.parent.0 → a.name ≡ b.name → ⊥

not-true : (b : Bool) → not b ≡ true → b ≡ false
not-true true h = absurd (let e : false ≡ true = h in cc)
not-true false h = refl

some-not : {A : Type 0} (o : Option A) → is_some o ≡ false → o ≡ None
some-not None h = refl
some-not (Some x) h = absurd (let e : true ≡ false = h in cc)

no-namesake : (others : List (Option Entry)) (a : Entry) → has_namesake others (Some a) ≡ false → (j : ℕ) (b : Entry) → slot others j ≡ Some b → a.parent.0 ≡ b.parent.0 → a.name ≡ b.name → ⊥
no-namesake others a none j b is parent name =
    let yes : is_child a.parent.0 a.name (slot others j) ≡ true = ap (is_child a.parent.0 a.name) is ∙ child-is a.parent.0 a.name b (sym parent) (sym name) in
    let wrong : true ≡ false = sym yes ∙ place-none others a.parent.0 a.name (some-not (position (is_child a.parent.0 a.name) others) none) j in cc

namesake-none : (others : List (Option Entry)) (place : Option Entry) → ((j : ℕ) (a b : Entry) → place ≡ Some a → slot others j ≡ Some b → a.parent.0 ≡ b.parent.0 → a.name ≡ b.name → ⊥) → not (has_namesake others place) ≡ true
namesake-none others None h = refl
namesake-none others (Some a) h =
    (elim (position (is_child a.parent.0 a.name) others) as (λ o. position (is_child a.parent.0 a.name) others ≡ o → not (is_some o) ≡ true) [
      | None ↦ λ is. refl
      | Some k ↦ λ is. let c = place-child others a.parent.0 a.name k is in absurd (h k a c.entry refl c.is (sym c.parent_is) (sym c.name_is))
    ]) refl

pub apart-alone : (entries : List (Option Entry)) → are_apart entries ≡ true → AreAlone entries
apart-alone [] h i j a b is js parent name = absurd (not_some is)
apart-alone (place ∷ entries) h zero zero a b is js parent name = refl
apart-alone (place ∷ entries) h zero (suc j) a b is js parent name =
    absurd (no-namesake entries a (ap (has_namesake entries) (sym is) ∙ not-true (has_namesake entries place) (and-first (not (has_namesake entries place)) (are_apart entries) h)) j b js parent name)
apart-alone (place ∷ entries) h (suc i) zero a b is js parent name =
    absurd (no-namesake entries b (ap (has_namesake entries) (sym js) ∙ not-true (has_namesake entries place) (and-first (not (has_namesake entries place)) (are_apart entries) h)) i a is (sym parent) (sym name))
apart-alone (place ∷ entries) h (suc i) (suc j) a b is js parent name = ap suc (apart-alone entries (and-second (not (has_namesake entries place)) (are_apart entries) h) i j a b is js parent name)

pub alone-apart : (entries : List (Option Entry)) → AreAlone entries → are_apart entries ≡ true
alone-apart [] h = refl
alone-apart (place ∷ entries) h =
    both (not (has_namesake entries place)) (are_apart entries) (namesake-none entries place (λ j a b is js parent name. let e : 0 ≡ suc j = h 0 (suc j) a b is js parent name in absurd (omega arith)))
    (alone-apart entries (λ i j a b is js parent name. let e : suc i ≡ suc j = h (suc i) (suc j) a b is js parent name in omega arith))

pub all-strangers : (others entries : List (Option Entry)) → list_all (λ place. not (has_namesake others place)) entries ≡ true → AreStrangers entries others
all-strangers others [] h i j a b is js parent name = absurd (not_some is)
all-strangers others (place ∷ entries) h zero j a b is js parent name =
    no-namesake others a (ap (has_namesake others) (sym is) ∙ not-true (has_namesake others place) (and-first (not (has_namesake others place)) (list_all (λ p. not (has_namesake others p)) entries) h)) j b js parent name
all-strangers others (place ∷ entries) h (suc i) j a b is js parent name =
    all-strangers others entries (and-second (not (has_namesake others place)) (list_all (λ p. not (has_namesake others p)) entries) h) i j a b is js parent name

pub strangers-all : (others entries : List (Option Entry)) → AreStrangers entries others → list_all (λ place. not (has_namesake others place)) entries ≡ true
strangers-all others [] h = refl
strangers-all others (place ∷ entries) h =
    both (not (has_namesake others place)) (list_all (λ p. not (has_namesake others p)) entries) (namesake-none others place (λ j a b. h 0 j a b))
    (strangers-all others entries (λ i. h (suc i)))

-- ---- paths

-- where no two directories are namesakes, no two have the same path
same-way : (directories : List (Option Entry)) → AreAlone directories → (n a b : ℕ) (w : List Name) → way directories n a ≡ Some w → way directories n b ≡ Some w → a ≡ b
same-way directories alone n zero zero w h k = refl
same-way directories alone zero zero (suc b) w h k = absurd (way-none directories b w k)
same-way directories alone (suc n) zero (suc b) w h k =
    let m = path-some (way directories n) (slot directories b) w (sym (way-directory directories n b) ∙ k) in
    let root : Some w ≡ Some [] = sym h ∙ way-root directories (suc n) in
    let e : w ≡ [] = cc in absurd (no-end m.before m.entry.name (sym e ∙ m.path_is))
same-way directories alone zero (suc a) b w h k = absurd (way-none directories a w h)
same-way directories alone (suc n) (suc a) zero w h k =
    let m = path-some (way directories n) (slot directories a) w (sym (way-directory directories n a) ∙ h) in
    let root : Some w ≡ Some [] = sym k ∙ way-root directories (suc n) in
    let e : w ≡ [] = cc in absurd (no-end m.before m.entry.name (sym e ∙ m.path_is))
same-way directories alone (suc n) (suc a) (suc b) w h k =
    let l = path-some (way directories n) (slot directories a) w (sym (way-directory directories n a) ∙ h) in
    let m = path-some (way directories n) (slot directories b) w (sym (way-directory directories n b) ∙ k) in
    let ends = same-end l.before m.before l.entry.name m.entry.name (sym l.path_is ∙ m.path_is) in
    ap suc (alone a b l.entry m.entry l.is m.is (same-way directories alone n l.entry.parent.0 m.entry.parent.0 m.before (l.way_is ∙ ap Some ends.0) m.way_is) ends.1)

-- what two entries with the same path have
record SamePlace (xs ys : List (Option Entry)) (i j : ℕ) : Type 0 where
  a : Entry
  b : Entry
  a_is : slot xs i ≡ Some a
  b_is : slot ys j ≡ Some b
  parent : a.parent.0 ≡ b.parent.0
  name : a.name ≡ b.name

same-place : (directories : List (Option Entry)) → AreAlone directories → (xs ys : List (Option Entry)) (i j : ℕ) (path : List Name) → slot (paths directories xs) i ≡ Some path → slot (paths directories ys) j ≡ Some path → SamePlace xs ys i j
same-place directories alone xs ys i j path h k =
    let l = path-some (way directories 5) (slot xs i) path (sym (slot-paths directories xs i) ∙ h) in
    let m = path-some (way directories 5) (slot ys j) path (sym (slot-paths directories ys j) ∙ k) in
    let ends = same-end l.before m.before l.entry.name m.entry.name (sym l.path_is ∙ m.path_is) in
    record { a = l.entry; b = m.entry; a_is = l.is; b_is = m.is; parent = same-way directories alone 5 l.entry.parent.0 m.entry.parent.0 m.before (l.way_is ∙ ap Some ends.0) m.way_is; name = ends.1 }

distinct-paths : (files directories : List (Option Entry)) → AreAlone files → AreAlone directories → AreStrangers files directories → AreDistinct (paths directories files) (paths directories directories)
distinct-paths files directories one two three (in_file i) (in_file j) path h k =
    let s = same-place directories two files files i j path h k in ap in_file (one i j s.a s.b s.a_is s.b_is s.parent s.name)
distinct-paths files directories one two three (in_directory i) (in_directory j) path h k =
    let s = same-place directories two directories directories i j path h k in ap in_directory (two i j s.a s.b s.a_is s.b_is s.parent s.name)
distinct-paths files directories one two three (in_file i) (in_directory j) path h k =
    let s = same-place directories two files directories i j path h k in absurd (three i j s.a s.b s.a_is s.b_is s.parent s.name)
distinct-paths files directories one two three (in_directory i) (in_file j) path h k =
    let s = same-place directories two files directories j i path k h in absurd (three j i s.a s.b s.a_is s.b_is s.parent s.name)

-- ---- the tests together

module _ (files directories : List (Option Entry)) where
  -- entries that pass all tests are sound
  pub tests-sound : length files ≤ 255 → length directories ≤ 255 → list_all (has_parent directories) files ≡ true → list_all (has_parent directories) directories ≡ true → are_apart files ≡ true → are_apart directories ≡ true
      → list_all (λ place. not (has_namesake directories place)) files ≡ true → AreSound files directories
  tests-sound few_files few_directories file_parents directory_parents files_apart directories_apart strangers = record {
    few_files = few_files;
    few_directories = few_directories;
    file_parents = parents-hold directories files file_parents;
    directory_parents = parents-hold directories directories directory_parents;
    distinct = distinct-paths files directories (apart-alone files files_apart) (apart-alone directories directories_apart) (all-strangers directories files strangers);
  }

  module _ (sound : AreSound files directories) where
    -- the path of an entry in use
    its-path : (entries : List (Option Entry)) → HaveParents directories entries → (i : ℕ) (a : Entry) → slot entries i ≡ Some a
        → (w : List Name) → way directories 5 a.parent.0 ≡ Some w → slot (paths directories entries) i ≡ Some (w ++ a.name ∷ [])
    its-path entries parents i a is w h = slot-paths directories entries i ∙ ap (λ (o : Option Entry). path_of (way directories 5) o) is ∙ path-made (way directories 5) a w h

    module _ (xs ys : List (Option Entry)) (xp : HaveParents directories xs) (yp : HaveParents directories ys) (i j : ℕ) (a b : Entry) (is : slot xs i ≡ Some a) (js : slot ys j ≡ Some b)
        (parent : a.parent.0 ≡ b.parent.0) (name : a.name ≡ b.name) where
      one-path : (path : List Name) × (slot (paths directories xs) i ≡ Some path) × (slot (paths directories ys) j ≡ Some path)
      one-path =
          let s = some_is (way directories 5 a.parent.0) (xp i a is) in (
            s.0 ++ a.name ∷ [],
            its-path xs xp i a is s.0 s.1,
            its-path ys yp j b js s.0 (ap (way directories 5) (sym parent) ∙ s.1) ∙ ap (λ (m : Name). Some (s.0 ++ m ∷ [])) (sym name),
          )

    pub files-alone : AreAlone files
    files-alone i j a b is js parent name =
        let p = one-path files files sound.file_parents sound.file_parents i j a b is js parent name in file_number i j (sound.distinct (in_file i) (in_file j) p.0 p.1 p.2)

    pub directories-alone : AreAlone directories
    directories-alone i j a b is js parent name =
        let p = one-path directories directories sound.directory_parents sound.directory_parents i j a b is js parent name in directory_number i j (sound.distinct (in_directory i) (in_directory j) p.0 p.1 p.2)

    pub are-strangers : AreStrangers files directories
    are-strangers i j a b is js parent name =
        let p = one-path files directories sound.file_parents sound.directory_parents i j a b is js parent name in not_both i j (sound.distinct (in_file i) (in_directory j) p.0 p.1 p.2)

-- what is true is not false
pub refuted : (b : Bool) → b ≡ true → b ≡ false → ⊥
refuted b h k = let wrong : true ≡ false = sym h ∙ k in cc
