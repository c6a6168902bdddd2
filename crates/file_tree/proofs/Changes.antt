-- What a change of one entry does to the paths of all.
use Rattle.std.proofs.Common.{◌≡◌, ◌≢◌, ℕ, zero, suc, ◌+◌, ◌<◌, ◌≤◌, true, false, cond, not, List, [], ◌∷◌, ◌++◌, length, set, replicate, refl, sym, ap, subst, ◌∙◌, Option, Some, None, IsSome, IfSome, arith, length-append, length-set, get_or-set_same}
use Rattle.std.proofs.lemmas.List.{map-set, length-map, set-set, length-replicate}
use Rattle.std.specs.Prelude.{option_map, unwrap_or, slice_set}
use Rattle.std.specs.FinMap.Entries.{find, find-where_key}
use Rattle.std.specs.Ordering.{eq_by_cmp}
use Rattle.apex_model.specs.Handles.{free_from}
use Rattle.apex_model.specs.Trees.{Name, Node, directory, file, Tree, path_cmp, standing_at, with_node, without_node}
use Rattle.apex_types.specs.declared.numbers.DirNode.{DirNode}
use Rattle.apex_model.proofs.Trees.{path_cmp-IsAntisymmetric}
use Rattle.file_tree.specs.declared.entries.Entry.{Entry}
use Rattle.file_tree.specs.Entries.{TreeValue, slot, way_of, path_in, with_file, with_directory, without_file, without_directory, with_file_at, Place, in_file, in_directory, path_at, put_all, nodes_of, no_entries, stored_of, with_stored, AreDistinct}
use Rattle.file_tree.specs.Table.{path_of, way, paths, stored_at, entry_with, stored_in, value_of, HaveParents, AreSound}
use Rattle.file_tree.proofs.Paths.{Changed, changed_file, changed_directory, put_distinct, put_nodes, without_distinct, without_nodes, at_found}
use Rattle.file_tree.proofs.Ways.{not_some, path-made, path-used, way-higher, way-grown, way-shrunk, slot-paths, paths-same, way_of-value, free-some, free-paths}

pub some_is : {A : Type 0} (o : Option A) → IsSome o → (x : A) × (o ≡ Some x)
some_is None h = absurd (let e : false ≡ true = h in cc)
some_is (Some x) h = (x, refl)

pub is_some : {A : Type 0} {o : Option A} {x : A} → o ≡ Some x → IsSome o
is_some e = subst IsSome (sym e) refl

-- the parents of entries stay where another one is put
pub parents-set : (directories entries : List (Option Entry)) (k : ℕ) (place : Option Entry) → HaveParents directories entries
    → ((entry : Entry) → place ≡ Some entry → IsSome (way directories 5 entry.parent.0)) → HaveParents directories (set entries k place)
parents-set directories [] k place old new i entry h = old i entry h
parents-set directories (x ∷ entries) zero place old new zero entry h = new entry h
parents-set directories (x ∷ entries) zero place old new (suc i) entry h = old (suc i) entry h
parents-set directories (x ∷ entries) (suc k) place old new zero entry h = old zero entry h
parents-set directories (x ∷ entries) (suc k) place old new (suc i) entry h = parents-set directories entries k place (λ j. old (suc j)) new i entry h

-- what stands at a path that does not end at the root
pub standing-below : (tree : Tree ℕ) (before : List Name) (name : Name) → standing_at tree (before ++ name ∷ []) ≡ find path_cmp (before ++ name ∷ []) tree
standing-below tree [] name = refl
standing-below tree (d ∷ before) name = refl

-- no entry has a path at which nothing stands
fresh_path : (files directories : List (Option (List Name))) → AreDistinct files directories → (p : List Name) → find path_cmp p (nodes_of files directories) ≡ None
    → (b : Place) → path_at files directories b ≢ Some p
fresh_path files directories distinct p none b h = not_some (sym none ∙ at_found files directories distinct b p h)

-- the sound entries of a changed tree, and what they stand for
pub record Becomes (files directories : List (Option Entry)) (v : TreeValue) : Type 0 where
  pub sound : AreSound files directories
  pub is : value_of files directories ≡ v

-- with a file at an unused entry, of which this is stored
abbrev pub with_file_of : ℕ × ℕ → TreeValue → ℕ → List Name → TreeValue
with_file_of stored v f path = record { nodes = with_node v.nodes path (file f); files = slice_set v.files f (Some path); directories = v.directories; stored = slice_set v.stored f (Some stored) }

module _ (files directories : List (Option Entry)) (sound : AreSound files directories) where
  module _ (k : ℕ) (entry : Entry) (before : List Name) (parent : way directories 5 entry.parent.0 ≡ Some before)
      (none : find path_cmp (before ++ entry.name ∷ []) (nodes_of (paths directories files) (paths directories directories)) ≡ None) where
    -- an unused entry becomes a file
    pub file_made : k < length files → slot files k ≡ None → Becomes (set files k (Some entry)) directories (with_file_of entry.stored (value_of files directories) k (before ++ entry.name ∷ []))
    unfolding value_of
    file_made room unused =
        let p = before ++ entry.name ∷ [] in
        let F = paths directories files in
        let D = paths directories directories in
        let listed : paths directories (set files k (Some entry)) ≡ set F k (Some p) = map-set (path_of (way directories 5)) files k (Some entry) ∙ ap (set F k) (path-made (way directories 5) entry before parent) in
        let within : k < length F = subst (λ n. k < n) (sym (length-map files (path_of (way directories 5)))) room in
        let ch : Changed F D (set F k (Some p)) D (in_file k) (Some p) = changed_file F D k (Some p) within in
        let fresh = fresh_path F D sound.distinct p none in
        let free : slot F k ≡ None = slot-paths directories files k ∙ ap (path_of (way directories 5)) unused in
        record {
          sound = record {
            few_files = subst (λ n. n ≤ 255) (sym (length-set files k (Some entry))) sound.few_files;
            few_directories = sound.few_directories;
            file_parents = parents-set directories files k (Some entry) sound.file_parents (λ e h. let same : entry ≡ e = cc in is_some (ap (λ (x : Entry). way directories 5 x.parent.0) (sym same) ∙ parent));
            directory_parents = sound.directory_parents;
            distinct = subst (λ (xs : List (Option (List Name))). AreDistinct xs D) (sym listed) (put_distinct F D (set F k (Some p)) D (in_file k) p sound.distinct ch fresh);
          };
          is = λ i. record {
            nodes = (ap (λ (xs : List (Option (List Name))). nodes_of xs D) listed ∙ put_nodes F D (set F k (Some p)) D (in_file k) p sound.distinct ch fresh free) i;
            files = listed i;
            directories = D;
            stored = map-set (option_map (λ (e : Entry). e.stored)) files k (Some entry) i;
          };
        }

    -- an unused entry becomes a directory
    pub directory_made : k < length directories → slot directories k ≡ None → Becomes files (set directories k (Some entry)) (with_directory (value_of files directories) k (before ++ entry.name ∷ []))
    unfolding value_of
    directory_made room unused =
        let p = before ++ entry.name ∷ [] in
        let F = paths directories files in
        let D = paths directories directories in
        let after : List (Option Entry) = set directories k (Some entry) in
        let grown : (entries : List (Option Entry)) → HaveParents directories entries → (i : ℕ) (e : Entry) → slot entries i ≡ Some e → way after 5 e.parent.0 ≡ way directories 5 e.parent.0
        = λ entries parents i e h. let s = some_is (way directories 5 e.parent.0) (parents i e h) in way-grown directories k entry unused 5 e.parent.0 s.0 s.1 ∙ sym s.1 in
        let kept : (entries : List (Option Entry)) → HaveParents directories entries → HaveParents after entries
        = λ entries parents i e h. subst IsSome (sym (grown entries parents i e h)) (parents i e h) in
        let files_listed : paths after files ≡ F = paths-same directories after files (grown files sound.file_parents) in
        let here : way after 5 entry.parent.0 ≡ Some before = way-grown directories k entry unused 5 entry.parent.0 before parent in
        let listed : paths after after ≡ set D k (Some p) = map-set (path_of (way after 5)) directories k (Some entry)
        ∙ (λ i. set (paths-same directories after directories (grown directories sound.directory_parents) i) k (path-made (way after 5) entry before here i)) in
        let within : k < length D = subst (λ n. k < n) (sym (length-map directories (path_of (way directories 5)))) room in
        let ch : Changed F D F (set D k (Some p)) (in_directory k) (Some p) = changed_directory F D k (Some p) within in
        let fresh = fresh_path F D sound.distinct p none in
        let free : slot D k ≡ None = slot-paths directories directories k ∙ ap (path_of (way directories 5)) unused in
        record {
          sound = record {
            few_files = sound.few_files;
            few_directories = subst (λ n. n ≤ 255) (sym (length-set directories k (Some entry))) sound.few_directories;
            file_parents = kept files sound.file_parents;
            directory_parents = parents-set after directories k (Some entry) (kept directories sound.directory_parents)
                (λ e h. let same : entry ≡ e = cc in is_some (ap (λ (x : Entry). way after 5 x.parent.0) (sym same) ∙ here));
            distinct = subst (λ (xs : List (Option (List Name))). AreDistinct xs (paths after after)) (sym files_listed)
                (subst (λ (xs : List (Option (List Name))). AreDistinct F xs) (sym listed) (put_distinct F D F (set D k (Some p)) (in_directory k) p sound.distinct ch fresh));
          };
          is = λ i. record {
            nodes = ((λ j. nodes_of (files_listed j) (listed j)) ∙ put_nodes F D F (set D k (Some p)) (in_directory k) p sound.distinct ch fresh free) i;
            files = files_listed i;
            directories = listed i;
            stored = stored_in files;
          };
        }

  -- a file's entry becomes unused
  pub file_removed : (k : ℕ) (p : List Name) → slot (paths directories files) k ≡ Some p → k < length files → Becomes (set files k None) directories (without_file (value_of files directories) k p)
  unfolding value_of
  file_removed k p was room =
      let F = paths directories files in
      let D = paths directories directories in
      let listed : paths directories (set files k None) ≡ set F k None = map-set (path_of (way directories 5)) files k None in
      let within : k < length F = subst (λ n. k < n) (sym (length-map files (path_of (way directories 5)))) room in
      let ch : Changed F D (set F k None) D (in_file k) None = changed_file F D k None within in
      record {
        sound = record {
          few_files = subst (λ n. n ≤ 255) (sym (length-set files k None)) sound.few_files;
          few_directories = sound.few_directories;
          file_parents = parents-set directories files k None sound.file_parents (λ e h. absurd (not_some h));
          directory_parents = sound.directory_parents;
          distinct = subst (λ (xs : List (Option (List Name))). AreDistinct xs D) (sym listed) (without_distinct F D (set F k None) D (in_file k) p sound.distinct ch was);
        };
        is = λ i. record {
          nodes = (ap (λ (xs : List (Option (List Name))). nodes_of xs D) listed ∙ without_nodes F D (set F k None) D (in_file k) p sound.distinct ch was) i;
          files = listed i;
          directories = D;
          stored = map-set (option_map (λ (e : Entry). e.stored)) files k None i;
        };
      }

  -- a directory's entry becomes unused, which is the parent of none
  pub directory_removed : (k : ℕ) (p : List Name) → slot (paths directories directories) k ≡ Some p → k < length directories
      → ((i : ℕ) (e : Entry) → slot files i ≡ Some e → e.parent.0 ≢ suc k) → ((i : ℕ) (e : Entry) → slot directories i ≡ Some e → e.parent.0 ≢ suc k)
      → Becomes files (set directories k None) (without_directory (value_of files directories) k p)
  unfolding value_of
  directory_removed k p was room no_files no_directories =
      let F = paths directories files in
      let D = paths directories directories in
      let after : List (Option Entry) = set directories k None in
      let stays : (entries : List (Option Entry)) → HaveParents directories entries → ((i : ℕ) (e : Entry) → slot entries i ≡ Some e → e.parent.0 ≢ suc k)
      → (i : ℕ) (e : Entry) → slot entries i ≡ Some e → way after 5 e.parent.0 ≡ way directories 5 e.parent.0
      = λ entries parents childless i e h. let s = some_is (way directories 5 e.parent.0) (parents i e h) in way-shrunk directories k no_directories 5 e.parent.0 s.0 (childless i e h) s.1 ∙ sym s.1 in
      let kept : (entries : List (Option Entry)) → HaveParents directories entries → ((i : ℕ) (e : Entry) → slot entries i ≡ Some e → e.parent.0 ≢ suc k) → HaveParents after entries
      = λ entries parents childless i e h. subst IsSome (sym (stays entries parents childless i e h)) (parents i e h) in
      let files_listed : paths after files ≡ F = paths-same directories after files (stays files sound.file_parents no_files) in
      let listed : paths after after ≡ set D k None = map-set (path_of (way after 5)) directories k None
      ∙ ap (λ (xs : List (Option (List Name))). set xs k None) (paths-same directories after directories (stays directories sound.directory_parents no_directories)) in
      let within : k < length D = subst (λ n. k < n) (sym (length-map directories (path_of (way directories 5)))) room in
      let ch : Changed F D F (set D k None) (in_directory k) None = changed_directory F D k None within in
      record {
        sound = record {
          few_files = sound.few_files;
          few_directories = subst (λ n. n ≤ 255) (sym (length-set directories k None)) sound.few_directories;
          file_parents = kept files sound.file_parents no_files;
          directory_parents = parents-set after directories k None (kept directories sound.directory_parents no_directories) (λ e h. absurd (not_some h));
          distinct = subst (λ (xs : List (Option (List Name))). AreDistinct xs (paths after after)) (sym files_listed)
              (subst (λ (xs : List (Option (List Name))). AreDistinct F xs) (sym listed) (without_distinct F D F (set D k None) (in_directory k) p sound.distinct ch was));
        };
        is = λ i. record {
          nodes = ((λ j. nodes_of (files_listed j) (listed j)) ∙ without_nodes F D F (set D k None) (in_directory k) p sound.distinct ch was) i;
          files = files_listed i;
          directories = listed i;
          stored = stored_in files;
        };
      }

-- ---- as callers see it

-- a parent with room for a name
pub record Room (files directories : List (Option Entry)) (parent : ℕ) (name : Name) : Type 0 where
  pub before : List Name
  pub way_is : way directories 5 parent ≡ Some before
  pub path_is : path_in (value_of files directories) parent name ≡ before ++ name ∷ []

pub has_room : (files directories : List (Option Entry)) (parent : ℕ) (name : Name) → IsSome (way_of (value_of files directories) parent) → length (path_in (value_of files directories) parent name) ≤ 6 → Room files directories parent name
has_room files directories parent name used few =
    let s = some_is (way_of (value_of files directories) parent) used in
    let is : path_in (value_of files directories) parent name ≡ s.0 ++ name ∷ [] = ap (λ (o : Option (List Name)). unwrap_or o [] ++ name ∷ []) s.1 in
    let long : length (path_in (value_of files directories) parent name) ≡ length s.0 + 1 = ap length is ∙ length-append s.0 (name ∷ []) in
    let room : length s.0 ≤ 5 = omega arith in
    record { before = s.0; way_is = way-higher directories 6 5 parent s.0 (sym (way_of-value files directories parent) ∙ s.1) room; path_is = is }

pub nothing_at : (files directories : List (Option Entry)) (parent : ℕ) (name : Name) (r : Room files directories parent name) → standing_at (value_of files directories).nodes (path_in (value_of files directories) parent name) ≡ None
    → find path_cmp (r.before ++ name ∷ []) (nodes_of (paths directories files) (paths directories directories)) ≡ None
unfolding value_of
nothing_at files directories parent name r free =
    sym (standing-below (nodes_of (paths directories files) (paths directories directories)) r.before name)
    ∙ ap (standing_at (nodes_of (paths directories files) (paths directories directories))) (sym r.path_is) ∙ free

pub made_file : (files directories : List (Option Entry)) (v : TreeValue) → value_of files directories ≡ v → AreSound files directories → (parent : DirNode) (name : Name)
    → IsSome (way_of v parent.0) → length (path_in v parent.0 name) ≤ 6 → standing_at v.nodes (path_in v parent.0 name) ≡ None → (k : ℕ) → free_from 0 files ≡ Some k
    → Becomes (set files k (Some (record { parent = parent; name = name; stored = (0, 0) }))) directories (with_file v k (path_in v parent.0 name))
made_file files directories v is sound parent name =
    subst (λ (v : TreeValue). IsSome (way_of v parent.0) → length (path_in v parent.0 name) ≤ 6 → standing_at v.nodes (path_in v parent.0 name) ≡ None → (k : ℕ) → free_from 0 files ≡ Some k
    → Becomes (set files k (Some (record { parent = parent; name = name; stored = (0, 0) }))) directories (with_file v k (path_in v parent.0 name))) is
    (λ used few free k least.
    let r = has_room files directories parent.0 name used few in
    let l = free-some files 0 k least in
    let same : k ≡ l.0 = omega (arith, l.1) in
    let room : k < length files = omega (arith, l.1, l.2) in
    let unused : slot files k ≡ None = ap (slot files) same ∙ l.3 in
    let b = file_made files directories sound k (record { parent = parent; name = name; stored = (0, 0) }) r.before r.way_is (nothing_at files directories parent.0 name r free) room unused in
    record { sound = b.sound; is = b.is ∙ ap (with_file (value_of files directories) k) (sym r.path_is) })

pub made_directory : (files directories : List (Option Entry)) (v : TreeValue) → value_of files directories ≡ v → AreSound files directories → (parent : DirNode) (name : Name)
    → IsSome (way_of v parent.0) → length (path_in v parent.0 name) ≤ 6 → standing_at v.nodes (path_in v parent.0 name) ≡ None → (k : ℕ) → free_from 0 directories ≡ Some k
    → Becomes files (set directories k (Some (record { parent = parent; name = name; stored = (0, 0) }))) (with_directory v k (path_in v parent.0 name))
made_directory files directories v is sound parent name =
    subst (λ (v : TreeValue). IsSome (way_of v parent.0) → length (path_in v parent.0 name) ≤ 6 → standing_at v.nodes (path_in v parent.0 name) ≡ None → (k : ℕ) → free_from 0 directories ≡ Some k
    → Becomes files (set directories k (Some (record { parent = parent; name = name; stored = (0, 0) }))) (with_directory v k (path_in v parent.0 name))) is
    (λ used few free k least.
    let r = has_room files directories parent.0 name used few in
    let l = free-some directories 0 k least in
    let same : k ≡ l.0 = omega (arith, l.1) in
    let room : k < length directories = omega (arith, l.1, l.2) in
    let unused : slot directories k ≡ None = ap (slot directories) same ∙ l.3 in
    let b = directory_made files directories sound k (record { parent = parent; name = name; stored = (0, 0) }) r.before r.way_is (nothing_at files directories parent.0 name r free) room unused in
    record { sound = b.sound; is = b.is ∙ ap (with_directory (value_of files directories) k) (sym r.path_is) })

pub slot-within : {A : Type 0} (xs : List (Option A)) (i : ℕ) → IsSome (slot xs i) → i < length xs
slot-within [] i h = absurd (let e : false ≡ true = h in cc)
slot-within (x ∷ xs) zero h = omega arith
slot-within (x ∷ xs) (suc i) h = let r = slot-within xs i h in omega arith

pub files-within : (files directories : List (Option Entry)) (v : TreeValue) → value_of files directories ≡ v → (i : ℕ) → IsSome (slot v.files i) → i < length files
unfolding value_of
files-within files directories v is i used =
    let r = slot-within (paths directories files) i (subst (λ (v : TreeValue). IsSome (slot v.files i)) (sym is) used) in
    subst (λ n. i < n) (length-map files (path_of (way directories 5))) r

pub directories-within : (files directories : List (Option Entry)) (v : TreeValue) → value_of files directories ≡ v → (i : ℕ) → IsSome (slot v.directories i) → i < length directories
unfolding value_of
directories-within files directories v is i used =
    let r = slot-within (paths directories directories) i (subst (λ (v : TreeValue). IsSome (slot v.directories i)) (sym is) used) in
    subst (λ n. i < n) (length-map directories (path_of (way directories 5))) r

pub removed_file : (files directories : List (Option Entry)) (v : TreeValue) → value_of files directories ≡ v → AreSound files directories → (k : ℕ) (p : List Name) → slot v.files k ≡ Some p
    → Becomes (set files k None) directories (without_file v k p)
unfolding value_of
removed_file files directories v is sound k p was =
    let here : slot (paths directories files) k ≡ Some p = ap (λ (v : TreeValue). slot v.files k) is ∙ was in
    let b = file_removed files directories sound k p here (files-within files directories v is k (is_some was)) in
    record { sound = b.sound; is = b.is ∙ ap (λ (v : TreeValue). without_file v k p) is }

missing : (tree : Tree ℕ) (p q : List Name) → find path_cmp q tree ≡ None → find path_cmp q (without_node tree p) ≡ None
missing tree p q h =
    find-where_key path_cmp (λ key. not (eq_by_cmp path_cmp p key)) q (λ x t. ap (λ key. not (eq_by_cmp path_cmp p key)) (sym (path_cmp-IsAntisymmetric q x t))) tree
    ∙ elim (not (eq_by_cmp path_cmp p q)) as (λ b. cond b (find path_cmp q tree) None ≡ None) [ true ↦ h | false ↦ refl ]

renamed_into : (files directories : List (Option Entry)) → AreSound files directories → (k : ℕ) (entry : Entry) (before : List Name) → way directories 5 entry.parent.0 ≡ Some before
    → find path_cmp (before ++ entry.name ∷ []) (value_of files directories).nodes ≡ None → k < length files → slot files k ≡ None
    → Becomes (set files k (Some entry)) directories (with_file_of entry.stored (value_of files directories) k (before ++ entry.name ∷ []))
unfolding value_of
renamed_into files directories sound k entry before parent none room unused = file_made files directories sound k entry before parent none room unused

-- ---- what is stored of a file's entry

-- what is at a place is what is set there
set-own : {A : Type 0} (xs : List (Option A)) (k : ℕ) → set xs k (slot xs k) ≡ xs
set-own [] k = refl
set-own (x ∷ xs) zero = refl
set-own (x ∷ xs) (suc k) = ap (λ rest. x ∷ rest) (set-own xs k)

pub stored-path : (directories entries : List (Option Entry)) (k : ℕ) (path : List Name) → slot (paths directories entries) k ≡ Some path → slot (stored_in entries) k ≡ Some (unwrap_or (slot (stored_in entries) k) (0, 0))
stored-path directories [] k path h = absurd (not_some h)
stored-path directories (None ∷ entries) zero path h = absurd (not_some h)
stored-path directories (Some entry ∷ entries) zero path h = refl
stored-path directories (entry ∷ entries) (suc k) path h = stored-path directories entries k path h

slot-stored : (entries : List (Option Entry)) (k : ℕ) → slot (stored_in entries) k ≡ option_map (λ (e : Entry). e.stored) (slot entries k)
slot-stored [] k = refl
slot-stored (x ∷ entries) zero = refl
slot-stored (x ∷ entries) (suc k) = slot-stored entries k

some-used : (ways : ℕ → Option (List Name)) (place : Option Entry) (path : List Name) → path_of ways place ≡ Some path → IsSome place
some-used ways None path h = absurd (not_some h)
some-used ways (Some entry) path h = refl

used-at : (files directories : List (Option Entry)) (v : TreeValue) → value_of files directories ≡ v → (k : ℕ) (path : List Name) → slot v.files k ≡ Some path → IsSome (slot files k)
unfolding value_of
used-at files directories v is k path was =
    some-used (way directories 5) (slot files k) path (sym (slot-paths directories files k) ∙ ap (λ (v : TreeValue). slot v.files k) is ∙ was)

-- what is stored of a place, as callers see it
pub stored-seen : (files directories : List (Option Entry)) (v : TreeValue) → value_of files directories ≡ v → (k : ℕ) → stored_of v k ≡ stored_at (slot files k)
unfolding value_of
stored-seen files directories v is k =
    ap (λ (v : TreeValue). stored_of v k) (sym is) ∙ ap (λ (o : Option (ℕ × ℕ)). unwrap_or o (0, 0)) (slot-stored files k)
    ∙ (elim (slot files k) as (λ o. unwrap_or (option_map (λ (e : Entry). e.stored) o) (0, 0) ≡ stored_at o) [ None ↦ refl | Some e ↦ refl ])

-- of an entry that no file uses nothing is
pub stored-none : (files directories : List (Option Entry)) (v : TreeValue) → value_of files directories ≡ v → AreSound files directories → (k : ℕ) → slot v.files k ≡ None → stored_of v k ≡ (0, 0)
unfolding value_of
stored-none files directories v is sound k none =
    stored-seen files directories v is k
    ∙ (elim (slot files k) as (λ (o : Option Entry). slot files k ≡ o → stored_at o ≡ (0, 0)) [
      | None ↦ λ e. refl
      | Some entry ↦ λ e.
          let used : IsSome (slot (paths directories files) k) = path-used directories files sound.file_parents k entry e in
          let gone : slot (paths directories files) k ≡ None = ap (λ (v : TreeValue). slot v.files k) is ∙ none in
          absurd (let h : false ≡ true = subst IsSome gone used in cc)
    ]) refl

-- what is stored of an entry, as callers see it
pub stored-here : (files directories : List (Option Entry)) (v : TreeValue) → value_of files directories ≡ v → (k : ℕ) (entry : Entry) → slot files k ≡ Some entry → stored_of v k ≡ entry.stored
unfolding value_of
stored-here files directories v is k entry h =
    ap (λ (v : TreeValue). stored_of v k) (sym is) ∙ ap (λ (o : Option (ℕ × ℕ)). unwrap_or o (0, 0)) (slot-stored files k ∙ ap (option_map (λ (e : Entry). e.stored)) h)

-- something is stored of a file's entry
pub stored-used : (files directories : List (Option Entry)) (v : TreeValue) → value_of files directories ≡ v → (k : ℕ) (path : List Name) → slot v.files k ≡ Some path → slot v.stored k ≡ Some (stored_of v k)
unfolding value_of
stored-used files directories v is k path was =
    subst (λ (v : TreeValue). slot v.stored k ≡ Some (stored_of v k)) is (stored-path directories files k path (ap (λ (v : TreeValue). slot v.files k) is ∙ was))

pub renamed_file : (files directories : List (Option Entry)) (v : TreeValue) → value_of files directories ≡ v → AreSound files directories → (k : ℕ) (from : List Name) → slot v.files k ≡ Some from
    → (parent : DirNode) (name : Name) → IsSome (way_of v parent.0) → length (path_in v parent.0 name) ≤ 6 → standing_at v.nodes (path_in v parent.0 name) ≡ None
    → Becomes (set files k (Some (record { parent = parent; name = name; stored = stored_of v k }))) directories (with_file_at v k from (path_in v parent.0 name))
renamed_file files directories v is sound k from was parent name used few free =
    let gone = removed_file files directories v is sound k from was in
    let room : k < length files = files-within files directories v is k (is_some was) in
    let r = has_room files directories parent.0 name (subst (λ (v : TreeValue). IsSome (way_of v parent.0)) (sym is) used) (subst (λ (v : TreeValue). length (path_in v parent.0 name) ≤ 6) (sym is) few) in
    let path : path_in v parent.0 name ≡ r.before ++ name ∷ [] = ap (λ (v : TreeValue). path_in v parent.0 name) (sym is) ∙ r.path_is in
    let none : find path_cmp (r.before ++ name ∷ []) v.nodes ≡ None = sym (standing-below v.nodes r.before name) ∙ ap (standing_at v.nodes) (sym path) ∙ free in
    let left : find path_cmp (r.before ++ name ∷ []) (value_of (set files k None) directories).nodes ≡ None
    = ap (λ (v : TreeValue). find path_cmp (r.before ++ name ∷ []) v.nodes) gone.is ∙ missing v.nodes from (r.before ++ name ∷ []) none in
    let entry : Entry = record { parent = parent; name = name; stored = stored_of v k } in
    let m = renamed_into (set files k None) directories gone.sound k entry r.before r.way_is left (subst (λ n. k < n) (sym (length-set files k None)) room) (get_or-set_same files k None None room) in
    let twice : set (set files k None) k (Some entry) ≡ set files k (Some entry) = set-set files k None (Some entry) in
    let kept : set (set v.stored k None) k (Some (stored_of v k)) ≡ v.stored = set-set v.stored k None (Some (stored_of v k)) ∙ ap (set v.stored k) (sym (stored-used files directories v is k from was)) ∙ set-own v.stored k in
    record {
      sound = subst (λ (xs : List (Option Entry)). AreSound xs directories) twice m.sound;
      is = ap (λ (xs : List (Option Entry)). value_of xs directories) (sym twice) ∙ m.is ∙ ap (λ (u : TreeValue). with_file_of (stored_of v k) u k (r.before ++ name ∷ [])) gone.is
          ∙ (λ i. record { nodes = with_node (without_node v.nodes from) (sym path i) (file k); files = (set-set v.files k None (Some (r.before ++ name ∷ [])) ∙ ap (λ (p : List Name). set v.files k (Some p)) (sym path)) i; directories = v.directories; stored = kept i });
    }

-- the same with what is stored given
pub renamed_with : (files directories : List (Option Entry)) (v : TreeValue) → value_of files directories ≡ v → AreSound files directories → (k : ℕ) (from : List Name) → slot v.files k ≡ Some from
    → (parent : DirNode) (name : Name) (stored : ℕ × ℕ) → stored_of v k ≡ stored → IsSome (way_of v parent.0) → length (path_in v parent.0 name) ≤ 6 → standing_at v.nodes (path_in v parent.0 name) ≡ None
    → Becomes (set files k (Some (record { parent = parent; name = name; stored = stored }))) directories (with_file_at v k from (path_in v parent.0 name))
renamed_with files directories v is sound k from was parent name stored kept used few free =
    subst (λ (st : ℕ × ℕ). Becomes (set files k (Some (record { parent = parent; name = name; stored = st }))) directories (with_file_at v k from (path_in v parent.0 name))) kept
    (renamed_file files directories v is sound k from was parent name used few free)

-- ---- another size and change count

path-with : (ways : ℕ → Option (List Name)) (stored : ℕ × ℕ) (place : Option Entry) → path_of ways (option_map (entry_with stored) place) ≡ path_of ways place
path-with ways stored None = refl
path-with ways stored (Some entry) = refl

-- what is stored of a file's entry changes
pub stored_changed : (files directories : List (Option Entry)) (v : TreeValue) → value_of files directories ≡ v → AreSound files directories → (k size changes : ℕ) → IsSome (slot v.files k)
    → Becomes (set files k (option_map (entry_with (size, changes)) (slot files k))) directories (with_stored v k size changes)
unfolding value_of
stored_changed files directories v is sound k size changes used =
    let new : Option Entry = option_map (entry_with (size, changes)) (slot files k) in
    let F = paths directories files in
    let listed : paths directories (set files k new) ≡ F
    = map-set (path_of (way directories 5)) files k new ∙ ap (set F k) (path-with (way directories 5) (size, changes) (slot files k) ∙ sym (slot-paths directories files k)) ∙ set-own F k in
    let s = some_is (slot v.files k) used in
    let here : IsSome (slot files k) = used-at files directories v is k s.0 s.1 in
    let e = some_is (slot files k) here in
    record {
      sound = record {
        few_files = subst (λ n. n ≤ 255) (sym (length-set files k new)) sound.few_files;
        few_directories = sound.few_directories;
        file_parents = parents-set directories files k new sound.file_parents (λ x h. let same : entry_with (size, changes) e.0 ≡ x = (let both : Some (entry_with (size, changes) e.0) ≡ Some x = sym (ap (option_map (entry_with (size, changes))) e.1) ∙ h in cc) in
            subst (λ (y : Entry). IsSome (way directories 5 y.parent.0)) same (sound.file_parents k e.0 e.1));
        directory_parents = sound.directory_parents;
        distinct = subst (λ (xs : List (Option (List Name))). AreDistinct xs (paths directories directories)) (sym listed) sound.distinct;
      };
      is = (λ i. record {
        nodes = nodes_of (listed i) (paths directories directories);
        files = listed i;
        directories = paths directories directories;
        stored = (map-set (option_map (λ (x : Entry). x.stored)) files k new ∙ ap (set (stored_in files) k) (ap (λ (o : Option Entry). option_map (λ (x : Entry). x.stored) (option_map (entry_with (size, changes)) o)) e.1)) i;
      }) ∙ ap (λ (v : TreeValue). with_stored v k size changes) is;
    }

-- ---- a tree without entries

slot-unused : {A : Type 0} (n i : ℕ) → slot {A = A} (replicate n None) i ≡ None
slot-unused zero i = refl
slot-unused (suc n) zero = refl
slot-unused (suc n) (suc i) = slot-unused n i

paths-unused : (directories : List (Option Entry)) (n : ℕ) → paths directories (replicate n None) ≡ replicate n None
paths-unused directories zero = refl
paths-unused directories (suc n) = ap (λ rest. None ∷ rest) (paths-unused directories n)

put-unused : (node : ℕ → Node ℕ) (k n : ℕ) (tree : Tree ℕ) → put_all node k (replicate n None) tree ≡ tree
put-unused node k zero tree = refl
put-unused node k (suc n) tree = put-unused node (k + 1) n tree

stored-unused : (n : ℕ) → stored_in (replicate n None) ≡ replicate n None
stored-unused zero = refl
stored-unused (suc n) = ap (λ rest. None ∷ rest) (stored-unused n)

pub nothing_stands : (n m : ℕ) → n ≤ 255 → m ≤ 255 → Becomes (replicate n None) (replicate m None) (no_entries n m)
unfolding value_of
nothing_stands n m few_files few_directories =
    let D : List (Option Entry) = replicate m None in
    let fs : paths D (replicate n None) ≡ replicate n None = paths-unused D n in
    let ds : paths D (replicate m None) ≡ replicate m None = paths-unused D m in
    record {
      sound = record {
        few_files = subst (λ k. k ≤ 255) (sym (length-replicate n None)) few_files;
        few_directories = subst (λ k. k ≤ 255) (sym (length-replicate m None)) few_directories;
        file_parents = λ i entry h. absurd (not_some (sym (slot-unused n i) ∙ h));
        directory_parents = λ i entry h. absurd (not_some (sym (slot-unused m i) ∙ h));
        distinct = λ a b path h k. absurd (none_at a path h);
      };
      is = λ i. record { nodes = ((λ j. nodes_of (fs j) (ds j)) ∙ put-unused file 0 n (put_all (λ _. directory) 0 (replicate m None) []) ∙ put-unused (λ _. directory) 0 m []) i; files = fs i; directories = ds i; stored = stored-unused n i };
    }
  where
    none_at : (a : Place) (path : List Name) → path_at (paths (replicate m None) (replicate n None)) (paths (replicate m None) (replicate m None)) a ≢ Some path
    none_at (in_file f) path h = not_some (sym (slot-unused n f) ∙ ap (λ (xs : List (Option (List Name))). slot xs f) (sym (paths-unused (replicate m None) n)) ∙ h)
    none_at (in_directory d) path h = not_some (sym (slot-unused m d) ∙ ap (λ (xs : List (Option (List Name))). slot xs d) (sym (paths-unused (replicate m None) m)) ∙ h)

-- ---- the least unused entry, as callers see it

pub files-least : (files directories : List (Option Entry)) (v : TreeValue) → value_of files directories ≡ v → AreSound files directories → free_from 0 v.files ≡ free_from 0 files
unfolding value_of
files-least files directories v is sound = ap (λ (v : TreeValue). free_from 0 v.files) (sym is) ∙ free-paths directories files 0 sound.file_parents

free-later : {A : Type 0} (n : ℕ) (xs : List (Option A)) → free_from (suc n) xs ≡ option_map suc (free_from n xs)
free-later n [] = refl
free-later n (None ∷ xs) = refl
free-later n (Some x ∷ xs) = ap (λ m. free_from m xs) (let e : suc n + 1 ≡ suc (n + 1) = omega arith in e) ∙ free-later (n + 1) xs

pub directories-least : (files directories : List (Option Entry)) (v : TreeValue) → value_of files directories ≡ v → AreSound files directories → free_from 1 v.directories ≡ option_map suc (free_from 0 directories)
unfolding value_of
directories-least files directories v is sound =
    ap (λ (v : TreeValue). free_from 1 v.directories) (sym is) ∙ free-paths directories directories 1 sound.directory_parents ∙ free-later 0 directories

pub each_some : {A : Type 0} (o : Option A) (P : A → Type 0) → ((x : A) → o ≡ Some x → P x) → IfSome o P
each_some None P h = tt
each_some (Some x) P h = h x refl
