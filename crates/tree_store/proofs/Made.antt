-- What a new file, a new directory and one directory less make of what a store holds.
use Rattle.std.proofs.Common.{◌≡◌, ℕ, ◌-◌, ◌≤◌, List, [], ◌∷◌, length, refl, sym, ap, subst, ◌∙◌, Option, Some, None, arith}
use Rattle.std.proofs.lemmas.List.{length-set}
use Rattle.std.specs.Prelude.{unwrap_or}
use Rattle.apex_types.specs.declared.codes.Errno.{Errno}
use Rattle.apex_types.specs.declared.codes.Errno.TheVariants.{Enospc, Enotempty}
use Rattle.apex_model.specs.Handles.{free_from}
use Rattle.apex_model.specs.Trees.{Name, Node, directory, entries_within, file, with_node, without_node}
use Rattle.file_tree.specs.Entries.{IsConsistent, TreeValue, path_in, way_of, with_directory, with_file, without_directory}
use Rattle.rig_core.specs.Outside.{Outside}
use Rattle.tree_state.proofs.Applies.{moved-kept, unused-slot}
use Rattle.tree_state.specs.Entries.{empty_file}
use Rattle.tree_state.specs.Stored.{SameContents, durable_tree}
use Rattle.tree_state.specs.declared.state.TreeState.{TreeState}
use Rattle.store_model.specs.Stores.{StoreValue, durable_of, with_names}
use Rattle.tree_store.specs.Answers.{directory_refusal, file_refusal, made_directory, made_file, removal_refusal, removed_directory}
use Rattle.tree_store.specs.Stored.{Holds, names_of, row_of, start_of}
use Rattle.tree_store.specs.declared.store.TreeStore.{TreeStore}
use Rattle.tree_store.proofs.Named.{made-durable, made_directory-durable, removed_directory-durable}
use Rattle.tree_store.proofs.Naming.{holds-named, with_state}

pub some-unless : {A : Type 0} (o : Option A) → (o ≡ None → ⊥) → (x : A) × (o ≡ Some x)
some-unless None differs = absurd (differs refl)
some-unless (Some x) differs = (x, refl)

pub none-unless : {A : Type 0} (xs : List A) → (1 ≤ length xs → ⊥) → xs ≡ []
none-unless [] differs = refl
none-unless (x ∷ xs) differs = absurd (differs (omega arith))

-- ---- words by what was found

file-found : StoreValue → TreeValue → List Name → Option ℕ → StoreValue
file-found v names path None = v
file-found v names path (Some f) = with_names v (with_file names f path)

directory-found : StoreValue → TreeValue → List Name → Option ℕ → StoreValue
directory-found v names path None = v
directory-found v names path (Some d) = with_names v (with_directory names (d - 1) path)

full : Option ℕ → Option Errno
full None = Some Enospc
full (Some f) = None

occupied : List (Name × Node ℕ) → Option Errno
occupied [] = None
occupied (entry ∷ entries) = Some Enotempty

occupied-some : (entries : List (Name × Node ℕ)) → 1 ≤ length entries → occupied entries ≡ Some Enotempty
unfolding occupied
occupied-some [] some = absurd (let wrong : 1 ≤ 0 = some in omega (arith, wrong))
occupied-some (entry ∷ entries) some = refl

module _ (V : Type 0) (o : Outside) (s : TreeStore) (v : StoreValue) (holds : Holds V o s v) where
  pub path-same : (parent : ℕ) (name : Name) → path_in v.tree parent name ≡ path_in (names_of s) parent name
  path-same parent name = ap (λ (names : TreeValue). path_in names parent name) holds.names

  pub free-file-same : free_from 0 v.tree.files ≡ free_from 0 (names_of s).files
  free-file-same = ap (λ (names : TreeValue). free_from 0 names.files) holds.names

  pub free-directory-same : free_from 1 v.tree.directories ≡ free_from 1 (names_of s).directories
  free-directory-same = ap (λ (names : TreeValue). free_from 1 names.directories) holds.names

  module _ (parent : ℕ) (name : Name) where
    -- ---- no entry is unused
    pub file-full : free_from 0 (names_of s).files ≡ None → (file_refusal v ≡ Some Enospc) × (made_file v parent name ≡ v)
    unfolding full file-found
    file-full none = let there = free-file-same ∙ none in (ap full there, ap (file-found v v.tree (path_in v.tree parent name)) there)

    pub directory-full : free_from 1 (names_of s).directories ≡ None → (directory_refusal v ≡ Some Enospc) × (made_directory v parent name ≡ v)
    unfolding full directory-found
    directory-full none = let there = free-directory-same ∙ none in (ap full there, ap (directory-found v v.tree (path_in v.tree parent name)) there)

    -- ---- an entry is
    module _ (f : ℕ) (least : free_from 0 (names_of s).files ≡ Some f) where
      pub file-refusal-none : file_refusal v ≡ None
      unfolding full
      file-refusal-none = ap full (free-file-same ∙ least)

      pub made-file-is : made_file v parent name ≡ with_names v (with_file v.tree f (path_in v.tree parent name))
      unfolding file-found
      made-file-is = ap (file-found v v.tree (path_in v.tree parent name)) (free-file-same ∙ least)

      pub file-names : with_file (names_of s) f (path_in (names_of s) parent name) ≡ with_file v.tree f (path_in v.tree parent name)
      file-names = sym (ap (λ (names : TreeValue). with_file names f (path_in names parent name)) holds.names)

      pub made-file-tree : V → durable_of (made_file v parent name) ≡ with_node (durable_tree (row_of s) (start_of s) o.view s.state) (path_in (names_of s) parent name) (file empty_file)
      made-file-tree tells =
          ap durable_of made-file-is
          ∙ made-durable v holds.sound f (path_in v.tree parent name) (unused-slot v.tree f (free-file-same ∙ least))
          ∙ (λ i. with_node (holds.durable tells i) (path-same parent name i) (file empty_file))

      module _ (e : Outside) (t : TreeState) (names : t.kept.tree ≡ with_file (names_of s) f (path_in (names_of s) parent name)) (consistent : IsConsistent t.kept.tree)
          (present : t.present ≡ s.state.present) (charges : t.charges ≡ s.state.charges) (contents : V → SameContents (row_of s) (start_of s) o.view e.view s.state t)
          (durable : V → durable_tree (row_of s) (start_of s) e.view t ≡ with_node (durable_tree (row_of s) (start_of s) o.view s.state) (path_in (names_of s) parent name) (file empty_file)) where
        pub made-file-holds : Holds V e (with_state s t) (made_file v parent name)
        made-file-holds = subst (λ (w : StoreValue). Holds V e (with_state s t) w) (sym made-file-is)
            (holds-named V o e s t v holds (with_file v.tree f (path_in v.tree parent name)) (names ∙ file-names) consistent (length-set v.tree.files f (Some (path_in v.tree parent name))) (moved-kept v.tree f [] (path_in v.tree parent name)).unused present charges contents
            (λ tells. ap durable_of (sym made-file-is) ∙ made-file-tree tells ∙ sym (durable tells)))

    module _ (d : ℕ) (least : free_from 1 (names_of s).directories ≡ Some d) where
      pub directory-refusal-none : directory_refusal v ≡ None
      unfolding full
      directory-refusal-none = ap full (free-directory-same ∙ least)

      pub made-directory-is : made_directory v parent name ≡ with_names v (with_directory v.tree (d - 1) (path_in v.tree parent name))
      unfolding directory-found
      made-directory-is = ap (directory-found v v.tree (path_in v.tree parent name)) (free-directory-same ∙ least)

      pub directory-names : with_directory (names_of s) (d - 1) (path_in (names_of s) parent name) ≡ with_directory v.tree (d - 1) (path_in v.tree parent name)
      directory-names = sym (ap (λ (names : TreeValue). with_directory names (d - 1) (path_in names parent name)) holds.names)

      pub made-directory-tree : V → durable_of (made_directory v parent name) ≡ with_node (durable_tree (row_of s) (start_of s) o.view s.state) (path_in (names_of s) parent name) directory
      made-directory-tree tells =
          ap durable_of made-directory-is
          ∙ made_directory-durable v (d - 1) (path_in v.tree parent name)
          ∙ (λ i. with_node (holds.durable tells i) (path-same parent name i) directory)

      module _ (e : Outside) (t : TreeState) (names : t.kept.tree ≡ with_directory (names_of s) (d - 1) (path_in (names_of s) parent name)) (consistent : IsConsistent t.kept.tree)
          (present : t.present ≡ s.state.present) (charges : t.charges ≡ s.state.charges) (contents : V → SameContents (row_of s) (start_of s) o.view e.view s.state t)
          (durable : V → durable_tree (row_of s) (start_of s) e.view t ≡ with_node (durable_tree (row_of s) (start_of s) o.view s.state) (path_in (names_of s) parent name) directory) where
        pub made-directory-holds : Holds V e (with_state s t) (made_directory v parent name)
        made-directory-holds = subst (λ (w : StoreValue). Holds V e (with_state s t) w) (sym made-directory-is)
            (holds-named V o e s t v holds (with_directory v.tree (d - 1) (path_in v.tree parent name)) (names ∙ directory-names) consistent refl (λ g none. none) present charges contents
            (λ tells. ap durable_of (sym made-directory-is) ∙ made-directory-tree tells ∙ sym (durable tells)))

  -- ---- a directory goes
  module _ (d : ℕ) where
    pub way-same : unwrap_or (way_of v.tree d) [] ≡ unwrap_or (way_of (names_of s) d) []
    way-same = ap (λ (names : TreeValue). unwrap_or (way_of names d) []) holds.names

    within-same : entries_within v.tree.nodes (unwrap_or (way_of v.tree d) []) ≡ entries_within (names_of s).nodes (unwrap_or (way_of (names_of s) d) [])
    within-same = ap (λ (names : TreeValue). entries_within names.nodes (unwrap_or (way_of names d) [])) holds.names

    pub removal-none : entries_within (names_of s).nodes (unwrap_or (way_of (names_of s) d) []) ≡ [] → removal_refusal v d ≡ None
    unfolding occupied
    removal-none none = ap occupied (within-same ∙ none)

    pub removal-some : 1 ≤ length (entries_within (names_of s).nodes (unwrap_or (way_of (names_of s) d) [])) → removal_refusal v d ≡ Some Enotempty
    unfolding occupied
    removal-some some = occupied-some (entries_within v.tree.nodes (unwrap_or (way_of v.tree d) [])) (subst (λ (entries : List (Name × Node ℕ)). 1 ≤ length entries) (sym within-same) some)

    pub removed-names : without_directory (names_of s) (d - 1) (unwrap_or (way_of (names_of s) d) []) ≡ without_directory v.tree (d - 1) (unwrap_or (way_of v.tree d) [])
    removed-names = sym (ap (λ (names : TreeValue). without_directory names (d - 1) (unwrap_or (way_of names d) [])) holds.names)

    pub removed-directory-tree : V → durable_of (removed_directory v d) ≡ without_node (durable_tree (row_of s) (start_of s) o.view s.state) (unwrap_or (way_of (names_of s) d) [])
    removed-directory-tree tells = removed_directory-durable v (d - 1) (unwrap_or (way_of v.tree d) []) ∙ (λ i. without_node (holds.durable tells i) (way-same i))

    module _ (e : Outside) (t : TreeState) (names : t.kept.tree ≡ without_directory (names_of s) (d - 1) (unwrap_or (way_of (names_of s) d) [])) (consistent : IsConsistent t.kept.tree)
        (present : t.present ≡ s.state.present) (charges : t.charges ≡ s.state.charges) (contents : V → SameContents (row_of s) (start_of s) o.view e.view s.state t)
        (durable : V → durable_tree (row_of s) (start_of s) e.view t ≡ without_node (durable_tree (row_of s) (start_of s) o.view s.state) (unwrap_or (way_of (names_of s) d) [])) where
      pub removed-directory-holds : Holds V e (with_state s t) (removed_directory v d)
      removed-directory-holds =
          holds-named V o e s t v holds (without_directory v.tree (d - 1) (unwrap_or (way_of v.tree d) [])) (names ∙ removed-names) consistent refl (λ g none. none) present charges contents
          (λ tells. removed-directory-tree tells ∙ sym (durable tells))
