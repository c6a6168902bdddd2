-- The answers to directory calls are plain.
use Rattle.std.proofs.Common.{ℕ, zero, suc, List, [], ◌∷◌, refl, Option, Some, None}
use Rattle.std.specs.Prelude.{IfSome, ◌||◌, nat_le, is_some, slice_index_or, bytes_eq, IsTrue}
use Rattle.std.specs.List.{AllByRecursion, AllZip}
use Rattle.apex_types.specs.Naming.{is_name}
use Rattle.apex_types.specs.Rows.{Rows}
use Rattle.apex_types.specs.declared.calls.DirCall.{DirCall}
use Rattle.apex_types.specs.declared.calls.DirCall.TheVariants.{OpenDirectory, CloseDirectory, ReadDirectory, RewindDirectory, MakeDirectory, RemoveDirectory, SyncDirectory}
use Rattle.apex_types.specs.declared.codes.Errno.TheVariants.{Ebadf, Enoent, Enotdir, Eexist, Enospc, Emfile, Ebusy, Estale, Enotempty}
use Rattle.apex_types.specs.declared.rows.TreeRow.{TreeRow}
use Rattle.apex_model.specs.DirectoryStep.{open_directory_at, open_directory, close_directory, entry_values, give_entry, read_directory, rewind_directory, make_directory, has_entries, remove_directory_at, remove_directory, sync_directory, directory_service}
use Rattle.apex_model.specs.Files.{File}
use Rattle.apex_model.specs.FileStep.{is_empty}
use Rattle.apex_model.specs.FileSystem.{FileSystem, tree_in, handles_in, directory_limit, on_directory_handle, on_directory}
use Rattle.apex_model.specs.Handles.{OpenedDirectory, any_open, is_directory_handle_to, handle_at, least_free}
use Rattle.apex_model.specs.Outcomes.{Outcome}
use Rattle.apex_model.specs.Tables.{Place, owner_alone, owner_or_reader}
use Rattle.apex_model.specs.Trees.{Name, Node, directory, file, Tree, standing_at, directory_count, name_within, is_behind, entries_within, first_behind, next_entry}
use Rattle.apex_model.specs.Validity.{IsValidEntry, IsValidTree, IsValidFileSystem}
use Rattle.model_laws.specs.ReplyLines.{HasNames}
use Rattle.model_laws.proofs.PlainOutcomes.{IsPlainOutcome, plain-accepted, plain-refuse, plain-if, plain-given, some-choice}
use Rattle.model_laws.proofs.PlainFiles.{plain-path}

-- ---- the names of a directory's entries

abbrev IsName : Name → Type 0
IsName name = IsTrue (is_name name)

abbrev HasName : Name × Node File → Type 0
HasName entry = IsName entry.0

abbrev IsSpelled : List Name × Node File → Type 0
IsSpelled entry = AllByRecursion IsName entry.0

entries-spelled : (whole tree : Tree File) → AllByRecursion (IsValidEntry whole) tree → AllByRecursion IsSpelled tree
entries-spelled whole [] h = tt
entries-spelled whole (e ∷ tree) h = (h.0.path.spelled, entries-spelled whole tree h.1)

-- the paths of a valid tree are spelled as names, and a tree that is not there has none
tree-spelled : (rows : List TreeRow) (trees : List (Tree File)) (t : ℕ) → AllZip IsValidTree rows trees → AllByRecursion IsSpelled (slice_index_or trees t [])
tree-spelled [] [] t z = tt
tree-spelled [] (x ∷ trees) t z = absurd z
tree-spelled (r ∷ rows) [] t z = absurd z
tree-spelled (r ∷ rows) (x ∷ trees) zero z = entries-spelled x x z.0.entries
tree-spelled (r ∷ rows) (x ∷ trees) (suc t) z = tree-spelled rows trees t z.1

-- a name within a directory is one of the path's
name_within-is : (way names : List Name) → AllByRecursion IsName names → IfSome (name_within way names) IsName
name_within-is [] [] h = tt
name_within-is [] (name ∷ []) h = h.0
name_within-is [] (name ∷ next ∷ names) h = tt
name_within-is (d ∷ way) [] h = tt
name_within-is (d ∷ way) (name ∷ names) h = some-choice IsName (bytes_eq d name) (name_within way names) None (name_within-is way names h.1) tt

abbrev entries_with : Option Name → Node File → List (Name × Node File) → List (Name × Node File)
entries_with o node rest = elim o [ Some name ↦ (name, node) ∷ rest | None ↦ rest ]

with-named : (o : Option Name) (node : Node File) (rest : List (Name × Node File)) → IfSome o IsName → AllByRecursion HasName rest → AllByRecursion HasName (entries_with o node rest)
with-named None node rest h k = k
with-named (Some name) node rest h k = (h, k)

entries_within-named : (tree : Tree File) (way : List Name) → AllByRecursion IsSpelled tree → AllByRecursion HasName (entries_within tree way)
entries_within-named [] way h = tt
entries_within-named (e ∷ tree) way h = with-named (name_within way e.0) e.1 (entries_within tree way) (name_within-is way e.0 h.0) (entries_within-named tree way h.1)

first_behind-named : (last : Option Name) (entries : List (Name × Node File)) → AllByRecursion HasName entries → IfSome (first_behind last entries) HasName
first_behind-named last [] h = tt
first_behind-named last (e ∷ entries) h = some-choice HasName (is_behind last e.0) (Some e) (first_behind last entries) h.0 (first_behind-named last entries h.1)

entry_values-named : (name : Name) (node : Node File) → IsTrue (is_name name) → HasNames (entry_values name node)
entry_values-named name directory h = h
entry_values-named name (file f) h = h

-- ---- directories

module _ (table : Rows) (fs : FileSystem) (p : ℕ) (v : IsValidFileSystem table fs) where
  plain-directory : (id : ℕ) (rest : OpenedDirectory → List Name → Outcome FileSystem) → ((h : OpenedDirectory) (names : List Name) → IsPlainOutcome (rest h names))
      → IsPlainOutcome (on_directory_handle fs p id (λ handle. on_directory handle (rest handle)))
  plain-directory id rest h = plain-given (handle_at (handles_in fs p).directories id) Ebadf _ refl (λ handle. plain-given handle.path Estale (rest handle) refl (h handle))

  open_directory_at-plain : (place : Place) (o : Option (Node File)) → IsPlainOutcome (open_directory_at fs p place o)
  open_directory_at-plain place None = plain-refuse Enoent refl
  open_directory_at-plain place (Some (file f)) = plain-refuse Enotdir refl
  open_directory_at-plain place (Some directory) = plain-given (least_free (handles_in fs p).directories) Emfile _ refl (λ id. plain-accepted _ _ tt)

  open_directory-plain : (path : List ℕ) → IsPlainOutcome (open_directory table fs p path)
  unfolding open_directory
  open_directory-plain path = plain-path table fs p owner_or_reader path _ (λ place. open_directory_at-plain place (standing_at (tree_in fs place.tree) place.names))

  close_directory-plain : (id : ℕ) → IsPlainOutcome (close_directory fs p id)
  unfolding close_directory
  close_directory-plain id = plain-given (handle_at (handles_in fs p).directories id) Ebadf _ refl (λ h. plain-accepted _ _ tt)

  give_entry-plain : (id : ℕ) (h : OpenedDirectory) (o : Option (Name × Node File)) → IfSome o HasName → IsPlainOutcome (give_entry fs p id h o)
  give_entry-plain id h None k = plain-accepted _ _ tt
  give_entry-plain id h (Some entry) k = plain-accepted _ _ (entry_values-named entry.0 entry.1 k)

  read_directory-plain : (id : ℕ) → IsPlainOutcome (read_directory fs p id)
  unfolding read_directory
  read_directory-plain id = plain-directory id _ (λ h names. give_entry-plain id h (next_entry (tree_in fs h.tree) names h.last)
      (first_behind-named h.last (entries_within (tree_in fs h.tree) names) (entries_within-named (tree_in fs h.tree) names (tree-spelled table.trees fs.trees h.tree v.trees))))

  rewind_directory-plain : (id : ℕ) → IsPlainOutcome (rewind_directory fs p id)
  unfolding rewind_directory
  rewind_directory-plain id = plain-directory id _ (λ h names. plain-accepted _ _ tt)

  make_directory-plain : (path : List ℕ) → IsPlainOutcome (make_directory table fs p path)
  unfolding make_directory
  make_directory-plain path = plain-path table fs p owner_alone path _ (λ place. plain-if (is_some (standing_at (tree_in fs place.tree) place.names)) Eexist _ refl
      (plain-if (nat_le (directory_limit table place.tree) (directory_count (tree_in fs place.tree))) Enospc _ refl (plain-accepted _ _ tt)))

  remove_directory_at-plain : (place : Place) (o : Option (Node File)) → IsPlainOutcome (remove_directory_at fs p place o)
  remove_directory_at-plain place None = plain-refuse Enoent refl
  remove_directory_at-plain place (Some (file f)) = plain-refuse Enotdir refl
  remove_directory_at-plain place (Some directory) = plain-if (is_empty place.names || any_open (is_directory_handle_to place.tree place.names) (handles_in fs p).directories) Ebusy _ refl
      (plain-if (has_entries (entries_within (tree_in fs place.tree) place.names)) Enotempty _ refl (plain-accepted _ _ tt))

  remove_directory-plain : (path : List ℕ) → IsPlainOutcome (remove_directory table fs p path)
  unfolding remove_directory
  remove_directory-plain path = plain-path table fs p owner_alone path _ (λ place. remove_directory_at-plain place (standing_at (tree_in fs place.tree) place.names))

  sync_directory-plain : (id : ℕ) → IsPlainOutcome (sync_directory fs p id)
  unfolding sync_directory
  sync_directory-plain id = plain-directory id _ (λ h names. plain-accepted _ _ tt)

  pub directory_service-plain : (c : DirCall) → IsPlainOutcome (directory_service table fs p c)
  directory_service-plain (OpenDirectory path) = open_directory-plain path
  directory_service-plain (CloseDirectory id) = close_directory-plain id
  directory_service-plain (ReadDirectory id) = read_directory-plain id
  directory_service-plain (RewindDirectory id) = rewind_directory-plain id
  directory_service-plain (MakeDirectory path) = make_directory-plain path
  directory_service-plain (RemoveDirectory path) = remove_directory-plain path
  directory_service-plain (SyncDirectory id) = sync_directory-plain id
