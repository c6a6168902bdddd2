-- A directory call keeps trees and handles valid.
use Rattle.std.proofs.Common.{◌≡◌, ◌≢◌, ℕ, ◌-◌, ◌≤◌, ◌<◌, Bool, false, not, List, [], ◌∷◌, refl, sym, ap, subst, ◌∙◌, Option, Some, None, length, take, arith}
use Rattle.std.specs.Prelude.{◌||◌, nat_le, slice_set, is_some, map, if◌then◌else◌}
use Rattle.std.specs.List.{AllByRecursion}
use Rattle.std.specs.Option.{option_map_or}
use Rattle.std.proofs.lemmas.Slice.Eq.{bytes_eq-Decides}
use Rattle.apex_types.specs.Rows.{Rows}
use Rattle.apex_types.specs.declared.calls.DirCall.{DirCall}
use Rattle.apex_types.specs.declared.calls.DirCall.TheVariants.{OpenDirectory, CloseDirectory, ReadDirectory, RewindDirectory, MakeDirectory, RemoveDirectory, SyncDirectory}
use Rattle.apex_types.specs.declared.codes.Errno.TheVariants.{Eperm, Ebadf, Estale, Eexist, Enospc, Ebusy, Enotempty, Emfile}
use Rattle.apex_model.specs.Accepted.{IsAccepted}
use Rattle.apex_model.specs.DirectoryStep.{open_directory_at, open_directory, close_directory, with_last, give_entry, read_directory, rewind_directory, make_directory, has_entries, remove_directory_at, remove_directory, sync_directory, directory_service, directory_step}
use Rattle.apex_model.specs.Files.{File}
use Rattle.apex_model.specs.FileStep.{is_empty}
use Rattle.apex_model.specs.FileSystem.{FileSystem, tree_in, handles_in, with_tree, directory_limit}
use Rattle.apex_model.specs.Handles.{OpenedDirectory, handle_at, least_free, any_open, is_directory_handle_to, with_directories_gone}
use Rattle.apex_model.specs.Outcomes.{state_after}
use Rattle.apex_model.specs.Tables.{Place, owner_alone, owner_or_reader}
use Rattle.apex_model.specs.Trees.{Name, Node, directory, file, Tree, standing_at, with_node, without_node, directory_count, name_within, entries_within, next_entry}
use Rattle.apex_model.specs.Validity.{Has, parent_of, IsValidEntry, IsValidTree, IsValidDirectoryHandle, IsValidFileSystem}
use Rattle.apex_model.proofs.Keeps.{keeps-if, keeps-given, le-false, or-left}
use Rattle.model_laws.proofs.FileCalls.{path-of, keeps-path, tree-valid, is-none}
use Rattle.model_laws.proofs.FileSystems.{row_of, with_more-valid, directories_gone-valid}
use Rattle.model_laws.proofs.Handles.{id_some, free_some, with_directory_handle-valid}
use Rattle.model_laws.proofs.Places.{AreNames, IsPlace}
use Rattle.model_laws.proofs.TreeChanges.{kept-with, kept-without, with_new-valid, without-valid}

-- ---- what stands in a directory

-- a path's last name stands in its parent
last-within : (name : Name) (names : List Name) → (last : Name) × (name_within (take (length names) (name ∷ names)) (name ∷ names) ≡ Some last)
last-within name [] = (name, refl)
last-within name (next ∷ names) =
    let ih = last-within next names in
    let none : Option Name = None in
    (ih.0, ap (λ b. if b then name_within (take (length names) (next ∷ names)) (next ∷ names) else none) ((bytes_eq-Decides name name).1 refl) ∙ ih.1)

stands-within : (names : List Name) → 1 ≤ length names → (last : Name) × (name_within (parent_of names) names ≡ Some last)
stands-within [] some = absurd (omega arith)
stands-within (name ∷ names) some =
    let found = last-within name names in
    let short : length (name ∷ names) - 1 ≡ length names = omega arith in
    (found.0, ap (λ n. name_within (take n (name ∷ names)) (name ∷ names)) short ∙ found.1)

none-first : (o : Option Name) (node : Node File) (rest : List (Name × Node File)) → has_entries (elim o [ Some name ↦ (name, node) ∷ rest | None ↦ rest ]) ≡ false
    → (o ≡ None) × (has_entries rest ≡ false)
none-first None node rest h = (refl, h)
none-first (Some name) node rest h = absurd cc

-- a directory in which nothing stands is nobody's parent
nobody-within : (whole : Tree File) (way : List Name) (tree : Tree File) → AllByRecursion (IsValidEntry whole) tree → has_entries (entries_within tree way) ≡ false
    → AllByRecursion (λ e. parent_of e.0 ≢ way) tree
nobody-within whole way [] v h = tt
nobody-within whole way (e ∷ tree) v h =
    let first = none-first (name_within way e.0) e.1 (entries_within tree way) h in (
      λ same.
          let found = stands-within e.0 v.0.path.some in
          let wrong : ◌≡◌ {A = Option Name} None (Some found.0) = sym first.0 ∙ ap (λ w. name_within w e.0) (sym same) ∙ found.1 in cc,
      nobody-within whole way tree v.1 first.1,
    )

module _ (table : Rows) (fs : FileSystem) (p : ℕ) (v : IsValidFileSystem table fs) where
  -- OPEN_DIRECTORY
  open-at : (place : Place) (o : Option (Node File)) → IsPlace table owner_or_reader p place → standing_at (tree_in fs place.tree) place.names ≡ o
      → IsValidFileSystem table (state_after fs (open_directory_at fs p place o))
  open-at place None is stands = v
  open-at place (Some (file f)) is stands = v
  open-at place (Some directory) is stands =
      keeps-given (IsValidFileSystem table) fs (least_free (handles_in fs p).directories) Emfile _ v (λ id free.
      let made : OpenedDirectory = record { tree = place.tree; path = Some place.names; last = None } in
      let good : IsValidDirectoryHandle table fs.trees p made = record {
        holder = is.allowed;
        path = λ other e. let same : place.names ≡ other = cc in ap (standing_at (tree_in fs place.tree)) (sym same) ∙ stands;
      } in
      with_directory_handle-valid table fs p id v (free_some (handles_in fs p).directories id free) (Some made)
      (λ h e. let same : made ≡ h = cc in let P : OpenedDirectory → Type 0 = λ x. IsValidDirectoryHandle table fs.trees p x in subst P same good))

  pub open_directory-valid : (path : List ℕ) → IsValidFileSystem table (state_after fs (open_directory table fs p path))
  unfolding open_directory
  open_directory-valid path = keeps-path table fs p v owner_or_reader path _ (λ place is _. open-at place (standing_at (tree_in fs place.tree) place.names) is refl)

  -- CLOSE_DIRECTORY
  pub close_directory-valid : (id : ℕ) → IsValidFileSystem table (state_after fs (close_directory fs p id))
  unfolding close_directory
  close_directory-valid id =
      keeps-given (IsValidFileSystem table) fs (handle_at (handles_in fs p).directories id) Ebadf _ v (λ h at.
      with_directory_handle-valid table fs p id v (id_some (handles_in fs p).directories id h at) None
      (λ k e. absurd (let wrong : ◌≡◌ {A = Option OpenedDirectory} None (Some k) = e in cc)))

  -- READ_DIRECTORY and REWIND_DIRECTORY
  with_last-valid : (id : ℕ) (h : OpenedDirectory) (last : Option Name) → handle_at (handles_in fs p).directories id ≡ Some h → IsValidFileSystem table (with_last fs p id h last)
  with_last-valid id h last at =
      let is = v.directories p id h at in
      let made : OpenedDirectory = record { tree = h.tree; path = h.path; last = last } in
      let good : IsValidDirectoryHandle table fs.trees p made = record { holder = is.holder; path = is.path } in
      with_directory_handle-valid table fs p id v (id_some (handles_in fs p).directories id h at) (Some made)
      (λ k e. let same : made ≡ k = cc in let P : OpenedDirectory → Type 0 = λ x. IsValidDirectoryHandle table fs.trees p x in subst P same good)

  give-valid : (id : ℕ) (h : OpenedDirectory) (o : Option (Name × Node File)) → handle_at (handles_in fs p).directories id ≡ Some h
      → IsValidFileSystem table (state_after fs (give_entry fs p id h o))
  give-valid id h None at = v
  give-valid id h (Some entry) at = with_last-valid id h (Some entry.0) at

  pub read_directory-valid : (id : ℕ) → IsValidFileSystem table (state_after fs (read_directory fs p id))
  unfolding read_directory
  read_directory-valid id =
      keeps-given (IsValidFileSystem table) fs (handle_at (handles_in fs p).directories id) Ebadf _ v (λ h at.
      keeps-given (IsValidFileSystem table) fs h.path Estale _ v (λ names _.
      give-valid id h (next_entry (tree_in fs h.tree) names h.last) at))

  pub rewind_directory-valid : (id : ℕ) → IsValidFileSystem table (state_after fs (rewind_directory fs p id))
  unfolding rewind_directory
  rewind_directory-valid id =
      keeps-given (IsValidFileSystem table) fs (handle_at (handles_in fs p).directories id) Ebadf _ v (λ h at.
      keeps-given (IsValidFileSystem table) fs h.path Estale _ v (λ names _. with_last-valid id h None at))

  -- MAKE_DIRECTORY
  made-valid : (t : ℕ) (names : List Name) → Has table owner_alone p t → AreNames names → standing_at (tree_in fs t) (parent_of names) ≡ Some directory
      → standing_at (tree_in fs t) names ≡ None → directory_count (tree_in fs t) < directory_limit table t
      → IsValidFileSystem table (with_tree fs t (with_node (tree_in fs t) names directory))
  made-valid t [] allowed are parent free room = absurd (let wrong : ◌≡◌ {A = Option (Node File)} (Some directory) None = free in cc)
  made-valid t (name ∷ names) allowed are parent free room =
      let tree : Tree File = tree_in fs t in
      let row = row_of table owner_alone p t allowed in
      let is = tree-valid table fs p v owner_alone t allowed in
      let limit : directory_limit table t ≡ row.0.directories = ap (λ o. option_map_or (λ r. r.directories) o 0) row.1 in
      let files = is.files in
      let charge = is.charge in
      let good : IsValidTree row.0 (with_node tree (name ∷ names) directory) = with_new-valid row.0 tree name names directory is free (path-of name names are) parent
      tt (omega (arith, files)) (omega (arith, room, limit)) (omega (arith, charge)) in
      with_more-valid table fs v t row.0 row.1 (with_node tree (name ∷ names) directory) good (λ other node h. kept-with tree (name ∷ names) directory other node free h)

  pub make_directory-valid : (path : List ℕ) → IsValidFileSystem table (state_after fs (make_directory table fs p path))
  unfolding make_directory
  make_directory-valid path = keeps-path table fs p v owner_alone path _ (λ place is parent.
      keeps-if (IsValidFileSystem table) fs (is_some (standing_at (tree_in fs place.tree) place.names)) Eexist _ v (λ free.
      keeps-if (IsValidFileSystem table) fs (nat_le (directory_limit table place.tree) (directory_count (tree_in fs place.tree))) Enospc _ v (λ room.
      made-valid place.tree place.names is.allowed is.names parent (is-none (standing_at (tree_in fs place.tree) place.names) free) (le-false _ _ room))))

  -- REMOVE_DIRECTORY
  removed-valid : (t : ℕ) (names : List Name) → Has table owner_alone p t → standing_at (tree_in fs t) names ≡ Some directory → is_empty names ≡ false
      → has_entries (entries_within (tree_in fs t) names) ≡ false
      → IsValidFileSystem table (record { trees = slice_set fs.trees t (without_node (tree_in fs t) names); handles = map (with_directories_gone t names) fs.handles })
  removed-valid t [] allowed stands some empty = absurd cc
  removed-valid t (name ∷ names) allowed stands some empty =
      let tree : Tree File = tree_in fs t in
      let row = row_of table owner_alone p t allowed in
      let is = tree-valid table fs p v owner_alone t allowed in
      let left = without-valid row.0 tree name names directory is stands (nobody-within tree (name ∷ names) tree is.entries empty) in
      directories_gone-valid table fs v t row.0 row.1 (without_node tree (name ∷ names)) left.valid (name ∷ names)
      (λ other f h. kept-without tree (name ∷ names) other (file f)
      (λ same. let wrong : ◌≡◌ {A = Option (Node File)} (Some (file f)) (Some directory) = sym h ∙ ap (standing_at tree) same ∙ stands in cc) h)
      (λ other apart h. kept-without tree (name ∷ names) other directory apart h)

  remove-at : (place : Place) (o : Option (Node File)) → IsPlace table owner_alone p place → standing_at (tree_in fs place.tree) place.names ≡ o
      → IsValidFileSystem table (state_after fs (remove_directory_at fs p place o))
  remove-at place None is stands = v
  remove-at place (Some (file f)) is stands = v
  remove-at place (Some directory) is stands =
      keeps-if (IsValidFileSystem table) fs (is_empty place.names || any_open (is_directory_handle_to place.tree place.names) (handles_in fs p).directories) Ebusy _ v (λ free.
      keeps-if (IsValidFileSystem table) fs (has_entries (entries_within (tree_in fs place.tree) place.names)) Enotempty _ v (λ empty.
      removed-valid place.tree place.names is.allowed stands (or-left (is_empty place.names) _ free) empty))

  pub remove_directory-valid : (path : List ℕ) → IsValidFileSystem table (state_after fs (remove_directory table fs p path))
  unfolding remove_directory
  remove_directory-valid path = keeps-path table fs p v owner_alone path _ (λ place is _. remove-at place (standing_at (tree_in fs place.tree) place.names) is refl)

  -- SYNC_DIRECTORY
  pub sync_directory-valid : (id : ℕ) → IsValidFileSystem table (state_after fs (sync_directory fs p id))
  unfolding sync_directory
  sync_directory-valid id =
      keeps-given (IsValidFileSystem table) fs (handle_at (handles_in fs p).directories id) Ebadf _ v (λ h _.
      keeps-given (IsValidFileSystem table) fs h.path Estale _ v (λ names _. v))

  pub directory_service-valid : (c : DirCall) → IsValidFileSystem table (state_after fs (directory_service table fs p c))
  directory_service-valid (OpenDirectory path) = open_directory-valid path
  directory_service-valid (CloseDirectory id) = close_directory-valid id
  directory_service-valid (ReadDirectory id) = read_directory-valid id
  directory_service-valid (RewindDirectory id) = rewind_directory-valid id
  directory_service-valid (MakeDirectory path) = make_directory-valid path
  directory_service-valid (RemoveDirectory path) = remove_directory-valid path
  directory_service-valid (SyncDirectory id) = sync_directory-valid id

-- a directory call keeps trees and handles valid
pub directory_call-valid : (table : Rows) (fs : FileSystem) (p : ℕ) (ready : Bool) (c : DirCall) → IsAccepted table → IsValidFileSystem table fs
    → IsValidFileSystem table (state_after fs (directory_step table fs p ready c))
directory_call-valid table fs p ready c accepted_table v = keeps-if (IsValidFileSystem table) fs (not ready) Eperm _ v (λ _. directory_service-valid table fs p v c)
