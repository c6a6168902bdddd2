-- A directory call of a member is answered alike in file systems that are alike for the members.
use Rattle.std.proofs.Common.{◌≡◌, ℕ, Bool, true, not, List, refl, ap, Option, Some, None}
use Rattle.std.specs.Prelude.{◌||◌, nat_le, is_some}
use Rattle.apex_types.specs.Rows.{Rows}
use Rattle.apex_types.specs.declared.calls.DirCall.{DirCall}
use Rattle.apex_types.specs.declared.calls.DirCall.TheVariants.{OpenDirectory, CloseDirectory, ReadDirectory, RewindDirectory, MakeDirectory, RemoveDirectory, SyncDirectory}
use Rattle.apex_types.specs.declared.codes.Errno.TheVariants.{Eperm, Ebadf, Estale, Enospc, Ebusy, Eexist, Emfile, Enotempty}
use Rattle.apex_model.specs.DirectoryStep.{open_directory_at, open_directory, close_directory, give_entry, read_directory, rewind_directory, make_directory, has_entries, remove_directory_at, remove_directory, sync_directory, directory_service, directory_step}
use Rattle.apex_model.specs.Files.{File}
use Rattle.apex_model.specs.FileStep.{FileOutcome, is_empty}
use Rattle.apex_model.specs.FileSystem.{FileSystem, tree_in, handles_in, directory_limit, on_directory_handle}
use Rattle.apex_model.specs.Handles.{Handles, OpenedDirectory, handle_at, least_free, any_open, is_directory_handle_to, with_directories_gone}
use Rattle.apex_model.specs.Tables.{Place, owner_alone, owner_or_reader}
use Rattle.apex_model.specs.Trees.{Name, Node, directory, file, Tree, standing_at, with_node, without_node, directory_count, entries_within, next_entry}
use Rattle.apex_model.specs.Validity.{IsValidFileSystem}
use Rattle.apex_model.proofs.Alike.{IsClosed}
use Rattle.model_laws.proofs.AlikeFiles.{FilesAlike, tree-set, directory_handle-set, mapped, tree-alike, handles-alike, path-alike}
use Rattle.model_laws.proofs.AlikeWords.{Alike, alike-refused, alike-accepted, alike-if, alike-by, alike-given}
use Rattle.model_laws.proofs.FileSystems.{owner-reads}

module _ (table : Rows) (is_member : ℕ → Bool) (closed : IsClosed table is_member) (a b : FileSystem) (v : IsValidFileSystem table a) (same : FilesAlike table is_member a b)
    (p : ℕ) (member : is_member p ≡ true) where
  handles : handles_in a p ≡ handles_in b p
  handles = handles-alike table is_member closed a b v same p member

  handle-alike : (id : ℕ) (rest next : OpenedDirectory → FileOutcome) → ((h : OpenedDirectory) → tree_in a h.tree ≡ tree_in b h.tree → Alike (FilesAlike table is_member) (rest h) (next h))
      → Alike (FilesAlike table is_member) (on_directory_handle a p id rest) (on_directory_handle b p id next)
  handle-alike id rest next k = alike-given (FilesAlike table is_member) (handle_at (handles_in a p).directories id) (handle_at (handles_in b p).directories id) Ebadf rest next
      (ap (λ (hs : Handles). handle_at hs.directories id) handles) (λ h at. k h (tree-alike table is_member closed a b v same p member h.tree (v.directories p id h at).holder))

  open_at-alike : (place : Place) (o : Option (Node File)) → Alike (FilesAlike table is_member) (open_directory_at a p place o) (open_directory_at b p place o)
  open_at-alike place None = alike-refused (FilesAlike table is_member) _
  open_at-alike place (Some (file f)) = alike-refused (FilesAlike table is_member) _
  open_at-alike place (Some directory) =
      alike-given (FilesAlike table is_member) (least_free (handles_in a p).directories) (least_free (handles_in b p).directories) Emfile _ _ (ap (λ (hs : Handles). least_free hs.directories) handles) (λ id _.
      alike-accepted (FilesAlike table is_member) _ _ _ _ refl (directory_handle-set table is_member closed a b p id _ same member))

  open-alike : (path : List ℕ) → Alike (FilesAlike table is_member) (open_directory table a p path) (open_directory table b p path)
  unfolding open_directory
  open-alike path = path-alike table is_member closed a b v same p member owner_or_reader path _ _ (λ t h. h) (λ place tree.
      alike-by (FilesAlike table is_member) (open_directory_at a p place) (open_directory_at b p place) (standing_at (tree_in a place.tree) place.names) (standing_at (tree_in b place.tree) place.names)
      (ap (λ (x : Tree File). standing_at x place.names) tree) (λ o _. open_at-alike place o))

  close-alike : (id : ℕ) → Alike (FilesAlike table is_member) (close_directory a p id) (close_directory b p id)
  unfolding close_directory
  close-alike id = handle-alike id _ _ (λ h tree. alike-accepted (FilesAlike table is_member) _ _ _ _ refl (directory_handle-set table is_member closed a b p id None same member))

  give-alike : (id : ℕ) (h : OpenedDirectory) (o : Option (Name × Node File)) → Alike (FilesAlike table is_member) (give_entry a p id h o) (give_entry b p id h o)
  give-alike id h None = alike-accepted (FilesAlike table is_member) _ _ _ _ refl same
  give-alike id h (Some entry) = alike-accepted (FilesAlike table is_member) _ _ _ _ refl (directory_handle-set table is_member closed a b p id _ same member)

  read-alike : (id : ℕ) → Alike (FilesAlike table is_member) (read_directory a p id) (read_directory b p id)
  unfolding read_directory
  read-alike id = handle-alike id _ _ (λ h tree.
      alike-given (FilesAlike table is_member) h.path h.path Estale _ _ refl (λ names _.
      alike-by (FilesAlike table is_member) (give_entry a p id h) (give_entry b p id h) (next_entry (tree_in a h.tree) names h.last) (next_entry (tree_in b h.tree) names h.last)
      (ap (λ (x : Tree File). next_entry x names h.last) tree) (λ o _. give-alike id h o)))

  rewind-alike : (id : ℕ) → Alike (FilesAlike table is_member) (rewind_directory a p id) (rewind_directory b p id)
  unfolding rewind_directory
  rewind-alike id = handle-alike id _ _ (λ h tree.
      alike-given (FilesAlike table is_member) h.path h.path Estale _ _ refl (λ names _.
      alike-accepted (FilesAlike table is_member) _ _ _ _ refl (directory_handle-set table is_member closed a b p id _ same member)))

  make-alike : (path : List ℕ) → Alike (FilesAlike table is_member) (make_directory table a p path) (make_directory table b p path)
  unfolding make_directory
  make-alike path = path-alike table is_member closed a b v same p member owner_alone path _ _ (owner-reads table p) (λ place tree.
      alike-if (FilesAlike table is_member) (is_some (standing_at (tree_in a place.tree) place.names)) (is_some (standing_at (tree_in b place.tree) place.names)) Eexist _ _
      (ap (λ (x : Tree File). is_some (standing_at x place.names)) tree) (λ _.
      alike-if (FilesAlike table is_member) (nat_le (directory_limit table place.tree) (directory_count (tree_in a place.tree))) (nat_le (directory_limit table place.tree) (directory_count (tree_in b place.tree))) Enospc _ _
      (ap (λ (x : Tree File). nat_le (directory_limit table place.tree) (directory_count x)) tree) (λ _.
      alike-accepted (FilesAlike table is_member) _ _ _ _ refl (tree-set table is_member closed a b place.tree _ _ same (ap (λ (x : Tree File). with_node x place.names directory) tree)))))

  remove_at-alike : (place : Place) (o : Option (Node File)) → tree_in a place.tree ≡ tree_in b place.tree
      → Alike (FilesAlike table is_member) (remove_directory_at a p place o) (remove_directory_at b p place o)
  remove_at-alike place None tree = alike-refused (FilesAlike table is_member) _
  remove_at-alike place (Some (file f)) tree = alike-refused (FilesAlike table is_member) _
  remove_at-alike place (Some directory) tree =
      alike-if (FilesAlike table is_member) (is_empty place.names || any_open (is_directory_handle_to place.tree place.names) (handles_in a p).directories)
      (is_empty place.names || any_open (is_directory_handle_to place.tree place.names) (handles_in b p).directories) Ebusy _ _
      (ap (λ (hs : Handles). is_empty place.names || any_open (is_directory_handle_to place.tree place.names) hs.directories) handles) (λ _.
      alike-if (FilesAlike table is_member) (has_entries (entries_within (tree_in a place.tree) place.names)) (has_entries (entries_within (tree_in b place.tree) place.names)) Enotempty _ _
      (ap (λ (x : Tree File). has_entries (entries_within x place.names)) tree) (λ _.
      alike-accepted (FilesAlike table is_member) _ _ _ _ refl
      (mapped table is_member closed a b place.tree _ _ (with_directories_gone place.tree place.names) refl same (ap (λ (x : Tree File). without_node x place.names) tree))))

  remove-alike : (path : List ℕ) → Alike (FilesAlike table is_member) (remove_directory table a p path) (remove_directory table b p path)
  unfolding remove_directory
  remove-alike path = path-alike table is_member closed a b v same p member owner_alone path _ _ (owner-reads table p) (λ place tree.
      alike-by (FilesAlike table is_member) (remove_directory_at a p place) (remove_directory_at b p place) (standing_at (tree_in a place.tree) place.names) (standing_at (tree_in b place.tree) place.names)
      (ap (λ (x : Tree File). standing_at x place.names) tree) (λ o _. remove_at-alike place o tree))

  sync-alike : (id : ℕ) → Alike (FilesAlike table is_member) (sync_directory a p id) (sync_directory b p id)
  unfolding sync_directory
  sync-alike id = handle-alike id _ _ (λ h tree.
      alike-given (FilesAlike table is_member) h.path h.path Estale _ _ refl (λ names _. alike-accepted (FilesAlike table is_member) _ _ _ _ refl same))

  directory_service-alike : (c : DirCall) → Alike (FilesAlike table is_member) (directory_service table a p c) (directory_service table b p c)
  directory_service-alike (OpenDirectory path) = open-alike path
  directory_service-alike (CloseDirectory id) = close-alike id
  directory_service-alike (ReadDirectory id) = read-alike id
  directory_service-alike (RewindDirectory id) = rewind-alike id
  directory_service-alike (MakeDirectory path) = make-alike path
  directory_service-alike (RemoveDirectory path) = remove-alike path
  directory_service-alike (SyncDirectory id) = sync-alike id

  -- a member's directory call is answered the same, and leaves both alike
  pub directory_step-alike : (ready : Bool) (c : DirCall) → Alike (FilesAlike table is_member) (directory_step table a p ready c) (directory_step table b p ready c)
  directory_step-alike ready c = alike-if (FilesAlike table is_member) (not ready) (not ready) Eperm _ _ refl (λ _. directory_service-alike c)
