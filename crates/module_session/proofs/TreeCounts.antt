-- A call of files or directories leaves as many trees as there were.
use Rattle.std.proofs.Common.{◌≡◌, ℕ, Bool, true, false, not, List, refl, length, Option, Some, None}
use Rattle.std.specs.Prelude.{ℤ, pos, ◌+ℤ◌, ◌==◌, ◌&&◌, ◌||◌, nat_le, nat_lt, is_some, slice_set, Result, Ok, Err}
use Rattle.std.proofs.lemmas.List.{length-set}
use Rattle.apex_types.specs.Rows.{Rows}
use Rattle.apex_types.specs.declared.calls.DirCall.{DirCall}
use Rattle.apex_types.specs.declared.calls.DirCall.TheVariants.{OpenDirectory, CloseDirectory, ReadDirectory, RewindDirectory, MakeDirectory, RemoveDirectory, SyncDirectory}
use Rattle.apex_types.specs.declared.calls.FileCall.{FileCall}
use Rattle.apex_types.specs.declared.calls.FileCall.TheVariants.{OpenNewFile, OpenFile, CloseFile, ReadFile, WriteFile, SeekFile, ResizeFile, SyncFile, RemoveFile, RenameFile, GetFileStatus, GetVolumeStatus}
use Rattle.apex_types.specs.declared.calls.OpenMode.{OpenMode}
use Rattle.apex_types.specs.declared.calls.Whence.{Whence}
use Rattle.apex_types.specs.declared.codes.Errno.{Errno}
use Rattle.apex_types.specs.declared.codes.Errno.TheVariants.{Ebadf, Estale, Einval, Eacces, Efbig, Enospc, Eoverflow, Ebusy, Eexist, Emfile, Enotempty}
use Rattle.apex_types.specs.declared.replies.Values.{Values}
use Rattle.apex_model.specs.DirectoryStep.{open_directory_at, open_directory, close_directory, give_entry, read_directory, rewind_directory, make_directory, has_entries, remove_directory_at, remove_directory, sync_directory, directory_service, directory_step}
use Rattle.apex_model.specs.Files.{File, Content, size, change_count, changed}
use Rattle.apex_model.specs.FileStep.{FileOutcome, open_new_at, open_new_file, right_for, open_at, open_file, close_file, read_file, change, write_file, base, within_size, seek_file, resize_file, sync_file, remove_file_at, remove_file, rename_at, rename_file, get_file_status, is_empty, get_volume_status, file_service, file_step}
use Rattle.apex_model.specs.FileSystem.{FileSystem, tree_in, handles_in, quota_of, file_limit, directory_limit, file_of, at_place, on_path, on_file_handle, on_file, on_directory_handle, on_directory}
use Rattle.apex_model.specs.Handles.{OpenedFile, OpenedDirectory, handle_at, least_free, may_write, any_open, is_file_handle_to, is_directory_handle_to, is_writer_of}
use Rattle.apex_model.specs.Outcomes.{state_after}
use Rattle.apex_model.specs.Tables.{Place, Right, owner_alone, owner_or_reader, place_of}
use Rattle.apex_model.specs.Trees.{Name, Node, directory, file, Tree, standing_at, with_node, walk, file_count, directory_count, tree_charge, entries_within, next_entry}
use Rattle.apex_model.proofs.Keeps.{keeps-if, keeps-given, keeps-for}

module _ (table : Rows) (fs : FileSystem) (p : ℕ) where
  -- as many trees as there were
  abbrev IsSame : FileSystem → Type 0
  IsSame after = length after.trees ≡ length fs.trees

  abbrev Counts : FileOutcome → Type 0
  Counts outcome = IsSame (state_after fs outcome)

  -- ---- ways to a file or a directory

  place-counts : (o : Result Place Errno) (rest : Place → FileOutcome) → ((place : Place) → Counts (rest place)) → Counts (at_place o rest)
  place-counts (Err errno) rest h = refl
  place-counts (Ok place) rest h = h place

  path-counts : (right : Right) (bytes : List ℕ) (rest : Place → FileOutcome) → ((place : Place) → Counts (rest place)) → Counts (on_path table fs right p bytes rest)
  path-counts right bytes rest h =
      place-counts (place_of table right p bytes) _ (λ place. keeps-for IsSame fs (walk (tree_in fs place.tree) place.names) (rest place) refl (λ _. h place))

  handle-counts : (id : ℕ) (rest : OpenedFile → FileOutcome) → ((h : OpenedFile) → Counts (rest h)) → Counts (on_file_handle fs p id rest)
  handle-counts id rest h = keeps-given IsSame fs (handle_at (handles_in fs p).files id) Ebadf rest refl (λ handle _. h handle)

  file-counts : (handle : OpenedFile) (rest : List Name → File → FileOutcome) → ((names : List Name) (f : File) → Counts (rest names f)) → Counts (on_file fs handle rest)
  file-counts handle rest h =
      keeps-given IsSame fs handle.path Estale _ refl (λ names _. keeps-given IsSame fs (file_of (standing_at (tree_in fs handle.tree) names)) Estale (rest names) refl (λ f _. h names f))

  directory_handle-counts : (id : ℕ) (rest : OpenedDirectory → FileOutcome) → ((h : OpenedDirectory) → Counts (rest h)) → Counts (on_directory_handle fs p id rest)
  directory_handle-counts id rest h = keeps-given IsSame fs (handle_at (handles_in fs p).directories id) Ebadf rest refl (λ handle _. h handle)

  directory-counts : (handle : OpenedDirectory) (rest : List Name → FileOutcome) → ((names : List Name) → Counts (rest names)) → Counts (on_directory handle rest)
  directory-counts handle rest h = keeps-given IsSame fs handle.path Estale rest refl (λ names _. h names)

  set-counts : (t : ℕ) (x : Tree File) → length (slice_set fs.trees t x) ≡ length fs.trees
  set-counts t x = length-set fs.trees t x

  -- ---- files

  open_new_at-counts : (place : Place) (o : Option (Node File)) → Counts (open_new_at table fs p place o)
  open_new_at-counts place (Some directory) = refl
  open_new_at-counts place (Some (file f)) = refl
  open_new_at-counts place None =
      keeps-if IsSame fs (nat_le (file_limit table place.tree) (file_count (tree_in fs place.tree))) Enospc _ refl (λ _.
      keeps-given IsSame fs (least_free (handles_in fs p).files) Emfile _ refl (λ id _. set-counts place.tree _))

  open_new_file-counts : (path : List ℕ) → Counts (open_new_file table fs p path)
  unfolding open_new_file
  open_new_file-counts path = path-counts owner_alone path _ (λ place. open_new_at-counts place (standing_at (tree_in fs place.tree) place.names))

  open_at-counts : (m : OpenMode) (place : Place) (o : Option (Node File)) → Counts (open_at fs p m place o)
  open_at-counts m place None = refl
  open_at-counts m place (Some directory) = refl
  open_at-counts m place (Some (file f)) =
      keeps-if IsSame fs (may_write m && any_open (is_writer_of place.tree place.names) (handles_in fs p).files) Ebusy _ refl (λ _.
      keeps-given IsSame fs (least_free (handles_in fs p).files) Emfile _ refl (λ id _. refl))

  open_file-counts : (path : List ℕ) (m : OpenMode) → Counts (open_file table fs p path m)
  unfolding open_file
  open_file-counts path m = path-counts (right_for m) path _ (λ place. open_at-counts m place (standing_at (tree_in fs place.tree) place.names))

  close_file-counts : (id : ℕ) → Counts (close_file fs p id)
  unfolding close_file
  close_file-counts id = handle-counts id _ (λ h. refl)

  read_file-counts : (id limit : ℕ) → Counts (read_file fs p id limit)
  unfolding read_file
  read_file-counts id limit = handle-counts id _ (λ h. file-counts h _ (λ names f. keeps-if IsSame fs ((limit == 0) || nat_lt 4096 limit) Einval _ refl (λ _. refl)))

  change-counts : (id : ℕ) (handle : OpenedFile) (names : List Name) (f : File) (content : Content) (at : ℕ) (v : Values) → Counts (change table fs p id handle names f content at v)
  change-counts id handle names f content at v =
      keeps-if IsSame fs (nat_lt 1048576 (length content)) Efbig _ refl (λ _.
      keeps-if IsSame fs (nat_lt (quota_of table handle.tree) (tree_charge (with_node (tree_in fs handle.tree) names (file (changed f content))))) Enospc _ refl (λ _.
      keeps-if IsSame fs (change_count f == 4294967295) Eoverflow _ refl (λ _. set-counts handle.tree _)))

  write_file-counts : (id : ℕ) (bytes : List ℕ) → Counts (write_file table fs p id bytes)
  unfolding write_file
  write_file-counts id bytes = handle-counts id _ (λ h.
      keeps-if IsSame fs (not (may_write h.mode)) Eacces _ refl (λ _.
      keeps-if IsSame fs ((length bytes == 0) || nat_lt 4096 (length bytes)) Einval _ refl (λ _.
      file-counts h _ (λ names f. change-counts id h names f _ _ _))))

  seek_file-counts : (id : ℕ) (offset : ℤ) (whence : Whence) → Counts (seek_file fs p id offset whence)
  unfolding seek_file
  seek_file-counts id offset whence = handle-counts id _ (λ h. file-counts h _ (λ names f.
      keeps-given IsSame fs (within_size (size f) (offset +ℤ pos (base whence h.position (size f)))) Einval _ refl (λ target _. refl)))

  resize_file-counts : (id n : ℕ) → Counts (resize_file table fs p id n)
  unfolding resize_file
  resize_file-counts id n = handle-counts id _ (λ h.
      keeps-if IsSame fs (not (may_write h.mode)) Eacces _ refl (λ _. file-counts h _ (λ names f. change-counts id h names f _ _ _)))

  sync_file-counts : (id : ℕ) → Counts (sync_file fs p id)
  unfolding sync_file
  sync_file-counts id = handle-counts id _ (λ h.
      keeps-if IsSame fs (not (may_write h.mode)) Eacces _ refl (λ _. file-counts h _ (λ names f. set-counts h.tree _)))

  remove_file_at-counts : (place : Place) (o : Option (Node File)) → Counts (remove_file_at fs p place o)
  remove_file_at-counts place None = refl
  remove_file_at-counts place (Some directory) = refl
  remove_file_at-counts place (Some (file f)) =
      keeps-if IsSame fs (any_open (is_file_handle_to place.tree place.names) (handles_in fs p).files) Ebusy _ refl (λ _. set-counts place.tree _)

  remove_file-counts : (path : List ℕ) → Counts (remove_file table fs p path)
  unfolding remove_file
  remove_file-counts path = path-counts owner_alone path _ (λ place. remove_file_at-counts place (standing_at (tree_in fs place.tree) place.names))

  rename_at-counts : (t : ℕ) (from to : List Name) (o : Option (Node File)) → Counts (rename_at fs p t from to o)
  rename_at-counts t from to None = refl
  rename_at-counts t from to (Some directory) = refl
  rename_at-counts t from to (Some (file f)) =
      keeps-for IsSame fs (walk (tree_in fs t) to) _ refl (λ _.
      keeps-if IsSame fs (any_open (is_file_handle_to t from) (handles_in fs p).files) Ebusy _ refl (λ _.
      keeps-if IsSame fs (is_some (standing_at (tree_in fs t) to)) Eexist _ refl (λ _. set-counts t _)))

  rename_file-counts : (from to : List ℕ) → Counts (rename_file table fs p from to)
  unfolding rename_file
  rename_file-counts from to =
      place-counts (place_of table owner_alone p from) _ (λ source. place-counts (place_of table owner_alone p to) _ (λ target.
      keeps-if IsSame fs (not (source.tree == target.tree)) Einval _ refl (λ _.
      keeps-for IsSame fs (walk (tree_in fs source.tree) source.names) _ refl (λ _.
      rename_at-counts source.tree source.names target.names (standing_at (tree_in fs source.tree) source.names)))))

  get_file_status-counts : (id : ℕ) → Counts (get_file_status fs p id)
  unfolding get_file_status
  get_file_status-counts id = handle-counts id _ (λ h. file-counts h _ (λ names f. refl))

  get_volume_status-counts : (path : List ℕ) → Counts (get_volume_status table fs p path)
  unfolding get_volume_status
  get_volume_status-counts path = place-counts (place_of table owner_or_reader p path) _ (λ place. keeps-if IsSame fs (not (is_empty place.names)) Einval _ refl (λ _. refl))

  file_service-counts : (c : FileCall) → Counts (file_service table fs p c)
  file_service-counts (OpenNewFile path) = open_new_file-counts path
  file_service-counts (OpenFile path m) = open_file-counts path m
  file_service-counts (CloseFile id) = close_file-counts id
  file_service-counts (ReadFile id limit) = read_file-counts id limit
  file_service-counts (WriteFile id bytes) = write_file-counts id bytes
  file_service-counts (SeekFile id offset whence) = seek_file-counts id offset whence
  file_service-counts (ResizeFile id n) = resize_file-counts id n
  file_service-counts (SyncFile id) = sync_file-counts id
  file_service-counts (RemoveFile path) = remove_file-counts path
  file_service-counts (RenameFile from to) = rename_file-counts from to
  file_service-counts (GetFileStatus id) = get_file_status-counts id
  file_service-counts (GetVolumeStatus path) = get_volume_status-counts path

  -- ---- directories

  open_directory_at-counts : (place : Place) (o : Option (Node File)) → Counts (open_directory_at fs p place o)
  open_directory_at-counts place None = refl
  open_directory_at-counts place (Some (file f)) = refl
  open_directory_at-counts place (Some directory) = keeps-given IsSame fs (least_free (handles_in fs p).directories) Emfile _ refl (λ id _. refl)

  open_directory-counts : (path : List ℕ) → Counts (open_directory table fs p path)
  unfolding open_directory
  open_directory-counts path = path-counts owner_or_reader path _ (λ place. open_directory_at-counts place (standing_at (tree_in fs place.tree) place.names))

  close_directory-counts : (id : ℕ) → Counts (close_directory fs p id)
  unfolding close_directory
  close_directory-counts id = directory_handle-counts id _ (λ h. refl)

  give_entry-counts : (id : ℕ) (handle : OpenedDirectory) (next : Option (Name × Node File)) → Counts (give_entry fs p id handle next)
  give_entry-counts id handle None = refl
  give_entry-counts id handle (Some entry) = refl

  read_directory-counts : (id : ℕ) → Counts (read_directory fs p id)
  unfolding read_directory
  read_directory-counts id = directory_handle-counts id _ (λ h. directory-counts h _ (λ names. give_entry-counts id h (next_entry (tree_in fs h.tree) names h.last)))

  rewind_directory-counts : (id : ℕ) → Counts (rewind_directory fs p id)
  unfolding rewind_directory
  rewind_directory-counts id = directory_handle-counts id _ (λ h. directory-counts h _ (λ names. refl))

  make_directory-counts : (path : List ℕ) → Counts (make_directory table fs p path)
  unfolding make_directory
  make_directory-counts path = path-counts owner_alone path _ (λ place.
      keeps-if IsSame fs (is_some (standing_at (tree_in fs place.tree) place.names)) Eexist _ refl (λ _.
      keeps-if IsSame fs (nat_le (directory_limit table place.tree) (directory_count (tree_in fs place.tree))) Enospc _ refl (λ _. set-counts place.tree _)))

  remove_directory_at-counts : (place : Place) (o : Option (Node File)) → Counts (remove_directory_at fs p place o)
  remove_directory_at-counts place None = refl
  remove_directory_at-counts place (Some (file f)) = refl
  remove_directory_at-counts place (Some directory) =
      keeps-if IsSame fs (is_empty place.names || any_open (is_directory_handle_to place.tree place.names) (handles_in fs p).directories) Ebusy _ refl (λ _.
      keeps-if IsSame fs (has_entries (entries_within (tree_in fs place.tree) place.names)) Enotempty _ refl (λ _. set-counts place.tree _))

  remove_directory-counts : (path : List ℕ) → Counts (remove_directory table fs p path)
  unfolding remove_directory
  remove_directory-counts path = path-counts owner_alone path _ (λ place. remove_directory_at-counts place (standing_at (tree_in fs place.tree) place.names))

  sync_directory-counts : (id : ℕ) → Counts (sync_directory fs p id)
  unfolding sync_directory
  sync_directory-counts id = directory_handle-counts id _ (λ h. directory-counts h _ (λ names. refl))

  directory_service-counts : (c : DirCall) → Counts (directory_service table fs p c)
  directory_service-counts (OpenDirectory path) = open_directory-counts path
  directory_service-counts (CloseDirectory id) = close_directory-counts id
  directory_service-counts (ReadDirectory id) = read_directory-counts id
  directory_service-counts (RewindDirectory id) = rewind_directory-counts id
  directory_service-counts (MakeDirectory path) = make_directory-counts path
  directory_service-counts (RemoveDirectory path) = remove_directory-counts path
  directory_service-counts (SyncDirectory id) = sync_directory-counts id

  -- ---- all of them, of a partition that is ready for a call or not

  pub file_step-counts : (ready : Bool) (c : FileCall) → Counts (file_step table fs p ready c)
  file_step-counts true c = file_service-counts c
  file_step-counts false c = refl

  pub directory_step-counts : (ready : Bool) (c : DirCall) → Counts (directory_step table fs p ready c)
  directory_step-counts true c = directory_service-counts c
  directory_step-counts false c = refl
