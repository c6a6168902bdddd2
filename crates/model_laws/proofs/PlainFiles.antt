-- The answers to file calls are plain.
use Rattle.std.proofs.Common.{◌≡◌, ℕ, ◌-◌, Bool, true, false, not, List, [], ◌∷◌, refl, Option, Some, None, length}
use Rattle.std.specs.Prelude.{ℤ, pos, ◌+ℤ◌, ◌==◌, ◌||◌, ◌&&◌, if◌then◌else◌, nat_le, nat_lt, is_some, slice_get, position, Result, Ok, Err}
use Rattle.std.specs.List.{list_all, range_with_len}
use Rattle.std.specs.Option.{option_or, option_map_or}
use Rattle.apex_types.specs.Naming.{is_spelled_as_name}
use Rattle.apex_types.specs.Paths.{path_of, path_after_slash, path_from_parts, parts_of, have_room}
use Rattle.apex_types.specs.Rows.{Rows}
use Rattle.apex_types.specs.declared.calls.FileCall.{FileCall}
use Rattle.apex_types.specs.declared.calls.FileCall.TheVariants.{OpenNewFile, OpenFile, CloseFile, ReadFile, WriteFile, SeekFile, ResizeFile, SyncFile, RemoveFile, RenameFile, GetFileStatus, GetVolumeStatus}
use Rattle.apex_types.specs.declared.calls.OpenMode.{OpenMode}
use Rattle.apex_types.specs.declared.calls.Whence.{Whence}
use Rattle.apex_types.specs.declared.codes.Errno.{Errno}
use Rattle.apex_types.specs.declared.codes.Errno.TheVariants.{Einval, Ebadf, Enoent, Eisdir, Eexist, Eacces, Enospc, Emfile, Efbig, Eoverflow, Ebusy, Estale}
use Rattle.apex_types.specs.declared.paths.Path.{Path}
use Rattle.apex_types.specs.declared.replies.Values.{Values}
use Rattle.apex_model.specs.Files.{File, Content, size, change_count, changed}
use Rattle.apex_model.specs.FileStep.{open_new_at, open_new_file, right_for, open_at, open_file, close_file, read_file, change, write_file, base, within_size, seek_file, resize_file, sync_file, remove_file_at, remove_file, rename_at, rename_file, get_file_status, is_empty, get_volume_status, file_service}
use Rattle.apex_model.specs.FileSystem.{FileSystem, tree_in, handles_in, quota_of, file_limit, file_of, on_path, on_file_handle, on_file}
use Rattle.apex_model.specs.Handles.{OpenedFile, may_write, any_open, is_file_handle_to, is_writer_of, handle_at, least_free}
use Rattle.apex_model.specs.Outcomes.{Outcome}
use Rattle.apex_model.specs.Tables.{Place, Right, owner_alone, owner_or_reader, has_right, place_of, place_of_path, place_in, is_tree_of}
use Rattle.apex_model.specs.Trees.{Name, Node, directory, file, Tree, standing_at, with_node, first_answer, obstacle, walk, file_count, tree_charge}
use Rattle.model_laws.specs.ReplyLines.{HasNames}
use Rattle.model_laws.specs.RunText.{tells_eio}
use Rattle.model_laws.proofs.PlainOutcomes.{IsPlainOutcome, plain-accepted, plain-refuse, plain-if, plain-for, plain-given, plain-place, gives_eio}

-- ---- places

result-choice : {A : Type 0} (test : Bool) (x y : Result A Errno) → gives_eio x ≡ false → gives_eio y ≡ false → gives_eio (if test then x else y) ≡ false
result-choice true x y h k = h
result-choice false x y h k = k

path_from_parts-plain : (parts : List (List ℕ)) → gives_eio (path_from_parts parts) ≡ false
path_from_parts-plain [] = refl
path_from_parts-plain (volume ∷ []) = refl
path_from_parts-plain (volume ∷ owner ∷ names) =
    result-choice (not (list_all is_spelled_as_name (volume ∷ owner ∷ names))) _ _ refl (result-choice (not (nat_le (length volume) 24 && nat_le (length owner) 24 && have_room 0 names)) _ _ refl refl)

path_after_slash-plain : (bytes : List ℕ) → gives_eio (path_after_slash bytes) ≡ false
path_after_slash-plain [] = refl
path_after_slash-plain (b ∷ bytes) = result-choice (b == 47) _ _ (path_from_parts-plain (parts_of bytes)) refl

path_of-plain : (bytes : List ℕ) → gives_eio (path_of bytes) ≡ false
path_of-plain bytes = result-choice (nat_lt 392 (length bytes)) _ _ refl (path_after_slash-plain bytes)

abbrev place_found : Rows → Right → ℕ → List Name → Option ℕ → Result Place Errno
place_found table right p names found = elim found [ None ↦ Err Enoent | Some tree ↦ place_in table right p names tree ]

place_found-plain : (table : Rows) (right : Right) (p : ℕ) (names : List Name) (found : Option ℕ) → gives_eio (place_found table right p names found) ≡ false
place_found-plain table right p names None = refl
place_found-plain table right p names (Some tree) =
    result-choice {A = Place} (option_map_or (has_right right p) (slice_get table.trees tree) false) (Ok (record { tree = tree; names = names })) (Err Eacces) refl refl

abbrev place_read : Rows → Right → ℕ → Result Path Errno → Result Place Errno
place_read table right p read = elim read [ Err errno ↦ Err errno | Ok path ↦ place_of_path table right p path ]

place_read-plain : (table : Rows) (right : Right) (p : ℕ) (read : Result Path Errno) → gives_eio read ≡ false → gives_eio (place_read table right p read) ≡ false
place_read-plain table right p (Err e) h = h
place_read-plain table right p (Ok path) h = place_found-plain table right p path.names (position (is_tree_of table path) table.trees)

pub place_of-plain : (table : Rows) (right : Right) (p : ℕ) (bytes : List ℕ) → gives_eio (place_of table right p bytes) ≡ false
place_of-plain table right p bytes = place_read-plain table right p (path_of bytes) (path_of-plain bytes)

-- ---- ways

obstacle-plain : (o : Option (Node File)) → tells_eio (obstacle o) ≡ false
obstacle-plain None = refl
obstacle-plain (Some directory) = refl
obstacle-plain (Some (file f)) = refl

option_or-plain : (o rest : Option Errno) → tells_eio o ≡ false → tells_eio rest ≡ false → tells_eio (option_or o rest) ≡ false
option_or-plain None rest h k = k
option_or-plain (Some e) rest h k = h

first_answer-plain : (f : ℕ → Option Errno) → ((n : ℕ) → tells_eio (f n) ≡ false) → (ns : List ℕ) → tells_eio (first_answer f ns) ≡ false
first_answer-plain f h [] = refl
first_answer-plain f h (n ∷ ns) = option_or-plain (f n) (first_answer f ns) (h n) (first_answer-plain f h ns)

pub walk-plain : (tree : Tree File) (names : List Name) → tells_eio (walk tree names) ≡ false
walk-plain tree names = first_answer-plain _ (λ n. obstacle-plain _) (range_with_len 1 (length names - 1))

-- ---- files

module _ (table : Rows) (fs : FileSystem) (p : ℕ) where
  pub plain-path : (right : Right) (bytes : List ℕ) (rest : Place → Outcome FileSystem) → ((place : Place) → IsPlainOutcome (rest place)) → IsPlainOutcome (on_path table fs right p bytes rest)
  plain-path right bytes rest h = plain-place (place_of table right p bytes) _ (place_of-plain table right p bytes) (λ place.
      plain-for (walk (tree_in fs place.tree) place.names) (rest place) (walk-plain (tree_in fs place.tree) place.names) (h place))

  plain-handle : (id : ℕ) (rest : OpenedFile → Outcome FileSystem) → ((h : OpenedFile) → IsPlainOutcome (rest h)) → IsPlainOutcome (on_file_handle fs p id rest)
  plain-handle id rest h = plain-given (handle_at (handles_in fs p).files id) Ebadf rest refl h

  plain-file : (handle : OpenedFile) (rest : List Name → File → Outcome FileSystem) → ((names : List Name) (f : File) → IsPlainOutcome (rest names f)) → IsPlainOutcome (on_file fs handle rest)
  plain-file handle rest h = plain-given handle.path Estale _ refl (λ names. plain-given (file_of (standing_at (tree_in fs handle.tree) names)) Estale (rest names) refl (h names))

  open_new_at-plain : (place : Place) (o : Option (Node File)) → IsPlainOutcome (open_new_at table fs p place o)
  open_new_at-plain place (Some directory) = plain-refuse Eisdir refl
  open_new_at-plain place (Some (file f)) = plain-refuse Eexist refl
  open_new_at-plain place None = plain-if (nat_le (file_limit table place.tree) (file_count (tree_in fs place.tree))) Enospc _ refl (plain-given (least_free (handles_in fs p).files) Emfile _ refl (λ id. plain-accepted _ _ tt))

  open_new_file-plain : (path : List ℕ) → IsPlainOutcome (open_new_file table fs p path)
  unfolding open_new_file
  open_new_file-plain path = plain-path owner_alone path _ (λ place. open_new_at-plain place (standing_at (tree_in fs place.tree) place.names))

  open_at-plain : (m : OpenMode) (place : Place) (o : Option (Node File)) → IsPlainOutcome (open_at fs p m place o)
  open_at-plain m place None = plain-refuse Enoent refl
  open_at-plain m place (Some directory) = plain-refuse Eisdir refl
  open_at-plain m place (Some (file f)) = plain-if (may_write m && any_open (is_writer_of place.tree place.names) (handles_in fs p).files) Ebusy _ refl (plain-given (least_free (handles_in fs p).files) Emfile _ refl (λ id. plain-accepted _ _ tt))

  open_file-plain : (path : List ℕ) (m : OpenMode) → IsPlainOutcome (open_file table fs p path m)
  unfolding open_file
  open_file-plain path m = plain-path (right_for m) path _ (λ place. open_at-plain m place (standing_at (tree_in fs place.tree) place.names))

  close_file-plain : (id : ℕ) → IsPlainOutcome (close_file fs p id)
  unfolding close_file
  close_file-plain id = plain-handle id _ (λ h. plain-accepted _ _ tt)

  read_file-plain : (id limit : ℕ) → IsPlainOutcome (read_file fs p id limit)
  unfolding read_file
  read_file-plain id limit = plain-handle id _ (λ h. plain-file h _ (λ names f. plain-if ((limit == 0) || nat_lt 4096 limit) Einval _ refl (plain-accepted _ _ tt)))

  change-plain : (id : ℕ) (handle : OpenedFile) (names : List Name) (f : File) (content : Content) (at : ℕ) (v : Values) → HasNames v → IsPlainOutcome (change table fs p id handle names f content at v)
  change-plain id handle names f content at v h =
      plain-if (nat_lt 1048576 (length content)) Efbig _ refl
      (plain-if (nat_lt (quota_of table handle.tree) (tree_charge (with_node (tree_in fs handle.tree) names (file (changed f content))))) Enospc _ refl
      (plain-if (change_count f == 4294967295) Eoverflow _ refl (plain-accepted _ v h)))

  write_file-plain : (id : ℕ) (bytes : List ℕ) → IsPlainOutcome (write_file table fs p id bytes)
  unfolding write_file
  write_file-plain id bytes = plain-handle id _ (λ h. plain-if (not (may_write h.mode)) Eacces _ refl (plain-if ((length bytes == 0) || nat_lt 4096 (length bytes)) Einval _ refl
      (plain-file h _ (λ names f. change-plain id h names f _ _ _ tt))))

  seek_file-plain : (id : ℕ) (offset : ℤ) (whence : Whence) → IsPlainOutcome (seek_file fs p id offset whence)
  unfolding seek_file
  seek_file-plain id offset whence = plain-handle id _ (λ h. plain-file h _ (λ names f. plain-given (within_size (size f) (offset +ℤ pos (base whence h.position (size f)))) Einval _ refl (λ target. plain-accepted _ _ tt)))

  resize_file-plain : (id n : ℕ) → IsPlainOutcome (resize_file table fs p id n)
  unfolding resize_file
  resize_file-plain id n = plain-handle id _ (λ h. plain-if (not (may_write h.mode)) Eacces _ refl (plain-file h _ (λ names f. change-plain id h names f _ _ _ tt)))

  sync_file-plain : (id : ℕ) → IsPlainOutcome (sync_file fs p id)
  unfolding sync_file
  sync_file-plain id = plain-handle id _ (λ h. plain-if (not (may_write h.mode)) Eacces _ refl (plain-file h _ (λ names f. plain-accepted _ _ tt)))

  remove_file_at-plain : (place : Place) (o : Option (Node File)) → IsPlainOutcome (remove_file_at fs p place o)
  remove_file_at-plain place None = plain-refuse Enoent refl
  remove_file_at-plain place (Some directory) = plain-refuse Eisdir refl
  remove_file_at-plain place (Some (file f)) = plain-if (any_open (is_file_handle_to place.tree place.names) (handles_in fs p).files) Ebusy _ refl (plain-accepted _ _ tt)

  remove_file-plain : (path : List ℕ) → IsPlainOutcome (remove_file table fs p path)
  unfolding remove_file
  remove_file-plain path = plain-path owner_alone path _ (λ place. remove_file_at-plain place (standing_at (tree_in fs place.tree) place.names))

  rename_at-plain : (tree : ℕ) (from to : List Name) (o : Option (Node File)) → IsPlainOutcome (rename_at fs p tree from to o)
  rename_at-plain tree from to None = plain-refuse Enoent refl
  rename_at-plain tree from to (Some directory) = plain-refuse Eisdir refl
  rename_at-plain tree from to (Some (file f)) = plain-for (walk (tree_in fs tree) to) _ (walk-plain (tree_in fs tree) to)
      (plain-if (any_open (is_file_handle_to tree from) (handles_in fs p).files) Ebusy _ refl (plain-if (is_some (standing_at (tree_in fs tree) to)) Eexist _ refl (plain-accepted _ _ tt)))

  rename_file-plain : (from to : List ℕ) → IsPlainOutcome (rename_file table fs p from to)
  unfolding rename_file
  rename_file-plain from to = plain-place (place_of table owner_alone p from) _ (place_of-plain table owner_alone p from) (λ source.
      plain-place (place_of table owner_alone p to) _ (place_of-plain table owner_alone p to) (λ target.
      plain-if (not (source.tree == target.tree)) Einval _ refl (plain-for (walk (tree_in fs source.tree) source.names) _ (walk-plain (tree_in fs source.tree) source.names)
      (rename_at-plain source.tree source.names target.names (standing_at (tree_in fs source.tree) source.names)))))

  get_file_status-plain : (id : ℕ) → IsPlainOutcome (get_file_status fs p id)
  unfolding get_file_status
  get_file_status-plain id = plain-handle id _ (λ h. plain-file h _ (λ names f. plain-accepted _ _ tt))

  get_volume_status-plain : (path : List ℕ) → IsPlainOutcome (get_volume_status table fs p path)
  unfolding get_volume_status
  get_volume_status-plain path = plain-place (place_of table owner_or_reader p path) _ (place_of-plain table owner_or_reader p path) (λ place. plain-if (not (is_empty place.names)) Einval _ refl (plain-accepted _ _ tt))

  pub file_service-plain : (c : FileCall) → IsPlainOutcome (file_service table fs p c)
  file_service-plain (OpenNewFile path) = open_new_file-plain path
  file_service-plain (OpenFile path m) = open_file-plain path m
  file_service-plain (CloseFile id) = close_file-plain id
  file_service-plain (ReadFile id limit) = read_file-plain id limit
  file_service-plain (WriteFile id bytes) = write_file-plain id bytes
  file_service-plain (SeekFile id offset whence) = seek_file-plain id offset whence
  file_service-plain (ResizeFile id n) = resize_file-plain id n
  file_service-plain (SyncFile id) = sync_file-plain id
  file_service-plain (RemoveFile path) = remove_file-plain path
  file_service-plain (RenameFile from to) = rename_file-plain from to
  file_service-plain (GetFileStatus id) = get_file_status-plain id
  file_service-plain (GetVolumeStatus path) = get_volume_status-plain path
