-- A file or directory call of a partition that is no member leaves a file system alike for the members.
use Rattle.std.proofs.Common.{◌≡◌, ℕ, suc, ◌-◌, Bool, true, false, not, List, [], ◌∷◌, map, refl, sym, ap, subst, ◌∙◌, Option, Some, None, length, arith}
use Rattle.std.specs.Prelude.{ℤ, pos, ◌+ℤ◌, ◌==◌, ◌&&◌, ◌||◌, nat_le, nat_lt, slice_get, slice_set, option_map, is_some, if◌then◌else◌, Result, Ok, Err}
use Rattle.std.specs.Option.{option_flatten}
use Rattle.apex_types.specs.Rows.{Rows}
use Rattle.apex_types.specs.declared.calls.DirCall.{DirCall}
use Rattle.apex_types.specs.declared.calls.DirCall.TheVariants.{OpenDirectory, CloseDirectory, ReadDirectory, RewindDirectory, MakeDirectory, RemoveDirectory, SyncDirectory}
use Rattle.apex_types.specs.declared.calls.FileCall.{FileCall}
use Rattle.apex_types.specs.declared.calls.FileCall.TheVariants.{OpenNewFile, OpenFile, CloseFile, ReadFile, WriteFile, SeekFile, ResizeFile, SyncFile, RemoveFile, RenameFile, GetFileStatus, GetVolumeStatus}
use Rattle.apex_types.specs.declared.calls.OpenMode.{OpenMode}
use Rattle.apex_types.specs.declared.calls.Whence.{Whence}
use Rattle.apex_types.specs.declared.codes.Errno.{Errno}
use Rattle.apex_types.specs.declared.codes.Errno.TheVariants.{Eperm, Ebadf, Estale, Einval, Eacces, Efbig, Enospc, Eoverflow, Ebusy, Eexist, Emfile, Enotempty}
use Rattle.apex_types.specs.declared.replies.Values.{Values}
use Rattle.apex_model.specs.DirectoryStep.{open_directory_at, open_directory, close_directory, give_entry, read_directory, rewind_directory, make_directory, has_entries, remove_directory_at, remove_directory, sync_directory, directory_service, directory_step}
use Rattle.apex_model.specs.Files.{File, Content, size, change_count, new_file, changed}
use Rattle.apex_model.specs.FileStep.{FileOutcome, open_new_at, open_new_file, right_for, open_at, open_file, close_file, read_file, change, write_file, base, within_size, seek_file, resize_file, sync_file, remove_file_at, remove_file, rename_at, rename_file, get_file_status, is_empty, get_volume_status, file_service, file_step}
use Rattle.apex_model.specs.FileSystem.{FileSystem, tree_in, handles_in, with_tree, with_file_handle, with_directory_handle, quota_of, file_limit, directory_limit, file_of, at_place, on_path, on_file}
use Rattle.apex_model.specs.Handles.{Handles, OpenedFile, OpenedDirectory, no_handles, handle_at, least_free, may_write, any_open, is_file_handle_to, is_directory_handle_to, is_writer_of, file_moved, directory_gone, with_files_moved, with_directories_gone}
use Rattle.apex_model.specs.Outcomes.{state_after}
use Rattle.apex_model.specs.Tables.{Place, Right, owner_alone, owner_or_reader, place_of}
use Rattle.apex_model.specs.Trees.{Name, Node, directory, file, Tree, standing_at, with_node, walk, file_count, directory_count, tree_charge, entries_within, next_entry}
use Rattle.apex_model.specs.Validity.{Has, IsValidFileSystem}
use Rattle.apex_model.proofs.Alike.{IsClosed}
use Rattle.apex_model.proofs.Keeps.{keeps-if, keeps-given, keeps-for}
use Rattle.model_laws.proofs.AlikeFiles.{IsShared, SameTree, SameHandles, FilesAlike, shared, not-shared}
use Rattle.model_laws.proofs.AlikeWords.{agree-set-first, agree-map-first}
use Rattle.model_laws.proofs.FileCalls.{writes}
use Rattle.model_laws.proofs.FileSystems.{leads}
use Rattle.model_laws.proofs.Handles.{handle-suc}
use Rattle.model_laws.proofs.Places.{place-known}

-- slots of which each handle stays
slots-same : {H : Type 0} (f : H → H) (slots : List (Option H)) → ((i : ℕ) (h : H) → option_flatten (slice_get slots i) ≡ Some h → f h ≡ h) → map (option_map f) slots ≡ slots
slots-same f [] k = refl
slots-same {H} f (None ∷ slots) k = let none : Option H = None in ap (λ rest. none ∷ rest) (slots-same f slots (λ i h e. k (suc i) h e))
slots-same f (Some h ∷ slots) k = let one : f h ≡ h = k 0 h refl in let rest = slots-same f slots (λ i h e. k (suc i) h e) in λ i. Some (one i) ∷ rest i

slot-handle : {H : Type 0} (slots : List (Option H)) (i : ℕ) (h : H) → option_flatten (slice_get slots i) ≡ Some h → handle_at slots (suc i) ≡ Some h
slot-handle slots i h e = let n : suc i - 1 ≡ i = omega arith in handle-suc slots i ∙ ap (λ k. option_flatten (slice_get slots k)) n ∙ e

module _ (table : Rows) (is_member : ℕ → Bool) (closed : IsClosed table is_member) (a b : FileSystem) (v : IsValidFileSystem table a) (same : FilesAlike table is_member a b)
    (q : ℕ) (out : is_member q ≡ false) where
  -- ---- the changes that it can make

  tree-beside : (c : FileSystem) (t : ℕ) (x : Tree File) → FilesAlike table is_member c b → Has table owner_alone q t → FilesAlike table is_member (with_tree c t x) b
  tree-beside c t x alike allowed = record {
    trees = agree-set-first (SameTree table is_member) [] c.trees b.trees alike.trees t x (λ y _ is. absurd (not-shared table is_member closed q t out allowed is));
    handles = alike.handles;
  }

  file_handle-beside : (c : FileSystem) (id : ℕ) (o : Option OpenedFile) → FilesAlike table is_member c b → FilesAlike table is_member (with_file_handle c q id o) b
  file_handle-beside c id o alike = record {
    trees = alike.trees;
    handles = agree-set-first (SameHandles is_member) no_handles c.handles b.handles alike.handles q _ (λ y _ member. absurd (let wrong : true ≡ false = sym member ∙ out in cc));
  }

  directory_handle-beside : (id : ℕ) (o : Option OpenedDirectory) → FilesAlike table is_member (with_directory_handle a q id o) b
  directory_handle-beside id o = record {
    trees = same.trees;
    handles = agree-set-first (SameHandles is_member) no_handles a.handles b.handles same.handles q _ (λ y _ member. absurd (let wrong : true ≡ false = sym member ∙ out in cc));
  }

  -- no member has a handle into its trees
  no-file : (t : ℕ) (names : List Name) → Has table owner_alone q t → (m : ℕ) → is_member m ≡ true → (id : ℕ) (h : OpenedFile) → handle_at (handles_in a m).files id ≡ Some h
      → is_file_handle_to t names h ≡ false
  no-file t names allowed m member id h at = (elim (is_file_handle_to t names h) as (λ x. is_file_handle_to t names h ≡ x → x ≡ false) [
    | true ↦ λ e.
        let P : ℕ → Type 0 = λ u. IsShared table is_member u in
        absurd (not-shared table is_member closed q t out allowed
        (subst P (leads h.tree h.path t names e).0 (shared table is_member closed m h.tree member (v.files m id h at).holder)))
    | false ↦ λ e. refl
  ]) refl

  no-directory : (t : ℕ) (names : List Name) → Has table owner_alone q t → (m : ℕ) → is_member m ≡ true → (id : ℕ) (h : OpenedDirectory) → handle_at (handles_in a m).directories id ≡ Some h
      → is_directory_handle_to t names h ≡ false
  no-directory t names allowed m member id h at = (elim (is_directory_handle_to t names h) as (λ x. is_directory_handle_to t names h ≡ x → x ≡ false) [
    | true ↦ λ e.
        let P : ℕ → Type 0 = λ u. IsShared table is_member u in
        absurd (not-shared table is_member closed q t out allowed
        (subst P (leads h.tree h.path t names e).0 (shared table is_member closed m h.tree member (v.directories m id h at).holder)))
    | false ↦ λ e. refl
  ]) refl

  files-stay : (t : ℕ) (names : List Name) (path : Option (List Name)) → Has table owner_alone q t → (m : ℕ) → is_member m ≡ true → with_files_moved t names path (handles_in a m) ≡ handles_in a m
  files-stay t names path allowed m member =
      let hs : Handles = handles_in a m in
      let slots : map (option_map (file_moved t names path)) hs.files ≡ hs.files = slots-same (file_moved t names path) hs.files (λ i h e.
      let to : OpenedFile = record { tree = h.tree; path = path; mode = h.mode; position = h.position } in
      ap (λ x. if x then to else h) (no-file t names allowed m member (suc i) h (slot-handle hs.files i h e))) in
      ap (λ (files : List (Option OpenedFile)). let made : Handles = record { files = files; directories = hs.directories } in made) slots

  directories-stay : (t : ℕ) (names : List Name) → Has table owner_alone q t → (m : ℕ) → is_member m ≡ true → with_directories_gone t names (handles_in a m) ≡ handles_in a m
  directories-stay t names allowed m member =
      let hs : Handles = handles_in a m in
      let slots : map (option_map (directory_gone t names)) hs.directories ≡ hs.directories = slots-same (directory_gone t names) hs.directories (λ i h e.
      let to : OpenedDirectory = record { tree = h.tree; path = None; last = h.last } in
      ap (λ x. if x then to else h) (no-directory t names allowed m member (suc i) h (slot-handle hs.directories i h e))) in
      ap (λ (directories : List (Option OpenedDirectory)). let made : Handles = record { files = hs.files; directories = directories } in made) slots

  mapped-beside : (t : ℕ) (x : Tree File) (f : Handles → Handles) → f no_handles ≡ no_handles → ((m : ℕ) → is_member m ≡ true → f (handles_in a m) ≡ handles_in a m) → Has table owner_alone q t
      → FilesAlike table is_member (record { trees = slice_set a.trees t x; handles = map f a.handles }) b
  mapped-beside t x f none stay allowed = record {
    trees = agree-set-first (SameTree table is_member) [] a.trees b.trees same.trees t x (λ y _ is. absurd (not-shared table is_member closed q t out allowed is));
    handles = agree-map-first (SameHandles is_member) no_handles a.handles b.handles same.handles f none (λ m y was member. stay m member ∙ was member);
  }

  -- ---- file services

  abbrev Stays : FileSystem → Type 0
  Stays s = FilesAlike table is_member s b

  at-place-beside : (o : Result Place Errno) (rest : Place → FileOutcome) → ((place : Place) → o ≡ Ok place → Stays (state_after a (rest place))) → Stays (state_after a (at_place o rest))
  at-place-beside (Err errno) rest h = same
  at-place-beside (Ok place) rest h = h place refl

  path-beside : (right : Right) (bytes : List ℕ) (rest : Place → FileOutcome) → ((place : Place) → Has table right q place.tree → Stays (state_after a (rest place)))
      → Stays (state_after a (on_path table a right q bytes rest))
  path-beside right bytes rest h = at-place-beside (place_of table right q bytes) _ (λ place is.
      keeps-for Stays a (walk (tree_in a place.tree) place.names) _ same (λ _. h place (place-known table right q place bytes is).allowed))

  held-beside : (h : OpenedFile) (rest : List Name → File → FileOutcome) → ((names : List Name) (f : File) → Stays (state_after a (rest names f))) → Stays (state_after a (on_file a h rest))
  held-beside h rest k =
      keeps-given Stays a h.path Estale _ same (λ names _.
      keeps-given Stays a (file_of (standing_at (tree_in a h.tree) names)) Estale _ same (λ f _. k names f))

  open_new_at-beside : (place : Place) (o : Option (Node File)) → Has table owner_alone q place.tree → Stays (state_after a (open_new_at table a q place o))
  open_new_at-beside place (Some directory) allowed = same
  open_new_at-beside place (Some (file f)) allowed = same
  open_new_at-beside place None allowed =
      keeps-if Stays a (nat_le (file_limit table place.tree) (file_count (tree_in a place.tree))) Enospc _ same (λ _.
      keeps-given Stays a (least_free (handles_in a q).files) Emfile _ same (λ id _.
      file_handle-beside (with_tree a place.tree (with_node (tree_in a place.tree) place.names (file new_file))) id _ (tree-beside a place.tree _ same allowed)))

  open_new-beside : (path : List ℕ) → Stays (state_after a (open_new_file table a q path))
  unfolding open_new_file
  open_new-beside path = path-beside owner_alone path _ (λ place allowed. open_new_at-beside place (standing_at (tree_in a place.tree) place.names) allowed)

  open_at-beside : (mode : OpenMode) (place : Place) (o : Option (Node File)) → Stays (state_after a (open_at a q mode place o))
  open_at-beside mode place None = same
  open_at-beside mode place (Some directory) = same
  open_at-beside mode place (Some (file f)) =
      keeps-if Stays a (may_write mode && any_open (is_writer_of place.tree place.names) (handles_in a q).files) Ebusy _ same (λ _.
      keeps-given Stays a (least_free (handles_in a q).files) Emfile _ same (λ id _. file_handle-beside a id _ same))

  open-beside : (path : List ℕ) (mode : OpenMode) → Stays (state_after a (open_file table a q path mode))
  unfolding open_file
  open-beside path mode = path-beside (right_for mode) path _ (λ place _. open_at-beside mode place (standing_at (tree_in a place.tree) place.names))

  close-beside : (id : ℕ) → Stays (state_after a (close_file a q id))
  unfolding close_file
  close-beside id = keeps-given Stays a (handle_at (handles_in a q).files id) Ebadf _ same (λ h _. file_handle-beside a id None same)

  read-beside : (id limit : ℕ) → Stays (state_after a (read_file a q id limit))
  unfolding read_file
  read-beside id limit = keeps-given Stays a (handle_at (handles_in a q).files id) Ebadf _ same (λ h _. held-beside h _ (λ names f.
      keeps-if Stays a ((limit == 0) || nat_lt 4096 limit) Einval _ same (λ _. file_handle-beside a id _ same)))

  change-beside : (id : ℕ) (h : OpenedFile) (names : List Name) (f : File) (content : Content) (position : ℕ) (values : Values) → handle_at (handles_in a q).files id ≡ Some h
      → not (may_write h.mode) ≡ false → Stays (state_after a (change table a q id h names f content position values))
  change-beside id h names f content position values at mode =
      keeps-if Stays a (nat_lt 1048576 (length content)) Efbig _ same (λ _.
      keeps-if Stays a (nat_lt (quota_of table h.tree) (tree_charge (with_node (tree_in a h.tree) names (file (changed f content))))) Enospc _ same (λ _.
      keeps-if Stays a (change_count f == 4294967295) Eoverflow _ same (λ _.
      file_handle-beside (with_tree a h.tree (with_node (tree_in a h.tree) names (file (changed f content)))) id _
      (tree-beside a h.tree _ same ((v.files q id h at).writer (writes h.mode mode)).owner))))

  write-beside : (id : ℕ) (bytes : List ℕ) → Stays (state_after a (write_file table a q id bytes))
  unfolding write_file
  write-beside id bytes = keeps-given Stays a (handle_at (handles_in a q).files id) Ebadf _ same (λ h at.
      keeps-if Stays a (not (may_write h.mode)) Eacces _ same (λ mode.
      keeps-if Stays a ((length bytes == 0) || nat_lt 4096 (length bytes)) Einval _ same (λ _.
      held-beside h _ (λ names f. change-beside id h names f _ _ _ at mode))))

  resize-beside : (id n : ℕ) → Stays (state_after a (resize_file table a q id n))
  unfolding resize_file
  resize-beside id n = keeps-given Stays a (handle_at (handles_in a q).files id) Ebadf _ same (λ h at.
      keeps-if Stays a (not (may_write h.mode)) Eacces _ same (λ mode. held-beside h _ (λ names f. change-beside id h names f _ _ _ at mode)))

  seek-beside : (id : ℕ) (offset : ℤ) (whence : Whence) → Stays (state_after a (seek_file a q id offset whence))
  unfolding seek_file
  seek-beside id offset whence = keeps-given Stays a (handle_at (handles_in a q).files id) Ebadf _ same (λ h _. held-beside h _ (λ names f.
      keeps-given Stays a (within_size (size f) (offset +ℤ pos (base whence h.position (size f)))) Einval _ same (λ target _. file_handle-beside a id _ same)))

  sync-beside : (id : ℕ) → Stays (state_after a (sync_file a q id))
  unfolding sync_file
  sync-beside id = keeps-given Stays a (handle_at (handles_in a q).files id) Ebadf _ same (λ h at.
      keeps-if Stays a (not (may_write h.mode)) Eacces _ same (λ mode.
      held-beside h _ (λ names f. tree-beside a h.tree _ same ((v.files q id h at).writer (writes h.mode mode)).owner)))

  remove_at-beside : (place : Place) (o : Option (Node File)) → Has table owner_alone q place.tree → Stays (state_after a (remove_file_at a q place o))
  remove_at-beside place None allowed = same
  remove_at-beside place (Some directory) allowed = same
  remove_at-beside place (Some (file f)) allowed =
      keeps-if Stays a (any_open (is_file_handle_to place.tree place.names) (handles_in a q).files) Ebusy _ same (λ _.
      mapped-beside place.tree _ (with_files_moved place.tree place.names None) refl (files-stay place.tree place.names None allowed) allowed)

  remove-beside : (path : List ℕ) → Stays (state_after a (remove_file table a q path))
  unfolding remove_file
  remove-beside path = path-beside owner_alone path _ (λ place allowed. remove_at-beside place (standing_at (tree_in a place.tree) place.names) allowed)

  rename_at-beside : (t : ℕ) (from to : List Name) (o : Option (Node File)) → Has table owner_alone q t → Stays (state_after a (rename_at a q t from to o))
  rename_at-beside t from to None allowed = same
  rename_at-beside t from to (Some directory) allowed = same
  rename_at-beside t from to (Some (file f)) allowed =
      keeps-for Stays a (walk (tree_in a t) to) _ same (λ _.
      keeps-if Stays a (any_open (is_file_handle_to t from) (handles_in a q).files) Ebusy _ same (λ _.
      keeps-if Stays a (is_some (standing_at (tree_in a t) to)) Eexist _ same (λ _.
      mapped-beside t _ (with_files_moved t from (Some to)) refl (files-stay t from (Some to) allowed) allowed)))

  rename-beside : (from to : List ℕ) → Stays (state_after a (rename_file table a q from to))
  unfolding rename_file
  rename-beside from to =
      at-place-beside (place_of table owner_alone q from) _ (λ source is.
      at-place-beside (place_of table owner_alone q to) _ (λ target _.
      keeps-if Stays a (not (source.tree == target.tree)) Einval _ same (λ _.
      keeps-for Stays a (walk (tree_in a source.tree) source.names) _ same (λ _.
      rename_at-beside source.tree source.names target.names (standing_at (tree_in a source.tree) source.names) (place-known table owner_alone q source from is).allowed))))

  file_status-beside : (id : ℕ) → Stays (state_after a (get_file_status a q id))
  unfolding get_file_status
  file_status-beside id = keeps-given Stays a (handle_at (handles_in a q).files id) Ebadf _ same (λ h _. held-beside h _ (λ names f. same))

  volume_status-beside : (path : List ℕ) → Stays (state_after a (get_volume_status table a q path))
  unfolding get_volume_status
  volume_status-beside path = at-place-beside (place_of table owner_or_reader q path) _ (λ place _. keeps-if Stays a (not (is_empty place.names)) Einval _ same (λ _. same))

  file_service-beside : (c : FileCall) → Stays (state_after a (file_service table a q c))
  file_service-beside (OpenNewFile path) = open_new-beside path
  file_service-beside (OpenFile path mode) = open-beside path mode
  file_service-beside (CloseFile id) = close-beside id
  file_service-beside (ReadFile id limit) = read-beside id limit
  file_service-beside (WriteFile id bytes) = write-beside id bytes
  file_service-beside (SeekFile id offset whence) = seek-beside id offset whence
  file_service-beside (ResizeFile id n) = resize-beside id n
  file_service-beside (SyncFile id) = sync-beside id
  file_service-beside (RemoveFile path) = remove-beside path
  file_service-beside (RenameFile from to) = rename-beside from to
  file_service-beside (GetFileStatus id) = file_status-beside id
  file_service-beside (GetVolumeStatus path) = volume_status-beside path

  -- its file call leaves a file system alike
  pub file_step-beside : (ready : Bool) (c : FileCall) → FilesAlike table is_member (state_after a (file_step table a q ready c)) b
  file_step-beside ready c = keeps-if Stays a (not ready) Eperm _ same (λ _. file_service-beside c)

  -- ---- directory services

  open_directory_at-beside : (place : Place) (o : Option (Node File)) → Stays (state_after a (open_directory_at a q place o))
  open_directory_at-beside place None = same
  open_directory_at-beside place (Some (file f)) = same
  open_directory_at-beside place (Some directory) = keeps-given Stays a (least_free (handles_in a q).directories) Emfile _ same (λ id _. directory_handle-beside id _)

  open_directory-beside : (path : List ℕ) → Stays (state_after a (open_directory table a q path))
  unfolding open_directory
  open_directory-beside path = path-beside owner_or_reader path _ (λ place _. open_directory_at-beside place (standing_at (tree_in a place.tree) place.names))

  close_directory-beside : (id : ℕ) → Stays (state_after a (close_directory a q id))
  unfolding close_directory
  close_directory-beside id = keeps-given Stays a (handle_at (handles_in a q).directories id) Ebadf _ same (λ h _. directory_handle-beside id None)

  give-beside : (id : ℕ) (h : OpenedDirectory) (o : Option (Name × Node File)) → Stays (state_after a (give_entry a q id h o))
  give-beside id h None = same
  give-beside id h (Some entry) = directory_handle-beside id _

  read_directory-beside : (id : ℕ) → Stays (state_after a (read_directory a q id))
  unfolding read_directory
  read_directory-beside id = keeps-given Stays a (handle_at (handles_in a q).directories id) Ebadf _ same (λ h _.
      keeps-given Stays a h.path Estale _ same (λ names _. give-beside id h (next_entry (tree_in a h.tree) names h.last)))

  rewind_directory-beside : (id : ℕ) → Stays (state_after a (rewind_directory a q id))
  unfolding rewind_directory
  rewind_directory-beside id = keeps-given Stays a (handle_at (handles_in a q).directories id) Ebadf _ same (λ h _.
      keeps-given Stays a h.path Estale _ same (λ names _. directory_handle-beside id _))

  make_directory-beside : (path : List ℕ) → Stays (state_after a (make_directory table a q path))
  unfolding make_directory
  make_directory-beside path = path-beside owner_alone path _ (λ place allowed.
      keeps-if Stays a (is_some (standing_at (tree_in a place.tree) place.names)) Eexist _ same (λ _.
      keeps-if Stays a (nat_le (directory_limit table place.tree) (directory_count (tree_in a place.tree))) Enospc _ same (λ _. tree-beside a place.tree _ same allowed)))

  remove_directory_at-beside : (place : Place) (o : Option (Node File)) → Has table owner_alone q place.tree → Stays (state_after a (remove_directory_at a q place o))
  remove_directory_at-beside place None allowed = same
  remove_directory_at-beside place (Some (file f)) allowed = same
  remove_directory_at-beside place (Some directory) allowed =
      keeps-if Stays a (is_empty place.names || any_open (is_directory_handle_to place.tree place.names) (handles_in a q).directories) Ebusy _ same (λ _.
      keeps-if Stays a (has_entries (entries_within (tree_in a place.tree) place.names)) Enotempty _ same (λ _.
      mapped-beside place.tree _ (with_directories_gone place.tree place.names) refl (directories-stay place.tree place.names allowed) allowed))

  remove_directory-beside : (path : List ℕ) → Stays (state_after a (remove_directory table a q path))
  unfolding remove_directory
  remove_directory-beside path = path-beside owner_alone path _ (λ place allowed. remove_directory_at-beside place (standing_at (tree_in a place.tree) place.names) allowed)

  sync_directory-beside : (id : ℕ) → Stays (state_after a (sync_directory a q id))
  unfolding sync_directory
  sync_directory-beside id = keeps-given Stays a (handle_at (handles_in a q).directories id) Ebadf _ same (λ h _. keeps-given Stays a h.path Estale _ same (λ names _. same))

  directory_service-beside : (c : DirCall) → Stays (state_after a (directory_service table a q c))
  directory_service-beside (OpenDirectory path) = open_directory-beside path
  directory_service-beside (CloseDirectory id) = close_directory-beside id
  directory_service-beside (ReadDirectory id) = read_directory-beside id
  directory_service-beside (RewindDirectory id) = rewind_directory-beside id
  directory_service-beside (MakeDirectory path) = make_directory-beside path
  directory_service-beside (RemoveDirectory path) = remove_directory-beside path
  directory_service-beside (SyncDirectory id) = sync_directory-beside id

  -- and so its directory call
  pub directory_step-beside : (ready : Bool) (c : DirCall) → FilesAlike table is_member (state_after a (directory_step table a q ready c)) b
  directory_step-beside ready c = keeps-if Stays a (not ready) Eperm _ same (λ _. directory_service-beside c)
