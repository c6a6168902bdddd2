-- Two file systems with the same trees and handles of some partitions, the members: what a member's file call does and answers is the same in both, and what another partition's does leaves them so.
use Rattle.std.proofs.Common.{◌≡◌, ℕ, Bool, true, false, not, List, [], map, refl, sym, ap, subst, ◌∙◌, Option, Some, None, length}
use Rattle.std.specs.Prelude.{ℤ, pos, ◌+ℤ◌, ◌==◌, ◌&&◌, ◌||◌, nat_le, nat_lt, slice_get, slice_set, is_some}
use Rattle.std.specs.Option.{option_map_or}
use Rattle.apex_types.specs.Rows.{Rows}
use Rattle.apex_types.specs.declared.calls.FileCall.{FileCall}
use Rattle.apex_types.specs.declared.calls.FileCall.TheVariants.{OpenNewFile, OpenFile, CloseFile, ReadFile, WriteFile, SeekFile, ResizeFile, SyncFile, RemoveFile, RenameFile, GetFileStatus, GetVolumeStatus}
use Rattle.apex_types.specs.declared.calls.OpenMode.{OpenMode}
use Rattle.apex_types.specs.declared.calls.OpenMode.TheVariants.{ReadOnly, ReadWrite}
use Rattle.apex_types.specs.declared.calls.Whence.{Whence}
use Rattle.apex_types.specs.declared.codes.Errno.TheVariants.{Eperm, Ebadf, Estale, Einval, Eacces, Efbig, Enospc, Eoverflow, Ebusy, Eexist, Emfile}
use Rattle.apex_types.specs.declared.replies.Values.{Values}
use Rattle.apex_types.specs.declared.replies.Values.TheVariants.{VolumeStatus}
use Rattle.apex_types.specs.declared.rows.TreeRow.{TreeRow}
use Rattle.apex_model.specs.Files.{File, Content, size, change_count, new_file, changed, synchronised}
use Rattle.apex_model.specs.FileStep.{FileOutcome, open_new_at, open_new_file, right_for, open_at, open_file, close_file, with_position, read_file, change, write_file, base, within_size, seek_file, resize_file, sync_file, remove_file_at, remove_file, rename_at, rename_file, get_file_status, is_empty, get_volume_status, file_service, file_step}
use Rattle.apex_model.specs.FileSystem.{FileSystem, tree_in, handles_in, with_tree, with_file_handle, with_directory_handle, quota_of, file_limit, file_of, on_path, on_file_handle, on_file}
use Rattle.apex_model.specs.Handles.{Handles, OpenedFile, OpenedDirectory, no_handles, handle_at, with_slot, least_free, may_write, any_open, is_file_handle_to, is_writer_of, with_files_moved}
use Rattle.apex_model.specs.Outcomes.{accepted}
use Rattle.apex_model.specs.Tables.{Place, Right, owner_alone, owner_or_reader, has_right, place_of}
use Rattle.apex_model.specs.Trees.{Name, Node, directory, file, Tree, standing_at, with_node, without_node, walk, file_count, tree_charge}
use Rattle.apex_model.specs.Validity.{Has, IsValidFileSystem}
use Rattle.apex_model.proofs.Alike.{IsClosed}
use Rattle.model_laws.proofs.AlikeWords.{Agree, agree-set, agree-map, equal-numbers, Alike, alike-refused, alike-accepted, alike-if, alike-by, alike-for, alike-given, alike-place}
use Rattle.model_laws.proofs.FileSystems.{row_of, owner-reads}
use Rattle.model_laws.proofs.Places.{place-known}

-- a tree whose owner is a member
abbrev pub IsShared : Rows → (ℕ → Bool) → ℕ → Type 0
IsShared table is_member t = (row : TreeRow) × (slice_get table.trees t ≡ Some row) × (is_member row.owner.0 ≡ true)

abbrev pub SameTree : Rows → (ℕ → Bool) → ℕ → Tree File → Tree File → Type 0
SameTree table is_member t x y = IsShared table is_member t → x ≡ y

abbrev pub SameHandles : (ℕ → Bool) → ℕ → Handles → Handles → Type 0
SameHandles is_member p x y = is_member p ≡ true → x ≡ y

-- the same trees of members, and the same handles of members
pub record FilesAlike (table : Rows) (is_member : ℕ → Bool) (a b : FileSystem) : Type 0 where
  pub trees : Agree (SameTree table is_member) [] a.trees b.trees
  pub handles : Agree (SameHandles is_member) no_handles a.handles b.handles

-- whoever may read a tree has its row
right-at : (test : TreeRow → Bool) (o : Option TreeRow) (row : TreeRow) → option_map_or test o false ≡ true → o ≡ Some row → test row ≡ true
right-at test o row h e = let P : Option TreeRow → Type 0 = λ x. option_map_or test x false ≡ true in subst P e h

reads-for : (table : Rows) (p : ℕ) (mode : OpenMode) (t : ℕ) → Has table (right_for mode) p t → Has table owner_or_reader p t
reads-for table p ReadOnly t h = h
reads-for table p ReadWrite t h = owner-reads table p t h

module _ (table : Rows) (is_member : ℕ → Bool) (closed : IsClosed table is_member) where
  -- a tree that a member may read is a member's
  pub shared : (p t : ℕ) → is_member p ≡ true → Has table owner_or_reader p t → IsShared table is_member t
  shared p t member h =
      let row = row_of table owner_or_reader p t h in
      (row.0, row.1, closed t p row.0 row.1 (right-at (has_right owner_or_reader p) (slice_get table.trees t) row.0 h row.1) member)

  pub not-shared : (q t : ℕ) → is_member q ≡ false → Has table owner_alone q t → IsShared table is_member t → ⊥
  not-shared q t out h is =
      let same : is.0.owner.0 ≡ q = equal-numbers is.0.owner.0 q (right-at (has_right owner_alone q) (slice_get table.trees t) is.0 h is.1) in
      let wrong : true ≡ false = sym is.2 ∙ ap is_member same ∙ out in cc

  -- ---- the same change in both

  pub tree-set : (a b : FileSystem) (t : ℕ) (x y : Tree File) → FilesAlike table is_member a b → x ≡ y → FilesAlike table is_member (with_tree a t x) (with_tree b t y)
  tree-set a b t x y same e = record { trees = agree-set (SameTree table is_member) [] a.trees b.trees same.trees t x y (λ _. e); handles = same.handles }

  pub file_handle-set : (a b : FileSystem) (p id : ℕ) (o : Option OpenedFile) → FilesAlike table is_member a b → is_member p ≡ true
      → FilesAlike table is_member (with_file_handle a p id o) (with_file_handle b p id o)
  file_handle-set a b p id o same member =
      let e = same.handles.at p member in
      let new : Handles → Handles = λ hs. record { files = with_slot hs.files id o; directories = hs.directories } in
      record { trees = same.trees; handles = agree-set (SameHandles is_member) no_handles a.handles b.handles same.handles p (new (handles_in a p)) (new (handles_in b p)) (λ _. ap new e) }

  pub directory_handle-set : (a b : FileSystem) (p id : ℕ) (o : Option OpenedDirectory) → FilesAlike table is_member a b → is_member p ≡ true
      → FilesAlike table is_member (with_directory_handle a p id o) (with_directory_handle b p id o)
  directory_handle-set a b p id o same member =
      let e = same.handles.at p member in
      let new : Handles → Handles = λ hs. record { files = hs.files; directories = with_slot hs.directories id o } in
      record { trees = same.trees; handles = agree-set (SameHandles is_member) no_handles a.handles b.handles same.handles p (new (handles_in a p)) (new (handles_in b p)) (λ _. ap new e) }

  pub mapped : (a b : FileSystem) (t : ℕ) (x y : Tree File) (f : Handles → Handles) → f no_handles ≡ no_handles → FilesAlike table is_member a b → x ≡ y
      → FilesAlike table is_member (record { trees = slice_set a.trees t x; handles = map f a.handles }) (record { trees = slice_set b.trees t y; handles = map f b.handles })
  mapped a b t x y f none same e = record {
    trees = agree-set (SameTree table is_member) [] a.trees b.trees same.trees t x y (λ _. e);
    handles = agree-map (SameHandles is_member) no_handles a.handles b.handles same.handles f none (λ k h g was member. ap f (was member));
  }

  -- ---- a member's call

  module _ (a b : FileSystem) (v : IsValidFileSystem table a) (same : FilesAlike table is_member a b) (p : ℕ) (member : is_member p ≡ true) where
    pub tree-alike : (t : ℕ) → Has table owner_or_reader p t → tree_in a t ≡ tree_in b t
    tree-alike t h = same.trees.at t (shared p t member h)

    pub handles-alike : handles_in a p ≡ handles_in b p
    handles-alike = same.handles.at p member

    pub path-alike : (right : Right) (bytes : List ℕ) (rest next : Place → FileOutcome) → ((t : ℕ) → Has table right p t → Has table owner_or_reader p t)
        → ((place : Place) → tree_in a place.tree ≡ tree_in b place.tree → Alike (FilesAlike table is_member) (rest place) (next place))
        → Alike (FilesAlike table is_member) (on_path table a right p bytes rest) (on_path table b right p bytes next)
    path-alike right bytes rest next reads h = alike-place (FilesAlike table is_member) (place_of table right p bytes) _ _ (λ place is.
        let tree = tree-alike place.tree (reads place.tree (place-known table right p place bytes is).allowed) in
        alike-for (FilesAlike table is_member) (walk (tree_in a place.tree) place.names) (walk (tree_in b place.tree) place.names) (rest place) (next place)
        (ap (λ (x : Tree File). walk x place.names) tree) (λ _. h place tree))

    handle-alike : (id : ℕ) (rest next : OpenedFile → FileOutcome) → ((h : OpenedFile) → tree_in a h.tree ≡ tree_in b h.tree → Alike (FilesAlike table is_member) (rest h) (next h))
        → Alike (FilesAlike table is_member) (on_file_handle a p id rest) (on_file_handle b p id next)
    handle-alike id rest next k = alike-given (FilesAlike table is_member) (handle_at (handles_in a p).files id) (handle_at (handles_in b p).files id) Ebadf rest next
        (ap (λ (hs : Handles). handle_at hs.files id) handles-alike) (λ h at. k h (tree-alike h.tree (v.files p id h at).holder))

    held-alike : (h : OpenedFile) (rest next : List Name → File → FileOutcome) → tree_in a h.tree ≡ tree_in b h.tree
        → ((names : List Name) (f : File) → Alike (FilesAlike table is_member) (rest names f) (next names f)) → Alike (FilesAlike table is_member) (on_file a h rest) (on_file b h next)
    held-alike h rest next tree k =
        alike-given (FilesAlike table is_member) h.path h.path Estale _ _ refl (λ names _.
        alike-given (FilesAlike table is_member) (file_of (standing_at (tree_in a h.tree) names)) (file_of (standing_at (tree_in b h.tree) names)) Estale (rest names) (next names)
        (ap (λ (x : Tree File). file_of (standing_at x names)) tree) (λ f _. k names f))

    open_new_at-alike : (place : Place) (o : Option (Node File)) → tree_in a place.tree ≡ tree_in b place.tree
        → Alike (FilesAlike table is_member) (open_new_at table a p place o) (open_new_at table b p place o)
    open_new_at-alike place (Some directory) tree = alike-refused (FilesAlike table is_member) _
    open_new_at-alike place (Some (file f)) tree = alike-refused (FilesAlike table is_member) _
    open_new_at-alike place None tree =
        alike-if (FilesAlike table is_member) (nat_le (file_limit table place.tree) (file_count (tree_in a place.tree))) (nat_le (file_limit table place.tree) (file_count (tree_in b place.tree))) Enospc _ _
        (ap (λ (x : Tree File). nat_le (file_limit table place.tree) (file_count x)) tree) (λ _.
        alike-given (FilesAlike table is_member) (least_free (handles_in a p).files) (least_free (handles_in b p).files) Emfile _ _ (ap (λ (hs : Handles). least_free hs.files) handles-alike) (λ id _.
        alike-accepted (FilesAlike table is_member) _ _ _ _ refl (file_handle-set _ _ p id _
        (tree-set a b place.tree _ _ same (ap (λ (x : Tree File). with_node x place.names (file new_file)) tree)) member)))

    open_new-alike : (path : List ℕ) → Alike (FilesAlike table is_member) (open_new_file table a p path) (open_new_file table b p path)
    unfolding open_new_file
    open_new-alike path = path-alike owner_alone path _ _ (owner-reads table p) (λ place tree.
        alike-by (FilesAlike table is_member) (open_new_at table a p place) (open_new_at table b p place) (standing_at (tree_in a place.tree) place.names) (standing_at (tree_in b place.tree) place.names)
        (ap (λ (x : Tree File). standing_at x place.names) tree) (λ o _. open_new_at-alike place o tree))

    open_at-alike : (mode : OpenMode) (place : Place) (o : Option (Node File)) → Alike (FilesAlike table is_member) (open_at a p mode place o) (open_at b p mode place o)
    open_at-alike mode place None = alike-refused (FilesAlike table is_member) _
    open_at-alike mode place (Some directory) = alike-refused (FilesAlike table is_member) _
    open_at-alike mode place (Some (file f)) =
        alike-if (FilesAlike table is_member) (may_write mode && any_open (is_writer_of place.tree place.names) (handles_in a p).files)
        (may_write mode && any_open (is_writer_of place.tree place.names) (handles_in b p).files) Ebusy _ _
        (ap (λ (hs : Handles). may_write mode && any_open (is_writer_of place.tree place.names) hs.files) handles-alike) (λ _.
        alike-given (FilesAlike table is_member) (least_free (handles_in a p).files) (least_free (handles_in b p).files) Emfile _ _ (ap (λ (hs : Handles). least_free hs.files) handles-alike) (λ id _.
        alike-accepted (FilesAlike table is_member) _ _ _ _ refl (file_handle-set a b p id _ same member)))

    open-alike : (path : List ℕ) (mode : OpenMode) → Alike (FilesAlike table is_member) (open_file table a p path mode) (open_file table b p path mode)
    unfolding open_file
    open-alike path mode = path-alike (right_for mode) path _ _ (reads-for table p mode) (λ place tree.
        alike-by (FilesAlike table is_member) (open_at a p mode place) (open_at b p mode place) (standing_at (tree_in a place.tree) place.names) (standing_at (tree_in b place.tree) place.names)
        (ap (λ (x : Tree File). standing_at x place.names) tree) (λ o _. open_at-alike mode place o))

    close-alike : (id : ℕ) → Alike (FilesAlike table is_member) (close_file a p id) (close_file b p id)
    unfolding close_file
    close-alike id = handle-alike id _ _ (λ h tree. alike-accepted (FilesAlike table is_member) _ _ _ _ refl (file_handle-set a b p id None same member))

    position-alike : (id : ℕ) (h : OpenedFile) (position : ℕ) (values : Values) → Alike (FilesAlike table is_member) (accepted (with_position a p id h position) values) (accepted (with_position b p id h position) values)
    position-alike id h position values = alike-accepted (FilesAlike table is_member) _ _ _ _ refl (file_handle-set a b p id _ same member)

    read-alike : (id limit : ℕ) → Alike (FilesAlike table is_member) (read_file a p id limit) (read_file b p id limit)
    unfolding read_file
    read-alike id limit = handle-alike id _ _ (λ h tree. held-alike h _ _ tree (λ names f.
        alike-if (FilesAlike table is_member) ((limit == 0) || nat_lt 4096 limit) ((limit == 0) || nat_lt 4096 limit) Einval _ _ refl (λ _. position-alike id h _ _)))

    change-alike : (id : ℕ) (h : OpenedFile) (names : List Name) (f : File) (content : Content) (position : ℕ) (values : Values) → tree_in a h.tree ≡ tree_in b h.tree
        → Alike (FilesAlike table is_member) (change table a p id h names f content position values) (change table b p id h names f content position values)
    change-alike id h names f content position values tree =
        let put : Tree File → Tree File = λ x. with_node x names (file (changed f content)) in
        alike-if (FilesAlike table is_member) (nat_lt 1048576 (length content)) (nat_lt 1048576 (length content)) Efbig _ _ refl (λ _.
        alike-if (FilesAlike table is_member) (nat_lt (quota_of table h.tree) (tree_charge (put (tree_in a h.tree)))) (nat_lt (quota_of table h.tree) (tree_charge (put (tree_in b h.tree)))) Enospc _ _
        (ap (λ (x : Tree File). nat_lt (quota_of table h.tree) (tree_charge (put x))) tree) (λ _.
        alike-if (FilesAlike table is_member) (change_count f == 4294967295) (change_count f == 4294967295) Eoverflow _ _ refl (λ _.
        alike-accepted (FilesAlike table is_member) _ _ _ _ refl (file_handle-set _ _ p id _ (tree-set a b h.tree _ _ same (ap put tree)) member))))

    write-alike : (id : ℕ) (bytes : List ℕ) → Alike (FilesAlike table is_member) (write_file table a p id bytes) (write_file table b p id bytes)
    unfolding write_file
    write-alike id bytes = handle-alike id _ _ (λ h tree.
        alike-if (FilesAlike table is_member) (not (may_write h.mode)) (not (may_write h.mode)) Eacces _ _ refl (λ _.
        alike-if (FilesAlike table is_member) ((length bytes == 0) || nat_lt 4096 (length bytes)) ((length bytes == 0) || nat_lt 4096 (length bytes)) Einval _ _ refl (λ _.
        held-alike h _ _ tree (λ names f. change-alike id h names f _ _ _ tree))))

    resize-alike : (id n : ℕ) → Alike (FilesAlike table is_member) (resize_file table a p id n) (resize_file table b p id n)
    unfolding resize_file
    resize-alike id n = handle-alike id _ _ (λ h tree.
        alike-if (FilesAlike table is_member) (not (may_write h.mode)) (not (may_write h.mode)) Eacces _ _ refl (λ _.
        held-alike h _ _ tree (λ names f. change-alike id h names f _ _ _ tree)))

    seek-alike : (id : ℕ) (offset : ℤ) (whence : Whence) → Alike (FilesAlike table is_member) (seek_file a p id offset whence) (seek_file b p id offset whence)
    unfolding seek_file
    seek-alike id offset whence = handle-alike id _ _ (λ h tree. held-alike h _ _ tree (λ names f.
        alike-given (FilesAlike table is_member) (within_size (size f) (offset +ℤ pos (base whence h.position (size f)))) (within_size (size f) (offset +ℤ pos (base whence h.position (size f)))) Einval _ _ refl
        (λ target _. position-alike id h target _)))

    sync-alike : (id : ℕ) → Alike (FilesAlike table is_member) (sync_file a p id) (sync_file b p id)
    unfolding sync_file
    sync-alike id = handle-alike id _ _ (λ h tree.
        alike-if (FilesAlike table is_member) (not (may_write h.mode)) (not (may_write h.mode)) Eacces _ _ refl (λ _.
        held-alike h _ _ tree (λ names f. alike-accepted (FilesAlike table is_member) _ _ _ _ refl
        (tree-set a b h.tree _ _ same (ap (λ (x : Tree File). with_node x names (file (synchronised f))) tree)))))

    remove_at-alike : (place : Place) (o : Option (Node File)) → tree_in a place.tree ≡ tree_in b place.tree
        → Alike (FilesAlike table is_member) (remove_file_at a p place o) (remove_file_at b p place o)
    remove_at-alike place None tree = alike-refused (FilesAlike table is_member) _
    remove_at-alike place (Some directory) tree = alike-refused (FilesAlike table is_member) _
    remove_at-alike place (Some (file f)) tree =
        alike-if (FilesAlike table is_member) (any_open (is_file_handle_to place.tree place.names) (handles_in a p).files) (any_open (is_file_handle_to place.tree place.names) (handles_in b p).files) Ebusy _ _
        (ap (λ (hs : Handles). any_open (is_file_handle_to place.tree place.names) hs.files) handles-alike) (λ _.
        alike-accepted (FilesAlike table is_member) _ _ _ _ refl
        (mapped a b place.tree _ _ (with_files_moved place.tree place.names None) refl same (ap (λ (x : Tree File). without_node x place.names) tree)))

    remove-alike : (path : List ℕ) → Alike (FilesAlike table is_member) (remove_file table a p path) (remove_file table b p path)
    unfolding remove_file
    remove-alike path = path-alike owner_alone path _ _ (owner-reads table p) (λ place tree.
        alike-by (FilesAlike table is_member) (remove_file_at a p place) (remove_file_at b p place) (standing_at (tree_in a place.tree) place.names) (standing_at (tree_in b place.tree) place.names)
        (ap (λ (x : Tree File). standing_at x place.names) tree) (λ o _. remove_at-alike place o tree))

    rename_at-alike : (t : ℕ) (from to : List Name) (o : Option (Node File)) → tree_in a t ≡ tree_in b t → Alike (FilesAlike table is_member) (rename_at a p t from to o) (rename_at b p t from to o)
    rename_at-alike t from to None tree = alike-refused (FilesAlike table is_member) _
    rename_at-alike t from to (Some directory) tree = alike-refused (FilesAlike table is_member) _
    rename_at-alike t from to (Some (file f)) tree =
        alike-for (FilesAlike table is_member) (walk (tree_in a t) to) (walk (tree_in b t) to) _ _ (ap (λ (x : Tree File). walk x to) tree) (λ _.
        alike-if (FilesAlike table is_member) (any_open (is_file_handle_to t from) (handles_in a p).files) (any_open (is_file_handle_to t from) (handles_in b p).files) Ebusy _ _
        (ap (λ (hs : Handles). any_open (is_file_handle_to t from) hs.files) handles-alike) (λ _.
        alike-if (FilesAlike table is_member) (is_some (standing_at (tree_in a t) to)) (is_some (standing_at (tree_in b t) to)) Eexist _ _ (ap (λ (x : Tree File). is_some (standing_at x to)) tree) (λ _.
        alike-accepted (FilesAlike table is_member) _ _ _ _ refl
        (mapped a b t _ _ (with_files_moved t from (Some to)) refl same (ap (λ (x : Tree File). with_node (without_node x from) to (file f)) tree)))))

    rename-alike : (from to : List ℕ) → Alike (FilesAlike table is_member) (rename_file table a p from to) (rename_file table b p from to)
    unfolding rename_file
    rename-alike from to =
        alike-place (FilesAlike table is_member) (place_of table owner_alone p from) _ _ (λ source is.
        alike-place (FilesAlike table is_member) (place_of table owner_alone p to) _ _ (λ target _.
        let tree = tree-alike source.tree (owner-reads table p source.tree (place-known table owner_alone p source from is).allowed) in
        alike-if (FilesAlike table is_member) (not (source.tree == target.tree)) (not (source.tree == target.tree)) Einval _ _ refl (λ _.
        alike-for (FilesAlike table is_member) (walk (tree_in a source.tree) source.names) (walk (tree_in b source.tree) source.names) _ _ (ap (λ (x : Tree File). walk x source.names) tree) (λ _.
        alike-by (FilesAlike table is_member) (rename_at a p source.tree source.names target.names) (rename_at b p source.tree source.names target.names)
        (standing_at (tree_in a source.tree) source.names) (standing_at (tree_in b source.tree) source.names)
        (ap (λ (x : Tree File). standing_at x source.names) tree) (λ o _. rename_at-alike source.tree source.names target.names o tree)))))

    file_status-alike : (id : ℕ) → Alike (FilesAlike table is_member) (get_file_status a p id) (get_file_status b p id)
    unfolding get_file_status
    file_status-alike id = handle-alike id _ _ (λ h tree. held-alike h _ _ tree (λ names f. alike-accepted (FilesAlike table is_member) _ _ _ _ refl same))

    volume_status-alike : (path : List ℕ) → Alike (FilesAlike table is_member) (get_volume_status table a p path) (get_volume_status table b p path)
    unfolding get_volume_status
    volume_status-alike path = alike-place (FilesAlike table is_member) (place_of table owner_or_reader p path) _ _ (λ place is.
        let tree = tree-alike place.tree (place-known table owner_or_reader p place path is).allowed in
        alike-if (FilesAlike table is_member) (not (is_empty place.names)) (not (is_empty place.names)) Einval _ _ refl (λ _.
        alike-accepted (FilesAlike table is_member) _ _ _ _ (ap (λ (x : Tree File). VolumeStatus (quota_of table place.tree) (tree_charge x) (file_count x)) tree) same))

    file_service-alike : (c : FileCall) → Alike (FilesAlike table is_member) (file_service table a p c) (file_service table b p c)
    file_service-alike (OpenNewFile path) = open_new-alike path
    file_service-alike (OpenFile path mode) = open-alike path mode
    file_service-alike (CloseFile id) = close-alike id
    file_service-alike (ReadFile id limit) = read-alike id limit
    file_service-alike (WriteFile id bytes) = write-alike id bytes
    file_service-alike (SeekFile id offset whence) = seek-alike id offset whence
    file_service-alike (ResizeFile id n) = resize-alike id n
    file_service-alike (SyncFile id) = sync-alike id
    file_service-alike (RemoveFile path) = remove-alike path
    file_service-alike (RenameFile from to) = rename-alike from to
    file_service-alike (GetFileStatus id) = file_status-alike id
    file_service-alike (GetVolumeStatus path) = volume_status-alike path

    -- a member's file call is answered the same, and leaves both alike
    pub file_step-alike : (ready : Bool) (c : FileCall) → Alike (FilesAlike table is_member) (file_step table a p ready c) (file_step table b p ready c)
    file_step-alike ready c = alike-if (FilesAlike table is_member) (not ready) (not ready) Eperm _ _ refl (λ _. file_service-alike c)
