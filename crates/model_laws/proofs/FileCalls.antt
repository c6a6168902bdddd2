-- A file call keeps trees and handles valid.
use Rattle.std.proofs.Common.{◌≡◌, ◌≢◌, ℕ, ◌-◌, ◌≤◌, ◌<◌, inl, inr, Bool, true, false, not, List, [], ◌∷◌, map, refl, sym, ap, subst, ◌∙◌, Option, Some, None, length, take, min, replicate, arith, length-take, length-append}
use Rattle.std.specs.Prelude.{◌==◌, ◌&&◌, nat_le, nat_lt, slice_set, is_some, Result, Ok, Err}
use Rattle.std.specs.Option.{option_map_or}
use Rattle.std.specs.Ordering.{eq_by_cmp}
use Rattle.std.proofs.lemmas.Bool.Decides.{nat_tests}
use Rattle.std.proofs.lemmas.List.{get_or-set_same, length-replicate}
use Rattle.apex_types.specs.Rows.{Rows}
use Rattle.apex_types.specs.declared.calls.FileCall.{FileCall}
use Rattle.apex_types.specs.declared.calls.FileCall.TheVariants.{OpenNewFile, OpenFile, CloseFile, ReadFile, WriteFile, SeekFile, ResizeFile, SyncFile, RemoveFile, RenameFile, GetFileStatus, GetVolumeStatus}
use Rattle.apex_types.specs.declared.calls.OpenMode.{OpenMode}
use Rattle.apex_types.specs.declared.calls.OpenMode.TheVariants.{ReadOnly, ReadWrite}
use Rattle.apex_types.specs.declared.codes.Errno.{Errno}
use Rattle.apex_types.specs.declared.codes.Errno.TheVariants.{Eperm, Ebadf, Estale, Einval, Eacces, Efbig, Enospc, Eoverflow, Ebusy, Eexist, Emfile}
use Rattle.apex_model.specs.Accepted.{IsAccepted}
use Rattle.apex_model.specs.Files.{File, Content, size, change_count, new_file, changed, resized}
use Rattle.apex_model.specs.FileStep.{FileOutcome, opened, open_new_at, open_new_file, right_for, open_at, open_file, with_position, resize_file, remove_file_at, remove_file, rename_at, rename_file, get_file_status, is_empty, get_volume_status, file_service, file_step}
use Rattle.apex_model.specs.FileSystem.{FileSystem, tree_at, tree_in, handles_in, with_tree, quota_of, file_limit, file_of, at_place, on_path}
use Rattle.apex_model.specs.Handles.{OpenedFile, handle_at, with_slot, least_free, may_write, any_open, is_file_handle_to, is_writer_of, with_files_moved}
use Rattle.apex_model.specs.Outcomes.{state_after}
use Rattle.apex_model.specs.Tables.{Place, Right, owner_alone, owner_or_reader, place_of}
use Rattle.apex_model.specs.Trees.{Name, Node, directory, file, Tree, path_cmp, standing_at, with_node, without_node, walk, file_count, tree_charge}
use Rattle.apex_model.specs.Validity.{Has, IsContent, IsPath, parent_of, IsValidTree, IsValidFileHandle, IsValidFileSystem}
use Rattle.apex_model.proofs.Keeps.{keeps-if, keeps-given, keeps-for, zip-get, le-false, lt-false}
use Rattle.apex_model.proofs.Trees.{valid-with_file, directory-kept, same_path}
use Rattle.apex_model.proofs.ValidChanges.{changed-valid, sync-valid, write-valid}
use Rattle.apex_model.proofs.ValidFiles.{close-valid, read-valid, seek-valid, with_position-valid, file-in, same_file}
use Rattle.model_laws.proofs.FileSystems.{row_of, one_owner, owner-reads, within-zip, leads, leads-not, with_tree-valid, with_more-valid, files_moved-valid}
use Rattle.model_laws.proofs.Handles.{handle-with, id_some, free_some, open-none, no_file, with_file_handle-valid}
use Rattle.model_laws.proofs.Places.{AreNames, IsPlace, place-known, walked}
use Rattle.model_laws.proofs.TreeChanges.{same_key, kept-with, kept-other, put-there, with_new-valid, kept-without, free-without, without-valid, file-alone}

pub writes : (mode : OpenMode) → not (may_write mode) ≡ false → mode ≡ ReadWrite
writes ReadOnly h = absurd cc
writes ReadWrite h = refl

pub is-none : {A : Type 0} (o : Option A) → is_some o ≡ false → o ≡ None
is-none None h = refl
is-none (Some a) h = absurd cc

same-number : (a b : ℕ) → not (a == b) ≡ false → a ≡ b
same-number a b h = grind (arith, nat_tests)

-- names that something may stand at are a path
pub path-of : (name : Name) (names : List Name) → AreNames (name ∷ names) → IsPath (name ∷ names)
path-of name names is = let few = is.few in record { some = omega arith; few = few; spelled = is.spelled }

module _ (table : Rows) (fs : FileSystem) (p : ℕ) (v : IsValidFileSystem table fs) where
  -- ---- paths

  pub keeps-place : (o : Result Place Errno) (rest : Place → FileOutcome) → ((place : Place) → o ≡ Ok place → IsValidFileSystem table (state_after fs (rest place)))
      → IsValidFileSystem table (state_after fs (at_place o rest))
  keeps-place (Err errno) rest h = v
  keeps-place (Ok place) rest h = h place refl

  pub keeps-path : (right : Right) (bytes : List ℕ) (rest : Place → FileOutcome)
      → ((place : Place) → IsPlace table right p place → standing_at (tree_in fs place.tree) (parent_of place.names) ≡ Some directory → IsValidFileSystem table (state_after fs (rest place)))
      → IsValidFileSystem table (state_after fs (on_path table fs right p bytes rest))
  keeps-path right bytes rest h = keeps-place (place_of table right p bytes) _ (λ place is.
      keeps-for (IsValidFileSystem table) fs (walk (tree_in fs place.tree) place.names) _ v (λ way.
      h place (place-known table right p place bytes is) (walked (tree_in fs place.tree) place.names way)))

  -- the tree at a row
  pub tree-valid : (right : Right) (t : ℕ) (allowed : Has table right p t) → IsValidTree (row_of table right p t allowed).0 (tree_in fs t)
  tree-valid right t allowed = let row = row_of table right p t allowed in zip-get IsValidTree table.trees fs.trees t row.0 [] v.trees row.1

  -- ---- a handle that is opened

  holder-of : (mode : OpenMode) (t : ℕ) → Has table (right_for mode) p t → Has table owner_or_reader p t
  holder-of ReadOnly t h = h
  holder-of ReadWrite t h = owner-reads table p t h

  opened-valid : (t : ℕ) (names : List Name) (f : File) (mode : OpenMode) (id : ℕ) → Has table (right_for mode) p t → standing_at (tree_in fs t) names ≡ Some (file f) → 1 ≤ id
      → ((k : OpenedFile) (other : ℕ) → mode ≡ ReadWrite → handle_at (handles_in fs p).files other ≡ Some k → k.mode ≡ ReadWrite → k.tree ≡ t → k.path ≡ Some names → ⊥)
      → IsValidFileSystem table (opened fs p id (record { tree = t; names = names }) mode)
  opened-valid t names f mode id allowed stands some alone =
      let made : OpenedFile = record { tree = t; path = Some names; mode = mode; position = 0 } in
      let good : IsValidFileHandle table fs.trees p made = record {
        holder = holder-of mode t allowed;
        position = omega arith;
        path = λ other e. (f, let same : names ≡ other = cc in ap (standing_at (tree_in fs t)) (sym same) ∙ stands);
        writer = λ m. record {
          owner = let P : OpenMode → Type 0 = λ x. Has table (right_for x) p t in subst P m allowed;
          names = names;
          held = f;
          path = refl;
          stands = stands;
          position = omega arith;
        };
      } in
      with_file_handle-valid table fs p id v some (Some made)
      (λ h e. let same : made ≡ h = cc in let P : OpenedFile → Type 0 = λ x. IsValidFileHandle table fs.trees p x in subst P same good)
      (λ h k other e m f mk ht hp. let same : h ≡ made = cc in
      absurd (alone k other (sym (ap (λ (y : OpenedFile). y.mode) same) ∙ m) f mk (sym ht ∙ ap (λ (y : OpenedFile). y.tree) same) (sym hp ∙ ap (λ (y : OpenedFile). y.path) same)))

module _ (table : Rows) (fs : FileSystem) (p : ℕ) (v : IsValidFileSystem table fs) where
  -- OPEN_FILE
  open-at : (mode : OpenMode) (place : Place) (o : Option (Node File)) → IsPlace table (right_for mode) p place → standing_at (tree_in fs place.tree) place.names ≡ o
      → IsValidFileSystem table (state_after fs (open_at fs p mode place o))
  open-at mode place None is stands = v
  open-at mode place (Some directory) is stands = v
  open-at mode place (Some (file f)) is stands =
      keeps-if (IsValidFileSystem table) fs (may_write mode && any_open (is_writer_of place.tree place.names) (handles_in fs p).files) Ebusy _ v (λ busy.
      keeps-given (IsValidFileSystem table) fs (least_free (handles_in fs p).files) Emfile _ v (λ id free.
      opened-valid table fs p v place.tree place.names f mode id is.allowed stands (free_some (handles_in fs p).files id free)
      (λ k other m e mk kt kp.
      let closed : any_open (is_writer_of place.tree place.names) (handles_in fs p).files ≡ false = sym (ap (λ x. may_write x && any_open (is_writer_of place.tree place.names) (handles_in fs p).files) m) ∙ busy in
      let no = open-none (is_writer_of place.tree place.names) (handles_in fs p).files other k closed e in
      let not_there : is_file_handle_to place.tree place.names k ≡ false = sym (ap (λ x. may_write x && is_file_handle_to place.tree place.names k) mk) ∙ no in
      leads-not k.tree k.path place.tree place.names not_there kt kp)))

  pub open_file-valid : (path : List ℕ) (mode : OpenMode) → IsValidFileSystem table (state_after fs (open_file table fs p path mode))
  unfolding open_file
  open_file-valid path mode = keeps-path table fs p v (right_for mode) path _ (λ place is _. open-at mode place (standing_at (tree_in fs place.tree) place.names) is refl)

  -- OPEN_NEW_FILE
  opened_new-valid : (t : ℕ) (names : List Name) (id : ℕ) → Has table owner_alone p t → AreNames names → standing_at (tree_in fs t) (parent_of names) ≡ Some directory
      → standing_at (tree_in fs t) names ≡ None → file_count (tree_in fs t) < file_limit table t → least_free (handles_in fs p).files ≡ Some id
      → IsValidFileSystem table (opened (with_tree fs t (with_node (tree_in fs t) names (file new_file))) p id (record { tree = t; names = names }) ReadWrite)
  opened_new-valid t [] id allowed are parent free room number = absurd (let wrong : ◌≡◌ {A = Option (Node File)} (Some directory) None = free in cc)
  opened_new-valid t (name ∷ names) id allowed are parent free room number =
      let tree : Tree File = tree_in fs t in
      let put : Tree File = with_node tree (name ∷ names) (file new_file) in
      let row = row_of table owner_alone p t allowed in
      let is = tree-valid table fs p v owner_alone t allowed in
      let limit : file_limit table t ≡ row.0.files = ap (λ o. option_map_or (λ r. r.files) o 0) row.1 in
      let directories = is.directories in
      let charge = is.charge in
      let good : IsValidTree row.0 put = with_new-valid row.0 tree name names (file new_file) is free (path-of name names are) parent
      (record { contents = (record { fits = omega arith }, tt); changes = omega arith }) (omega (arith, room, limit)) (omega (arith, directories)) (omega (arith, charge)) in
      let between = with_more-valid table fs v t row.0 row.1 put good (λ other node h. kept-with tree (name ∷ names) (file new_file) other node free h) in
      let there : standing_at (tree_at (slice_set fs.trees t put) t) (name ∷ names) ≡ Some (file new_file)
      = ap (λ (x : Tree File). standing_at x (name ∷ names)) (get_or-set_same fs.trees t put [] (within-zip table.trees fs.trees t row.0 v.trees row.1)) ∙ put-there tree name names (file new_file) in
      opened-valid table (with_tree fs t put) p between t (name ∷ names) new_file ReadWrite id allowed there (free_some (handles_in fs p).files id number)
      (λ k other _ e _ kt kp.
      let was = (v.files p other k e).path (name ∷ names) kp in
      let wrong : ◌≡◌ {A = Option (Node File)} None (Some (file was.0)) = sym free ∙ ap (λ u. standing_at (tree_at fs.trees u) (name ∷ names)) (sym kt) ∙ was.1 in cc)

  open_new-at : (place : Place) (o : Option (Node File)) → IsPlace table owner_alone p place → standing_at (tree_in fs place.tree) (parent_of place.names) ≡ Some directory
      → standing_at (tree_in fs place.tree) place.names ≡ o → IsValidFileSystem table (state_after fs (open_new_at table fs p place o))
  open_new-at place (Some directory) is parent stands = v
  open_new-at place (Some (file f)) is parent stands = v
  open_new-at place None is parent stands =
      keeps-if (IsValidFileSystem table) fs (nat_le (file_limit table place.tree) (file_count (tree_in fs place.tree))) Enospc _ v (λ room.
      keeps-given (IsValidFileSystem table) fs (least_free (handles_in fs p).files) Emfile _ v (λ id number.
      opened_new-valid place.tree place.names id is.allowed is.names parent stands (le-false _ _ room) number))

  pub open_new_file-valid : (path : List ℕ) → IsValidFileSystem table (state_after fs (open_new_file table fs p path))
  unfolding open_new_file
  open_new_file-valid path = keeps-path table fs p v owner_alone path _ (λ place is parent. open_new-at place (standing_at (tree_in fs place.tree) place.names) is parent refl)

  -- ---- a file that goes

  -- what the owner has not open has no handle with write access
  closed-unwritten : (t : ℕ) (names : List Name) → Has table owner_alone p t → any_open (is_file_handle_to t names) (handles_in fs p).files ≡ false
      → (q id : ℕ) (h : OpenedFile) → handle_at (handles_in fs q).files id ≡ Some h → is_file_handle_to t names h ≡ true → h.mode ≢ ReadWrite
  closed-unwritten t names allowed closed q id h e to m =
      let w = (v.files q id h e).writer m in
      let P : ℕ → Type 0 = λ u. Has table owner_alone q u in
      let same : q ≡ p = one_owner table q p t (subst P (leads h.tree h.path t names to).0 w.owner) allowed in
      let Q : ℕ → Type 0 = λ r. handle_at (handles_in fs r).files id ≡ Some h in
      let not_there = open-none (is_file_handle_to t names) (handles_in fs p).files id h closed (subst Q same e) in
      let wrong : false ≡ true = sym not_there ∙ to in cc

  -- a file is no directory
  not-directory : (t : ℕ) (names other : List Name) (f : File) → standing_at (tree_in fs t) names ≡ Some (file f) → standing_at (tree_in fs t) other ≡ Some directory → other ≢ names
  not-directory t names other f stands h same = let wrong : ◌≡◌ {A = Option (Node File)} (Some directory) (Some (file f)) = sym h ∙ ap (standing_at (tree_in fs t)) same ∙ stands in cc

  -- REMOVE_FILE
  removed-valid : (t : ℕ) (names : List Name) (f : File) → Has table owner_alone p t → standing_at (tree_in fs t) names ≡ Some (file f)
      → any_open (is_file_handle_to t names) (handles_in fs p).files ≡ false
      → IsValidFileSystem table (record { trees = slice_set fs.trees t (without_node (tree_in fs t) names); handles = map (with_files_moved t names None) fs.handles })
  removed-valid t [] f allowed stands closed = absurd (let wrong : ◌≡◌ {A = Option (Node File)} (Some directory) (Some (file f)) = stands in cc)
  removed-valid t (name ∷ names) f allowed stands closed =
      let tree : Tree File = tree_in fs t in
      let row = row_of table owner_alone p t allowed in
      let is = tree-valid table fs p v owner_alone t allowed in
      let left = without-valid row.0 tree name names (file f) is stands (file-alone row.0 tree (name ∷ names) f is stands) in
      files_moved-valid table fs v t row.0 row.1 (without_node tree (name ∷ names)) left.valid (name ∷ names) None
      (closed-unwritten t (name ∷ names) allowed closed)
      (λ other g apart h. kept-without tree (name ∷ names) other (file g) apart h)
      (λ other e. absurd (let wrong : ◌≡◌ {A = Option (List Name)} None (Some other) = e in cc))
      (λ other h. kept-without tree (name ∷ names) other directory (not-directory t (name ∷ names) other f stands h) h)

  remove-at : (place : Place) (o : Option (Node File)) → IsPlace table owner_alone p place → standing_at (tree_in fs place.tree) place.names ≡ o
      → IsValidFileSystem table (state_after fs (remove_file_at fs p place o))
  remove-at place None is stands = v
  remove-at place (Some directory) is stands = v
  remove-at place (Some (file f)) is stands =
      keeps-if (IsValidFileSystem table) fs (any_open (is_file_handle_to place.tree place.names) (handles_in fs p).files) Ebusy _ v (λ closed.
      removed-valid place.tree place.names f is.allowed stands closed)

  pub remove_file-valid : (path : List ℕ) → IsValidFileSystem table (state_after fs (remove_file table fs p path))
  unfolding remove_file
  remove_file-valid path = keeps-path table fs p v owner_alone path _ (λ place is _. remove-at place (standing_at (tree_in fs place.tree) place.names) is refl)

  -- RENAME_FILE
  renamed-valid : (t : ℕ) (from to : List Name) (f : File) → Has table owner_alone p t → AreNames to → standing_at (tree_in fs t) from ≡ Some (file f)
      → standing_at (tree_in fs t) (parent_of to) ≡ Some directory → any_open (is_file_handle_to t from) (handles_in fs p).files ≡ false → standing_at (tree_in fs t) to ≡ None
      → IsValidFileSystem table (record { trees = slice_set fs.trees t (with_node (without_node (tree_in fs t) from) to (file f)); handles = map (with_files_moved t from (Some to)) fs.handles })
  renamed-valid t [] to f allowed are stands parent closed free = absurd (let wrong : ◌≡◌ {A = Option (Node File)} (Some directory) (Some (file f)) = stands in cc)
  renamed-valid t (first ∷ rest) [] f allowed are stands parent closed free = absurd (let wrong : ◌≡◌ {A = Option (Node File)} (Some directory) None = free in cc)
  renamed-valid t (first ∷ rest) (name ∷ names) f allowed are stands parent closed free =
      let from : List Name = first ∷ rest in
      let to : List Name = name ∷ names in
      let tree : Tree File = tree_in fs t in
      let less : Tree File = without_node tree from in
      let row = row_of table owner_alone p t allowed in
      let is = tree-valid table fs p v owner_alone t allowed in
      let left = without-valid row.0 tree first rest (file f) is stands (file-alone row.0 tree from f is stands) in
      let files = left.files in
      let directories = left.directories in
      let charge = left.charge in
      let most_files = is.files in
      let most_directories = is.directories in
      let quota = is.charge in
      let open_place = free-without tree from to free in
      let good = with_new-valid row.0 less name names (file f) left.valid open_place (path-of name names are)
      (kept-without tree from (parent_of to) directory (not-directory t from (parent_of to) f stands parent) parent)
      (file-in table.trees fs.trees t from f v.trees stands) (omega (arith, files, most_files)) (omega (arith, directories, most_directories)) (omega (arith, charge, quota)) in
      files_moved-valid table fs v t row.0 row.1 (with_node less to (file f)) good from (Some to)
      (closed-unwritten t from allowed closed)
      (λ other g apart h. kept-with less to (file f) other (file g) open_place (kept-without tree from other (file g) apart h))
      (λ other e. (f, let same : to ≡ other = cc in ap (standing_at (with_node less to (file f))) (sym same) ∙ put-there less name names (file f)))
      (λ other h. kept-with less to (file f) other directory open_place (kept-without tree from other directory (not-directory t from other f stands h) h))

  rename-at : (t : ℕ) (from to : List Name) (o : Option (Node File)) → Has table owner_alone p t → AreNames to → standing_at (tree_in fs t) from ≡ o
      → IsValidFileSystem table (state_after fs (rename_at fs p t from to o))
  rename-at t from to None allowed are stands = v
  rename-at t from to (Some directory) allowed are stands = v
  rename-at t from to (Some (file f)) allowed are stands =
      keeps-for (IsValidFileSystem table) fs (walk (tree_in fs t) to) _ v (λ way.
      keeps-if (IsValidFileSystem table) fs (any_open (is_file_handle_to t from) (handles_in fs p).files) Ebusy _ v (λ closed.
      keeps-if (IsValidFileSystem table) fs (is_some (standing_at (tree_in fs t) to)) Eexist _ v (λ free.
      renamed-valid t from to f allowed are stands (walked (tree_in fs t) to way) closed (is-none (standing_at (tree_in fs t) to) free))))

  pub rename_file-valid : (from to : List ℕ) → IsValidFileSystem table (state_after fs (rename_file table fs p from to))
  unfolding rename_file
  rename_file-valid from to =
      keeps-place table fs p v (place_of table owner_alone p from) _ (λ source is.
      keeps-place table fs p v (place_of table owner_alone p to) _ (λ target there.
      keeps-if (IsValidFileSystem table) fs (not (source.tree == target.tree)) Einval _ v (λ _.
      keeps-for (IsValidFileSystem table) fs (walk (tree_in fs source.tree) source.names) _ v (λ _.
      rename-at source.tree source.names target.names (standing_at (tree_in fs source.tree) source.names)
      (place-known table owner_alone p source from is).allowed (place-known table owner_alone p target to there).names refl))))

  -- ---- RESIZE_FILE

  -- a change of a file through the one handle that may write to it, which is then within the new content and not behind where it was
  cut_to-valid : (id : ℕ) (h : OpenedFile) (names : List Name) (f : File) (content : Content) (position : ℕ) → handle_at (handles_in fs p).files id ≡ Some h → h.mode ≡ ReadWrite → h.path ≡ Some names
      → standing_at (tree_in fs h.tree) names ≡ Some (file f) → IsContent content → position ≤ h.position → position ≤ length content
      → tree_charge (with_node (tree_in fs h.tree) names (file (changed f content))) ≤ quota_of table h.tree → (change_count f == 4294967295) ≡ false
      → IsValidFileSystem table (with_position (with_tree fs h.tree (with_node (tree_in fs h.tree) names (file (changed f content)))) p id h position)
  cut_to-valid id h [] f content position e mode path stands good low within room fresh = absurd (let wrong : ◌≡◌ {A = Option (Node File)} (Some directory) (Some (file f)) = stands in cc)
  cut_to-valid id h (name ∷ names) f content position e mode path stands good low within room fresh =
      let g : File = changed f content in
      let tree : Tree File = tree_in fs h.tree in
      let put : Tree File = with_node tree (name ∷ names) (file g) in
      let is = v.files p id h e in
      let owner = (is.writer mode).owner in
      let high = is.position in
      let row = row_of table owner_alone p h.tree owner in
      let valid = tree-valid table fs p v owner_alone h.tree owner in
      let quota : quota_of table h.tree ≡ row.0.quota = ap (λ o. option_map_or (λ r. r.quota) o 0) row.1 in
      let old = file-in table.trees fs.trees h.tree (name ∷ names) f v.trees stands in
      let new_tree = valid-with_file row.0 tree name names f g valid stands (changed-valid f content old good fresh) (omega (arith, room, quota)) in
      let made : OpenedFile = record { tree = h.tree; path = h.path; mode = h.mode; position = position } in
      let moved = with_position-valid table fs p id h (name ∷ names) f position v e path stands (omega (arith, low, high)) (λ w. omega (arith, w, low)) in
      with_tree-valid table (with_position fs p id h position) moved h.tree row.0 row.1 put new_tree
      (λ q other k found other_names other_file same named there. elim (eq_by_cmp path_cmp other_names (name ∷ names)) as (λ b. eq_by_cmp path_cmp other_names (name ∷ names) ≡ b
      → (x : File) × (standing_at put other_names ≡ Some (file x)) × (k.mode ≡ ReadWrite → k.position ≤ size other_file → k.position ≤ size x)) [
        | true ↦ λ t. (
          g,
          ap (standing_at put) (same_path other_names (name ∷ names) t) ∙ put-there tree name names (file g),
          λ m _. elim (handle-with (λ hs. hs.files) no_file fs.handles p (record { files = with_slot (handles_in fs p).files id (Some made); directories = (handles_in fs p).directories })
              id (Some made) refl (id_some (handles_in fs p).files id h e) q other k found) [
                | inl it ↦ let one : made ≡ k = cc in let at_position : position ≡ k.position = ap (λ (y : OpenedFile). y.position) one in omega (arith, at_position, within)
                | inr was ↦
                    let w = (v.files q other k was.0).writer m in
                    let P : ℕ → Type 0 = λ u. Has table owner_alone q u in
                    let one : p ≡ q = one_owner table p q h.tree owner (subst P same w.owner) in
                    let Q : ℕ → Type 0 = λ r. handle_at (handles_in fs r).files other ≡ Some k in
                    absurd (was.1 one (v.one_writer p id other h k e (subst Q (sym one) was.0) mode m (sym same) (path ∙ ap Some (sym (same_path other_names (name ∷ names) t)) ∙ sym named)))
              ],
        )
        | false ↦ λ t. (
          other_file,
          kept-other tree (name ∷ names) (file g) other_names (file other_file)
              (λ alike. let wrong : true ≡ false = sym (same_key (name ∷ names)) ∙ ap (λ x. eq_by_cmp path_cmp x (name ∷ names)) (sym alike) ∙ t in cc) there,
          λ _ fits. fits,
        )
      ] refl)
      (λ other there. directory-kept tree name names f g other stands there)

  length-resized : (content : Content) (n : ℕ) → length (resized content n) ≡ n
  length-resized content n =
      let a = length-append (take n content) (replicate (n - length content) 0) in
      let b = length-take n content in
      let c = length-replicate {A = ℕ} (n - length content) 0 in
      omega (arith, a, b, c)

  pub resize_file-valid : (id n : ℕ) → IsValidFileSystem table (state_after fs (resize_file table fs p id n))
  unfolding resize_file
  resize_file-valid id n =
      keeps-given (IsValidFileSystem table) fs (handle_at (handles_in fs p).files id) Ebadf _ v (λ h at.
      keeps-if (IsValidFileSystem table) fs (not (may_write h.mode)) Eacces _ v (λ mode.
      keeps-given (IsValidFileSystem table) fs h.path Estale _ v (λ names path.
      keeps-given (IsValidFileSystem table) fs (file_of (standing_at (tree_in fs h.tree) names)) Estale _ v (λ f found.
      keeps-if (IsValidFileSystem table) fs (nat_lt 1048576 (length (resized f.content n))) Efbig _ v (λ big.
      keeps-if (IsValidFileSystem table) fs (nat_lt (quota_of table h.tree) (tree_charge (with_node (tree_in fs h.tree) names (file (changed f (resized f.content n)))))) Enospc _ v (λ full.
      keeps-if (IsValidFileSystem table) fs (change_count f == 4294967295) Eoverflow _ v (λ worn.
      let stands = same_file (standing_at (tree_in fs h.tree) names) f found in
      let long = length-resized f.content n in
      cut_to-valid id h names f (resized f.content n) (min h.position n) at (writes h.mode mode) path stands
      (record { fits = lt-false _ _ big }) (omega arith) (omega (arith, long)) (lt-false _ _ full) worn)))))))

  -- GET_FILE_STATUS and GET_VOLUME_STATUS
  pub file_status-valid : (id : ℕ) → IsValidFileSystem table (state_after fs (get_file_status fs p id))
  unfolding get_file_status
  file_status-valid id =
      keeps-given (IsValidFileSystem table) fs (handle_at (handles_in fs p).files id) Ebadf _ v (λ h _.
      keeps-given (IsValidFileSystem table) fs h.path Estale _ v (λ names _.
      keeps-given (IsValidFileSystem table) fs (file_of (standing_at (tree_in fs h.tree) names)) Estale _ v (λ f _. v)))

  pub volume_status-valid : (path : List ℕ) → IsValidFileSystem table (state_after fs (get_volume_status table fs p path))
  unfolding get_volume_status
  volume_status-valid path =
      keeps-place table fs p v (place_of table owner_or_reader p path) _ (λ place _.
      keeps-if (IsValidFileSystem table) fs (not (is_empty place.names)) Einval _ v (λ _. v))

  pub file_service-valid : (c : FileCall) → IsValidFileSystem table (state_after fs (file_service table fs p c))
  file_service-valid (OpenNewFile path) = open_new_file-valid path
  file_service-valid (OpenFile path mode) = open_file-valid path mode
  file_service-valid (CloseFile id) = close-valid table fs p id v
  file_service-valid (ReadFile id limit) = read-valid table fs p id limit v
  file_service-valid (WriteFile id written) = write-valid table fs p id v written
  file_service-valid (SeekFile id offset whence) = seek-valid table fs p id offset whence v
  file_service-valid (ResizeFile id n) = resize_file-valid id n
  file_service-valid (SyncFile id) = sync-valid table fs p id v
  file_service-valid (RemoveFile path) = remove_file-valid path
  file_service-valid (RenameFile from to) = rename_file-valid from to
  file_service-valid (GetFileStatus id) = file_status-valid id
  file_service-valid (GetVolumeStatus path) = volume_status-valid path

-- a file call keeps trees and handles valid
pub file_call-valid : (table : Rows) (fs : FileSystem) (p : ℕ) (ready : Bool) (c : FileCall) → IsAccepted table → IsValidFileSystem table fs
    → IsValidFileSystem table (state_after fs (file_step table fs p ready c))
file_call-valid table fs p ready c accepted_table v = keeps-if (IsValidFileSystem table) fs (not ready) Eperm _ v (λ _. file_service-valid table fs p v c)
