-- What stores and handles stand for, after each change of them.
use Rattle.std.proofs.Common.{◌≡◌, ℕ, zero, suc, ◌-◌, ◌<◌, List, [], ◌∷◌, refl, sym, ap, subst, ◌∙◌, Option, Some, None, inl, inr, length, arith}
use Rattle.std.specs.Prelude.{slice_get, slice_set, slice_index_or, option_map, map}
use Rattle.std.specs.List.{AllZip}
use Rattle.std.specs.Option.{option_map_or}
use Rattle.std.proofs.lemmas.List.{map-set, length-set, length-map}
use Rattle.std.proofs.lemmas.Slice.Zip.{AllZip-long}
use Rattle.apex_types.specs.Rows.{Rows}
use Rattle.apex_types.specs.declared.calls.OpenMode.{OpenMode}
use Rattle.apex_types.specs.declared.fields.DirHandle.{DirHandle}
use Rattle.apex_types.specs.declared.fields.FileHandle.{FileHandle}
use Rattle.apex_types.specs.declared.numbers.DirNode.{DirNode}
use Rattle.apex_types.specs.declared.numbers.FileNode.{FileNode}
use Rattle.apex_types.specs.declared.rows.TreeRow.{TreeRow}
use Rattle.apex_model.specs.DirectoryStep.{with_last}
use Rattle.apex_model.specs.FileStep.{with_position}
use Rattle.apex_model.specs.FileSystem.{FileSystem, tree_in, handles_in, with_file_handle, with_directory_handle, quota_of, file_limit, directory_limit}
use Rattle.apex_model.specs.Handles.{Handles, no_handles, handle_at, with_slot, least_free}
use Rattle.apex_model.specs.Trees.{Name}
use Rattle.file_tree.specs.Entries.{TreeValue}
use Rattle.file_tree.proofs.Ways.{not_some}
use Rattle.open_handles.specs.NodeHandles.{AllHandles, handles_of, none_open, with_file_slot, with_directory_slot}
use Rattle.open_handles.specs.Nodes as nodes
use Rattle.open_handles.specs.declared.handles.PartitionHandles.{PartitionHandles}
use Rattle.store_model.proofs.Handles.{none_open-at, handle_at-map, handle_at-with_slot, free_from-map, one_of}
use Rattle.store_model.specs.Standing.{IsTree}
use Rattle.store_model.specs.Stores.{StoreValue}
use Rattle.store_model.specs.Systems.{no_store, store_at, file_path, directory_path, opened_file, opened_directory, opened_handles, HoldsFile, HoldsDirectory, Stands, HasLimits, IsOfTable}

-- ---- lists place by place

module _ {A B : Type 0} (P : A → B → Type 0) where
  pub zip_at : (xs : List A) (ys : List B) (k : ℕ) (a : A) (b : B) → AllZip P xs ys → k < length xs → P (slice_index_or xs k a) (slice_index_or ys k b)
  zip_at [] ys k a b z low = absurd (omega arith)
  zip_at (x ∷ xs) [] k a b z low = absurd z
  zip_at (x ∷ xs) (y ∷ ys) zero a b z low = z.0
  zip_at (x ∷ xs) (y ∷ ys) (suc k) a b z low = zip_at xs ys k a b z.1 (omega arith)

  pub zip_set : (xs : List A) (ys : List B) (k : ℕ) (x : A) (y : B) → AllZip P xs ys → P x y → AllZip P (slice_set xs k x) (slice_set ys k y)
  zip_set [] [] k x y z p = tt
  zip_set [] (b ∷ ys) k x y z p = absurd z
  zip_set (a ∷ xs) [] k x y z p = absurd z
  zip_set (a ∷ xs) (b ∷ ys) zero x y z p = (p, z.1)
  zip_set (a ∷ xs) (b ∷ ys) (suc k) x y z p = (z.0, zip_set xs ys k x y z.1 p)

-- ---- the handles of a partition

opened_at : (stores : List StoreValue) (handles : AllHandles) (p : ℕ) → slice_index_or (map (opened_handles stores) handles) p no_handles ≡ opened_handles stores (handles_of handles p)
opened_at stores [] p = refl
opened_at stores (h ∷ handles) zero = refl
opened_at stores (h ∷ handles) (suc p) = opened_at stores handles p

module _ (stores : List StoreValue) (handles : AllHandles) (fs : FileSystem) (s : Stands stores handles fs) where
  -- a partition's handles, in the file system and as they are held
  pub handles-are : (p : ℕ) → handles_in fs p ≡ opened_handles stores (handles_of handles p)
  handles-are p = ap (λ (hs : List Handles). slice_index_or hs p no_handles) s.opened ∙ opened_at stores handles p

  -- the file handle of a number
  pub handle-is : (p id : ℕ) → handle_at (handles_in fs p).files id ≡ option_map (opened_file stores) (handle_at (handles_of handles p).files id)
  handle-is p id = ap (λ (hs : Handles). handle_at hs.files id) (handles-are p) ∙ handle_at-map (opened_file stores) (handles_of handles p).files id

  pub handle-there : (p id : ℕ) (h : FileHandle) → handle_at (handles_of handles p).files id ≡ Some h → handle_at (handles_in fs p).files id ≡ Some (opened_file stores h)
  handle-there p id h e = handle-is p id ∙ ap (option_map (opened_file stores)) e

  pub handle-absent : (p id : ℕ) → handle_at (handles_of handles p).files id ≡ None → handle_at (handles_in fs p).files id ≡ None
  handle-absent p id e = handle-is p id ∙ ap (option_map (opened_file stores)) e

  -- the directory handle of a number
  pub directory_handle-is : (p id : ℕ) → handle_at (handles_in fs p).directories id ≡ option_map (opened_directory stores) (handle_at (handles_of handles p).directories id)
  directory_handle-is p id = ap (λ (hs : Handles). handle_at hs.directories id) (handles-are p) ∙ handle_at-map (opened_directory stores) (handles_of handles p).directories id

  pub directory_handle-there : (p id : ℕ) (h : DirHandle) → handle_at (handles_of handles p).directories id ≡ Some h → handle_at (handles_in fs p).directories id ≡ Some (opened_directory stores h)
  directory_handle-there p id h e = directory_handle-is p id ∙ ap (option_map (opened_directory stores)) e

  pub directory_handle-absent : (p id : ℕ) → handle_at (handles_of handles p).directories id ≡ None → handle_at (handles_in fs p).directories id ≡ None
  directory_handle-absent p id e = directory_handle-is p id ∙ ap (option_map (opened_directory stores)) e

  -- the least number that is free
  pub least-same : (p : ℕ) → least_free (handles_in fs p).files ≡ least_free (handles_of handles p).files
  least-same p = ap (λ (hs : Handles). least_free hs.files) (handles-are p) ∙ free_from-map (opened_file stores) 1 (handles_of handles p).files

  pub least_directory-same : (p : ℕ) → least_free (handles_in fs p).directories ≡ least_free (handles_of handles p).directories
  least_directory-same p = ap (λ (hs : Handles). least_free hs.directories) (handles-are p) ∙ free_from-map (opened_directory stores) 1 (handles_of handles p).directories

  -- the store of a tree stands for it
  pub store-there : (t : ℕ) → t < length stores → IsTree (store_at stores t) (tree_in fs t)
  store-there t low = zip_at IsTree stores fs.trees t no_store [] s.trees low

  pub trees-long : length fs.trees ≡ length stores
  trees-long = AllZip-long IsTree stores fs.trees s.trees

  pub handles-long : length fs.handles ≡ length handles
  handles-long = ap length s.opened ∙ length-map handles (opened_handles stores)

  -- ---- another handle at a number

  -- at a number of a partition another file handle, or none
  pub slot-stands : (p id : ℕ) (o : Option FileHandle) → ((h : FileHandle) → o ≡ Some h → HoldsFile stores h)
      → Stands stores (with_file_slot handles p id o) (with_file_handle fs p id (option_map (opened_file stores) o))
  slot-stands p id o holds =
      let own = handles_of handles p in
      let new : PartitionHandles = record { files = with_slot own.files id o; directories = own.directories } in
      let stood : Handles → Handles = λ hs. record { files = with_slot hs.files id (option_map (opened_file stores) o); directories = hs.directories } in
      let here : opened_handles stores new ≡ stood (opened_handles stores own)
      = λ i. record { files = map-set (option_map (opened_file stores)) own.files (id - 1) o i; directories = map (option_map (opened_directory stores)) own.directories } in
      record {
        trees = s.trees;
        opened = (λ i. slice_set (s.opened i) p (stood (handles-are p i))) ∙ ap (slice_set (map (opened_handles stores) handles) p) (sym here) ∙ sym (map-set (opened_handles stores) handles p new);
        files = λ q j h e. elim (one_of handles p q new none_open) [
          | inl same ↦ s.files q j h (ap (λ (hs : PartitionHandles). handle_at hs.files j) (sym same) ∙ e)
          | inr is ↦ elim (handle_at-with_slot own.files id j o h (ap (λ (hs : PartitionHandles). handle_at hs.files j) (sym is) ∙ e)) [
            | inl old ↦ s.files p j h old
            | inr put ↦ holds h put
          ]
        ];
        directories = λ q j h e. elim (one_of handles p q new none_open) [
          | inl same ↦ s.directories q j h (ap (λ (hs : PartitionHandles). handle_at hs.directories j) (sym same) ∙ e)
          | inr is ↦ s.directories p j h (ap (λ (hs : PartitionHandles). handle_at hs.directories j) (sym is) ∙ e)
        ];
      }

  -- at a number of a partition another directory handle, or none
  pub directory_slot-stands : (p id : ℕ) (o : Option DirHandle) → ((h : DirHandle) → o ≡ Some h → HoldsDirectory stores h)
      → Stands stores (with_directory_slot handles p id o) (with_directory_handle fs p id (option_map (opened_directory stores) o))
  directory_slot-stands p id o holds =
      let own = handles_of handles p in
      let new : PartitionHandles = record { files = own.files; directories = with_slot own.directories id o } in
      let stood : Handles → Handles = λ hs. record { files = hs.files; directories = with_slot hs.directories id (option_map (opened_directory stores) o) } in
      let here : opened_handles stores new ≡ stood (opened_handles stores own)
      = λ i. record { files = map (option_map (opened_file stores)) own.files; directories = map-set (option_map (opened_directory stores)) own.directories (id - 1) o i } in
      record {
        trees = s.trees;
        opened = (λ i. slice_set (s.opened i) p (stood (handles-are p i))) ∙ ap (slice_set (map (opened_handles stores) handles) p) (sym here) ∙ sym (map-set (opened_handles stores) handles p new);
        files = λ q j h e. elim (one_of handles p q new none_open) [
          | inl same ↦ s.files q j h (ap (λ (hs : PartitionHandles). handle_at hs.files j) (sym same) ∙ e)
          | inr is ↦ s.files p j h (ap (λ (hs : PartitionHandles). handle_at hs.files j) (sym is) ∙ e)
        ];
        directories = λ q j h e. elim (one_of handles p q new none_open) [
          | inl same ↦ s.directories q j h (ap (λ (hs : PartitionHandles). handle_at hs.directories j) (sym same) ∙ e)
          | inr is ↦ elim (handle_at-with_slot own.directories id j o h (ap (λ (hs : PartitionHandles). handle_at hs.directories j) (sym is) ∙ e)) [
            | inl old ↦ s.directories p j h old
            | inr put ↦ holds h put
          ]
        ];
      }

  -- a file handle was closed
  pub closed-stands : (p id : ℕ) → Stands stores (with_file_slot handles p id None) (with_file_handle fs p id None)
  closed-stands p id = slot-stands p id None (λ h e. absurd (not_some e))

  -- and a directory handle
  pub closed_directory-stands : (p id : ℕ) → Stands stores (with_directory_slot handles p id None) (with_directory_handle fs p id None)
  closed_directory-stands p id = directory_slot-stands p id None (λ h e. absurd (not_some e))

  -- a file was opened
  pub opened-stands : (p id t : ℕ) (f : FileNode) (mode : OpenMode) (names : List Name) → file_path stores t f ≡ Some names
      → Stands stores (with_file_slot handles p id (Some (nodes.opened_file t f mode))) (with_file_handle fs p id (Some (record { tree = t; path = Some names; mode = mode; position = 0 })))
  opened-stands p id t f mode names e =
      let there : HoldsFile stores (nodes.opened_file t f mode) = λ g is. (names, (let same : f ≡ g = cc in ap (file_path stores t) (sym same) ∙ e)) in
      let P : Option (List Name) → Type 0
      = λ path. Stands stores (with_file_slot handles p id (Some (nodes.opened_file t f mode))) (with_file_handle fs p id (Some (record { tree = t; path = path; mode = mode; position = 0 }))) in
      subst P e (slot-stands p id (Some (nodes.opened_file t f mode)) (λ h is. let same : nodes.opened_file t f mode ≡ h = cc in subst (HoldsFile stores) same there))

  -- a directory was opened
  pub opened_directory-stands : (p id t : ℕ) (d : DirNode) (names : List Name) → directory_path stores t d ≡ Some names
      → Stands stores (with_directory_slot handles p id (Some (nodes.opened_directory t d))) (with_directory_handle fs p id (Some (record { tree = t; path = Some names; last = None })))
  opened_directory-stands p id t d names e =
      let there : HoldsDirectory stores (nodes.opened_directory t d) = λ g is. (names, (let same : d ≡ g = cc in ap (directory_path stores t) (sym same) ∙ e)) in
      let P : Option (List Name) → Type 0
      = λ path. Stands stores (with_directory_slot handles p id (Some (nodes.opened_directory t d))) (with_directory_handle fs p id (Some (record { tree = t; path = path; last = None }))) in
      subst P e (directory_slot-stands p id (Some (nodes.opened_directory t d)) (λ h is. let same : nodes.opened_directory t d ≡ h = cc in subst (HoldsDirectory stores) same there))

  -- a file handle was moved to a position
  pub moved-stands : (p id : ℕ) (h : FileHandle) (position : ℕ) → handle_at (handles_of handles p).files id ≡ Some h
      → Stands stores (with_file_slot handles p id (Some (record h { position = position }))) (with_position fs p id (opened_file stores h) position)
  moved-stands p id h position e =
      let new : FileHandle = record h { position = position } in
      let there : HoldsFile stores new = s.files p id h e in
      slot-stands p id (Some new) (λ k is. let same : new ≡ k = cc in subst (HoldsFile stores) same there)

  -- a directory handle gave another name last, or none
  pub last-stands : (p id : ℕ) (h : DirHandle) (last : Option Name) → handle_at (handles_of handles p).directories id ≡ Some h
      → Stands stores (with_directory_slot handles p id (Some (record h { last = last }))) (with_last fs p id (opened_directory stores h) last)
  last-stands p id h last e =
      let new : DirHandle = record h { last = last } in
      let there : HoldsDirectory stores new = s.directories p id h e in
      directory_slot-stands p id (Some new) (λ k is. let same : new ≡ k = cc in subst (HoldsDirectory stores) same there)

  -- all handles of a partition were closed
  pub all_closed-stands : (p : ℕ) → Stands stores (slice_set handles p none_open) (record { trees = fs.trees; handles = slice_set fs.handles p no_handles })
  all_closed-stands p = record {
    trees = s.trees;
    opened = ap (λ (hs : List Handles). slice_set hs p no_handles) s.opened ∙ sym (map-set (opened_handles stores) handles p none_open);
    files = λ q j h e. elim (one_of handles p q none_open none_open) [
      | inl same ↦ s.files q j h (ap (λ (hs : PartitionHandles). handle_at hs.files j) (sym same) ∙ e)
      | inr is ↦ absurd (none_open-at 24 j h (ap (λ (hs : PartitionHandles). handle_at hs.files j) (sym is) ∙ e))
    ];
    directories = λ q j h e. elim (one_of handles p q none_open none_open) [
      | inl same ↦ s.directories q j h (ap (λ (hs : PartitionHandles). handle_at hs.directories j) (sym same) ∙ e)
      | inr is ↦ absurd (none_open-at 8 j h (ap (λ (hs : PartitionHandles). handle_at hs.directories j) (sym is) ∙ e))
    ];
  }

-- ---- the limits of the table

limit_of : (rows : List TreeRow) (stores : List StoreValue) (t : ℕ) (of_row : TreeRow → ℕ) (of_store : StoreValue → ℕ) → of_store no_store ≡ 0
    → ((row : TreeRow) (v : StoreValue) → HasLimits row v → of_store v ≡ of_row row) → AllZip HasLimits rows stores
    → of_store (store_at stores t) ≡ option_map_or of_row (slice_get rows t) 0
limit_of [] [] t of_row of_store none same z = none
limit_of [] (v ∷ stores) t of_row of_store none same z = absurd z
limit_of (row ∷ rows) [] t of_row of_store none same z = absurd z
limit_of (row ∷ rows) (v ∷ stores) zero of_row of_store none same z = same row v z.0
limit_of (row ∷ rows) (v ∷ stores) (suc t) of_row of_store none same z = limit_of rows stores t of_row of_store none same z.1

limits_set : (rows : List TreeRow) (stores : List StoreValue) (t : ℕ) (v : StoreValue) → v.quota ≡ (store_at stores t).quota → length v.tree.files ≡ length (store_at stores t).tree.files
    → length v.tree.directories ≡ length (store_at stores t).tree.directories → AllZip HasLimits rows stores → AllZip HasLimits rows (slice_set stores t v)
limits_set rows [] t v quota files directories z = z
limits_set [] (w ∷ stores) t v quota files directories z = absurd z
limits_set (row ∷ rows) (w ∷ stores) zero v quota files directories z =
    (record { quota = quota ∙ z.0.quota; files = files ∙ z.0.files; directories = directories ∙ z.0.directories }, z.1)
limits_set (row ∷ rows) (w ∷ stores) (suc t) v quota files directories z = (z.0, limits_set rows stores t v quota files directories z.1)

module _ (table : Rows) (stores : List StoreValue) (handles : AllHandles) (o : IsOfTable table stores handles) where
  pub quota-is : (t : ℕ) → (store_at stores t).quota ≡ quota_of table t
  quota-is t = limit_of table.trees stores t (λ row. row.quota) (λ v. v.quota) refl (λ row v has. has.quota) o.limits

  pub file_limit-is : (t : ℕ) → length (store_at stores t).tree.files ≡ file_limit table t
  file_limit-is t = limit_of table.trees stores t (λ row. row.files) (λ v. length v.tree.files) refl (λ row v has. has.files) o.limits

  pub directory_limit-is : (t : ℕ) → length (store_at stores t).tree.directories ≡ directory_limit table t
  directory_limit-is t = limit_of table.trees stores t (λ row. row.directories) (λ v. length v.tree.directories) refl (λ row v has. has.directories) o.limits

  -- there are as many stores as trees of the table
  pub stores-long : length stores ≡ length table.trees
  stores-long = AllZip-long HasLimits table.trees stores o.limits

  -- with another store that has the same limits
  pub store-of_table : (t : ℕ) (v : StoreValue) → v.quota ≡ (store_at stores t).quota → length v.tree.files ≡ length (store_at stores t).tree.files
      → length v.tree.directories ≡ length (store_at stores t).tree.directories → IsOfTable table (slice_set stores t v) handles
  store-of_table t v quota files directories = record { limits = limits_set table.trees stores t v quota files directories o.limits; partitions = o.partitions }

  -- with the same names
  pub same_names-of_table : (t : ℕ) (v : StoreValue) → v.quota ≡ (store_at stores t).quota → v.tree ≡ (store_at stores t).tree → IsOfTable table (slice_set stores t v) handles
  same_names-of_table t v quota names =
      store-of_table t v quota (ap (λ (tree : TreeValue). length tree.files) names) (ap (λ (tree : TreeValue). length tree.directories) names)

  -- with another path, or none, at the entry of a file
  pub file_entry-of_table : (t : ℕ) (v : StoreValue) (f : ℕ) (o : Option (List Name)) → v.quota ≡ (store_at stores t).quota → v.tree.files ≡ slice_set (store_at stores t).tree.files f o
      → v.tree.directories ≡ (store_at stores t).tree.directories → IsOfTable table (slice_set stores t v) handles
  file_entry-of_table t v f o quota files directories = store-of_table t v quota (ap length files ∙ length-set (store_at stores t).tree.files f o) (ap length directories)

  -- and at that of a directory
  pub directory_entry-of_table : (t : ℕ) (v : StoreValue) (d : ℕ) (o : Option (List Name)) → v.quota ≡ (store_at stores t).quota → v.tree.directories ≡ slice_set (store_at stores t).tree.directories d o
      → v.tree.files ≡ (store_at stores t).tree.files → IsOfTable table (slice_set stores t v) handles
  directory_entry-of_table t v d o quota directories files = store-of_table t v quota (ap length files) (ap length directories ∙ length-set (store_at stores t).tree.directories d o)

  -- with as many other handles
  pub handles-of_table : (new : AllHandles) → length new ≡ length handles → IsOfTable table stores new
  handles-of_table new long = record { limits = o.limits; partitions = long ∙ o.partitions }

  pub set-of_table : (p : ℕ) (new : PartitionHandles) → IsOfTable table stores (slice_set handles p new)
  set-of_table p new = handles-of_table (slice_set handles p new) (length-set handles p new)

  pub map-of_table : (f : PartitionHandles → PartitionHandles) → IsOfTable table stores (map f handles)
  map-of_table f = handles-of_table (map f handles) (length-map handles f)
