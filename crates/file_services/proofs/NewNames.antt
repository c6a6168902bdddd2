-- The path of a new name, and the new file there in the words of the stored tree that makes it.
use Rattle.std.proofs.Common.{◌≡◌, ℕ, ◌-◌, ◌<◌, ◌≤◌, true, false, List, [], ◌∷◌, Option, Some, None, refl, sym, ◌∙◌, ap, subst, length, get_or, arith, zero, suc}
use Rattle.std.specs.Prelude.{IsSome, is_some, nat_le, slice_get, slice_set}
use Rattle.std.specs.Option.{option_map_or}
use Rattle.std.proofs.lemmas.Bool.Decides.{nat_tests}
use Rattle.apex_types.specs.Rows.{Rows}
use Rattle.apex_types.specs.declared.calls.OpenMode.TheVariants.{ReadWrite}
use Rattle.apex_types.specs.declared.codes.Errno.{Errno}
use Rattle.apex_types.specs.declared.codes.Errno.TheVariants.{Enospc}
use Rattle.apex_types.specs.declared.fields.Spot.TheVariants as spot
use Rattle.apex_types.specs.declared.numbers.DirNode.{DirNode}
use Rattle.apex_types.specs.declared.numbers.FileNode.{FileNode}
use Rattle.apex_types.specs.declared.replies.Reply.{Reply}
use Rattle.apex_types.specs.declared.replies.Values.TheVariants.{Number}
use Rattle.apex_types.specs.declared.rows.TreeRow.{TreeRow}
use Rattle.apex_model.specs.Handles.{free_from, least_free}
use Rattle.apex_model.specs.Outcomes.{success, refusal}
use Rattle.apex_model.specs.Trees.{Name, standing_at}
use Rattle.file_tree.specs.Entries.{TreeValue, path_in, way_of, with_file, IsSpotAt}
use Rattle.open_handles.specs.NodeHandles.{AllHandles, handles_of, with_file_slot}
use Rattle.open_handles.specs.Nodes as nodes
use Rattle.store_model.specs.Stores.{StoreValue, with_names}
use Rattle.store_model.specs.Systems.{IsOfTable, store_at}
use Rattle.store_model.proofs.Systems.{file_limit-is, stores-long}
use Rattle.tree_store.specs.Answers.{file_refusal, made_file}
use Rattle.service_parts.specs.Serving.{Serves}
use Rattle.service_parts.proofs.Served.{served-as}
use Rattle.file_services.proofs.FreePaths.{path-of-free}
use Rattle.file_services.proofs.MakingLaws.{make_step, make-none_free, make-done}

-- ---- the path of a new name

-- the directory is in use, the path has few names, and nothing stands there
pub directory-used : (v : TreeValue) (parent : DirNode) (names : List Name) → IsSpotAt v names (spot.Free parent) → IsSome (way_of v parent.0)
directory-used v parent names free = ap is_some free.0

pub path-shallow : (v : TreeValue) (parent : DirNode) (names : List Name) (name : Name) → IsSpotAt v names (spot.Free parent) → slice_get names (length names - 1) ≡ Some name → length names ≤ 6 → length (path_in v parent.0 name) ≤ 6
path-shallow v parent names name free last few = subst (λ (path : List Name). length path ≤ 6) (sym (path-of-free v names parent name free last)) few

pub path-free : (v : TreeValue) (parent : DirNode) (names : List Name) (name : Name) → IsSpotAt v names (spot.Free parent) → slice_get names (length names - 1) ≡ Some name → standing_at v.nodes (path_in v parent.0 name) ≡ None
path-free v parent names name free last = ap (standing_at v.nodes) (path-of-free v names parent name free last) ∙ free.1

-- ---- room for a file

limit_from : (rows : List TreeRow) (t : ℕ) (row : TreeRow) → t < length rows → row ≡ get_or rows t row → option_map_or (λ r. r.files) (slice_get rows t) 0 ≡ row.files
limit_from [] t row low is = absurd (omega arith)
limit_from (r ∷ rows) zero row low is = ap (λ (x : TreeRow). x.files) (sym is)
limit_from (r ∷ rows) (suc t) row low is = limit_from rows t row (omega arith) is

-- a store has as many entries for files as the row of its tree says
pub limit-row : (table : Rows) (stores : List StoreValue) (handles : AllHandles) (o : IsOfTable table stores handles) (t : ℕ) → t < length stores → (rows : List TreeRow) (row : TreeRow) → rows ≡ table.trees → row ≡ get_or rows t row
    → length (store_at stores t).tree.files ≡ row.files
limit-row table stores handles o t within rows row are is =
    let long = stores-long table stores handles o in
    let low : t < length table.trees = omega (arith, within, long) in
    file_limit-is table stores handles o t ∙ limit_from table.trees t row low (is ∙ ap (λ (rs : List TreeRow). get_or rs t row) are)

pub full-test : (a b limit files : ℕ) → a ≡ limit → files ≡ b → limit ≤ files → nat_le a b ≡ true
full-test a b limit files x y le = grind (arith, nat_tests)

pub room-test : (a b limit files : ℕ) → a ≡ limit → files ≡ b → files < limit → nat_le a b ≡ false
room-test a b limit files x y lt = grind (arith, nat_tests)

-- ---- what the store answers

file-found : StoreValue → List Name → Option ℕ → StoreValue
file-found v path None = v
file-found v path (Some f) = with_names v (with_file v.tree f path)

refused-by : Option ℕ → Option Errno
refused-by None = Some Enospc
refused-by (Some f) = None

full : (o : Option ℕ) (e : Errno) → refused-by o ≡ Some e → (o ≡ None) × (e ≡ Enospc)
unfolding refused-by
full None e is = (refl, let same : Enospc ≡ e = cc in sym same)
full (Some f) e is = absurd (let wrong : ◌≡◌ {A = Option Errno} None (Some e) = is in cc)

room : (o : Option ℕ) → refused-by o ≡ None → (f : ℕ) × (o ≡ Some f)
unfolding refused-by
room None is = absurd (let wrong : ◌≡◌ {A = Option Errno} (Some Enospc) None = is in cc)
room (Some f) is = (f, refl)

-- it is refused exactly where all entries for files are used
pub file-full : (v : StoreValue) (e : Errno) → file_refusal v ≡ Some e → (free_from 0 v.tree.files ≡ None) × (e ≡ Enospc)
unfolding refused-by
file-full v e refused = full (free_from 0 v.tree.files) e refused

pub file-room : (v : StoreValue) → file_refusal v ≡ None → (f : ℕ) × (free_from 0 v.tree.files ≡ Some f)
unfolding refused-by
file-room v fine = room (free_from 0 v.tree.files) fine

-- the word of the store is a new file at the path
made-is : (v : StoreValue) (parent : DirNode) (names : List Name) (name : Name) (f : ℕ) → IsSpotAt v.tree names (spot.Free parent) → slice_get names (length names - 1) ≡ Some name → free_from 0 v.tree.files ≡ Some f
    → made_file v parent.0 name ≡ with_names v (with_file v.tree f names)
unfolding file-found
made-is v parent names name f free last least =
    ap (file-found v (path_in v.tree parent.0 name)) least ∙ ap (λ (path : List Name). with_names v (with_file v.tree f path)) (path-of-free v.tree names parent name free last)

module _ (table : Rows) (stores : List StoreValue) (handles : AllHandles) (p t : ℕ) (names : List Name) (within : t < length stores) (o : IsOfTable table stores handles) (parent : DirNode)
    (free : IsSpotAt (store_at stores t).tree names (spot.Free parent)) where
  pub make-refused : (e : Errno) (told : Reply) → file_refusal (store_at stores t) ≡ Some e → told ≡ refusal e → Serves (make_step table p t names) stores handles stores handles told
  make-refused e told refused told_is =
      let full = file-full (store_at stores t) e refused in
      served-as (make_step table p t names) stores handles stores handles (refusal Enospc) stores handles told refl refl (told_is ∙ ap (λ (x : Errno). refusal x) full.1)
      (make-none_free table stores handles p t names within o parent free full.0)

  module _ (name : Name) (last : slice_get names (length names - 1) ≡ Some name) (few : length names ≤ 6) (long : length (store_at stores t).tree.stored ≡ length (store_at stores t).tree.files) where
    pub make-opened : (f : FileNode) (id : ℕ) → free_from 0 (store_at stores t).tree.files ≡ Some f.0 → least_free (handles_of handles p).files ≡ Some id
        → Serves (make_step table p t names) stores handles (slice_set stores t (made_file (store_at stores t) parent.0 name)) (with_file_slot handles p id (Some (nodes.opened_file t f ReadWrite))) (success (Number id))
    make-opened f id least number =
        make-done table stores handles p t names within o parent free f id (made_file (store_at stores t) parent.0 name) least few long (made-is (store_at stores t) parent names name f.0 free last least) number

    -- where nothing speaks against it
    pub make-serves : file_refusal (store_at stores t) ≡ None → (id : ℕ) → least_free (handles_of handles p).files ≡ Some id
        → (new_handles : AllHandles) × (told : Reply) × Serves (make_step table p t names) stores handles (slice_set stores t (made_file (store_at stores t) parent.0 name)) new_handles told
    make-serves fine id number =
        let f = file-room (store_at stores t) fine in
        let node : FileNode = record { 0 = f.0 } in
        (with_file_slot handles p id (Some (nodes.opened_file t node ReadWrite)), success (Number id), make-opened node id f.1 number)
