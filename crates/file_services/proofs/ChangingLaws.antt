-- Changing files, and making sure of them.
use Rattle.std.proofs.Common.{◌≡◌, ℕ, ◌+◌, ◌-◌, ◌<◌, ◌≤◌, Bool, true, false, List, Option, Some, None, sym, ◌∙◌, ap, subst, arith, length, take, replicate, length-append, length-take}
use Rattle.std.specs.Prelude.{◌==◌, ◌||◌, nat_lt, not, min, slice_set}
use Rattle.std.proofs.lemmas.Bool.Decides.{nat_tests}
use Rattle.std.proofs.lemmas.List.{length-replicate}
use Rattle.apex_types.specs.Rows.{Rows}
use Rattle.apex_types.specs.declared.calls.OpenMode.{OpenMode}
use Rattle.apex_types.specs.declared.calls.OpenMode.TheVariants.{ReadOnly, ReadWrite}
use Rattle.apex_types.specs.declared.codes.Errno.{Errno}
use Rattle.apex_types.specs.declared.codes.Errno.TheVariants.{Ebadf, Eacces, Einval, Estale, Efbig, Enospc, Eoverflow}
use Rattle.apex_types.specs.declared.fields.FileHandle.{FileHandle}
use Rattle.apex_types.specs.declared.numbers.FileNode.{FileNode}
use Rattle.apex_types.specs.declared.replies.Values.{Values}
use Rattle.apex_types.specs.declared.replies.Values.TheVariants.{Empty, Number}
use Rattle.apex_model.specs.Files.{File, Content, changed, change_count, synchronised, written, resized}
use Rattle.apex_model.specs.FileStep.{FileOutcome, change, write_file, resize_file, sync_file, with_position}
use Rattle.apex_model.specs.FileSystem.{FileSystem, tree_in, with_tree, on_file}
use Rattle.apex_model.specs.Handles.{OpenedFile, handle_at, with_slot, may_write}
use Rattle.apex_model.specs.Outcomes.{accepted, success, refusal, refuse_if, refuse_for}
use Rattle.apex_model.specs.Trees.{Name, file, with_node, tree_charge}
use Rattle.open_handles.specs.NodeHandles.{AllHandles, handles_of, with_file_slot}
use Rattle.store_model.specs.Stores.{StoreValue, kept_at, change_refusal, changed_store, synchronised_store}
use Rattle.store_model.specs.Standing.{IsTree}
use Rattle.store_model.specs.Systems.{Stands, IsOfTable, store_at, opened_file}
use Rattle.store_model.proofs.Changes.{change-refused, change-within, changed-stands, synchronised-stands}
use Rattle.store_model.proofs.Systems.{quota-is, set-of_table}
use Rattle.store_model.proofs.SystemsSteps.{changed_file-stands, synchronised_file-stands, changed_file-of_table, synchronised_file-of_table}
use Rattle.store_model.proofs.SystemsWords.{on_file_handle-there, on_file_handle-absent, on_file-stale}
use Rattle.service_parts.specs.Serving.{Serves}
use Rattle.service_parts.proofs.Served.{Goes, refused-served, accepted-served}
use Rattle.file_services.proofs.Held.{Held, held-at}
use Rattle.store_model.proofs.SystemsWords.{on_file-there}

-- ---- what the services are made of

write_on : Rows → FileSystem → ℕ → ℕ → List ℕ → OpenedFile → List Name → File → FileOutcome
write_on table fs p id bytes handle names f = change table fs p id handle names f (written f.content handle.position bytes) (handle.position + length bytes) (Number (length bytes))

write_rest : Rows → FileSystem → ℕ → ℕ → List ℕ → OpenedFile → FileOutcome
write_rest table fs p id bytes handle = refuse_if (not (may_write handle.mode)) Eacces (
    refuse_if ((length bytes == 0) || nat_lt 4096 (length bytes)) Einval (on_file fs handle (write_on table fs p id bytes handle)))

resize_on : Rows → FileSystem → ℕ → ℕ → ℕ → OpenedFile → List Name → File → FileOutcome
resize_on table fs p id n handle names f = change table fs p id handle names f (resized f.content n) (min handle.position n) Empty

resize_rest : Rows → FileSystem → ℕ → ℕ → ℕ → OpenedFile → FileOutcome
resize_rest table fs p id n handle = refuse_if (not (may_write handle.mode)) Eacces (on_file fs handle (resize_on table fs p id n handle))

sync_on : FileSystem → OpenedFile → List Name → File → FileOutcome
sync_on fs handle names f = accepted (with_tree fs handle.tree (with_node (tree_in fs handle.tree) names (file (synchronised f)))) Empty

sync_rest : FileSystem → OpenedFile → FileOutcome
sync_rest fs handle = refuse_if (not (may_write handle.mode)) Eacces (on_file fs handle (sync_on fs handle))

-- a handle that only reads, and one that may write
readonly : (h : FileHandle) → h.mode ≡ ReadOnly → not (may_write h.mode) ≡ true
readonly h mode = ap (λ (m : OpenMode). not (may_write m)) mode

writes : (h : FileHandle) → h.mode ≡ ReadWrite → not (may_write h.mode) ≡ false
writes h mode = ap (λ (m : OpenMode). not (may_write m)) mode

-- ---- a change of a file

module _ (table : Rows) (stores : List StoreValue) (handles : AllHandles) (o : IsOfTable table stores handles) (p id : ℕ) (h : FileHandle) (f : FileNode) (at : handle_at (handles_of handles p).files id ≡ Some h) where
  -- a change comes to the refusal of the store, or to a state with it
  change-is : (fs : FileSystem) (held : Held stores fs h f) (content : Content) (position : ℕ) (values : Values)
      → change table fs p id (opened_file stores h) held.names held.held content position values
      ≡ refuse_for (change_refusal (store_at stores h.tree) f.0 (length content))
      (accepted (with_position (with_tree fs h.tree (with_node (tree_in fs h.tree) held.names (file (changed held.held content)))) p id (opened_file stores h) position) values)
  change-is fs held content position values =
      let done : FileOutcome = accepted (with_position (with_tree fs h.tree (with_node (tree_in fs h.tree) held.names (file (changed held.held content)))) p id (opened_file stores h) position) values in
      (λ i. refuse_if (nat_lt 1048576 (length content)) Efbig (
      refuse_if (nat_lt (sym (quota-is table stores handles o h.tree) i) (tree_charge (with_node (tree_in fs h.tree) held.names (file (changed held.held content))))) Enospc (
      refuse_if (change_count held.held == 4294967295) Eoverflow done)))
      ∙ change-refused (store_at stores h.tree) (tree_in fs h.tree) held.tree f.0 held.names held.held held.path held.stands content done

  -- one that isn't refused
  change-goes : (step : FileSystem → FileOutcome) (content : Content) (position : ℕ) (values : Values) (v : StoreValue) (fs : FileSystem) (s : Stands stores handles fs) (held : Held stores fs h f)
      → change_refusal (store_at stores h.tree) f.0 (length content) ≡ None → v ≡ changed_store (store_at stores h.tree) f.0 content
      → step fs ≡ change table fs p id (opened_file stores h) held.names held.held content position values
      → Goes step (slice_set stores h.tree v) (with_file_slot handles p id (Some (record h { position = position }))) values fs
  change-goes step content position values v fs s held fine is same =
      let tree = with_node (tree_in fs h.tree) held.names (file (changed held.held content)) in
      let done : FileOutcome = accepted (with_position (with_tree fs h.tree tree) p id (opened_file stores h) position) values in
      let stands_for = changed-stands (store_at stores h.tree) (tree_in fs h.tree) held.tree f.0 held.names held.held held.path held.stands content
      (change-within (store_at stores h.tree) f.0 (length content) fine) in
      let new_stands : IsTree v tree = subst (λ (w : StoreValue). IsTree w tree) (sym is) stands_for in
      record {
        after = with_position (with_tree fs h.tree tree) p id (opened_file stores h) position;
        is = same ∙ change-is fs held content position values ∙ ap (λ (o : Option Errno). refuse_for o done) fine;
        stands = changed_file-stands stores handles fs s h.tree v tree new_stands f.0 content is p id h position at;
      }

  change-of_table : (content : Content) (position : ℕ) (v : StoreValue) → v ≡ changed_store (store_at stores h.tree) f.0 content
      → (other : Rows) → IsOfTable other stores handles → IsOfTable other (slice_set stores h.tree v) (with_file_slot handles p id (Some (record h { position = position })))
  change-of_table content position v is other of =
      set-of_table other (slice_set stores h.tree v) handles (changed_file-of_table other stores handles of h.tree v f.0 content is) p
      (record { files = with_slot (handles_of handles p).files id (Some (record h { position = position })); directories = (handles_of handles p).directories })

-- ---- WRITE_FILE

module _ (table : Rows) (stores : List StoreValue) (handles : AllHandles) (p id : ℕ) (bytes : List ℕ) where
  pub write-bad_id : handle_at (handles_of handles p).files id ≡ None → Serves (λ fs. write_file table fs p id bytes) stores handles stores handles (refusal Ebadf)
  unfolding write_file write_rest write_on
  write-bad_id none = refused-served (λ fs. write_file table fs p id bytes) stores handles Ebadf
      (λ fs s. on_file_handle-absent stores handles fs s p id (write_rest table fs p id bytes) none)

  pub write-readonly : (h : FileHandle) → handle_at (handles_of handles p).files id ≡ Some h → h.mode ≡ ReadOnly → Serves (λ fs. write_file table fs p id bytes) stores handles stores handles (refusal Eacces)
  unfolding write_file write_rest write_on
  write-readonly h at mode = refused-served (λ fs. write_file table fs p id bytes) stores handles Eacces
      (λ fs s. on_file_handle-there stores handles fs s p id h (write_rest table fs p id bytes) at
      ∙ ap (λ (b : Bool). refuse_if b Eacces (
      refuse_if ((length bytes == 0) || nat_lt 4096 (length bytes)) Einval (on_file fs (opened_file stores h) (write_on table fs p id bytes (opened_file stores h))))) (readonly h mode))

  -- a write by a handle that may write
  write-mode : (h : FileHandle) → handle_at (handles_of handles p).files id ≡ Some h → h.mode ≡ ReadWrite → (fs : FileSystem) → Stands stores handles fs
      → write_file table fs p id bytes ≡ refuse_if ((length bytes == 0) || nat_lt 4096 (length bytes)) Einval (on_file fs (opened_file stores h) (write_on table fs p id bytes (opened_file stores h)))
  unfolding write_file write_rest write_on
  write-mode h at mode fs s =
      on_file_handle-there stores handles fs s p id h (write_rest table fs p id bytes) at
      ∙ ap (λ (b : Bool). refuse_if b Eacces (
      refuse_if ((length bytes == 0) || nat_lt 4096 (length bytes)) Einval (on_file fs (opened_file stores h) (write_on table fs p id bytes (opened_file stores h))))) (writes h mode)

  write-length : (h : FileHandle) → handle_at (handles_of handles p).files id ≡ Some h → h.mode ≡ ReadWrite → ((length bytes == 0) || nat_lt 4096 (length bytes)) ≡ true
      → Serves (λ fs. write_file table fs p id bytes) stores handles stores handles (refusal Einval)
  write-length h at mode test = refused-served (λ fs. write_file table fs p id bytes) stores handles Einval
      (λ fs s. write-mode h at mode fs s ∙ ap (λ (b : Bool). refuse_if b Einval (on_file fs (opened_file stores h) (write_on table fs p id bytes (opened_file stores h)))) test)

  pub write-empty : (h : FileHandle) → handle_at (handles_of handles p).files id ≡ Some h → h.mode ≡ ReadWrite → length bytes ≡ 0
      → Serves (λ fs. write_file table fs p id bytes) stores handles stores handles (refusal Einval)
  write-empty h at mode none = write-length h at mode (grind (arith, nat_tests))

  pub write-long : (h : FileHandle) → handle_at (handles_of handles p).files id ≡ Some h → h.mode ≡ ReadWrite → 4096 < length bytes
      → Serves (λ fs. write_file table fs p id bytes) stores handles stores handles (refusal Einval)
  write-long h at mode many = write-length h at mode (grind (arith, nat_tests))

  -- a write of so many bytes as may be
  write-fits : (h : FileHandle) → handle_at (handles_of handles p).files id ≡ Some h → h.mode ≡ ReadWrite → 1 ≤ length bytes → length bytes ≤ 4096 → (fs : FileSystem) → Stands stores handles fs
      → write_file table fs p id bytes ≡ on_file fs (opened_file stores h) (write_on table fs p id bytes (opened_file stores h))
  write-fits h at mode some few fs s =
      let fine : ((length bytes == 0) || nat_lt 4096 (length bytes)) ≡ false = grind (arith, nat_tests) in
      write-mode h at mode fs s ∙ ap (λ (b : Bool). refuse_if b Einval (on_file fs (opened_file stores h) (write_on table fs p id bytes (opened_file stores h)))) fine

  pub write-stale : (h : FileHandle) → handle_at (handles_of handles p).files id ≡ Some h → h.mode ≡ ReadWrite → 1 ≤ length bytes → length bytes ≤ 4096 → h.file ≡ None
      → Serves (λ fs. write_file table fs p id bytes) stores handles stores handles (refusal Estale)
  write-stale h at mode some few none = refused-served (λ fs. write_file table fs p id bytes) stores handles Estale
      (λ fs s. write-fits h at mode some few fs s ∙ on_file-stale stores handles fs s h (write_on table fs p id bytes (opened_file stores h)) none)

  -- a write of a file that is there
  write-change : (h : FileHandle) (f : FileNode) → handle_at (handles_of handles p).files id ≡ Some h → h.file ≡ Some f → h.mode ≡ ReadWrite → 1 ≤ length bytes → length bytes ≤ 4096
      → (fs : FileSystem) (s : Stands stores handles fs) (held : Held stores fs h f)
      → write_file table fs p id bytes ≡ change table fs p id (opened_file stores h) held.names held.held (written (kept_at (store_at stores h.tree) f.0).content h.position bytes) (h.position + length bytes) (Number (length bytes))
  unfolding write_on
  write-change h f at is mode some few fs s held =
      write-fits h at mode some few fs s
      ∙ on_file-there stores handles fs s h held.names held.held (write_on table fs p id bytes (opened_file stores h)) held.opened held.stands
      ∙ ap (λ (content : Content). change table fs p id (opened_file stores h) held.names held.held (written content h.position bytes) (h.position + length bytes) (Number (length bytes))) (sym held.kept.content)

  pub write-refused : (o : IsOfTable table stores handles) (h : FileHandle) (f : FileNode) (e : Errno) → handle_at (handles_of handles p).files id ≡ Some h → h.file ≡ Some f → h.mode ≡ ReadWrite
      → 1 ≤ length bytes → length bytes ≤ 4096 → change_refusal (store_at stores h.tree) f.0 (length (written (kept_at (store_at stores h.tree) f.0).content h.position bytes)) ≡ Some e
      → Serves (λ fs. write_file table fs p id bytes) stores handles stores handles (refusal e)
  write-refused o h f e at is mode some few refused = refused-served (λ fs. write_file table fs p id bytes) stores handles e
      (λ fs s. let held = held-at stores handles p id h f at is fs s in
      let content = written (kept_at (store_at stores h.tree) f.0).content h.position bytes in
      let done : FileOutcome = accepted (with_position (with_tree fs h.tree (with_node (tree_in fs h.tree) held.names (file (changed held.held content)))) p id (opened_file stores h) (h.position + length bytes)) (Number (length bytes)) in
      write-change h f at is mode some few fs s held
      ∙ change-is table stores handles o p id h f at fs held content (h.position + length bytes) (Number (length bytes))
      ∙ ap (λ (o : Option Errno). refuse_for o done) refused)

  pub write-goes : (o : IsOfTable table stores handles) (h : FileHandle) (f : FileNode) (v : StoreValue) → handle_at (handles_of handles p).files id ≡ Some h → h.file ≡ Some f → h.mode ≡ ReadWrite
      → 1 ≤ length bytes → length bytes ≤ 4096 → change_refusal (store_at stores h.tree) f.0 (length (written (kept_at (store_at stores h.tree) f.0).content h.position bytes)) ≡ None
      → v ≡ changed_store (store_at stores h.tree) f.0 (written (kept_at (store_at stores h.tree) f.0).content h.position bytes) → (fs : FileSystem) → Stands stores handles fs
      → Goes (λ fs. write_file table fs p id bytes) (slice_set stores h.tree v) (with_file_slot handles p id (Some (record h { position = h.position + length bytes }))) (Number (length bytes)) fs
  write-goes o h f v at is mode some few fine new fs s =
      let content = written (kept_at (store_at stores h.tree) f.0).content h.position bytes in
      let held = held-at stores handles p id h f at is fs s in
      change-goes table stores handles o p id h f at (λ fs. write_file table fs p id bytes) content (h.position + length bytes) (Number (length bytes)) v fs s held fine new
      (write-change h f at is mode some few fs s held)

  pub write-done : (o : IsOfTable table stores handles) (h : FileHandle) (f : FileNode) (v : StoreValue) → handle_at (handles_of handles p).files id ≡ Some h → h.file ≡ Some f → h.mode ≡ ReadWrite
      → 1 ≤ length bytes → length bytes ≤ 4096 → change_refusal (store_at stores h.tree) f.0 (length (written (kept_at (store_at stores h.tree) f.0).content h.position bytes)) ≡ None
      → v ≡ changed_store (store_at stores h.tree) f.0 (written (kept_at (store_at stores h.tree) f.0).content h.position bytes)
      → Serves (λ fs. write_file table fs p id bytes) stores handles (slice_set stores h.tree v) (with_file_slot handles p id (Some (record h { position = h.position + length bytes }))) (success (Number (length bytes)))
  write-done o h f v at is mode some few fine new =
      accepted-served (λ fs. write_file table fs p id bytes) stores handles (slice_set stores h.tree v) (with_file_slot handles p id (Some (record h { position = h.position + length bytes }))) (Number (length bytes))
      (write-goes o h f v at is mode some few fine new)
      (change-of_table table stores handles o p id h f at (written (kept_at (store_at stores h.tree) f.0).content h.position bytes) (h.position + length bytes) v new)

-- ---- RESIZE_FILE

length-resized : (content : Content) (n : ℕ) → length (resized content n) ≡ n
length-resized content n =
    let filled = length-append (take n content) (replicate (n - length content) 0) in
    let few = length-take n content in
    let zeros = length-replicate {A = ℕ} (n - length content) 0 in
    omega (arith, filled, few, zeros)

module _ (table : Rows) (stores : List StoreValue) (handles : AllHandles) (p id n : ℕ) where
  pub resize-bad_id : handle_at (handles_of handles p).files id ≡ None → Serves (λ fs. resize_file table fs p id n) stores handles stores handles (refusal Ebadf)
  unfolding resize_file resize_rest resize_on
  resize-bad_id none = refused-served (λ fs. resize_file table fs p id n) stores handles Ebadf
      (λ fs s. on_file_handle-absent stores handles fs s p id (resize_rest table fs p id n) none)

  pub resize-readonly : (h : FileHandle) → handle_at (handles_of handles p).files id ≡ Some h → h.mode ≡ ReadOnly → Serves (λ fs. resize_file table fs p id n) stores handles stores handles (refusal Eacces)
  unfolding resize_file resize_rest resize_on
  resize-readonly h at mode = refused-served (λ fs. resize_file table fs p id n) stores handles Eacces
      (λ fs s. on_file_handle-there stores handles fs s p id h (resize_rest table fs p id n) at
      ∙ ap (λ (b : Bool). refuse_if b Eacces (on_file fs (opened_file stores h) (resize_on table fs p id n (opened_file stores h)))) (readonly h mode))

  -- a resize by a handle that may write
  resize-mode : (h : FileHandle) → handle_at (handles_of handles p).files id ≡ Some h → h.mode ≡ ReadWrite → (fs : FileSystem) → Stands stores handles fs
      → resize_file table fs p id n ≡ on_file fs (opened_file stores h) (resize_on table fs p id n (opened_file stores h))
  unfolding resize_file resize_rest resize_on
  resize-mode h at mode fs s =
      on_file_handle-there stores handles fs s p id h (resize_rest table fs p id n) at
      ∙ ap (λ (b : Bool). refuse_if b Eacces (on_file fs (opened_file stores h) (resize_on table fs p id n (opened_file stores h)))) (writes h mode)

  pub resize-stale : (h : FileHandle) → handle_at (handles_of handles p).files id ≡ Some h → h.mode ≡ ReadWrite → h.file ≡ None
      → Serves (λ fs. resize_file table fs p id n) stores handles stores handles (refusal Estale)
  resize-stale h at mode none = refused-served (λ fs. resize_file table fs p id n) stores handles Estale
      (λ fs s. resize-mode h at mode fs s ∙ on_file-stale stores handles fs s h (resize_on table fs p id n (opened_file stores h)) none)

  -- a resize of a file that is there
  resize-change : (h : FileHandle) (f : FileNode) → handle_at (handles_of handles p).files id ≡ Some h → h.file ≡ Some f → h.mode ≡ ReadWrite
      → (fs : FileSystem) (s : Stands stores handles fs) (held : Held stores fs h f)
      → resize_file table fs p id n ≡ change table fs p id (opened_file stores h) held.names held.held (resized (kept_at (store_at stores h.tree) f.0).content n) (min h.position n) Empty
  unfolding resize_on
  resize-change h f at is mode fs s held =
      resize-mode h at mode fs s
      ∙ on_file-there stores handles fs s h held.names held.held (resize_on table fs p id n (opened_file stores h)) held.opened held.stands
      ∙ ap (λ (content : Content). change table fs p id (opened_file stores h) held.names held.held (resized content n) (min h.position n) Empty) (sym held.kept.content)

  -- a content that is cut or filled up to a size has that size
  resized-fine : (h : FileHandle) (f : FileNode) (o : Option Errno) → change_refusal (store_at stores h.tree) f.0 n ≡ o → change_refusal (store_at stores h.tree) f.0 (length (resized (kept_at (store_at stores h.tree) f.0).content n)) ≡ o
  resized-fine h f o fine = ap (change_refusal (store_at stores h.tree) f.0) (length-resized (kept_at (store_at stores h.tree) f.0).content n) ∙ fine

  pub resize-refused : (o : IsOfTable table stores handles) (h : FileHandle) (f : FileNode) (e : Errno) → handle_at (handles_of handles p).files id ≡ Some h → h.file ≡ Some f → h.mode ≡ ReadWrite
      → change_refusal (store_at stores h.tree) f.0 n ≡ Some e → Serves (λ fs. resize_file table fs p id n) stores handles stores handles (refusal e)
  resize-refused o h f e at is mode refused = refused-served (λ fs. resize_file table fs p id n) stores handles e
      (λ fs s. let held = held-at stores handles p id h f at is fs s in
      let content = resized (kept_at (store_at stores h.tree) f.0).content n in
      let done : FileOutcome = accepted (with_position (with_tree fs h.tree (with_node (tree_in fs h.tree) held.names (file (changed held.held content)))) p id (opened_file stores h) (min h.position n)) Empty in
      resize-change h f at is mode fs s held
      ∙ change-is table stores handles o p id h f at fs held content (min h.position n) Empty
      ∙ ap (λ (o : Option Errno). refuse_for o done) (resized-fine h f (Some e) refused))

  pub resize-goes : (o : IsOfTable table stores handles) (h : FileHandle) (f : FileNode) (v : StoreValue) → handle_at (handles_of handles p).files id ≡ Some h → h.file ≡ Some f → h.mode ≡ ReadWrite
      → change_refusal (store_at stores h.tree) f.0 n ≡ None → v ≡ changed_store (store_at stores h.tree) f.0 (resized (kept_at (store_at stores h.tree) f.0).content n) → (fs : FileSystem) → Stands stores handles fs
      → Goes (λ fs. resize_file table fs p id n) (slice_set stores h.tree v) (with_file_slot handles p id (Some (record h { position = min h.position n }))) Empty fs
  resize-goes o h f v at is mode fine new fs s =
      let content = resized (kept_at (store_at stores h.tree) f.0).content n in
      let held = held-at stores handles p id h f at is fs s in
      change-goes table stores handles o p id h f at (λ fs. resize_file table fs p id n) content (min h.position n) Empty v fs s held (resized-fine h f None fine) new (resize-change h f at is mode fs s held)

  pub resize-done : (o : IsOfTable table stores handles) (h : FileHandle) (f : FileNode) (v : StoreValue) → handle_at (handles_of handles p).files id ≡ Some h → h.file ≡ Some f → h.mode ≡ ReadWrite
      → change_refusal (store_at stores h.tree) f.0 n ≡ None → v ≡ changed_store (store_at stores h.tree) f.0 (resized (kept_at (store_at stores h.tree) f.0).content n)
      → Serves (λ fs. resize_file table fs p id n) stores handles (slice_set stores h.tree v) (with_file_slot handles p id (Some (record h { position = min h.position n }))) (success Empty)
  resize-done o h f v at is mode fine new =
      accepted-served (λ fs. resize_file table fs p id n) stores handles (slice_set stores h.tree v) (with_file_slot handles p id (Some (record h { position = min h.position n }))) Empty
      (resize-goes o h f v at is mode fine new)
      (change-of_table table stores handles o p id h f at (resized (kept_at (store_at stores h.tree) f.0).content n) (min h.position n) v new)

-- ---- SYNC_FILE

module _ (stores : List StoreValue) (handles : AllHandles) (p id : ℕ) where
  pub sync-bad_id : handle_at (handles_of handles p).files id ≡ None → Serves (λ fs. sync_file fs p id) stores handles stores handles (refusal Ebadf)
  unfolding sync_file sync_rest sync_on
  sync-bad_id none = refused-served (λ fs. sync_file fs p id) stores handles Ebadf
      (λ fs s. on_file_handle-absent stores handles fs s p id (sync_rest fs) none)

  pub sync-readonly : (h : FileHandle) → handle_at (handles_of handles p).files id ≡ Some h → h.mode ≡ ReadOnly → Serves (λ fs. sync_file fs p id) stores handles stores handles (refusal Eacces)
  unfolding sync_file sync_rest sync_on
  sync-readonly h at mode = refused-served (λ fs. sync_file fs p id) stores handles Eacces
      (λ fs s. on_file_handle-there stores handles fs s p id h (sync_rest fs) at
      ∙ ap (λ (b : Bool). refuse_if b Eacces (on_file fs (opened_file stores h) (sync_on fs (opened_file stores h)))) (readonly h mode))

  -- a sync by a handle that may write
  sync-mode : (h : FileHandle) → handle_at (handles_of handles p).files id ≡ Some h → h.mode ≡ ReadWrite → (fs : FileSystem) → Stands stores handles fs
      → sync_file fs p id ≡ on_file fs (opened_file stores h) (sync_on fs (opened_file stores h))
  unfolding sync_file sync_rest sync_on
  sync-mode h at mode fs s =
      on_file_handle-there stores handles fs s p id h (sync_rest fs) at
      ∙ ap (λ (b : Bool). refuse_if b Eacces (on_file fs (opened_file stores h) (sync_on fs (opened_file stores h)))) (writes h mode)

  pub sync-stale : (h : FileHandle) → handle_at (handles_of handles p).files id ≡ Some h → h.mode ≡ ReadWrite → h.file ≡ None → Serves (λ fs. sync_file fs p id) stores handles stores handles (refusal Estale)
  sync-stale h at mode none = refused-served (λ fs. sync_file fs p id) stores handles Estale
      (λ fs s. sync-mode h at mode fs s ∙ on_file-stale stores handles fs s h (sync_on fs (opened_file stores h)) none)

  pub sync-done : (h : FileHandle) (f : FileNode) (v : StoreValue) → handle_at (handles_of handles p).files id ≡ Some h → h.file ≡ Some f → h.mode ≡ ReadWrite → v ≡ synchronised_store (store_at stores h.tree) f.0
      → Serves (λ fs. sync_file fs p id) stores handles (slice_set stores h.tree v) handles (success Empty)
  unfolding sync_on
  sync-done h f v at is mode new = accepted-served (λ fs. sync_file fs p id) stores handles (slice_set stores h.tree v) handles Empty
      (λ fs s. let held = held-at stores handles p id h f at is fs s in
      let tree = with_node (tree_in fs h.tree) held.names (file (synchronised held.held)) in
      let stands_for = synchronised-stands (store_at stores h.tree) (tree_in fs h.tree) held.tree f.0 held.names held.held held.path held.stands in
      let new_stands : IsTree v tree = subst (λ (w : StoreValue). IsTree w tree) (sym new) stands_for in
      record {
        after = with_tree fs h.tree tree;
        is = sync-mode h at mode fs s ∙ on_file-there stores handles fs s h held.names held.held (sync_on fs (opened_file stores h)) held.opened held.stands;
        stands = synchronised_file-stands stores handles fs s h.tree v tree new_stands f.0 new;
      })
      (λ table o. synchronised_file-of_table table stores handles o h.tree v f.0 new)
