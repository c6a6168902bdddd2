-- Reading files, and their statuses.
use Rattle.std.proofs.Common.{◌≡◌, ℕ, ◌+◌, ◌-◌, ◌<◌, ◌≤◌, true, false, List, Some, None, sym, ◌∙◌, ap, arith, length, drop, min, length-drop, length-take}
use Rattle.std.specs.Prelude.{◌==◌, ◌||◌, nat_lt}
use Rattle.std.proofs.lemmas.Bool.Decides.{nat_tests}
use Rattle.apex_types.specs.declared.codes.Errno.TheVariants.{Ebadf, Estale, Einval}
use Rattle.apex_types.specs.declared.fields.FileHandle.{FileHandle}
use Rattle.apex_types.specs.declared.numbers.FileNode.{FileNode}
use Rattle.apex_types.specs.declared.replies.Values.TheVariants.{Read, FileStatus}
use Rattle.apex_model.specs.Files.{File, Content, size, change_count, read_at}
use Rattle.apex_model.specs.FileStep.{FileOutcome, get_file_status, read_file, with_position}
use Rattle.apex_model.specs.FileSystem.{FileSystem, on_file}
use Rattle.apex_model.specs.Handles.{OpenedFile, handle_at, with_slot}
use Rattle.apex_model.specs.Outcomes.{accepted, success, refusal, refuse_if}
use Rattle.apex_model.specs.Trees.{Name}
use Rattle.open_handles.specs.NodeHandles.{AllHandles, handles_of, with_file_slot}
use Rattle.store_model.specs.Stores.{StoreValue, kept_at}
use Rattle.store_model.specs.Systems.{Stands, store_at, opened_file}
use Rattle.store_model.proofs.Systems.{moved-stands, set-of_table}
use Rattle.store_model.proofs.SystemsWords.{on_file_handle-there, on_file_handle-absent, on_file-stale}
use Rattle.tree_store.specs.Calls.{AtTree}
use Rattle.tree_store.specs.Stored.{size_at}
use Rattle.tree_store.specs.declared.store.TreeStore.{TreeStore}
use Rattle.service_parts.specs.Serving.{AllOutline, Serves}
use Rattle.service_parts.proofs.Held.{outline_at, there}
use Rattle.service_parts.proofs.Served.{Goes, refused-served, accepted-served}
use Rattle.file_services.proofs.Held.{held-at, on_held}

-- what a status is made of
status_rest : FileSystem → OpenedFile → List Name → File → FileOutcome
status_rest fs handle names f = accepted fs (FileStatus (size f) handle.position (change_count f))

-- and what a read is
read_rest : FileSystem → ℕ → ℕ → ℕ → OpenedFile → List Name → File → FileOutcome
read_rest fs p id limit handle names f =
    refuse_if ((limit == 0) || nat_lt 4096 limit) Einval (accepted
    (with_position fs p id handle (handle.position + length (read_at f.content handle.position limit)))
    (Read (read_at f.content handle.position limit)))

module _ (stores : List StoreValue) (handles : AllHandles) (p id : ℕ) where
  pub status-bad_id : handle_at (handles_of handles p).files id ≡ None → Serves (λ fs. get_file_status fs p id) stores handles stores handles (refusal Ebadf)
  unfolding get_file_status status_rest
  status-bad_id none = refused-served (λ fs. get_file_status fs p id) stores handles Ebadf
      (λ fs s. on_file_handle-absent stores handles fs s p id (λ handle. on_file fs handle (status_rest fs handle)) none)

  pub status-stale : (h : FileHandle) → handle_at (handles_of handles p).files id ≡ Some h → h.file ≡ None → Serves (λ fs. get_file_status fs p id) stores handles stores handles (refusal Estale)
  unfolding get_file_status status_rest
  status-stale h at none = refused-served (λ fs. get_file_status fs p id) stores handles Estale
      (λ fs s. on_file_handle-there stores handles fs s p id h (λ handle. on_file fs handle (status_rest fs handle)) at
      ∙ on_file-stale stores handles fs s h (status_rest fs (opened_file stores h)) none)

  pub status-done : (h : FileHandle) (f : FileNode) (n m : ℕ) → handle_at (handles_of handles p).files id ≡ Some h → h.file ≡ Some f
      → n ≡ length (kept_at (store_at stores h.tree) f.0).content → m ≡ (kept_at (store_at stores h.tree) f.0).changes → Serves (λ fs. get_file_status fs p id) stores handles stores handles (success (FileStatus n h.position m))
  unfolding get_file_status status_rest
  status-done h f n m at is long often =
      accepted-served (λ fs. get_file_status fs p id) stores handles stores handles (FileStatus n h.position m)
      (λ fs s. let held = held-at stores handles p id h f at is fs s in record {
        after = fs;
        is = on_held stores handles p id h f at is fs s held (status_rest fs)
            ∙ (λ i. accepted fs (FileStatus ((sym (long ∙ ap length held.kept.content)) i) h.position ((sym (often ∙ held.kept.changes)) i)));
        stands = s;
      })
      (λ table o. o)

  pub read-bad_id : (limit : ℕ) → handle_at (handles_of handles p).files id ≡ None → Serves (λ fs. read_file fs p id limit) stores handles stores handles (refusal Ebadf)
  unfolding read_file read_rest
  read-bad_id limit none = refused-served (λ fs. read_file fs p id limit) stores handles Ebadf
      (λ fs s. on_file_handle-absent stores handles fs s p id (λ handle. on_file fs handle (read_rest fs p id limit handle)) none)

  pub read-stale : (limit : ℕ) (h : FileHandle) → handle_at (handles_of handles p).files id ≡ Some h → h.file ≡ None → Serves (λ fs. read_file fs p id limit) stores handles stores handles (refusal Estale)
  unfolding read_file read_rest
  read-stale limit h at none = refused-served (λ fs. read_file fs p id limit) stores handles Estale
      (λ fs s. on_file_handle-there stores handles fs s p id h (λ handle. on_file fs handle (read_rest fs p id limit handle)) at
      ∙ on_file-stale stores handles fs s h (read_rest fs p id limit (opened_file stores h)) none)

  -- too few or too many
  read-refused : (limit : ℕ) (h : FileHandle) (f : FileNode) → handle_at (handles_of handles p).files id ≡ Some h → h.file ≡ Some f → ((limit == 0) || nat_lt 4096 limit) ≡ true
      → Serves (λ fs. read_file fs p id limit) stores handles stores handles (refusal Einval)
  unfolding read_file read_rest
  read-refused limit h f at is test = refused-served (λ fs. read_file fs p id limit) stores handles Einval
      (λ fs s. let held = held-at stores handles p id h f at is fs s in
      on_held stores handles p id h f at is fs s held (read_rest fs p id limit)
      ∙ (λ i. refuse_if (test i) Einval (accepted
      (with_position fs p id (opened_file stores h) (h.position + length (read_at held.held.content h.position limit)))
      (Read (read_at held.held.content h.position limit)))))

  pub read-none : (limit : ℕ) (h : FileHandle) (f : FileNode) → handle_at (handles_of handles p).files id ≡ Some h → h.file ≡ Some f → limit ≡ 0
      → Serves (λ fs. read_file fs p id limit) stores handles stores handles (refusal Einval)
  read-none limit h f at is none = read-refused limit h f at is (grind (arith, nat_tests))

  pub read-many : (limit : ℕ) (h : FileHandle) (f : FileNode) → handle_at (handles_of handles p).files id ≡ Some h → h.file ≡ Some f → 4096 < limit
      → Serves (λ fs. read_file fs p id limit) stores handles stores handles (refusal Einval)
  read-many limit h f at is many = read-refused limit h f at is (grind (arith, nat_tests))

  pub read-goes : (limit : ℕ) (h : FileHandle) (f : FileNode) (bytes : Content) → handle_at (handles_of handles p).files id ≡ Some h → h.file ≡ Some f → 1 ≤ limit → limit ≤ 4096
      → bytes ≡ read_at (kept_at (store_at stores h.tree) f.0).content h.position limit → (fs : FileSystem) → Stands stores handles fs
      → Goes (λ fs. read_file fs p id limit) stores (with_file_slot handles p id (Some (record h { position = h.position + length bytes }))) (Read bytes) fs
  unfolding read_file read_rest
  read-goes limit h f bytes at is some few read fs s =
      let fine : ((limit == 0) || nat_lt 4096 limit) ≡ false = grind (arith, nat_tests) in
      let held = held-at stores handles p id h f at is fs s in
      let same : read_at held.held.content h.position limit ≡ bytes = ap (λ (content : Content). read_at content h.position limit) (sym held.kept.content) ∙ sym read in
      record {
        after = with_position fs p id (opened_file stores h) (h.position + length bytes);
        is = on_held stores handles p id h f at is fs s held (read_rest fs p id limit)
            ∙ (λ i. refuse_if (fine i) Einval (accepted (with_position fs p id (opened_file stores h) (h.position + length (same i))) (Read (same i))));
        stands = moved-stands stores handles fs s p id h (h.position + length bytes) at;
      }

  pub read-done : (limit : ℕ) (h : FileHandle) (f : FileNode) (bytes : Content) → handle_at (handles_of handles p).files id ≡ Some h → h.file ≡ Some f → 1 ≤ limit → limit ≤ 4096
      → bytes ≡ read_at (kept_at (store_at stores h.tree) f.0).content h.position limit
      → Serves (λ fs. read_file fs p id limit) stores handles stores (with_file_slot handles p id (Some (record h { position = h.position + length bytes }))) (success (Read bytes))
  read-done limit h f bytes at is some few read =
      accepted-served (λ fs. read_file fs p id limit) stores handles stores (with_file_slot handles p id (Some (record h { position = h.position + length bytes }))) (Read bytes)
      (read-goes limit h f bytes at is some few read)
      (λ table o. set-of_table table stores handles o p
      (record { files = with_slot (handles_of handles p).files id (Some (record h { position = h.position + length bytes })); directories = (handles_of handles p).directories }))

-- how many bytes a read gives, by the size that the tree tells
pub read-long : (trees : List TreeStore) (stores : List StoreValue) → AllOutline trees stores → (k : ℕ) → k < length trees → (f from limit n : ℕ) → AtTree trees k (λ store. n ≡ min limit (size_at store f - from))
    → n ≡ length (read_at (kept_at (store_at stores k) f).content from limit)
read-long trees stores all k within f from limit n told =
    let tree = there trees k within in
    let size = (outline_at trees stores all k tree.0 tree.1).sizes f in
    let content = (kept_at (store_at stores k) f).content in
    let count = told tree.0 tree.1 in
    let taken = length-take limit (drop from content) in
    let left = length-drop from content in
    omega (arith, size, count, taken, left)

-- no more than there is room for
pub read-few : (trees : List TreeStore) (k : ℕ) → k < length trees → (f from room n : ℕ) → AtTree trees k (λ store. n ≡ min room (size_at store f - from)) → n ≤ room
read-few trees k within f from room n told = let tree = there trees k within in let count = told tree.0 tree.1 in omega (arith, count)
