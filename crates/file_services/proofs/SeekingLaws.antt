-- Moving handles within files.
use Rattle.std.proofs.Common.{◌≡◌, ℕ, List, Option, Some, None, sym, ◌∙◌, ap, length}
use Rattle.std.specs.Prelude.{ℤ, pos, ◌+ℤ◌}
use Rattle.apex_types.specs.declared.calls.Whence.{Whence}
use Rattle.apex_types.specs.declared.codes.Errno.TheVariants.{Ebadf, Estale, Einval}
use Rattle.apex_types.specs.declared.fields.FileHandle.{FileHandle}
use Rattle.apex_types.specs.declared.numbers.FileNode.{FileNode}
use Rattle.apex_types.specs.declared.replies.Values.TheVariants.{Number}
use Rattle.apex_model.specs.Files.{File, size}
use Rattle.apex_model.specs.FileStep.{FileOutcome, seek_file, base, within_size, with_position}
use Rattle.apex_model.specs.FileSystem.{FileSystem, given, on_file}
use Rattle.apex_model.specs.Handles.{OpenedFile, handle_at, with_slot}
use Rattle.apex_model.specs.Outcomes.{accepted, success, refusal}
use Rattle.apex_model.specs.Trees.{Name}
use Rattle.open_handles.specs.NodeHandles.{AllHandles, handles_of, with_file_slot}
use Rattle.store_model.specs.Stores.{StoreValue, kept_at}
use Rattle.store_model.specs.Systems.{Stands, store_at, opened_file}
use Rattle.store_model.proofs.Systems.{moved-stands, set-of_table}
use Rattle.store_model.proofs.SystemsWords.{on_file_handle-there, on_file_handle-absent, on_file-stale}
use Rattle.service_parts.specs.Serving.{Serves}
use Rattle.service_parts.proofs.Served.{refused-served, accepted-served}
use Rattle.file_services.proofs.Held.{held-at, on_held}

seek_to : FileSystem → ℕ → ℕ → OpenedFile → ℕ → FileOutcome
seek_to fs p id handle target = accepted (with_position fs p id handle target) (Number target)

-- what a seek is made of
seek_rest : FileSystem → ℕ → ℕ → ℤ → Whence → OpenedFile → List Name → File → FileOutcome
seek_rest fs p id offset whence handle names f =
    given (within_size (size f) (offset +ℤ pos (base whence handle.position (size f)))) Einval (seek_to fs p id handle)

module _ (stores : List StoreValue) (handles : AllHandles) (p id : ℕ) (offset : ℤ) (whence : Whence) where
  pub seek-bad_id : handle_at (handles_of handles p).files id ≡ None → Serves (λ fs. seek_file fs p id offset whence) stores handles stores handles (refusal Ebadf)
  unfolding seek_file seek_rest seek_to
  seek-bad_id none = refused-served (λ fs. seek_file fs p id offset whence) stores handles Ebadf
      (λ fs s. on_file_handle-absent stores handles fs s p id (λ handle. on_file fs handle (seek_rest fs p id offset whence handle)) none)

  pub seek-stale : (h : FileHandle) → handle_at (handles_of handles p).files id ≡ Some h → h.file ≡ None → Serves (λ fs. seek_file fs p id offset whence) stores handles stores handles (refusal Estale)
  unfolding seek_file seek_rest seek_to
  seek-stale h at none = refused-served (λ fs. seek_file fs p id offset whence) stores handles Estale
      (λ fs s. on_file_handle-there stores handles fs s p id h (λ handle. on_file fs handle (seek_rest fs p id offset whence handle)) at
      ∙ on_file-stale stores handles fs s h (seek_rest fs p id offset whence (opened_file stores h)) none)

  -- what a seek comes to, by the size that is kept
  seek-rest : (h : FileHandle) (f : FileNode) (n : ℕ) (o : Option ℕ) → handle_at (handles_of handles p).files id ≡ Some h → h.file ≡ Some f
      → n ≡ length (kept_at (store_at stores h.tree) f.0).content → within_size n (offset +ℤ pos (base whence h.position n)) ≡ o
      → (fs : FileSystem) → Stands stores handles fs → seek_file fs p id offset whence ≡ given o Einval (seek_to fs p id (opened_file stores h))
  unfolding seek_file seek_rest seek_to
  seek-rest h f n o at is sized target fs s =
      let held = held-at stores handles p id h f at is fs s in
      let same : size held.held ≡ n = sym (sized ∙ ap length held.kept.content) in
      on_held stores handles p id h f at is fs s held (seek_rest fs p id offset whence)
      ∙ (λ i. given (within_size (same i) (offset +ℤ pos (base whence h.position (same i)))) Einval (seek_to fs p id (opened_file stores h)))
      ∙ ap (λ (o : Option ℕ). given o Einval (seek_to fs p id (opened_file stores h))) target

  pub seek-outside : (h : FileHandle) (f : FileNode) (n : ℕ) → handle_at (handles_of handles p).files id ≡ Some h → h.file ≡ Some f
      → n ≡ length (kept_at (store_at stores h.tree) f.0).content → within_size n (offset +ℤ pos (base whence h.position n)) ≡ None
      → Serves (λ fs. seek_file fs p id offset whence) stores handles stores handles (refusal Einval)
  seek-outside h f n at is sized none = refused-served (λ fs. seek_file fs p id offset whence) stores handles Einval (seek-rest h f n None at is sized none)

  pub seek-done : (h : FileHandle) (f : FileNode) (n target : ℕ) → handle_at (handles_of handles p).files id ≡ Some h → h.file ≡ Some f
      → n ≡ length (kept_at (store_at stores h.tree) f.0).content → within_size n (offset +ℤ pos (base whence h.position n)) ≡ Some target
      → Serves (λ fs. seek_file fs p id offset whence) stores handles stores (with_file_slot handles p id (Some (record h { position = target }))) (success (Number target))
  unfolding seek_to
  seek-done h f n target at is sized found =
      accepted-served (λ fs. seek_file fs p id offset whence) stores handles stores (with_file_slot handles p id (Some (record h { position = target }))) (Number target)
      (λ fs s. record {
        after = with_position fs p id (opened_file stores h) target;
        is = seek-rest h f n (Some target) at is sized found fs s;
        stands = moved-stands stores handles fs s p id h target at;
      })
      (λ table o. set-of_table table stores handles o p
      (record { files = with_slot (handles_of handles p).files id (Some (record h { position = target })); directories = (handles_of handles p).directories }))
