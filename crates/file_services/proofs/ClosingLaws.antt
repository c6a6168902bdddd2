-- Closing files.
use Rattle.std.proofs.Common.{◌≡◌, ℕ, List, Some, None}
use Rattle.apex_types.specs.declared.codes.Errno.TheVariants.{Ebadf}
use Rattle.apex_types.specs.declared.fields.FileHandle.{FileHandle}
use Rattle.apex_types.specs.declared.replies.Values.TheVariants.{Empty}
use Rattle.apex_model.specs.FileStep.{close_file}
use Rattle.apex_model.specs.FileSystem.{with_file_handle}
use Rattle.apex_model.specs.Handles.{handle_at, with_slot}
use Rattle.apex_model.specs.Outcomes.{accepted, success, refusal}
use Rattle.open_handles.specs.NodeHandles.{AllHandles, handles_of, with_file_slot}
use Rattle.store_model.specs.Stores.{StoreValue}
use Rattle.store_model.proofs.Systems.{closed-stands, set-of_table}
use Rattle.store_model.proofs.SystemsWords.{on_file_handle-there, on_file_handle-absent}
use Rattle.service_parts.specs.Serving.{Serves}
use Rattle.service_parts.proofs.Served.{refused-served, accepted-served}

module _ (stores : List StoreValue) (handles : AllHandles) (p id : ℕ) where
  pub close-bad_id : handle_at (handles_of handles p).files id ≡ None → Serves (λ fs. close_file fs p id) stores handles stores handles (refusal Ebadf)
  unfolding close_file
  close-bad_id none = refused-served (λ fs. close_file fs p id) stores handles Ebadf
      (λ fs s. on_file_handle-absent stores handles fs s p id (λ handle. accepted (with_file_handle fs p id None) Empty) none)

  pub close-done : (h : FileHandle) → handle_at (handles_of handles p).files id ≡ Some h → Serves (λ fs. close_file fs p id) stores handles stores (with_file_slot handles p id None) (success Empty)
  unfolding close_file
  close-done h at = accepted-served (λ fs. close_file fs p id) stores handles stores (with_file_slot handles p id None) Empty
      (λ fs s. record {
        after = with_file_handle fs p id None;
        is = on_file_handle-there stores handles fs s p id h (λ handle. accepted (with_file_handle fs p id None) Empty) at;
        stands = closed-stands stores handles fs s p id;
      })
      (λ table o. set-of_table table stores handles o p (record { files = with_slot (handles_of handles p).files id None; directories = (handles_of handles p).directories }))
