-- What is served keeps a valid file system valid.
use Rattle.std.proofs.Common.{◌⊎◌, ⊎_elim, ℕ, Bool, List, Result, Ok, Err, OnOk, ◌∙◌}
use Rattle.apex_types.specs.Rows.{Rows}
use Rattle.apex_types.specs.declared.calls.FileCall.{FileCall}
use Rattle.apex_types.specs.declared.replies.Reply.{Reply}
use Rattle.apex_model.specs.Accepted.{IsAccepted}
use Rattle.apex_model.specs.FileStep.{file_step}
use Rattle.apex_model.specs.Outcomes.{state_after}
use Rattle.model_laws.proofs.FileCalls.{file_call-valid}
use Rattle.open_handles.specs.NodeHandles.{AllHandles}
use Rattle.rig_core.specs.Outside.{Outside}
use Rattle.rig_core.specs.declared.source.DeviceFault.{DeviceFault}
use Rattle.service_parts.specs.Serving.{IsServed}
use Rattle.tree_store.specs.Serving.{AreOfTable, AreServing, IsAnswered, IsUnread}
use Rattle.tree_store.specs.declared.store.TreeStore.{TreeStore}

module _ (V : Type 0) (o e : Outside) (table : Rows) (p : ℕ) (ready : Bool) (call : FileCall) (reads : Type 0) (trees new_trees : List TreeStore) (handles new_handles : AllHandles) where
  -- behind a failed read they stand for the file system of before
  serving-told : (told : Reply) → IsAccepted table → AreServing V o table trees handles
      → IsAnswered V (λ fs. file_step table fs p ready call) trees new_trees handles new_handles o e told ⊎ IsUnread V reads (λ fs. file_step table fs p ready call) trees new_trees handles new_handles o e told
      → AreServing V e table new_trees new_handles
  serving-told told accepted serving known = ⊎_elim
      (λ answered. (state_after serving.0 (file_step table serving.0 p ready call), (answered serving.0 serving.1).1, file_call-valid table serving.0 p ready call accepted serving.2))
      (λ unread. (serving.0, (unread.unchanged serving.0 serving.1).1, serving.2)) known

  pub serving-kept : (r : Result Reply DeviceFault) → IsAccepted table → AreServing V o table trees handles
      → IsServed V (λ fs. file_step table fs p ready call) reads 52 3 trees new_trees handles new_handles o e r → OnOk r (AreServing V e table new_trees new_handles)
  serving-kept (Ok told) accepted serving served = serving-told told accepted serving served.told
  serving-kept (Err fault) accepted serving served = tt

  pub of_table-kept : (r : Result Reply DeviceFault) → AreOfTable table trees handles → IsServed V (λ fs. file_step table fs p ready call) reads 52 3 trees new_trees handles new_handles o e r → AreOfTable table new_trees new_handles
  of_table-kept r of served = record { sites = served.sites ∙ of.sites; partitions = served.partitions ∙ of.partitions }
