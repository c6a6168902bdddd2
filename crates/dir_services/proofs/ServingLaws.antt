-- What is served keeps a valid file system valid.
use Rattle.std.proofs.Common.{◌≡◌, ◌⊎◌, ⊎_elim, ℕ, Bool, true, false, List, Result, Ok, Err, OnOk, ap, ◌∙◌}
use Rattle.std.specs.Prelude.{not}
use Rattle.apex_types.specs.Rows.{Rows}
use Rattle.apex_types.specs.declared.calls.DirCall.{DirCall}
use Rattle.apex_types.specs.declared.codes.Errno.TheVariants.{Eperm}
use Rattle.apex_types.specs.declared.replies.Reply.{Reply}
use Rattle.apex_model.specs.Accepted.{IsAccepted}
use Rattle.apex_model.specs.DirectoryStep.{directory_service, directory_step}
use Rattle.apex_model.specs.FileSystem.{FileSystem}
use Rattle.apex_model.specs.Outcomes.{refuse, refuse_if, state_after}
use Rattle.model_laws.proofs.DirectoryCalls.{directory_call-valid}
use Rattle.open_handles.specs.NodeHandles.{AllHandles}
use Rattle.rig_core.specs.Outside.{Outside}
use Rattle.rig_core.specs.declared.source.DeviceFault.{DeviceFault}
use Rattle.service_parts.specs.Serving.{AreInService, IsServed}
use Rattle.service_parts.proofs.Held.{all_outlined}
use Rattle.tree_store.specs.Serving.{AreOfTable, AreServing, IsAnswered, IsUnread}
use Rattle.tree_store.specs.declared.store.TreeStore.{TreeStore}
use Rattle.dir_services.specs.Seen.{AreSeenServing}

-- the values that trees in service hold are seen to stand for a valid file system
pub seen_serving : (V : Type 0) (o : Outside) (trees : List TreeStore) (handles : AllHandles) → AreInService V o trees handles → AreSeenServing trees handles
seen_serving V o trees handles ready =
    let over = ready.serving.1 in
    (over.0, all_outlined V o trees over.0 over.1, ready.table, (ready.serving.0, over.2, ready.serving.2))

-- ---- whether the partition is ready for a call

pub not_ready : (table : Rows) (p : ℕ) (ready : Bool) (call : DirCall) → ready ≡ false → (fs : FileSystem) → directory_step table fs p ready call ≡ refuse Eperm
not_ready table p ready call is fs = ap (λ b. refuse_if (not b) Eperm (directory_service table fs p call)) is

pub is_ready : (table : Rows) (p : ℕ) (ready : Bool) (call : DirCall) → ready ≡ true → (fs : FileSystem) → directory_step table fs p ready call ≡ directory_service table fs p call
is_ready table p ready call is fs = ap (λ b. refuse_if (not b) Eperm (directory_service table fs p call)) is

-- ---- behind a call

module _ (V : Type 0) (o e : Outside) (table : Rows) (p : ℕ) (ready : Bool) (call : DirCall) (trees new_trees : List TreeStore) (handles new_handles : AllHandles) where
  -- no read fails in these calls
  serving-told : (told : Reply) → IsAccepted table → AreServing V o table trees handles
      → IsAnswered V (λ fs. directory_step table fs p ready call) trees new_trees handles new_handles o e told ⊎ IsUnread V ⊥ (λ fs. directory_step table fs p ready call) trees new_trees handles new_handles o e told
      → AreServing V e table new_trees new_handles
  serving-told told accepted serving known = ⊎_elim
      (λ answered. (state_after serving.0 (directory_step table serving.0 p ready call), (answered serving.0 serving.1).1, directory_call-valid table serving.0 p ready call accepted serving.2))
      (λ unread. absurd unread.cause) known

  pub serving-kept : (r : Result Reply DeviceFault) → IsAccepted table → AreServing V o table trees handles
      → IsServed V (λ fs. directory_step table fs p ready call) ⊥ 52 3 trees new_trees handles new_handles o e r → OnOk r (AreServing V e table new_trees new_handles)
  serving-kept (Ok told) accepted serving served = serving-told told accepted serving served.told
  serving-kept (Err fault) accepted serving served = tt

  pub of_table-kept : (r : Result Reply DeviceFault) → AreOfTable table trees handles → IsServed V (λ fs. directory_step table fs p ready call) ⊥ 52 3 trees new_trees handles new_handles o e r → AreOfTable table new_trees new_handles
  of_table-kept r of served = record { sites = served.sites ∙ of.sites; partitions = served.partitions ∙ of.partitions }
