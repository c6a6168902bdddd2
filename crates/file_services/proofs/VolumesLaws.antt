-- The statuses of volumes.
use Rattle.std.proofs.Common.{◌≡◌, ℕ, ◌<◌, Bool, true, false, List, [], ◌∷◌, Option, Some, refl, sym, ◌∙◌, ap, length, suc, arith, get_or}
use Rattle.std.specs.Prelude.{not, Ok, Err, slice_get}
use Rattle.std.specs.Option.{option_map_or}
use Rattle.std.proofs.lemmas.Option.{slice_get-get_or}
use Rattle.apex_types.specs.declared.rows.TreeRow.{TreeRow}
use Rattle.apex_types.specs.Rows.{Rows}
use Rattle.apex_types.specs.declared.codes.Errno.{Errno}
use Rattle.apex_types.specs.declared.codes.Errno.TheVariants.{Einval}
use Rattle.apex_types.specs.declared.replies.Values.TheVariants.{VolumeStatus}
use Rattle.apex_model.specs.FileStep.{FileOutcome, get_volume_status, is_empty}
use Rattle.apex_model.specs.FileSystem.{FileSystem, tree_in, quota_of}
use Rattle.apex_model.specs.Outcomes.{accepted, success, refusal, refuse_if}
use Rattle.apex_model.specs.Tables.{Place, owner_or_reader, place_of}
use Rattle.apex_model.specs.Trees.{Name, file_count, tree_charge}
use Rattle.open_handles.specs.NodeHandles.{AllHandles}
use Rattle.store_model.specs.Stores.{StoreValue, total}
use Rattle.store_model.specs.Systems.{store_at}
use Rattle.store_model.proofs.Names.{file_count-same}
use Rattle.store_model.proofs.Systems.{store-there}
use Rattle.service_parts.specs.Serving.{Serves}
use Rattle.service_parts.proofs.PathWords.{at_place-err, at_place-ok}
use Rattle.service_parts.proofs.Served.{refused-served, accepted-served}

-- what a status is made of
volume_rest : Rows → FileSystem → Place → FileOutcome
volume_rest table fs place =
    refuse_if (not (is_empty place.names)) Einval (accepted fs (VolumeStatus (quota_of table place.tree) (tree_charge (tree_in fs place.tree)) (file_count (tree_in fs place.tree))))

below-root : (names : List Name) (n : ℕ) → n ≡ length names → (n ≡ 0 → ⊥) → not (is_empty names) ≡ true
below-root [] n long some = absurd (some long)
below-root (name ∷ names) n long some = refl

at-root : (names : List Name) (n : ℕ) → n ≡ length names → n ≡ 0 → not (is_empty names) ≡ false
at-root [] n long none = refl
at-root (name ∷ names) n long none = absurd (let w : 0 ≡ suc (length names) = sym none ∙ long in omega arith)

module _ (table : Rows) (stores : List StoreValue) (handles : AllHandles) (p : ℕ) (path : List ℕ) where
  pub volume-err : (e : Errno) → place_of table owner_or_reader p path ≡ Err e → Serves (λ fs. get_volume_status table fs p path) stores handles stores handles (refusal e)
  unfolding get_volume_status volume_rest
  volume-err e is = refused-served (λ fs. get_volume_status table fs p path) stores handles e (λ fs s. at_place-err table owner_or_reader p path e (volume_rest table fs) is)

  pub volume-below : (place : Place) (n : ℕ) → place_of table owner_or_reader p path ≡ Ok place → n ≡ length place.names → (n ≡ 0 → ⊥) → Serves (λ fs. get_volume_status table fs p path) stores handles stores handles (refusal Einval)
  unfolding get_volume_status volume_rest
  volume-below place n is long some = refused-served (λ fs. get_volume_status table fs p path) stores handles Einval
      (λ fs s. at_place-ok table owner_or_reader p path place (volume_rest table fs) is
      ∙ ap (λ (b : Bool). refuse_if b Einval (accepted fs (VolumeStatus (quota_of table place.tree) (tree_charge (tree_in fs place.tree)) (file_count (tree_in fs place.tree))))) (below-root place.names n long some))

  pub volume-done : (place : Place) (n quota charge files : ℕ) → place_of table owner_or_reader p path ≡ Ok place → n ≡ length place.names → n ≡ 0 → place.tree < length stores
      → quota ≡ quota_of table place.tree → charge ≡ total (store_at stores place.tree).charges → files ≡ file_count (store_at stores place.tree).tree.nodes
      → Serves (λ fs. get_volume_status table fs p path) stores handles stores handles (success (VolumeStatus quota charge files))
  unfolding get_volume_status volume_rest
  volume-done place n quota charge files is long none within q c k = accepted-served (λ fs. get_volume_status table fs p path) stores handles stores handles (VolumeStatus quota charge files)
      (λ fs s.
      let tree = store-there stores handles fs s place.tree within in
      let charged : tree_charge (tree_in fs place.tree) ≡ charge = tree.charge ∙ sym c in
      let counted : file_count (tree_in fs place.tree) ≡ files = sym (file_count-same (store_at stores place.tree) (tree_in fs place.tree) tree) ∙ sym k in
      record {
        after = fs;
        is = at_place-ok table owner_or_reader p path place (volume_rest table fs) is
            ∙ (λ i. refuse_if (at-root place.names n long none i) Einval (accepted fs (VolumeStatus (sym q i) (charged i) (counted i))));
        stands = s;
      })
      (λ table o. o)

-- the quota in the row of a tree
pub quota-at : (table : Rows) (rows : List TreeRow) (t : ℕ) (row : TreeRow) → rows ≡ table.trees → t < length table.trees → (get_or rows t row).quota ≡ quota_of table t
quota-at table rows t row same within =
    let there : slice_get table.trees t ≡ Some (get_or rows t row) = slice_get-get_or table.trees t row within ∙ ap (λ (rows : List TreeRow). Some (get_or rows t row)) (sym same) in
    let P : Option TreeRow → ℕ = λ o. option_map_or (λ row. row.quota) o 0 in
    sym (ap P there)
