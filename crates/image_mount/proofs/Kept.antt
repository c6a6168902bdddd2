-- What was mounted stays so while only reads are made.
use Rattle.std.proofs.Common.{List, sym, ◌∙◌, subst}
use Rattle.apex_types.specs.Rows.{Rows}
use Rattle.apex_types.specs.declared.rows.TreeRow.{TreeRow}
use Rattle.apex_model.specs.Durable.{StoredFile}
use Rattle.apex_model.specs.Trees.{Tree}
use Rattle.rig_core.specs.Leaves.{IsAllSettled}
use Rattle.rig_core.specs.Outside.{Outside, OnlyReads, Sound}
use Rattle.rig_core.proofs.Moments.{now_none}
use Rattle.store_model.specs.Betweens.{IsTreeAt}
use Rattle.tree_store.specs.Stored.{site_of, IsLoaded, IsStored}
use Rattle.tree_store.specs.declared.store.TreeStore.{TreeStore}
use Rattle.tree_store.proofs.Frames.{holds_reads}
use Rattle.tree_store.proofs.Lent.{stored-reads-all}
use Rattle.tree_store.proofs.Together.{stored_in, zip_keep}
use Rattle.image_mount.specs.Mounted.{AreMounted}

module _ (V K : Type 0) (o e : Outside) (sound : Sound V K o) (sound_after : Sound V K e) (reads : OnlyReads V o e) where
  -- nothing is pending
  pub settled_kept : IsAllSettled o → IsAllSettled e
  settled_kept all image told now =
      all image told (now_none o e sound_after reads.later.clock reads.cuts image told now) ∙ sym (reads.view (sound_after.shown e.clock image told now))

  loaded_kept : (store : TreeStore) (tree : Tree StoredFile) → IsStored V o store → IsLoaded V o store tree → IsLoaded V e store tree
  loaded_kept store tree stored is = record {
    value = is.value;
    holds = holds_reads V K o e sound sound_after store stored reads is.value is.holds;
    stands = is.stands;
    valid = is.valid;
    region = λ tells. subst (IsTreeAt (site_of store) tree) (sym (reads.view tells)) (is.region tells);
  }

  pub trees_kept : (table : Rows) (rows : List TreeRow) (trees : List TreeStore) → AreMounted V o table rows trees → AreMounted V e table rows trees
  trees_kept table rows trees are = record {
    sites = are.sites;
    stored = stored-reads-all V K o e sound sound_after trees are.stored reads;
    states = are.states;
    loaded = zip_keep (IsLoaded V o) (IsLoaded V e) trees are.states are.loaded (λ j t tree at was. loaded_kept t tree (stored_in (IsStored V o) trees j t are.stored at) was);
  }
