-- The whole image is mounted, or the first reason against it is told.
use Rattle.std.proofs.Common.{◌≡◌, ℕ, ◌*◌, ◌≤◌, List, map, sym, ◌∙◌, subst, arith}
use Rattle.std.specs.Prelude.{Ok, Err}
use Rattle.apex_types.specs.Rows.{Rows}
use Rattle.apex_model.specs.Durable.{StoredLogbook, loaded_book}
use Rattle.apex_model.specs.Image.{states_from}
use Rattle.apex_model.specs.Layout.{superblock_blocks, layout_blocks}
use Rattle.recover_scan.specs.Mount.{IsImageOf, IsRefusedFor, IsSmallFor}
use Rattle.recover_scan.specs.declared.errors.MountError.{MountError}
use Rattle.recover_scan.specs.declared.errors.MountError.TheVariants.{TooSmall, NotFormatted, OtherTable, BadTree, BadLogbook, Device, Memory}
use Rattle.recover_scan.proofs.Small.{tree_is_other, logbook_is_other, device_is_other, memory_is_other}
use Rattle.rig_core.specs.Causes.{Rose}
use Rattle.rig_core.specs.Leaves.{IsAllSettled}
use Rattle.rig_core.specs.Outside.{Outside, OnlyReads, Sound}
use Rattle.rig_core.proofs.Regions.{settled_all}
use Rattle.logbook_store.specs.Logs.{size_of, IsMountFault, StandFor, stored_in, sites_of as log_sites_of, sites_from as log_sites_from}
use Rattle.logbook_store.specs.declared.book.Book.{Book}
use Rattle.logbook_store.specs.declared.errors.LogError.{LogError}
use Rattle.logbook_store.specs.declared.errors.LogError.TheVariants as log
use Rattle.tree_store.specs.declared.store.TreeStore.{TreeStore}
use Rattle.image_layout.proofs.Parts.{tree_at, lists_are_state, bad_trees_are_told, bad_books_are_told}
use Rattle.image_mount.specs.Faults.{log_error, AreNoTrees}
use Rattle.image_mount.specs.Mounted.{AreMounted, IsMounted}
use Rattle.image_mount.proofs.Kept.{settled_kept, trees_kept}
use Rattle.image_mount.proofs.OneByOne.{states_told}

-- ---- a refusal

module _ (V : Type 0) (table : Rows) (o m e : Outside) (reads : OnlyReads V o m) where
  pub trees_refused : (V → IsImageOf table o.view) → V → (error : MountError) → AreNoTrees V table m e error → IsRefusedFor table o.view error
  trees_refused image tells (TooSmall wanted) lost = absurd lost
  trees_refused image tells NotFormatted lost = absurd lost
  trees_refused image tells (OtherTable place) lost = absurd lost
  trees_refused image tells (BadTree tree) lost =
      bad_trees_are_told table o.view (image tells) tree (subst (λ (view : List ℕ). states_from (tree_at table view) 0 table.trees ≡ Err tree) (reads.view tells) (lost tells))
  trees_refused image tells (BadLogbook logbook) lost = absurd lost
  trees_refused image tells Device lost = tt
  trees_refused image tells Memory lost = tt

  pub trees_small : (size : ℕ) (error : MountError) → AreNoTrees V table m e error → IsSmallFor table size error
  trees_small size (TooSmall wanted) lost = absurd lost
  trees_small size NotFormatted lost = absurd lost
  trees_small size (OtherTable place) lost = absurd lost
  trees_small size (BadTree tree) lost = tree_is_other table size tree
  trees_small size (BadLogbook logbook) lost = absurd lost
  trees_small size Device lost = device_is_other table size
  trees_small size Memory lost = memory_is_other table size

  pub trees_cause : (error : MountError) → AreNoTrees V table m e error → error ≡ Device → Rose o.read_faults e.read_faults
  trees_cause (TooSmall wanted) lost is = absurd cc
  trees_cause NotFormatted lost is = absurd cc
  trees_cause (OtherTable place) lost is = absurd cc
  trees_cause (BadTree tree) lost is = absurd cc
  trees_cause (BadLogbook logbook) lost is = absurd cc
  trees_cause Device lost is = omega (arith, lost, reads.later.read_faults)
  trees_cause Memory lost is = absurd cc

  module _ (trees : List TreeStore) (are : AreMounted V m table table.trees trees) where
    pub logs_refused : (V → IsImageOf table o.view) → V → (error : LogError) → IsMountFault table m.view m.read_faults e.read_faults V error → IsRefusedFor table o.view (log_error error)
    logs_refused image tells (log.Bad logbook) lost =
        let P : List ℕ → Type 0 = λ view. states_from (tree_at table view) 0 table.trees ≡ Ok are.states in
        let good : states_from (tree_at table o.view) 0 table.trees ≡ Ok are.states = subst P (reads.view tells) (states_told V m table table.trees trees are tells) in
        let bad : stored_in table o.view ≡ Err logbook = subst (λ (view : List ℕ). stored_in table view ≡ Err logbook) (reads.view tells) (lost tells) in
        bad_books_are_told table o.view (image tells) are.states logbook good bad
    logs_refused image tells log.Device lost = tt
    logs_refused image tells log.Memory lost = tt

  pub logs_small : (size : ℕ) (error : LogError) → IsSmallFor table size (log_error error)
  logs_small size (log.Bad logbook) = logbook_is_other table size logbook
  logs_small size log.Device = device_is_other table size
  logs_small size log.Memory = memory_is_other table size

  pub logs_cause : (error : LogError) → IsMountFault table m.view m.read_faults e.read_faults V error → log_error error ≡ Device → Rose o.read_faults e.read_faults
  logs_cause (log.Bad logbook) lost is = absurd cc
  logs_cause log.Device lost is = omega (arith, lost, reads.later.read_faults)
  logs_cause log.Memory lost is = absurd cc

-- ---- all of it

-- what the mount of the logbooks tells
pub record AreLogs (V : Type 0) (table : Rows) (o : Outside) (books : List Book) : Type 0 where
  pub sites : log_sites_of books ≡ log_sites_from table 0 table.logbooks
  pub stands : V → (stored : List StoredLogbook) × (stored_in table o.view ≡ Ok stored) × StandFor books o.view (map loaded_book stored)

module _ (V K : Type 0) (table : Rows) (o m e : Outside) (sound : Sound V K m) (sound_after : Sound V K e) (first : OnlyReads V o m) (second : OnlyReads V m e)
    (room : 512 * layout_blocks table ≤ o.size) (image : V → IsImageOf table o.view) (settled : IsAllSettled m) where
  -- the trees are mounted at m, and the logbooks behind them
  pub whole_mounted : (trees : List TreeStore) (books : List Book) → AreMounted V m table table.trees trees → AreLogs V table m books → IsMounted V e table (record { trees = trees; logs = books })
  whole_mounted trees books are logs =
      let now = trees_kept V K m e sound sound_after second table table.trees trees are in
      let all = settled_kept V K m e sound sound_after second settled in
      let same : V → e.view ≡ o.view = λ tells. second.view tells ∙ first.view tells in
      let here : V → IsImageOf table e.view = λ tells. subst (IsImageOf table) (sym (same tells)) (image tells) in
      record {
        in_step = record {
          superblock = record { room = omega (arith, room, first.later.size, second.later.size); settled = settled_all 0 (512 * superblock_blocks) e all; image = here };
          tree_sites = now.sites;
          stored = now.stored;
          log_sites = logs.sites;
          logs_settled = λ k site is. settled_all site.1 (size_of site) e all;
        };
        stored = now.states;
        loaded = now.loaded;
        books = λ tells.
            let stands = logs.stands tells in
            let told : stored_in table e.view ≡ Ok stands.0 = subst (λ (view : List ℕ). stored_in table view ≡ Ok stands.0) (sym (second.view tells)) stands.1 in (
              stands.0,
              lists_are_state table e.view (here tells) now.states stands.0 (states_told V e table table.trees trees now tells) told,
              subst (λ (view : List ℕ). StandFor books view (map loaded_book stands.0)) (sym (second.view tells)) stands.2,
            );
      }
