-- What a run of a mounted image starts from is valid.
use Rattle.std.proofs.Common.{◌≡◌, ℕ, ◌+◌, ◌*◌, List, [], ◌∷◌, length, map, sym, ◌∙◌, ap, subst, arith}
use Rattle.std.specs.Prelude.{Ok, Result}
use Rattle.std.specs.List.{AllZip}
use Rattle.apex_types.specs.Rows.{Rows}
use Rattle.apex_types.specs.declared.rows.TreeRow.{TreeRow}
use Rattle.apex_model.specs.Accepted.{IsAccepted}
use Rattle.apex_model.specs.Durable.{Durable, StoredFile, StoredLogbook, loaded_tree, start}
use Rattle.apex_model.specs.Handles.{no_handles}
use Rattle.apex_model.specs.Image.{Refusal, state_of}
use Rattle.apex_model.specs.Layout.{tree_start}
use Rattle.apex_model.specs.Tables.{ports}
use Rattle.apex_model.specs.Trees.{Tree}
use Rattle.apex_model.specs.Validity.{IsValid, IsValidFileSystem, IsValidTree}
use Rattle.apex_model.specs.World.{started}
use Rattle.apex_model.proofs.Cuts.{length-map, all_slots, no_file, no_directory, unused_channels}
use Rattle.rig_core.specs.Outside.{Outside}
use Rattle.store_model.specs.Betweens.{TreeSite}
use Rattle.tree_store.specs.Serving.{sites_of, sites_from}
use Rattle.tree_store.specs.Stored.{site_of, row_of, IsLoaded}
use Rattle.tree_store.specs.declared.store.TreeStore.{TreeStore}
use Rattle.image_layout.proofs.Valid.{mounted_are_valid}
use Rattle.image_mount.specs.Mounted.{IsMounted}
use Rattle.image_mount.specs.declared.store.Store.{Store}

trees_are_valid : (V : Type 0) (o : Outside) (table : Rows) (k : ℕ) (rows : List TreeRow) (trees : List TreeStore) (states : List (Tree StoredFile)) → sites_of trees ≡ sites_from table k rows → AllZip (IsLoaded V o) trees states
    → AllZip IsValidTree rows (map loaded_tree states)
trees_are_valid V o table k [] [] [] sites all = tt
trees_are_valid V o table k [] [] (tree ∷ states) sites all = absurd all
trees_are_valid V o table k [] (t ∷ trees) states sites all = absurd (let long = ap length sites in omega (arith, long))
trees_are_valid V o table k (row ∷ rows) [] states sites all = absurd (let long = ap length sites in omega (arith, long))
trees_are_valid V o table k (row ∷ rows) (t ∷ trees) [] sites all = absurd all
trees_are_valid V o table k (row ∷ rows) (t ∷ trees) (tree ∷ states) sites all =
    let here : site_of t ≡ (row, 512 * tree_start table k) = cc in
    let same : row_of t ≡ row = ap (λ (s : TreeSite). s.0) here in
    (subst (λ (r : TreeRow). IsValidTree r (loaded_tree tree)) same all.0.valid, trees_are_valid V o table (k + 1) rows trees states (cc) all.1)

module _ (V : Type 0) (o : Outside) (table : Rows) (store : Store) (mounted : IsMounted V o table store) where
  -- for every rig
  pub started_files_are_valid : (books : List StoredLogbook) → IsValidFileSystem table (start table (record { trees = mounted.stored; logbooks = books })).files
  started_files_are_valid books = record {
    trees = trees_are_valid V o table 0 table.trees store.trees mounted.stored mounted.in_step.tree_sites mounted.loaded;
    partitions = length-map (λ row. no_handles) table.partitions;
    slots = all_slots table.partitions;
    files = λ p id h e. absurd (no_file table.partitions p id h e);
    directories = λ p id h e. absurd (no_directory table.partitions p id h e);
    one_writer = λ p id other h k e. absurd (no_file table.partitions p id h e);
  }

ok_same : {X E : Type 0} (x y : X) → (let o : Result X E = Ok x in o) ≡ Ok y → x ≡ y
ok_same x y is = cc

-- where the rig tells its view
pub started_is_valid : (V : Type 0) (o : Outside) (table : Rows) (store : Store) (stored : Durable) → IsAccepted table → IsMounted V o table store → V → state_of table o.view ≡ Ok stored → IsValid table (start table stored)
started_is_valid V o table store stored good mounted tells is =
    let books = mounted.books tells in
    let made : Durable = record { trees = mounted.stored; logbooks = books.0 } in
    let same : made ≡ stored = ok_same {E = Refusal} made stored (sym books.1 ∙ is) in
    subst (λ (d : Durable). IsValid table (start table d)) same (record {
      files = started_files_are_valid V o table store mounted books.0;
      logbooks = record {
        books = mounted_are_valid table o.view store.logs books.0 (mounted.in_step.superblock.image tells).room mounted.in_step.log_sites books.2;
        created = length-map (λ row. _) table.logbooks;
      };
      ports = record { channels = unused_channels table.channels; created = length-map (λ port. _) (ports table) };
      partitions = length-map (λ row. started) table.partitions;
    })
