-- A session at its start, with what was mounted: no handle is open, nothing is created, and each partition is started.
use Rattle.std.proofs.Common.{◌≡◌, ℕ, zero, suc, Bool, false, List, [], ◌∷◌, length, replicate, refl, sym, ap, subst, ◌∙◌, arith}
use Rattle.std.specs.Prelude.{Ok, map}
use Rattle.std.specs.List.{AllZip}
use Rattle.std.proofs.lemmas.List.{length-replicate}
use Rattle.apex_types.specs.Rows.{Rows}
use Rattle.apex_types.specs.declared.rows.PartitionRow.{PartitionRow}
use Rattle.apex_model.specs.Accepted.{IsAccepted}
use Rattle.apex_model.specs.Durable.{Durable, StoredFile, loaded_tree, start}
use Rattle.apex_model.specs.Files.{File}
use Rattle.apex_model.specs.FileSystem.{FileSystem}
use Rattle.apex_model.specs.Handles.{Handles, no_handles, handle_at}
use Rattle.apex_model.specs.Image.{state_of}
use Rattle.apex_model.specs.Trees.{Tree}
use Rattle.apex_model.specs.World.{Partition, started}
use Rattle.apex_model.proofs.Cuts.{length-map}
use Rattle.open_handles.specs.NodeHandles.{AllHandles, handles_of, none_open}
use Rattle.open_handles.specs.declared.handles.PartitionHandles.{PartitionHandles}
use Rattle.rig_core.specs.Outside.{Outside}
use Rattle.store_model.specs.Standing.{IsTree}
use Rattle.store_model.specs.Stores.{StoreValue}
use Rattle.store_model.specs.Systems.{opened_handles, Stands}
use Rattle.store_model.proofs.Handles.{none_open-at}
use Rattle.tree_store.specs.Serving.{AllHold, StandOver}
use Rattle.tree_store.specs.Stored.{IsLoaded}
use Rattle.tree_store.specs.declared.store.TreeStore.{TreeStore}
use Rattle.logbook_services.specs.Standing.{IsServing, none_made}
use Rattle.sampling_ext.specs.Standing.{PortsValue}
use Rattle.sampling_ext.specs.Standing as ports
use Rattle.image_mount.specs.Mounted.{IsMounted}
use Rattle.image_mount.specs.declared.store.Store.{Store}
use Rattle.image_mount.proofs.Started.{started_files_are_valid, started_is_valid}
use Rattle.module_session.specs.Sessions.{IsReady, StandsFor}
use Rattle.module_session.specs.declared.session.Session.{Session}

-- ---- partitions and handles

opened_none : (stores : List StoreValue) (n : ℕ) (rows : List PartitionRow) → n ≡ length rows → map (λ row. no_handles) rows ≡ map (opened_handles stores) (replicate n none_open)
opened_none stores zero [] e = refl
opened_none stores zero (row ∷ rows) e = absurd (omega arith)
opened_none stores (suc n) [] e = absurd (omega arith)
opened_none stores (suc n) (row ∷ rows) e = ap (λ (rest : List Handles). no_handles ∷ rest) (opened_none stores n rows (omega arith))

none_of : (n p : ℕ) → handles_of (replicate n none_open) p ≡ none_open
none_of zero p = refl
none_of (suc n) zero = refl
none_of (suc n) (suc p) = none_of n p

-- ---- trees and handles

-- some trees, with no handle open
module _ (table : Rows) (trees : List (Tree File)) where
  abbrev none_held : FileSystem
  none_held = record { trees = trees; handles = map (λ row. no_handles) table.partitions }

  none-stand : (stores : List StoreValue) (n : ℕ) → n ≡ length table.partitions → AllZip IsTree stores trees → Stands stores (replicate n none_open) none_held
  none-stand stores n partitions stand = record {
    trees = stand;
    opened = opened_none stores n table.partitions partitions;
    files = λ p id h e. absurd (none_open-at 24 id h (ap (λ (hs : PartitionHandles). handle_at hs.files id) (sym (none_of n p)) ∙ e));
    directories = λ p id h e. absurd (none_open-at 8 id h (ap (λ (hs : PartitionHandles). handle_at hs.directories id) (sym (none_of n p)) ∙ e));
  }

-- what loaded trees hold
module _ (V : Type 0) (o : Outside) where
  loaded_values : (trees : List TreeStore) (stored : List (Tree StoredFile)) → AllZip (IsLoaded V o) trees stored
      → (stores : List StoreValue) × AllHold V o trees stores × AllZip IsTree stores (map loaded_tree stored)
  loaded_values [] [] loaded = ([], tt, tt)
  loaded_values [] (t ∷ stored) loaded = absurd loaded
  loaded_values (s ∷ trees) [] loaded = absurd loaded
  loaded_values (s ∷ trees) (t ∷ stored) loaded =
      let rest = loaded_values trees stored loaded.1 in
      let one = loaded.0 in
      (one.value ∷ rest.0, (one.holds, rest.1), (one.stands, rest.2))

-- ---- modes

all_started : (n : ℕ) (rows : List PartitionRow) → n ≡ length rows → replicate n started ≡ map (λ row. started) rows
all_started zero [] e = refl
all_started zero (row ∷ rows) e = absurd (omega (arith, e))
all_started (suc n) [] e = absurd (omega (arith, e))
all_started (suc n) (row ∷ rows) e = ap (λ (rest : List Partition). started ∷ rest) (all_started n rows (omega (arith, e)))

-- ---- the whole

-- what each part is told to be at the start
pub record AreFirst (table : Rows) (handles : AllHandles) (made : List Bool) (held : PortsValue) (partitions : List Partition) (n : ℕ) : Type 0 where
  pub closed : handles ≡ replicate n none_open
  pub none : made ≡ none_made table
  pub unused : ports.Stands table held (ports.unused_ports table)
  pub serving : ports.IsServing table 0 held
  pub begun : partitions ≡ replicate n started
  pub many : n ≡ length table.partitions

module _ (V : Type 0) (o : Outside) (table : Rows) (accepted : IsAccepted table) (store : Store) (mounted : IsMounted V o table store)
    (handles : AllHandles) (made : List Bool) (held : PortsValue) (partitions : List Partition) (n : ℕ) (parts : AreFirst table handles made held partitions n) where
  abbrev first : Session
  first = record { table = table; trees = store.trees; handles = handles; logs = store.logs; made = made; ports = held; partitions = partitions; time = 0; failed = false }

  over : StandOver V o store.trees handles (none_held table (map loaded_tree mounted.stored))
  over =
      let values = loaded_values V o store.trees mounted.stored mounted.loaded in
      let stand = none-stand table (map loaded_tree mounted.stored) values.0 n parts.many values.2 in
      (values.0, values.1, subst (λ (hs : AllHandles). Stands values.0 hs (none_held table (map loaded_tree mounted.stored))) (sym parts.closed) stand)

  -- logbooks as they were mounted, of which none is created
  books_serving : V → IsServing table store.logs made o.view
  books_serving tells =
      let books = mounted.books tells in
      let stored : Durable = record { trees = mounted.stored; logbooks = books.0 } in (
        (start table stored).logbooks,
        record { stored = books.2; marks = parts.none },
        (started_is_valid V o table store stored accepted mounted tells books.1).logbooks,
      )

  pub start_ready : IsReady V o first
  start_ready = record {
    alive = refl;
    accepted = accepted;
    in_step = mounted.in_step;
    of_table = record {
      sites = mounted.in_step.tree_sites;
      partitions = ap (λ (hs : AllHandles). length hs) parts.closed ∙ length-replicate n none_open ∙ parts.many;
    };
    files = (none_held table (map loaded_tree mounted.stored), over, started_files_are_valid V o table store mounted []);
    marks = ap (λ (marks : List Bool). length marks) parts.none ∙ length-map (λ row. false) table.logbooks;
    logbooks = books_serving;
    ports = parts.serving;
    partitions = ap (λ (all : List Partition). length all) parts.begun ∙ length-replicate n started ∙ parts.many;
  }

  pub start_stands : V → (stored : Durable) → state_of table o.view ≡ Ok stored → StandsFor V o first (start table stored)
  start_stands tells stored is =
      let books = mounted.books tells in
      let found : Durable = record { trees = mounted.stored; logbooks = books.0 } in
      let both : Ok found ≡ Ok stored = sym books.1 ∙ is in
      let same : found ≡ stored = cc in
      subst (λ (durable : Durable). StandsFor V o first (start table durable)) same (record {
        parts = record { files = over; logbooks = λ _. books.2 };
        created = λ _. parts.none;
        ports = parts.unused;
        partitions = parts.begun ∙ all_started n table.partitions parts.many;
        time = refl;
      })
