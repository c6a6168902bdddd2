-- What stored trees say of the values that they hold.
use Rattle.std.proofs.Common.{◌≡◌, ℕ, zero, suc, ◌+◌, ◌*◌, ◌<◌, ◌≤◌, true, List, [], ◌∷◌, length, Some, refl, sym, ap, subst, ◌∙◌, arith}
use Rattle.std.specs.Prelude.{nat_le, slice_get}
use Rattle.std.specs.List.{AllZip, list_all}
use Rattle.std.proofs.lemmas.List.{length-map}
use Rattle.std.proofs.lemmas.Bool.Decides.{nat_tests}
use Rattle.std.proofs.lemmas.Option.{get_or_from_slice_get}
use Rattle.std.proofs.lemmas.Slice.Zip.{AllZip-long}
use Rattle.apex_types.specs.Rows.{Rows}
use Rattle.apex_types.specs.declared.rows.TreeRow.{TreeRow}
use Rattle.apex_model.specs.Accepted.{IsAccepted, is_tree_in_range, is_within}
use Rattle.apex_model.specs.Layout.{tree_start}
use Rattle.apex_model.proofs.AcceptedTables.{and-left, and-right}
use Rattle.file_tree.specs.Entries.{TreeValue}
use Rattle.open_handles.specs.NodeHandles.{AllHandles}
use Rattle.rig_core.specs.Outside.{Outside}
use Rattle.store_model.specs.Betweens.{TreeSite}
use Rattle.store_model.specs.Stores.{StoreValue, kept_at, total}
use Rattle.store_model.specs.Systems.{HasLimits, IsOfTable, no_store, store_at}
use Rattle.tree_store.specs.Calls.{AreReady, AtTree}
use Rattle.tree_store.specs.Serving.{AllHold, AreOfTable, AreStored, sites_from, sites_of}
use Rattle.tree_store.specs.Stored.{Holds, changes_at, charges_of, names_of, row_of, site_of, size_at}
use Rattle.tree_store.specs.declared.store.TreeStore.{TreeStore}
use Rattle.tree_store.proofs.Lent.{zip_there}
use Rattle.tree_store.proofs.Together.{zip_keep}
use Rattle.service_parts.specs.Serving.{AllOutline, AreInService, AreSeen, Outlines}
use Rattle.service_parts.proofs.TreeLimits.{trees_in_range}

-- what stands at a number within a list
pub there : {A : Type 0} (xs : List A) (k : ℕ) → k < length xs → (x : A) × (slice_get xs k ≡ Some x)
there [] k low = absurd (omega arith)
there (x ∷ xs) zero low = (x, refl)
there (x ∷ xs) (suc k) low = there xs k (omega arith)

-- ---- all of a value but its contents

pub outlined : (V : Type 0) (o : Outside) (s : TreeStore) (v : StoreValue) → Holds V o s v → Outlines s v
outlined V o s v holds = record { names = holds.names; sizes = holds.sizes; changes = holds.changes; charges = holds.charges }

pub all_outlined : (V : Type 0) (o : Outside) (trees : List TreeStore) (stores : List StoreValue) → AllHold V o trees stores → AllOutline trees stores
all_outlined V o trees stores hold = zip_keep (Holds V o) Outlines trees stores hold (λ j s v at holds. outlined V o s v holds)

module _ (trees : List TreeStore) (stores : List StoreValue) (all : AllOutline trees stores) where
  -- there are as many trees as values
  pub stores_long : length stores ≡ length trees
  stores_long = AllZip-long Outlines trees stores all

  -- the value of a number outlines the tree of that number
  pub outline_at : (k : ℕ) (s : TreeStore) → slice_get trees k ≡ Some s → Outlines s (store_at stores k)
  outline_at k s at =
      let value = zip_there Outlines trees stores k s all at in
      subst (λ (v : StoreValue). Outlines s v) (sym (get_or_from_slice_get stores k value.0 no_store value.1)) value.2

  -- what holds of the value's names holds of the tree's, and the other way round
  pub at_tree : (P : TreeValue → Type 0) (k : ℕ) → P (store_at stores k).tree → AtTree trees k (λ store. P (names_of store))
  at_tree P k holds store at = subst P (outline_at k store at).names holds

  pub at_value : (P : TreeValue → Type 0) (k : ℕ) → k < length trees → AtTree trees k (λ store. P (names_of store)) → P (store_at stores k).tree
  at_value P k within holds = let tree = there trees k within in subst P (sym (outline_at k tree.0 tree.1).names) (holds tree.0 tree.1)

  -- what a call tells of the tree of a number, of the value of that number
  module _ (k : ℕ) (within : k < length trees) where
    pub size_of : (f n : ℕ) → AtTree trees k (λ store. n ≡ size_at store f) → n ≡ length (kept_at (store_at stores k) f).content
    size_of f n told = let tree = there trees k within in told tree.0 tree.1 ∙ sym ((outline_at k tree.0 tree.1).sizes f)

    pub changes_of : (f n : ℕ) → AtTree trees k (λ store. n ≡ changes_at store f) → n ≡ (kept_at (store_at stores k) f).changes
    changes_of f n told = let tree = there trees k within in told tree.0 tree.1 ∙ sym ((outline_at k tree.0 tree.1).changes f)

    pub charge_of : (n : ℕ) → AtTree trees k (λ store. n ≡ total (charges_of store)) → n ≡ total (store_at stores k).charges
    charge_of n told = let tree = there trees k within in told tree.0 tree.1 ∙ ap total (sym (outline_at k tree.0 tree.1).charges)

    pub tree_of : (names : TreeValue) → AtTree trees k (λ store. names ≡ names_of store) → names ≡ (store_at stores k).tree
    tree_of names told = at_value (λ (v : TreeValue). names ≡ v) k within told

-- ---- the table's limits

module _ (V : Type 0) (o : Outside) (table : Rows) where
  limits_from : (k : ℕ) (rows : List TreeRow) (trees : List TreeStore) (stores : List StoreValue) → sites_of trees ≡ sites_from table k rows → AreStored V o trees → AllHold V o trees stores → AllZip HasLimits rows stores
  limits_from k [] [] [] sites stored hold = tt
  limits_from k [] [] (v ∷ stores) sites stored hold = absurd hold
  limits_from k [] (s ∷ trees) stores sites stored hold = absurd cc
  limits_from k (row ∷ rows) [] stores sites stored hold = absurd cc
  limits_from k (row ∷ rows) (s ∷ trees) [] sites stored hold = absurd hold
  limits_from k (row ∷ rows) (s ∷ trees) (v ∷ stores) sites stored hold =
      let first : site_of s ≡ (row, 512 * tree_start table k) = cc in
      let same : row_of s ≡ row = ap (λ (site : TreeSite). site.0) first in
      let rest : sites_of trees ≡ sites_from table (k + 1) rows = cc in
      let limits = stored.0.state.in_step.limits in (
        record {
          quota = hold.0.quota ∙ ap (λ (r : TreeRow). r.quota) same;
          files = ap (λ (t : TreeValue). length t.files) hold.0.names ∙ limits.files ∙ ap (λ (r : TreeRow). r.files) same;
          directories = ap (λ (t : TreeValue). length t.directories) hold.0.names ∙ limits.directories ∙ ap (λ (r : TreeRow). r.directories) same;
        },
        limits_from (k + 1) rows trees stores rest stored.1 hold.1,
      )

  -- the values that the trees of a table hold have the table's limits
  pub of_table_held : (trees : List TreeStore) (stores : List StoreValue) (handles : AllHandles) → AreOfTable table trees handles → AreStored V o trees → AllHold V o trees stores → IsOfTable table stores handles
  of_table_held trees stores handles of stored hold = record { limits = limits_from 0 table.trees trees stores of.sites stored hold; partitions = of.partitions }

-- there are as many trees as the table has rows for
sites_long : (table : Rows) (k : ℕ) (rows : List TreeRow) → length (sites_from table k rows) ≡ length rows
sites_long table k [] = refl
sites_long table k (row ∷ rows) = ap suc (sites_long table (k + 1) rows)

pub trees_long : (table : Rows) (trees : List TreeStore) (handles : AllHandles) → AreOfTable table trees handles → length trees ≡ length table.trees
trees_long table trees handles of = sym (length-map trees site_of) ∙ ap length of.sites ∙ sites_long table 0 table.trees

few_dirty : (row : TreeRow) → is_tree_in_range row ≡ true → row.dirty ≤ 48
few_dirty row range =
    let within : is_within 16 48 row.dirty ≡ true = and-right _ (is_within 16 48 row.dirty) range in
    let test : nat_le row.dirty 48 ≡ true = and-right (nat_le 16 row.dirty) (nat_le row.dirty 48) within in
    grind (arith, nat_tests)

dirty_from : (table : Rows) (k : ℕ) (rows : List TreeRow) (trees : List TreeStore) → sites_of trees ≡ sites_from table k rows → list_all is_tree_in_range rows ≡ true
    → (j : ℕ) (s : TreeStore) → slice_get trees j ≡ Some s → (row_of s).dirty ≤ 48
dirty_from table k rows [] sites range j s at = absurd cc
dirty_from table k [] (t ∷ trees) sites range j s at = absurd cc
dirty_from table k (row ∷ rows) (t ∷ trees) sites range zero s at =
    let first : site_of t ≡ (row, 512 * tree_start table k) = cc in
    let is : t ≡ s = cc in
    let same : row ≡ row_of s = sym (ap (λ (site : TreeSite). site.0) first) ∙ ap row_of is in
    subst (λ (r : TreeRow). r.dirty ≤ 48) same (few_dirty row (and-left (is_tree_in_range row) (list_all is_tree_in_range rows) range))
dirty_from table k (row ∷ rows) (t ∷ trees) sites range (suc j) s at =
    let rest : sites_of trees ≡ sites_from table (k + 1) rows = cc in
    dirty_from table (k + 1) rows trees rest (and-right (is_tree_in_range row) (list_all is_tree_in_range rows) range) j s at

-- no tree of an accepted table has more than 48 buffers
pub dirty_within : (table : Rows) (trees : List TreeStore) (handles : AllHandles) → IsAccepted table → AreOfTable table trees handles → (j : ℕ) (s : TreeStore) → slice_get trees j ≡ Some s → (row_of s).dirty ≤ 48
dirty_within table trees handles accepted of = dirty_from table 0 table.trees trees of.sites (trees_in_range table accepted)

-- ---- what a service begins with

module _ (V : Type 0) (o : Outside) (trees : List TreeStore) (handles : AllHandles) (ready : AreInService V o trees handles) where
  -- a tree of theirs can be called
  pub ready_at : (k : ℕ) → k < length trees → AreReady V o trees k
  ready_at k within = record { number = within; laid_out = ready.laid_out; stored = ready.stored }

  -- the values that they hold are seen as well
  pub seen : AreSeen trees handles
  seen = let over = ready.serving.1 in (over.0, all_outlined V o trees over.0 over.1, (ready.serving.0, over.2))
