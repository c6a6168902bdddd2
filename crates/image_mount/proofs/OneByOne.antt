-- Trees that are mounted one after the other, up to the first that isn't good.
use Rattle.std.proofs.Common.{◌≡◌, ℕ, suc, ◌+◌, ◌*◌, ◌≤◌, List, [], ◌∷◌, ◌++◌, length, take, drop, Some, None, refl, sym, ◌∙◌, ap, subst, arith}
use Rattle.std.specs.Prelude.{slice_get, Result, Ok, Err}
use Rattle.std.specs.List.{AllByRecursion, AllZip}
use Rattle.apex_types.specs.Rows.{Rows}
use Rattle.apex_types.specs.declared.rows.TreeRow.{TreeRow}
use Rattle.apex_model.specs.Durable.{StoredFile}
use Rattle.apex_model.specs.Image.{states_from}
use Rattle.apex_model.specs.Layout.{layout_blocks, tree_start, tree_blocks}
use Rattle.apex_model.specs.Trees.{Tree}
use Rattle.image_format.proofs.Regions.{tree_within, trees_within}
use Rattle.recover_scan.specs.declared.errors.MountError.{MountError}
use Rattle.recover_scan.specs.declared.errors.MountError.TheVariants.{TooSmall, NotFormatted, OtherTable, BadTree, BadLogbook, Device, Memory}
use Rattle.rig_core.specs.Causes.{Rose}
use Rattle.rig_core.specs.Outside.{Outside, OnlyReads}
use Rattle.store_model.specs.Betweens.{TreeSite, IsTreeAt}
use Rattle.logbook_store.proofs.Mounting.{length_front, split_at, states_bad, take_next}
use Rattle.logbook_store.proofs.Zips.{zip_push}
use Rattle.tree_region.specs.declared.stop.MountStop.{MountStop}
use Rattle.tree_region.specs.declared.stop.MountStop.TheVariants as stop
use Rattle.tree_store.specs.Serving.{sites_of, sites_from}
use Rattle.tree_store.specs.Stored.{site_of, IsLoaded, IsStored}
use Rattle.tree_store.specs.declared.store.TreeStore.{TreeStore}
use Rattle.image_layout.proofs.Parts.{tree_at, trees_state}
use Rattle.image_mount.specs.Faults.{tree_error, AreNoTrees, IsNoTree}
use Rattle.image_mount.specs.Mounted.{AreMounted, IsTreeMounted}

-- the region of a row lies on the device
pub tree_fits : (table : Rows) (k : ℕ) (row : TreeRow) (start size : ℕ) → slice_get table.trees k ≡ Some row → start ≡ 512 * tree_start table k → 512 * layout_blocks table ≤ size
    → start + 512 * tree_blocks row ≤ size
tree_fits table k row start size is start_is fits = omega (arith, start_is, fits, tree_within table k row is, trees_within table)

-- ---- one tree that isn't good

pub no_tree : (V : Type 0) (table : Rows) (k : ℕ) (o e : Outside) (row : TreeRow) → slice_get table.trees k ≡ Some row → (why : MountStop)
    → (V → why ≡ stop.Bad → tree_at table o.view k row ≡ None) → (why ≡ stop.Device → Rose o.read_faults e.read_faults) → IsNoTree V table k o e (tree_error (k + 1) why)
no_tree V table k o e row is stop.Bad bad cause = record { number = refl; row = row; there = is; none = λ tells. bad tells refl }
no_tree V table k o e row is stop.Device bad cause = cause refl
no_tree V table k o e row is stop.Memory bad cause = tt

-- ---- the trees so far

pub none_mounted : (V : Type 0) (o : Outside) (table : Rows) → AreMounted V o table (take 0 table.trees) []
none_mounted V o table = record { sites = refl; stored = tt; states = []; loaded = tt }

sites_push : (trees : List TreeStore) (store : TreeStore) → sites_of (trees ++ store ∷ []) ≡ sites_of trees ++ site_of store ∷ []
sites_push [] store = refl
sites_push (t ∷ trees) store = ap (λ (sites : List TreeSite). site_of t ∷ sites) (sites_push trees store)

sites_more : (table : Rows) (k : ℕ) (rows : List TreeRow) (row : TreeRow) → sites_from table k (rows ++ row ∷ []) ≡ sites_from table k rows ++ (row, 512 * tree_start table (k + length rows)) ∷ []
sites_more table k [] row = ap (λ (n : ℕ). let s : List TreeSite = (row, 512 * tree_start table n) ∷ [] in s) (omega arith)
sites_more table k (r ∷ rows) row =
    ap (λ (sites : List TreeSite). (r, 512 * tree_start table k) ∷ sites) (sites_more table (k + 1) rows row)
    ∙ ap (λ (n : ℕ). (r, 512 * tree_start table k) ∷ (sites_from table (k + 1) rows ++ (row, 512 * tree_start table n) ∷ [])) (omega arith)

all_push : (P : TreeStore → Type 0) (trees : List TreeStore) (store : TreeStore) → AllByRecursion P trees → P store → AllByRecursion P (trees ++ store ∷ [])
all_push P [] store all one = (one, tt)
all_push P (t ∷ trees) store all one = (all.0, all_push P trees store all.1 one)

-- one more
pub tree_more : (V : Type 0) (o : Outside) (table : Rows) (k : ℕ) (trees : List TreeStore) (store : TreeStore) → AreMounted V o table (take k table.trees) trees → IsTreeMounted V o table k store
    → AreMounted V o table (take (k + 1) table.trees) (trees ++ store ∷ [])
tree_more V o table k trees store are one =
    let count = length_front table.trees k one.row one.there in
    record {
      sites = sites_push trees store ∙ ap (λ (sites : List TreeSite). sites ++ site_of store ∷ []) are.sites
          ∙ ap (λ (s : TreeSite). sites_from table 0 (take k table.trees) ++ s ∷ []) one.site
          ∙ ap (λ (n : ℕ). sites_from table 0 (take k table.trees) ++ (one.row, 512 * tree_start table n) ∷ []) (omega (arith, count))
          ∙ sym (ap (sites_from table 0) (take_next table.trees k one.row one.there) ∙ sites_more table 0 (take k table.trees) one.row);
      stored = all_push (IsStored V o) trees store are.stored one.stored;
      states = are.states ++ one.tree ∷ [];
      loaded = zip_push (IsLoaded V o) trees are.states store one.tree are.loaded one.loaded;
    }

-- ---- what the image says of them

regions_told : (V : Type 0) (o : Outside) (trees : List TreeStore) (states : List (Tree StoredFile)) → V → AllZip (IsLoaded V o) trees states → AllZip (λ site tree. IsTreeAt site tree o.view) (sites_of trees) states
regions_told V o [] [] tells all = tt
regions_told V o [] (tree ∷ states) tells all = absurd all
regions_told V o (t ∷ trees) [] tells all = absurd all
regions_told V o (t ∷ trees) (tree ∷ states) tells all = (all.0.region tells, regions_told V o trees states tells all.1)

-- the rows have these states
pub states_told : (V : Type 0) (o : Outside) (table : Rows) (rows : List TreeRow) (trees : List TreeStore) (are : AreMounted V o table rows trees) → V → states_from (tree_at table o.view) 0 rows ≡ Ok are.states
states_told V o table rows trees are tells =
    trees_state table o.view 0 rows are.states (subst (λ (sites : List TreeSite). AllZip (λ site tree. IsTreeAt site tree o.view) sites are.states) are.sites (regions_told V o trees are.states tells are.loaded))

-- the first that is bad, behind good ones
bad_tree_told : (table : Rows) (image : List ℕ) (k : ℕ) (row : TreeRow) (states : List (Tree StoredFile)) → slice_get table.trees k ≡ Some row → states_from (tree_at table image) 0 (take k table.trees) ≡ Ok states
    → tree_at table image k row ≡ None → states_from (tree_at table image) 0 table.trees ≡ Err (k + 1)
bad_tree_told table image k row states is good none =
    let count = length_front table.trees k row is in
    ap (states_from (tree_at table image) 0) (split_at table.trees k row is)
    ∙ states_bad (tree_at table image) 0 (take k table.trees) states row (drop (suc k) table.trees) good (ap (λ (n : ℕ). tree_at table image n row) (omega (arith, count)) ∙ none)
    ∙ ap (λ (n : ℕ). let r : Result (List (Tree StoredFile)) ℕ = Err n in r) (omega (arith, count))

-- one that isn't good is why the trees aren't mounted
module _ (V : Type 0) (table : Rows) (k : ℕ) (o m e : Outside) (trees : List TreeStore) (reads : OnlyReads V o m) (are : AreMounted V m table (take k table.trees) trees) where
  pub no_trees : (error : MountError) → IsNoTree V table k m e error → AreNoTrees V table o e error
  no_trees (TooSmall wanted) lost = absurd lost
  no_trees NotFormatted lost = absurd lost
  no_trees (OtherTable place) lost = absurd lost
  no_trees (BadTree tree) lost = λ tells.
      let states = states_told V m table (take k table.trees) trees are tells in
      let bad = bad_tree_told table m.view k lost.row are.states lost.there states (lost.none tells) in
      subst (λ (view : List ℕ). states_from (tree_at table view) 0 table.trees ≡ Err tree) (reads.view tells)
      (bad ∙ ap (λ (n : ℕ). let r : Result (List (Tree StoredFile)) ℕ = Err n in r) (sym lost.number))
  no_trees (BadLogbook logbook) lost = absurd lost
  no_trees Device lost = omega (arith, lost, reads.later.read_faults)
  no_trees Memory lost = tt
