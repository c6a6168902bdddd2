-- The files of mounted trees are those of the state that the image stands for, and they are few.
use Rattle.std.proofs.Common.{◌≡◌, ℕ, ◌+◌, ◌*◌, ◌<◌, ◌≤◌, true, List, [], ◌∷◌, length, map, cond, refl, sym, subst, ◌∙◌, ap, arith}
use Rattle.std.specs.Prelude.{sum_by, nat_le, take, slice_get, get_or, Option, Some, None, Result, Ok}
use Rattle.std.specs.List.{AllByRecursion, AllZip, list_all}
use Rattle.std.specs.Map.{values_of}
use Rattle.std.proofs.lemmas.List.{length-map}
use Rattle.std.proofs.lemmas.List.Sums.{sum_by-cons, sum_by_more}
use Rattle.std.proofs.lemmas.Option.{slice_get-get_or}
use Rattle.apex_types.specs.Rows.{Rows}
use Rattle.apex_types.specs.declared.rows.TreeRow.{TreeRow}
use Rattle.apex_model.specs.Accepted.{IsAccepted, has_good_names, is_in_range, has_no_repeats, has_known_names, fits_volumes, fits_image, is_within, is_tree_in_range, is_logbook_in_range, is_channel_in_range}
use Rattle.apex_model.specs.Durable.{Durable, StoredFile, loaded_tree, loaded_node}
use Rattle.apex_model.specs.Files.{File}
use Rattle.apex_model.specs.Image.{Refusal, state_of}
use Rattle.apex_model.specs.Trees.{Node, directory, file, Tree, is_file, file_count}
use Rattle.apex_model.specs.Validity.{IsValidTree}
use Rattle.apex_model.proofs.AcceptedTables.{and-left, and-right, all-from-list_all}
use Rattle.apex_model.proofs.Keeps.{le-true}
use Rattle.rig_core.specs.Outside.{Outside}
use Rattle.file_tree.specs.Entries.{TreeValue}
use Rattle.store_model.proofs.Entries.{zip-file_count}
use Rattle.tree_store.specs.Serving.{sites_of, sites_from}
use Rattle.tree_store.specs.Stored.{names_of, site_of, IsLoaded}
use Rattle.tree_store.specs.declared.store.TreeStore.{TreeStore}
use Rattle.power_sweep.specs.Cuts.{files_of, IsFound}
use Rattle.power_sweep.specs.Stores.{files_in}

-- a stored file is loaded as a file
loaded-kind : (n : Node StoredFile) → is_file (loaded_node n) ≡ is_file n
loaded-kind directory = refl
loaded-kind (file stored) = refl

loaded-count : (tree : Tree StoredFile) → file_count (loaded_tree tree) ≡ file_count tree
loaded-count [] = refl
loaded-count (e ∷ tree) =
    sum_by-cons (λ (m : Node File). cond (is_file m) 1 0) (loaded_node e.1) (values_of (loaded_tree tree))
    ∙ (λ i. cond (loaded-kind e.1 i) 1 0 + loaded-count tree i)
    ∙ sym (sum_by-cons (λ (n : Node StoredFile). cond (is_file n) 1 0) e.1 (values_of tree))

one-count : (V : Type 0) (o : Outside) (s : TreeStore) (tree : Tree StoredFile) → IsLoaded V o s tree → files_in s ≡ file_count tree
one-count V o s tree l =
    ap (λ v. file_count v.nodes) (sym l.holds.names) ∙ zip-file_count l.value l.value.tree.nodes (loaded_tree tree) l.stands.entries ∙ loaded-count tree

pub counts-loaded : (V : Type 0) (o : Outside) (trees : List TreeStore) (stored : List (Tree StoredFile)) → AllZip (IsLoaded V o) trees stored → sum_by files_in trees ≡ sum_by file_count stored
counts-loaded V o [] [] all = refl
counts-loaded V o [] (t ∷ stored) all = absurd all
counts-loaded V o (s ∷ trees) [] all = absurd all
counts-loaded V o (s ∷ trees) (t ∷ stored) all =
    sum_by-cons files_in s trees
    ∙ (λ i. one-count V o s t all.0 i + counts-loaded V o trees stored all.1 i)
    ∙ sym (sum_by-cons file_count t stored)

-- ---- few

few-more : (f files : ℕ) (n total rest : ℕ) → total ≡ f + rest → f ≤ files → files ≤ 64 → rest ≤ 64 * n → total ≤ 64 * (n + 1)
few-more f files n total rest is a b c = omega (arith, is, a, b, c)

few-files : (rows : List TreeRow) (stored : List (Tree StoredFile)) → AllZip IsValidTree rows (map loaded_tree stored) → AllByRecursion (λ row. row.files ≤ 64) rows → sum_by file_count stored ≤ 64 * length rows
few-files [] [] valid small = omega arith
few-files [] (t ∷ stored) valid small = absurd valid
few-files (row ∷ rows) [] valid small = absurd valid
few-files (row ∷ rows) (t ∷ stored) valid small =
    let here : file_count t ≤ row.files = subst (λ n. n ≤ row.files) (loaded-count t) valid.0.files in
    let whole = few-more (file_count t) row.files (length rows) (sum_by file_count (t ∷ stored)) (sum_by file_count stored) (sum_by-cons file_count t stored) here small.0 (few-files rows stored valid.1 small.1) in
    omega (arith, whole)

tree-files : (row : TreeRow) → is_tree_in_range row ≡ true → row.files ≤ 64
tree-files row e = le-true row.files 64 (and-right (nat_le 1 row.files) (nat_le row.files 64) (and-right _ (is_within 1 64 row.files) (and-left _ (nat_le row.directories 32) (and-left _ (is_within 16 48 row.dirty) e))))

in_range : (table : Rows) → IsAccepted table → is_in_range table ≡ true
in_range table a = and-right (has_good_names table) _ (and-left _ (has_no_repeats table) (and-left _ (has_known_names table) (and-left _ (fits_volumes table) (and-left _ (fits_image table) a))))

pub few-trees : (table : Rows) → IsAccepted table → length table.trees ≤ 32
few-trees table a =
    let e = in_range table a in
    let below = and-left _ (list_all is_tree_in_range table.trees) (and-left _ (list_all is_logbook_in_range table.logbooks) (and-left _ (list_all is_channel_in_range table.channels) e)) in
    le-true (length table.trees) 32 (and-right _ (nat_le (length table.trees) 32) (and-left _ (nat_le (length table.logbooks) 32) (and-left _ (nat_le (length table.channels) 32) (and-left _ (list_all (λ row. is_within 1 131072 row.blocks) table.volumes) below))))

-- at most 32 trees of at most 64 files each
pub few-in-table : (table : Rows) (stored : List (Tree StoredFile)) → IsAccepted table → AllZip IsValidTree table.trees (map loaded_tree stored) → sum_by file_count stored ≤ 2048
few-in-table table stored a valid =
    let e = in_range table a in
    let small = all-from-list_all is_tree_in_range (λ row. row.files ≤ 64) tree-files table.trees (and-right _ (list_all is_tree_in_range table.trees) (and-left _ (list_all is_logbook_in_range table.logbooks) (and-left _ (list_all is_channel_in_range table.channels) e))) in
    let trees = few-trees table a in
    let all = few-files table.trees stored valid small in
    omega (arith, trees, all)

-- ---- as many trees as the table has

length-sites : (table : Rows) (k : ℕ) (rows : List TreeRow) → length (sites_from table k rows) ≡ length rows
length-sites table k [] = refl
length-sites table k (row ∷ rows) = let rest = length-sites table (k + 1) rows in omega (arith, rest)

pub as-many : (table : Rows) (trees : List TreeStore) → sites_of trees ≡ sites_from table 0 table.trees → length table.trees ≡ length trees
as-many table trees sites = sym (length-sites table 0 table.trees) ∙ sym (ap length sites) ∙ length-map trees site_of

-- ---- the state of an image is one

pub same-files : (table : Rows) (view image : List ℕ) (d stored : Durable) → view ≡ image → state_of table view ≡ Ok d → state_of table image ≡ Ok stored → files_of d ≡ files_of stored
same-files table view image d stored same a b =
    let is : ◌≡◌ {A = Result Durable Refusal} (Ok d) (Ok stored) = sym a ∙ ap (state_of table) same ∙ b in
    let one : d ≡ stored = cc in
    ap files_of one

-- what is found is what the image stands for
pub found-state : (table : Rows) (image : List ℕ) (found : Option ℕ) (stored : Durable) → IsFound table image found → state_of table image ≡ Ok stored → found ≡ Some (files_of stored)
found-state table image None stored is_found is = absurd (is_found stored is)
found-state table image (Some files) stored is_found is = ap Some (is_found.2 ∙ same-files table image image is_found.0 stored refl is_found.1 is)

-- ---- one tree more

pub tree-more : (trees : List TreeStore) (k : ℕ) (tree : TreeValue) (n : ℕ) → k < length trees → ((store : TreeStore) → slice_get trees k ≡ Some store → tree ≡ names_of store) → n ≡ file_count tree.nodes
    → sum_by files_in (take (k + 1) trees) ≡ sum_by files_in (take k trees) + n
tree-more [] k tree n there at is = absurd (omega (arith, there))
tree-more (s ∷ trees) k tree n there at is =
    let same = at (get_or (s ∷ trees) k s) (slice_get-get_or (s ∷ trees) k s there) in
    sum_by_more files_in (s ∷ trees) k s there ∙ ap (λ m. sum_by files_in (take k (s ∷ trees)) + m) (sym (is ∙ ap (λ v. file_count v.nodes) same))
