-- The state of an image from its parts, and its parts from the state.
use Rattle.std.proofs.Common.{◌≡◌, ℕ, ◌+◌, ◌*◌, ◌≤◌, Bool, true, false, not, List, [], ◌∷◌, length, Option, Some, None, refl, ap, subst, ◌∙◌, arith}
use Rattle.std.specs.Prelude.{Result, Ok, Err, nat_lt, if◌then◌else◌}
use Rattle.std.specs.List.{AllZip}
use Rattle.std.proofs.lemmas.Bool.Decides.{nat_tests}
use Rattle.apex_types.specs.Rows.{Rows}
use Rattle.apex_types.specs.declared.rows.LogbookRow.{LogbookRow}
use Rattle.apex_types.specs.declared.rows.TreeRow.{TreeRow}
use Rattle.apex_model.specs.Durable.{Durable, StoredFile, StoredLogbook}
use Rattle.apex_model.specs.Image.{Refusal, state_of, state_of_regions, states_from, tree_of_region, tree_region, logbook_of_region, logbook_region, is_open, first_difference, wanted_superblock, blocks_at, too_small, not_formatted, other_table, bad_tree, bad_logbook}
use Rattle.apex_model.specs.Layout.{layout_blocks}
use Rattle.apex_model.specs.Trees.{Tree}
use Rattle.recover_scan.specs.Mount.{IsImageOf}
use Rattle.recover_scan.proofs.Differences.{state-regions}
use Rattle.logbook_store.specs.Logs.{sites_from as log_sites_from}
use Rattle.store_model.specs.Betweens.{IsTreeAt}
use Rattle.tree_store.specs.Serving.{sites_from as tree_sites_from}
use Rattle.image_layout.specs.Laws.{ArePartsOfState}
use Rattle.image_layout.specs.Parts.{IsBookAt, HasParts}

-- ---- one region more

abbrev with_state : {X : Type 0} → ℕ → Option X → Result (List X) ℕ → Result (List X) ℕ
with_state k o rest = elim o [ None ↦ Err (k + 1) | Some x ↦ elim rest [ Err bad ↦ Err bad | Ok xs ↦ Ok (x ∷ xs) ] ]

one_more : {X : Type 0} (k : ℕ) (o : Option X) (x : X) (rest : Result (List X) ℕ) (xs : List X) → o ≡ Some x → rest ≡ Ok xs → with_state k o rest ≡ Ok (x ∷ xs)
one_more {X} k o x rest xs is next = ap (λ (p : Option X). with_state k p rest) is ∙ ap (λ (r : Result (List X) ℕ). with_state k (Some x) r) next

record Stated {X : Type 0} (o : Option X) (rest : Result (List X) ℕ) (ys : List X) : Type 0 where
  pub first : X
  pub others : List X
  pub here : o ≡ Some first
  pub later : rest ≡ Ok others
  pub whole : first ∷ others ≡ ys

stated : {X : Type 0} (k : ℕ) (o : Option X) (rest : Result (List X) ℕ) (ys : List X) → with_state k o rest ≡ Ok ys → Stated o rest ys
stated k None rest ys is = absurd cc
stated k (Some x) (Err bad) ys is = absurd cc
stated k (Some x) (Ok xs) ys is = record { first = x; others = xs; here = refl; later = refl; whole = cc }

-- ---- all regions

module _ (table : Rows) (image : List ℕ) where
  -- the tree of a region by its number, and the logbook
  abbrev pub tree_at : ℕ → TreeRow → Option (Tree StoredFile)
  tree_at k row = tree_of_region row (tree_region table image k row)

  abbrev pub book_at : ℕ → LogbookRow → Option StoredLogbook
  book_at k row = logbook_of_region row (logbook_region table image k row)

  abbrev AllTrees : ℕ → List TreeRow → List (Tree StoredFile) → Type 0
  AllTrees k rows trees = AllZip (λ site tree. IsTreeAt site tree image) (tree_sites_from table k rows) trees

  abbrev AllBooks : ℕ → List LogbookRow → List StoredLogbook → Type 0
  AllBooks k rows books = AllZip (λ site book. IsBookAt site book image) (log_sites_from table k rows) books

  pub trees_state : (k : ℕ) (rows : List TreeRow) (trees : List (Tree StoredFile)) → AllTrees k rows trees → states_from tree_at k rows ≡ Ok trees
  trees_state k [] [] all = refl
  trees_state k [] (t ∷ trees) all = absurd all
  trees_state k (row ∷ rows) [] all = absurd all
  trees_state k (row ∷ rows) (t ∷ trees) all = one_more k (tree_at k row) t (states_from tree_at (k + 1) rows) trees all.0 (trees_state (k + 1) rows trees all.1)

  books_state : (k : ℕ) (rows : List LogbookRow) (books : List StoredLogbook) → AllBooks k rows books → states_from book_at k rows ≡ Ok books
  books_state k [] [] all = refl
  books_state k [] (b ∷ books) all = absurd all
  books_state k (row ∷ rows) [] all = absurd all
  books_state k (row ∷ rows) (b ∷ books) all = one_more k (book_at k row) b (states_from book_at (k + 1) rows) books all.0 (books_state (k + 1) rows books all.1)

  trees_parts : (k : ℕ) (rows : List TreeRow) (trees : List (Tree StoredFile)) → states_from tree_at k rows ≡ Ok trees → AllTrees k rows trees
  trees_parts k [] trees is = let none : [] ≡ trees = cc in subst (AllTrees k []) none tt
  trees_parts k (row ∷ rows) trees is =
      let parts = stated k (tree_at k row) (states_from tree_at (k + 1) rows) trees is in
      subst (AllTrees k (row ∷ rows)) parts.whole (parts.here, trees_parts (k + 1) rows parts.others parts.later)

  books_parts : (k : ℕ) (rows : List LogbookRow) (books : List StoredLogbook) → states_from book_at k rows ≡ Ok books → AllBooks k rows books
  books_parts k [] books is = let none : [] ≡ books = cc in subst (AllBooks k []) none tt
  books_parts k (row ∷ rows) books is =
      let parts = stated k (book_at k row) (states_from book_at (k + 1) rows) books is in
      subst (AllBooks k (row ∷ rows)) parts.whole (parts.here, books_parts (k + 1) rows parts.others parts.later)

-- ---- both lists

abbrev of_books : List (Tree StoredFile) → Result (List StoredLogbook) ℕ → Result Durable Refusal
of_books trees books = elim books [ Err bad ↦ Err (bad_logbook bad) | Ok bs ↦ Ok (record { trees = trees; logbooks = bs }) ]

abbrev of_lists : Result (List (Tree StoredFile)) ℕ → Result (List StoredLogbook) ℕ → Result Durable Refusal
of_lists trees books = elim trees [ Err bad ↦ Err (bad_tree bad) | Ok ts ↦ of_books ts books ]

lists : (trees : Result (List (Tree StoredFile)) ℕ) (books : Result (List StoredLogbook) ℕ) (stored : Durable) → of_lists trees books ≡ Ok stored → (trees ≡ Ok stored.trees) × (books ≡ Ok stored.logbooks)
lists (Err bad) books stored is = absurd cc
lists (Ok ts) (Err bad) stored is = absurd cc
lists (Ok ts) (Ok bs) stored is =
    let made : Durable = record { trees = ts; logbooks = bs } in
    let same : made ≡ stored = cc in
    (ap (λ (d : Durable). let r : Result (List (Tree StoredFile)) ℕ = Ok d.trees in r) same, ap (λ (d : Durable). let r : Result (List StoredLogbook) ℕ = Ok d.logbooks in r) same)

-- behind the superblock of the table the regions tell the state
module _ (table : Rows) (image : List ℕ) (superblock : IsImageOf table image) where
  by_lists : state_of table image ≡ of_lists (states_from (tree_at table image) 0 table.trees) (states_from (book_at table image) 0 table.logbooks)
  by_lists = state-regions table image superblock.room superblock.formatted superblock.same

  pub lists_are_state : (trees : List (Tree StoredFile)) (books : List StoredLogbook) → states_from (tree_at table image) 0 table.trees ≡ Ok trees → states_from (book_at table image) 0 table.logbooks ≡ Ok books
      → state_of table image ≡ Ok (record { trees = trees; logbooks = books })
  lists_are_state trees books good fine =
      by_lists ∙ ap (λ (r : Result (List (Tree StoredFile)) ℕ). of_lists r (states_from (book_at table image) 0 table.logbooks)) good ∙ ap (of_books trees) fine

  -- a bad list of trees is the answer
  pub bad_trees_are_told : (bad : ℕ) → states_from (tree_at table image) 0 table.trees ≡ Err bad → state_of table image ≡ Err (bad_tree bad)
  bad_trees_are_told bad is = by_lists ∙ ap (λ (r : Result (List (Tree StoredFile)) ℕ). of_lists r (states_from (book_at table image) 0 table.logbooks)) is

  -- and a bad list of logbooks, where all trees are good
  pub bad_books_are_told : (trees : List (Tree StoredFile)) (bad : ℕ) → states_from (tree_at table image) 0 table.trees ≡ Ok trees → states_from (book_at table image) 0 table.logbooks ≡ Err bad
      → state_of table image ≡ Err (bad_logbook bad)
  bad_books_are_told trees bad good is =
      by_lists ∙ ap (λ (r : Result (List (Tree StoredFile)) ℕ). of_lists r (states_from (book_at table image) 0 table.logbooks)) good ∙ ap (of_books trees) is

pub parts_are_state : (table : Rows) (image : List ℕ) (stored : Durable) → HasParts table image stored → state_of table image ≡ Ok stored
parts_are_state table image stored parts =
    lists_are_state table image parts.superblock stored.trees stored.logbooks (trees_state table image 0 table.trees stored.trees parts.trees) (books_state table image 0 table.logbooks stored.logbooks parts.books)

-- ---- back

abbrev by_tests : ℕ → Bool → Bool → Option ℕ → Result Durable Refusal → Result Durable Refusal
by_tests wanted small opened difference rest =
    if small then Err (too_small wanted) else if not opened then Err not_formatted else elim difference [ Some place ↦ Err (other_table place) | None ↦ rest ]

record Passed (small opened : Bool) (difference : Option ℕ) (rest : Result Durable Refusal) (stored : Durable) : Type 0 where
  pub large : small ≡ false
  pub formatted : opened ≡ true
  pub same : difference ≡ None
  pub regions : rest ≡ Ok stored

passed : (wanted : ℕ) (small opened : Bool) (difference : Option ℕ) (rest : Result Durable Refusal) (stored : Durable) → by_tests wanted small opened difference rest ≡ Ok stored → Passed small opened difference rest stored
passed wanted true opened difference rest stored is = absurd cc
passed wanted false false difference rest stored is = absurd cc
passed wanted false true (Some place) rest stored is = absurd cc
passed wanted false true None rest stored is = record { large = refl; formatted = refl; same = refl; regions = is }

room : (m n : ℕ) → nat_lt n m ≡ false → m ≤ n
room m n test = grind (arith, nat_tests)

tests_passed : (table : Rows) (image : List ℕ) (stored : Durable) → state_of table image ≡ Ok stored
    → Passed (nat_lt (length image) (512 * layout_blocks table)) (is_open image 0) (first_difference 0 (wanted_superblock table) (blocks_at image 1 32)) (state_of_regions table image) stored
unfolding state_of
tests_passed table image stored is = passed (512 * layout_blocks table) (nat_lt (length image) (512 * layout_blocks table)) (is_open image 0) (first_difference 0 (wanted_superblock table) (blocks_at image 1 32)) (state_of_regions table image) stored is

pub state_has_parts : (table : Rows) (image : List ℕ) (stored : Durable) → state_of table image ≡ Ok stored → HasParts table image stored
state_has_parts table image stored is =
    let tests = tests_passed table image stored is in
    let both = lists (states_from (tree_at table image) 0 table.trees) (states_from (book_at table image) 0 table.logbooks) stored tests.regions in
    record {
      superblock = record { room = room (512 * layout_blocks table) (length image) tests.large; formatted = tests.formatted; same = tests.same };
      trees = trees_parts table image 0 table.trees stored.trees both.0;
      books = books_parts table image 0 table.logbooks stored.logbooks both.1;
    }

pub state_is_of_parts : (table : Rows) (image : List ℕ) (stored : Durable) → ArePartsOfState table image stored
state_is_of_parts table image stored = record { told = parts_are_state table image stored; parts = state_has_parts table image stored }
