-- What a cut leaves of a whole image, from what it leaves of each part.
use Rattle.std.proofs.Common.{◌≡◌, inl, inr, ⊎_elim, ℕ, zero, suc, ◌+◌, List, [], ◌∷◌, length, map, refl, arith}
use Rattle.std.specs.List.{AllZip}
use Rattle.apex_types.specs.Rows.{Rows}
use Rattle.apex_types.specs.declared.rows.LogbookRow.{LogbookRow}
use Rattle.apex_types.specs.declared.rows.TreeRow.{TreeRow}
use Rattle.apex_model.specs.Durable.{Durable, StoredFile, StoredLogbook, EitherCut, IsCut, IsCutOfTree, IsCutOfLogbook, IsCutBetween}
use Rattle.apex_model.specs.Files.{File}
use Rattle.apex_model.specs.Firsts.{first_tree}
use Rattle.apex_model.specs.Logbooks.{Logbook}
use Rattle.apex_model.specs.Trees.{Tree}
use Rattle.apex_model.specs.World.{World}
use Rattle.store_model.specs.Betweens.{TreeSite, IsTreeAt, AreTreesBetween}
use Rattle.store_model.proofs.Firsts.{first_tree_cut}
use Rattle.logbook_store.specs.Books.{IsStored}
use Rattle.logbook_store.specs.Logs.{Site, AreBeforeOrAfter, sites_from as log_sites_from}
use Rattle.tree_store.specs.Serving.{sites_from as tree_sites_from}
use Rattle.image_layout.specs.Laws.{HasCounts, HasPartsBetween, HasPartsOf}
use Rattle.image_layout.specs.Layout.{tree_sites, log_sites}
use Rattle.image_layout.specs.Parts.{IsBookAt}
use Rattle.image_layout.specs.Ready.{Stores}
use Rattle.image_layout.proofs.Parts.{parts_are_state}

pub tree_sites_count : (table : Rows) (k : ℕ) (rows : List TreeRow) → length (tree_sites_from table k rows) ≡ length rows
tree_sites_count table k [] = refl
tree_sites_count table k (row ∷ rows) = omega (arith, tree_sites_count table (k + 1) rows)

pub log_sites_count : (table : Rows) (k : ℕ) (rows : List LogbookRow) → length (log_sites_from table k rows) ≡ length rows
log_sites_count table k [] = refl
log_sites_count table k (row ∷ rows) = omega (arith, log_sites_count table (k + 1) rows)

-- ---- each part as before or as after

chosen_trees : (sites : List TreeSite) (before after : List (Tree File)) (image : List ℕ) → length before ≡ length sites → length after ≡ length sites → AreTreesBetween sites before after image
    → (trees : List (Tree StoredFile)) × AllZip (λ site tree. IsTreeAt site tree image) sites trees × EitherCut IsCutOfTree before after trees
chosen_trees [] [] [] image long long' between = ([], tt, tt)
chosen_trees [] (b ∷ before) after image long long' between = absurd (omega (arith, long))
chosen_trees [] [] (a ∷ after) image long long' between = absurd (omega (arith, long'))
chosen_trees (site ∷ sites) [] after image long long' between = absurd (omega (arith, long))
chosen_trees (site ∷ sites) (b ∷ before) [] image long long' between = absurd (omega (arith, long'))
chosen_trees (site ∷ sites) (b ∷ before) (a ∷ after) image long long' between =
    let rest = chosen_trees sites before after image (omega (arith, long)) (omega (arith, long')) (λ k s c d at was will. between (suc k) s c d at was will) in
    ⊎_elim
    (λ is. (first_tree b ∷ rest.0, (is, rest.1), (inl (first_tree_cut b), rest.2)))
    (λ is. (first_tree a ∷ rest.0, (is, rest.1), (inr (first_tree_cut a), rest.2)))
    (between zero site b a refl refl refl)

abbrev stored_of : Logbook → StoredLogbook
stored_of b = record { life = b.life; logged = b.logged }

chosen_books : (sites : List Site) (before after : List Logbook) (image : List ℕ) → length before ≡ length sites → length after ≡ length sites → AreBeforeOrAfter sites before after image
    → (books : List StoredLogbook) × AllZip (λ site book. IsBookAt site book image) sites books × EitherCut IsCutOfLogbook before after books
chosen_books [] [] [] image long long' between = ([], tt, tt)
chosen_books [] (b ∷ before) after image long long' between = absurd (omega (arith, long))
chosen_books [] [] (a ∷ after) image long long' between = absurd (omega (arith, long'))
chosen_books (site ∷ sites) [] after image long long' between = absurd (omega (arith, long))
chosen_books (site ∷ sites) (b ∷ before) [] image long long' between = absurd (omega (arith, long'))
chosen_books (site ∷ sites) (b ∷ before) (a ∷ after) image long long' between =
    let rest = chosen_books sites before after image (omega (arith, long)) (omega (arith, long')) (λ k s c d at was will. between (suc k) s c d at was will) in
    ⊎_elim
    (λ is. (stored_of b ∷ rest.0, (is, rest.1), (inl (refl, refl), rest.2)))
    (λ is. (stored_of a ∷ rest.0, (is, rest.1), (inr (refl, refl), rest.2)))
    (between zero site b a refl refl refl)

pub between_stores : (table : Rows) (before after : World) (image : List ℕ) → HasCounts table before → HasCounts table after → HasPartsBetween table before after image → Stores table (IsCutBetween before after) image
between_stores table before after image many many' parts =
    let trees_long = tree_sites_count table 0 table.trees in
    let books_long = log_sites_count table 0 table.logbooks in
    let ts = chosen_trees (tree_sites table) before.files.trees after.files.trees image (omega (arith, many.trees, trees_long)) (omega (arith, many'.trees, trees_long)) parts.trees in
    let bs = chosen_books (log_sites table) before.logbooks.books after.logbooks.books image (omega (arith, many.books, books_long)) (omega (arith, many'.books, books_long)) parts.books in
    let durable : Durable = record { trees = ts.0; logbooks = bs.0 } in
    (durable, parts_are_state table image durable (record { superblock = parts.superblock; trees = ts.1; books = bs.1 }), record { trees = ts.2; logbooks = bs.2 })

-- ---- between calls

module _ (image : List ℕ) where
  trees_first : (sites : List TreeSite) (trees : List (Tree File)) → AllZip (λ site tree. IsTreeAt site (first_tree tree) image) sites trees → AllZip (λ site tree. IsTreeAt site tree image) sites (map first_tree trees)
  trees_first [] [] all = tt
  trees_first [] (t ∷ trees) all = absurd all
  trees_first (site ∷ sites) [] all = absurd all
  trees_first (site ∷ sites) (t ∷ trees) all = (all.0, trees_first sites trees all.1)

  books_stored : (sites : List Site) (books : List Logbook) → AllZip (λ site b. IsStored site.0 site.1 b image) sites books → AllZip (λ site book. IsBookAt site book image) sites (map stored_of books)
  books_stored [] [] all = tt
  books_stored [] (b ∷ books) all = absurd all
  books_stored (site ∷ sites) [] all = absurd all
  books_stored (site ∷ sites) (b ∷ books) all = (all.0, books_stored sites books all.1)

trees_cut : (trees : List (Tree File)) → AllZip IsCutOfTree trees (map first_tree trees)
trees_cut [] = tt
trees_cut (t ∷ trees) = (first_tree_cut t, trees_cut trees)

books_cut : (books : List Logbook) → AllZip IsCutOfLogbook books (map stored_of books)
books_cut [] = tt
books_cut (b ∷ books) = ((refl, refl), books_cut books)

pub now_stores : (table : Rows) (w : World) (image : List ℕ) → HasPartsOf table w image → Stores table (IsCut w) image
now_stores table w image parts =
    let durable : Durable = record { trees = map first_tree w.files.trees; logbooks = map stored_of w.logbooks.books } in (
      durable,
      parts_are_state table image durable (record {
        superblock = parts.superblock;
        trees = trees_first image (tree_sites table) w.files.trees parts.trees;
        books = books_stored image (log_sites table) w.logbooks.books parts.books;
      }),
      record { trees = trees_cut w.files.trees; logbooks = books_cut w.logbooks.books },
    )
