-- Ranges one behind another, and those of a table.
use Rattle.std.proofs.Common.{◌≡◌, inl, inr, ℕ, zero, suc, ◌+◌, ◌*◌, ◌≤◌, ◌<◌, List, [], ◌∷◌, ◌++◌, length, map, Some, slice_get, option_map, refl, ap, subst, ◌∙◌, arith}
use Rattle.std.proofs.lemmas.Option.{slice_get-map}
use Rattle.apex_types.specs.Rows.{Rows}
use Rattle.apex_types.specs.declared.rows.LogbookRow.{LogbookRow}
use Rattle.apex_types.specs.declared.rows.TreeRow.{TreeRow}
use Rattle.apex_model.specs.Layout.{superblock_blocks, layout_blocks, tree_start, logbook_start}
use Rattle.image_format.proofs.Regions.{tree_start-next, tree_start-last, logbook_start-next, logbook_start-last}
use Rattle.rig_core.specs.Leaves.{AreApart}
use Rattle.rig_core.specs.Windows.{Window, AreLaidOut, AreWithin}
use Rattle.store_model.specs.Betweens.{TreeSite, tree_long}
use Rattle.logbook_store.specs.Logs.{Site, size_of, AreWithin as BooksAreWithin, sites_from as log_sites_from}
use Rattle.tree_store.specs.Serving.{window_of, sites_from as tree_sites_from}
use Rattle.image_layout.specs.Layout.{tree_sites, log_sites, log_window, windows_of, trees_start, trees_long, books_start, books_long}

-- each begins no sooner than the one before it ends, from one byte up to another
abbrev pub AreFollowing : ℕ → List Window → ℕ → Type 0
AreFollowing at [] end = at ≤ end
AreFollowing at (w ∷ ws) end = (at ≤ w.0) × AreFollowing (w.0 + w.1) ws end

follow_later : (low at end : ℕ) (ws : List Window) → low ≤ at → AreFollowing at ws end → AreFollowing low ws end
follow_later low at end [] le follow = omega (arith, le, follow)
follow_later low at end (w ∷ ws) le follow = (omega (arith, le, follow.0), follow.1)

follow_then : (at mid end : ℕ) (ws vs : List Window) → AreFollowing at ws mid → AreFollowing mid vs end → AreFollowing at (ws ++ vs) end
follow_then at mid end [] vs one two = follow_later at mid end vs one two
follow_then at mid end (w ∷ ws) vs one two = (one.0, follow_then (w.0 + w.1) mid end ws vs one.1 two)

follow_end : (at end : ℕ) (ws : List Window) → AreFollowing at ws end → at ≤ end
follow_end at end [] follow = follow
follow_end at end (w ∷ ws) follow = omega (arith, follow.0, follow_end (w.0 + w.1) end ws follow.1)

follow_from : (at end : ℕ) (ws : List Window) → AreFollowing at ws end → (k : ℕ) (w : Window) → slice_get ws k ≡ Some w → at ≤ w.0
follow_from at end [] follow k w is = absurd cc
follow_from at end (v ∷ ws) follow zero w is = let same : v ≡ w = cc in omega (arith, follow.0, ap (λ (u : Window). u.0) same)
follow_from at end (v ∷ ws) follow (suc k) w is = omega (arith, follow.0, follow_from (v.0 + v.1) end ws follow.1 k w is)

follow_to : (at end : ℕ) (ws : List Window) → AreFollowing at ws end → (k : ℕ) (w : Window) → slice_get ws k ≡ Some w → w.0 + w.1 ≤ end
follow_to at end [] follow k w is = absurd cc
follow_to at end (v ∷ ws) follow zero w is =
    let same : v ≡ w = cc in omega (arith, follow_end (v.0 + v.1) end ws follow.1, ap (λ (u : Window). u.0) same, ap (λ (u : Window). u.1) same)
follow_to at end (v ∷ ws) follow (suc k) w is = follow_to (v.0 + v.1) end ws follow.1 k w is

follow_ordered : (at end : ℕ) (ws : List Window) → AreFollowing at ws end → (j k : ℕ) (first second : Window) → j < k → slice_get ws j ≡ Some first → slice_get ws k ≡ Some second → first.0 + first.1 ≤ second.0
follow_ordered at end [] follow j k first second less here there = absurd cc
follow_ordered at end (v ∷ ws) follow j zero first second less here there = absurd (omega (arith, less))
follow_ordered at end (v ∷ ws) follow zero (suc k) first second less here there =
    let same : v ≡ first = cc in
    omega (arith, follow_from (v.0 + v.1) end ws follow.1 k second there, ap (λ (u : Window). u.0) same, ap (λ (u : Window). u.1) same)
follow_ordered at end (v ∷ ws) follow (suc j) (suc k) first second less here there = follow_ordered (v.0 + v.1) end ws follow.1 j k first second (omega (arith, less)) here there

following_laid_out : (at end size : ℕ) (ws : List Window) → AreFollowing at ws end → end ≤ size → AreLaidOut ws size
following_laid_out at end size ws follow le = record {
  fit = λ k w is. omega (arith, le, follow_to at end ws follow k w is);
  ordered = follow_ordered at end ws follow;
}

-- ---- those of a table

module _ (table : Rows) where
  trees_from : (k : ℕ) (rows : List TreeRow) → ((j : ℕ) (row : TreeRow) → slice_get rows j ≡ Some row → slice_get table.trees (k + j) ≡ Some row) → k + length rows ≡ length table.trees
      → AreFollowing (512 * tree_start table k) (map window_of (tree_sites_from table k rows)) (books_start table)
  trees_from k [] are long =
      let last : tree_start table k ≡ logbook_start table 0 = ap (tree_start table) (omega (arith, long)) ∙ tree_start-last table in
      omega (arith, last)
  trees_from k (row ∷ rows) are long =
      let found : slice_get table.trees k ≡ Some row = ap (λ (n : ℕ). slice_get table.trees n) (omega arith) ∙ are 0 row refl in
      let next = tree_start-next table k row found in
      let rest = trees_from (k + 1) rows (λ j r is. ap (λ (n : ℕ). slice_get table.trees n) (omega arith) ∙ are (suc j) r is) (omega (arith, long)) in
      (omega arith, subst (λ (at : ℕ). AreFollowing at (map window_of (tree_sites_from table (k + 1) rows)) (books_start table)) (omega (arith, next)) rest)

  books_from : (k : ℕ) (rows : List LogbookRow) → ((j : ℕ) (row : LogbookRow) → slice_get rows j ≡ Some row → slice_get table.logbooks (k + j) ≡ Some row) → k + length rows ≡ length table.logbooks
      → AreFollowing (512 * logbook_start table k) (map log_window (log_sites_from table k rows)) (512 * layout_blocks table)
  books_from k [] are long =
      let last : logbook_start table k ≡ layout_blocks table = ap (logbook_start table) (omega (arith, long)) ∙ logbook_start-last table in
      omega (arith, last)
  books_from k (row ∷ rows) are long =
      let found : slice_get table.logbooks k ≡ Some row = ap (λ (n : ℕ). slice_get table.logbooks n) (omega arith) ∙ are 0 row refl in
      let next = logbook_start-next table k row found in
      let rest = books_from (k + 1) rows (λ j r is. ap (λ (n : ℕ). slice_get table.logbooks n) (omega arith) ∙ are (suc j) r is) (omega (arith, long)) in
      (omega arith, subst (λ (at : ℕ). AreFollowing at (map log_window (log_sites_from table (k + 1) rows)) (512 * layout_blocks table)) (omega (arith, next)) rest)

  trees_follow : AreFollowing (trees_start table) (map window_of (tree_sites table)) (books_start table)
  trees_follow = trees_from 0 table.trees (λ j row is. ap (λ (n : ℕ). slice_get table.trees n) (omega arith) ∙ is) (omega arith)

  books_follow : AreFollowing (books_start table) (map log_window (log_sites table)) (512 * layout_blocks table)
  books_follow = books_from 0 table.logbooks (λ j row is. ap (λ (n : ℕ). slice_get table.logbooks n) (omega arith) ∙ is) (omega arith)

  table_follows : AreFollowing 0 (windows_of table) (512 * layout_blocks table)
  table_follows = (
    omega arith,
    follow_later 16896 (trees_start table) (512 * layout_blocks table) (map window_of (tree_sites table) ++ map log_window (log_sites table)) (omega arith)
        (follow_then (trees_start table) (books_start table) (512 * layout_blocks table) (map window_of (tree_sites table)) (map log_window (log_sites table)) trees_follow books_follow),
  )

  module _ (size : ℕ) (fits : 512 * layout_blocks table ≤ size) where
    -- all parts of an image
    pub table_laid_out : AreLaidOut (windows_of table) size
    table_laid_out = following_laid_out 0 (512 * layout_blocks table) size (windows_of table) table_follows fits

    -- the trees alone
    pub trees_laid_out : AreLaidOut (map window_of (tree_sites table)) size
    trees_laid_out = following_laid_out (trees_start table) (books_start table) size (map window_of (tree_sites table)) trees_follow (omega (arith, fits))

  log_window_in : (k : ℕ) (site : Site) → slice_get (log_sites table) k ≡ Some site → slice_get (map log_window (log_sites table)) k ≡ Some (log_window site)
  log_window_in k site is = slice_get-map log_window (log_sites table) k ∙ ap (option_map log_window) is

  -- all trees lie in one range, and all logbooks in one behind it
  pub trees_within : AreWithin (trees_start table) (trees_long table) (map window_of (tree_sites table))
  trees_within k w is =
      let high = follow_to (trees_start table) (books_start table) (map window_of (tree_sites table)) trees_follow k w is in
      (follow_from (trees_start table) (books_start table) (map window_of (tree_sites table)) trees_follow k w is, omega (arith, high))

  pub books_within : BooksAreWithin (books_start table) (books_long table) (log_sites table)
  books_within k site is =
      let at = log_window_in k site is in
      let high = follow_to (books_start table) (512 * layout_blocks table) (map log_window (log_sites table)) books_follow k (log_window site) at in
      (follow_from (books_start table) (512 * layout_blocks table) (map log_window (log_sites table)) books_follow k (log_window site) at, omega (arith, high))

  -- both lie in the bytes of the layout
  pub trees_in_image : AreWithin 0 (512 * layout_blocks table) (map window_of (tree_sites table))
  trees_in_image k w is = let within = trees_within k w is in (omega arith, omega (arith, within.1))

  pub books_in_image : BooksAreWithin 0 (512 * layout_blocks table) (log_sites table)
  books_in_image k site is = let within = books_within k site is in (omega arith, omega (arith, within.1))

  -- ---- what lies apart

  pub superblock_beside_trees : AreApart 0 (512 * superblock_blocks) (trees_start table) (trees_long table)
  superblock_beside_trees = inl (omega arith)

  pub superblock_beside_books : AreApart 0 (512 * superblock_blocks) (books_start table) (books_long table)
  superblock_beside_books = inl (omega arith)

  pub tree_beside_books : (j : ℕ) (site : TreeSite) → slice_get (tree_sites table) j ≡ Some site → AreApart site.1 (tree_long site) (books_start table) (books_long table)
  tree_beside_books j site is =
      inl (follow_to (trees_start table) (books_start table) (map window_of (tree_sites table)) trees_follow j (window_of site)
      (slice_get-map window_of (tree_sites table) j ∙ ap (option_map window_of) is))

  pub book_beside_trees : (k : ℕ) (site : Site) → slice_get (log_sites table) k ≡ Some site → AreApart site.1 (size_of site) (trees_start table) (trees_long table)
  book_beside_trees k site is = let within = books_within k site is in inr (omega (arith, within.0))
