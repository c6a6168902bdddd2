-- The regions of an image, one behind another.
use Rattle.std.proofs.Common.{rules, ◌≡◌, ⊎_elim, ℕ, zero, suc, ◌+◌, ◌-◌, ◌*◌, ◌<◌, ◌≤◌, List, [], ◌∷◌, length, take, sum_by, Some, slice_get, refl, sym, ◌∙◌, ap, subst, arith}
use Rattle.std.proofs.lemmas.Bool.{cases_lt}
use Rattle.std.proofs.lemmas.List.{places}
use Rattle.std.proofs.lemmas.List.Sums.{sum_by-cons}
use Rattle.rig_core.specs.Bytes.{SameElsewhere}
use Rattle.rig_core.specs.Outside.{Outside, Sound}
use Rattle.apex_types.specs.Rows.{Rows}
use Rattle.apex_types.specs.declared.rows.LogbookRow.{LogbookRow}
use Rattle.apex_types.specs.declared.rows.TreeRow.{TreeRow}
use Rattle.apex_model.specs.Image.{wanted_superblock}
use Rattle.apex_model.specs.Layout.{layout_blocks, tree_start, logbook_start, slot_blocks, tree_blocks, logbook_blocks}
use Rattle.image_format.proofs.Regions.{tree_start-next, tree_within, logbook_start-next, logbook_within}
use Rattle.recover_scan.specs.Format.{ChangesOnly, IsFreshTree, IsFreshLogbook, HasEmptyTrees, HasEmptyLogbooks, HasSuperblock, HasEmptyParts}
use Rattle.recover_scan.proofs.Changes.{changes_then, changes_wider}
use Rattle.recover_scan.proofs.Fresh.{fresh_tree_stays, fresh_logbook_stays}

-- the row at a place
pub row_at : {R : Type 0} (rows : List R) (k : ℕ) → k < length rows → (row : R) × (slice_get rows k ≡ Some row)
row_at [] k low = absurd (omega arith)
row_at (row ∷ rows) zero low = (row, refl)
row_at (row ∷ rows) (suc k) low = row_at rows k (omega arith)

-- sums over more rows are no less
pub sums_rise : {R : Type 0} (f : R → ℕ) (rows : List R) (j k : ℕ) → j ≤ k → sum_by f (take j rows) ≤ sum_by f (take k rows)
sums_rise f [] zero zero le = omega arith
sums_rise f [] zero (suc k) le = omega arith
sums_rise f [] (suc j) zero le = absurd (omega arith)
sums_rise f [] (suc j) (suc k) le = omega arith
sums_rise f (row ∷ rows) zero k le = omega arith
sums_rise f (row ∷ rows) (suc j) zero le = absurd (omega arith)
sums_rise f (row ∷ rows) (suc j) (suc k) le = omega (arith, sums_rise f rows j k (omega arith), sum_by-cons f row (take j rows), sum_by-cons f row (take k rows))

-- the trees below a number are empty
abbrev pub EmptyTreesBelow : Rows → ℕ → List ℕ → Type 0
EmptyTreesBelow table n image = (tree : ℕ) (row : TreeRow) → tree < n → slice_get table.trees tree ≡ Some row → IsFreshTree row (512 * tree_start table tree) image

-- the logbooks below a number are empty
abbrev pub EmptyLogbooksBelow : Rows → ℕ → List ℕ → Type 0
EmptyLogbooksBelow table n image = (logbook : ℕ) (row : LogbookRow) → logbook < n → slice_get table.logbooks logbook ≡ Some row → IsFreshLogbook row (512 * logbook_start table logbook) image

-- one tree more
pub one_tree_more : (table : Rows) (n : ℕ) (row : TreeRow) (long : ℕ) (old new : List ℕ) → slice_get table.trees n ≡ Some row → EmptyTreesBelow table n old → SameElsewhere (512 * tree_start table n) long old new
    → IsFreshTree row (512 * tree_start table n) new → EmptyTreesBelow table (n + 1) new
one_tree_more table n row long old new is below same here tree other low found = ⊎_elim
    (λ less. let next = tree_start-next table tree other found in
    let rises : tree_start table (tree + 1) ≤ tree_start table n = omega (arith, sums_rise tree_blocks table.trees (tree + 1) n (omega (arith, less))) in
    fresh_tree_stays other (512 * tree_start table tree) old new (λ k from to. same.below k (omega (arith, to, next, rises))) (below tree other less found))
    (λ past. let last : tree ≡ n = omega (arith, past, low) in
    let found_here : slice_get table.trees n ≡ Some other = subst (λ t. slice_get table.trees t ≡ Some other) last found in
    let same_row : row ≡ other = let both : Some row ≡ Some other = sym is ∙ found_here in cc in
    subst (λ t. IsFreshTree other (512 * tree_start table t) new) (sym last) (subst (λ r. IsFreshTree r (512 * tree_start table n) new) same_row here))
    (cases_lt tree n)

pub one_logbook_more : (table : Rows) (n : ℕ) (row : LogbookRow) (long : ℕ) (old new : List ℕ) → slice_get table.logbooks n ≡ Some row → EmptyLogbooksBelow table n old → SameElsewhere (512 * logbook_start table n) long old new
    → IsFreshLogbook row (512 * logbook_start table n) new → EmptyLogbooksBelow table (n + 1) new
one_logbook_more table n row long old new is below same here logbook other low found = ⊎_elim
    (λ less. let next = logbook_start-next table logbook other found in
    let rises : logbook_start table (logbook + 1) ≤ logbook_start table n = omega (arith, sums_rise logbook_blocks table.logbooks (logbook + 1) n (omega (arith, less))) in
    fresh_logbook_stays other (512 * logbook_start table logbook) old new (λ k from to. same.below k (omega (arith, to, next, rises))) (below logbook other less found))
    (λ past. let last : logbook ≡ n = omega (arith, past, low) in
    let found_here : slice_get table.logbooks n ≡ Some other = subst (λ t. slice_get table.logbooks t ≡ Some other) last found in
    let same_row : row ≡ other = let both : Some row ≡ Some other = sym is ∙ found_here in cc in
    subst (λ t. IsFreshLogbook other (512 * logbook_start table t) new) (sym last) (subst (λ r. IsFreshLogbook r (512 * logbook_start table n) new) same_row here))
    (cases_lt logbook n)

-- the front of a buffer
pub length-front : (n : ℕ) (xs : List ℕ) → n ≤ length xs → length (take n xs) ≡ n
length-front n xs fits = search (rules, places)

-- where the slots of a tree stand, and those of a logbook
pub tree_fits : (table : Rows) (tree : ℕ) (row : TreeRow) (size : ℕ) → slice_get table.trees tree ≡ Some row → 512 * layout_blocks table ≤ size → 512 * tree_start table tree + 1024 * slot_blocks row ≤ size
tree_fits table tree row size found fits = omega (arith, tree_within table tree row found, fits)

pub logbook_fits : (table : Rows) (logbook : ℕ) (row : LogbookRow) (size : ℕ) → slice_get table.logbooks logbook ≡ Some row → 512 * layout_blocks table ≤ size → 512 * logbook_start table logbook + 512 * logbook_blocks row ≤ size
logbook_fits table logbook row size found fits = omega (arith, logbook_within table logbook row found, fits)

-- one tree more is written
pub tree_changes : (V K : Type 0) (table : Rows) (tree at long : ℕ) (row : TreeRow) (o m e : Outside) → Sound V K m → slice_get table.trees tree ≡ Some row → at ≡ 512 * tree_start table tree → long ≡ 1024 * slot_blocks row
    → ChangesOnly V 16896 (512 * sum_by tree_blocks table.trees) o m → ChangesOnly V at long m e → ChangesOnly V 16896 (512 * sum_by tree_blocks table.trees) o e
tree_changes V K table tree at long row o m e sound found is_at is_long before now =
    changes_then V K 16896 (512 * sum_by tree_blocks table.trees) o m e sound before
    (changes_wider V at long 16896 (512 * sum_by tree_blocks table.trees) m e (omega (arith, is_at)) (omega (arith, is_at, is_long, tree_within table tree row found)) now)

pub tree_empties : (V : Type 0) (table : Rows) (tree at long : ℕ) (row : TreeRow) (m e : Outside) → slice_get table.trees tree ≡ Some row → at ≡ 512 * tree_start table tree
    → (V → EmptyTreesBelow table tree m.view) → ChangesOnly V at long m e → (V → IsFreshTree row at e.view) → V → EmptyTreesBelow table (tree + 1) e.view
tree_empties V table tree at long row m e found is_at below now here tells =
    one_tree_more table tree row long m.view e.view found (below tells)
    (subst (λ k. SameElsewhere k long m.view e.view) is_at (now.view tells)) (subst (λ k. IsFreshTree row k e.view) is_at (here tells))

-- one logbook more is written
pub logbook_changes : (V K : Type 0) (table : Rows) (logbook at long : ℕ) (row : LogbookRow) (o m e : Outside) → Sound V K m → slice_get table.logbooks logbook ≡ Some row → at ≡ 512 * logbook_start table logbook → long ≡ 512 * logbook_blocks row
    → ChangesOnly V (512 * logbook_start table 0) (512 * sum_by logbook_blocks table.logbooks) o m → ChangesOnly V at long m e → ChangesOnly V (512 * logbook_start table 0) (512 * sum_by logbook_blocks table.logbooks) o e
logbook_changes V K table logbook at long row o m e sound found is_at is_long before now =
    changes_then V K (512 * logbook_start table 0) (512 * sum_by logbook_blocks table.logbooks) o m e sound before
    (changes_wider V at long (512 * logbook_start table 0) (512 * sum_by logbook_blocks table.logbooks) m e (omega (arith, is_at)) (omega (arith, is_at, is_long, logbook_within table logbook row found)) now)

pub logbook_empties : (V : Type 0) (table : Rows) (logbook at long : ℕ) (row : LogbookRow) (m e : Outside) → slice_get table.logbooks logbook ≡ Some row → at ≡ 512 * logbook_start table logbook
    → (V → EmptyLogbooksBelow table logbook m.view) → ChangesOnly V at long m e → (V → IsFreshLogbook row at e.view) → V → EmptyLogbooksBelow table (logbook + 1) e.view
logbook_empties V table logbook at long row m e found is_at below now here tells =
    one_logbook_more table logbook row long m.view e.view found (below tells)
    (subst (λ k. SameElsewhere k long m.view e.view) is_at (now.view tells)) (subst (λ k. IsFreshLogbook row k e.view) is_at (here tells))

-- the superblock is written, then the trees, then the logbooks
module _ (V K : Type 0) (table : Rows) where
  abbrev pub metadata_long : ℕ
  metadata_long = 512 * (layout_blocks table - 1)

  pub first_change : (o m : Outside) → ChangesOnly V 512 16384 o m → ChangesOnly V 512 metadata_long o m
  first_change o m run = changes_wider V 512 16384 512 metadata_long o m (omega arith) (omega arith) run

  pub second_change : (o m e : Outside) → Sound V K m → ChangesOnly V 512 metadata_long o m → ChangesOnly V 16896 (512 * sum_by tree_blocks table.trees) m e → ChangesOnly V 512 metadata_long o e
  second_change o m e sound before run = changes_then V K 512 metadata_long o m e sound before
      (changes_wider V 16896 (512 * sum_by tree_blocks table.trees) 512 metadata_long m e (omega arith) (omega arith) run)

  pub third_change : (o m e : Outside) → Sound V K m → ChangesOnly V 512 metadata_long o m → ChangesOnly V (512 * logbook_start table 0) (512 * sum_by logbook_blocks table.logbooks) m e → ChangesOnly V 512 metadata_long o e
  third_change o m e sound before run = changes_then V K 512 metadata_long o m e sound before
      (changes_wider V (512 * logbook_start table 0) (512 * sum_by logbook_blocks table.logbooks) 512 metadata_long m e (omega arith) (omega arith) run)

-- all parts are there
pub parts_written : (table : Rows) (bytes a b c : List ℕ) → bytes ≡ wanted_superblock table → length bytes ≤ 16384 → HasSuperblock bytes a → SameElsewhere 16896 (512 * sum_by tree_blocks table.trees) a b → HasEmptyTrees table b
    → SameElsewhere (512 * logbook_start table 0) (512 * sum_by logbook_blocks table.logbooks) b c → HasEmptyLogbooks table c → HasEmptyParts table c
parts_written table bytes a b c is short superblock first trees second logbooks = record {
  short = omega (arith, short, ap length is);
  superblock = subst (λ l. HasSuperblock l c) is (λ k low. second.below (512 + k) (omega (arith, low)) ∙ first.below (512 + k) (omega (arith, low)) ∙ superblock k low);
  trees = λ tree row found. fresh_tree_stays row (512 * tree_start table tree) b c (λ k low high. second.below k (omega (arith, high, tree_within table tree row found))) (trees tree row found);
  logbooks = logbooks;
}
