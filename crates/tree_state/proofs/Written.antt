-- What holds once a block of a file was written to a data block of its own.
use Rattle.std.proofs.Common.{◌≡◌, ◌≢◌, ℕ, ◌+◌, ◌*◌, ◌<◌, ◌≤◌, List, [], length, set, take, sym, ap, ◌∙◌, subst, ⊎_elim, arith, length-set}
use Rattle.std.specs.Prelude.{IsSome, slice_index_or}
use Rattle.apex_types.specs.declared.numbers.FileNode.{FileNode}
use Rattle.apex_types.specs.declared.rows.TreeRow.{TreeRow}
use Rattle.apex_model.specs.Files.{blocks_of}
use Rattle.apex_model.specs.Image.{data_block, tree_of_region}
use Rattle.block_pool.specs.Buffers.{Buffers}
use Rattle.block_pool.specs.Lists.{node_count}
use Rattle.block_quota.specs.Quota.{ChargesValue}
use Rattle.file_tree.specs.Entries.{TreeValue}
use Rattle.tree_region.specs.OwnedRows.{AreApart, AreNamedUsed, AreOthers, number_at, with_number}
use Rattle.tree_region.proofs.Owned.{all-with, at-other}
use Rattle.present_files.specs.Nodes.{OthersStay, held_or}
use Rattle.present_files.specs.Present.{ArePresent, free_buffers, row_length, size_in}
use Rattle.present_files.specs.declared.present.PresentSize.{PresentSize}
use Rattle.present_files.proofs.Rooms.{same-or-other}
use Rattle.rig_core.specs.Bytes.{SameElsewhere}
use Rattle.rig_core.specs.Leaves.{LeavesElsewhere}
use Rattle.rig_core.specs.Outside.{Outside, Later, MakesAtMost}
use Rattle.rig_core.proofs.Moments.{elsewhere_wider, leaves_elsewhere_wider}
use Rattle.tree_region.specs.InStep.{InStep, SameNamed, block_place, data_at, slots_long}
use Rattle.tree_region.proofs.Spelled.{over-same}
use Rattle.tree_region.specs.GoodNumbers.{size_blocks}
use Rattle.tree_region.specs.Region.{region_at, tree_over}
use Rattle.tree_state.specs.State.{AreCharged, AreUnusedEmpty, IsState}
use Rattle.tree_state.specs.Stored.{KeepsFiles, durable_tree}
use Rattle.tree_state.specs.declared.state.TreeState.{TreeState}
use Rattle.present_files.specs.Durable.{KeepsDurable, KeepsTree}
use Rattle.tree_state.specs.Writes.{WritesBack, held_count}
use Rattle.tree_state.proofs.Contents.{room-kept, rows-kept}

-- sizes, numbers and buffers, where a block of a file has another number and perhaps no buffer any more
present-written : (row : TreeRow) (sizes : List PresentSize) (numbers now : List (List ℕ)) (b c : Buffers) (f : FileNode) (k n : ℕ) → ArePresent row sizes numbers b → f.0 < row.files → k < blocks_of (size_in sizes f.0)
    → k < row_length numbers f.0 → now ≡ with_number numbers f.0 k n → n ≤ 2 * row.quota → OthersStay f k b c → ArePresent row sizes now c
present-written row sizes numbers now b c f k n are file low place placed last others =
    let within : f.0 < length numbers = omega (arith, file, are.numbers_length) in
    let rows : (g : ℕ) → row_length now g ≡ row_length numbers g = λ g. ap (λ (rows : List (List ℕ)). row_length rows g) placed ∙ rows-kept numbers f.0 k n within g in
    record {
      sizes_length = are.sizes_length;
      numbers_length = ap (λ (rows : List (List ℕ)). length rows) placed ∙ length-set numbers f.0 (set (slice_index_or numbers f.0 []) k n) ∙ are.numbers_length;
      lists = others.lists ∙ are.lists;
      rooms = λ g in_files. rows g ∙ are.rooms g in_files;
      within = λ g j. subst (λ (rows : List (List ℕ)). number_at rows g j ≤ 2 * row.quota) (sym placed) (all-with numbers f.0 k n within place (λ m. m ≤ 2 * row.quota) last are.within g j);
      fits = are.fits;
      short = are.short;
      behind = λ g j in_files far.
          ap (λ (rows : List (List ℕ)). number_at rows g j) placed
          ∙ at-other numbers f.0 k n within place g j (λ both. let size = ap (λ (h : ℕ). blocks_of (size_in sizes h)) both.0 in omega (arith, both.1, size, far, low))
          ∙ are.behind g j in_files far;
      held = λ g j some.
          ⊎_elim
          (λ (same : (g.0 ≡ f.0) × (j ≡ k)).
          let size = ap (λ (h : ℕ). blocks_of (size_in sizes h)) same.0 in
          (omega (arith, same.0, file), omega (arith, same.1, low, size)))
          (λ other. are.held g j (subst IsSome (others.nodes g j other) some))
          (same-or-other f k g j);
    }

-- Block k of file f was written to data block n, perhaps with a fault, and its buffer may be free. The present numbers are these rows then.
pub record WritesBlock (tells_view : Type 0) (row : TreeRow) (at : ℕ) (o e : Outside) (old new : TreeState) (f : FileNode) (k n : ℕ) (rows : List (List ℕ)) : Type 0 where
  pub kept : KeepsDurable old.kept new.kept
  pub files : KeepsFiles old new
  pub body : new.body ≡ old.body
  pub tail : new.tail ≡ old.tail
  pub in_step : InStep tells_view row at e new.kept
  -- the number is the block's own
  pub numbers : new.present.numbers.items ≡ rows
  pub placed : rows ≡ with_number old.present.numbers.items f.0 k n
  pub first : 1 ≤ n
  pub last : n ≤ 2 * row.quota
  pub not_durable : AreOthers n old.kept.table.files.items
  pub once : (g j : ℕ) → number_at rows g j ≡ n → (g ≡ f.0) × (j ≡ k)
  pub apart : AreApart old.kept.table.files.items rows
  pub used : AreNamedUsed new.kept.table.used rows
  -- other buffers stay
  pub others : OthersStay f k old.present.pool new.present.pool
  pub nodes : node_count new.present.pool.lists ≡ node_count old.present.pool.lists
  pub fewer : (g : ℕ) → held_count new g ≤ held_count old g
  pub more : free_buffers old.present ≤ free_buffers new.present
  -- the region, and its data blocks
  pub any_moment : KeepsTree row at o e
  pub tree : tells_view → tree_of_region row (region_at row at e.view) ≡ tree_of_region row (region_at row at o.view)
  pub here : tells_view → held_or new.present.pool (data_block (data_at row at e.view) n) f k ≡ held_or old.present.pool (data_block (data_at row at o.view) (number_at old.present.numbers.items f.0 k)) f k
  pub blocks : tells_view → (m : ℕ) → m ≢ n → data_block (data_at row at e.view) m ≡ data_block (data_at row at o.view) m
  pub outside : LeavesElsewhere (block_place row at n) 512 o e
  pub outside_view : tells_view → SameElsewhere (block_place row at n) 512 o.view e.view
  pub later : Later o e
  pub made : MakesAtMost 1 0 0 o e

module _ (V : Type 0) (row : TreeRow) (at : ℕ) (o e : Outside) (old new : TreeState) (f : FileNode) (k n : ℕ) (rows : List (List ℕ)) (is : IsState V row at o old) (file : f.0 < row.files) (low : k < blocks_of (size_in old.present.sizes.items f.0))
    (writes : WritesBlock V row at o e old new f k n rows) where
  in_numbers : f.0 < length old.present.numbers.items
  in_numbers = omega (arith, file, is.present.numbers_length)

  in_row : k < row_length old.present.numbers.items f.0
  in_row = omega (arith, low, is.present.fits f.0 file, is.present.rooms f.0 file)

  sizes-same : new.present.sizes.items ≡ old.present.sizes.items
  sizes-same = λ i. (writes.files.sizes i).items

  rows-same : new.kept.table.files.items ≡ old.kept.table.files.items
  rows-same = λ i. (writes.kept.files i).items

  -- what is said of names, sizes and charges
  of-files : (P : TreeValue → List PresentSize → ChargesValue → Type 0) → P old.kept.tree old.present.sizes.items old.charges → P new.kept.tree new.present.sizes.items new.charges
  of-files P was =
      subst (λ (v : TreeValue). P v new.present.sizes.items new.charges) (sym writes.kept.tree)
      (subst (λ (sizes : List PresentSize). P old.kept.tree sizes new.charges) (sym sizes-same)
      (subst (λ (charges : ChargesValue). P old.kept.tree old.present.sizes.items charges) (sym writes.files.charges) was))

  state-after : IsState V row at e new
  state-after = record {
    in_step = writes.in_step;
    present = subst (λ (sizes : List PresentSize). ArePresent row sizes new.present.numbers.items new.present.pool) (sym sizes-same)
        (present-written row old.present.sizes.items old.present.numbers.items new.present.numbers.items old.present.pool new.present.pool f k n is.present file low in_row (writes.numbers ∙ writes.placed) writes.last writes.others);
    used = subst (λ (ns : List (List ℕ)). AreNamedUsed new.kept.table.used ns) (sym writes.numbers) writes.used;
    apart = subst (λ (ns : List (List ℕ)). AreApart new.kept.table.files.items ns) (sym writes.numbers) (subst (λ (ns : List (List ℕ)). AreApart ns rows) (sym rows-same) writes.apart);
    zeros = λ g j far. ap (λ (ns : List (List ℕ)). number_at ns g j) rows-same ∙ is.zeros g j (subst (λ (v : TreeValue). size_blocks v g ≤ j) writes.kept.tree far);
    charged = of-files (AreCharged row) is.charged;
    unused = of-files AreUnusedEmpty is.unused;
    buffers = writes.nodes ∙ is.buffers;
    body = (λ i. length (writes.body i).items) ∙ is.body;
    tail = (λ i. (writes.tail i).items) ∙ is.tail;
  }

  named-same : V → SameNamed old.kept.table.files.items (data_at row at o.view) (data_at row at e.view)
  named-same tells = λ g j. writes.blocks tells (number_at old.kept.table.files.items g j) (writes.not_durable g j)

  durable-same : V → durable_tree row at e.view new ≡ durable_tree row at o.view old
  durable-same tells =
      (λ i. tree_over (data_at row at e.view) (writes.kept.tree i) (rows-same i))
      ∙ over-same old.kept.table.files.items (data_at row at o.view) (data_at row at e.view) (named-same tells) old.kept.tree

  -- a block was written back
  pub wrote : free_buffers old.present + 1 ≤ row.dirty → WritesBack V row at o e old new
  wrote room = record {
    any_moment = writes.any_moment;
    tree = writes.tree;
    state = state-after;
    kept = writes.kept;
    files = writes.files;
    durable = durable-same;
    contents = λ tells g.
        let bytes = room-kept (data_at row at o.view) (data_at row at e.view) old.present.numbers.items new.present.numbers.items old.present.pool new.present.pool f k n in_numbers in_row (writes.numbers ∙ writes.placed)
        (λ h j same. writes.once h j (ap (λ (ns : List (List ℕ)). number_at ns h j) (sym writes.numbers) ∙ same)) (writes.blocks tells) writes.others (writes.here tells) g in
        (λ i. take (size_in (sizes-same i) g.0) (bytes i));
    fewer = writes.fewer;
    more = writes.more;
    outside = leaves_elsewhere_wider (block_place row at n) 512 (at + slots_long row) (1024 * row.quota) o e (omega (arith, writes.first)) (omega (arith, writes.first, writes.last)) writes.outside;
    outside_view = λ tells. elsewhere_wider (block_place row at n) 512 (at + slots_long row) (1024 * row.quota) o.view e.view (omega (arith, writes.first)) (omega (arith, writes.first, writes.last)) (writes.outside_view tells);
    later = writes.later;
    made = record { writes = omega (arith, writes.made.writes, room); syncs = omega (arith, writes.made.syncs); tells = omega (arith, writes.made.tells) };
  }
