-- A tree whose files have their durable contents is in step with all that is kept of it.
use Rattle.std.proofs.Common.{◌≡◌, inl, inr, ℕ, zero, suc, ◌+◌, ◌≤◌, true, false, List, [], ◌∷◌, length, replicate, refl, sym, ap, subst, ◌∙◌, Option, None, IsSome, arith}
use Rattle.std.specs.Prelude.{unwrap_or, slice_index_or}
use Rattle.std.specs.List.{position_from}
use Rattle.std.proofs.lemmas.Bool.{cases_lt}
use Rattle.std.proofs.lemmas.Bool.Decides.{nat_tests}
use Rattle.std.proofs.lemmas.Iterator.Adapters.{position_from-zero}
use Rattle.apex_types.specs.declared.numbers.FileNode.{FileNode}
use Rattle.apex_types.specs.declared.rows.TreeRow.{TreeRow}
use Rattle.apex_model.specs.Files.{blocks_of}
use Rattle.apex_model.specs.Image.{joined}
use Rattle.block_pool.specs.Buffers.{Buffers, holds_block, node_of}
use Rattle.block_quota.specs.Blocks.{is_used}
use Rattle.block_quota.specs.Quota.{charge_of}
use Rattle.file_tree.specs.Entries.{slot, stored_of}
use Rattle.tree_region.specs.OwnedRows.{AreApart, AreNamedUsed, is_new, number_at}
use Rattle.present_files.proofs.Rooms.{content-stored}
use Rattle.present_files.specs.Present.{IsPresent, never_changed, row_length, size_in}
use Rattle.present_files.specs.declared.present.PresentSize.{PresentSize}
use Rattle.rig_core.specs.Outside.{Outside}
use Rattle.tree_region.specs.InStep.{InStep, data_at}
use Rattle.tree_region.specs.GoodNumbers.{size_blocks}
use Rattle.tree_region.specs.Region.{stored_file}
use Rattle.tree_state.specs.State.{IsState}
use Rattle.tree_state.specs.Stored.{present_file}
use Rattle.tree_state.specs.declared.state.TreeState.{TreeState}
use Rattle.tree_state.specs.Mounted.{IsFresh, stored_size}

-- ---- lists

behind : {A : Type 0} (xs : List A) (d : A) (k : ℕ) → length xs ≤ k → slice_index_or xs k d ≡ d
behind [] d k far = refl
behind (x ∷ xs) d zero far = absurd (let e : suc (length xs) ≤ 0 = far in omega (arith, e))
behind (x ∷ xs) d (suc k) far = behind xs d k (let e : suc (length xs) ≤ suc k = far in omega (arith, e))

not-new : (n : ℕ) → is_new n n ≡ false
not-new n = grind (arith, nat_tests)

held-none : (f : FileNode) (k n i : ℕ) → position_from (holds_block f k) i (replicate n None) ≡ None
held-none f k zero i = refl
held-none f k (suc n) i = held-none f k n (i + 1)

-- ---- what is kept

module _ (V : Type 0) (row : TreeRow) (at : ℕ) (o : Outside) (s : TreeState) (step : InStep V row at o s.kept) (ends : (f k : ℕ) → size_blocks s.kept.tree f ≤ k → number_at s.kept.table.files.items f k ≡ 0) (fresh : IsFresh row s) where
  abbrev rows : List (List ℕ)
  rows = s.kept.table.files.items

  number-is : (f k : ℕ) → number_at s.present.numbers.items f k ≡ number_at rows f k
  number-is f k = ap (λ (ns : List (List ℕ)). number_at ns f k) fresh.present.numbers

  no-node : (f : FileNode) (k : ℕ) → node_of s.present.pool f k ≡ None
  no-node f k = ap (λ (b : Buffers). node_of b f k) fresh.present.pool ∙ position_from-zero (holds_block f k) (replicate row.dirty None) ∙ held-none f k row.dirty 0

  -- behind the files there is nothing
  none-stored : (f : ℕ) → row.files ≤ f → stored_of s.kept.tree f ≡ (0, 0)
  none-stored f far = ap (λ (p : Option (ℕ × ℕ)). unwrap_or p (0, 0)) (behind s.kept.tree.stored None f (omega (arith, far, fresh.stored, step.limits.files)))

  none-present : (f : ℕ) → row.files ≤ f → slice_index_or s.present.sizes.items f never_changed ≡ never_changed
  none-present f far = behind s.present.sizes.items never_changed f (omega (arith, far, fresh.present.sizes.many))

  -- of each file the present size is the durable one
  size-is : (f : ℕ) → slice_index_or s.present.sizes.items f never_changed ≡ stored_size s.kept.tree f
  size-is f = elim (cases_lt f row.files) [
    | inl less ↦ fresh.present.sizes.stored f less
    | inr far ↦ none-present f far ∙ sym (ap (λ (p : ℕ × ℕ). let size : PresentSize = record { size = p.0; changes = p.1 } in size) (none-stored f far))
  ]

  blocks-are : (f : ℕ) → blocks_of (size_in s.present.sizes.items f) ≡ size_blocks s.kept.tree f
  blocks-are f = ap (λ (size : PresentSize). blocks_of size.size) (size-is f)

  charge-is : (f : ℕ) → charge_of s.charges f ≡ size_blocks s.kept.tree f
  charge-is f = elim (cases_lt f row.files) [
    | inl less ↦ fresh.charges.before f less
    | inr far ↦ fresh.charges.behind f far ∙ sym (ap (λ (p : ℕ × ℕ). blocks_of p.0) (none-stored f far))
  ]

  unused-nothing : (f : ℕ) → slot s.kept.tree.files f ≡ None → stored_of s.kept.tree f ≡ (0, 0)
  unused-nothing f none = elim (cases_lt f row.files) [ inl less ↦ fresh.present.sizes.unused f less none | inr far ↦ none-stored f far ]

  are-present : IsPresent row s.present
  are-present = record {
    sizes_length = fresh.present.sizes.many;
    numbers_length = ap (λ (ns : List (List ℕ)). length ns) fresh.present.numbers ∙ step.limits.table;
    lists = fresh.present.lists;
    rooms = λ f less. ap (λ (ns : List (List ℕ)). row_length ns f) fresh.present.numbers ∙ step.limits.rooms f less;
    within = λ f k. omega (arith, number-is f k, step.numbers.within f k);
    fits = λ f less. omega (arith, blocks-are f, step.good.fits f less);
    short = λ f less. omega (arith, ap (λ (size : PresentSize). size.size) (size-is f), fresh.present.sizes.short f less);
    behind = λ f k less far. number-is f k ∙ ends f k (omega (arith, blocks-are f, far));
    held = λ f k some. absurd (let wrong : false ≡ true = subst IsSome (no-node f k) some in cc);
  }

  are-used : AreNamedUsed s.kept.table.used s.present.numbers.items
  are-used = record {
    within = λ f k. omega (arith, number-is f k, step.numbers.within f k, step.numbers.marks);
    named = λ f k one. ap (is_used s.kept.table.used) (number-is f k) ∙ step.numbers.numbers f k (omega (arith, number-is f k, one));
  }

  are-apart : AreApart rows s.present.numbers.items
  are-apart = record {
    not_durable = λ f k new. absurd (let wrong : false ≡ true = sym (not-new (number_at rows f k)) ∙ ap (is_new (number_at rows f k)) (sym (number-is f k)) ∙ new in cc);
    once = λ f k g j new same. absurd (let wrong : false ≡ true = sym (not-new (number_at rows f k)) ∙ ap (is_new (number_at rows f k)) (sym (number-is f k)) ∙ new in cc);
  }

  pub state-mounted : IsState V row at o s
  state-mounted = record {
    in_step = step;
    present = are-present;
    used = are-used;
    apart = are-apart;
    zeros = ends;
    charged = record {
      quota = fresh.charges.quota;
      files = fresh.charges.files;
      total_within = fresh.within;
      durable = λ f. omega (arith, charge-is f);
      present = λ f. omega (arith, charge-is f, blocks-are f);
    };
    unused = record {
      size = λ f none. ap (λ (size : PresentSize). size.size) (size-is f) ∙ ap (λ (p : ℕ × ℕ). p.0) (unused-nothing f none);
      changes = λ f none. ap (λ (size : PresentSize). size.changes) (size-is f) ∙ ap (λ (p : ℕ × ℕ). p.1) (unused-nothing f none);
      charge = λ f none. charge-is f ∙ ap (λ (p : ℕ × ℕ). blocks_of p.0) (unused-nothing f none);
    };
    buffers = fresh.present.buffers;
    body = fresh.body;
    tail = fresh.tail;
  }

  -- the present content is the durable one
  pub contents-are : (view : List ℕ) (f : FileNode) → present_file row at view s f ≡ stored_file (data_at row at view) s.kept.tree rows f.0
  contents-are view f =
      let bytes = content-stored (data_at row at view) s.present.numbers.items s.present.pool f (size_in s.present.sizes.items f.0) (no-node f)
      ∙ (λ i. joined (data_at row at view) (slice_index_or (fresh.present.numbers i) f.0 []) (size-is f.0 i).size) in
      λ i. record { content = bytes i; changes = (size-is f.0 i).changes }
