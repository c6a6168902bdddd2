-- What is kept of a tree once a file's present content became its durable one.
use Rattle.std.proofs.Common.{◌≡◌, ◌≢◌, inl, inr, ℕ, ◌<◌, ◌≤◌, Bool, List, [], length, sym, ap, subst, ◌∙◌, arith, get_or-set_same, get_or-set_other, length-set}
use Rattle.std.proofs.lemmas.Bool.{cases_eq, false≢true}
use Rattle.std.proofs.lemmas.List.Sums.{sum_by-set}
use Rattle.std.specs.Prelude.{IsSome, slice_index_or, slice_set}
use Rattle.apex_types.specs.declared.rows.TreeRow.{TreeRow}
use Rattle.apex_model.specs.Files.{blocks_of}
use Rattle.block_pool.specs.Lists.{node_count}
use Rattle.block_quota.specs.Quota.{ChargesValue, charge_of, total, with_charge}
use Rattle.file_tree.specs.Entries.{TreeValue, slot, with_stored}
use Rattle.file_tree.proofs.Changes.{slot-within}
use Rattle.tree_region.specs.OwnedRows.{AreApart, AreNamedUsed}
use Rattle.present_files.specs.Present.{IsPresent, size_in, changes_in}
use Rattle.present_files.specs.declared.present.Present.{Present}
use Rattle.present_files.specs.declared.present.PresentSize.{PresentSize}
use Rattle.rig_core.specs.Outside.{Outside}
use Rattle.tree_region.specs.InStep.{InStep}
use Rattle.tree_region.specs.Rows.{NameUsed}
use Rattle.tree_region.specs.GoodNumbers.{size_blocks, HasGoodNumbers}
use Rattle.tree_state.proofs.Fresh.{apart-stored}
use Rattle.tree_state.proofs.Rows.{with_present}
use Rattle.tree_state.specs.Numbers.{AreZeroBehind}
use Rattle.tree_state.specs.State.{IsState, AreCharged, AreUnusedEmpty}
use Rattle.tree_state.specs.declared.state.TreeState.{TreeState}
use Rattle.tree_state.proofs.Stored.{size-own, size-other, zero-stored, good-stored}

-- ---- charges

module _ (row : TreeRow) (v : TreeValue) (sizes : List PresentSize) (charges : ChargesValue) (charged : AreCharged row v sizes charges) (f0 : ℕ) (file : f0 < row.files) where
  pub charge-there : f0 < length charges.by_file
  charge-there = omega (arith, file, charged.files)

  abbrev blocks : ℕ
  blocks = blocks_of (size_in sizes f0)

  abbrev settled : ChargesValue
  settled = with_charge charges f0 blocks

  charge-own : charge_of settled f0 ≡ blocks
  charge-own = get_or-set_same charges.by_file f0 blocks 0 charge-there

  charge-other : (f : ℕ) → f ≢ f0 → charge_of settled f ≡ charge_of charges f
  charge-other f other = get_or-set_other charges.by_file f0 f blocks 0 other

  -- together the files are charged for no more than before
  less-total : total settled ≤ total charges
  less-total = let sum = sum_by-set (λ (n : ℕ). n) charges.by_file f0 blocks 0 charge-there in omega (arith, sum, charged.present f0)

  module _ (changes : ℕ) (entry : f0 < length v.stored) where
    abbrev stored : TreeValue
    stored = with_stored v f0 (size_in sizes f0) changes

    -- a stored size is charged for
    pub stored-charged : (f : ℕ) → size_blocks stored f ≤ charge_of charges f
    stored-charged f = elim (cases_eq f f0) [
      | inl is ↦
          let own : size_blocks stored f ≡ blocks = ap (size_blocks stored) is ∙ size-own v f0 (size_in sizes f0) changes entry in
          omega (arith, own, charged.present f0, ap (charge_of charges) is)
      | inr other ↦ let same = size-other v f0 (size_in sizes f0) changes f other in omega (arith, same, charged.durable f)
    ]

    -- and still is once the charge is settled
    pub settled-charged : AreCharged row stored sizes settled
    settled-charged = record {
      quota = charged.quota;
      files = length-set charges.by_file f0 blocks ∙ charged.files;
      total_within = omega (arith, less-total, charged.total_within);
      durable = λ f. elim (cases_eq f f0) [
        | inl is ↦
            let own : size_blocks stored f ≡ blocks = ap (size_blocks stored) is ∙ size-own v f0 (size_in sizes f0) changes entry in
            omega (arith, own, charge-own, ap (charge_of settled) is)
        | inr other ↦ let same = size-other v f0 (size_in sizes f0) changes f other in omega (arith, same, charged.durable f, charge-other f other)
      ];
      present = λ f. elim (cases_eq f f0) [
        | inl is ↦ omega (arith, charge-own, ap (charge_of settled) is, ap (λ g. blocks_of (size_in sizes g)) is)
        | inr other ↦ omega (arith, charged.present f, charge-other f other)
      ];
    }

    -- an unused entry has nothing still
    pub settled-unused : IsSome (slot v.files f0) → AreUnusedEmpty v sizes charges → AreUnusedEmpty stored sizes settled
    settled-unused used unused = record {
      size = unused.size;
      changes = unused.changes;
      charge = λ f none. elim (cases_eq f f0) [
        | inl is ↦ absurd (false≢true (subst IsSome none (subst (λ g. IsSome (slot v.files g)) (sym is) used)))
        | inr other ↦ charge-other f other ∙ unused.charge f none
      ];
    }

-- ---- the state

module _ (V : Type 0) (row : TreeRow) (at : ℕ) (o : Outside) (s : TreeState) (is : IsState V row at o s) (f0 : ℕ) (used : IsSome (slot s.kept.tree.files f0)) where
  abbrev size : ℕ
  size = size_in s.present.sizes.items f0

  abbrev changes : ℕ
  changes = changes_in s.present.sizes.items f0

  abbrev durable : List (List ℕ)
  durable = s.kept.table.files.items

  abbrev present : List (List ℕ)
  present = s.present.numbers.items

  -- the file is one of the row's
  pub in-row : f0 < row.files
  in-row = let less = slot-within s.kept.tree.files f0 used in omega (arith, less, is.in_step.limits.files)

  pub numbered : f0 < length durable
  numbered = omega (arith, in-row, is.in_step.limits.table)

  pub present-numbered : f0 < length present
  present-numbered = omega (arith, in-row, is.present.numbers_length)

  pub present-sized : f0 < length s.present.sizes.items
  present-sized = omega (arith, in-row, is.present.sizes_length)

  pub short : size ≤ 1048576
  short = is.present.short f0 in-row

  pub charged-there : f0 < length s.charges.by_file
  charged-there = charge-there row s.kept.tree s.present.sizes.items s.charges is.charged f0 in-row

  -- the blocks of its present numbers are used
  pub named-used : NameUsed row s.kept.table.used (slice_index_or present f0 [])
  named-used = record { within = is.present.within f0; marked = is.used.named f0 }

  module _ (entry : f0 < length s.kept.tree.stored) where
    abbrev tree : TreeValue
    tree = with_stored s.kept.tree f0 size changes

    abbrev numbers : List (List ℕ)
    numbers = with_present durable present f0

    -- the numbers are good ones with its present numbers
    pub good-now : HasGoodNumbers row tree numbers
    good-now =
        good-stored row s.kept.tree durable present f0 size changes s.charges.by_file is.in_step.good is.in_step.limits.table is.zeros is.apart in-row (is.present.rooms f0 in-row) (is.present.within f0) (is.present.fits f0 in-row)
        (λ f file. stored-charged row s.kept.tree s.present.sizes.items s.charges is.charged f0 in-row changes entry f) is.charged.total_within

    -- also where these are known by equations
    pub good-known : (known_size known_changes : ℕ) (list : List ℕ) → known_size ≡ size → known_changes ≡ changes → list ≡ slice_index_or present f0 []
        → HasGoodNumbers row (with_stored s.kept.tree f0 known_size known_changes) (slice_set durable f0 list)
    good-known known_size known_changes list size_is changes_is list_is =
        subst (λ (n : ℕ). HasGoodNumbers row (with_stored s.kept.tree f0 n known_changes) (slice_set durable f0 list)) (sym size_is)
        (subst (λ (n : ℕ). HasGoodNumbers row (with_stored s.kept.tree f0 size n) (slice_set durable f0 list)) (sym changes_is)
        (subst (λ (ns : List ℕ). HasGoodNumbers row tree (slice_set durable f0 ns)) (sym list_is) good-now))

    -- behind its size they are 0
    zeros-now : AreZeroBehind tree numbers
    zeros-now = zero-stored s.kept.tree durable present f0 size changes numbered entry is.zeros (λ k past. is.present.behind f0 k in-row past)

    -- the state in which they are durable
    pub new-state : (e : Outside) (new : TreeState) → InStep V row at e new.kept → new.kept.tree ≡ tree → new.kept.table.files.items ≡ numbers → new.kept.table.used ≡ s.kept.table.used → new.present ≡ s.present
        → new.charges ≡ with_charge s.charges f0 (blocks_of size) → length new.body.items ≡ length s.body.items → new.tail.items ≡ s.tail.items → IsState V row at e new
    new-state e new step tree_is files_are marks present_is charges_are body_long tail_is =
        let held : IsPresent row new.present = subst (λ (p : Present). IsPresent row p) (sym present_is) is.present in
        let sizes_are : new.present.sizes.items ≡ s.present.sizes.items = ap (λ (p : Present). p.sizes.items) present_is in
        let numbers_are : new.present.numbers.items ≡ present = ap (λ (p : Present). p.numbers.items) present_is in
        let named : AreNamedUsed new.kept.table.used new.present.numbers.items
        = subst (λ (marked : List Bool). AreNamedUsed marked new.present.numbers.items) (sym marks) (subst (λ (rows : List (List ℕ)). AreNamedUsed s.kept.table.used rows) (sym numbers_are) is.used) in
        let fresh : AreApart new.kept.table.files.items new.present.numbers.items
        = subst (λ (rows : List (List ℕ)). AreApart rows new.present.numbers.items) (sym files_are) (subst (λ (rows : List (List ℕ)). AreApart numbers rows) (sym numbers_are) (apart-stored durable present f0 is.apart)) in
        let behind : AreZeroBehind new.kept.tree new.kept.table.files.items
        = subst (λ (v : TreeValue). AreZeroBehind v new.kept.table.files.items) (sym tree_is) (subst (λ (rows : List (List ℕ)). AreZeroBehind tree rows) (sym files_are) zeros-now) in
        let paid : AreCharged row new.kept.tree new.present.sizes.items new.charges
        = subst (λ (v : TreeValue). AreCharged row v new.present.sizes.items new.charges) (sym tree_is)
        (subst (λ (sizes : List PresentSize). AreCharged row tree sizes new.charges) (sym sizes_are)
        (subst (λ (charges : ChargesValue). AreCharged row tree s.present.sizes.items charges) (sym charges_are)
        (settled-charged row s.kept.tree s.present.sizes.items s.charges is.charged f0 in-row changes entry))) in
        let empty : AreUnusedEmpty new.kept.tree new.present.sizes.items new.charges
        = subst (λ (v : TreeValue). AreUnusedEmpty v new.present.sizes.items new.charges) (sym tree_is)
        (subst (λ (sizes : List PresentSize). AreUnusedEmpty tree sizes new.charges) (sym sizes_are)
        (subst (λ (charges : ChargesValue). AreUnusedEmpty tree s.present.sizes.items charges) (sym charges_are)
        (settled-unused row s.kept.tree s.present.sizes.items s.charges is.charged f0 in-row changes entry used is.unused))) in
        record {
          in_step = step;
          present = held;
          used = named;
          apart = fresh;
          zeros = behind;
          charged = paid;
          unused = empty;
          buffers = ap (λ (p : Present). node_count p.pool.lists) present_is ∙ is.buffers;
          body = body_long ∙ is.body;
          tail = tail_is ∙ is.tail;
        }
