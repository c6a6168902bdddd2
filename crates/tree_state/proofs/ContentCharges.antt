-- What files are charged for, once one of them has another size.
use Rattle.std.proofs.Common.{◌≡◌, ◌≢◌, inl, inr, ℕ, ◌<◌, ◌≤◌, max, List, length, sym, ap, subst, ◌∙◌, arith, get_or-set_same, get_or-set_other, length-set}
use Rattle.std.proofs.lemmas.Bool.{cases_eq, false≢true}
use Rattle.std.proofs.lemmas.List.Sums.{get_or-le-sum_by}
use Rattle.std.specs.Prelude.{None, IsSome, slice_index_or, slice_set}
use Rattle.apex_types.specs.declared.rows.TreeRow.{TreeRow}
use Rattle.apex_model.specs.Files.{blocks_of}
use Rattle.block_quota.specs.Quota.{ChargesValue, charge_of, raised_to, total}
use Rattle.file_tree.specs.Entries.{TreeValue, slot}
use Rattle.present_files.specs.Present.{never_changed, size_in}
use Rattle.present_files.specs.declared.present.PresentSize.{PresentSize}
use Rattle.tree_region.specs.Numbers.{most_blocks}
use Rattle.tree_state.specs.State.{AreCharged, AreUnusedEmpty}
use Rattle.tree_state.proofs.Rows.{set-either}

module _ (row : TreeRow) (v : TreeValue) (sizes : List PresentSize) (charges : ChargesValue) (charged : AreCharged row v sizes charges) (f0 size : ℕ) (file : f0 < row.files)
    (room : total (raised_to charges f0 (blocks_of size)) ≤ charges.quota) where
  abbrev raised : ChargesValue
  raised = raised_to charges f0 (blocks_of size)

  there : f0 < length charges.by_file
  there = omega (arith, file, charged.files)

  raised-own : charge_of raised f0 ≡ max (charge_of charges f0) (blocks_of size)
  raised-own = get_or-set_same charges.by_file f0 (max (charge_of charges f0) (blocks_of size)) 0 there

  raised-other : (f : ℕ) → f ≢ f0 → charge_of raised f ≡ charge_of charges f
  raised-other f other = get_or-set_other charges.by_file f0 f (max (charge_of charges f0) (blocks_of size)) 0 other

  -- no file is charged for less
  no-less : (f : ℕ) → charge_of charges f ≤ charge_of raised f
  no-less f = elim (cases_eq f f0) [
    | inl is ↦ omega (arith, raised-own, ap (charge_of raised) is, ap (charge_of charges) is)
    | inr other ↦ omega (arith, raised-other f other)
  ]

  -- the size has no more blocks than a file may have
  pub few-blocks : size ≤ 1048576 → blocks_of size ≤ most_blocks row
  few-blocks few =
      let all = get_or-le-sum_by (λ (n : ℕ). n) raised.by_file f0 0 (omega (arith, there, length-set charges.by_file f0 (max (charge_of charges f0) (blocks_of size)))) in
      omega (arith, few, all, raised-own, room, charged.quota)

  module _ (changes : ℕ) where
    abbrev now_sizes : List PresentSize
    now_sizes = slice_set sizes f0 (record { size = size; changes = changes })

    pub charged-now : AreCharged row v now_sizes raised
    charged-now = record {
      quota = charged.quota;
      files = length-set charges.by_file f0 (max (charge_of charges f0) (blocks_of size)) ∙ charged.files;
      total_within = omega (arith, room, charged.quota);
      durable = λ f. omega (arith, charged.durable f, no-less f);
      present = λ f. elim (set-either sizes f0 (record { size = size; changes = changes }) never_changed f) [
        | inl same ↦
            let size_is : size_in now_sizes f ≡ size_in sizes f = ap (λ (p : PresentSize). p.size) same in
            omega (arith, size_is, charged.present f, no-less f)
        | inr own ↦
            let size_is : size_in now_sizes f ≡ size = ap (λ (p : PresentSize). p.size) own.1 in
            omega (arith, size_is, raised-own, ap (charge_of raised) own.0)
      ];
    }

    -- entries that no file uses have nothing still
    pub unused-now : IsSome (slot v.files f0) → AreUnusedEmpty v sizes charges → AreUnusedEmpty v now_sizes raised
    unused-now used unused =
        let other : (f : ℕ) → slot v.files f ≡ None → f ≢ f0 = λ f none is. false≢true (subst IsSome none (subst (λ g. IsSome (slot v.files g)) (sym is) used)) in
        let same : (f : ℕ) → slot v.files f ≡ None → slice_index_or now_sizes f never_changed ≡ slice_index_or sizes f never_changed
        = λ f none. get_or-set_other sizes f0 f (record { size = size; changes = changes }) never_changed (other f none) in
        record {
          size = λ f none. ap (λ (p : PresentSize). p.size) (same f none) ∙ unused.size f none;
          changes = λ f none. ap (λ (p : PresentSize). p.changes) (same f none) ∙ unused.changes f none;
          charge = λ f none. raised-other f (other f none) ∙ unused.charge f none;
        }
